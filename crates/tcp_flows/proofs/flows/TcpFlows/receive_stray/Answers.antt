use Rattle.std.proofs.Common.{inr, refl, sym}
use Rattle.world_face.proofs.Telling.{makes_as, makes_one}
use Rattle.tcp_flows.proofs.flows.TcpFlows.receive_stray.Goals as goal

pub returns-in-Crowded-clause-makes : goal.returns-in-Crowded-clause-makes
returns-in-Crowded-clause-makes g c = makes_as _ _ _ _ c.give_way.ensures.makes (λ made gives. inr (sym c.in-Crowded.ensures, gives))

pub returns-in-Done-clause-makes : goal.returns-in-Done-clause-makes
returns-in-Done-clause-makes g c = makes_one _ _ _ _ c.in-Done.ensures (λ fine. (c.in-Connects.to, (sym c.in-Connects.ensures, refl, c.begin.ensures.begins)))

pub returns-in-Failed-clause-makes : goal.returns-in-Failed-clause-makes
returns-in-Failed-clause-makes g c = makes_one _ _ _ _ c.in-Failed.ensures (λ fine. (c.in-Connects.to, (sym c.in-Connects.ensures, refl, refl)))
