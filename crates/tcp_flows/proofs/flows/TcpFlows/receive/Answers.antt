use Rattle.std.proofs.Common.{inl, inr, refl}
use Rattle.world_face.proofs.Telling.{makes_as, makes_then}
use Rattle.tcp_flows.proofs.Staying.{stays_then}
use Rattle.tcp_flows.proofs.flows.TcpFlows.receive.Goals as goal

pub returns-in-Taken-clause-makes : goal.returns-in-Taken-clause-makes
returns-in-Taken-clause-makes g c = makes_as _ _ _ _ c.in-Taken.ensures.makes (λ made hears. inl (refl, hears))

pub returns-in-Strange-clause-makes : goal.returns-in-Strange-clause-makes
returns-in-Strange-clause-makes g c = makes_as _ _ _ _ c.in-Strange.ensures.makes (λ made hears. inr (inl (refl, hears)))

pub returns-in-Alone-clause-makes : goal.returns-in-Alone-clause-makes
returns-in-Alone-clause-makes g c = makes_then _ _ _ _ _ _ c.in-Alone.ensures.makes c.receive_stray.ensures.makes
    (λ before after hears becomes. inr (inr (record { between = c.take_segment.new.self; before = before; after = after; is = refl; hears = hears; becomes = becomes })))

pub returns-in-Alone-clause-stays : goal.returns-in-Alone-clause-stays
returns-in-Alone-clause-stays g c = λ opened_not. stays_then _ _ _ c.in-Alone.ensures.stays (c.receive_stray.ensures.stays opened_not)
