use Rattle.std.proofs.Common.{◌∷◌}
use Rattle.world_face.specs.Journal.{Close}
use Rattle.spec_flows.proofs.Laws.{closed_for_cause}
use Rattle.spec_run.proofs.KeepingFlows.{keeps_flows}
use Rattle.spec_run.proofs.flows.flows_are_closed_for_a_cause.Goals as goal

pub returns : goal.returns
returns c = λ config past socket f lawful found. closed_for_cause config past socket f (keeps_flows config (Close socket ∷ past) lawful) found
