use Rattle.std.proofs.Common.{◌∷◌}
use Rattle.world_face.specs.Journal.{TcpRead}
use Rattle.spec_flows.proofs.Laws.{read_asks}
use Rattle.spec_run.proofs.KeepingFlows.{keeps_flows}
use Rattle.spec_run.proofs.flows.reads_ask_for_all_that_there_is_room_for.Goals as goal

pub returns : goal.returns
returns c = λ config past socket asked answer octets f lawful found. read_asks config past socket asked answer octets f (keeps_flows config (TcpRead socket asked answer octets ∷ past) lawful) found
