use Rattle.spec_flows.proofs.Laws.{read_asks}
use Rattle.spec_flows.proofs.reads_ask_for_all_that_there_is_room_for.Goals as goal

pub returns : goal.returns
returns c = read_asks
