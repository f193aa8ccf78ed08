use Rattle.spec_flows.proofs.Laws.{found_room}
use Rattle.spec_flows.proofs.acknowledged_octets_found_room.Goals as goal

pub returns : goal.returns
returns c = found_room
