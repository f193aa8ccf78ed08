use Rattle.spec_flow.proofs.FoundRoom.{acknowledged_has_room}
use Rattle.spec_flow.proofs.acknowledged_octets_found_room.Goals as goal

pub returns : goal.returns
returns c = acknowledged_has_room
