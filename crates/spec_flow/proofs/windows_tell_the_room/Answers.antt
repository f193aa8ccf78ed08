use Rattle.spec_flow.proofs.Shifts.{least_shift_is}
use Rattle.spec_flow.proofs.windows_tell_the_room.Goals as goal

pub returns-clause-least : goal.returns-clause-least
returns-clause-least c = λ ring k few low. (least_shift_is ring few).1 k low
