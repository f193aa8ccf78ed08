use Rattle.spec_duties.proofs.Laws.{asked_in_time, at_wait}
use Rattle.spec_duties.proofs.a_guest_is_asked_again_within_a_minute.Goals as goal

pub returns : goal.returns
returns c = λ config later past wants timeout answer ready socket f dutiful free found. asked_in_time config past wants timeout socket f
    (at_wait config later past wants timeout answer ready dutiful) free found
