use Rattle.spec_duties.proofs.Laws.{at_wait, goes_again_in_time}
use Rattle.spec_duties.proofs.what_is_under_way_goes_again_within_a_minute.Goals as goal

pub returns : goal.returns
returns c = λ config later past wants timeout answer ready socket f dutiful free found. goes_again_in_time config past wants timeout socket f
    (at_wait config later past wants timeout answer ready dutiful) free found
