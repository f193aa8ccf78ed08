use Rattle.spec_duties.proofs.Laws.{at_wait, called_nine_times}
use Rattle.spec_duties.proofs.a_guest_that_says_nothing_is_called_nine_times.Goals as goal

pub returns : goal.returns
returns c = λ config later past wants timeout answer ready socket f dutiful found open_yet. called_nine_times config past wants timeout socket f
    (at_wait config later past wants timeout answer ready dutiful) found open_yet
