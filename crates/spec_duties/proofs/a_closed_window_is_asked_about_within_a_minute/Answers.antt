use Rattle.spec_duties.proofs.Laws.{at_wait, asked_about_in_time}
use Rattle.spec_duties.proofs.a_closed_window_is_asked_about_within_a_minute.Goals as goal

pub returns : goal.returns
returns c = λ config later past wants timeout answer ready socket f dutiful free found waits. asked_about_in_time config past wants timeout socket f
    (at_wait config later past wants timeout answer ready dutiful) free found waits
