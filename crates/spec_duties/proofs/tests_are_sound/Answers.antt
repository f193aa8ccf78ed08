use Rattle.spec_duties.proofs.Checks.{is_sound}
use Rattle.spec_duties.proofs.tests_are_sound.Goals as goal

pub returns : goal.returns
returns c = is_sound
