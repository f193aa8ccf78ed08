use Rattle.taps.proofs.Passing.{just_those}
use Rattle.taps.proofs.laws.just_the_calls_made_are_told.Goals as goal

pub returns : goal.returns
returns c = just_those
