use Rattle.taps.proofs.Passing.{passed_on}
use Rattle.taps.proofs.tap.TapWorld.connect.Goals as goal

pub invariant_of-self : goal.invariant_of-self
invariant_of-self g c = passed_on _ _ _ _ _ _ c.self.invariant c.connect-answer.ensures c.note.ensures.made
