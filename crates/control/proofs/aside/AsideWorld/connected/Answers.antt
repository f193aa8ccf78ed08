use Rattle.std.proofs.Common.{refl}
use Rattle.control.proofs.Passing.{kept_on}
use Rattle.control.proofs.aside.AsideWorld.connected.Goals as goal

pub invariant_of-self : goal.invariant_of-self
invariant_of-self g c = kept_on c.self.invariant c.connected-answer.ensures c.then-self-inside.ensures refl refl (λ made. refl)
