-- What holds of an answer, from two facts about it.
use Rattle.std.proofs.Common.{Result, Ok, Err, IfOk}

pub ok_then : {T E : Type 0} (r : Result T E) (P Q R : T → Type 0) → IfOk r P → IfOk r Q → ((x : T) → P x → Q x → R x) → IfOk r R
ok_then (Ok x) P Q R p q then = then x p q
ok_then (Err e) P Q R p q then = tt
