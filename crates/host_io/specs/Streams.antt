-- What the calls on a stream answered, where that is known.
use Rattle.std.specs.Prelude.{◌≡◌, ℕ, ⊤, Bool, true, false, List, ◌∷◌, Option, None, Some, Result, Ok, Err}
use Rattle.std.specs.IoError.{error_kind}
use Rattle.std.specs.declared.io.Error.{Error}
use Rattle.std.specs.declared.io.ErrorKind.{ErrorKind}
use Rattle.std.specs.declared.io.ErrorKind.TheVariants.{Interrupted}

-- how many octets a call moved, or of which kind its failure was
abbrev pub Answer : Type 0
Answer = Result ℕ ErrorKind

abbrev pub answer_of : Result ℕ Error → Answer
answer_of (Ok count) = Ok count
answer_of (Err fault) = Err (error_kind fault)

-- One call was made, and this holds of its answer. The answers stand with the newest first.
abbrev pub Calls : Option (List Answer) → Option (List Answer) → (Answer → Type 0) → Type 0
Calls None new Holds = ⊤
Calls (Some old) None Holds = ⊥
Calls (Some old) (Some new) Holds = (answer : Answer) × (new ≡ answer ∷ old) × Holds answer

-- a signal cut the call short
abbrev pub is_interruption : ErrorKind → Bool
is_interruption Interrupted = true
is_interruption kind = false

abbrev pub was_interrupted : {A : Type 0} → Result A Error → Bool
was_interrupted (Ok answer) = false
was_interrupted (Err fault) = is_interruption (error_kind fault)
