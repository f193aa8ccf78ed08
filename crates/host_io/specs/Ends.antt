-- How a connection was shut, and what a listener answered, where that is known.
use Rattle.std.specs.Prelude.{◌≡◌, ⊤, Bool, List, ◌∷◌, Option, None, Some, Result, Ok, Err}
use Rattle.std.specs.IoError.{error_kind}
use Rattle.std.specs.declared.io.Error.{Error}
use Rattle.std.specs.declared.net.handle.Shutdown.{Shutdown}
use Rattle.host_io.specs.Streams.{Answer}

-- One call shut it so. The calls stand with the newest first.
abbrev pub IsShut : Option (List Shutdown) → Option (List Shutdown) → Shutdown → Type 0
IsShut None new how = ⊤
IsShut (Some old) None how = ⊥
IsShut (Some old) (Some new) how = new ≡ how ∷ old

-- One call set it so. The calls stand with the newest first.
abbrev pub IsSet : Option (List Bool) → Option (List Bool) → Bool → Type 0
IsSet None new at_once = ⊤
IsSet (Some old) None at_once = ⊥
IsSet (Some old) (Some new) at_once = new ≡ at_once ∷ old

-- one connection came, or of which kind the failure was
abbrev pub answer_taken : {A : Type 0} → Result A Error → Answer
answer_taken (Ok came) = Ok 1
answer_taken (Err fault) = Err (error_kind fault)
