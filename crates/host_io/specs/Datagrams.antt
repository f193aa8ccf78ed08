-- What a socket for datagrams sent, and what waits there, where that is known.
use Rattle.std.specs.Prelude.{◌≡◌, ℕ, ⊤, List, [], ◌∷◌, ◌++◌, length, take, Option, None, Some, Result, Ok, Err}
use Rattle.std.specs.IoError.{error_kind}
use Rattle.std.specs.declared.io.Error.{Error}
use Rattle.host_io.specs.Streams.{Answer}

-- known datagrams stay as they were
abbrev pub Stay : Option (List (List ℕ)) → Option (List (List ℕ)) → Type 0
Stay None new = ⊤
Stay (Some old) None = ⊥
Stay (Some old) (Some new) = new ≡ old

-- One more is behind those that were sent: what the call took of these octets; none where it failed.
abbrev pub Sends : {E : Type 0} → Option (List (List ℕ)) → Option (List (List ℕ)) → Result ℕ E → List ℕ → Type 0
Sends None new result octets = ⊤
Sends (Some old) None result octets = ⊥
Sends (Some old) (Some new) (Ok count) octets = new ≡ old ++ take count octets ∷ []
Sends (Some old) (Some new) (Err fault) octets = new ≡ old

-- The first that waits came, cut to the room that there was for it; none where the call failed.
abbrev pub Receives : {E Addr : Type 0} → Option (List (List ℕ)) → Option (List (List ℕ)) → Result (ℕ × Addr) E → List ℕ → Type 0
Receives None new result into = ⊤
Receives (Some old) None result into = ⊥
Receives (Some old) (Some new) (Ok came) into = (datagram : List ℕ) × (old ≡ datagram ∷ new) × (take came.0 into ≡ take (length into) datagram)
Receives (Some old) (Some new) (Err fault) into = new ≡ old

-- how many octets came, or of which kind the failure was
abbrev pub answer_came : {Addr : Type 0} → Result (ℕ × Addr) Error → Answer
answer_came (Ok came) = Ok came.0
answer_came (Err fault) = Err (error_kind fault)
