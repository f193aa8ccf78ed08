-- What a call carries that moves nothing.
use Rattle.std.proofs.Common.{ℕ, List, [], Option, None, Some, sym, ◌∙◌}
use Rattle.std.proofs.lemmas.List.{append-nil}
use Rattle.std.specs.Io.KnownBytes.{Appends, Consumes, Keeps}

pub kept_appends : (old new : Option (List ℕ)) → Keeps old new → Appends old new []
kept_appends None new kept = tt
kept_appends (Some xs) None kept = elim kept [ ]
kept_appends (Some xs) (Some ys) kept = kept ∙ sym (append-nil xs)

pub kept_consumes : (old new : Option (List ℕ)) → Keeps old new → Consumes old new []
kept_consumes None new kept = tt
kept_consumes (Some xs) None kept = elim kept [ ]
kept_consumes (Some xs) (Some ys) kept = sym kept
