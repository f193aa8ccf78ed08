-- What is kept where nothing went out, and where octets are put behind what waits.
use Rattle.std.proofs.Common.{◌≡◌, ℕ, List, [], ◌++◌, length, take, Option, None, Some, ap, sym, ◌∙◌}
use Rattle.std.proofs.lemmas.List.{append-nil, append_assoc}
use Rattle.std.proofs.Math.Seq.{take-length}
use Rattle.std.specs.Io.KnownBytes.{Keeps}
use Rattle.guest_link.specs.Keeping.{SendsOn}

pub sends_kept : (old new : Option (List ℕ)) (waited waits : List ℕ) → Keeps old new → waits ≡ waited → SendsOn old new waited waits []
sends_kept None new waited waits kept is = ([], tt, is ∙ sym (append-nil waited))
sends_kept (Some xs) None waited waits kept is = elim kept [ ]
sends_kept (Some xs) (Some ys) waited waits kept is = ([], kept ∙ sym (append-nil xs), is ∙ sym (append-nil waited))

pub sends_none : (taken : Option (List ℕ)) (waits : List ℕ) → SendsOn taken taken waits waits []
sends_none None waits = ([], tt, sym (append-nil waits))
sends_none (Some xs) waits = ([], sym (append-nil xs), sym (append-nil waits))

pub puts_behind : (old new : Option (List ℕ)) (waited between waits put : List ℕ) → SendsOn old new waited between [] → waits ≡ between ++ put
    → SendsOn old new waited waits (take (length put) put)
puts_behind old new waited between waits put (sent, appends, all) is = (
  sent,
  appends,
  ap (λ (w : List ℕ). sent ++ w) is ∙ sym (append_assoc sent between put) ∙ ap (λ (w : List ℕ). w ++ put) (all ∙ append-nil waited)
      ∙ ap (λ (p : List ℕ). waited ++ p) (sym (take-length put)),
)
