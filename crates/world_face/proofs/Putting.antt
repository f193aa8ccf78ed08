-- Pieces put one after another.
use Rattle.std.proofs.Common.{◌≡◌, ℕ, List, ◌++◌, Option, Some, None, Result, Ok, Err, IsOk, IsErr, refl, ◌∙◌, ap, arith, append_assoc}
use Rattle.world_face.specs.Puts.{Puts, added}
use Rattle.world_face.specs.declared.sink.Failed.{Failed}

pub added_then : (a b : List ℕ) (got : Option (List ℕ)) → added b (added a got) ≡ added (a ++ b) got
added_then a b None = refl
added_then a b (Some octets) = ap Some (append_assoc octets a b)

-- one piece, and then another
pub puts_then : {X Y : Type 0} (old mid new : Option (List ℕ)) (f g h : ℕ) (a b : List ℕ) (r : Result X Failed) (s : Result Y Failed) → Puts old mid f g a r → IsOk r →
    Puts mid new g h b s → Puts old new f h (a ++ b) s
puts_then old mid new f g h a b r s first ok second = record {
  ok = λ done. second.ok done ∙ ap (added b) (first.ok ok) ∙ added_then a b old;
  err = λ failed. omega (arith, first.later, second.err failed);
  later = omega (arith, first.later, second.later);
}

-- a piece that wasn't put: nothing more is
pub puts_failed : {X Y : Type 0} (old new : Option (List ℕ)) (f g : ℕ) (a b : List ℕ) (r : Result X Failed) (s : Result Y Failed) → Puts old new f g a r → IsErr r → IsErr s → Puts old new f g b s
puts_failed old new f g a b r (Ok y) first failed other = cc other
puts_failed old new f g a b r (Err e) first failed other = record { ok = λ done. cc done; err = λ _. first.err failed; later = first.later }
