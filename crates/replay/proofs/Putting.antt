-- Pieces put one after another.
use Rattle.std.proofs.Common.{◌≡◌, ℕ, ◌+◌, ◌/◌, ◌%◌, ◌<◌, ◌≤◌, List, [], ◌∷◌, ◌++◌, length, take, drop, get_or, slice_index, add-one, append-nil, Option, Some, None, Result, refl, sym}
use Rattle.std.proofs.Common.{◌∙◌, ap, subst, arith, append_assoc}
use Rattle.std.proofs.Math.Seq.{take-suc}
use Rattle.std.proofs.lemmas.List.{take-append-drop}
use Rattle.hex.specs.Hex.{encode_with, encode_lower, lower_digits}
use Rattle.poll_list.specs.declared.Want.{Want}
use Rattle.replay.specs.Text.{want_text, joined_text}
use Rattle.replay.specs.Pieces.{more_text}
use Rattle.world_face.proofs.Putting.{added_then}
use Rattle.world_face.specs.Puts.{Puts, added}
use Rattle.world_face.specs.declared.sink.Failed.{Failed}

-- what was put before, and the last piece
pub puts_after : {X : Type 0} (old mid new : Option (List ℕ)) (f g h : ℕ) (a b whole : List ℕ) (s : Result X Failed) → mid ≡ added a old → f ≤ g → Puts mid new g h b s → a
    ++ b ≡ whole → Puts old new f h whole s
puts_after old mid new f g h a b whole s so_far grew last is = record {
  ok = λ done. last.ok done ∙ ap (added b) so_far ∙ added_then a b old ∙ ap (λ t. added t old) is;
  err = λ failed. omega (arith, grew, last.err failed);
  later = omega (arith, grew, last.later);
}

-- one more piece
pub piece_more : (old mid new : Option (List ℕ)) (before piece more : List ℕ) → mid ≡ added before old → new ≡ added piece mid → before ++ piece ≡ more → new ≡ added more old
piece_more old mid new before piece more so_far put is = put ∙ ap (added piece) so_far ∙ added_then before piece old ∙ ap (λ t. added t old) is

pub added_none : (got : Option (List ℕ)) → got ≡ added [] got
added_none None = refl
added_none (Some octets) = ap Some (sym (append-nil octets))

pub puts_same : {X : Type 0} (old new : Option (List ℕ)) (f g : ℕ) (a b : List ℕ) (s : Result X Failed) → Puts old new f g a s → a ≡ b → Puts old new f g b s
puts_same old new f g a b s put is = subst (λ (t : List ℕ). Puts old new f g t s) is put

encode_append : (table a b : List ℕ) → encode_with table a ++ encode_with table b ≡ encode_with table (a ++ b)
unfolding encode_with
encode_append table [] b = refl
encode_append table (x ∷ xs) b = ap (λ t. slice_index table (x / 16) ∷ slice_index table (x % 16) ∷ t) (encode_append table xs b)

pub digits_append : (a b : List ℕ) → encode_lower a ++ encode_lower b ≡ encode_lower (a ++ b)
digits_append a b = encode_append lower_digits a b

pub no_digits : encode_lower [] ≡ []
unfolding encode_with
no_digits = refl

pub regroup : (octets before rest chunk after : List ℕ) → octets ≡ before ++ rest → chunk ++ after ≡ rest → octets ≡ (before ++ chunk) ++ after
regroup octets before rest chunk after is split = is ∙ ap (λ t. before ++ t) (sym split) ∙ sym (append_assoc before chunk after)

more_push : (wants : List Want) (want : Want) → more_text wants ++ (44 ∷ want_text want) ≡ more_text (wants ++ want ∷ [])
more_push [] want = sym (append-nil (44 ∷ want_text want))
more_push (w ∷ ws) want = append_assoc (44 ∷ want_text w) (more_text ws) (44 ∷ want_text want) ∙ ap (λ t. (44 ∷ want_text w) ++ t) (more_push ws want)

pub more_items : (items : List Want) (i : ℕ) (item : Want) → i < length items → item ≡ get_or items i item → more_text (take i items) ++ (44 ∷ want_text item) ≡ more_text (take (i + 1) items)
more_items items i item lt is = more_push (take i items) item ∙ ap more_text (sym (rw add-one (take-suc items i item lt) ∙ ap (λ w. take i items ++ w ∷ []) (sym is)))

pub joined_more : (want : Want) (wants : List Want) → want_text want ++ more_text wants ≡ joined_text (want ∷ wants)
joined_more want [] = append-nil (want_text want)
joined_more want (v ∷ vs) = ap (λ t. want_text want ++ 44 ∷ t) (joined_more v vs) ∙ sym (append_assoc (want_text want) (44 ∷ []) (joined_text (v ∷ vs)))

pub split_whole : (n : ℕ) (rest chunk after : List ℕ) → chunk ≡ take n rest → after ≡ drop n rest → chunk ++ after ≡ rest
split_whole n rest chunk after front back = rw (front, back) (take-append-drop n rest)
