-- A slot that may be taken: a free one, or else the one that has been in TIME-WAIT the longest.
use Rattle.std.proofs.Common.{◌≡◌, ℕ, List, [], ◌∷◌, ◌++◌, length, Some, inl, inr, refl, sym, ap, ◌∙◌, subst, arith}
use Rattle.std.specs.Prelude.{slice_get, slice_set}
use Rattle.std.proofs.lemmas.Option.{slice_get_within}
use Rattle.ordered_rows.proofs.Places.{set_same}
use Rattle.flow_table.specs.declared.Entry.{Entry}
use Rattle.flow_table.specs.declared.TimeWait.{TimeWait}
use Rattle.flow_table.specs.declared.Slot.{Slot}
use Rattle.flow_table.specs.declared.Slot.TheVariants.{Free, InTimeWait}
use Rattle.flow_table.specs.Slots.{IsFree}
use Rattle.flow_table.specs.Rows.{AreEntries, AreFree, AreTimeWaits, IsVacated}
use Rattle.flow_table.proofs.Freeing.{freed, none_is_free}
use Rattle.flow_table.proofs.Keeping.{at_end}
use Rattle.flow_table.proofs.InTimeWait.{longest_is_first}
use Rattle.flow_table.proofs.Tuples.{has_at}

pub vacated_free : (slots : List Slot) (entries : List Entry) (time_waits : List TimeWait) (free left : List ℕ) (k : ℕ) → free ≡ left ++ k ∷ [] → AreEntries slots entries →
    AreFree slots free → IsVacated slots k time_waits entries time_waits left
vacated_free slots entries time_waits free left k is by_tuple are =
    let whole = subst (AreFree slots) is are in
    let last = at_end left k in
    let empty : IsFree slots k = whole.is last.0 k last.1 in
    let same = sym (set_same slots k Free empty) in
    record {
      within = slice_get_within slots k Free empty;
      may = λ time_wait_order kept rest. inl empty;
      by_tuple = subst (λ (s : List Slot). AreEntries s entries) same by_tuple;
      by_rest = λ time_wait_order rest. subst (λ (s : List Slot). AreTimeWaits s time_wait_order time_waits) same rest;
      freed = subst (λ (s : List Slot). AreFree s (left ++ k ∷ [])) same whole;
    }

pub vacated_rest : (slots : List Slot) (entries : List Entry) (time_waits left : List TimeWait) (free free_left : List ℕ) (r : TimeWait) → free ≡ [] → free_left ≡ [] →
    slice_get time_waits 0 ≡ Some r → (time_wait_order : List ℕ) × AreTimeWaits slots time_wait_order time_waits
    → AreEntries (slice_set slots r.slot Free) entries → ((time_wait_order : List ℕ) → AreTimeWaits slots time_wait_order time_waits → AreTimeWaits (slice_set slots r.slot Free) time_wait_order left) →
    AreFree slots free → IsVacated slots r.slot time_waits entries left free_left
vacated_rest slots entries time_waits left free free_left r none none_left first some by_tuple by_rest are =
    let nothing = subst (AreFree slots) none are in
    let had = some.1.has 0 r first in
    let has = has_at slots r.slot (InTimeWait had.0 r.since) had.0 had.1 refl in
    record {
      within = slice_get_within slots r.slot (InTimeWait had.0 r.since) had.1;
      may = λ time_wait_order kept rest. inr (none_is_free slots nothing, longest_is_first slots time_wait_order time_waits r first rest);
      by_tuple = by_tuple;
      by_rest = by_rest;
      freed = subst (λ (f : List ℕ). AreFree (slice_set slots r.slot Free) (f ++ r.slot ∷ [])) (sym none_left) (freed slots [] r.slot had.0 nothing has);
    }

pub first_rest : (time_waits whole : List TimeWait) (r : TimeWait) → Some r ≡ slice_get time_waits 0 → time_waits ≡ whole → slice_get whole 0 ≡ Some r
first_rest time_waits whole r is same = sym (is ∙ ap (λ (x : List TimeWait). slice_get x 0) same)

pub nothing_in : (xs : List ℕ) → length xs ≡ 0 → xs ≡ []
nothing_in [] h = refl
nothing_in (x ∷ xs) h = absurd (omega (arith, h))
