-- A table and its rows after each call.
use Rattle.std.proofs.Common.{◌≡◌, ◌≢◌, ℕ, ◌+◌, ◌<◌, ◌≤◌, ◌^◌, List, [], ◌∷◌, ◌++◌, length, Option, Some, None, inl, inr, zero, suc, refl, sym, ap, ◌∙◌, subst, arith, replicate}
use Rattle.std.proofs.Common.{length-set, length-append}
use Rattle.std.specs.Prelude.{slice_get, slice_set, IfSome, IfNone}
use Rattle.std.specs.List.{insert, range_with_len}
use Rattle.std.proofs.Math.Nat.{pow-succ'}
use Rattle.std.proofs.lemmas.List.{length-replicate}
use Rattle.std.proofs.lemmas.List.Edits.{length-insert}
use Rattle.std.proofs.lemmas.List.FromFn.{length-range_with_len}
use Rattle.std.proofs.lemmas.Option.{slice_get_within}
use Rattle.ordered_rows.proofs.Counts.{fewer_than}
use Rattle.ordered_rows.proofs.Places.{set_at, set_twice}
use Rattle.flow_table.specs.declared.Entry.{Entry}
use Rattle.flow_table.specs.declared.TimeWait.{TimeWait}
use Rattle.flow_table.specs.declared.Slot.{Slot}
use Rattle.flow_table.specs.declared.Slot.TheVariants.{Free, InUse, InTimeWait}
use Rattle.spec_flows.specs.declared.Tuple.{Tuple}
use Rattle.flow_table.specs.Slots.{AreKept, HasTuple, NoneHas, InTimeWaitSince, moved_last}
use Rattle.flow_table.specs.Rows.{AreEntries, AreFree, AreTimeWaits, BelongsAt, IsFirstAfter, IsSlotIn, IsTable, IsVacated, entry_of, time_wait_of}
use Rattle.flow_table.proofs.Freeing.{all_are_free, freed, last_taken, still_free}
use Rattle.flow_table.proofs.Keeping.{has_within, moved_kept, set_kept, start_kept}
use Rattle.flow_table.proofs.InTimeWait.{no_rests, rests_inserted, rests_quiet}
use Rattle.flow_table.proofs.Tuples.{entries_inserted, entries_same, has_set, no_entries, no_tuple}

pub start_table : (n : ℕ) (slots : List Slot) (time_wait_order free : List ℕ) (entries : List Entry) (time_waits : List TimeWait) (ce cr cf : ℕ) → slots ≡ replicate n Free →
    time_wait_order ≡ range_with_len 0 n → free ≡ range_with_len 0 n → entries ≡ [] → time_waits ≡ [] → n ≤ ce → n ≤ cr → n ≤ cf → IsTable slots time_wait_order entries time_waits free ce cr cf
start_table n slots time_wait_order free entries time_waits ce cr cf is by_number all_free none no_one e r f =
    let size = length-replicate n Free in
    let long = length-range_with_len 0 n in
    rw (is, by_number, all_free, none, no_one) (record {
      kept = start_kept n;
      by_tuple = no_entries n;
      by_rest = no_rests n (range_with_len 0 n);
      are_free = all_are_free n;
      count = omega (arith, size, long);
      entries_fit = omega (arith, size, e);
      rests_fit = omega (arith, size, r);
      free_fit = omega (arith, size, f);
    })

-- what a search found, as slots have it
pub slot_has : (slots : List Slot) (entries : List Entry) (t : Tuple) (found : Option ℕ) → AreEntries slots entries → IsSlotIn entries t found → IfSome found (λ slot. HasTuple slots slot t)
slot_has slots entries t None are is = tt
slot_has slots entries t (Some slot) are is = are.has is.0 (entry_of t slot) is.1

pub slot_alone : (slots : List Slot) (time_wait_order : List ℕ) (entries : List Entry) (t : Tuple) (found : Option ℕ) → AreKept slots time_wait_order → AreEntries slots entries →
    IsSlotIn entries t found → IfSome found (λ slot. (other : ℕ) → HasTuple slots other t → other ≡ slot)
slot_alone slots time_wait_order entries t None kept are is = tt
slot_alone slots time_wait_order entries t (Some slot) kept are is = λ other h. kept.apart other slot t h (are.has is.0 (entry_of t slot) is.1)

pub none_has : (slots : List Slot) (entries : List Entry) (t : Tuple) (found : Option ℕ) → AreEntries slots entries → IsSlotIn entries t found → IfNone found (NoneHas slots t)
none_has slots entries t None are is = λ k h. let w = are.all k t h in is w.0 k w.1
none_has slots entries t (Some slot) are is = tt

-- half of a power, and one more
pub few_steps : (entries : List Entry) (free : List ℕ) (slots : List Slot) (before after : ℕ) → length entries + length free ≡ length slots →
    ((k : ℕ) → length entries < 2 ^ k → after ≤ before + k) → (k : ℕ) → length slots ≤ 2 ^ k → after ≤ before + k + 1
few_steps entries free slots before after count few k enough =
    let p = pow-succ' 2 k in
    let some = positive k in
    let small : length entries < 2 ^ suc k = omega (arith, count, enough, p, some) in
    let le = few (suc k) small in
    omega (arith, le)
  where
    positive : (k : ℕ) → 0 < 2 ^ k
    positive zero = omega arith
    positive (suc k) = let p = pow-succ' 2 k in let h = positive k in omega (arith, p, h)

-- a slot is freed
pub freed_table : (slots : List Slot) (time_wait_order free free_new : List ℕ) (entries entries_new : List Entry) (time_waits rests_new : List TimeWait) (k : ℕ) (t : Tuple)
    (ce cr cf ce_new cr_new cf_new : ℕ) → IsTable slots time_wait_order entries time_waits free ce cr cf → HasTuple slots k t
    → AreEntries (slice_set slots k Free) entries_new → length entries_new + 1 ≡ length entries → ((time_wait_order : List ℕ) → AreTimeWaits slots time_wait_order time_waits → AreTimeWaits
    (slice_set slots k Free) time_wait_order rests_new) → free_new ≡ free ++ k ∷ [] → ce_new ≡ ce → cr_new ≡ cr → cf ≤ cf_new
    → IsTable (slice_set slots k Free) time_wait_order entries_new rests_new free_new ce_new cr_new cf_new
freed_table slots time_wait_order free free_new entries entries_new time_waits rests_new k t ce cr cf ce_new cr_new cf_new table had by_tuple fewer by_rest pushed e r f =
    let size = length-set slots k Free in
    let more = ap (λ (x : List ℕ). length x) pushed ∙ length-append free (k ∷ []) in
    record {
      kept = set_kept slots time_wait_order k Free (λ other u is h. absurd (no_tuple u is)) table.kept;
      by_tuple = by_tuple;
      by_rest = by_rest time_wait_order table.by_rest;
      are_free = subst (λ (x : List ℕ). AreFree (slice_set slots k Free) x) (sym pushed) (freed slots free k t table.are_free had);
      count = omega (arith, table.count, fewer, more, size);
      entries_fit = omega (arith, size, e, table.entries_fit);
      rests_fit = omega (arith, size, r, table.rests_fit);
      free_fit = omega (arith, size, f, table.free_fit);
    }

-- nothing was taken
pub same_table : (slots : List Slot) (time_wait_order free free_new : List ℕ) (entries entries_new : List Entry) (time_waits rests_new : List TimeWait) (ce cr cf ce_new cr_new cf_new : ℕ) →
    IsTable slots time_wait_order entries time_waits free ce cr cf → entries_new ≡ entries → rests_new ≡ time_waits → free_new ≡ free → ce_new ≡ ce → cr_new ≡ cr → cf_new ≡ cf →
    IsTable slots time_wait_order entries_new rests_new free_new ce_new cr_new cf_new
same_table slots time_wait_order free free_new entries entries_new time_waits rests_new ce cr cf ce_new cr_new cf_new table e r f a b c = rw (e, r, f, a, b, c) table

-- none has the tuple where one slot is free
pub none_has_then : (slots : List Slot) (k : ℕ) (t : Tuple) → NoneHas slots t → NoneHas (slice_set slots k Free) t
none_has_then slots k t none j h = elim (has_set slots k j Free t h) [ inl p ↦ no_tuple t p.1 | inr p ↦ none j p.1 ]

busy : (t : Tuple) → Free ≡ InUse t → ⊥
busy t e = cc

-- a slot is taken
pub taken_table : (slots : List Slot) (time_wait_order free free_new : List ℕ) (entries entries_left entries_new : List Entry) (time_waits rests_new : List TimeWait) (k place : ℕ) (t : Tuple)
    (ce cr cf ce_new cr_new cf_new : ℕ) → IsTable slots time_wait_order entries time_waits free ce cr cf → NoneHas slots t
    → IsVacated slots k time_waits entries_left rests_new free_new → length entries_left + length free_new + 1 ≡ length entries + length free → BelongsAt entries_left place t →
    entries_new ≡ insert entries_left place (entry_of t k) → ce ≤ ce_new → cr_new ≡ cr → cf_new ≡ cf
    → IsTable (slice_set slots k (InUse t)) time_wait_order entries_new rests_new free_new ce_new cr_new cf_new
taken_table slots time_wait_order free free_new entries entries_left entries_new time_waits rests_new k place t ce cr cf ce_new cr_new cf_new table none out count belongs is e r f =
    let empty = slice_set slots k Free in
    let size = length-set slots k (InUse t) in
    let sized = length-set slots k Free in
    let fits : k < length empty = omega (arith, out.within, sized) in
    let twice = set_twice slots k Free (InUse t) in
    let more = ap (λ (x : List Entry). length x) is ∙ length-insert entries_left place (entry_of t k) belongs.within in
    record {
      kept = set_kept slots time_wait_order k (InUse t) (λ other u same h. absurd (none other (h ∙ sym same))) table.kept;
      by_tuple = subst (λ (x : List Entry). AreEntries (slice_set slots k (InUse t)) x) (sym is)
          (subst (λ (s : List Slot). AreEntries s (insert entries_left place (entry_of t k))) twice (entries_inserted empty entries_left place k t fits
          (set_at slots k Free out.within) belongs out.by_tuple));
      by_rest = subst (λ (s : List Slot). AreTimeWaits s time_wait_order rests_new) twice (rests_quiet empty time_wait_order rests_new k (InUse t)
          (λ u since h. let e = sym (set_at slots k Free out.within) ∙ h in cc) (λ u since h. cc) (out.by_rest time_wait_order table.by_rest));
      are_free = subst (λ (s : List Slot). AreFree s free_new) twice (last_taken empty free_new k (InUse t) (busy t) out.freed);
      count = omega (arith, table.count, count, more, size);
      entries_fit = omega (arith, size, e, table.entries_fit);
      rests_fit = omega (arith, size, r, table.rests_fit);
      free_fit = omega (arith, size, f, table.free_fit);
    }

-- there is room for one more TIME-WAIT
pub rests_below : (slots : List Slot) (time_wait_order : List ℕ) (time_waits : List TimeWait) (k : ℕ) → k < length slots → AreTimeWaits (slice_set slots k Free) time_wait_order time_waits → length time_waits < length slots
rests_below slots time_wait_order time_waits k fits are =
    let size = length-set slots k Free in
    let apart : (i : ℕ) (r : TimeWait) → slice_get time_waits i ≡ Some r → r.slot ≢ k =
    λ i r h same. let had = are.has i r h in let e = sym (set_at slots k Free fits) ∙ subst (λ m. InTimeWaitSince (slice_set slots k Free) m had.0 r.since) same had.1 in cc in
    let within : (i : ℕ) (r : TimeWait) → slice_get time_waits i ≡ Some r → r.slot < length slots =
    λ i r h. let had = are.has i r h in let w = slice_get_within (slice_set slots k Free) r.slot (InTimeWait had.0 r.since) had.1 in omega (arith, w, size) in
    let other : (i j : ℕ) (a b : TimeWait) → i < j → slice_get time_waits i ≡ Some a → slice_get time_waits j ≡ Some b → a.slot ≢ b.slot =
    λ i j a b less h g. (are.order i j a b less h g).other in
    fewer_than (λ (r : TimeWait). r.slot) time_waits (length slots) k fits within apart other

-- a slot enters TIME-WAIT
pub rested_table : (slots : List Slot) (time_wait_order rest_order_new free : List ℕ) (entries : List Entry) (time_waits rests_left rests_new : List TimeWait) (k since place : ℕ) (t : Tuple)
    (ce cr cf cr_new : ℕ) → IsTable slots time_wait_order entries time_waits free ce cr cf → HasTuple slots k t
    → ((time_wait_order : List ℕ) → AreTimeWaits slots time_wait_order time_waits → AreTimeWaits (slice_set slots k Free) time_wait_order rests_left) → IsFirstAfter rests_left since place →
    rests_new ≡ insert rests_left place (time_wait_of k since) → rest_order_new ≡ moved_last k time_wait_order → cr ≤ cr_new
    → IsTable (slice_set slots k (InTimeWait t since)) rest_order_new entries rests_new free ce cr_new cf
rested_table slots time_wait_order rest_order_new free entries time_waits rests_left rests_new k since place t ce cr cf cr_new table had ended at is moved r =
    let fits = has_within slots k t had in
    let s = InTimeWait t since in
    let size = length-set slots k s in
    record {
      kept = subst (AreKept (slice_set slots k s)) (sym moved) (set_kept slots (moved_last k time_wait_order) k s (λ other u same h. table.kept.apart other k u h (had ∙ same))
          (moved_kept slots time_wait_order k fits table.kept));
      by_tuple = entries_same slots entries k s t had refl fits table.by_tuple;
      by_rest = subst (λ (x : List TimeWait). AreTimeWaits (slice_set slots k s) rest_order_new x) (sym is)
          (subst (λ (x : List ℕ). AreTimeWaits (slice_set slots k s) x (insert rests_left place (time_wait_of k since))) (sym moved)
          (rests_inserted slots time_wait_order rests_left place k since t fits table.kept at (ended time_wait_order table.by_rest)));
      are_free = still_free slots free k s t had (λ e. cc) table.are_free;
      count = omega (arith, table.count, size);
      entries_fit = omega (arith, size, table.entries_fit);
      rests_fit = omega (arith, size, r, table.rests_fit);
      free_fit = omega (arith, size, table.free_fit);
    }
