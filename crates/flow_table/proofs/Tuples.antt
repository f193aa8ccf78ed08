-- The order of tuples, and the row by tuple.
use Rattle.std.proofs.Common.{◌≡◌, ◌≢◌, ℕ, ◌<◌, ◌+◌, ◌⊎◌, inl, inr, List, [], length, get_or, Option, Some, refl, sym, ap, ◌∙◌, subst, arith, replicate}
use Rattle.std.specs.Prelude.{slice_get, slice_set}
use Rattle.std.specs.List.{insert, remove}
use Rattle.std.specs.Option.{option_and_then}
use Rattle.std.specs.Cmp.{IsTotalOrder}
use Rattle.std.proofs.Common.{Ordering, Less, Equal, Greater}
use Rattle.std.specs.Ordering.{nat_cmp, ordering_then, ordering_reverse}
use Rattle.std.proofs.lemmas.Bool.{cases_eq}
use Rattle.std.proofs.lemmas.Cmp.{nat_cmp_total, on_total, then_total, tied_itself, ranked}
use Rattle.std.proofs.lemmas.Option.{same_Some, option_and_then_some, slice_get_within, get_or_from_slice_get}
use Rattle.std.proofs.lemmas.List.Edits.{length-remove}
use Rattle.net_octets.specs.declared.Endpoint.{Endpoint}
use Rattle.net_octets.specs.declared.Ip4.{Ip4}
use Rattle.ordered_rows.proofs.Places.{set_from, set_to, set_at, removed_from, removed_to, inserted_from, inserted_at, inserted_to}
use Rattle.flow_table.specs.declared.Entry.{Entry}
use Rattle.flow_table.specs.declared.Slot.{Slot}
use Rattle.flow_table.specs.declared.Slot.TheVariants.{Free, InUse}
use Rattle.spec_flows.specs.declared.Tuple.{Tuple}
use Rattle.flow_table.specs.Slots.{HasTuple, IsFree, NoneHas, tuple_of}
use Rattle.flow_table.specs.Rows.{AreEntries, BelongsAt, Rise, StandsAt, entry_of, tuple_cmp}
use Rattle.flow_table.proofs.Keeping.{free_has_none}

pub tuple_total : IsTotalOrder tuple_cmp
tuple_total =
    then_total (on_total (λ (t : Tuple). t.guest.addr.0) nat_cmp_total)
    (then_total (on_total (λ (t : Tuple). t.guest.port) nat_cmp_total) (then_total (on_total (λ (t : Tuple). t.other.addr.0) nat_cmp_total) (on_total (λ (t : Tuple). t.other.port) nat_cmp_total)))

all_equal : (o p q r : Ordering) → ordering_then o (ordering_then p (ordering_then q r)) ≡ Equal → (o ≡ Equal) × (p ≡ Equal) × (q ≡ Equal) × (r ≡ Equal)
all_equal Equal Equal Equal Equal h = (refl, refl, refl, refl)
all_equal Equal Equal Equal Less h = cc
all_equal Equal Equal Equal Greater h = cc
all_equal Equal Equal Less r h = cc
all_equal Equal Equal Greater r h = cc
all_equal Equal Less q r h = cc
all_equal Equal Greater q r h = cc
all_equal Less p q r h = cc
all_equal Greater p q r h = cc

same_number : (x y : ℕ) → nat_cmp x y ≡ Equal → x ≡ y
same_number x y h = ranked x y Equal (sym h)

ip_is : (a b : Ip4) → a.0 ≡ b.0 → a ≡ b
ip_is a b e = ap (λ (n : ℕ). let ip : Ip4 = record { 0 = n } in ip) e

end_is : (a b : Endpoint) → a.addr.0 ≡ b.addr.0 → a.port ≡ b.port → a ≡ b
end_is a b e1 e2 = let e = ip_is a.addr b.addr e1 in ap (λ (x : Ip4). record a { addr = x }) e ∙ ap (λ (p : ℕ). record b { port = p }) e2

tuple_is : (a b : Tuple) → a.guest.addr.0 ≡ b.guest.addr.0 → a.guest.port ≡ b.guest.port → a.other.addr.0 ≡ b.other.addr.0 → a.other.port ≡ b.other.port → a ≡ b
tuple_is a b e1 e2 e3 e4 = let e = end_is a.guest b.guest e1 e2 in let f = end_is a.other b.other e3 e4 in
    ap (λ (x : Endpoint). record a { guest = x }) e ∙ ap (λ (x : Endpoint). record b { other = x }) f

pub same_tuple : (a b : Tuple) → tuple_cmp a b ≡ Equal → a ≡ b
same_tuple a b h =
    let e = all_equal (nat_cmp a.guest.addr.0 b.guest.addr.0) (nat_cmp a.guest.port b.guest.port) (nat_cmp a.other.addr.0 b.other.addr.0) (nat_cmp a.other.port b.other.port) h in
    tuple_is a b (same_number a.guest.addr.0 b.guest.addr.0 e.0) (same_number a.guest.port b.guest.port e.1) (same_number a.other.addr.0 b.other.addr.0 e.2) (same_number a.other.port b.other.port e.3)

pub not_below_itself : (t : Tuple) → tuple_cmp t t ≡ Less → ⊥
not_below_itself t h = let e = tied_itself tuple_total t in cc

pub flipped : (a b : Tuple) → tuple_cmp a b ≡ Greater → tuple_cmp b a ≡ Less
flipped a b h = tuple_total.antisymm b a ∙ ap ordering_reverse h

-- the content of a slot that has a tuple
pub has_slot : (slots : List Slot) (k : ℕ) (t : Tuple) → HasTuple slots k t → (s : Slot) × ((slice_get slots k ≡ Some s) × (tuple_of s ≡ Some t))
has_slot slots k t h = option_and_then_some tuple_of (slice_get slots k) t h (λ s is of. (s, (is, of)))

pub has_at : (slots : List Slot) (k : ℕ) (s : Slot) (t : Tuple) → slice_get slots k ≡ Some s → tuple_of s ≡ Some t → HasTuple slots k t
has_at slots k s t is of = ap (option_and_then tuple_of) is ∙ of

pub has_kept : (slots : List Slot) (i k : ℕ) (s : Slot) (t : Tuple) → HasTuple slots k t → k ≢ i → HasTuple (slice_set slots i s) k t
has_kept slots i k s t h o = let w = has_slot slots k t h in has_at (slice_set slots i s) k w.0 t (set_to slots i k s w.0 w.1.0 o) w.1.1

pub has_now : (slots : List Slot) (k : ℕ) (s : Slot) (t : Tuple) → k < length slots → tuple_of s ≡ Some t → HasTuple (slice_set slots k s) k t
has_now slots k s t fits of = has_at (slice_set slots k s) k s t (set_at slots k s fits) of

pub one_tuple : (slots : List Slot) (k : ℕ) (t u : Tuple) → HasTuple slots k t → HasTuple slots k u → t ≡ u
one_tuple slots k t u h g = same_Some t u (sym h ∙ g)

pub free_has_not : (slots : List Slot) (k : ℕ) (t : Tuple) → IsFree slots k → HasTuple slots k t → ⊥
free_has_not slots k t is h = let e = sym (ap (option_and_then tuple_of) is) ∙ h in cc

-- the tuple of a slot after a write
pub has_set : (slots : List Slot) (k j : ℕ) (s : Slot) (u : Tuple) → HasTuple (slice_set slots k s) j u → ((j ≡ k) × (tuple_of s ≡ Some u)) ⊎ ((j ≢ k) × HasTuple slots j u)
has_set slots k j s u h =
    let w = has_slot (slice_set slots k s) j u h in
    elim (set_from slots k j s w.0 w.1.0) [ inl p ↦ inl (p.0, ap tuple_of (sym p.1) ∙ w.1.1) | inr p ↦ inr (p.0, has_at slots j w.0 u p.1 w.1.1) ]

pub no_tuple : (u : Tuple) → tuple_of Free ≡ Some u → ⊥
no_tuple u h = cc

-- no tuple stands twice
pub stands_once : (entries : List Entry) (i j : ℕ) (a b : Entry) → Rise entries → slice_get entries i ≡ Some a → slice_get entries j ≡ Some b → a.tuple ≡ b.tuple → i ≡ j
stands_once entries i j a b rise h g same =
    let not_below : i < j → ⊥ = λ less. not_below_itself b.tuple (subst (λ t. tuple_cmp t b.tuple ≡ Less) same (rise i j a b less h g)) in
    let not_above : j < i → ⊥ = λ less. not_below_itself b.tuple (subst (λ t. tuple_cmp b.tuple t ≡ Less) same (rise j i b a less g h)) in
    omega (arith, not_below, not_above)

pub no_entries : (n : ℕ) → AreEntries (replicate n Free) []
no_entries n = record {
  has = λ i e h. cc;
  all = λ k t h. absurd (free_has_none n k t h);
  rise = λ i j a b less h g. cc;
}

pub entries_removed : (slots : List Slot) (entries : List Entry) (place k : ℕ) (t : Tuple) → slice_get entries place ≡ Some (entry_of t k) → AreEntries slots entries → AreEntries
    (slice_set slots k Free) (remove entries place)
entries_removed slots entries place k t stands are = record {
  has = λ i e h.
      let r = removed_from entries place i e h in
      let had = are.has r.0 e r.1.0 in
      let moved : r.0 ≢ place = λ same. omega (arith, r.1.1, same) in
      let other : e.slot ≢ k = λ same. moved (stands_once entries r.0 place e (entry_of t k) are.rise r.1.0 stands
      (one_tuple slots k e.tuple t (subst (λ n. HasTuple slots n e.tuple) same had) (are.has place (entry_of t k) stands))) in
      has_kept slots k e.slot Free e.tuple had other;
  all = λ j u h.
      elim (has_set slots k j Free u h) [
        | inl p ↦ absurd (no_tuple u p.1)
        | inr p ↦ let w = are.all j u p.1 in
            let other : w.0 ≢ place = λ same. p.0 (ap (λ (x : Entry). x.slot) (same_Some (entry_of u j) (entry_of t k) (sym w.1 ∙ ap (slice_get entries) same ∙ stands))) in
            let r = removed_to entries place w.0 (entry_of u j) w.1 other in (r.0, r.1.0)
      ];
  rise = λ i j a b less h g.
      let p = removed_from entries place i a h in
      let q = removed_from entries place j b g in
      are.rise p.0 q.0 a b (omega (arith, p.1.1, q.1.1, less)) p.1.0 q.1.0;
}

pub entries_inserted : (slots : List Slot) (entries : List Entry) (place k : ℕ) (t : Tuple) → k < length slots → IsFree slots k → BelongsAt entries place t →
    AreEntries slots entries → AreEntries (slice_set slots k (InUse t)) (insert entries place (entry_of t k))
entries_inserted slots entries place k t fits is belongs are =
    let le = belongs.within in
    let new = entry_of t k in
    record {
      has = λ i e h.
          elim (inserted_from entries place i new e le h) [
            | inl p ↦ subst (λ (x : Entry). HasTuple (slice_set slots k (InUse t)) x.slot x.tuple) (sym p.1) (has_now slots k (InUse t) t fits refl)
            | inr r ↦ let had = are.has r.0 e r.1.0 in
                has_kept slots k e.slot (InUse t) e.tuple had (λ same. free_has_not slots k e.tuple is (subst (λ n. HasTuple slots n e.tuple) same had))
          ];
      all = λ j u h.
          elim (has_set slots k j (InUse t) u h) [
            | inl p ↦ (place, inserted_at entries place new le ∙ ap Some (ap (λ x. entry_of x k) (same_Some t u p.1) ∙ ap (entry_of u) (sym p.0)))
            | inr p ↦ let w = are.all j u p.1 in inserted_to entries place w.0 new (entry_of u j) le w.1
          ];
      rise = λ i j a b less h g.
          elim (inserted_from entries place i new a le h) [
            | inl p ↦ elim (inserted_from entries place j new b le g) [
              | inl q ↦ absurd (omega (arith, less, p.0, q.0))
              | inr q ↦ subst (λ (x : Entry). tuple_cmp x.tuple b.tuple ≡ Less) (sym p.1) (flipped b.tuple t (belongs.above q.0 b (omega (arith, q.1.1, less, p.0)) q.1.0))
            ]
            | inr p ↦ elim (inserted_from entries place j new b le g) [
              | inl q ↦ subst (λ (x : Entry). tuple_cmp a.tuple x.tuple ≡ Less) (sym q.1) (belongs.below p.0 a (omega (arith, p.1.1, less, q.0)) p.1.0)
              | inr q ↦ are.rise p.0 q.0 a b (omega (arith, p.1.1, q.1.1, less)) p.1.0 q.1.0
            ]
          ];
    }

-- a slot keeps its tuple
pub entries_same : (slots : List Slot) (entries : List Entry) (k : ℕ) (s : Slot) (t : Tuple) → HasTuple slots k t → tuple_of s ≡ Some t → k < length slots →
    AreEntries slots entries → AreEntries (slice_set slots k s) entries
entries_same slots entries k s t had of fits are = record {
  has = λ i e h.
      let has = are.has i e h in
      elim (cases_eq e.slot k) [
        | inl same ↦ let is = one_tuple slots k e.tuple t (subst (λ n. HasTuple slots n e.tuple) same has) had in
            subst (λ n. HasTuple (slice_set slots k s) n e.tuple) (sym same) (has_now slots k s e.tuple fits (of ∙ ap Some (sym is)))
        | inr other ↦ has_kept slots k e.slot s e.tuple has other
      ];
  all = λ j u h.
      elim (has_set slots k j s u h) [
        | inl p ↦ are.all j u (subst (λ n. HasTuple slots n u) (sym p.0) (had ∙ sym of ∙ p.1))
        | inr p ↦ are.all j u p.1
      ];
  rise = are.rise;
}

-- a tuple that no slot has doesn't stand in the row
pub none_stands : (slots : List Slot) (entries : List Entry) (t : Tuple) → AreEntries slots entries → NoneHas slots t → (i k : ℕ) → slice_get entries i ≡ Some (entry_of t k) → ⊥
none_stands slots entries t are none i k h = none k (are.has i (entry_of t k) h)

-- a slot leaves the row by its tuple
pub entry_left : (slots : List Slot) (entries left : List Entry) (k place : ℕ) (t : Tuple) → HasTuple slots k t → StandsAt entries place t → left ≡ remove entries place →
    AreEntries slots entries → AreEntries (slice_set slots k Free) left
entry_left slots entries left k place t had stands is are =
    let w = are.all k t had in
    let here : w.0 ≡ place = stands_once entries w.0 place (entry_of t k) (entry_of t stands.0) are.rise w.1 stands.1 refl in
    subst (AreEntries (slice_set slots k Free)) (sym is) (entries_removed slots entries place k t (ap (slice_get entries) (sym here) ∙ w.1) are)

pub one_fewer : (entries left : List Entry) (place : ℕ) (e : Entry) → slice_get entries place ≡ Some e → left ≡ remove entries place → length left + 1 ≡ length entries
one_fewer entries left place e stands is = let w = slice_get_within entries place e stands in ap (λ (es : List Entry). length es + 1) is ∙ length-remove entries place w

-- what is read of a slot with a tuple has it
pub read_has : (slots : List Slot) (d : Slot) (k : ℕ) (t : Tuple) (o : Option Tuple) → HasTuple slots k t → o ≡ tuple_of (get_or slots k d) → o ≡ Some t
read_has slots d k t o had read = let w = has_slot slots k t had in read ∙ ap tuple_of (get_or_from_slice_get slots k w.0 d w.1.0) ∙ w.1.1
