-- Places in the row of TIME-WAITs.
use Rattle.std.proofs.Common.{◌≡◌, ◌≢◌, inl, inr, ℕ, ◌+◌, ◌<◌, ◌≤◌, List, length, get_or, Some, true, false, ltb, leb, ltb-true, ltb-false, leb-true, leb-false, arith, sym, ap, ◌∙◌, subst}
use Rattle.std.specs.Prelude.{slice_get}
use Rattle.std.specs.List.Sorted.{IsPartitionPoint}
use Rattle.std.proofs.lemmas.Bool.{cases_eq, cases_lt}
use Rattle.std.proofs.lemmas.Option.{slice_get_within, get_or_from_slice_get, slice_get-get_or}
use Rattle.flow_table.specs.declared.TimeWait.{TimeWait}
use Rattle.flow_table.specs.Rows.{DoNotFall, IsFirstAfter, IsFirstSince}

pub first_since_is : (time_waits : List TimeWait) (since place : ℕ) → place ≤ length time_waits → IsPartitionPoint (λ (r : TimeWait). ltb r.since since ≡ true)
    (λ (r : TimeWait). ltb r.since since ≡ false) time_waits place → IsFirstSince time_waits since place
first_since_is time_waits since place within point = record {
  within = within;
  before = λ i r small h. subst (λ (y : TimeWait). y.since < since) (get_or_from_slice_get time_waits i r r h) (ltb-true _ _ (point.0 i r (omega arith) small));
  after = λ i r large h. subst (λ (y : TimeWait). since ≤ y.since) (get_or_from_slice_get time_waits i r r h) (ltb-false _ _ (point.1 i r large (slice_get_within time_waits i r h)));
}

pub first_after_is : (time_waits : List TimeWait) (since place : ℕ) → place ≤ length time_waits → IsPartitionPoint (λ (r : TimeWait). leb r.since since ≡ true)
    (λ (r : TimeWait). leb r.since since ≡ false) time_waits place → IsFirstAfter time_waits since place
first_after_is time_waits since place within point = record {
  within = within;
  before = λ i r small h. subst (λ (y : TimeWait). y.since ≤ since) (get_or_from_slice_get time_waits i r r h) (leb-true _ _ (point.0 i r (omega arith) small));
  after = λ i r large h. subst (λ (y : TimeWait). since < y.since) (get_or_from_slice_get time_waits i r r h) (leb-false _ _ (point.1 i r large (slice_get_within time_waits i r h)));
}

-- it doesn't stand before the first of its moment
pub none_before : (time_waits : List TimeWait) (rest : TimeWait) (place : ℕ) → IsFirstSince time_waits rest.since place → (i : ℕ) → i < place → slice_get time_waits i ≡ Some rest → ⊥
none_before time_waits rest place first i small h = let low = first.before i rest small h in omega (arith, low)

-- nor where another slot stands
pub none_past : (time_waits : List TimeWait) (rest d : TimeWait) (place : ℕ) → ((i : ℕ) → i < place → slice_get time_waits i ≡ Some rest → ⊥) → place < length time_waits →
    (get_or time_waits place d).slot ≢ rest.slot → (i : ℕ) → i < place + 1 → slice_get time_waits i ≡ Some rest → ⊥
none_past time_waits rest d place none within other i small h =
    elim (cases_eq i place) [
      | inl same ↦ other (ap (λ (y : TimeWait). y.slot) (get_or_from_slice_get time_waits place rest d (ap (slice_get time_waits) (sym same) ∙ h)))
      | inr apart ↦ none i (omega (arith, small, apart)) h
    ]

pub found_here : (time_waits : List TimeWait) (rest d : TimeWait) (place : ℕ) → place < length time_waits → (get_or time_waits place d).since ≡ rest.since → (get_or time_waits place d).slot ≡ rest.slot →
    slice_get time_waits place ≡ Some rest
found_here time_waits rest d place within since slot = slice_get-get_or time_waits place d within ∙ ap Some
    (let r = get_or time_waits place d in ap (λ (n : ℕ). let x : TimeWait = record { slot = n; since = r.since } in x) slot ∙ ap (λ (n : ℕ). let x : TimeWait = record { slot = rest.slot; since = n } in x) since)

-- nor behind a later moment
pub none_behind : (time_waits : List TimeWait) (rest d : TimeWait) (first place : ℕ) → DoNotFall time_waits → IsFirstSince time_waits rest.since first → first ≤ place →
    ((i : ℕ) → i < place → slice_get time_waits i ≡ Some rest → ⊥) → place < length time_waits → (get_or time_waits place d).since ≢ rest.since → (i : ℕ) → slice_get time_waits i ≡ Some rest → ⊥
none_behind time_waits rest d first place order is from none within other i h =
    elim (cases_lt i place) [
      | inl less ↦ none i less h
      | inr more ↦
          let high = is.after place (get_or time_waits place d) from (slice_get-get_or time_waits place d within) in
          let up = order place i d more (slice_get_within time_waits i rest h) in
          let read = ap (λ (y : TimeWait). y.since) (get_or_from_slice_get time_waits i rest d h) in
          other (omega (arith, high, up, read))
    ]

pub none_at_end : (time_waits : List TimeWait) (rest : TimeWait) (place : ℕ) → length time_waits ≤ place → ((i : ℕ) → i < place → slice_get time_waits i ≡ Some rest → ⊥) → (i : ℕ) → slice_get time_waits i ≡ Some rest → ⊥
none_at_end time_waits rest place past none i h = let w = slice_get_within time_waits i rest h in none i (omega (arith, w, past)) h
