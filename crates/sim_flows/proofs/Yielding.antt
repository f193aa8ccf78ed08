-- The slot that has been in TIME-WAIT the longest gives way: it is that of the first of the flows in TIME-WAIT.
use Rattle.std.proofs.Common.{◌≡◌, ℕ, zero, suc, ◌<◌, ◌≤◌, ◌==◌, ◌||◌, Bool, true, false, not, cond, List, [], ◌∷◌, length, map, drop, set, slice_get, slice_index_or, Option, Some, None}
use Rattle.std.proofs.Common.{inl, inr, refl, sym, ◌∙◌, ap, subst, arith}
use Rattle.std.proofs.lemmas.Bool.Decides.{nat_tests}
use Rattle.std.specs.Prelude.{filter_map, Contains}
use Rattle.std.specs.List.{cons_option}
use Rattle.flow_table.specs.Slots.{AreKept, Flows, flows, IsLongestInTimeWait, InTimeWaitSince}
use Rattle.flow_table.specs.declared.Slot.{Slot}
use Rattle.flow_table.specs.declared.Slot.TheVariants.{Free, InUse, InTimeWait}
use Rattle.spec_flows.specs.declared.Tuple.{Tuple}
use Rattle.spec_flow.specs.Event.{Story}
use Rattle.spec_trace.specs.Sockets.{is_among}
use Rattle.spec_flows.specs.Book.{without}
use Rattle.spec_flows.specs.Flows.{Flow, TimeWait, flow_of, uses}
use Rattle.sim_flows.specs.Seats.{AreFrom, IsSlotOf, number_in, number_at, Once, time_waits_at, Rise, Seats}
use Rattle.sim_flows.proofs.Counted.{each_once}
use Rattle.sim_flows.proofs.Only.{only_none}
use Rattle.sim_flows.proofs.Opening.{none_some, some_same}
use Rattle.sim_flows.proofs.Seats.{same_or_not}
use Rattle.sim_flows.proofs.Waking.{seats_woken}

-- ---- what a row of options gives

module _ (F : ℕ → Option ℕ) where
  -- the first number is given by the first that gives one
  pub first_found : (turns : List ℕ) (n : ℕ) (ns : List ℕ) → filter_map F turns ≡ n ∷ ns
      → (i : ℕ) × (j : ℕ) × (slice_get turns i ≡ Some j) × (F j ≡ Some n) × ((i2 j2 : ℕ) → i2 < i → slice_get turns i2 ≡ Some j2 → F j2 ≡ None)
  first_found [] n ns is = absurd cc
  first_found (x ∷ turns) n ns is = by_option (F x) refl is (first_found turns n ns)
    where
      by_option : (o : Option ℕ) → F x ≡ o → cons_option o (filter_map F turns) ≡ n ∷ ns
          → (filter_map F turns ≡ n ∷ ns → (i : ℕ) × (j : ℕ) × (slice_get turns i ≡ Some j) × (F j ≡ Some n) × ((i2 j2 : ℕ) → i2 < i → slice_get turns i2 ≡ Some j2 → F j2 ≡ None))
          → (i : ℕ) × (j : ℕ) × (slice_get (x ∷ turns) i ≡ Some j) × (F j ≡ Some n) × ((i2 j2 : ℕ) → i2 < i → slice_get (x ∷ turns) i2 ≡ Some j2 → F j2 ≡ None)
      by_option (Some m) gives is rest = let same : m ≡ n = cc in (0, x, refl, gives ∙ ap Some same, λ i2 j2 below at. absurd (omega (arith, below)))
      by_option None gives is rest =
          let found = rest is in
          (suc found.0, found.1, found.2, found.3, earlier found.0 found.4)
        where
          earlier : (i : ℕ) → ((i2 j2 : ℕ) → i2 < i → slice_get turns i2 ≡ Some j2 → F j2 ≡ None) → (i2 j2 : ℕ) → i2 < suc i → slice_get (x ∷ turns) i2 ≡ Some j2 → F j2 ≡ None
          earlier i before zero j2 below at = let same : x ≡ j2 = cc in ap F (sym same) ∙ gives
          earlier i before (suc i2) j2 below at = before i2 j2 (omega (arith, below)) at

  among_given : (n : ℕ) (xs : List ℕ) → is_among n (filter_map F xs) ≡ true → (j : ℕ) × (is_among j xs ≡ true) × (F j ≡ Some n)
  among_given n [] is = absurd cc
  among_given n (x ∷ xs) is = by_option (F x) refl is (among_given n xs)
    where
      is_number : (n : ℕ) → (n == n) ≡ true
      is_number n = grind (arith, nat_tests)

      equal : (a b : ℕ) → (a == b) ≡ true → a ≡ b
      equal a b is = grind (arith, nat_tests, is)

      behind : (j : ℕ) → is_among j xs ≡ true → is_among j (x ∷ xs) ≡ true
      behind j is = ap (λ b. (j == x) || b) is ∙ or_true (j == x)
        where
          or_true : (b : Bool) → (b || true) ≡ true
          or_true true = refl
          or_true false = refl

      by_test : (m : ℕ) (b : Bool) → (n == m) ≡ b → F x ≡ Some m → (b || is_among n (filter_map F xs)) ≡ true
          → (is_among n (filter_map F xs) ≡ true → (j : ℕ) × (is_among j xs ≡ true) × (F j ≡ Some n)) → (j : ℕ) × (is_among j (x ∷ xs) ≡ true) × (F j ≡ Some n)
      by_test m true same gives is rest = (x, ap (λ b. b || is_among x xs) (is_number x), gives ∙ ap Some (sym (equal n m same)))
      by_test m false other gives is rest = let found = rest is in (found.0, behind found.0 found.1, found.2)

      by_option : (o : Option ℕ) → F x ≡ o → is_among n (cons_option o (filter_map F xs)) ≡ true
          → (is_among n (filter_map F xs) ≡ true → (j : ℕ) × (is_among j xs ≡ true) × (F j ≡ Some n)) → (j : ℕ) × (is_among j (x ∷ xs) ≡ true) × (F j ≡ Some n)
      by_option None gives is rest = let found = rest is in (found.0, behind found.0 found.1, found.2)
      by_option (Some m) gives is rest = by_test m (n == m) refl gives is rest

  -- where no two give one number, each number stands once
  pub given_once : ((i j n : ℕ) → F i ≡ Some n → F j ≡ Some n → i ≡ j) → (xs : List ℕ) → Once xs → Once (filter_map F xs)
  given_once apart [] once = tt
  given_once apart (x ∷ xs) once = by_option (F x) refl (given_once apart xs once.1)
    where
      not_true : (b : Bool) → (b ≡ true → ⊥) → b ≡ false
      not_true true not = absurd (not refl)
      not_true false not = refl

      true_false : true ≡ false → ⊥
      true_false is = cc

      by_option : (o : Option ℕ) → F x ≡ o → Once (filter_map F xs) → Once (cons_option o (filter_map F xs))
      by_option None gives rest = rest
      by_option (Some n) gives rest = (
        not_true (is_among n (filter_map F xs)) (λ is.
            let found = among_given n xs is in
            true_false (sym found.1 ∙ ap (λ j. is_among j xs) (apart found.0 x n found.2 gives) ∙ once.0)),
        rest,
      )

-- ---- TIME-WAITs

numbers_of : List TimeWait → List ℕ
numbers_of time_waits = map (λ (r : TimeWait). r.number) time_waits

is_number : (n : ℕ) → (n == n) ≡ true
is_number n = grind (arith, nat_tests)

without_none : (n : ℕ) (time_waits : List TimeWait) → is_among n (map (λ (r : TimeWait). r.number) time_waits) ≡ false → without n time_waits ≡ time_waits
without_none n [] none = refl
without_none n (r ∷ time_waits) none =
    let parts = neither (n == r.number) (is_among n (map (λ (x : TimeWait). x.number) time_waits)) none in
    ap (λ b. cond (not b) (r ∷ without n time_waits) (without n time_waits)) (turned n r.number parts.0) ∙ ap (λ l. r ∷ l) (without_none n time_waits parts.1)
  where
    neither : (a b : Bool) → (a || b) ≡ false → (a ≡ false) × (b ≡ false)
    neither true b is = cc
    neither false b is = (refl, is)

    turned : (a b : ℕ) → (a == b) ≡ false → (b == a) ≡ false
    turned a b is = grind (arith, nat_tests, is)

-- the first goes, whose number stands once
pub without_first : (r : TimeWait) (time_waits : List TimeWait) → Once (map (λ (x : TimeWait). x.number) (r ∷ time_waits)) → without r.number (r ∷ time_waits) ≡ time_waits
without_first r time_waits once =
    ap (λ b. cond (not b) (r ∷ without r.number time_waits) (without r.number time_waits)) (is_number r.number) ∙ without_none r.number time_waits once.0

among_numbers : (time_waits : List TimeWait) (x : TimeWait) (k : ℕ) → k < length time_waits → slice_index_or time_waits k x ≡ x → is_among x.number (map (λ (r : TimeWait). r.number) time_waits) ≡ true
among_numbers [] x k within at = absurd (omega (arith, within))
among_numbers (r ∷ time_waits) x zero within at = ap (λ (y : TimeWait). (x.number == y.number) || is_among x.number (map (λ (z : TimeWait). z.number) time_waits)) at ∙ ap
    (λ b. b || is_among x.number (map (λ (z : TimeWait). z.number) time_waits)) (is_number x.number)
among_numbers (r ∷ time_waits) x (suc k) within at = ap (λ b. (x.number == r.number) || b) (among_numbers time_waits x k (omega (arith, within)) at) ∙ or_true (x.number == r.number)
  where
    or_true : (b : Bool) → (b || true) ≡ true
    or_true true = refl
    or_true false = refl

-- the one with the first's number is the first
is_first : (r : TimeWait) (time_waits : List TimeWait) (x : TimeWait) → Once (map (λ (y : TimeWait). y.number) (r ∷ time_waits)) → Contains (r ∷ time_waits) x → x.number ≡ r.number → r ≡ x
is_first r time_waits x once has same = by_place has.0 has.1 has.2
  where
    true_false : true ≡ false → ⊥
    true_false is = cc

    by_place : (k : ℕ) → k < length (r ∷ time_waits) → slice_index_or (r ∷ time_waits) k x ≡ x → r ≡ x
    by_place zero within at = at
    by_place (suc k) within at =
        absurd (true_false (sym (among_numbers time_waits x k (omega (arith, within)) at) ∙ ap (λ n. is_among n (map (λ (y : TimeWait). y.number) time_waits)) same ∙ once.0))

from_first : (m : ℕ) (time_waits : List TimeWait) (x : TimeWait) (k : ℕ) → AreFrom m time_waits → k < length time_waits → slice_index_or time_waits k x ≡ x → m ≤ x.since
from_first m [] x k from within at = absurd (omega (arith, within))
from_first m (r ∷ time_waits) x zero from within at = subst (λ (y : TimeWait). m ≤ y.since) at from.0
from_first m (r ∷ time_waits) x (suc k) from within at = from_first m time_waits x k from.1 (omega (arith, within)) at

least_first : (r : TimeWait) (time_waits : List TimeWait) (x : TimeWait) → Rise (r ∷ time_waits) → Contains (r ∷ time_waits) x → r.since ≤ x.since
least_first r time_waits x rise has = by_place has.0 has.1 has.2
  where
    by_place : (k : ℕ) → k < length (r ∷ time_waits) → slice_index_or (r ∷ time_waits) k x ≡ x → r.since ≤ x.since
    by_place zero within at = subst (λ (y : TimeWait). r.since ≤ y.since) at (omega arith)
    by_place (suc k) within at = from_first r.since time_waits x k rise.0 (omega (arith, within)) at

module _ {P : Type 0} (number : P → ℕ) (Follows : P → Story → Type 0) (table : Flows) (parts : List (Option P)) (next : ℕ) (all : List Flow) (time_waits : List TimeWait)
    (seats : Seats number Follows table parts next all time_waits) (kept : AreKept table.slots table.time_wait_order) where
  abbrev F : ℕ → Option ℕ
  F k = time_waits_at (slice_get table.slots k) (number_at number parts k)

  -- a slot in TIME-WAIT has a part, whose flow is in TIME-WAIT since that moment
  pub rester : (k : ℕ) (t : Tuple) (since : ℕ) → (o : Option (Option P)) → slice_get parts k ≡ o → (o ≡ None → ⊥) → InTimeWaitSince table.slots k t since
      → (p : P) × (slice_get parts k ≡ Some (Some p)) × Contains time_waits (record { number = number p; since = since }) × (uses (flow_of (number p) all) ≡ false)
  rester k t since None at there is = absurd (there refl)
  rester k t since (Some None) at there is = absurd (not_free (sym is ∙ seats.empty k at))
    where
      not_free : Some (InTimeWait t since) ≡ Some Free → ⊥
      not_free is = cc
  rester k t since (Some (Some p)) at there is =
      let seat = seats.seated k p at in
      let slot : seat.1 ≡ InTimeWait t since = some_same seat.1 (InTimeWait t since) (sym seat.5 ∙ is) in
      let of_it = subst (IsSlotOf time_waits seat.0) slot seat.6 in
      (p, at, subst (λ n. Contains time_waits (record { number = n; since = since })) seat.3 of_it.1, ap uses seat.2 ∙ of_it.2)

  gives_number : (k : ℕ) (p : P) (t : Tuple) (since : ℕ) → slice_get parts k ≡ Some (Some p) → InTimeWaitSince table.slots k t since → F k ≡ Some (number p)
  gives_number k p t since at is = ap (λ s. time_waits_at s (number_at number parts k)) is ∙ ap (number_in number) at

  -- what gives a number is a slot in TIME-WAIT
  giver : (j n : ℕ) → (s : Option Slot) → slice_get table.slots j ≡ s → time_waits_at s (number_at number parts j) ≡ Some n
      → (t : Tuple) × (since : ℕ) × InTimeWaitSince table.slots j t since × (number_at number parts j ≡ Some n)
  giver j n None at is = absurd (none_some is)
  giver j n (Some Free) at is = absurd (none_some is)
  giver j n (Some (InUse t)) at is = absurd (none_some is)
  giver j n (Some (InTimeWait t since)) at is = (t, since, at, is)

  apart : (i j n : ℕ) → F i ≡ Some n → F j ≡ Some n → i ≡ j
  apart i j n one two = seats.numbers i j n (giver i n (slice_get table.slots i) refl one).3 (giver j n (slice_get table.slots j) refl two).3

  once : Once (map (λ (r : TimeWait). r.number) time_waits)
  once = subst Once (sym seats.order) (given_once F apart table.time_wait_order (each_once table.time_wait_order kept.once))

  not_none : {X : Type 0} (o : Option X) (x : X) → o ≡ Some x → o ≡ None → ⊥
  not_none o x is none = none_some (sym none ∙ is)

  there : (j n : ℕ) → (o : Option (Option P)) → slice_get parts j ≡ o → number_in number o ≡ Some n → o ≡ None → ⊥
  there j n None at is none = none_some is
  there j n (Some o) at is none = cc

  -- the longest in TIME-WAIT slot is that of the first
  first_slot : (k : ℕ) (t : Tuple) (since : ℕ) (p : P) (r : TimeWait) (behind : List TimeWait) → time_waits ≡ r ∷ behind → Rise time_waits → InTimeWaitSince table.slots k t since → slice_get parts k ≡ Some (Some p)
      → Contains time_waits (record { number = number p; since = since }) → IsLongestInTimeWait table k → number p ≡ r.number
  first_slot k t since p r behind is rise rests_is at has longest =
      let found = first_found F table.time_wait_order r.number (map (λ (x : TimeWait). x.number) behind) (sym seats.order ∙ ap (map (λ (x : TimeWait). x.number)) is) in
      let i = found.0 in
      let j = found.1 in
      let gave = giver j r.number (slice_get table.slots j) refl found.3 in
      let other = rester j gave.0 gave.1 (slice_get parts j) refl (there j r.number (slice_get parts j) refl gave.3) gave.2 in
      let same_number : number other.0 ≡ r.number = some_same (number other.0) r.number (sym (ap (number_in number) other.1) ∙ gave.3) in
      let first_since : r.since ≡ gave.1 =
      ap (λ (x : TimeWait). x.since) (is_first r behind (record { number = number other.0; since = gave.1 }) (subst (λ (l : List TimeWait). Once (map (λ (y : TimeWait). y.number) l)) is once)
      (subst (λ (l : List TimeWait). Contains l (record { number = number other.0; since = gave.1 })) is other.2) same_number) in
      let slots_same : InTimeWait longest.tuple longest.since ≡ InTimeWait t since = some_same (InTimeWait longest.tuple longest.since) (InTimeWait t since) (sym longest.time_waits ∙ rests_is) in
      let since_same : longest.since ≡ since = resting_since longest.tuple t longest.since since slots_same in
      let lower : longest.since ≤ gave.1 = longest.longest j gave.0 gave.1 gave.2 in
      let upper : r.since ≤ since = least_first r behind (record { number = number p; since = since }) (subst Rise is rise)
      (subst (λ (l : List TimeWait). Contains l (record { number = number p; since = since })) is has) in
      let moments : gave.1 ≡ longest.since = both_ways gave.1 r.since since longest.since first_since since_same lower upper in
      let before = longest.first j gave.0 (subst (λ m. InTimeWaitSince table.slots j gave.0 m) moments gave.2) i found.2 in
      by_place before.0 i j found.2 found.3 found.4 before.1.0 before.1.1 (gives_number k p t since at rests_is)
    where
      resting_since : (t u : Tuple) (m n : ℕ) → InTimeWait t m ≡ InTimeWait u n → m ≡ n
      resting_since t u m n is = cc

      both_ways : (a b c d : ℕ) → b ≡ a → d ≡ c → d ≤ a → b ≤ c → a ≡ d
      both_ways a b c d one two three four = omega (arith, one, two, three, four)

      below : (a b : ℕ) → a ≤ b → (a == b) ≡ false → a < b
      below a b le not = grind (arith, nat_tests, le, not)

      by_place : (i2 i j : ℕ) → slice_get table.time_wait_order i ≡ Some j → F j ≡ Some r.number → ((i3 j3 : ℕ) → i3 < i → slice_get table.time_wait_order i3 ≡ Some j3 → F j3 ≡ None)
          → i2 ≤ i → slice_get table.time_wait_order i2 ≡ Some k → F k ≡ Some (number p) → number p ≡ r.number
      by_place i2 i j at_j gives earlier le at_k gives_k = elim (same_or_not i2 i) [
        | inl same ↦
            let one : k ≡ j = some_same k j (sym at_k ∙ ap (slice_get table.time_wait_order) same ∙ at_j) in
            some_same (number p) r.number (sym gives_k ∙ ap F one ∙ gives)
        | inr other ↦ absurd (none_some (sym (earlier i2 k (below i2 i le other) at_k) ∙ gives_k))
      ]

  beyond : {X Y : Type 0} (xs : List X) (ys : List Y) (k : ℕ) → length xs ≡ length ys → slice_get xs k ≡ None → slice_get ys k ≡ None
  beyond [] [] k same none = refl
  beyond [] (y ∷ ys) k same none = absurd (omega (arith, same))
  beyond (x ∷ xs) [] k same none = absurd (omega (arith, same))
  beyond (x ∷ xs) (y ∷ ys) zero same none = cc
  beyond (x ∷ xs) (y ∷ ys) (suc k) same none = beyond xs ys k (omega (arith, same)) none

  -- it has a part
  pub seats_part : (k : ℕ) → length parts ≡ length table.slots → Rise time_waits → (longest : IsLongestInTimeWait table k)
      → (p : P) × (slice_get parts k ≡ Some (Some p)) × Contains time_waits (record { number = number p; since = longest.since }) × (uses (flow_of (number p) all) ≡ false)
  seats_part k sizes rise longest = rester k longest.tuple longest.since (slice_get parts k) refl (λ none. none_some (sym (beyond parts table.slots k sizes none) ∙ longest.time_waits)) longest.time_waits

  -- It gives way: its slot is free, and the first of those in TIME-WAIT isn't in TIME-WAIT any more.
  pub seats_yielded : (k : ℕ) → length parts ≡ length table.slots → Rise time_waits → IsLongestInTimeWait table k
      → Seats number Follows (flows (set table.slots k Free) table.time_wait_order) (set parts k None) next all (drop 1 time_waits)
  seats_yielded k sizes rise longest =
      let p = seats_part k sizes rise longest in
      by_rests time_waits refl p.0 p.1 p.2 p.3
    where
      empty_has_none : (x : TimeWait) → Contains [] x → ⊥
      empty_has_none x has = absurd (omega (arith, has.1))

      by_rests : (l : List TimeWait) → time_waits ≡ l → (p : P) → slice_get parts k ≡ Some (Some p) → Contains time_waits (record { number = number p; since = longest.since }) → uses
          (flow_of (number p) all) ≡ false
          → Seats number Follows (flows (set table.slots k Free) table.time_wait_order) (set parts k None) next all (drop 1 time_waits)
      by_rests [] is p at has unused = absurd (empty_has_none (record { number = number p; since = longest.since })
          (subst (λ (l : List TimeWait). Contains l (record { number = number p; since = longest.since })) is has))
      by_rests (r ∷ behind) is p at has unused =
          let same : number p ≡ r.number = first_slot k longest.tuple longest.since p r behind is rise longest.time_waits at has longest in
          let left : without (number p) time_waits ≡ drop 1 time_waits =
          ap (λ n. without n time_waits) same ∙ ap (without r.number) is ∙ without_first r behind (subst (λ (l : List TimeWait). Once (map (λ (y : TimeWait). y.number) l)) is once) ∙ sym (ap (drop 1) is) in
          subst (λ (l : List TimeWait). Seats number Follows (flows (set table.slots k Free) table.time_wait_order) (set parts k None) next all l) left
          (seats_woken number Follows table parts next all all time_waits k p longest.tuple longest.since at longest.time_waits unused unused (only_none (number p) all) seats)
