-- Numbers from 0 on, each once and in any order: what they sum up to; and how many slots are in TIME-WAIT.
use Rattle.std.proofs.Common.{◌≡◌, ℕ, zero, suc, ◌+◌, ◌<◌, ◌≤◌, ◌==◌, ◌||◌, Bool, true, false, List, [], ◌∷◌, length, map, slice_get, Option, Some, None, inl, inr, refl, sym, ◌∙◌, ap, subst, arith}
use Rattle.std.proofs.lemmas.Bool.Decides.{nat_tests}
use Rattle.std.specs.Prelude.{filter_map}
use Rattle.std.specs.List.{cons_option}
use Rattle.flow_table.specs.Slots.{AreKept, Flows, IsFree, NoneIsFree, Stands, Once as EachOnce}
use Rattle.flow_table.specs.declared.Slot.{Slot}
use Rattle.flow_table.specs.declared.Slot.TheVariants.{Free, InUse, InTimeWait}
use Rattle.spec_flow.specs.Event.{Story}
use Rattle.spec_trace.specs.Sockets.{is_among}
use Rattle.spec_flows.specs.Flows.{Flow, TimeWait, used}
use Rattle.sim_flows.specs.Seats.{count_used, in_use_slots, number_in, number_at, time_waits_at, Once, Seats}
use Rattle.sim_flows.proofs.Seats.{same_or_not}
use Rattle.sim_flows.proofs.Turning.{without_one, without_head, without_tail, gone}

-- ---- members

is_number : (n : ℕ) → (n == n) ≡ true
is_number n = grind (arith, nat_tests)

equal : (a b : ℕ) → (a == b) ≡ true → a ≡ b
equal a b is = grind (arith, nat_tests, is)

turned : (a b : ℕ) → (a == b) ≡ false → (b == a) ≡ false
turned a b is = grind (arith, nat_tests, is)

pub among_stands : (k : ℕ) (turns : List ℕ) → is_among k turns ≡ true → Stands turns k
among_stands k [] is = absurd cc
among_stands k (x ∷ turns) is = by_test (k == x) refl is (among_stands k turns)
  where
    by_test : (b : Bool) → (k == x) ≡ b → (b || is_among k turns) ≡ true → (is_among k turns ≡ true → Stands turns k) → Stands (x ∷ turns) k
    by_test true same is rest = (0, ap Some (sym (equal k x same)))
    by_test false other is rest = let at = rest is in (suc at.0, at.1)

pub stands_among : (k : ℕ) (turns : List ℕ) → Stands turns k → is_among k turns ≡ true
stands_among k turns at = by_place turns at.0 at.1
  where
    or_true : (b : Bool) → (b || true) ≡ true
    or_true true = refl
    or_true false = refl

    by_place : (turns : List ℕ) (i : ℕ) → slice_get turns i ≡ Some k → is_among k turns ≡ true
    by_place [] i is = absurd cc
    by_place (x ∷ turns) zero is = let same : x ≡ k = cc in ap (λ n. (k == n) || is_among k turns) same ∙ ap (λ b. b || is_among k turns) (is_number k)
    by_place (x ∷ turns) (suc i) is = ap (λ b. (k == x) || b) (by_place turns i is) ∙ or_true (k == x)

pub each_once : (turns : List ℕ) → EachOnce turns → Once turns
each_once [] once = tt
each_once (k ∷ turns) once = (not_true (is_among k turns) (λ is. once.0 (among_stands k turns is)), each_once turns once.1)
  where
    not_true : (b : Bool) → (b ≡ true → ⊥) → b ≡ false
    not_true true not = absurd (not refl)
    not_true false not = refl

-- ---- the list without one of them

among_behind : (k m x : ℕ) (xs : List ℕ) → is_among k xs ≡ true → is_among k (x ∷ xs) ≡ true
among_behind k m x xs is = ap (λ b. (k == x) || b) is ∙ or_true (k == x)
  where
    or_true : (b : Bool) → (b || true) ≡ true
    or_true true = refl
    or_true false = refl

among_before : (k m : ℕ) (xs : List ℕ) → is_among k (without_one m xs) ≡ true → is_among k xs ≡ true
among_before k m [] is = is
among_before k m (x ∷ xs) is = by_test (x == m) refl (among_before k m xs)
  where
    either : (a b c : Bool) → (b ≡ true → c ≡ true) → (a || b) ≡ true → (a || c) ≡ true
    either true b c go is = refl
    either false b c go is = go is

    by_test : (b : Bool) → (x == m) ≡ b → (is_among k (without_one m xs) ≡ true → is_among k xs ≡ true) → is_among k (x ∷ xs) ≡ true
    by_test true same rest = among_behind k m x xs (sym (ap (is_among k) (without_head m x xs same)) ∙ is)
    by_test false other rest = either (k == x) (is_among k (without_one m xs)) (is_among k xs) rest (sym (ap (is_among k) (without_tail m x xs other)) ∙ is)

among_after : (k m : ℕ) (xs : List ℕ) → (k == m) ≡ false → is_among k xs ≡ true → is_among k (without_one m xs) ≡ true
among_after k m [] apart is = is
among_after k m (x ∷ xs) apart is = by_test (x == m) refl (among_after k m xs apart)
  where
    either : (a b c : Bool) → (b ≡ true → c ≡ true) → (a || b) ≡ true → (a || c) ≡ true
    either true b c go is = refl
    either false b c go is = go is

    not_here : (a b : Bool) → a ≡ false → (a || b) ≡ true → b ≡ true
    not_here true b off is = cc
    not_here false b off is = is

    by_test : (b : Bool) → (x == m) ≡ b → (is_among k xs ≡ true → is_among k (without_one m xs) ≡ true) → is_among k (without_one m (x ∷ xs)) ≡ true
    by_test true same rest =
        ap (is_among k) (without_head m x xs same) ∙ not_here (k == x) (is_among k xs) (ap (λ n. k == n) (equal x m same) ∙ apart) is
    by_test false other rest = ap (is_among k) (without_tail m x xs other) ∙ either (k == x) (is_among k xs) (is_among k (without_one m xs)) rest is

once_without : (m : ℕ) (xs : List ℕ) → Once xs → Once (without_one m xs)
once_without m [] once = once
once_without m (x ∷ xs) once = by_test (x == m) refl (once_without m xs once.1)
  where
    off : (b c : Bool) → (b ≡ true → c ≡ true) → c ≡ false → b ≡ false
    off true c go is = absurd (not_both (sym (go refl) ∙ is))
      where
        not_both : true ≡ false → ⊥
        not_both is = cc
    off false c go is = refl

    by_test : (b : Bool) → (x == m) ≡ b → Once (without_one m xs) → Once (without_one m (x ∷ xs))
    by_test true same rest = subst Once (sym (without_head m x xs same)) once.1
    by_test false other rest = subst Once (sym (without_tail m x xs other)) (off (is_among x (without_one m xs)) (is_among x xs) (among_before x m xs) once.0, rest)

length_without : (m : ℕ) (xs : List ℕ) → is_among m xs ≡ true → length xs ≡ suc (length (without_one m xs))
length_without m [] is = absurd cc
length_without m (x ∷ xs) is = by_test (x == m) refl (length_without m xs)
  where
    not_here : (a b : Bool) → a ≡ false → (a || b) ≡ true → b ≡ true
    not_here true b off is = cc
    not_here false b off is = is

    by_test : (b : Bool) → (x == m) ≡ b → (is_among m xs ≡ true → length xs ≡ suc (length (without_one m xs))) → length (x ∷ xs) ≡ suc (length (without_one m (x ∷ xs)))
    by_test true same rest = ap (λ (ys : List ℕ). suc (length ys)) (sym (without_head m x xs same))
    by_test false other rest =
        ap suc (rest (not_here (m == x) (is_among m xs) (turned x m other) is)) ∙ ap (λ (ys : List ℕ). suc (length ys)) (sym (without_tail m x xs other))

-- two lists with the same numbers, each once, are of one length
pub as_many_stand : (xs ys : List ℕ) → Once xs → Once ys → ((n : ℕ) → is_among n xs ≡ true → is_among n ys ≡ true) → ((n : ℕ) → is_among n ys ≡ true → is_among n xs ≡ true) →
    length xs ≡ length ys
as_many_stand [] [] once other all back = refl
as_many_stand [] (y ∷ ys) once other all back = absurd (none (back y (ap (λ b. b || is_among y ys) (is_number y))))
  where
    none : false ≡ true → ⊥
    none is = cc
as_many_stand (x ∷ xs) ys once other all back =
    ap suc (as_many_stand xs (without_one x ys) once.1 (once_without x ys other) there here) ∙ sym (length_without x ys (all x (ap (λ b. b || is_among x xs) (is_number x))))
  where
    not_both : false ≡ true → ⊥
    not_both is = cc

    not_here : (a b : Bool) → a ≡ false → (a || b) ≡ true → b ≡ true
    not_here true b off is = cc
    not_here false b off is = is

    there : (n : ℕ) → is_among n xs ≡ true → is_among n (without_one x ys) ≡ true
    there n is = elim (same_or_not n x) [
      | inl same ↦ absurd (not_both (sym once.0 ∙ ap (λ m. is_among m xs) (sym same) ∙ is))
      | inr apart ↦ among_after n x ys apart (all n (among_behind n x x xs is))
    ]

    here : (n : ℕ) → is_among n (without_one x ys) ≡ true → is_among n xs ≡ true
    here n is = elim (same_or_not n x) [
      | inl same ↦ absurd (not_both (sym (gone x ys other) ∙ ap (λ m. is_among m (without_one x ys)) (sym same) ∙ is))
      | inr apart ↦ not_here (n == x) (is_among n xs) apart (back n (among_before n x ys is))
    ]

-- ---- sums

abbrev pub sum_over : (ℕ → ℕ) → List ℕ → ℕ
sum_over w [] = 0
sum_over w (x ∷ xs) = w x + sum_over w xs

abbrev pub sum_to : (ℕ → ℕ) → ℕ → ℕ
sum_to w zero = 0
sum_to w (suc n) = w n + sum_to w n

module _ (w : ℕ → ℕ) where
  split : (m : ℕ) (xs : List ℕ) → is_among m xs ≡ true → sum_over w xs ≡ w m + sum_over w (without_one m xs)
  split m [] is = absurd cc
  split m (x ∷ xs) is = by_test (x == m) refl (split m xs)
    where
      not_here : (a b : Bool) → a ≡ false → (a || b) ≡ true → b ≡ true
      not_here true b off is = cc
      not_here false b off is = is

      over : (a b c d e : ℕ) → b ≡ c + d → e ≡ a + d → a + b ≡ c + e
      over a b c d e one two = omega (arith, one, two)

      by_test : (b : Bool) → (x == m) ≡ b → (is_among m xs ≡ true → sum_over w xs ≡ w m + sum_over w (without_one m xs)) → sum_over w (x ∷ xs) ≡ w m + sum_over w (without_one m (x ∷ xs))
      by_test true same rest = ap (λ n. w n + sum_over w xs) (equal x m same) ∙ sym (ap (λ ys. w m + sum_over w ys) (without_head m x xs same))
      by_test false other rest =
          over (w x) (sum_over w xs) (w m) (sum_over w (without_one m xs)) (sum_over w (without_one m (x ∷ xs)))
          (rest (not_here (m == x) (is_among m xs) (turned x m other) is)) (ap (sum_over w) (without_tail m x xs other))

  -- each number below n stands once, and no other
  pub sum_is : (n : ℕ) (xs : List ℕ) → Once xs → ((k : ℕ) → is_among k xs ≡ true → k < n) → ((k : ℕ) → k < n → is_among k xs ≡ true) → sum_over w xs ≡ sum_to w n
  sum_is zero [] once within all = refl
  sum_is zero (x ∷ xs) once within all = absurd (none (within x (ap (λ b. b || is_among x xs) (is_number x))))
    where
      none : x < 0 → ⊥
      none is = omega (arith, is)
  sum_is (suc m) xs once within all =
      split m xs (all m (omega arith))
      ∙ ap (λ n. w m + n) (sum_is m (without_one m xs) (once_without m xs once)
      (λ k is. below k (within k (among_before k m xs is)) (apart k is))
      (λ k is. among_after k m xs (other k is) (all k (omega (arith, is)))))
    where
      apart : (k : ℕ) → is_among k (without_one m xs) ≡ true → (k == m) ≡ false
      apart k is = elim (same_or_not k m) [
        | inl same ↦ absurd (not_both (sym (gone m xs once) ∙ ap (λ n. is_among n (without_one m xs)) (sym same) ∙ is))
        | inr not ↦ not
      ]
        where
          not_both : false ≡ true → ⊥
          not_both is = cc

      below : (k : ℕ) → k < suc m → (k == m) ≡ false → k < m
      below k is not = grind (arith, nat_tests, is, not)

      other : (k : ℕ) → k < m → (k == m) ≡ false
      other k is = grind (arith, nat_tests, is)

-- the first comes off
sum_shift : (w : ℕ → ℕ) (n : ℕ) → sum_to w (suc n) ≡ w 0 + sum_to (λ j. w (suc j)) n
sum_shift w zero = refl
sum_shift w (suc n) = over (w (suc n)) (sum_to w (suc n)) (w 0) (sum_to (λ j. w (suc j)) n) (sum_shift w n)
  where
    over : (a b c d : ℕ) → b ≡ c + d → a + b ≡ c + (a + d)
    over a b c d is = omega (arith, is)

sum_same : (v w : ℕ → ℕ) (n : ℕ) → ((k : ℕ) → k < n → v k ≡ w k) → sum_to v n ≡ sum_to w n
sum_same v w zero same = refl
sum_same v w (suc n) same = over (v n) (w n) (sum_to v n) (sum_to w n) (same n (omega arith)) (sum_same v w n (λ k is. same k (omega (arith, is))))
  where
    over : (a b c d : ℕ) → a ≡ b → c ≡ d → a + c ≡ b + d
    over a b c d one two = omega (arith, one, two)

-- ---- slots

abbrev pub count_in_time_wait : Slot → ℕ → ℕ
count_in_time_wait (InTimeWait t since) n = suc n
count_in_time_wait _ n = n

abbrev pub slots_in_time_wait : List Slot → ℕ
slots_in_time_wait [] = 0
slots_in_time_wait (s ∷ slots) = count_in_time_wait s (slots_in_time_wait slots)

abbrev pub one_at_rest : Option Slot → ℕ
one_at_rest (Some (InTimeWait t since)) = 1
one_at_rest _ = 0

resting_sum : (slots : List Slot) → sum_to (λ k. one_at_rest (slice_get slots k)) (length slots) ≡ slots_in_time_wait slots
resting_sum [] = refl
resting_sum (s ∷ slots) =
    sum_shift (λ k. one_at_rest (slice_get (s ∷ slots) k)) (length slots) ∙ ap (λ n. one_at_rest (Some s) + n) (resting_sum slots) ∙ adds s (slots_in_time_wait slots)
  where
    adds : (s : Slot) (n : ℕ) → one_at_rest (Some s) + n ≡ count_in_time_wait s n
    adds Free n = omega arith
    adds (InUse t) n = omega arith
    adds (InTimeWait t since) n = omega arith

-- a slot is in use, in TIME-WAIT, or free
pub all_used : (slots : List Slot) → NoneIsFree slots → in_use_slots slots + slots_in_time_wait slots ≡ length slots
all_used [] none = refl
all_used (s ∷ slots) none = by_slot s (none 0) (all_used slots (λ k is. none (suc k) is))
  where
    by_slot : (s : Slot) → (Some s ≡ Some Free → ⊥) → in_use_slots slots + slots_in_time_wait slots ≡ length slots → count_used s (in_use_slots slots) + count_in_time_wait s
        (slots_in_time_wait slots) ≡ suc (length slots)
    by_slot Free not rest = absurd (not refl)
    by_slot (InUse t) not rest = omega (arith, rest)
    by_slot (InTimeWait t since) not rest = omega (arith, rest)

at_most : (slots : List Slot) → in_use_slots slots + slots_in_time_wait slots ≤ length slots
at_most [] = omega arith
at_most (s ∷ slots) = by_slot s (at_most slots)
  where
    by_slot : (s : Slot) → in_use_slots slots + slots_in_time_wait slots ≤ length slots → count_used s (in_use_slots slots) + count_in_time_wait s (slots_in_time_wait slots) ≤ suc (length slots)
    by_slot Free rest = omega (arith, rest)
    by_slot (InUse t) rest = omega (arith, rest)
    by_slot (InTimeWait t since) rest = omega (arith, rest)

pub one_free : (slots : List Slot) (k : ℕ) → IsFree slots k → in_use_slots slots + slots_in_time_wait slots < length slots
one_free [] k is = absurd cc
one_free (s ∷ slots) zero is = let free : s ≡ Free = cc in by_slot s free (at_most slots)
  where
    by_slot : (s : Slot) → s ≡ Free → in_use_slots slots + slots_in_time_wait slots ≤ length slots → count_used s (in_use_slots slots) + count_in_time_wait s (slots_in_time_wait slots) < suc (length slots)
    by_slot Free is rest = omega (arith, rest)
    by_slot (InUse t) is rest = absurd cc
    by_slot (InTimeWait t since) is rest = absurd cc
one_free (s ∷ slots) (suc k) is = by_slot s (one_free slots k is)
  where
    by_slot : (s : Slot) → in_use_slots slots + slots_in_time_wait slots < length slots → count_used s (in_use_slots slots) + count_in_time_wait s (slots_in_time_wait slots) < suc (length slots)
    by_slot Free rest = omega (arith, rest)
    by_slot (InUse t) rest = omega (arith, rest)
    by_slot (InTimeWait t since) rest = omega (arith, rest)

-- ---- TIME-WAITs

abbrev if_some : Option ℕ → ℕ
if_some None = 0
if_some (Some n) = 1

filtered : (F : ℕ → Option ℕ) (xs : List ℕ) → length (filter_map F xs) ≡ sum_over (λ k. if_some (F k)) xs
filtered F [] = refl
filtered F (x ∷ xs) = by_option (F x) ∙ ap (λ n. if_some (F x) + n) (filtered F xs)
  where
    by_option : (o : Option ℕ) → length (cons_option o (filter_map F xs)) ≡ if_some o + length (filter_map F xs)
    by_option None = omega arith
    by_option (Some y) = omega arith

-- as many flows are in TIME-WAIT as slots
pub rests_counted : {P : Type 0} (number : P → ℕ) (Follows : P → Story → Type 0) (table : Flows) (parts : List (Option P)) (next : ℕ) (flows : List Flow) (time_waits : List TimeWait)
    → Seats number Follows table parts next flows time_waits → AreKept table.slots table.time_wait_order → length parts ≡ length table.slots → length time_waits ≡ slots_in_time_wait table.slots
rests_counted {P} number Follows table parts next flows time_waits seats kept sizes =
    lengths time_waits ∙ ap length seats.order ∙ filtered F table.time_wait_order
    ∙ sum_is (λ k. if_some (F k)) (length table.slots) table.time_wait_order (each_once table.time_wait_order kept.once)
    (λ k is. let at = among_stands k table.time_wait_order is in kept.within at.0 k at.1) (λ k is. stands_among k table.time_wait_order (kept.all k is))
    ∙ sum_same (λ k. if_some (F k)) (λ k. one_at_rest (slice_get table.slots k)) (length table.slots) same ∙ resting_sum table.slots
  where
    F : ℕ → Option ℕ
    F k = time_waits_at (slice_get table.slots k) (number_at number parts k)

    lengths : (time_waits : List TimeWait) → length time_waits ≡ length (map (λ (r : TimeWait). r.number) time_waits)
    lengths [] = refl
    lengths (r ∷ time_waits) = ap suc (lengths time_waits)

    there : {X : Type 0} (xs : List X) (k : ℕ) → k < length xs → (x : X) × (slice_get xs k ≡ Some x)
    there [] k is = absurd (omega (arith, is))
    there (x ∷ xs) zero is = (x, refl)
    there (x ∷ xs) (suc k) is = there xs k (omega (arith, is))

    by_part : (s : Option Slot) (o : Option P) → (o ≡ None → s ≡ Some Free) → if_some (time_waits_at s (number_in number (Some o))) ≡ one_at_rest s
    by_part None o free = refl
    by_part (Some Free) o free = refl
    by_part (Some (InUse t)) o free = refl
    by_part (Some (InTimeWait t since)) (Some p) free = refl
    by_part (Some (InTimeWait t since)) None free = absurd (not_free (free refl))
      where
        not_free : Some (InTimeWait t since) ≡ Some Free → ⊥
        not_free is = cc

    same : (k : ℕ) → k < length table.slots → if_some (F k) ≡ one_at_rest (slice_get table.slots k)
    same k is =
        let part = there parts k (subst (λ n. k < n) (sym sizes) is) in
        ap (λ o. if_some (time_waits_at (slice_get table.slots k) (number_in number o))) part.1
        ∙ by_part (slice_get table.slots k) part.0 (λ none. seats.empty k (part.1 ∙ ap Some none))

-- Where no slot is free the flows that are in use or in TIME-WAIT are as many as slots, and fewer where one is.
pub full : {P : Type 0} (number : P → ℕ) (Follows : P → Story → Type 0) (table : Flows) (parts : List (Option P)) (next : ℕ) (flows : List Flow) (time_waits : List TimeWait)
    → Seats number Follows table parts next flows time_waits → AreKept table.slots table.time_wait_order → length parts ≡ length table.slots → NoneIsFree table.slots
    → used flows + length time_waits ≡ length table.slots
full number Follows table parts next flows time_waits seats kept sizes none =
    sums (used flows) (in_use_slots table.slots) (length time_waits) (slots_in_time_wait table.slots) seats.counted
    (rests_counted number Follows table parts next flows time_waits seats kept sizes) ∙ all_used table.slots none
  where
    sums : (a b c d : ℕ) → a ≡ b → c ≡ d → a + c ≡ b + d
    sums a b c d one two = omega (arith, one, two)

pub has_room : {P : Type 0} (number : P → ℕ) (Follows : P → Story → Type 0) (table : Flows) (parts : List (Option P)) (next : ℕ) (flows : List Flow) (time_waits : List TimeWait) (k : ℕ)
    → Seats number Follows table parts next flows time_waits → AreKept table.slots table.time_wait_order → length parts ≡ length table.slots → IsFree table.slots k
    → used flows + length time_waits < length table.slots
has_room number Follows table parts next flows time_waits k seats kept sizes free =
    sums (used flows) (in_use_slots table.slots) (length time_waits) (slots_in_time_wait table.slots) (length table.slots) seats.counted
    (rests_counted number Follows table parts next flows time_waits seats kept sizes) (one_free table.slots k free)
  where
    sums : (a b c d n : ℕ) → a ≡ b → c ≡ d → b + d < n → a + c < n
    sums a b c d n one two is = omega (arith, one, two, is)
