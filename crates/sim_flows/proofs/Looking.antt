-- What the table of slots tells of a tuple is what the trace does: whether a flow on it is in use, or in TIME-WAIT.
use Rattle.std.proofs.Common.{◌≡◌, ℕ, zero, suc, ◌==◌, ◌||◌, Bool, true, false, cond, List, [], ◌∷◌, length, map, slice_get, Option, Some, None, option_map, option_and_then, refl, sym}
use Rattle.std.proofs.Common.{◌∙◌, ap, subst, arith}
use Rattle.std.proofs.lemmas.Bool.Decides.{nat_tests}
use Rattle.std.specs.Prelude.{filter_map, Contains}
use Rattle.std.specs.List.{cons_option, list_any}
use Rattle.flow_table.specs.Slots.{Flows, HasTuple, NoneHas, tuple_of}
use Rattle.flow_table.specs.declared.Slot.{Slot}
use Rattle.flow_table.specs.declared.Slot.TheVariants.{Free, InUse, InTimeWait}
use Rattle.spec_flows.specs.declared.Tuple.{Tuple}
use Rattle.spec_flow.specs.Event.{Story}
use Rattle.spec_flow.specs.Close.{is_in_use}
use Rattle.spec_trace.specs.Sockets.{is_among}
use Rattle.spec_flows.specs.Flows.{Flow, TimeWait, flow_of, is_on, is_used, owner, is_among_time_waits, uses}
use Rattle.spec_flows.specs.Segments.{same_tuple}
use Rattle.sim_flows.specs.Seats.{IsSlotOf, Seats, number_at, number_in, time_waits_at}
use Rattle.sim_flows.proofs.Only.{found_by}
use Rattle.sim_flows.proofs.Opening.{tuples_same}
use Rattle.sim_flows.proofs.Options.{none_some, some_same}

is_number : (n : ℕ) → (n == n) ≡ true
is_number n = grind (arith, nat_tests)

-- the flow that was opened last on a tuple has that tuple
pub owner_has : (t : Tuple) (flows : List Flow) (f : Flow) → owner t flows ≡ Some f → f.tuple ≡ t
owner_has t [] f is = absurd cc
owner_has t (g ∷ flows) f is = by (same_tuple g.tuple t) refl is (owner_has t flows f)
  where
    by : (b : Bool) → same_tuple g.tuple t ≡ b → cond b (Some g) (owner t flows) ≡ Some f → (owner t flows ≡ Some f → f.tuple ≡ t) → f.tuple ≡ t
    by true same is go_on = let one : g ≡ f = cc in ap (λ (h : Flow). h.tuple) (sym one) ∙ tuples_same g.tuple t same
    by false other is go_on = go_on is

pub part_of : {P : Type 0} (number : P → ℕ) (o : Option (Option P)) (n : ℕ) → number_in number o ≡ Some n → (p : P) × (o ≡ Some (Some p)) × (number p ≡ n)
part_of number None n is = absurd cc
part_of number (Some None) n is = absurd cc
part_of number (Some (Some p)) n is = (p, refl, cc)

-- a number that a row of options gives is given by one of them
module _ (F : ℕ → Option ℕ) where
  pub given : (n : ℕ) (xs : List ℕ) → is_among n (filter_map F xs) ≡ true → (j : ℕ) × (F j ≡ Some n)
  given n [] is = absurd cc
  given n (x ∷ xs) is = by_option (F x) refl is (given n xs)
    where
      equal : (a b : ℕ) → (a == b) ≡ true → a ≡ b
      equal a b is = grind (arith, nat_tests, is)

      by_test : (m : ℕ) (b : Bool) → (n == m) ≡ b → F x ≡ Some m → (b || is_among n (filter_map F xs)) ≡ true → (is_among n (filter_map F xs) ≡ true → (j : ℕ) × (F j ≡ Some n)) →
          (j : ℕ) × (F j ≡ Some n)
      by_test m true same gives is rest = (x, gives ∙ ap Some (sym (equal n m same)))
      by_test m false other gives is rest = rest is

      by_option : (o : Option ℕ) → F x ≡ o → is_among n (cons_option o (filter_map F xs)) ≡ true → (is_among n (filter_map F xs) ≡ true → (j : ℕ) × (F j ≡ Some n)) → (j : ℕ) × (F j ≡ Some n)
      by_option None gives is rest = rest is
      by_option (Some m) gives is rest = by_test m (n == m) refl gives is rest

-- a flow that is in TIME-WAIT has its number among those of the TIME-WAITs
pub among_rests : (n : ℕ) (time_waits : List TimeWait) → list_any (λ (r : TimeWait). r.number == n) time_waits ≡ true → is_among n (map (λ (r : TimeWait). r.number) time_waits) ≡ true
among_rests n [] is = cc
among_rests n (r ∷ time_waits) is = by (r.number == n) (turned r.number n) is (among_rests n time_waits) refl
  where
    turned : (a b : ℕ) → (b == a) ≡ (a == b)
    turned a b = grind (arith, nat_tests)

    by : (b : Bool) → (n == r.number) ≡ (r.number == n) → (b || list_any (λ (x : TimeWait). x.number == n) time_waits) ≡ true → (list_any (λ (x : TimeWait). x.number == n) time_waits ≡ true →
        is_among n (map (λ (x : TimeWait). x.number) time_waits) ≡ true)
        → (b ≡ (r.number == n)) → ((n == r.number) || is_among n (map (λ (x : TimeWait). x.number) time_waits)) ≡ true
    by true same is go_on b_is = ap (λ c. c || is_among n (map (λ (x : TimeWait). x.number) time_waits)) (same ∙ sym b_is)
    by false same is go_on b_is = ap (λ c. c || is_among n (map (λ (x : TimeWait). x.number) time_waits)) (same ∙ sym b_is) ∙ go_on is

-- and one among the TIME-WAITs is found there
pub rests_any : (r : TimeWait) (time_waits : List TimeWait) → Contains time_waits r → list_any (λ (x : TimeWait). x.number == r.number) time_waits ≡ true
rests_any r [] (i, below, at) = absurd (omega (arith, below))
rests_any r (x ∷ time_waits) (zero, below, at) = let one : x ≡ r = cc in ap (λ (y : TimeWait). (y.number == r.number) || list_any (λ (z : TimeWait). z.number == r.number) time_waits) one ∙ ap
    (λ b. b || list_any (λ (z : TimeWait). z.number == r.number) time_waits) (is_number r.number)
rests_any r (x ∷ time_waits) (suc i, below, at) = or_true (x.number == r.number) (list_any (λ (z : TimeWait). z.number == r.number) time_waits) (rests_any r time_waits (i, omega (arith, below), at))
  where
    or_true : (a b : Bool) → b ≡ true → (a || b) ≡ true
    or_true true b is = refl
    or_true false b is = is

module _ {P : Type 0} (number : P → ℕ) (Follows : P → Story → Type 0) (table : Flows) (parts : List (Option P)) (next : ℕ) (flows : List Flow) (time_waits : List TimeWait)
    (seats : Seats number Follows table parts next flows time_waits) (sizes : length parts ≡ length table.slots) where
  -- the slot of a number has the flow's tuple
  pub slot_of : (k n : ℕ) (f : Flow) → number_at number parts k ≡ Some n → flow_of n flows ≡ Some f → HasTuple table.slots k f.tuple
  slot_of k n f at found =
      let part = part_of number (slice_get parts k) n at in
      let seat = seats.seated k part.0 part.1 in
      let one : seat.0 ≡ f = some_same seat.0 f (sym seat.2 ∙ ap (λ m. flow_of m flows) part.2 ∙ found) in
      ap (option_and_then tuple_of) seat.5 ∙ by seat.1 (subst (λ (x : Flow). IsSlotOf time_waits x seat.1) one seat.6)
    where
      by : (s : Slot) → IsSlotOf time_waits f s → tuple_of s ≡ Some f.tuple
      by Free of_it = absurd of_it
      by (InUse t) of_it = ap Some (sym of_it.0)
      by (InTimeWait t since) of_it = ap Some (sym of_it.0)

  -- the owner of a tuple, by its number
  owner_found : (t : Tuple) (f : Flow) → owner t flows ≡ Some f → flow_of f.number flows ≡ Some f
  owner_found t f is = found_by (is_on t) flows f seats.differ is

  module _ (t : Tuple) (none : NoneHas table.slots t) where
    unused : (o : Option Flow) → owner t flows ≡ o → (b : Bool) → uses o ≡ b → b ≡ false
    unused o is false u = refl
    unused None is true u = cc
    unused (Some f) is true u =
        let found = owner_found t f is in
        let had = seats.found f.number (ap uses found ∙ u) in
        absurd (none had.0 (slot_of had.0 f.number f had.1 found ∙ ap Some (owner_has t flows f is)))

    awake : (o : Option Flow) → owner t flows ≡ o → (b : Bool) → is_among_time_waits time_waits o ≡ b → b ≡ false
    awake o is false r = refl
    awake None is true r = cc
    awake (Some f) is true r =
        let among = ap (is_among f.number) (sym seats.order) ∙ among_rests f.number time_waits r in
        let had = given (λ k. time_waits_at (slice_get table.slots k) (number_at number parts k)) f.number table.time_wait_order among in
        absurd (none had.0 (slot_of had.0 f.number f (by (slice_get table.slots had.0) had.1) (owner_found t f is) ∙ ap Some (owner_has t flows f is)))
      where
        by : {o : Option ℕ} (s : Option Slot) → time_waits_at s o ≡ Some f.number → o ≡ Some f.number
        by None gives = absurd (none_some gives)
        by (Some Free) gives = absurd (none_some gives)
        by (Some (InUse u)) gives = absurd (none_some gives)
        by (Some (InTimeWait u since)) gives = gives

    -- where no slot has the tuple, no flow on it is in use or in TIME-WAIT
    pub none_used : is_used t flows ≡ false
    none_used = unused (owner t flows) refl (uses (owner t flows)) refl

    pub none_rests : is_among_time_waits time_waits (owner t flows) ≡ false
    none_rests = awake (owner t flows) refl (is_among_time_waits time_waits (owner t flows)) refl

  -- the part in a slot that has a tuple
  part_in : (k : ℕ) (s : Slot) → slice_get table.slots k ≡ Some s → (s ≡ Free → ⊥) → (p : P) × (slice_get parts k ≡ Some (Some p))
  part_in k s at not = by (slice_get parts k) refl
    where
      both : {X Y : Type 0} (xs : List X) (ys : List Y) (k : ℕ) (y : Y) → length xs ≡ length ys → slice_get ys k ≡ Some y → slice_get xs k ≡ None → ⊥
      both xs [] k y same at none = cc
      both [] (z ∷ ys) k y same at none = cc
      both (x ∷ xs) (z ∷ ys) zero y same at none = cc
      both (x ∷ xs) (z ∷ ys) (suc k) y same at none = both xs ys k y (less same) at none
        where
          less : suc (length xs) ≡ suc (length ys) → length xs ≡ length ys
          less is = cc

      by : (o : Option (Option P)) → slice_get parts k ≡ o → (p : P) × (slice_get parts k ≡ Some (Some p))
      by (Some (Some p)) is = (p, is)
      by (Some None) is = absurd (not (some_same s Free (sym at ∙ seats.empty k is)))
      by None is = absurd (both parts table.slots k s sizes at is)

  -- the owner of the tuple of a slot is the flow of the part
  owner_at : (k : ℕ) (p : P) (f : Flow) → slice_get parts k ≡ Some (Some p) → flow_of (number p) flows ≡ Some f → owner f.tuple flows ≡ Some f
  owner_at k p f at found = by (owner f.tuple flows) refl (seats.owned k (number p) f.tuple (ap (number_in number) at) (ap (option_map (λ (g : Flow). g.tuple)) found))
    where
      by : (o : Option Flow) → owner f.tuple flows ≡ o → option_map (λ (g : Flow). g.number) o ≡ Some (number p) → owner f.tuple flows ≡ Some f
      by None is has = cc
      by (Some g) is has =
          let same : g.number ≡ number p = some_same g.number (number p) has in
          is ∙ ap Some (some_same g f (sym (owner_found f.tuple g is) ∙ ap (λ n. flow_of n flows) same ∙ found))

  -- a slot in use: so is the flow on its tuple
  pub slot_used : (k : ℕ) (t : Tuple) → slice_get table.slots k ≡ Some (InUse t) → (p : P) × (f : Flow) × (slice_get parts k ≡ Some (Some p)) ×
      (flow_of (number p) flows ≡ Some f) × (owner t flows ≡ Some f) × (is_in_use f.story ≡ true)
  slot_used k t at =
      let part = part_in k (InUse t) at (λ is. cc) in
      let seat = seats.seated k part.0 part.1 in
      let of_it = subst (λ (s : Slot). IsSlotOf time_waits seat.0 s) (some_same seat.1 (InUse t) (sym seat.5 ∙ at)) seat.6 in
      (part.0, seat.0, part.1, seat.2, ap (λ u. owner u flows) (sym of_it.0) ∙ owner_at k part.0 seat.0 part.1 seat.2, of_it.1)

  -- a slot in TIME-WAIT: so is the flow on its tuple
  pub slot_rests : (k : ℕ) (t : Tuple) (since : ℕ) → slice_get table.slots k ≡ Some (InTimeWait t since)
      → (p : P) × (f : Flow) × (slice_get parts k ≡ Some (Some p)) × (flow_of (number p) flows ≡ Some f) × (owner t flows ≡ Some f) × (is_in_use f.story ≡ false) ×
      (is_among_time_waits time_waits (owner t flows) ≡ true)
  slot_rests k t since at =
      let part = part_in k (InTimeWait t since) at (λ is. cc) in
      let seat = seats.seated k part.0 part.1 in
      let of_it = subst (λ (s : Slot). IsSlotOf time_waits seat.0 s) (some_same seat.1 (InTimeWait t since) (sym seat.5 ∙ at)) seat.6 in
      let own : owner t flows ≡ Some seat.0 = ap (λ u. owner u flows) (sym of_it.0) ∙ owner_at k part.0 seat.0 part.1 seat.2 in
      (part.0, seat.0, part.1, seat.2, own, of_it.2, ap (is_among_time_waits time_waits) own ∙ rests_any (record { number = seat.0.number; since = since }) time_waits of_it.1)
