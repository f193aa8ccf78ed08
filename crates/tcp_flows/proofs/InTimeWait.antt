-- Rests whose time is over end, in any order.
use Rattle.std.proofs.Common.{refl, ◌≡◌, ℕ, zero, suc, ◌+◌, ◌<◌, ◌≤◌, ◌==◌, ◌||◌, not, nat_lt, Bool, true, false, cond, List, [], ◌∷◌, filter, length, map, set, slice_get, Some, None}
use Rattle.std.proofs.Common.{Option, inl, inr, ap, sym, ◌∙◌, subst, arith}
use Rattle.std.specs.Prelude.{Contains, slice_index_or}
use Rattle.std.proofs.lemmas.Bool.Decides.{nat_tests}
use Rattle.std.proofs.lemmas.List.{length-set}
use Rattle.world_face.specs.Journal.{Entry}
use Rattle.slirp_settings.specs.Addresses.{Config}
use Rattle.spec_trace.specs.Moments.{moment}
use Rattle.spec_trace.specs.Sockets.{is_among, next_number}
use Rattle.flow_table.specs.Slots.{AreKept, Flows, flows}
use Rattle.flow_table.specs.declared.Slot.{Slot}
use Rattle.flow_table.specs.declared.Slot.TheVariants.{Free, InUse as SlotInUse, InTimeWait as SlotInTimeWait}
use Rattle.spec_flows.specs.declared.Tuple.{Tuple}
use Rattle.spec_flow.specs.Event.{Story}
use Rattle.spec_flows.specs.Book.{book, is_young, without}
use Rattle.spec_flows.specs.Flows.{Flow, TimeWait, flow_of, uses}
use Rattle.sim_flows.specs.FlowsHold.{FlowsState}
use Rattle.sim_flows.specs.Only.{Only}
use Rattle.sim_flows.specs.Seats.{IsSlotOf, Once, Seats, number_at, number_in, time_waits_at}
use Rattle.sim_flows.proofs.Counted.{each_once}
use Rattle.sim_flows.proofs.Seats.{differ, same_or_not}
use Rattle.sim_flows.proofs.Tables.{get_set_at, get_set_other}
use Rattle.sim_flows.proofs.Waking.{seats_woken}
use Rattle.sim_flows.proofs.Yielding.{given_once}
use Rattle.flow_splice.specs.Splice.{Splice}
use Rattle.sim_flows.specs.Core.{CoreHolds, Following, number_of}
use Rattle.sim_flows.proofs.Looking.{given}
use Rattle.sim_flows.proofs.Options.{none_some, some_same, true_false}
use Rattle.sim_flows.proofs.Known.{at_head, behind_head}
use Rattle.tcp_flows.specs.Kept.{Kept}
use Rattle.tcp_flows.specs.Runs.{Ending}

-- ---- lists of TIME-WAITs

abbrev numbers : List TimeWait → List ℕ
numbers time_waits = map (λ (r : TimeWait). r.number) time_waits

is_number : (n : ℕ) → (n == n) ≡ true
is_number n = grind (arith, nat_tests)

-- one of them has its number among theirs
pub among : (time_waits : List TimeWait) (x : TimeWait) (k : ℕ) → k < length time_waits → slice_index_or time_waits k x ≡ x → is_among x.number (numbers time_waits) ≡ true
among [] x k within at = absurd (omega (arith, within))
among (r ∷ time_waits) x zero within at = ap (λ (y : TimeWait). (x.number == y.number) || is_among x.number (numbers time_waits)) at ∙ ap (λ b. b || is_among x.number (numbers time_waits)) (is_number x.number)
among (r ∷ time_waits) x (suc k) within at = ap (λ b. (x.number == r.number) || b) (among time_waits x k (omega (arith, within)) at) ∙ or_true (x.number == r.number)
  where
    or_true : (b : Bool) → (b || true) ≡ true
    or_true true = refl
    or_true false = refl

-- where each number stands once, two with the same number are one
pub one_rest : (time_waits : List TimeWait) (x y : TimeWait) (i j : ℕ) → Once (numbers time_waits) → i < length time_waits → slice_index_or time_waits i x ≡ x → j < length time_waits →
    slice_index_or time_waits j y ≡ y → x.number ≡ y.number → x ≡ y
one_rest [] x y i j once a at b there same = absurd (omega (arith, a))
one_rest (r ∷ time_waits) x y zero zero once a at b there same = sym at ∙ there
one_rest (r ∷ time_waits) x y zero (suc j) once a at b there same =
    absurd (true_false (sym (among time_waits y j (omega (arith, b)) there) ∙ ap (λ n. is_among n (numbers time_waits)) (sym same ∙ sym (ap (λ (z : TimeWait). z.number) at)) ∙ once.0))
one_rest (r ∷ time_waits) x y (suc i) zero once a at b there same =
    absurd (true_false (sym (among time_waits x i (omega (arith, a)) at) ∙ ap (λ n. is_among n (numbers time_waits)) (same ∙ sym (ap (λ (z : TimeWait). z.number) there)) ∙ once.0))
one_rest (r ∷ time_waits) x y (suc i) (suc j) once a at b there same = one_rest time_waits x y i j once.1 (omega (arith, a)) at (omega (arith, b)) there same

-- one that is over leaves those that are young
pub young_without : (now n : ℕ) (time_waits : List TimeWait) → ((r : TimeWait) → Contains time_waits r → r.number ≡ n → is_young now r ≡ false) → filter (is_young now) (without n time_waits) ≡ filter (is_young now) time_waits
young_without now n [] over = refl
young_without now n (r ∷ time_waits) over = by (r.number == n) refl (young_without now n time_waits (λ x has. over x (behind_head r x time_waits has)))
  where
    equal : (a b : ℕ) → (a == b) ≡ true → a ≡ b
    equal a b is = grind (arith, nat_tests, is)

    by : (b : Bool) → (r.number == n) ≡ b → filter (is_young now) (without n time_waits) ≡ filter (is_young now) time_waits → filter (is_young now) (without n (r ∷ time_waits)) ≡ filter (is_young now) (r ∷ time_waits)
    by true here rest =
        ap (λ b. filter (is_young now) (cond (not b) (r ∷ without n time_waits) (without n time_waits))) here ∙ rest
        ∙ sym (ap (λ b. cond b (r ∷ filter (is_young now) time_waits) (filter (is_young now) time_waits)) (over r (at_head r time_waits) (equal r.number n here)))
    by false other rest =
        ap (λ b. filter (is_young now) (cond (not b) (r ∷ without n time_waits) (without n time_waits))) other
        ∙ ap (λ l. cond (is_young now r) (r ∷ l) l) rest

-- where all are young none is left out
pub all_young : (now : ℕ) (time_waits : List TimeWait) → ((r : TimeWait) → Contains time_waits r → is_young now r ≡ true) → filter (is_young now) time_waits ≡ time_waits
all_young now [] young = refl
all_young now (r ∷ time_waits) young =
    ap (λ b. cond b (r ∷ filter (is_young now) time_waits) (filter (is_young now) time_waits)) (young r (at_head r time_waits)) ∙ ap (λ l. r ∷ l) (all_young now time_waits (λ x has. young x (behind_head r x time_waits has)))

-- ---- TIME-WAITs and slots

module _ (Follows : Splice → Story → Type 0) (table : Flows) (parts : List (Option Splice)) (next : ℕ) (all : List Flow) (time_waits : List TimeWait)
    (seats : Seats number_of Follows table parts next all time_waits) (kept : AreKept table.slots table.time_wait_order) where
  abbrev F : ℕ → Option ℕ
  F k = time_waits_at (slice_get table.slots k) (number_at number_of parts k)

  -- what gives a number is a slot in TIME-WAIT
  pub giver : (j n : ℕ) (s : Option Slot) → slice_get table.slots j ≡ s → time_waits_at s (number_at number_of parts j) ≡ Some n
      → (t : Tuple) × (since : ℕ) × (slice_get table.slots j ≡ Some (SlotInTimeWait t since)) × (number_at number_of parts j ≡ Some n)
  giver j n None at is = absurd (none_some is)
  giver j n (Some Free) at is = absurd (none_some is)
  giver j n (Some (SlotInUse t)) at is = absurd (none_some is)
  giver j n (Some (SlotInTimeWait t since)) at is = (t, since, at, is)

  part_of_number : (o : Option (Option Splice)) (n : ℕ) → number_in number_of o ≡ Some n → (p : Splice) × (o ≡ Some (Some p)) × (number_of p ≡ n)
  part_of_number None n is = absurd (none_some is)
  part_of_number (Some None) n is = absurd (none_some is)
  part_of_number (Some (Some p)) n is = (p, refl, some_same (number_of p) n is)

  -- each number stands once
  pub each_number : Once (numbers time_waits)
  each_number =
      subst Once (sym seats.order)
      (given_once F (λ i j n one two. seats.numbers i j n (giver i n (slice_get table.slots i) refl one).3 (giver j n (slice_get table.slots j) refl two).3) table.time_wait_order
      (each_once table.time_wait_order kept.once))

  -- each that is in TIME-WAIT has its slot
  pub its_slot : (r : TimeWait) → Contains time_waits r → (k : ℕ) × (t : Tuple) × (slice_get table.slots k ≡ Some (SlotInTimeWait t r.since))
  its_slot r has =
      let gives = given F r.number table.time_wait_order (ap (is_among r.number) (sym seats.order) ∙ among time_waits r has.0 has.1 has.2) in
      let slot = giver gives.0 r.number (slice_get table.slots gives.0) refl gives.1 in
      let part = part_of_number (slice_get parts gives.0) r.number slot.3 in
      let seat = seats.seated gives.0 part.0 part.1 in
      let of_it = subst (IsSlotOf time_waits seat.0) (some_same seat.1 (SlotInTimeWait slot.0 slot.1) (sym seat.5 ∙ slot.2)) seat.6 in
      let same : record { number = seat.0.number; since = slot.1 } ≡ r = one_rest time_waits
      (record { number = seat.0.number; since = slot.1 }) r of_it.1.0 has.0 each_number of_it.1.1 of_it.1.2 has.1 has.2 (seat.3 ∙ part.2) in
      (gives.0, slot.0, slot.2 ∙ ap (λ (x : TimeWait). Some (SlotInTimeWait slot.0 x.since)) same)

  -- a slot in TIME-WAIT: its flow is in TIME-WAIT since the same moment
  pub its_rest : (k : ℕ) (p : Splice) (t : Tuple) (since : ℕ) → slice_get parts k ≡ Some (Some p) → slice_get table.slots k ≡ Some (SlotInTimeWait t since)
      → Contains time_waits (record { number = number_of p; since = since }) × (uses (flow_of (number_of p) all) ≡ false)
  its_rest k p t since at slot =
      let seat = seats.seated k p at in
      let of_it = subst (IsSlotOf time_waits seat.0) (some_same seat.1 (SlotInTimeWait t since) (sym seat.5 ∙ slot)) seat.6 in
      (subst (λ n. Contains time_waits (record { number = n; since = since })) seat.3 of_it.1, ap uses seat.2 ∙ of_it.2)

  -- those with a number of one that is over are over
  pub over_with : (now since n : ℕ) → Contains time_waits (record { number = n; since = since }) → since + 60000 ≤ now → (r : TimeWait) → Contains time_waits r → r.number ≡ n → is_young now r ≡ false
  over_with now since n had over r has same =
      let is : record { number = n; since = since } ≡ r = one_rest time_waits (record { number = n; since = since }) r had.0 has.0 each_number had.1 had.2 has.1 has.2 (sym same) in
      ap (is_young now) (sym is) ∙ not_young since over
    where
      not_young : (m : ℕ) → m + 60000 ≤ now → nat_lt now (m + 60000) ≡ false
      not_young m up = grind (arith, nat_tests, up)

-- ---- the core's relation

-- nothing has ended yet
pub ending_begins : (config : Config) (now : ℕ) (kept : Kept) (past : List Entry) → CoreHolds config now false None kept.flows past → Ending config now kept past
ending_begins config now kept past holds = record {
  time_waits = (book config past).time_waits;
  young = refl;
  seats = holds.seats;
  slots = holds.slots;
  opened = holds.opened;
  asked = holds.asked;
  learnt = holds.learnt;
}

-- all that are over have ended
pub ending_ends : (config : Config) (now : ℕ) (kept : Kept) (past : List Entry) → moment past ≡ now → AreKept kept.flows.table.slots kept.flows.table.time_wait_order
    → ((k : ℕ) (t : Tuple) (since : ℕ) → slice_get kept.flows.table.slots k ≡ Some (SlotInTimeWait t since) → now < since + 60000) → Ending config now kept past →
    CoreHolds config now true None kept.flows past
ending_ends config now kept past at are young ending = record {
  seats = subst (Seats number_of (Following config now) kept.flows.table kept.flows.slots (next_number past) (book config past).flows) rests_are ending.seats;
  slots = ending.slots;
  opened = ending.opened;
  asked = ending.asked;
  learnt = ending.learnt;
}
  where
    is : (m : ℕ) → now < m + 60000 → nat_lt now (m + 60000) ≡ true
    is m before = grind (arith, nat_tests, before)

    rests_are : ending.time_waits ≡ filter (is_young (moment past)) (book config past).time_waits
    rests_are =
        sym (all_young now ending.time_waits (λ r has.
        let slot = its_slot (Following config now) kept.flows.table kept.flows.slots (next_number past) (book config past).flows ending.time_waits ending.seats are r has in
        is r.since (young slot.0 slot.1 r.since slot.2)))
        ∙ ending.young ∙ ap (λ m. filter (is_young m) (book config past).time_waits) (sym at)

only_same : (n : ℕ) (all : List Flow) → Only n all all
only_same n all = record { same = refl; apart = λ other not. refl; differ = λ are. are; used = refl }

-- one has ended
pub ending_goes : (config : Config) (now : ℕ) (old new : Kept) (past : List Entry) (k since : ℕ) (p : Splice) (t : Tuple) → AreKept old.flows.table.slots old.flows.table.time_wait_order
    → slice_get old.flows.slots k ≡ Some (Some p) → slice_get old.flows.table.slots k ≡ Some (SlotInTimeWait t since) → since + 60000 ≤ now
    → new.flows ≡ record { table = flows (set old.flows.table.slots k Free) old.flows.table.time_wait_order; slots = set old.flows.slots k None; opened = old.flows.opened }
    → Ending config now old past → Ending config now new past
ending_goes config now old new past k since p t kept at slot over new_is ending =
    let table = old.flows.table in
    let parts = old.flows.slots in
    let all = (book config past).flows in
    let rest = its_rest (Following config now) table parts (next_number past) all ending.time_waits ending.seats kept k p t since at slot in
    let State : FlowsState Splice = record { table = flows (set table.slots k Free) table.time_wait_order; slots = set parts k None; opened = old.flows.opened } in
    record {
      time_waits = without (number_of p) ending.time_waits;
      young = young_without now (number_of p) ending.time_waits (over_with (Following config now) table parts (next_number past) all ending.time_waits ending.seats kept now since
          (number_of p) rest.0 over) ∙ ending.young;
      seats = subst (λ (s : FlowsState Splice). Seats number_of (Following config now) s.table s.slots (next_number past) all (without (number_of p) ending.time_waits)) (sym new_is)
          (seats_woken number_of (Following config now) table parts (next_number past) all all ending.time_waits k p t since at slot rest.1 rest.1 (only_same (number_of p) all) ending.seats);
      slots = ap (λ (s : FlowsState Splice). length s.table.slots) new_is ∙ length-set table.slots k Free ∙ ending.slots;
      opened = ending.opened ∙ sym (ap (λ (s : FlowsState Splice). s.opened) new_is);
      asked = ending.asked;
      learnt = λ j r f m here found is_mac. elim (same_or_not j k) [
        | inl at_k ↦ absurd (gone r (sym (get_set_at parts k (Some p) None at) ∙ subst (λ i. slice_get (set parts k None) i ≡ Some (Some r)) at_k
            (sym (ap (λ (s : FlowsState Splice). slice_get s.slots j) new_is) ∙ here)))
        | inr other ↦ ending.learnt j r f m (sym (get_set_other parts k j None (differ j k other)) ∙ sym (ap (λ (s : FlowsState Splice). slice_get s.slots j) new_is) ∙ here) found is_mac
      ];
    }
  where
    gone : (r : Splice) → ◌≡◌ {A = Option (Option Splice)} (Some None) (Some (Some r)) → ⊥
    gone r is = cc

-- ---- how many parts there are

abbrev pub parts_left : List (Option Splice) → ℕ
parts_left [] = 0
parts_left (None ∷ parts) = parts_left parts
parts_left (Some p ∷ parts) = suc (parts_left parts)

pub one_less : (parts : List (Option Splice)) (k : ℕ) (p : Splice) → slice_get parts k ≡ Some (Some p) → parts_left (set parts k None) < parts_left parts
one_less [] k p at = absurd cc
one_less (None ∷ parts) zero p at = absurd cc
one_less (Some q ∷ parts) zero p at = omega arith
one_less (None ∷ parts) (suc k) p at = one_less parts k p at
one_less (Some q ∷ parts) (suc k) p at = let rest = one_less parts k p at in omega (arith, rest)

-- before 60,000 milliseconds none is over
pub none_over : (config : Config) (now : ℕ) (kept : Kept) (past : List Entry) → moment past ≡ now → now < 60000 → CoreHolds config now false None kept.flows past →
    CoreHolds config now true None kept.flows past
none_over config now kept past at early holds = record {
  seats = subst (Seats number_of (Following config now) kept.flows.table kept.flows.slots (next_number past) (book config past).flows) (sym rests_are) holds.seats;
  slots = holds.slots;
  opened = holds.opened;
  asked = holds.asked;
  learnt = holds.learnt;
}
  where
    young : (m : ℕ) → nat_lt now (m + 60000) ≡ true
    young m = let before : now < m + 60000 = omega (arith, early) in grind (arith, nat_tests, before)

    rests_are : filter (is_young (moment past)) (book config past).time_waits ≡ (book config past).time_waits
    rests_are = ap (λ m. filter (is_young m) (book config past).time_waits) at ∙ all_young now (book config past).time_waits (λ r has. young r.since)
