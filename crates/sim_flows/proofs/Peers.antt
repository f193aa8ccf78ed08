-- As many flows in use were accepted as the slots tell.
use Rattle.std.proofs.Common.{◌≡◌, ℕ, zero, suc, ◌+◌, ◌==◌, ◌&&◌, ◌||◌, nat_lt, Bool, true, false, cond, List, [], ◌∷◌, length, map, filter, slice_get, Option, Some, None, if◌then◌else◌, refl, sym}
use Rattle.std.proofs.Common.{◌∙◌, ap, subst, arith}
use Rattle.std.proofs.lemmas.List.{length-map}
use Rattle.flow_table.specs.declared.Slot.{Slot}
use Rattle.flow_table.specs.declared.Slot.TheVariants.{Free, InUse, InTimeWait}
use Rattle.spec_flows.specs.declared.Tuple.{Tuple}
use Rattle.world_face.specs.Journal.{Call, Entry}
use Rattle.slirp_settings.specs.Addresses.{Config}
use Rattle.spec_flow.specs.Close.{is_in_use}
use Rattle.spec_flow.specs.Flow.{is_accepted}
use Rattle.spec_trace.specs.Sockets.{is_among}
use Rattle.spec_flows.specs.Book.{book}
use Rattle.rules_flow.specs.Choices.{most_for_peers}
use Rattle.spec_flows.specs.Flows.{Flow, TimeWait, flow_of, has_room_for_peer, uses}
use Rattle.spec_flows.specs.Said.{Differ}
use Rattle.spec_run.proofs.Bools.{equal, same, turned}
use Rattle.flow_splice.specs.Splice.{Splice}
use Rattle.sim_flows.specs.Asked.{AreAsked, was_accepted}
use Rattle.sim_flows.specs.Core.{CoreHolds, number_of}
use Rattle.sim_flows.specs.FlowsHold.{FlowsState, time_waits_at}
use Rattle.sim_flows.specs.Only.{one_if}
use Rattle.sim_flows.specs.Peers.{is_for_peer, peer_slots, fits_peer}
use Rattle.sim_flows.specs.Seats.{IsSlotOf, Once, number_at, number_in}
use Rattle.sim_flows.proofs.Counted.{as_many_stand}
use Rattle.sim_flows.proofs.Options.{none_some, some_same, true_false}
use Rattle.sim_flows.proofs.Requests.{none_accepted}

-- ---- flows

abbrev is_peers : Flow → Bool
is_peers f = is_in_use f.story && is_accepted f.story

abbrev peer_numbers : List Flow → List ℕ
peer_numbers flows = map (λ (f : Flow). f.number) (filter is_peers flows)

abbrev with_number : Bool → ℕ → List ℕ → List ℕ
with_number b n ns = if b then n ∷ ns else ns

split : (f : Flow) (flows : List Flow) → peer_numbers (f ∷ flows) ≡ with_number (is_peers f) f.number (peer_numbers flows)
split f flows = by (is_peers f)
  where
    by : (b : Bool) → map (λ (g : Flow). g.number) (if b then f ∷ filter is_peers flows else filter is_peers flows) ≡ with_number b f.number (peer_numbers flows)
    by true = refl
    by false = refl

absent : (n : ℕ) (flows : List Flow) → flow_of n flows ≡ None → is_among n (peer_numbers flows) ≡ false
absent n [] none = refl
absent n (f ∷ flows) none = ap (is_among n) (split f flows) ∙ by (f.number == n) refl none (absent n flows)
  where
    by : (b : Bool) → (f.number == n) ≡ b → cond b (Some f) (flow_of n flows) ≡ None → (flow_of n flows ≡ None → is_among n (peer_numbers flows) ≡ false) →
        is_among n (with_number (is_peers f) f.number (peer_numbers flows)) ≡ false
    by true is none rest = absurd (none_some (sym none))
    by false is none rest = by_test (is_peers f)
      where
        by_test : (b : Bool) → is_among n (with_number b f.number (peer_numbers flows)) ≡ false
        by_test true = ap (λ c. c || is_among n (peer_numbers flows)) (turned f.number n false is) ∙ rest none
        by_test false = rest none

peers_once : (flows : List Flow) → Differ flows → Once (peer_numbers flows)
peers_once [] differ = tt
peers_once (f ∷ flows) differ = subst Once (sym (split f flows)) (by (is_peers f) (peers_once flows differ.1))
  where
    by : (b : Bool) → Once (peer_numbers flows) → Once (with_number b f.number (peer_numbers flows))
    by true rest = (absent f.number flows differ.0, rest)
    by false rest = rest

-- a flow that is in use and was accepted has its number among these
peer_among : (n : ℕ) (flows : List Flow) (f : Flow) → flow_of n flows ≡ Some f → is_peers f ≡ true → is_among n (peer_numbers flows) ≡ true
peer_among n [] f found is = absurd (none_some found)
peer_among n (g ∷ flows) f found is = ap (is_among n) (split g flows) ∙ by (g.number == n) refl found (λ more. peer_among n flows f more is)
  where
    or_true : (b : Bool) → (b || true) ≡ true
    or_true true = refl
    or_true false = refl

    by : (b : Bool) → (g.number == n) ≡ b → cond b (Some g) (flow_of n flows) ≡ Some f → (flow_of n flows ≡ Some f → is_among n (peer_numbers flows) ≡ true) →
        is_among n (with_number (is_peers g) g.number (peer_numbers flows)) ≡ true
    by true it found rest =
        ap (λ b. is_among n (with_number b g.number (peer_numbers flows))) (ap is_peers (some_same g f found) ∙ is)
        ∙ ap (λ c. c || is_among n (peer_numbers flows)) (turned g.number n true it)
    by false it found rest = by_test (is_peers g)
      where
        by_test : (b : Bool) → is_among n (with_number b g.number (peer_numbers flows)) ≡ true
        by_test true = ap (λ c. (n == g.number) || c) (rest found) ∙ or_true (n == g.number)
        by_test false = rest found

-- and each of these numbers is one of such a flow
peer_found : (n : ℕ) (flows : List Flow) → Differ flows → is_among n (peer_numbers flows) ≡ true → (f : Flow) × (flow_of n flows ≡ Some f) × (is_peers f ≡ true)
peer_found n [] differ is = absurd cc
peer_found n (f ∷ flows) differ is = by (f.number == n) (is_peers f) refl refl (sym (ap (is_among n) (split f flows)) ∙ is) (λ among. peer_found n flows differ.1 among)
  where
    not_here : (a b : Bool) → a ≡ false → (a || b) ≡ true → b ≡ true
    not_here true b off is = cc
    not_here false b off is = is

    not_both : false ≡ true → ⊥
    not_both is = cc

    by : (b c : Bool) → (f.number == n) ≡ b → is_peers f ≡ c → is_among n (with_number c f.number (peer_numbers flows)) ≡ true
        → (is_among n (peer_numbers flows) ≡ true → (g : Flow) × (flow_of n flows ≡ Some g) × (is_peers g ≡ true))
        → (g : Flow) × (cond b (Some f) (flow_of n flows) ≡ Some g) × (is_peers g ≡ true)
    by true true it peers among rest = (f, refl, peers)
    by true false it peers among rest = absurd (not_both (sym (absent f.number flows differ.0) ∙ ap (λ m. is_among m (peer_numbers flows)) (equal f.number n it) ∙ among))
    by false true it peers among rest = rest (not_here (n == f.number) (is_among n (peer_numbers flows)) (turned f.number n false it) among)
    by false false it peers among rest = rest among

-- whether the flow with a number was accepted is whether one with it was
accepted_is : (n : ℕ) (flows : List Flow) (f : Flow) → Differ flows → flow_of n flows ≡ Some f → was_accepted n flows ≡ is_accepted f.story
accepted_is n [] f differ found = absurd (none_some found)
accepted_is n (g ∷ flows) f differ found = by (g.number == n) refl found (λ more. accepted_is n flows f differ.1 more)
  where
    at_head : (a : Bool) → was_accepted n flows ≡ false → ((a && true) || was_accepted n flows) ≡ a
    at_head true none = refl
    at_head false none = none

    behind : (a : Bool) → ((a && false) || was_accepted n flows) ≡ was_accepted n flows
    behind true = refl
    behind false = refl

    by : (b : Bool) → (g.number == n) ≡ b → cond b (Some g) (flow_of n flows) ≡ Some f → (flow_of n flows ≡ Some f → was_accepted n flows ≡ is_accepted f.story)
        → ((is_accepted g.story && b) || was_accepted n flows) ≡ is_accepted f.story
    by true it found rest =
        at_head (is_accepted g.story) (none_accepted n flows (ap (λ m. flow_of m flows) (sym (equal g.number n it)) ∙ differ.0))
        ∙ ap (λ (x : Flow). is_accepted x.story) (some_same g f found)
    by false it found rest = behind (is_accepted g.story) ∙ rest found

-- ---- slots

abbrev with_peer : Slot → Option Splice → List ℕ → List ℕ
with_peer (InUse t) (Some p) ns = with_number p.accepted (number_of p) ns
with_peer _ _ ns = ns

abbrev slot_numbers : List Slot → List (Option Splice) → List ℕ
slot_numbers (s ∷ slots) (x ∷ parts) = with_peer s x (slot_numbers slots parts)
slot_numbers _ _ = []

slots_counted : (slots : List Slot) (parts : List (Option Splice)) → length (slot_numbers slots parts) ≡ peer_slots slots parts
slots_counted [] parts = refl
slots_counted (s ∷ slots) [] = refl
slots_counted (s ∷ slots) (x ∷ parts) = by s x (slots_counted slots parts)
  where
    none : (a b : ℕ) → a ≡ b → a ≡ 0 + b
    none a b is = omega (arith, is)

    one : (b : Bool) (p : Splice) → length (slot_numbers slots parts) ≡ peer_slots slots parts → length (with_number b (number_of p) (slot_numbers slots parts)) ≡ one_if b + peer_slots slots parts
    one true p is = omega (arith, is)
    one false p is = none (length (slot_numbers slots parts)) (peer_slots slots parts) is

    by : (s : Slot) (x : Option Splice) → length (slot_numbers slots parts) ≡ peer_slots slots parts → length (with_peer s x (slot_numbers slots parts)) ≡ one_if (is_for_peer s x) +
        peer_slots slots parts
    by (InUse t) (Some p) is = one p.accepted p is
    by (InUse t) None is = none (length (slot_numbers slots parts)) (peer_slots slots parts) is
    by Free x is = none (length (slot_numbers slots parts)) (peer_slots slots parts) is
    by (InTimeWait t since) x is = none (length (slot_numbers slots parts)) (peer_slots slots parts) is

-- the slot of a number among these
record IsSlotFor (slots : List Slot) (parts : List (Option Splice)) (n : ℕ) : Type 0 where
  pub slot : ℕ
  pub tuple : Tuple
  pub part : Splice
  pub in_use : slice_get slots slot ≡ Some (InUse tuple)
  pub here : slice_get parts slot ≡ Some (Some part)
  pub accepted : part.accepted ≡ true
  pub numbered : number_of part ≡ n

next_slot : (s : Slot) (x : Option Splice) (slots : List Slot) (parts : List (Option Splice)) (n : ℕ) → IsSlotFor slots parts n → IsSlotFor (s ∷ slots) (x ∷ parts) n
next_slot s x slots parts n is = record { slot = suc is.slot; tuple = is.tuple; part = is.part; in_use = is.in_use; here = is.here; accepted = is.accepted; numbered = is.numbered }

among_slot : (n : ℕ) (slots : List Slot) (parts : List (Option Splice)) → is_among n (slot_numbers slots parts) ≡ true → IsSlotFor slots parts n
among_slot n [] parts is = absurd cc
among_slot n (s ∷ slots) [] is = absurd cc
among_slot n (s ∷ slots) (x ∷ parts) is = by s x is (λ among. among_slot n slots parts among)
  where
    one : (t : Tuple) (p : Splice) (b : Bool) → p.accepted ≡ b → is_among n (with_number b (number_of p) (slot_numbers slots parts)) ≡ true
        → (is_among n (slot_numbers slots parts) ≡ true → IsSlotFor slots parts n) → IsSlotFor (InUse t ∷ slots) (Some p ∷ parts) n
    one t p false is among rest = next_slot (InUse t) (Some p) slots parts n (rest among)
    one t p true is among rest = by_test (n == number_of p) refl among
      where
        by_test : (b : Bool) → (n == number_of p) ≡ b → (b || is_among n (slot_numbers slots parts)) ≡ true → IsSlotFor (InUse t ∷ slots) (Some p ∷ parts) n
        by_test true it among = record { slot = 0; tuple = t; part = p; in_use = refl; here = refl; accepted = is; numbered = sym (equal n (number_of p) it) }
        by_test false it among = next_slot (InUse t) (Some p) slots parts n (rest among)

    by : (s : Slot) (x : Option Splice) → is_among n (with_peer s x (slot_numbers slots parts)) ≡ true → (is_among n (slot_numbers slots parts) ≡ true → IsSlotFor slots parts n) →
        IsSlotFor (s ∷ slots) (x ∷ parts) n
    by (InUse t) (Some p) is rest = one t p p.accepted refl is rest
    by (InUse t) None is rest = next_slot (InUse t) None slots parts n (rest is)
    by Free x is rest = next_slot Free x slots parts n (rest is)
    by (InTimeWait t since) x is rest = next_slot (InTimeWait t since) x slots parts n (rest is)

slot_among : (k : ℕ) (slots : List Slot) (parts : List (Option Splice)) (t : Tuple) (p : Splice) → slice_get slots k ≡ Some (InUse t) → slice_get parts k ≡ Some (Some p) → p.accepted ≡ true
    → is_among (number_of p) (slot_numbers slots parts) ≡ true
slot_among k [] parts t p at here is = absurd (none_some at)
slot_among k (s ∷ slots) [] t p at here is = absurd (none_some here)
slot_among zero (s ∷ slots) (x ∷ parts) t p at here is =
    ap (λ (y : Slot). is_among (number_of p) (with_peer y x (slot_numbers slots parts))) (some_same s (InUse t) at)
    ∙ ap (λ (y : Option Splice). is_among (number_of p) (with_peer (InUse t) y (slot_numbers slots parts))) (some_same x (Some p) here)
    ∙ ap (λ b. is_among (number_of p) (with_number b (number_of p) (slot_numbers slots parts))) is
    ∙ ap (λ c. c || is_among (number_of p) (slot_numbers slots parts)) (same (number_of p))
slot_among (suc k) (s ∷ slots) (x ∷ parts) t p at here is = by s x (slot_among k slots parts t p at here is)
  where
    or_true : (b : Bool) → (b || true) ≡ true
    or_true true = refl
    or_true false = refl

    one : (q : Splice) (b : Bool) → is_among (number_of p) (slot_numbers slots parts) ≡ true → is_among (number_of p) (with_number b (number_of q) (slot_numbers slots parts)) ≡ true
    one q true rest = ap (λ c. (number_of p == number_of q) || c) rest ∙ or_true (number_of p == number_of q)
    one q false rest = rest

    by : (s : Slot) (x : Option Splice) → is_among (number_of p) (slot_numbers slots parts) ≡ true → is_among (number_of p) (with_peer s x (slot_numbers slots parts)) ≡ true
    by (InUse u) (Some q) rest = one q q.accepted rest
    by (InUse u) None rest = rest
    by Free x rest = rest
    by (InTimeWait u since) x rest = rest

slots_once : (slots : List Slot) (parts : List (Option Splice)) → ((k j n : ℕ) → number_at number_of parts k ≡ Some n → number_at number_of parts j ≡ Some n → k ≡ j) → Once
    (slot_numbers slots parts)
slots_once [] parts apart = tt
slots_once (s ∷ slots) [] apart = tt
slots_once (s ∷ slots) (x ∷ parts) apart = by s x refl (slots_once slots parts (λ k j n one two. let is = apart (suc k) (suc j) n one two in omega (arith, is)))
  where
    not_zero : (k : ℕ) → zero ≡ suc k → ⊥
    not_zero k is = omega (arith, is)

    none_behind : (p : Splice) → x ≡ Some p → is_among (number_of p) (slot_numbers slots parts) ≡ false
    none_behind p is = by_test (is_among (number_of p) (slot_numbers slots parts)) refl
      where
        by_test : (b : Bool) → is_among (number_of p) (slot_numbers slots parts) ≡ b → b ≡ false
        by_test false it = refl
        by_test true it =
            let there = among_slot (number_of p) slots parts it in
            absurd (not_zero there.slot (apart zero (suc there.slot) (number_of p) (ap (λ (y : Option Splice). number_in number_of (Some y)) is)
            (ap (number_in number_of) there.here ∙ ap Some there.numbered)))

    one : (p : Splice) (b : Bool) → x ≡ Some p → Once (slot_numbers slots parts) → Once (with_number b (number_of p) (slot_numbers slots parts))
    one p true is rest = (none_behind p is, rest)
    one p false is rest = rest

    by : (s : Slot) (y : Option Splice) → x ≡ y → Once (slot_numbers slots parts) → Once (with_peer s y (slot_numbers slots parts))
    by (InUse t) (Some p) is rest = one p p.accepted is rest
    by (InUse t) None is rest = rest
    by Free y is rest = rest
    by (InTimeWait t since) y is rest = rest

-- ---- both

module _ (config : Config) (now : ℕ) (aged : Bool) (task : Option Call) (state : FlowsState Splice) (past : List Entry) (holds : CoreHolds config now aged task state past)
    (asked : AreAsked config state.slots past) where
  abbrev flows : List Flow
  flows = (book config past).flows

  abbrev time_waits : List TimeWait
  time_waits = time_waits_at aged config past

  both : (a b : Bool) → a ≡ true → b ≡ true → (a && b) ≡ true
  both true true one two = refl
  both false b one two = one
  both true false one two = two

  first_is : (a b : Bool) → (a && b) ≡ true → a ≡ true
  first_is true b is = refl
  first_is false b is = is

  second_is : (a b : Bool) → (a && b) ≡ true → b ≡ true
  second_is true b is = is
  second_is false b is = absurd (true_false (sym is))

  -- how the flow of a slot began
  began_so : (k : ℕ) (p : Splice) (f : Flow) → slice_get state.slots k ≡ Some (Some p) → flow_of (number_of p) flows ≡ Some f → p.accepted ≡ is_accepted f.story
  began_so k p f here found = asked.began k p here ∙ accepted_is (number_of p) flows f holds.seats.differ found

  slot_has_flow : (n : ℕ) → is_among n (slot_numbers state.table.slots state.slots) ≡ true → is_among n (peer_numbers flows) ≡ true
  slot_has_flow n is =
      let there = among_slot n state.table.slots state.slots is in
      let seat = holds.seats.seated there.slot there.part there.here in
      let used : is_in_use seat.0.story ≡ true =
      (subst (λ (s : Slot). IsSlotOf time_waits seat.0 s) (some_same seat.1 (InUse there.tuple) (sym seat.5 ∙ there.in_use)) seat.6).1 in
      subst (λ m. is_among m (peer_numbers flows) ≡ true) there.numbered
      (peer_among (number_of there.part) flows seat.0 seat.2
      (both (is_in_use seat.0.story) (is_accepted seat.0.story) used (sym (began_so there.slot there.part seat.0 there.here seat.2) ∙ there.accepted)))

  part_there : (n k : ℕ) (x : Option (Option Splice)) → number_in number_of x ≡ Some n → (p : Splice) × (x ≡ Some (Some p)) × (number_of p ≡ n)
  part_there n k (Some (Some p)) is = (p, refl, some_same (number_of p) n is)
  part_there n k (Some None) is = absurd (none_some is)
  part_there n k None is = absurd (none_some is)

  slot_there : (f : Flow) (s : Slot) → is_in_use f.story ≡ true → IsSlotOf time_waits f s → (t : Tuple) × (s ≡ InUse t)
  slot_there f Free used is = absurd is
  slot_there f (InUse t) used is = (t, refl)
  slot_there f (InTimeWait t since) used is = absurd (true_false (sym used ∙ is.2))

  flow_has_slot : (n : ℕ) → is_among n (peer_numbers flows) ≡ true → is_among n (slot_numbers state.table.slots state.slots) ≡ true
  flow_has_slot n is =
      let flow = peer_found n flows holds.seats.differ is in
      let used : is_in_use flow.0.story ≡ true = first_is (is_in_use flow.0.story) (is_accepted flow.0.story) flow.2 in
      let at = holds.seats.found n (ap uses flow.1 ∙ used) in
      let part = part_there n at.0 (slice_get state.slots at.0) at.1 in
      let seat = holds.seats.seated at.0 part.0 part.1 in
      let found : flow_of (number_of part.0) flows ≡ Some flow.0 = ap (λ m. flow_of m flows) part.2 ∙ flow.1 in
      let it : seat.0 ≡ flow.0 = some_same seat.0 flow.0 (sym seat.2 ∙ found) in
      let slot = slot_there seat.0 seat.1 (ap (λ (x : Flow). is_in_use x.story) it ∙ used) seat.6 in
      subst (λ m. is_among m (slot_numbers state.table.slots state.slots) ≡ true) part.2
      (slot_among at.0 state.table.slots state.slots slot.0 part.0 (seat.5 ∙ ap Some slot.1) part.1
      (began_so at.0 part.0 flow.0 part.1 found ∙ second_is (is_in_use flow.0.story) (is_accepted flow.0.story) flow.2))

  pub peers_counted : length (filter (λ (f : Flow). is_in_use f.story && is_accepted f.story) flows) ≡ peer_slots state.table.slots state.slots
  peers_counted =
      sym (length-map (filter is_peers flows) (λ (f : Flow). f.number))
      ∙ as_many_stand (peer_numbers flows) (slot_numbers state.table.slots state.slots) (peers_once flows holds.seats.differ)
      (slots_once state.table.slots state.slots holds.seats.numbers) flow_has_slot slot_has_flow
      ∙ slots_counted state.table.slots state.slots

  -- there is room for the flow of a peer by the trace as by the slots
  pub room_recorded : has_room_for_peer config.flows flows ≡ fits_peer state
  room_recorded = λ i. nat_lt (holds.seats.counted i) (sym holds.slots i) && nat_lt (peers_counted i) (most_for_peers (sym holds.slots i))
