-- One flow of the core was pumped: what that made is lawful, and the core's slots stand for the flows of the trace again.
use Rattle.std.proofs.Common.{◌≡◌, ℕ, ◌+◌, ◌%◌, ◌^◌, ◌<◌, ◌==◌, ◌||◌, not, Bool, true, false, List, [], ◌∷◌, ◌++◌, filter, length, set, slice_get, Option, Some, None, option_map}
use Rattle.std.proofs.Common.{if◌then◌else◌, inl, inr, refl, sym, ◌∙◌, ap, subst, arith}
use Rattle.std.specs.List.{list_any}
use Rattle.std.specs.Prelude.{Contains}
use Rattle.std.proofs.lemmas.Bool.Decides.{nat_tests}
use Rattle.std.proofs.lemmas.List.{length-map, length-set}
use Rattle.std.proofs.lemmas.List.Elements.{filter-append}
use Rattle.net_octets.specs.declared.Mac.{Mac}
use Rattle.world_face.specs.Journal.{Entry, AreAllowed, Call, CallClose, Follows as AreFollowing}
use Rattle.world_face.specs.Frames.{MayFrame, is_blocked, tail}
use Rattle.slirp_settings.specs.Addresses.{Config, address}
use Rattle.arp_table.specs.Table.{mac_of as learnt_for}
use Rattle.spec_trace.specs.Guests.{known as known_guests}
use Rattle.spec_trace.specs.Moments.{moment}
use Rattle.spec_trace.specs.Sockets.{next_number}
use Rattle.flow_table.specs.Slots.{Flows}
use Rattle.flow_table.specs.declared.Slot.{Slot}
use Rattle.flow_table.specs.declared.Slot.TheVariants.{Free, InUse, InTimeWait}
use Rattle.spec_flows.specs.declared.Tuple.{Tuple}
use Rattle.spec_flow.specs.Event.{Story}
use Rattle.spec_flow.specs.Close.{host_failed, is_in_use, owes_reset, in_time_wait_since}
use Rattle.spec_flow.specs.Flow.{is_closed}
use Rattle.spec_flows.specs.Book.{book, is_young, time_wait, scene}
use Rattle.spec_flows.specs.Flows.{Flow, TimeWait, comes_last, flow_of, guest_is_known, is_among_time_waits}
use Rattle.sim_flows.proofs.Looking.{rests_any}
use Rattle.spec_flows.specs.Laws.{flow_settings}
use Rattle.spec_flows.specs.SegmentVerdicts.{connects_to, due_by, due_for_flows}
use Rattle.spec_flows.specs.Taught.{is_pair, taught}
use Rattle.spec_flows.proofs.Laws.{keeps_the_law}
use Rattle.sim_flows.specs.FlowsHold.{FlowsState, time_waits_at}
use Rattle.sim_flows.specs.Only.{AreOf, Only, ids}
use Rattle.sim_flows.specs.Seats.{IsSlotOf, Once, Seats, number_in}
use Rattle.sim_flows.proofs.Holding.{taught_on}
use Rattle.sim_flows.proofs.Only.{only_made}
use Rattle.sim_flows.proofs.InTimeWait.{in_use_awake}
use Rattle.sim_flows.proofs.Seats.{differ, same_or_not}
use Rattle.sim_flows.proofs.Tables.{get_set_other, get_set_same}
use Rattle.spec_run.specs.Answers.{datagrams_out, identification, left}
use Rattle.spec_run.specs.Laws.{Lawful}
use Rattle.spec_run.specs.Sending.{is_latest}
use Rattle.spec_run.proofs.KeepingFlows.{keeps_flows}
use Rattle.flow_splice.specs.Splice.{Face, Splice, is_in_time_wait, is_in_use as is_used_at}
use Rattle.flow_splice.specs.declared.Place.{Place}
use Rattle.flow_splice.specs.declared.Place.TheVariants.{Empty, InUse as At, InTimeWait as Rests}
use Rattle.flow_splice.proofs.Promises.{lawful_is, place_is, rest_is, rest_none}
use Rattle.flow_splice.proofs.Restless.{open_none}
use Rattle.flow_splice.specs.Entries.{AreEvents}
use Rattle.flow_splice.specs.Shapes.{are_sending}
use Rattle.sim_flows.specs.Core.{CoreHolds, Following, ends_of, mac_of, number_of}
use Rattle.sim_flows.specs.Stands.{HasFlow, InWork, close_if, slot_at, with_time_wait}
use Rattle.sim_flows.proofs.Pumping.{Sent, differ_in, sends}
use Rattle.sim_flows.proofs.Settling.{Seated, seated_from_use, settled_at_rest, settled_from_use}
use Rattle.sim_flows.proofs.Sockets.{open_has_socket}
use Rattle.sim_flows.proofs.Staying.{core_stays}
use Rattle.sim_flows.proofs.Options.{none_some, some_same}

-- the slots and parts, once the slot at a place follows the flow that was there
abbrev pub seated_at : Place → Flows → List (Option Splice) → (k : ℕ) → Tuple → Splice → Seated
seated_at Empty table parts k t q = record { table = table; slots = parts }
seated_at At table parts k t q = seated_from_use table parts k t q q.place
seated_at (Rests since) table parts k t q = record { table = table; slots = set parts k (Some q) }

abbrev pub state_at : FlowsState Splice → (k : ℕ) → Tuple → Splice → Splice → FlowsState Splice
state_at state k t p q = record { table = (seated_at p.place state.table state.slots k t q).table; slots = (seated_at p.place state.table state.slots k t q).slots; opened = state.opened }

-- a TIME-WAIT that begins now is young
young_now : (now number : ℕ) → is_young now (time_wait number now) ≡ true
young_now now number = grind (arith, nat_tests)

pub as_many : (a b : List Flow) → ids a ≡ ids b → length a ≡ length b
as_many a b same = sym (length-map a (λ (f : Flow). (f.number, f.tuple))) ∙ ap (λ (l : List (ℕ × Tuple)). length l) same ∙ length-map b (λ (f : Flow). (f.number, f.tuple))

-- Calls of one flow were made: they are lawful and of this flow, which has this story then; those in TIME-WAIT are as its story says, and no call is asked for.
pub record Called (config : Config) (face : Face) (f : Flow) (past : List Entry) (now : ℕ) (made : List Entry) (beats : Story) : Type 0 where
  pub lawful : Lawful config (made ++ past)
  pub found : flow_of face.number (book config (made ++ past)).flows ≡ Some (record { number = f.number; tuple = f.tuple; story = beats ++ f.story })
  pub of : AreOf config face.number past made
  pub at : moment (made ++ past) ≡ now
  pub asks : due_for_flows config (book config (made ++ past)) (next_number (made ++ past)) ≡ None
  pub next : next_number (made ++ past) ≡ next_number past
  pub time_waits : is_closed f.story ≡ false → (book config (made ++ past)).time_waits ≡ with_time_wait (in_time_wait_since (beats ++ f.story)) face.number (book config past).time_waits
  pub rests_on : is_closed f.story ≡ true → (book config (made ++ past)).time_waits ≡ (book config past).time_waits
  pub stays_in_time_wait : is_closed f.story ≡ true → in_time_wait_since (beats ++ f.story) ≡ in_time_wait_since f.story
  pub since : is_closed f.story ≡ false → (m : ℕ) → in_time_wait_since (beats ++ f.story) ≡ Some m → m ≡ now

closed_by : (b o : Bool) → (not b || o) ≡ false → b ≡ true
closed_by true o is = refl
closed_by false o is = cc

module _ (config : Config) (state : FlowsState Splice) (past : List Entry) (now : ℕ) (aged : Bool) (task : Option Call) (holds : CoreHolds config now aged task state past)
    (moment_is : moment past ≡ now) (lawful : Lawful config past)
    (k : ℕ) (p q : Splice) (t : Tuple) (f : Flow) (at : slice_get state.slots k ≡ Some (Some p)) (slot : slice_get state.table.slots k ≡ Some (slot_at p.place t)) (same : q.face ≡ p.face)
    (was : flow_of (number_of p) (book config past).flows ≡ Some f) (once : Once state.table.time_wait_order)
    (made : List Entry) (beats : Story) (called : Called config p.face f past now made beats) (follows : Following config now q (beats ++ f.story))
    (learnt : (m : Mac) → q.mac ≡ Some m → Contains (taught config (made ++ past)) (f.tuple.guest.addr, m)) where
  abbrev g : Flow
  g = record { number = f.number; tuple = f.tuple; story = beats ++ f.story }

  abbrev old_time_waits : List TimeWait
  old_time_waits = time_waits_at aged config past

  abbrev new_rests : List TimeWait
  new_rests = time_waits_at aged config (made ++ past)

  only : Only (number_of p) (book config past).flows (book config (made ++ past)).flows
  only = only_made config (number_of p) past made (differ_in config past lawful) called.of

  -- the flow's slot, by the relation
  slot_is : (s : Slot) → slice_get state.table.slots k ≡ Some s → IsSlotOf old_time_waits f s
  slot_is s here =
      let seat = holds.seats.seated k p at in
      subst (λ (x : Slot). IsSlotOf old_time_waits f x) (some_same seat.1 s (sym seat.5 ∙ here)) (subst (λ (x : Flow). IsSlotOf old_time_waits x seat.1) (some_same seat.0 f (sym seat.2 ∙ was)) seat.6)

  followed : Following config now p f.story
  followed = let seat = holds.seats.seated k p at in subst (λ (x : Flow). Following config now p x.story) (some_same seat.0 f (sym seat.2 ∙ was)) seat.4

  -- those in TIME-WAIT, without those whose TIME-WAIT is over where the core has let these go
  aged_by : (b : Bool) (o : Option ℕ) → ((m : ℕ) → o ≡ Some m → m ≡ now) → (book config (made ++ past)).time_waits ≡ with_time_wait o (number_of p) (book config past).time_waits
      → time_waits_at b config (made ++ past) ≡ with_time_wait o (number_of p) (time_waits_at b config past)
  aged_by false o young are = are
  aged_by true o young are =
      ap (λ (l : List TimeWait). filter (is_young (moment (made ++ past))) l) are
      ∙ ap (λ n. filter (is_young n) (with_time_wait o (number_of p) (book config past).time_waits)) called.at
      ∙ filtered o young
      ∙ ap (λ n. with_time_wait o (number_of p) (filter (is_young n) (book config past).time_waits)) (sym moment_is)
    where
      last_young : (m : ℕ) → m ≡ now → filter (is_young now) (time_wait (number_of p) m ∷ []) ≡ time_wait (number_of p) m ∷ []
      last_young m is = ap (λ b. if b then time_wait (number_of p) m ∷ [] else []) (ap (λ n. is_young now (time_wait (number_of p) n)) is ∙ young_now now (number_of p))

      filtered : (o : Option ℕ) → ((m : ℕ) → o ≡ Some m → m ≡ now) → filter (is_young now) (with_time_wait o (number_of p) (book config past).time_waits) ≡ with_time_wait o (number_of p)
          (filter (is_young now) (book config past).time_waits)
      filtered None young = refl
      filtered (Some m) young =
          filter-append (is_young now) (book config past).time_waits (time_wait (number_of p) m ∷ [])
          ∙ ap (λ (l : List TimeWait). filter (is_young now) (book config past).time_waits ++ l) (last_young m (young m refl))

  aged_same : (b : Bool) → (book config (made ++ past)).time_waits ≡ (book config past).time_waits → time_waits_at b config (made ++ past) ≡ time_waits_at b config past
  aged_same false are = are
  aged_same true are = ap (λ (l : List TimeWait). filter (is_young (moment (made ++ past))) l) are ∙ ap (λ n. filter (is_young n) (book config past).time_waits) (called.at ∙ sym moment_is)

  -- it was in use
  from_use : is_in_use f.story ≡ true → (b : Bool) → is_closed f.story ≡ b → (o : Option ℕ) → in_time_wait_since g.story ≡ o → new_rests ≡ with_time_wait o (number_of p) old_time_waits
  from_use used false was_open o is = aged_by aged o (λ m some. called.since was_open m (is ∙ some)) (called.time_waits was_open ∙ ap (λ x. with_time_wait x (number_of p) (book config past).time_waits) is)
  from_use used true shut o is =
      let none : o ≡ None = sym is ∙ called.stays_in_time_wait shut ∙ in_use_awake f.story used in
      aged_same aged (called.rests_on shut) ∙ ap (λ x. with_time_wait x (number_of p) old_time_waits) (sym none)

  abbrev Goal : FlowsState Splice → Type 0
  Goal new = Seats number_of (Following config now) new.table new.slots (next_number past) (book config (made ++ past)).flows new_rests

  -- it was in TIME-WAIT: so it does
  rests_yet : (since : ℕ) → p.place ≡ Rests since → in_time_wait_since f.story ≡ Some since → is_closed f.story ≡ true → (x : Place) → q.place ≡ x → q.place ≡ Rests since
  rests_yet since place is shut At here =
      let used : is_in_use g.story ≡ true = sym (place_is (flow_settings config) q g.story now follows) ∙ ap is_used_at here in
      absurd (none_some (sym (in_use_awake g.story used) ∙ called.stays_in_time_wait shut ∙ is))
  rests_yet since place is shut Empty here = absurd (none_some (sym (rest_none (flow_settings config) q g.story now follows (ap is_in_time_wait here)) ∙ called.stays_in_time_wait shut ∙ is))
  rests_yet since place is shut (Rests m) here =
      let same_m : m ≡ since = some_same m since (sym (rest_is (flow_settings config) q g.story now m follows here) ∙ called.stays_in_time_wait shut ∙ is) in
      here ∙ ap Rests same_m

  by_place : (x : Place) → p.place ≡ x → Goal (record { table = (seated_at x state.table state.slots k t q).table; slots = (seated_at x state.table state.slots k t q).slots; opened = state.opened })
  by_place Empty place = absurd (slot_is Free (slot ∙ ap (λ x. Some (slot_at x t)) place))
  by_place At place =
      let here : slice_get state.table.slots k ≡ Some (InUse t) = slot ∙ ap (λ x. Some (slot_at x t)) place in
      let of_it = slot_is (InUse t) here in
      settled_from_use (flow_settings config) now state.table state.slots (next_number past) (book config past).flows (book config (made ++ past)).flows old_time_waits new_rests
      k p q f g t at (ap (λ (x : Face). x.number) same) was called.found follows only holds.seats here of_it.0 of_it.1 once q.place refl (from_use of_it.1 (is_closed f.story) refl)
  by_place (Rests since) place =
      let here : slice_get state.table.slots k ≡ Some (InTimeWait t since) = slot ∙ ap (λ x. Some (slot_at x t)) place in
      let of_it = slot_is (InTimeWait t since) here in
      let shut : is_closed f.story ≡ true = closed_by (is_closed f.story) (owes_reset f.story) of_it.2 in
      settled_at_rest (flow_settings config) now state.table state.slots (next_number past) (book config past).flows (book config (made ++ past)).flows old_time_waits new_rests
      k p q f g t at (ap (λ (x : Face). x.number) same) was called.found follows only holds.seats since here of_it.2
      (rests_yet since place (rest_is (flow_settings config) p f.story now since followed place) shut q.place refl) (aged_same aged (called.rests_on shut))

  -- ---- the whole relation

  size_of : (x y : Place) → length (seated_at x state.table state.slots k t (record q { place = y })).table.slots ≡ length state.table.slots
  size_of Empty y = refl
  size_of At At = refl
  size_of At (Rests since) = length-set state.table.slots k (InTimeWait t since)
  size_of At Empty = length-set state.table.slots k Free
  size_of (Rests since) y = refl

  -- each part has its address from a frame of its guest
  learnt_in : (x : Option Splice) → ((r : Splice) → x ≡ Some r → r ≡ q) → (j : ℕ) (r : Splice) (h : Flow) (m : Mac) → slice_get (set state.slots k x) j ≡ Some (Some r) → flow_of
      (number_of r) (book config (made ++ past)).flows ≡ Some h → r.mac ≡ Some m
      → Contains (taught config (made ++ past)) (h.tuple.guest.addr, m)
  learnt_in x only_q j r h m here found is_mac = elim (same_or_not j k) [
    | inl at_k ↦
        let one : r ≡ q = only_q r (sym (get_set_same state.slots k (Some p) x (Some r) at (subst (λ i. slice_get (set state.slots k x) i ≡ Some (Some r)) at_k here))) in
        let number : number_of r ≡ number_of p = ap number_of one ∙ ap (λ (y : Face). y.number) same in
        let this : h ≡ g = some_same h g (sym found ∙ ap (λ n. flow_of n (book config (made ++ past)).flows) number ∙ called.found) in
        subst (λ (y : Flow). Contains (taught config (made ++ past)) (y.tuple.guest.addr, m)) (sym this) (learnt m (ap mac_of (sym one) ∙ is_mac))
    | inr other ↦
        let was_here : slice_get state.slots j ≡ Some (Some r) = sym (get_set_other state.slots k j x (differ j k other)) ∙ here in
        let apart : (number_of r == number_of p) ≡ false = not_one j k (number_of r) (number_of p) other
        (λ one. holds.seats.numbers j k (number_of p) (ap (number_in number_of) was_here ∙ ap Some one) (ap (number_in number_of) at)) in
        taught_on config past made (h.tuple.guest.addr, m) (holds.learnt j r h m was_here (sym (only.apart (number_of r) apart) ∙ found) is_mac)
  ]
    where
      not_one : (j k m n : ℕ) → (j == k) ≡ false → (m ≡ n → j ≡ k) → (m == n) ≡ false
      not_one j k m n other one = elim (same_or_not m n) [ inl same ↦ absurd (differ j k other (one same)) | inr not ↦ not ]

  learnt_then : (x y : Place) → p.place ≡ x → q.place ≡ y → (j : ℕ) (r : Splice) (h : Flow) (m : Mac) → slice_get (seated_at x state.table state.slots k t q).slots j ≡ Some
      (Some r) → flow_of (number_of r) (book config (made ++ past)).flows ≡ Some h → r.mac ≡ Some m
      → Contains (taught config (made ++ past)) (h.tuple.guest.addr, m)
  learnt_then Empty y was_at is_at = absurd (slot_is Free (slot ∙ ap (λ x. Some (slot_at x t)) was_at))
  learnt_then At y was_at is_at = by y is_at
    where
      by : (y : Place) → q.place ≡ y → (j : ℕ) (r : Splice) (h : Flow) (m : Mac) → slice_get (seated_from_use state.table state.slots k t q q.place).slots j ≡ Some (Some r) →
          flow_of (number_of r) (book config (made ++ past)).flows ≡ Some h → r.mac ≡ Some m
          → Contains (taught config (made ++ past)) (h.tuple.guest.addr, m)
      by At here = λ j r h m has. learnt_in (Some q) (λ r is. cc) j r h m (subst (λ z. slice_get (seated_from_use state.table state.slots k t q z).slots j ≡ Some (Some r)) here has)
      by (Rests since) here = λ j r h m has. learnt_in (Some q) (λ r is. cc) j r h m (subst (λ z. slice_get (seated_from_use state.table state.slots k t q z).slots j ≡ Some (Some r)) here has)
      by Empty here = λ j r h m has. learnt_in None (λ r is. cc) j r h m (subst (λ z. slice_get (seated_from_use state.table state.slots k t q z).slots j ≡ Some (Some r)) here has)
  learnt_then (Rests since) y was_at is_at = learnt_in (Some q) (λ r is. cc)

  -- the core's relation goes on
  pub core_called : CoreHolds config now aged None (state_at state k t p q) (made ++ past)
  core_called = record {
    seats = subst (λ n. Seats number_of (Following config now) (state_at state k t p q).table (state_at state k t p q).slots n (book config (made ++ past)).flows new_rests)
        (sym called.next) (by_place p.place refl);
    slots = size_of p.place q.place ∙ holds.slots;
    opened = as_many (book config (made ++ past)).flows (book config past).flows only.same ∙ holds.opened;
    asked = called.asks;
    learnt = learnt_then p.place q.place refl refl;
  }

-- ---- a pump

zero_more : (first : ℕ) → first < 2 ^ 16 → first ≡ (first + 0) % 2 ^ 16
zero_more first fits = omega (arith, fits)

-- what is found among some is found among all
any_filtered : {X : Type 0} (test q : X → Bool) (xs : List X) → list_any test (filter q xs) ≡ true → list_any test xs ≡ true
any_filtered test q [] is = is
any_filtered test q (x ∷ xs) is = by (q x) (test x) refl is (any_filtered test q xs)
  where
    by : (b c : Bool) → test x ≡ c → list_any test (if b then x ∷ filter q xs else filter q xs) ≡ true → (list_any test (filter q xs) ≡ true → list_any test xs ≡ true) →
        (test x || list_any test xs) ≡ true
    by b true here is behind = ap (λ c. c || list_any test xs) here
    by true false here is behind = ap (λ c. c || list_any test xs) here ∙ behind (sym (ap (λ c. c || list_any test (filter q xs)) here) ∙ is)
    by false false here is behind = ap (λ c. c || list_any test xs) here ∙ behind is

ident_fits : (n : ℕ) → n % 2 ^ 16 < 2 ^ 16
ident_fits n = omega arith

-- what the flow of a slot has in the trace, by the core's relation, where no call is asked for
module _ (config : Config) (state : FlowsState Splice) (past : List Entry) (now : ℕ) (aged : Bool) (holds : CoreHolds config now aged None state past) (lawful : Lawful config past)
    (k : ℕ) (p : Splice) (f : Flow) (at : slice_get state.slots k ≡ Some (Some p)) (was : flow_of (number_of p) (book config past).flows ≡ Some f) (ends : f.tuple ≡ ends_of p.face) where
  -- no call on it failed, or its close would be due
  well_now : (b : Bool) → host_failed f.story ≡ b → b ≡ false
  well_now false is = refl
  well_now true is =
      let doomed = (keeps_the_law config past (number_of p) f (keeps_flows config past lawful) was).failed is in
      absurd (not_due (ap (λ (d : Option ℕ). due_by d (connects_to config (book config past)) (next_number past)) (sym doomed) ∙ holds.asked))
    where
      not_due : Some (CallClose f.number) ≡ None → ⊥
      not_due is = cc

  pub core_well : host_failed f.story ≡ false
  core_well = well_now (host_failed f.story) refl

  pub core_has : HasFlow config p.face f past
  core_has = record {
    found = was;
    guest = ap (λ (t : Tuple). t.guest) ends;
    other = ap (λ (t : Tuple). t.other) ends;
    owned = holds.seats.owned k (number_of p) f.tuple (ap (number_in number_of) at) (ap (option_map (λ (g : Flow). g.tuple)) was);
    socket = λ open_yet. open_has_socket config past (number_of p) f lawful was open_yet;
    due = holds.asked ∙ ap (λ b. close_if b (number_of p)) (sym core_well);
    others = λ number g other. core_stays config now aged None state past holds number g;
  }

module _ (config : Config) (state : FlowsState Splice) (past : List Entry) (now : ℕ) (aged : Bool) (holds : CoreHolds config now aged None state past)
    (moment_is : moment past ≡ now) (lawful : Lawful config past) (work : InWork config past)
    (k : ℕ) (p q : Splice) (t : Tuple) (f : Flow) (at : slice_get state.slots k ≡ Some (Some p)) (slot : slice_get state.table.slots k ≡ Some (slot_at p.place t))
    (ends : f.tuple ≡ ends_of p.face) (same : q.face ≡ p.face)
    (was : flow_of (number_of p) (book config past).flows ≡ Some f) (once : Once state.table.time_wait_order) (vhost : config.vhost ≡ p.face.vhost.0)
    (to : Mac) (mac_is : q.mac ≡ Some to) (taught_is : Contains (taught config past) (f.tuple.guest.addr, to)) (learnt : list_any (is_pair (address p.face.guest) to.0) (taught config past) ≡ true)
    (latest : is_latest to.0 (learnt_for p.face.guest.addr (known_guests config past)) ≡ true)
    (nothing : left config past ≡ []) (clear : is_blocked past ≡ false → tail past ≡ []) (first : ℕ) (first_is : identification past ≡ first) where
  abbrev ended : Bool
  ended = comes_last (scene config past) f

  abbrev known : Bool
  known = guest_is_known (scene config past) f

  -- the flow's slot, by the relation
  slot_of : (s : Slot) → slice_get state.table.slots k ≡ Some s → IsSlotOf (time_waits_at aged config past) f s
  slot_of s here =
      let seat = holds.seats.seated k p at in
      subst (λ (x : Slot). IsSlotOf (time_waits_at aged config past) f x) (some_same seat.1 s (sym seat.5 ∙ here)) (subst (λ (x : Flow). IsSlotOf (time_waits_at aged config past) x seat.1)
      (some_same seat.0 f (sym seat.2 ∙ was)) seat.6)

  -- a flow that is in TIME-WAIT by its story has a slot that is in TIME-WAIT, and so it is among those in TIME-WAIT
  rested_at : (x : Place) → p.place ≡ x → (since : ℕ) → in_time_wait_since f.story ≡ Some since → is_among_time_waits (book config past).time_waits (Some f) ≡ true
  rested_at Empty place since is = absurd (slot_of Free (slot ∙ ap (λ x. Some (slot_at x t)) place))
  rested_at At place since is = absurd (none_some (sym (in_use_awake f.story (slot_of (InUse t) (slot ∙ ap (λ x. Some (slot_at x t)) place)).1) ∙ is))
  rested_at (Rests m) place since is =
      let here = slot_of (InTimeWait t m) (slot ∙ ap (λ x. Some (slot_at x t)) place) in
      unaged aged (rests_any (record { number = f.number; since = m }) (time_waits_at aged config past) here.1)
    where
      unaged : (b : Bool) → is_among_time_waits (time_waits_at b config past) (Some f) ≡ true → is_among_time_waits (book config past).time_waits (Some f) ≡ true
      unaged false is = is
      unaged true is = any_filtered (λ (r : TimeWait). r.number == f.number) (is_young (moment past)) (book config past).time_waits is

  pub pump_begins : Sent config p.face to f past first now ended known [] []
  pump_begins = record {
    lawful = lawful;
    work = work;
    has = core_has config state past now aged holds lawful k p f at was ends;
    at = moment_is;
    of = tt;
    left = nothing;
    clear = clear;
    counted = first_is ∙ zero_more first (subst (λ n. n < 2 ^ 16) first_is (ident_fits (datagrams_out past)));
    learnt = learnt;
    latest = latest;
    rested = λ since shut is. rested_at p.place refl since is;
    knows = refl;
    last = λ open_yet. refl;
    time_waits = λ open_yet. sym (ap (λ o. with_time_wait o (number_of p) (book config past).time_waits) (open_none f.story open_yet));
    rests_on = λ shut. refl;
    stays_in_time_wait = λ shut. refl;
    since = λ open_yet m is. absurd (none_some (sym (open_none f.story open_yet) ∙ is));
    next = refl;
    well = core_well config state past now aged holds lawful k p f at was ends;
  }

  module _ (made : List Entry) (beats : Story) (sending : are_sending made ≡ true) (allowed : AreAllowed made)
      (are : AreEvents (flow_settings config) p.face (Some to) false ended known first now f.story made beats)
      (follows : Following config now q (beats ++ f.story)) (framed : AreFollowing MayFrame (made ++ past)) where
    pub pump_sent : Sent config p.face to f past first now ended known made beats
    pump_sent =
        sends config p.face to f past first now ended known vhost made beats pump_begins sending allowed are (lawful_is (flow_settings config) q (beats ++ f.story) now follows) framed

    pump_called : Called config p.face f past now made beats
    pump_called = record {
      lawful = pump_sent.lawful;
      found = pump_sent.has.found;
      of = pump_sent.of;
      at = pump_sent.at;
      asks = pump_sent.has.due ∙ ap (λ b. close_if b (number_of p)) pump_sent.well;
      next = pump_sent.next;
      time_waits = pump_sent.time_waits;
      rests_on = pump_sent.rests_on;
      stays_in_time_wait = pump_sent.stays_in_time_wait;
      since = pump_sent.since;
    }

    mac_same : (m : Mac) → q.mac ≡ Some m → Contains (taught config (made ++ past)) (f.tuple.guest.addr, m)
    mac_same m is = subst (λ n. Contains (taught config (made ++ past)) (f.tuple.guest.addr, n)) (some_same to m (sym mac_is ∙ is)) (taught_on config past made (f.tuple.guest.addr, to) taught_is)

    -- the core's relation holds after it
    pub core_pumped : CoreHolds config now aged None (state_at state k t p q) (made ++ past)
    core_pumped = core_called config state past now aged None holds moment_is lawful k p q t f at slot same was once made beats pump_called follows mac_same
