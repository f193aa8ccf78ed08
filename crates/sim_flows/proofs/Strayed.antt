-- A segment came on two ends that no slot has: no flow of the core is told, and what becomes of it is decided by the policy and the room.
use Rattle.std.proofs.Common.{◌≡◌, ℕ, ◌+◌, ◌==◌, ◌||◌, not, nat_lt, Bool, true, false, cond, List, [], ◌∷◌, ◌++◌, find, slice_get, length, Option, Some, None, option_map, if◌then◌else◌}
use Rattle.std.proofs.Common.{refl, sym, ◌∙◌, ap, subst, arith}
use Rattle.std.specs.Prelude.{Contains}
use Rattle.std.proofs.lemmas.Bool.Decides.{nat_tests}
use Rattle.net_octets.specs.declared.Mac.{Mac}
use Rattle.world_face.specs.Journal.{Entry, Call}
use Rattle.slirp_settings.specs.Addresses.{Config}
use Rattle.spec_trace.specs.Moments.{moment}
use Rattle.spec_trace.specs.Sockets.{next_number}
use Rattle.flow_table.specs.Slots.{NoneHas}
use Rattle.spec_flows.specs.declared.Tuple.{Tuple}
use Rattle.spec_flow.specs.Event.{Arrives}
use Rattle.spec_flow.specs.Close.{ends_time_wait, renews}
use Rattle.spec_flows.specs.Book.{after_segment, book, time_wait, scene, turned, without}
use Rattle.spec_flows.specs.Doings.{Comes, doing}
use Rattle.spec_flows.specs.Flows.{Book, Flow, TimeWait, flow_of, is_on, has_time_wait, is_used, owner, is_among_time_waits, tell, used, uses, with_event}
use Rattle.spec_flows.specs.SegmentVerdicts.{OfFlow, due_for_flows, segment_verdict}
use Rattle.spec_flows.specs.Segments.{OnTuple, same_tuple}
use Rattle.spec_flows.specs.Taught.{taught}
use Rattle.spec_flows.specs.Touching.{has_number}
use Rattle.spec_flows.proofs.Apart.{own_told}
use Rattle.sim_flows.specs.FlowsHold.{FlowsState}
use Rattle.sim_flows.specs.Only.{IsOf, ids, one_if}
use Rattle.sim_flows.specs.Seats.{Seats, number_at}
use Rattle.sim_flows.proofs.Holding.{taught_on}
use Rattle.sim_flows.proofs.Only.{found_by, only_happens}
use Rattle.sim_flows.proofs.Seats.{found_id}
use Rattle.flow_splice.specs.Splice.{Splice}
use Rattle.sim_flows.specs.Core.{CoreHolds, Following, number_of}
use Rattle.sim_flows.specs.Stands.{verdict_without_flow}
use Rattle.sim_flows.proofs.Looking.{none_rests, none_used, owner_has, slot_of}
use Rattle.sim_flows.proofs.Others.{seats_apart}
use Rattle.sim_flows.proofs.Pumped.{as_many}
use Rattle.sim_flows.proofs.Options.{none_some, some_same}

-- a tell that finds none
tell_none : (test : Flow → Bool) (change : Flow → Flow) (flows : List Flow) → find test flows ≡ None → tell test change flows ≡ flows
tell_none test change [] none = refl
tell_none test change (f ∷ flows) none = by (test f) none (tell_none test change flows)
  where
    by : (b : Bool) → cond b (Some f) (find test flows) ≡ None → (find test flows ≡ None → tell test change flows ≡ flows) → (if b then change f ∷ flows else f ∷ tell test change flows) ≡ f ∷ flows
    by true none time_wait = absurd cc
    by false none time_wait = ap (λ l. f ∷ l) (time_wait none)

same_number : (n : ℕ) → (n == n) ≡ true
same_number n = grind (arith, nat_tests)

used_alike : (new_used old_used : ℕ) (o n : Option Flow) → new_used + one_if (uses o) ≡ old_used + one_if (uses n) → uses n ≡ uses o → new_used ≡ old_used
used_alike new_used old_used o n is same =
    let before : new_used + one_if (uses o) ≡ old_used + one_if (uses o) = is ∙ ap (λ b. old_used + one_if b) same in
    omega (arith, before)

-- numbers and tuples stay as they were
ids_told : (t : Tuple) (change : Flow → Flow) → ((g : Flow) → (change g).number ≡ g.number) → ((g : Flow) → (change g).tuple ≡ g.tuple) → (flows : List Flow) → ids
    (tell (is_on t) change flows) ≡ ids flows
ids_told t change numbers tuples [] = refl
ids_told t change numbers tuples (g ∷ flows) = by (is_on t g) (ids_told t change numbers tuples flows)
  where
    by : (b : Bool) → ids (tell (is_on t) change flows) ≡ ids flows → ids (if b then change g ∷ flows else g ∷ tell (is_on t) change flows) ≡ ids (g ∷ flows)
    by true time_wait = λ i. (numbers g i, tuples g i) ∷ ids flows
    by false time_wait = ap (λ l. (g.number, g.tuple) ∷ l) time_wait

-- the flow that was opened last on a tuple is that still
pub owner_told : (t : Tuple) (change : Flow → Flow) (keeps : (g : Flow) → (change g).tuple ≡ g.tuple) (flows : List Flow) (f : Flow) → owner t flows ≡ Some f → owner t
    (tell (is_on t) change flows) ≡ Some (change f)
owner_told t change keeps [] f is = absurd cc
owner_told t change keeps (g ∷ flows) f is = by (is_on t g) refl is (owner_told t change keeps flows f)
  where
    by : (b : Bool) → is_on t g ≡ b → cond b (Some g) (owner t flows) ≡ Some f → (owner t flows ≡ Some f → owner t (tell (is_on t) change flows) ≡ Some (change f))
        → owner t (if b then change g ∷ flows else g ∷ tell (is_on t) change flows) ≡ Some (change f)
    by true on is go_on = let one : g ≡ f = cc in ap (λ u. cond (same_tuple u t) (Some (change g)) (owner t flows)) (keeps g) ∙ ap
        (λ b. cond b (Some (change g)) (owner t flows)) on ∙ ap (λ h. Some (change h)) one
    by false off is go_on = ap (λ b. cond b (Some g) (owner t (tell (is_on t) change flows))) off ∙ go_on is

module _ (config : Config) (state : FlowsState Splice) (past : List Entry) (now : ℕ) (task : Option Call) (holds : CoreHolds config now false task state past)
    (sizes : length state.slots ≡ length state.table.slots)
    (e : Entry) (on : OnTuple) (comes : doing config past e ≡ Comes on) (none : NoneHas state.table.slots on.tuple) (next_is : next_number (e ∷ past) ≡ next_number past) where
  abbrev old : Book
  old = book config past

  abbrev then_book : Book
  then_book = turned config (scene config past) (Comes on) old

  book_is : book config (e ∷ past) ≡ then_book
  book_is = ap (λ d. turned config (scene config past) d old) comes

  unused : is_used on.tuple old.flows ≡ false
  unused = none_used number_of (Following config now) state.table state.slots (next_number past) old.flows old.time_waits holds.seats sizes on.tuple none

  awake : is_among_time_waits old.time_waits (owner on.tuple old.flows) ≡ false
  awake = none_rests number_of (Following config now) state.table state.slots (next_number past) old.flows old.time_waits holds.seats sizes on.tuple none

  -- those in TIME-WAIT do so as before
  rests_are : then_book.time_waits ≡ old.time_waits
  rests_are = by (owner on.tuple old.flows) awake
    where
      by : (o : Option Flow) → is_among_time_waits old.time_waits o ≡ false → after_segment (moment past) on.segment o old.time_waits ≡ old.time_waits
      by None not_one = refl
      by (Some f) not_one = ap (λ b. if not b then old.time_waits else (if ends_time_wait f.story on.segment then without f.number old.time_waits else
          (if renews on.segment then without f.number old.time_waits ++ (time_wait f.number (moment past) ∷ []) else old.time_waits))) not_one

  -- no part has the number of the owner, if there is one
  nobody : (f : Flow) → owner on.tuple old.flows ≡ Some f → (k : ℕ) → number_at number_of state.slots k ≡ Some f.number → ⊥
  nobody f is k at =
      none k (slot_of number_of (Following config now) state.table state.slots (next_number past) old.flows old.time_waits holds.seats sizes k f.number f at
      (found_by (is_on on.tuple) old.flows f holds.seats.differ is) ∙ ap Some (owner_has on.tuple old.flows f is))

  tells : (o : Option Flow) → owner on.tuple old.flows ≡ o
      → Seats number_of (Following config now) state.table state.slots (next_number past) then_book.flows old.time_waits × (used then_book.flows ≡ used old.flows) ×
      (length then_book.flows ≡ length old.flows) × (is_used on.tuple then_book.flows ≡ false)
      × (is_among_time_waits old.time_waits (owner on.tuple then_book.flows) ≡ false)
  tells None is =
      let same : then_book.flows ≡ old.flows = tell_none (is_on on.tuple) (with_event (moment past) (Arrives on.segment)) old.flows is in (
        subst (λ (l : List Flow). Seats number_of (Following config now) state.table state.slots (next_number past) l old.time_waits) (sym same) holds.seats,
        ap used same,
        ap (λ (l : List Flow). length l) same,
        ap (is_used on.tuple) same ∙ unused,
        ap (λ (l : List Flow). is_among_time_waits old.time_waits (owner on.tuple l)) same ∙ awake,
      )
  tells (Some f) is =
      let found : flow_of f.number old.flows ≡ Some f = found_by (is_on on.tuple) old.flows f holds.seats.differ is in
      let told : flow_of f.number then_book.flows ≡ Some (with_event (moment past) (Arrives on.segment) f) = own_told on.tuple (with_event (moment past) (Arrives on.segment))
      (λ g. refl) f old.flows is found in
      let of : IsOf f.number old (Comes on) = ap (has_number f.number) is ∙ same_number f.number in
      let only = only_happens config (scene config past) f.number old holds.seats.differ (Comes on) of in
      let alike : uses (flow_of f.number then_book.flows) ≡ uses (flow_of f.number old.flows) = ap uses told ∙ sym (ap uses found) in
      let own : owner on.tuple then_book.flows ≡ Some (with_event (moment past) (Arrives on.segment) f) = owner_told on.tuple (with_event (moment past) (Arrives on.segment))
      (λ g. refl) old.flows f is in (
        seats_apart number_of (Following config now) state.table state.slots (next_number past) old.flows then_book.flows old.time_waits f.number (nobody f is) alike only
            (λ later. absurd (none_some (sym (holds.seats.fresh f.number later) ∙ found))) holds.seats,
        used_alike (used then_book.flows) (used old.flows) (flow_of f.number old.flows) (flow_of f.number then_book.flows) only.used alike,
        as_many then_book.flows old.flows only.same,
        ap uses own ∙ sym (ap uses is) ∙ unused,
        ap (is_among_time_waits old.time_waits) own ∙ sym (ap (is_among_time_waits old.time_waits) is) ∙ awake,
      )

  said : Seats number_of (Following config now) state.table state.slots (next_number past) then_book.flows old.time_waits × (used then_book.flows ≡ used old.flows) ×
      (length then_book.flows ≡ length old.flows) × (is_used on.tuple then_book.flows ≡ false)
      × (is_among_time_waits old.time_waits (owner on.tuple then_book.flows) ≡ false)
  said = tells (owner on.tuple old.flows) refl

  -- the core's relation holds then, with the call that the segment asks for
  pub core_strayed : CoreHolds config now false (due_for_flows config (book config (e ∷ past)) (next_number (e ∷ past))) state (e ∷ past)
  core_strayed = record {
    seats = subst (λ n. Seats number_of (Following config now) state.table state.slots n (book config (e ∷ past)).flows (book config (e ∷ past)).time_waits) (sym next_is)
        (subst (λ (b : Book). Seats number_of (Following config now) state.table state.slots (next_number past) b.flows b.time_waits) (sym book_is)
        (subst (λ (r : List TimeWait). Seats number_of (Following config now) state.table state.slots (next_number past) then_book.flows r) (sym rests_are) said.0));
    slots = holds.slots;
    opened = ap (λ (b : Book). length b.flows) book_is ∙ said.2 ∙ holds.opened;
    asked = refl;
    learnt = λ k p f m at found is_mac. stray_learnt k p f m at (ap (λ (b : Book). flow_of (number_of p) b.flows) (sym book_is) ∙ found) is_mac;
  }
    where
      stray_learnt : (k : ℕ) (p : Splice) (f : Flow) (m : Mac) → slice_get state.slots k ≡ Some (Some p) → flow_of (number_of p) then_book.flows ≡ Some f → p.mac ≡ Some m →
          Contains (taught config (e ∷ past)) (f.tuple.guest.addr, m)
      stray_learnt k p f m at found is_mac =
          let was = holds.seats.seated k p at in
          let is = said.0.seated k p at in
          let tuple : was.0.tuple ≡ f.tuple = some_same was.0.tuple f.tuple (sym (ap (option_map (λ (g : Flow). g.tuple)) was.2) ∙ sym tuples_are ∙ ap (option_map (λ (g : Flow). g.tuple)) found) in
          subst (λ (t : Tuple). Contains (taught config (e ∷ past)) (t.guest.addr, m)) tuple (taught_on config past (e ∷ []) (was.0.tuple.guest.addr, m) (holds.learnt k p was.0 m at was.2 is_mac))
        where
          tuples_are : option_map (λ (g : Flow). g.tuple) (flow_of (number_of p) then_book.flows) ≡ option_map (λ (g : Flow). g.tuple) (flow_of (number_of p) old.flows)
          tuples_are = found_id (number_of p) then_book.flows old.flows (ids_told on.tuple (with_event (moment past) (Arrives on.segment)) (λ g. refl) (λ g. refl) old.flows)

  -- and what becomes of the segment
  pub verdict_is : segment_verdict config (book config (e ∷ past)) on ≡ verdict_without_flow config (nat_lt (used old.flows) config.flows) on
  verdict_is =
      ap (λ (b : Book). segment_verdict config b on) book_is
      ∙ ap (λ b. if b then OfFlow else verdict_without_flow config (nat_lt (used then_book.flows) config.flows) on) neither
      ∙ ap (λ n. verdict_without_flow config (nat_lt n config.flows) on) said.1
    where
      both_false : (a b : Bool) → a ≡ false → b ≡ false → (a || b) ≡ false
      both_false false b one two = two
      both_false true b one two = cc

      neither : (is_used on.tuple then_book.flows || has_time_wait on.tuple then_book) ≡ false
      neither = both_false (is_used on.tuple then_book.flows) (has_time_wait on.tuple then_book) said.3 (ap (λ (r : List TimeWait). is_among_time_waits r (owner on.tuple then_book.flows)) rests_are ∙ said.4)
