-- Flows are told the hardware addresses of their guests.
use Rattle.std.proofs.Common.{refl, ◌≡◌, ℕ, zero, suc, ◌+◌, ◌<◌, ◌≤◌, not, Bool, true, false, List, [], ◌∷◌, length, map, set, Some, None, Option, is_some, option_map, if◌then◌else◌}
use Rattle.std.proofs.Common.{get_or, slice_get, inl, inr, ap, sym, ◌∙◌, subst, arith}
use Rattle.std.proofs.lemmas.List.{length-map, map-set}
use Rattle.std.proofs.lemmas.Option.{slice_get_within}
use Rattle.net_octets.specs.declared.Endpoint.{Endpoint}
use Rattle.net_octets.specs.declared.Ip4.{Ip4}
use Rattle.net_octets.specs.declared.Mac.{Mac}
use Rattle.arp_table.specs.Table.{mac_of as learnt_for}
use Rattle.slirp_settings.specs.Addresses.{Config}
use Rattle.spec_trace.specs.Guests.{known}
use Rattle.ordered_rows.proofs.Places.{set_same}
use Rattle.flow_table.specs.Slots.{AreKept, Flows}
use Rattle.spec_flows.specs.declared.Tuple.{Tuple}
use Rattle.spec_flow.specs.Close.{is_in_use}
use Rattle.spec_flows.specs.Flows.{Flow}
use Rattle.spec_flows.specs.Laws.{flow_settings}
use Rattle.sim_flows.specs.FlowsHold.{FlowsState, time_waits_at}
use Rattle.sim_flows.specs.Seats.{IsSlotOf}
use Rattle.sim_flows.proofs.Seats.{differ, same_or_not}
use Rattle.sim_flows.proofs.Tables.{get_set_at, get_set_other}
use Rattle.flow_splice.proofs.Patience.{learnt_patient}
use Rattle.flow_splice.specs.Ahead.{HasPatience, IsAhead}
use Rattle.flow_splice.specs.Follows.{FollowsAt}
use Rattle.flow_splice.specs.Sends.{learnt, or_known}
use Rattle.flow_splice.specs.Splice.{Splice, is_open}
use Rattle.flow_splice.specs.declared.Place.{Place}
use Rattle.flow_splice.specs.declared.Place.TheVariants.{Empty, InUse, InTimeWait}
use Rattle.sim_flows.specs.Asked.{AreAsked}
use Rattle.sim_flows.specs.Core.{CoreHolds, ends_of, number_of}
use Rattle.sim_flows.specs.Stands.{slot_at}
use Rattle.sim_flows.proofs.Options.{none_some, some_same, true_false}
use Rattle.sim_flows.proofs.Told.{core_told}
use Rattle.tcp_flows.specs.Kept.{IsFor, Kept, flows_of, part_at, part_of, slot_of}
use Rattle.tcp_flows.specs.Reading.{HaveLearnt, AreTold, IsOpenAt, NoneInSlots, learnt_from}
use Rattle.tcp_flows.specs.Rows.{Moves, MovesAt, count, is_resolving, resolves_at, table_at, waits_of}
use Rattle.tcp_flows.specs.Runs.{Learns}
use Rattle.tcp_flows.specs.Settled.{IsInTime, OwesNoAck}
use Rattle.rules_flow.specs.declared.Waits.{Waits}
use Rattle.tcp_flows.proofs.Asking.{asked_then}
use Rattle.tcp_flows.proofs.Changing.{waits_seen}
use Rattle.tcp_flows.proofs.Following.{count_some}
use Rattle.tcp_flows.proofs.Keeping.{raw_here, raw_placed, read_here, seen_here}
use Rattle.tcp_flows.proofs.Lists.{get_map}
use Rattle.tcp_flows.proofs.Looking.{is_seen}
use Rattle.tcp_flows.proofs.Opening.{count_none}
use Rattle.tcp_flows.proofs.Requesting.{kept_asked}
use Rattle.tcp_flows.proofs.Seated.{ends, flow, followed, part_is, part_here, slot_is, was}
use Rattle.tcp_flows.proofs.Staying.{each_then}

-- ---- one flow

-- what telling leaves of it
pub learnt_keeps : {X : Type 0} (f : Splice → X) → ((p : Splice) (m : Option Mac) → f (learnt p m) ≡ f p) → (guests : List (Ip4 × Mac)) (p : Splice) → f (learnt_from guests p) ≡ f p
learnt_keeps f same guests p = by (is_some p.mac)
  where
    by : (b : Bool) → f (if b then p else learnt p (learnt_for p.face.guest.addr guests)) ≡ f p
    by true = refl
    by false = same p (learnt_for p.face.guest.addr guests)

-- one that waits for an answer of its guest waits on, or no more
learns_patient : (guests : List (Ip4 × Mac)) (p : Splice) (now : ℕ) → HasPatience p now → HasPatience (learnt_from guests p) now
learns_patient guests p now patient = by (is_some p.mac)
  where
    by : (b : Bool) → HasPatience (if b then p else learnt p (learnt_for p.face.guest.addr guests)) now
    by true = patient
    by false = learnt_patient p (learnt_for p.face.guest.addr guests) now patient

-- one that knows it already stays as it is
pub learnt_same : (guests : List (Ip4 × Mac)) (p : Splice) → is_some p.mac ≡ true → learnt_from guests p ≡ p
learnt_same guests p is = ap (λ b. if b then p else learnt p (learnt_for p.face.guest.addr guests)) is

pub learnt_is : (guests : List (Ip4 × Mac)) (p : Splice) → is_some p.mac ≡ false → learnt_from guests p ≡ learnt p (learnt_for p.face.guest.addr guests)
learnt_is guests p is = ap (λ b. if b then p else learnt p (learnt_for p.face.guest.addr guests)) is

-- one that resolves has a place, and doesn't know it
pub resolving_is : (p : Splice) → is_resolving p ≡ true → (p.place ≡ Empty → ⊥) × (is_some p.mac ≡ false)
resolving_is p is = by p.place refl is
  where
    unknown : not (is_some p.mac) ≡ true → is_some p.mac ≡ false
    unknown is = by_test (is_some p.mac) is
      where
        by_test : (b : Bool) → not b ≡ true → b ≡ false
        by_test true is = cc
        by_test false is = refl

    by : (x : Place) → p.place ≡ x → resolves_at x p.mac ≡ true → (p.place ≡ Empty → ⊥) × (is_some p.mac ≡ false)
    by Empty at is = absurd (true_false (sym is))
    by InUse at is = ((λ none. cc (sym at ∙ none)), unknown is)
    by (InTimeWait since) at is = ((λ none. cc (sym at ∙ none)), unknown is)

-- and one that doesn't, and has a place, knows it
pub resolved_is : (p : Splice) → is_resolving p ≡ false → (p.place ≡ Empty → ⊥) → is_some p.mac ≡ true
resolved_is p none some = by p.place refl none
  where
    knows : (b : Bool) → not b ≡ false → b ≡ true
    knows true is = refl
    knows false is = cc

    by : (x : Place) → p.place ≡ x → resolves_at x p.mac ≡ false → is_some p.mac ≡ true
    by Empty at is = absurd (some at)
    by InUse at is = knows (is_some p.mac) is
    by (InTimeWait since) at is = knows (is_some p.mac) is

pub none_is : (m : Option Mac) → is_some m ≡ false → m ≡ None
none_is None is = refl
none_is (Some x) is = cc

some_is : (m : Option Mac) → m ≡ None → is_some m ≡ false
some_is m is = ap is_some is

-- it goes on as it will
pub learnt_moves : (p : Splice) (m : Option Mac) → Moves false p (learnt p m)
learnt_moves p m = record { face = refl; accepted = refl; shut = λ was. was; place = stays p.place }
  where
    stays : (x : Place) → MovesAt false x x
    stays Empty = refl
    stays InUse = tt
    stays (InTimeWait since) = refl

pub table_stays : (x : Place) (k : ℕ) (t : Tuple) (table : Flows) → table_at false x x k t table ≡ table
table_stays Empty k t table = refl
table_stays InUse k t table = refl
table_stays (InTimeWait since) k t table = refl

pub has_at : {X : Type 0} (xs : List X) (k : ℕ) → k < length xs → (x : X) × (slice_get xs k ≡ Some x)
has_at [] k fits = absurd (omega (arith, fits))
has_at (x ∷ xs) zero fits = (x, refl)
has_at (x ∷ xs) (suc k) fits = has_at xs k (omega (arith, fits))

-- a place of those that contracts see is one of the flows
pub slot_part : (parts : List Splice) (seen : List (Option Splice)) → map part_of parts ≡ seen → (k : ℕ) → k < length seen → (p : Splice) × (slice_get parts k ≡ Some p)
slot_part parts seen are k fits = has_at parts k (subst (λ n. k < n) (sym (sym (length-map parts part_of) ∙ ap (λ (l : List (Option Splice)). length l) are)) fits)

-- what is seen of one that doesn't resolve stays as it is
pub unsought : (guests : List (Ip4 × Mac)) (p : Splice) → is_resolving p ≡ false → option_map (learnt_from guests) (part_of p) ≡ part_of p
unsought guests p none = by p.place refl
  where
    by : (x : Place) → p.place ≡ x → option_map (learnt_from guests) (part_at x p) ≡ part_at x p
    by Empty at = refl
    by InUse at = ap Some (learnt_same guests p (resolved_is p none (λ is. cc (sym at ∙ is))))
    by (InTimeWait since) at = ap Some (learnt_same guests p (resolved_is p none (λ is. cc (sym at ∙ is))))

-- ---- how many resolve

pub none_resolves : (parts : List Splice) → count is_resolving parts ≡ 0 → (k : ℕ) (p : Splice) → slice_get (map part_of parts) k ≡ Some (Some p) → is_some p.mac ≡ true
none_resolves parts none k p here = resolved_is p (by (is_resolving p) refl) (raw_placed parts k p here)
  where
    by : (b : Bool) → is_resolving p ≡ b → is_resolving p ≡ false
    by false is = is
    by true is = let some = count_some is_resolving parts k p (raw_here parts k p here) is in absurd (omega (arith, some, none))

-- where no slot has a flow none does
pub idle_resolves : (parts : List Splice) → NoneInSlots (map part_of parts) → count is_resolving parts ≡ 0
idle_resolves parts none = count_none is_resolving parts (λ k p here. by k p here p.place refl)
  where
    by : (k : ℕ) (p : Splice) → slice_get parts k ≡ Some p → (x : Place) → p.place ≡ x → resolves_at p.place p.mac ≡ false
    by k p here Empty at = ap (λ x. resolves_at x p.mac) at
    by k p here InUse at = absurd (none k p (is_seen parts k p here (λ is. cc (sym at ∙ is))))
    by k p here (InTimeWait since) at = absurd (none k p (is_seen parts k p here (λ is. cc (sym at ∙ is))))

-- ---- all flows

-- where each knows it nothing is to be told
pub learnt_all : (guests : List (Ip4 × Mac)) (parts : List (Option Splice)) → ((k : ℕ) (p : Splice) → slice_get parts k ≡ Some (Some p) → is_some p.mac ≡ true) → HaveLearnt guests parts parts
learnt_all guests parts each = record {
  all = λ k p here. here ∙ ap (λ (x : Splice). Some (Some x)) (sym (learnt_same guests p (each k p here)));
  only = λ k q here. (q, here, sym (learnt_same guests q (each k q here)));
}

module _ (guests : List (Ip4 × Mac)) (old new : List (Option Splice)) (are : HaveLearnt guests old new) where
  -- each knows then what is known
  pub learnt_told : AreTold guests new
  learnt_told k q here none =
      let had = are.only k q here in
      let p : Splice = had.0 in
      let addr = ap (λ (x : Splice). x.face.guest.addr) had.2 ∙ learnt_keeps (λ (x : Splice). x.face.guest.addr) (λ x m. refl) guests p in
      ap (λ a. learnt_for a guests) addr ∙ by p (is_some p.mac) refl (sym (ap (λ (x : Splice). x.mac) had.2) ∙ none)
    where
      known_none : (m had : Option Mac) → or_known m had ≡ None → m ≡ None
      known_none None had is = refl
      known_none (Some x) had is = absurd (none_some (sym is))

      by : (p : Splice) (b : Bool) → is_some p.mac ≡ b → (learnt_from guests p).mac ≡ None → learnt_for p.face.guest.addr guests ≡ None
      by p true is none = absurd (true_false (sym is ∙ ap is_some (sym (ap (λ (x : Splice). x.mac) (learnt_same guests p is)) ∙ none)))
      by p false is none = known_none (learnt_for p.face.guest.addr guests) p.mac (sym (ap (λ (x : Splice). x.mac) (learnt_is guests p is)) ∙ none)

  learnt_open : (k : ℕ) (q : Splice) (at : IsOpenAt new k q) → IsOpenAt old k (are.only k q at.here).0
  learnt_open k q at =
      let had = are.only k q at.here in
      record { here = had.1; open_yet = sym (learnt_keeps is_open (λ x m. refl) guests had.0) ∙ ap is_open (sym had.2) ∙ at.open_yet }

  learnt_number : (k : ℕ) (q : Splice) (at : IsOpenAt new k q) → number_of (are.only k q at.here).0 ≡ number_of q
  learnt_number k q at = let had = are.only k q at.here in sym (learnt_keeps number_of (λ x m. refl) guests had.0) ∙ ap number_of (sym had.2)

  -- one that was in time is so then, and one that owed no acknowledgement owes none
  pub learnt_in_time : (now n : ℕ) → IsInTime now old n → IsInTime now new n
  learnt_in_time now n early k q at named =
      let had = are.only k q at.here in
      let timely = early k had.0 (learnt_open k q at) (learnt_number k q at ∙ named) in (
        subst (λ c. IsAhead c now) (sym (ap (λ (x : Splice). x.conn) had.2 ∙ learnt_keeps (λ (x : Splice). x.conn) (λ x m. refl) guests had.0)) timely.0,
        subst (λ (x : Splice). HasPatience x now) (sym had.2) (learns_patient guests had.0 now timely.1),
      )

  pub learnt_calm : (n : ℕ) → OwesNoAck old n → OwesNoAck new n
  learnt_calm n calm k q at named =
      let had = are.only k q at.here in
      ap (λ (x : Splice). x.conn.ack_owed) had.2 ∙ learnt_keeps (λ (x : Splice). x.conn.ack_owed) (λ x m. refl) guests had.0 ∙ calm k had.0 (learnt_open k q at) (learnt_number k q at ∙ named)

-- ---- the flow of a slot has changed, and knows its guest's address as before

pub told_changed : (guests : List (Ip4 × Mac)) (parts : List Splice) (seen : List (Option Splice)) → map part_of parts ≡ seen → (k : ℕ) (p q : Splice) →
    slice_get parts k ≡ Some p → (p.place ≡ Empty → ⊥)
    → q.face.guest.addr ≡ p.face.guest.addr → (q.mac ≡ None → p.mac ≡ None) → AreTold guests seen → AreTold guests (map part_of (set parts k q))
told_changed guests parts seen are k p q at some addr mac told =
    each_then parts seen are k q p at (λ i r. r.mac ≡ None → learnt_for r.face.guest.addr guests ≡ None) told
    (λ none. ap (λ a. learnt_for a guests) addr ∙ told k p (seen_here parts k p seen are at some) (mac none))

-- ---- one slot, in the trace

module _ (guests : List (Ip4 × Mac)) (table : Flows) (parts : List Splice) (opened : ℕ) (old new : Kept) (old_is : old.flows ≡ flows_of table parts opened)
    (slots_are : table.slots ≡ map slot_of parts) (kept : AreKept table.slots table.time_wait_order)
    (k : ℕ) (p q : Splice) (at : slice_get parts k ≡ Some p) (resolves : is_resolving p ≡ true) (q_is : q ≡ learnt p (learnt_for p.face.guest.addr guests))
    (new_is : new.flows ≡ flows_of table (set parts k q) opened)
    (settings : (config : Config) → IsFor config old → IsFor config new) where
  some : p.place ≡ Empty → ⊥
  some = (resolving_is p resolves).0

  unknown : p.mac ≡ None
  unknown = none_is p.mac (resolving_is p resolves).1

  -- the slots stand for the flows of the trace as before
  pub learns_of : Learns guests old new
  learns_of config now aged past known_is between = record {
    holds = subst (λ s. CoreHolds config now aged None s past) (sym new_is) (by (learnt_for p.face.guest.addr guests) refl);
    asked = subst (λ (s : FlowsState Splice). AreAsked config s.slots past) (sym new_is)
        (asked_then config past past (map part_of parts) (map part_of (set parts k q)) refl (λ guest. refl) (kept_asked parts k p q at some (ap number_of q_is)
        (let same = ap (λ (x : Splice). x.asked) q_is in omega (arith, same)) (ap (λ (x : Splice). x.accepted) q_is))
        (subst (λ (s : FlowsState Splice). AreAsked config s.slots past) old_is between.asked));
    settings = settings config between.settings;
    lawful = between.lawful;
    work = between.work;
    at = between.at;
  }
    where
      holds : CoreHolds config now aged None (flows_of table parts opened) past
      holds = subst (λ s. CoreHolds config now aged None s past) old_is between.holds

      f : Flow
      f = flow config now aged None table parts opened past holds slots_are kept k p at some

      -- one that is in TIME-WAIT knows its guest
      used : is_in_use f.story ≡ true
      used = by_place p.place refl (slot_is config now aged None table parts opened past holds slots_are kept k p at some)
          (followed config now aged None table parts opened past holds slots_are kept k p at some)
        where
          by_place : (x : Place) → p.place ≡ x → IsSlotOf (time_waits_at aged config past) f (slot_at x (ends_of p.face)) → FollowsAt p.place p.shut
              (flow_settings config) p f.story now → is_in_use f.story ≡ true
          by_place Empty here of_it follows = absurd (some here)
          by_place InUse here of_it follows = of_it.1
          by_place (InTimeWait since) here of_it follows = absurd ((subst (λ x. FollowsAt x p.shut (flow_settings config) p f.story now) here follows).known unknown)

      parts_then : (m : Option Mac) → learnt_for p.face.guest.addr guests ≡ m → map part_of (set parts k q) ≡ set (map part_of parts) k (Some (learnt p m))
      parts_then m is =
          map-set part_of parts k q ∙ ap (λ (x : Splice). set (map part_of parts) k (part_of x)) (q_is ∙ ap (learnt p) is) ∙ ap (set (map part_of parts) k) (part_is (learnt p m) some)

      by : (m : Option Mac) → learnt_for p.face.guest.addr guests ≡ m → CoreHolds config now aged None (flows_of table (set parts k q) opened) past
      by None is =
          subst (λ l. CoreHolds config now aged None (record { table = table; slots = l; opened = opened }) past)
          (sym (parts_then None is ∙ set_same (map part_of parts) k (Some p) (get_map part_of parts k p at ∙ ap Some (part_is p some)))) holds
      by (Some m) is =
          subst (λ l. CoreHolds config now aged None (record { table = table; slots = l; opened = opened }) past) (sym (parts_then (Some m) is))
          (core_told config now aged None (flows_of table parts opened) past holds k p f m (part_here config now aged None table parts opened past holds slots_are kept k p at some)
          (was config now aged None table parts opened past holds slots_are kept k p at some) used
          (ap (λ (t : Tuple). learnt_for t.guest.addr (known config past)) (ends config now aged None table parts opened past holds slots_are kept k p at some) ∙ ap
          (learnt_for p.face.guest.addr) known_is ∙ is))

-- what a slot's flow is, that resolves and was told, as the calls tell it
pub record IsToldAt (guests : List (Ip4 × Mac)) (parts : List Splice) (k : ℕ) (q : Splice) (place : Place) (was_open : Bool) : Type 0 where
  pub part : Splice
  pub at : slice_get parts k ≡ Some part
  pub resolves : is_resolving part ≡ true
  pub some : part.place ≡ Empty → ⊥
  pub q_is : q ≡ learnt part (learnt_for part.face.guest.addr guests)
  pub place_is : place ≡ part.place
  pub open_is : was_open ≡ is_open part
  pub moves : Moves false part q

pub told_at : (guests : List (Ip4 × Mac)) (parts : List Splice) (seen : List (Option Splice)) → map part_of parts ≡ seen → (waits : List Waits) → waits ≡ map waits_of parts → (k : ℕ) → k < length seen
    → (w : Waits) → w ≡ get_or waits k w → w.mac ≡ true → (d q : Splice) → d ≡ get_or parts k d → (place : Place) → place ≡ d.place → (was_open : Bool) → was_open ≡ is_open d
    → (guest : Endpoint) → guest ≡ d.face.guest → (mac : Option Mac) → mac ≡ learnt_for guest.addr guests → q ≡ learnt d mac → IsToldAt guests parts k q place was_open
told_at guests parts seen are waits waits_are k fits w read resolves d q here place place_is was_open open_is guest guest_is mac mac_is q_is =
    let found = slot_part parts seen are k fits in
    let p : Splice = found.0 in
    let is : d ≡ p = read_here parts k p d found.1 here in
    let wait : w ≡ waits_of p = waits_seen waits k p w (ap (λ (l : List Waits). slice_get l k) waits_are ∙ get_map waits_of parts k p found.1) read in
    let resolving : is_resolving p ≡ true = sym (ap (λ (x : Waits). x.mac) wait) ∙ resolves in
    let then_is : q ≡ learnt p (learnt_for p.face.guest.addr guests) =
    q_is ∙ ap (learnt d) (mac_is ∙ ap (λ (e : Endpoint). learnt_for e.addr guests) guest_is) ∙ ap (λ (x : Splice). learnt x (learnt_for x.face.guest.addr guests)) is in
    record {
      part = p;
      at = found.1;
      resolves = resolving;
      some = (resolving_is p resolving).0;
      q_is = then_is;
      place_is = place_is ∙ ap (λ (x : Splice). x.place) is;
      open_is = open_is ∙ ap is_open is;
      moves = subst (Moves false p) (sym then_is) (learnt_moves p (learnt_for p.face.guest.addr guests));
    }

-- one after another
pub learns_then : (guests : List (Ip4 × Mac)) (old mid new : Kept) → Learns guests old mid → Learns guests mid new → Learns guests old new
learns_then guests old mid new one two config now aged past known_is between = two config now aged past known_is (one config now aged past known_is between)

-- ---- one slot after another

-- those below this one were told, the others stand as they stood
pub record HaveLearntBelow (guests : List (Ip4 × Mac)) (bound : ℕ) (old new : List (Option Splice)) : Type 0 where
  pub below : (k : ℕ) → k < bound → slice_get new k ≡ option_map (option_map (learnt_from guests)) (slice_get old k)
  pub rest : (k : ℕ) → bound ≤ k → slice_get new k ≡ slice_get old k

pub learnt_none_yet : (guests : List (Ip4 × Mac)) (parts : List (Option Splice)) → HaveLearntBelow guests 0 parts parts
learnt_none_yet guests parts = record { below = λ k less. absurd (omega (arith, less)); rest = λ k most. refl }

pub learnt_next : (guests : List (Ip4 × Mac)) (bound : ℕ) (old mid new : List (Option Splice)) (x : Option Splice) → slice_get mid bound ≡ Some x → new ≡ set mid bound
    (option_map (learnt_from guests) x)
    → HaveLearntBelow guests bound old mid → HaveLearntBelow guests (bound + 1) old new
learnt_next guests bound old mid new x at is are = subst (HaveLearntBelow guests (bound + 1) old) (sym is) (record {
  below = λ k less. elim (same_or_not k bound) [
    | inl here ↦
        ap (slice_get (set mid bound (option_map (learnt_from guests) x))) here ∙ get_set_at mid bound x (option_map (learnt_from guests) x) at
        ∙ ap (option_map (option_map (learnt_from guests))) (sym at ∙ are.rest bound (omega arith) ∙ ap (slice_get old) (sym here))
    | inr other ↦ get_set_other mid bound k (option_map (learnt_from guests) x) (differ k bound other) ∙ are.below k (lower k (differ k bound other) less)
  ];
  rest = λ k most. get_set_other mid bound k (option_map (learnt_from guests) x) (λ same. omega (arith, most, same)) ∙ are.rest k (omega (arith, most));
})
  where
    lower : (k : ℕ) → (k ≡ bound → ⊥) → k < bound + 1 → k < bound
    lower k not less = grind (arith, not, less)

pub learnt_whole : (guests : List (Ip4 × Mac)) (bound : ℕ) (old new : List (Option Splice)) → length old ≤ bound → length new ≤ bound → HaveLearntBelow guests bound old new → HaveLearnt guests old new
learnt_whole guests bound old new few many are = record {
  all = λ k p here. let within = slice_get_within old k (Some p) here in are.below k (omega (arith, within, few)) ∙ ap (option_map (option_map (learnt_from guests))) here;
  only = λ k q here. let within = slice_get_within new k (Some q) here in by k q (slice_get old k) refl (sym (are.below k (omega (arith, within, many))) ∙ here);
}
  where
    by : (k : ℕ) (q : Splice) (o : Option (Option Splice)) → slice_get old k ≡ o → option_map (option_map (learnt_from guests)) o ≡ Some (Some q) → (p : Splice) ×
        (slice_get old k ≡ Some (Some p)) × (q ≡ learnt_from guests p)
    by k q None at is = absurd (none_some is)
    by k q (Some None) at is = absurd (none_some (some_same None (Some q) is))
    by k q (Some (Some p)) at is = (p, at, sym (some_same (learnt_from guests p) q (some_same (Some (learnt_from guests p)) (Some q) is)))
