-- A flow gives way to a guest's SYN, or none does: by the slots and in the trace.
use Rattle.std.proofs.Common.{◌≡◌, ℕ, zero, suc, ◌≤◌, ◌==◌, ◌^◌, ◌&&◌, ◌||◌, not, nat_le, nat_lt, Bool, true, false, List, [], ◌∷◌, get_or, map, set, slice_get, Option, Some, None, option_and_then, option_map}
use Rattle.std.proofs.Common.{if◌then◌else◌, refl, sym, ◌∙◌, ap, subst, arith}
use Rattle.std.proofs.lemmas.Bool.Decides.{nat_tests}
use Rattle.std.specs.List.{list_any}
use Rattle.std.specs.Prelude.{Contains}
use Rattle.std.specs.Option.{option_map_or}
use Rattle.net_octets.specs.declared.Mac.{Mac}
use Rattle.world_face.specs.Journal.{Call, CallClose, Close, Entry}
use Rattle.slirp_settings.specs.Addresses.{Config}
use Rattle.flow_table.specs.Slots.{AreKept, Flows}
use Rattle.spec_flow.specs.Event.{At, Closes, Story}
use Rattle.spec_flow.specs.Close.{before, follows_reset, last_at, may_give_way, newest_rst, owes_reset, is_fatal}
use Rattle.spec_flow.specs.Flow.{is_closed}
use Rattle.spec_flows.specs.Book.{book, scene}
use Rattle.spec_flows.specs.Flows.{Flow, comes_directly, comes_last, flow_of, guest_is_known, has_time_wait, is_used, used}
use Rattle.spec_flows.specs.Laws.{flow_settings}
use Rattle.spec_flows.specs.SegmentVerdicts.{NeedsRoom, OfFlow, asked_for, due_by, due_for_flows, giving_way, segment_verdict, needs_room, quietest}
use Rattle.spec_flows.specs.Segments.{OnTuple}
use Rattle.spec_flows.specs.Taught.{taught}
use Rattle.spec_trace.specs.Sockets.{next_number}
use Rattle.sim_connection.specs.Over.{is_resets}
use Rattle.sim_connection.proofs.Settling.{open_owes_none}
use Rattle.flow_splice.specs.Follows.{FollowsAt}
use Rattle.flow_splice.specs.Hosts.{IsAsOld}
use Rattle.flow_splice.specs.Splice.{Face, Splice, is_in_use, is_open}
use Rattle.flow_splice.specs.Wants.{gives_way_at}
use Rattle.flow_splice.specs.declared.Place.{Place}
use Rattle.flow_splice.specs.declared.Place.TheVariants.{Empty, InUse, InTimeWait}
use Rattle.flow_splice.proofs.GivingWay.{last_is, way_is}
use Rattle.sim_flows.specs.Core.{CoreHolds, Following, ends_of, number_of}
use Rattle.sim_flows.specs.FlowsHold.{FlowsState, time_waits_at}
use Rattle.sim_flows.proofs.Giving.{none_gives, none_owes, one_gives, one_owes}
use Rattle.spec_run.specs.Agenda.{agenda}
use Rattle.sim_flows.specs.Asked.{AreAsked}
use Rattle.sim_flows.specs.Seats.{Once}
use Rattle.sim_flows.specs.Stands.{verdict_without_flow, slot_at}
use Rattle.sim_flows.proofs.Only.{number_of_found}
use Rattle.sim_flows.proofs.Parting.{apart, called, core_parted, still_works}
use Rattle.sim_flows.proofs.Pumped.{Called, state_at}
use Rattle.rules_flow.specs.Choices.{is_before}
use Rattle.tcp_flows.specs.Way.{AreFirst, IsCrowded, IsFirstQuiet, gives, owes, quiet_of}
use Rattle.tcp_flows.specs.Kept.{IsFor, Kept, flows_of, part_of, slot_of}
use Rattle.tcp_flows.specs.Rows.{Moves, table_at}
use Rattle.tcp_flows.specs.Runs.{Between, Leaves}
use Rattle.rules_flow.specs.declared.Quiet.{Quiet}
use Rattle.tcp_flows.proofs.Asking.{asked_by_calls}
use Rattle.tcp_flows.proofs.Beside.{close_beside, leaves_none, none_strange}
use Rattle.tcp_flows.proofs.Keeping.{open_moves, open_used, raw_here, read_here}
use Rattle.tcp_flows.proofs.Lists.{get_map}
use Rattle.tcp_flows.proofs.Requesting.{kept_asked}
use Rattle.tcp_flows.proofs.Seated.{ends, flow, followed, learnt_here, once, part_here, part_is, slot_here, state_then, was}

-- ---- the part that gives way

both_first : (a b : Bool) → (a && b) ≡ true → a ≡ true
both_first true b is = refl
both_first false b is = cc

-- it is open
pub first_open : (now : ℕ) (parts : List Splice) (quiet : Quiet) (first : IsFirstQuiet now parts quiet) → is_open first.part ≡ true
first_open now parts quiet first = both_first (is_open first.part) (nat_le (gives_way_at first.part) now) first.may

-- what the part in the slot was, and what giving way makes of it
pub record Gave (now : ℕ) (parts : List Splice) (quiet : Quiet) (read q : Splice) (place : Place) (opens : Bool) : Type 0 where
  pub first : IsFirstQuiet now parts quiet
  pub open_yet : is_open first.part ≡ true
  pub read_is : read ≡ first.part
  pub as_old : IsAsOld first.part q
  pub moves : Moves false first.part q
  pub place_is : place ≡ first.part.place
  pub open_is : opens ≡ is_open first.part

pub gave : (now : ℕ) (parts : List Splice) (quiet : Quiet) (read q : Splice) (place : Place) (opens : Bool) → IsFirstQuiet now parts quiet → read ≡ get_or parts quiet.slot read
    → IsAsOld read q → place ≡ read.place → opens ≡ is_open read → Gave now parts quiet read q place opens
gave now parts quiet read q place opens first value stays place_read open_read =
    let p : Splice = first.part in
    let open_yet = first_open now parts quiet first in
    let read_is : read ≡ p = read_here parts quiet.slot p read first.at value in
    let as_old = subst (λ (x : Splice). IsAsOld x q) read_is stays in
    record {
      first = first;
      open_yet = open_yet;
      read_is = read_is;
      as_old = as_old;
      moves = open_moves p q open_yet as_old.face as_old.accepted;
      place_is = place_read ∙ ap (λ (x : Splice). x.place) read_is;
      open_is = open_read ∙ ap is_open read_is;
    }

-- ---- one flow

-- a flow owes its guest a reset where it was closed and has its slot
pub owes_is : (config : Config) (now : ℕ) (p : Splice) (story : Story) → Following config now p story → owes_reset story ≡ owes p
owes_is config now p story follows = by p.place p.shut follows
  where
    by : (x : Place) (b : Bool) → FollowsAt x b (flow_settings config) p story now → owes_reset story ≡ (is_in_use x && not (is_in_use x && not b))
    by Empty b q = q.over.owes ∙ q.owes_none
    by InUse true q = q.over.owes ∙ q.owes
    by InUse false q = open_owes_none story q.holds.goes.open_yet
    by (InTimeWait since) b q = q.time_waits.over.owes ∙ ap is_resets q.time_waits.at

-- and may give way where it is open and its moment came
pub gives_is : (config : Config) (at now : ℕ) → now ≤ 2 ^ 62 → (p : Splice) (story : Story) → Following config at p story → may_give_way now story ≡ gives now p
gives_is config at now few p story follows = by (is_open p) refl
  where
    closed : (x : Place) (b : Bool) → FollowsAt x b (flow_settings config) p story at → (is_in_use x && not b) ≡ false → is_closed story ≡ true
    closed Empty b q shut = q.over.closed
    closed InUse true q shut = q.over.closed
    closed InUse false q shut = cc
    closed (InTimeWait since) b q shut = q.time_waits.over.closed

    none : (b both late : Bool) → b ≡ true → (not b && both && late) ≡ false
    none true both late is = refl
    none false both late is = cc

    by : (b : Bool) → is_open p ≡ b → may_give_way now story ≡ gives now p
    by true open_yet = way_is (flow_settings config) p story at follows open_yet now few ∙ sym (ap (λ b. b && nat_le (gives_way_at p) now) open_yet)
    by false shut = none (is_closed story) _ _ (closed p.place p.shut follows shut) ∙ sym (ap (λ b. b && nat_le (gives_way_at p) now) shut)

pub last_of : (config : Config) (at now : ℕ) (p : Splice) (story : Story) → Following config at p story → gives now p ≡ true → last_at story ≡ p.last
last_of config at now p story follows may = sym (last_is (flow_settings config) p story at follows (first (is_open p) (nat_le (gives_way_at p) now) may))
  where
    first : (a b : Bool) → (a && b) ≡ true → a ≡ true
    first true b is = refl
    first false b is = cc

-- ---- a list of parts

any_of : (parts : List Splice) → list_any (λ (p : Splice). owes p) parts ≡ true → (k : ℕ) × (p : Splice) × (slice_get parts k ≡ Some p) × (owes p ≡ true)
any_of [] is = absurd cc
any_of (p ∷ parts) is = by (owes p) refl is (any_of parts)
  where
    by : (b : Bool) → owes p ≡ b → (b || list_any (λ (p : Splice). owes p) parts) ≡ true
        → (list_any (λ (p : Splice). owes p) parts ≡ true → (k : ℕ) × (p : Splice) × (slice_get parts k ≡ Some p) × (owes p ≡ true))
        → (k : ℕ) × (q : Splice) × (slice_get (p ∷ parts) k ≡ Some q) × (owes q ≡ true)
    by true here is rest = (0, p, refl, here)
    by false here is rest = let it = rest is in (suc it.0, it.1, it.2, it.3)

none_of : (parts : List Splice) → list_any (λ (p : Splice). owes p) parts ≡ false → (k : ℕ) (p : Splice) → slice_get parts k ≡ Some p → owes p ≡ false
none_of [] none k p at = absurd cc
none_of (q ∷ parts) none k p at = by (owes q) refl none k at (λ rest j here. none_of parts rest j p here)
  where
    by : (b : Bool) → owes q ≡ b → (b || list_any (λ (p : Splice). owes p) parts) ≡ false → (k : ℕ) → slice_get (q ∷ parts) k ≡ Some p
        → (list_any (λ (p : Splice). owes p) parts ≡ false → (j : ℕ) → slice_get parts j ≡ Some p → owes p ≡ false) → owes p ≡ false
    by true here none k at rest = cc
    by false here none zero at rest = let one : q ≡ p = cc in subst (λ (r : Splice). owes r ≡ false) one here
    by false here none (suc k) at rest = rest none k at

-- one that owes has its place
owes_placed : (p : Splice) → owes p ≡ true → p.place ≡ Empty → ⊥
owes_placed p is empty = not_both (sym is ∙ ap (λ x. is_in_use x && not (is_open p)) empty)
  where
    not_both : true ≡ false → ⊥
    not_both is = cc

-- of two that may give way one goes before the other
one_before : (a b m n : ℕ) → (nat_lt a b || ((a == b) && nat_lt m n)) ≡ false → (m == n) ≡ false → (nat_lt b a || ((b == a) && nat_lt n m)) ≡ true
one_before a b m n not other = grind (arith, nat_tests, not, other)

-- ---- in the trace

module _ (config : Config) (now : ℕ) (few : now ≤ 2 ^ 62) (table : Flows) (parts : List Splice) (opened : ℕ) (old : Kept) (old_is : old.flows ≡ flows_of table parts opened)
    (past : List Entry) (on : OnTuple) (crowded : IsCrowded config now on past)
    (between : Between config now false (due_for_flows config (book config past) (next_number past)) old past) where
  abbrev asked : Option Call
  asked = due_for_flows config (book config past) (next_number past)

  abbrev flows : List Flow
  flows = (book config past).flows

  holds : CoreHolds config now false asked (flows_of table parts opened) past
  holds = subst (λ s. CoreHolds config now false asked s past) old_is between.holds

  -- which call flows ask for, by the flow that gives way
  asked_is : (o : Option ℕ) → giving_way config now on (book config past) ≡ o → asked ≡ due_by o None (next_number past)
  asked_is o is =
      (λ i. due_by ((crowded.doomed ∙ is) i) (option_and_then (λ (x : OnTuple). asked_for (segment_verdict config (book config past) x)) (crowded.came i)) (next_number past))
      ∙ ap (λ l. due_by o (asked_for l) (next_number past)) crowded.segment_verdict

  way_is_by : (a : Bool) (o : Option Flow) → list_any (λ (f : Flow). owes_reset f.story) flows ≡ a → quietest now flows ≡ o
      → giving_way config now on (book config past) ≡ (if not a then option_map (λ (f : Flow). f.number) o else None)
  way_is_by a o owing quiet = (λ i. if needs_room (crowded.segment_verdict i) && not (owing i) then option_map (λ (f : Flow). f.number) (quiet i) else None)

  gives_here : (p : Splice) (story : Story) → Following config now p story → may_give_way now story ≡ gives now p
  gives_here p story follows = gives_is config now now few p story follows

  last_here : (p : Splice) (story : Story) → Following config now p story → gives now p ≡ true → last_at story ≡ p.last
  last_here p story follows may = last_of config now now p story follows may

  -- where one owes a reset none gives way
  any_owes : list_any (λ (p : Splice). owes p) parts ≡ true → list_any (λ (f : Flow). owes_reset f.story) flows ≡ true
  any_owes is =
      let it = any_of parts is in
      one_owes number_of (Following config now) owes (owes_is config now) now (gives now) gives_here (λ p. p.last) last_here table (map part_of parts) (next_number past) flows
      (time_waits_at false config past) holds.seats it.0 it.1 (get_map part_of parts it.0 it.1 it.2 ∙ ap Some (part_is it.1 (owes_placed it.1 it.3))) it.3

  unowed : list_any (λ (p : Splice). owes p) parts ≡ false → list_any (λ (f : Flow). owes_reset f.story) flows ≡ false
  unowed none =
      none_owes number_of (Following config now) owes (owes_is config now) now (gives now) gives_here (λ p. p.last) last_here table (map part_of parts) (next_number past) flows
      (time_waits_at false config past) holds.seats (λ k p at. none_of parts none k p (raw_here parts k p at))

  -- nothing is called then
  nothing_done : asked ≡ None → Between config now false None old past × Leaves config past [] × (agenda past ≡ agenda past)
  nothing_done none = (subst (λ d. Between config now false d old past) none between, leaves_none config past, refl)

  pub owed_first : list_any (λ (p : Splice). owes p) parts ≡ true → Between config now false None old past × Leaves config past [] × (agenda past ≡ agenda past)
  owed_first is = nothing_done (asked_is None (way_is_by true (quietest now flows) (any_owes is) refl))

  pub none_quiet : list_any (λ (p : Splice). owes p) parts ≡ false → AreFirst now parts None → Between config now false None old past × Leaves config past [] × (agenda past ≡ agenda past)
  none_quiet unowing none =
      nothing_done (asked_is None (way_is_by false None (unowed unowing)
      (none_gives number_of (Following config now) owes (owes_is config now) now (gives now) gives_here (λ p. p.last) last_here table (map part_of parts) (next_number past) flows
      (time_waits_at false config past) holds.seats (λ k p at. none k p (raw_here parts k p at)))))

  -- the flow of a slot does
  module _ (unowing : list_any (λ (p : Splice). owes p) parts ≡ false) (slots_are : table.slots ≡ map slot_of parts) (kept : AreKept table.slots table.time_wait_order)
      (quiet : Quiet) (is : IsFirstQuiet now parts quiet) (q : Splice) (new : Kept)
      (new_is : new.flows ≡ flows_of (table_at false is.part.place q.place quiet.slot (ends_of is.part.face) table) (set parts quiet.slot q) opened)
      (settings : IsFor config old → IsFor config new) (as_old : IsAsOld is.part q)
      (follows_on : (story : Story) (directly ended known : Bool) → may_give_way now story ≡ true → follows_reset directly story ≡ false → Following config now is.part story
      → Following config now q (At now (Closes directly ended known) ∷ story)) where
    abbrev p : Splice
    p = is.part

    abbrev k : ℕ
    k = quiet.slot

    open_yet : is_open p ≡ true
    open_yet = first_open now parts quiet is

    some : p.place ≡ Empty → ⊥
    some empty = cc (sym (open_used p open_yet) ∙ empty)

    abbrev f : Flow
    f = flow config now false asked table parts opened past holds slots_are kept k p is.at some

    followed_here : Following config now p f.story
    followed_here = followed config now false asked table parts opened past holds slots_are kept k p is.at some

    was_is : flow_of (number_of p) flows ≡ Some f
    was_is = was config now false asked table parts opened past holds slots_are kept k p is.at some

    here_is : slice_get (flows_of table parts opened).slots k ≡ Some (Some p)
    here_is = part_here config now false asked table parts opened past holds slots_are kept k p is.at some

    it_may : may_give_way now f.story ≡ true
    it_may = gives_here p f.story followed_here ∙ is.may

    before_all : (j : ℕ) (r : Splice) → slice_get (map part_of parts) j ≡ Some (Some r) → gives now r ≡ true → (number_of r == number_of p) ≡ false
        → (nat_lt p.last r.last || ((p.last == r.last) && nat_lt (number_of p) (number_of r))) ≡ true
    before_all j r at may other = one_before r.last p.last (number_of r) (number_of p)
        (ap (λ (x : Quiet). is_before (quiet_of j r) x) (sym is.is) ∙ is.first j r (raw_here parts j r at) may) other

    it_is : quietest now flows ≡ Some f
    it_is = one_gives number_of (Following config now) owes (owes_is config now) now (gives now) gives_here (λ p. p.last) last_here table (map part_of parts) (next_number past) flows
        (time_waits_at false config past) holds.seats k p here_is is.may before_all f was_is followed_here

    numbered : f.number ≡ number_of p
    numbered = number_of_found (number_of p) flows f was_is

    way : giving_way config now on (book config past) ≡ Some (number_of p)
    way = way_is_by false (Some f) (unowed unowing) it_is ∙ ap Some numbered

    asks_close : asked ≡ Some (CallClose (number_of p))
    asks_close = asked_is (Some (number_of p)) way

    holds_then : CoreHolds config now false (Some (CallClose (number_of p))) (flows_of table parts opened) past
    holds_then = subst (λ d. CoreHolds config now false d (flows_of table parts opened) past) asks_close holds

    doomed_is : (book config past).doomed ≡ Some (number_of p)
    doomed_is = crowded.doomed ∙ way

    unused : is_used on.tuple flows ≡ false
    unused = by (is_used on.tuple flows) crowded.segment_verdict
      where
        by : (b : Bool) → (if b || has_time_wait on.tuple (book config past) then OfFlow else verdict_without_flow config (nat_lt (used flows) config.flows) on) ≡ NeedsRoom → b ≡ false
        by true is = cc
        by false is = refl

    slot_is : slice_get table.slots k ≡ Some (slot_at p.place (ends_of p.face))
    slot_is = slot_here config now false asked table parts opened past holds slots_are kept k p is.at some

    ends_are : f.tuple ≡ ends_of p.face
    ends_are = ends config now false asked table parts opened past holds slots_are kept k p is.at some

    once_is : Once table.time_wait_order
    once_is = once config now false asked table parts opened past holds slots_are kept k p is.at some

    learnt_is : (m : Mac) → q.mac ≡ Some m → Contains (taught config past) (f.tuple.guest.addr, m)
    learnt_is = learnt_here config now false asked table parts opened past holds slots_are kept k p is.at some q as_old.mac

    rests_on : (since : ℕ) → p.place ≡ InTimeWait since → q.place ≡ InTimeWait since
    rests_on since time_waits = absurd (not_so (sym (open_used p open_yet) ∙ time_waits))
      where
        not_so : InUse ≡ InTimeWait since → ⊥
        not_so is = cc

    state_is : new.flows ≡ state_at (flows_of table parts opened) k (ends_of p.face) p q
    state_is = new_is ∙ state_then config now false asked table parts opened past holds slots_are kept k p is.at some q rests_on

    abbrev direct : Bool
    direct = comes_directly (book config past).came f

    direct_not : direct ≡ false
    direct_not = apart config (flows_of table parts opened) past now k p q holds_then between.at between.lawful between.work (ends_of p.face) f here_is slot_is as_old.face was_is ends_are once_is learnt_is
        doomed_is it_may on crowded.came unused

    follows_then : Following config now q (At now (Closes direct (comes_last (scene config past) f) (guest_is_known (scene config past) f)) ∷ f.story)
    follows_then = follows_on f.story direct (comes_last (scene config past) f) (guest_is_known (scene config past) f) it_may
        (ap (λ b. b && option_map_or (is_fatal (before f.story)) (newest_rst f.story) false) direct_not) followed_here

    abbrev is_called : Called config p.face f past now (Close (number_of p) ∷ []) (At now (Closes direct (comes_last (scene config past) f) (guest_is_known (scene config past) f)) ∷ [])
    is_called = called config (flows_of table parts opened) past now k p q holds_then between.at between.lawful between.work (ends_of p.face) f here_is slot_is as_old.face was_is ends_are once_is
        learnt_is doomed_is it_may

    pub given : Between config now false None new (Close (number_of p) ∷ past) × Leaves config past (Close (number_of p) ∷ []) × (agenda (Close (number_of p) ∷ past) ≡ agenda past)
    given = (
      record {
        holds = subst (λ s. CoreHolds config now false None s (Close (number_of p) ∷ past)) (sym state_is)
            (core_parted config (flows_of table parts opened) past now k p q holds_then between.at between.lawful between.work (ends_of p.face) f here_is slot_is as_old.face was_is ends_are once_is
            learnt_is doomed_is it_may follows_then);
        asked = subst (λ (s : FlowsState Splice). AreAsked config s.slots (Close (number_of p) ∷ past)) (sym new_is)
            (asked_by_calls config (number_of p) past (Close (number_of p) ∷ []) (map part_of parts) (map part_of (set parts k q)) is_called.of refl
            (kept_asked parts k p q is.at some (ap (λ (x : Face). x.number) as_old.face) (let asked = as_old.asked in omega (arith, asked)) as_old.accepted)
            (subst (λ (s : FlowsState Splice). AreAsked config s.slots past) old_is between.asked));
        settings = settings between.settings;
        lawful = is_called.lawful;
        work = still_works config (flows_of table parts opened) past now k p q holds_then between.at between.lawful between.work (ends_of p.face) f here_is slot_is as_old.face was_is ends_are once_is
            learnt_is doomed_is it_may;
        at = is_called.at;
      },
      record {
        left = refl;
        tail = refl;
        blocked = refl;
        counted = refl;
        next = refl;
        taught = refl;
        others = close_beside config past (number_of p) is_called.lawful (none_strange config past (number_of p) f between.lawful was_is);
      },
      refl,
    )
