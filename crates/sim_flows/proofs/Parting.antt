-- A flow gives way to a SYN: its close is the call that flows ask for, and the core's slots stand for the flows of the trace then.
use Rattle.std.proofs.Common.{◌≡◌, ℕ, ◌+◌, ◌&&◌, ◌||◌, not, nat_le, Bool, true, false, List, [], ◌∷◌, ◌++◌, slice_get, Option, Some, None, is_some, option_map, if◌then◌else◌, inr, refl, sym, ◌∙◌, ap, subst}
use Rattle.std.specs.Prelude.{Contains}
use Rattle.net_octets.specs.declared.Mac.{Mac}
use Rattle.world_face.specs.Journal.{Call, CallClose, Close, Entry}
use Rattle.slirp_settings.specs.Addresses.{Config}
use Rattle.spec_trace.specs.Moments.{moment}
use Rattle.spec_flows.specs.declared.Tuple.{Tuple}
use Rattle.spec_flow.specs.Event.{Closes, At, Story}
use Rattle.spec_flow.specs.Close.{ended_first, finds_no_guest, follows_reset, gives_up, host_failed, host_was_ended, is_done, last_at, may_give_way, newest_rst, our_fin_is_acked, owes_reset, quiet_time, waits_too_long}
use Rattle.spec_flow.specs.Flow.{is_closed}
use Rattle.spec_flow.specs.Lawful.{May as MayOfOne}
use Rattle.sim_halves.proofs.Acts.{may_close}
use Rattle.spec_flows.specs.Book.{book, scene}
use Rattle.spec_flows.specs.Flows.{Flow, came_on, closing, comes_directly, comes_last, flow_of, guest_is_known, is_it, is_on, is_used, owner, shuts, uses, with_event}
use Rattle.spec_flows.specs.Segments.{OnTuple, same_tuple}
use Rattle.spec_flows.specs.Laws.{flow_settings}
use Rattle.spec_flows.specs.Said.{Differ}
use Rattle.spec_flows.specs.Taught.{taught}
use Rattle.spec_run.specs.Laws.{Lawful, May, is_closing, may_leave}
use Rattle.spec_run.proofs.Bools.{same}
use Rattle.spec_run.proofs.Deeds.{quest_none}
use Rattle.flow_splice.specs.Splice.{Splice}
use Rattle.sim_flows.specs.Core.{CoreHolds, Following, ends_of, number_of}
use Rattle.sim_flows.specs.FlowsHold.{FlowsState}
use Rattle.sim_flows.specs.Seats.{Once, number_in}
use Rattle.sim_flows.specs.Stands.{HasFlow, HasFlowOf, InWork, slot_at}
use Rattle.sim_flows.proofs.Calling.{closed_then, parts_then, rests_then, shuts_then}
use Rattle.sim_flows.proofs.Holding.{taught_on}
use Rattle.sim_flows.proofs.Opening.{tuples_same}
use Rattle.sim_flows.proofs.Options.{some_same}
use Rattle.sim_flows.proofs.Only.{found_by}
use Rattle.sim_flows.proofs.Pumped.{Called, core_called, state_at}
use Rattle.sim_flows.proofs.Pumping.{differ_in}
use Rattle.sim_flows.proofs.Sockets.{open_has_socket}
use Rattle.sim_flows.proofs.Staying.{core_stays}

-- one that may give way is open
pub gives_open : (now : ℕ) (story : Story) → may_give_way now story ≡ true → is_closed story ≡ false
gives_open now story is = by (is_closed story) (not (host_was_ended story && our_fin_is_acked story)) (nat_le (last_at story + quiet_time story) now) is
  where
    by : (c both late : Bool) → (not c && both && late) ≡ true → c ≡ false
    by true both late is = cc
    by false both late is = refl

module _ (config : Config) (state : FlowsState Splice) (past : List Entry) (now : ℕ) (k : ℕ) (p q : Splice)
    (holds : CoreHolds config now false (Some (CallClose (number_of p))) state past) (moment_is : moment past ≡ now) (lawful : Lawful config past) (work : InWork config past)
    (t : Tuple) (f : Flow) (at : slice_get state.slots k ≡ Some (Some p)) (slot : slice_get state.table.slots k ≡ Some (slot_at p.place t)) (face : q.face ≡ p.face)
    (was : flow_of (number_of p) (book config past).flows ≡ Some f) (ends : f.tuple ≡ ends_of p.face) (once : Once state.table.time_wait_order)
    (learnt : (m : Mac) → q.mac ≡ Some m → Contains (taught config past) (f.tuple.guest.addr, m)) (doomed : (book config past).doomed ≡ Some (number_of p))
    (gives : may_give_way now f.story ≡ true) where
  abbrev pub directly : Bool
  directly = comes_directly (book config past).came f

  abbrev pub ended : Bool
  ended = comes_last (scene config past) f

  abbrev pub known : Bool
  known = guest_is_known (scene config past) f

  abbrev pub its_close : List Entry
  its_close = Close (number_of p) ∷ []

  open_yet : is_closed f.story ≡ false
  open_yet = gives_open now f.story gives

  has : HasFlowOf (Some (CallClose (number_of p))) config p.face f past
  has = record {
    found = was;
    guest = ap (λ (u : Tuple). u.guest) ends;
    other = ap (λ (u : Tuple). u.other) ends;
    owned = holds.seats.owned k (number_of p) f.tuple (ap (number_in number_of) at) (ap (option_map (λ (g : Flow). g.tuple)) was);
    socket = λ open_now. open_has_socket config past (number_of p) f lawful was open_now;
    due = holds.asked;
    others = λ number g other. core_stays config now false (Some (CallClose (number_of p))) state past holds number g;
  }

  leaves : may_leave (scene config past) (book config past) (number_of p) (Some f) ≡ true
  leaves =
      first (is_it (number_of p) (book config past).doomed) (is_done f.story) (host_failed f.story) (finds_no_guest known (moment past) f.story)
      (not (follows_reset directly f.story) && (gives_up (moment past) f.story || waits_too_long (moment past) f.story)) (directly && is_some (newest_rst f.story))
      (ap (is_it (number_of p)) doomed ∙ same (number_of p))
    where
      first : (x a h g r d : Bool) → x ≡ true → (x || a || h || g || r || d) ≡ true
      first true a h g r d is = refl
      first false a h g r d is = cc

  may_be : MayOfOne (flow_settings config) f.story (moment past) (closing (scene config past) (book config past).came f)
  may_be = may_close (flow_settings config) f.story (moment past) directly ended known (inr (subst (λ m. may_give_way m f.story ≡ true) (sym moment_is) gives)) open_yet

  pub may_part : May config past (CallClose (number_of p))
  may_part = shuts_then config p.face f past work (Some (CallClose (number_of p))) has (inr refl) leaves open_yet may_be

  shuts_is : shuts (scene config past) (book config past).came f ≡ with_event now (Closes directly ended known) f
  shuts_is = ap (λ m. with_event m (Closes directly ended known) f) moment_is

  differ : Differ (book config past).flows
  differ = differ_in config past lawful

  then_has : HasFlow config p.face (shuts (scene config past) (book config past).came f) (Close (number_of p) ∷ past)
  then_has = closed_then config p.face f past work (Some (CallClose (number_of p))) has differ

  pub called : Called config p.face f past now its_close (At now (Closes directly ended known) ∷ [])
  called = record {
    lawful = (may_part, lawful);
    found = then_has.found ∙ ap Some shuts_is;
    of = (refl, tt);
    at = moment_is;
    asks = then_has.due;
    next = refl;
    time_waits = λ was_open. rests_then config p.face f past work (Some (CallClose (number_of p))) has differ now directly ended known moment_is shuts_is;
    rests_on = λ shut. never (sym shut ∙ open_yet);
    stays_in_time_wait = λ shut. never (sym shut ∙ open_yet);
    since = λ was_open m is. since_now (is_done f.story && not (follows_reset directly f.story) && ended_first f.story) m is;
  }
    where
      never : {X : Type 0} → true ≡ false → X
      never is = cc

      since_now : (b : Bool) (m : ℕ) → (if b then Some now else None) ≡ Some m → m ≡ now
      since_now true m is = cc
      since_now false m is = cc

  -- no call is asked for then, and the run goes on
  pub still_works : InWork config (its_close ++ past)
  still_works = record {
    working = work.working;
    errand = work.errand;
    services = quest_none config past work.services;
    open_yet = ap (λ b. if not b then true else is_closing config past) (parts_then config p.face f past work (Some (CallClose (number_of p))) has leaves open_yet) ∙ work.open_yet;
  }

  -- it doesn't come directly after a segment of the flow, where that segment's ends are those of none in use
  pub apart : (on : OnTuple) → (book config past).came ≡ Some on → is_used on.tuple (book config past).flows ≡ false → directly ≡ false
  apart on came unused = ap (came_on f.tuple) came ∙ by (same_tuple on.tuple f.tuple) refl
    where
      never : {X : Type 0} → true ≡ false → X
      never is = cc

      one_owner : (o : Option Flow) → owner f.tuple (book config past).flows ≡ o → option_map (λ (g : Flow). g.number) o ≡ Some (number_of p) → uses o ≡ true
      one_owner None is number = absurd cc
      one_owner (Some g) is number =
          let numbered : g.number ≡ number_of p = some_same g.number (number_of p) number in
          let found : flow_of g.number (book config past).flows ≡ Some g = found_by (is_on f.tuple) (book config past).flows g differ is in
          let one : g ≡ f = some_same g f (sym found ∙ ap (λ n. flow_of n (book config past).flows) numbered ∙ was) in
          ap (λ (h : Flow). not (is_closed h.story) || owes_reset h.story) one ∙ ap (λ b. not b || owes_reset f.story) open_yet

      by : (b : Bool) → same_tuple on.tuple f.tuple ≡ b → b ≡ false
      by false is = refl
      by true is =
          let tuple : on.tuple ≡ f.tuple = tuples_same on.tuple f.tuple is in
          let used : is_used on.tuple (book config past).flows ≡ true = ap (λ u. is_used u (book config past).flows) tuple
          ∙ one_owner (owner f.tuple (book config past).flows) refl has.owned in
          never (sym used ∙ unused)

  -- the core's relation holds after it
  module _ (follows : Following config now q (At now (Closes directly ended known) ∷ f.story)) where
    pub core_parted : CoreHolds config now false None (state_at state k t p q) (its_close ++ past)
    core_parted = core_called config state past now false (Some (CallClose (number_of p))) holds moment_is lawful k p q t f at slot face was once its_close
        (At now (Closes directly ended known) ∷ []) called follows (λ m is. taught_on config past its_close (f.tuple.guest.addr, m) (learnt m is))
