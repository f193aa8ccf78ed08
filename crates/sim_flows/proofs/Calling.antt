-- Calls on the socket of a flow: each may come, and is the flow's event.
use Rattle.std.proofs.Common.{◌≡◌, ℕ, ◌&&◌, ◌||◌, not, Bool, true, false, List, [], ◌∷◌, ◌++◌, is_some, MatchOption, Option, Some, None, if◌then◌else◌, IsTrue, ◌⊎◌, inl, inr, refl, sym, ◌∙◌, ap, subst}
use Rattle.std.specs.Option.{option_or}
use Rattle.poll_list.specs.Listing.{reads, writes}
use Rattle.poll_list.specs.declared.Who.TheVariants.{Tcp}
use Rattle.world_face.specs.Journal.{Entry, Call, Close, CallConnected, CallTcpRead, CallTcpWrite, CallTcpEnd, CallClose}
use Rattle.slirp_settings.specs.Addresses.{Config}
use Rattle.spec_trace.specs.Moments.{moment}
use Rattle.spec_trace.specs.Shape.{Phase, due_in, is_ended, is_over, is_working, phase}
use Rattle.spec_trace.specs.Sockets.{Kind, Association, DnsSocket, Forward, Listener, Flow as AFlow, is_among, is_flow, kind_of, next_number, open_sockets, first}
use Rattle.spec_flow.specs.Event.{Segment, Event, Closes, At, Story, is_failure}
use Rattle.spec_flow.specs.Close.{ended_first, finds_no_guest, follows_reset, gives_up, host_failed, is_done, newest_rst, in_time_wait_since, waits_too_long}
use Rattle.spec_flow.specs.Flow.{is_closed}
use Rattle.spec_flow.specs.Lawful.{Act, AskConnected, Write, EndHost, Read, HasOwnCause, May as MayOfOne}
use Rattle.spec_flow.specs.Dutiful.{Must as MustOfOne, MustClose, read_size}
use Rattle.spec_flows.specs.Book.{after_close as rests_after, book, time_wait, scene, turned}
use Rattle.spec_flows.specs.Doings.{Calls, Shuts, doing}
use Rattle.spec_flows.specs.Flows.{Flow, closing, comes_directly, flow_of, guest_is_known, is_it, shuts, with_event}
use Rattle.spec_flows.specs.Laws.{AsksForRoom, ClosesAtOnce, MayAct, MayFlow, MayShut, MayTouch, MustAct, MustTouch, NoneMustClose, flow_settings}
use Rattle.spec_flows.specs.SegmentVerdicts.{due_by, due_for_flows}
use Rattle.spec_flows.specs.Said.{Differ}
use Rattle.spec_flows.proofs.Apart.{own_call, own_close}
use Rattle.sim_flows.specs.Only.{IsOf}
use Rattle.sim_flows.proofs.Only.{number_of_found, only_happens}
use Rattle.sim_flows.proofs.Seats.{owner_id, same_or_not}
use Rattle.spec_run.specs.Agenda.{agenda}
use Rattle.spec_run.specs.Asking.{step, step_of}
use Rattle.spec_run.specs.Datagrams.{due_for}
use Rattle.spec_run.specs.Laws.{May, MayDue, due, due_for_services, has_just_written, is_closing, joins, may_leave, may_part, parts}
use Rattle.spec_run.specs.Names.{kind_for}
use Rattle.spec_run.proofs.Sorts.{same_flow}
use Rattle.spec_run.proofs.Bools.{and_both, first_of, second_of}
use Rattle.spec_run.proofs.Deeds.{any_one, closes, gathered, this_one}
use Rattle.flow_splice.specs.Splice.{Face}
use Rattle.sim_flows.specs.Stands.{HasFlow, HasFlowOf, InWork, close_if, with_time_wait}
use Rattle.sim_flows.proofs.Options.{some_same}

-- ---- what is due

-- in a turn in which no datagram asks for a call, flows alone do
pub due_is : (config : Config) (past : List Entry) → InWork config past → due config past ≡ due_for_flows config (book config past) (next_number past)
due_is config past work =
    let flows = due_for_flows config (book config past) (next_number past) in
    let services = due_for_services config past in
    ap (λ (p : Phase). option_or (due_in p past) (option_or (due_for config (step config past) (next_number past)) (option_or services flows))) work.working
    ∙ ap (λ e. option_or (due_for config (step_of config past e) (next_number past)) (option_or services flows)) work.errand
    ∙ ap (λ o. option_or o flows) work.services

-- ---- a close, whatever flows ask for

module _ (config : Config) (face : Face) (f : Flow) (past : List Entry) (work : InWork config past) (asks : Option Call) (has : HasFlowOf asks config face f past) where
  kind_is : (o : Option Kind) → is_flow o ≡ true → o ≡ Some AFlow
  kind_is None is = cc
  kind_is (Some Association) is = cc
  kind_is (Some DnsSocket) is = cc
  kind_is (Some Forward) is = cc
  kind_is (Some Listener) is = cc
  kind_is (Some AFlow) is = refl

  -- where it has a cause the socket is one that may part, so this close isn't the first of the closing
  pub parts_then : may_leave (scene config past) (book config past) face.number (Some f) ≡ true → is_closed f.story ≡ false → parts config past face.number ≡ true
  parts_then leaves open_yet =
      ap (may_part config past face.number)
      (kind_is (kind_for config face.number past) (same_flow config face.number past ∙ second_of (is_among face.number (open_sockets past)) (is_flow (kind_of face.number past))
      (has.socket open_yet)))
      ∙ ap (may_leave (scene config past) (book config past) face.number) has.found
      ∙ leaves

  closes_it : (closing part ended least : Bool) → closing ≡ false → part ≡ true → (if closing then least else part || (ended && least)) ≡ true
  closes_it true part ended least none is = cc
  closes_it false true ended least none is = refl
  closes_it false false ended least none is = cc

  -- flows ask for this close, or for nothing
  abbrev AsksThis : Type 0
  AsksThis = (asks ≡ None) ⊎ (asks ≡ Some (CallClose face.number))

  close_is_due : AsksThis → MayDue config past (CallClose face.number)
  close_is_due (inl none) = any_one config past (CallClose face.number) (due_is config past work ∙ has.due ∙ none)
  close_is_due (inr this) = this_one config past (CallClose face.number) (due_is config past work ∙ has.due ∙ this)

  flows_close : AsksThis → MatchOption (due_for_flows config (book config past) (next_number past)) (Unit {0}) (λ d. CallClose face.number ≡ d)
  flows_close (inl none) = subst (λ o. MatchOption o (Unit {0}) (λ d. CallClose face.number ≡ d)) (sym (has.due ∙ none)) tt
  flows_close (inr this) = subst (λ o. MatchOption o (Unit {0}) (λ d. CallClose face.number ≡ d)) (sym (has.due ∙ this)) refl

  -- it alone may be the one that must be closed
  closes_only : ClosesAtOnce config past (CallClose face.number)
  closes_only number g found must = elim (same_or_not number face.number) [
    | inl same ↦ ap CallClose (sym same)
    | inr other ↦ absurd (has.others number g other found must)
  ]

  pub shuts_then : AsksThis → may_leave (scene config past) (book config past) face.number (Some f) ≡ true → is_closed f.story ≡ false
      → MayOfOne (flow_settings config) f.story (moment past) (closing (scene config past) (book config past).came f) → May config past (CallClose face.number)
  shuts_then this leaves open_yet may =
      closes config past face.number (close_is_due this) (ap (λ p. is_working p || is_over p) work.working)
      (and_both (is_among face.number (open_sockets past)) _ (first_of (is_among face.number (open_sockets past)) (is_flow (kind_of face.number past)) (has.socket open_yet))
      (closes_it (is_closing config past) (parts config past face.number) (is_ended config past) (is_it face.number (first (open_sockets past))) work.open_yet (parts_then leaves open_yet)))
      (record {
        due = flows_close this;
        touches = subst (MayShut (flow_settings config) (scene config past) (book config past).came) (sym has.found) may;
        must = tt;
        at_once = closes_only;
      })

  -- the trace has it closed then, and it asks for nothing
  pub closed_then : Differ (book config past).flows → HasFlow config face (shuts (scene config past) (book config past).came f) (Close face.number ∷ past)
  closed_then differ =
      let only = only_happens config (scene config past) face.number (book config past) differ (Shuts face.number) refl in
      record {
        found = own_close config (scene config past) (book config past) face.number f has.found;
        guest = has.guest;
        other = has.other;
        owned = owner_id f.tuple (book config (Close face.number ∷ past)).flows (book config past).flows only.same ∙ has.owned;
        socket = λ open_yet. cc;
        due = refl;
        others = λ number g other found. has.others number g other (sym (only.apart number other) ∙ found);
      }

  -- and it is the last of those in TIME-WAIT, where its story says that it is in TIME-WAIT
  by_rest : (b : Bool) (now : ℕ) → f.number ≡ face.number → (if is_some (if b then Some now else None) then (book config past).time_waits ++ time_wait f.number now ∷ [] else (book config past).time_waits)
      ≡ with_time_wait (if b then Some now else None) face.number (book config past).time_waits
  by_rest true now number = ap (λ n. (book config past).time_waits ++ time_wait n now ∷ []) number
  by_rest false now number = refl

  pub rests_then : Differ (book config past).flows → (now : ℕ) (directly ended known : Bool) → moment past ≡ now → shuts (scene config past)
      (book config past).came f ≡ with_event now (Closes directly ended known) f
      → (book config (Close face.number ∷ past)).time_waits ≡ with_time_wait (in_time_wait_since (At now (Closes directly ended known) ∷ f.story)) face.number (book config past).time_waits
  rests_then differ now directly ended known at shuts_is =
      ap (λ m. rests_after m (flow_of face.number (book config (Close face.number ∷ past)).flows) (book config past).time_waits) at
      ∙ ap (λ o. rests_after now o (book config past).time_waits) ((closed_then differ).found ∙ ap Some shuts_is)
      ∙ by_rest (is_done f.story && not (follows_reset directly f.story) && ended_first f.story) now (number_of_found face.number (book config past).flows f has.found)

module _ (config : Config) (face : Face) (f : Flow) (past : List Entry) (work : InWork config past) (has : HasFlow config face f past) where
  -- after a call that failed the close is due, and else nothing
  pub close_due : due config past ≡ close_if (host_failed f.story) face.number
  close_due = due_is config past work ∙ has.due

  none_due : host_failed f.story ≡ false → due config past ≡ None
  none_due well = close_due ∙ ap (λ b. close_if b face.number) well

  flows_due : host_failed f.story ≡ false → due_for_flows config (book config past) (next_number past) ≡ None
  flows_due well = has.due ∙ ap (λ b. close_if b face.number) well

  on_yet : not (is_closing config past) ≡ true
  on_yet = ap not work.open_yet

  working : is_working (phase config past) ≡ true
  working = ap is_working work.working

  -- where this flow needn't be closed none must be
  pub none_must_close : (MustClose f.story → ⊥) → NoneMustClose config past
  none_must_close stay number g found must = elim (same_or_not number face.number) [
    | inl same ↦ stay (subst (λ (h : Flow). MustClose h.story) (some_same g f (sym (ap (λ n. flow_of n (book config past).flows) (sym same) ∙ found) ∙ has.found)) must)
    | inr other ↦ has.others number g other found must
  ]

  -- the flows' sentence, of a call on the socket that isn't a close
  flows_let : (call : Call) (act : Act) → host_failed f.story ≡ false → (MustClose f.story → ⊥) →
      (MayAct (flow_settings config) (moment past) (flow_of face.number (book config past).flows) act → MayTouch config past call)
      → (MustAct (flow_settings config) (moment past) (flow_of face.number (book config past).flows) act → MustTouch config past call)
      → MayOfOne (flow_settings config) f.story (moment past) act → MustOfOne (flow_settings config) f.story (moment past) act → MayFlow config past call
  flows_let call act well stay touch so may must = record {
    due = subst (λ o. MatchOption o (Unit {0}) (λ d. call ≡ d)) (sym (flows_due well)) tt;
    touches = touch (subst (λ o. MayAct (flow_settings config) (moment past) o act) (sym has.found) may);
    must = so (subst (λ o. MustAct (flow_settings config) (moment past) o act) (sym has.found) must);
    at_once = λ number g found closes. absurd (none_must_close stay number g found closes);
  }

  -- each of them may come where the story allows it and the report is there
  pub may_look : MayOfOne (flow_settings config) f.story (moment past) AskConnected → MustOfOne (flow_settings config) f.story (moment past) AskConnected → writes (Tcp face.number)
      (agenda past) ≡ true → May config past (CallConnected face.number)
  may_look may must reported =
      gathered config past (CallConnected face.number) tt (any_one config past (CallConnected face.number) (none_due may.closes_after_failure)) working
      (has.socket may.calls_open_socket) reported refl on_yet
      (flows_let (CallConnected face.number) AskConnected may.closes_after_failure must.closes_after_reset (λ m. m) (λ m. m) may must)

  pub may_give : (octets : List ℕ) → MayOfOne (flow_settings config) f.story (moment past) (Write octets) → MustOfOne (flow_settings config) f.story (moment past) (Write octets) →
      writes (Tcp face.number) (agenda past) ≡ true → May config past (CallTcpWrite face.number octets)
  may_give octets may must reported =
      gathered config past (CallTcpWrite face.number octets) tt (any_one config past (CallTcpWrite face.number octets) (none_due may.closes_after_failure)) working
      (has.socket may.calls_open_socket) reported refl on_yet
      (flows_let (CallTcpWrite face.number octets) (Write octets) may.closes_after_failure must.closes_after_reset (λ m. m) (λ m. m) may must)

  pub may_end : MayOfOne (flow_settings config) f.story (moment past) EndHost → MustOfOne (flow_settings config) f.story (moment past) EndHost →
      (writes (Tcp face.number) (agenda past) || has_just_written face.number past) ≡ true → May config past (CallTcpEnd face.number)
  may_end may must reported =
      gathered config past (CallTcpEnd face.number) tt (any_one config past (CallTcpEnd face.number) (none_due may.closes_after_failure)) working
      (has.socket may.calls_open_socket) reported refl on_yet
      (flows_let (CallTcpEnd face.number) EndHost may.closes_after_failure must.closes_after_reset (λ m. m) (λ m. m) may must)

  pub may_take : (asked : ℕ) → asked ≡ read_size (flow_settings config) f.story → MayOfOne (flow_settings config) f.story (moment past) Read → MustOfOne
      (flow_settings config) f.story (moment past) Read → reads (Tcp face.number) (agenda past) ≡ true → May config past (CallTcpRead face.number asked)
  may_take asked size may must reported =
      gathered config past (CallTcpRead face.number asked) tt (any_one config past (CallTcpRead face.number asked) (none_due may.closes_after_failure)) working
      (has.socket may.calls_open_socket) reported refl on_yet
      (flows_let (CallTcpRead face.number asked) Read may.closes_after_failure must.closes_after_reset (λ m. m)
      (λ m. (m, subst (λ o. AsksForRoom (flow_settings config) o asked) (sym has.found) size)) may must)

  -- ---- what the trace has of the flow then

  -- an event that closes nothing
  pub record IsCall (ev : Event) : Type 0 where
    pub failed : (m : ℕ) (story : Story) → host_failed (At m ev ∷ story) ≡ is_failure ev
    pub closed : (m : ℕ) (story : Story) → is_closed (At m ev ∷ story) ≡ is_closed story
    pub time_waits : (m : ℕ) (story : Story) → in_time_wait_since (At m ev ∷ story) ≡ in_time_wait_since story

  due_after : (t : Bool) (number : ℕ) → due_by (if t then Some face.number else None) None number ≡ close_if t face.number
  due_after true number = refl
  due_after false number = refl

  pub after_call : (e : Entry) (ev : Event) → doing config past e ≡ Calls face.number ev → IsCall ev → joins (e ∷ past) face.number ≡ joins past face.number → Differ (book config past).flows
      → HasFlow config face (with_event (moment past) ev f) (e ∷ past)
  after_call e ev is call same differ =
      let new : book config (e ∷ past) ≡ turned config (scene config past) (Calls face.number ev) (book config past) = ap (λ d. turned config (scene config past) d (book config past)) is in
      let only = only_happens config (scene config past) face.number (book config past) differ (doing config past e) (subst (IsOf face.number (book config past)) (sym is) refl) in
      record {
        found = ap (λ b. flow_of face.number b.flows) new ∙ own_call config (scene config past) (book config past) face.number ev f has.found;
        guest = has.guest;
        other = has.other;
        owned = owner_id f.tuple (book config (e ∷ past)).flows (book config past).flows only.same ∙ has.owned;
        socket = λ open_yet. same ∙ has.socket (sym (call.closed (moment past) f.story) ∙ open_yet);
        due = ap (λ b. due_for_flows config b (next_number (e ∷ past))) new ∙ due_after (is_failure ev) (next_number (e ∷ past)) ∙ ap (λ t. close_if t face.number)
            (sym (call.failed (moment past) f.story));
        others = λ number g other found. has.others number g other (sym (only.apart number other) ∙ found);
      }

  -- ---- a close

  some_rst : (o : Option Segment) (P : Segment → Type 0) → MatchOption o ⊥ P → is_some o ≡ true
  some_rst None P is = absurd is
  some_rst (Some seg) P is = refl

  -- the cause of a close, as a test
  by_first : (x a h g r d : Bool) → IsTrue (a || false || h || g) → (x || a || h || g || r || d) ≡ true
  by_first true a h g r d is = refl
  by_first false true h g r d is = refl
  by_first false false true g r d is = refl
  by_first false false false true r d is = refl
  by_first false false false false r d is = cc

  by_second : (x a h g r d : Bool) → IsTrue r → (x || a || h || g || r || d) ≡ true
  by_second true a h g r d is = refl
  by_second false true h g r d is = refl
  by_second false false true g r d is = refl
  by_second false false false true r d is = refl
  by_second false false false false true d is = refl
  by_second false false false false false d is = cc

  by_third : (x a h g r d : Bool) → d ≡ true → (x || a || h || g || r || d) ≡ true
  by_third true a h g r d is = refl
  by_third false true h g r d is = refl
  by_third false false true g r d is = refl
  by_third false false false true r d is = refl
  by_third false false false false true d is = refl
  by_third false false false false false d is = is

  pub may_leave_then : HasOwnCause (comes_directly (book config past).came f) false (guest_is_known (scene config past) f) (moment past) f.story
      → may_leave (scene config past) (book config past) face.number (Some f) ≡ true
  may_leave_then cause = by cause
    where
      x : Bool
      x = is_it face.number (book config past).doomed

      a : Bool
      a = is_done f.story

      h : Bool
      h = host_failed f.story

      g : Bool
      g = finds_no_guest (guest_is_known (scene config past) f) (moment past) f.story

      r : Bool
      r = not (follows_reset (comes_directly (book config past).came f) f.story) && (gives_up (moment past) f.story || waits_too_long (moment past) f.story)

      d : Bool
      d = comes_directly (book config past).came f && is_some (newest_rst f.story)

      by : HasOwnCause (comes_directly (book config past).came f) false (guest_is_known (scene config past) f) (moment past) f.story → (x || a || h || g || r || d) ≡ true
      by (inl first) = by_first x a h g r d first
      by (inr (inl second)) = by_second x a h g r d second
      by (inr (inr third)) = by_third x a h g r d (and_both (comes_directly (book config past).came f) (is_some (newest_rst f.story)) third.0 (some_rst (newest_rst f.story) _ third.1))

  asks_this : (b : Bool) → (close_if b face.number ≡ None) ⊎ (close_if b face.number ≡ Some (CallClose face.number))
  asks_this true = inr refl
  asks_this false = inl refl

  module _ (cause : HasOwnCause (comes_directly (book config past).came f) false (guest_is_known (scene config past) f) (moment past) f.story) (open_yet : is_closed f.story ≡ false) where
    pub may_part_then : parts config past face.number ≡ true
    may_part_then = parts_then config face f past work (close_if (host_failed f.story) face.number) has (may_leave_then cause) open_yet

    pub may_shut : MayOfOne (flow_settings config) f.story (moment past) (closing (scene config past) (book config past).came f) → May config past (CallClose face.number)
    may_shut may = shuts_then config face f past work (close_if (host_failed f.story) face.number) has (asks_this (host_failed f.story)) (may_leave_then cause) open_yet may

  -- the trace has it closed then, and it asks for nothing
  pub after_close : Differ (book config past).flows → HasFlow config face (shuts (scene config past) (book config past).came f) (Close face.number ∷ past)
  after_close differ = closed_then config face f past work (close_if (host_failed f.story) face.number) has differ

  -- and it is the last of those in TIME-WAIT, where its story says that it is in TIME-WAIT
  pub rests_closed : Differ (book config past).flows → (now : ℕ) (directly ended known : Bool) → moment past ≡ now → shuts (scene config past)
      (book config past).came f ≡ with_event now (Closes directly ended known) f
      → (book config (Close face.number ∷ past)).time_waits ≡ with_time_wait (in_time_wait_since (At now (Closes directly ended known) ∷ f.story)) face.number (book config past).time_waits
  rests_closed differ now directly ended known at shuts_is =
      rests_then config face f past work (close_if (host_failed f.story) face.number) has differ now directly ended known at shuts_is

  -- and if so, since now
  pub since_now : (b : Bool) (now m : ℕ) → (if b then Some now else None) ≡ Some m → m ≡ now
  since_now true now m is = cc
  since_now false now m is = cc
