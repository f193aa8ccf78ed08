-- A port of the host is given to a guest while a run goes on, or taken back.
use Rattle.std.proofs.Common.{◌≡◌, ◌≢◌, ℕ, zero, suc, ◌+◌, ◌<◌, ◌==◌, ◌&&◌, ◌||◌, ◌⊎◌, not, nat_le, nat_lt, Bool, true, false, is_some, List, [], ◌∷◌, ◌++◌, length, filter, slice_get}
use Rattle.std.proofs.Common.{Option, Some, None, option_map, find, if◌then◌else◌, inl, inr, refl, sym, ◌∙◌, ap, subst, arith}
use Rattle.std.specs.Option.{option_and_then}
use Rattle.std.specs.Prelude.{Result, Ok, Err, IsErr, IsOk}
use Rattle.std.specs.Result.{is_ok}
use Rattle.net_octets.specs.declared.Endpoint.{Endpoint}
use Rattle.world_face.specs.Journal.{Allowed, AreAllowed, CallClose, CallListen, CallUdpOpen, Close, Entry, call_of}
use Rattle.world_face.specs.declared.Made.{Made}
use Rattle.world_face.specs.declared.Made.TheVariants.{Done, Failed}
use Rattle.world_face.specs.Tells.{Makes, Telling}
use Rattle.world_face.proofs.Telling.{makes_none}
use Rattle.slirp_settings.specs.Addresses.{Config, address, forward_on, is_guest}
use Rattle.slirp_settings.specs.declared.Forward.{Forward}
use Rattle.slirp_settings.specs.declared.Proto.{Proto}
use Rattle.slirp_settings.specs.declared.Proto.TheVariants.{Tcp, Udp}
use Rattle.rules_forward.specs.Adding.{Adds, AddsBy, fault_of, opening_of as port_opening}
use Rattle.rules_forward.specs.Opened.{Opened, is_at, is_taken, most_forwards, socket_at, socket_of, without as without_port}
use Rattle.rules_forward.specs.declared.FwdFault.{FwdFault}
use Rattle.rules_forward.specs.declared.FwdFault.TheVariants.{Taken, BadGuest, Full, Refused}
use Rattle.rules_udp.specs.Associations.{numbers, without}
use Rattle.rules_dns.specs.Questions.{numbers as question_numbers, without as without_question}
use Rattle.spec_trace.specs.Moments.{waits}
use Rattle.spec_trace.specs.Shape.{Working, is_ended, is_over, is_working, opened, phase}
use Rattle.spec_trace.specs.Sockets.{Association as OfAssociation, DnsSocket, Flow as OfFlow, Forward as OfForward, Kind, Listener as OfListener, datagram_kind, first, is_among, is_association, is_flow, kind_of, next_number}
use Rattle.spec_trace.specs.Sockets.{open_sockets}
use Rattle.spec_flows.specs.Book.{book, port_by, port_of}
use Rattle.spec_flows.specs.Flows.{flow_of, is_it}
use Rattle.spec_flows.specs.Laws.{NoneMustClose}
use Rattle.spec_run.specs.Asking.{step}
use Rattle.spec_run.specs.Datagrams.{NeedsNothing}
use Rattle.spec_run.specs.Errands.{errand_left}
use Rattle.spec_run.specs.Laws.{May, carries, due, is_added, is_closing, may_close, may_part, parts}
use Rattle.spec_run.specs.Names.{kind_for, questions}
use Rattle.spec_run.specs.Ports.{given_by, given_port, is_port}
use Rattle.spec_run.specs.Questions.{is_for_question}
use Rattle.spec_run.specs.Relayed.{associations}
use Rattle.spec_run.proofs.Bools.{among_without, and_both, equal, or_first, or_second, same, turned}
use Rattle.spec_run.proofs.Deeds.{any_one, ask_nothing, closes, gathered, untouched}
use Rattle.spec_run.proofs.Longest.{same_port}
use Rattle.stream_netdev.specs.State.{LinkState}
use Rattle.sim_flows.proofs.Options.{true_false}
use Rattle.slirp_core.specs.Added.{MayAdd, MayRemove, closed_at, number_after, was_asked}
use Rattle.slirp_core.specs.Forwards.{AreInForce, IsInForce, given_kind, is_given}
use Rattle.rules_forward.specs.Opened.{forward_sockets}
use Rattle.slirp_core.specs.Holds.{Flowing, Holds, InTurn, Turns, Unbegun, after, asked_by, carriers, flowing, holders_of}
use Rattle.slirp_core.specs.Sockets.{AllAbove, IsRising}
use Rattle.slirp_core.specs.State.{SlirpState}
use Rattle.slirp_core.proofs.Flows.{close_same, closes_freely, flows_ask_nothing, flows_same, flows_stay, flows_stay_open, no_flow_of}
use Rattle.slirp_core.proofs.Given.{above, among_at, given_last, given_none, is_kind, none_above, opening_next, opening_open, opening_waits}
use Rattle.slirp_core.proofs.Guests.{guests_stay}
use Rattle.slirp_core.proofs.Names.{among_both, known_of, none_first, none_second, none_without}
use Rattle.slirp_core.proofs.Openings.{Quiet, errand_then, kinds_opened, left_then, list_then, named_then, opens_quietly, phase_then}
use Rattle.slirp_core.proofs.Owing.{owed_stays}
use Rattle.slirp_core.proofs.Parts.{asked_for, carried_by, due_is, errand_for, in_turn, keeps_by, still_open}
use Rattle.slirp_core.proofs.Relaying.{unclosed}
use Rattle.slirp_core.proofs.Services.{none_due_for_services, services_stay}

opened_working : (answer : Made) → opened answer Working ≡ Working
opened_working Done = refl
opened_working Failed = refl

no_association : (p : Proto) (b : Bool) → (b && is_association (Some (given_kind p))) ≡ false
no_association Tcp true = refl
no_association Tcp false = refl
no_association Udp true = refl
no_association Udp false = refl

no_flow_kind : (p : Proto) → is_flow (Some (given_kind p)) ≡ false
no_flow_kind Tcp = refl
no_flow_kind Udp = refl

-- ---- a list without one of its middle

at_middle : (before behind : List Opened) (x : Opened) → slice_get (before ++ x ∷ behind) (length before) ≡ Some x
at_middle [] behind x = refl
at_middle (y ∷ before) behind x = at_middle before behind x

in_whole : (before behind : List Opened) (x : Opened) (k : ℕ) (o : Opened) → slice_get (before ++ behind) k ≡ Some o → (j : ℕ) × (slice_get (before ++ x ∷ behind) j ≡ Some o)
in_whole [] behind x k o at = (suc k, at)
in_whole (y ∷ before) behind x zero o at = (0, at)
in_whole (y ∷ before) behind x (suc k) o at = let more = in_whole before behind x k o at in (suc more.0, more.1)

sockets_of_both : (before behind : List Opened) → forward_sockets (before ++ behind) ≡ forward_sockets before ++ forward_sockets behind
sockets_of_both [] behind = refl
sockets_of_both (y ∷ before) behind = ap (λ l. socket_of y ∷ l) (sockets_of_both before behind)

among_fewer : (m n : ℕ) (ns ms : List ℕ) → (m == n) ≡ false → is_among m (ns ++ n ∷ ms) ≡ true → is_among m (ns ++ ms) ≡ true
among_fewer m n [] ms other is = sym (ap (λ b. b || is_among m ms) other) ∙ is
among_fewer m n (x ∷ ns) ms other is = by (m == x) is (among_fewer m n ns ms other)
  where
    by : (b : Bool) → (b || is_among m (ns ++ n ∷ ms)) ≡ true → (is_among m (ns ++ n ∷ ms) ≡ true → is_among m (ns ++ ms) ≡ true) → (b || is_among m (ns ++ ms)) ≡ true
    by true is rest = refl
    by false is rest = rest is

among_middle : (n : ℕ) (ns ms : List ℕ) → is_among n (ns ++ n ∷ ms) ≡ true
among_middle n [] ms = ap (λ b. b || is_among n ms) (same n)
among_middle n (x ∷ ns) ms = or_second (n == x) (is_among n (ns ++ n ∷ ms)) (among_middle n ns ms)

above_fewer : (x n : ℕ) (ns ms : List ℕ) → AllAbove x (ns ++ n ∷ ms) → AllAbove x (ns ++ ms)
above_fewer x n [] ms up = up.1
above_fewer x n (y ∷ ns) ms up = (up.0, above_fewer x n ns ms up.1)

rising_fewer : (bound n : ℕ) (ns ms : List ℕ) → IsRising bound (ns ++ n ∷ ms) → IsRising bound (ns ++ ms)
rising_fewer bound n [] ms rising = rising.2
rising_fewer bound n (x ∷ ns) ms rising = (rising.0, above_fewer x n ns ms rising.1, rising_fewer bound n ns ms rising.2)

-- it isn't among the others
rising_apart : (bound n : ℕ) (ns ms : List ℕ) → IsRising bound (ns ++ n ∷ ms) → is_among n (ns ++ ms) ≡ false
rising_apart bound n [] ms rising = none_above n ms rising.1
rising_apart bound n (x ∷ ns) ms rising = by (n == x) refl (rising_apart bound n ns ms rising.2)
  where
    by : (b : Bool) → (n == x) ≡ b → is_among n (ns ++ ms) ≡ false → (b || is_among n (ns ++ ms)) ≡ false
    by true here rest = let it = equal n x here in let less = above x n (ns ++ n ∷ ms) rising.1 (among_middle n ns ms) in absurd (omega (arith, it, less))
    by false other rest = rest

-- where one less is left it was the only one at its port
no_more : (p : Opened → Bool) (list : List Opened) → length (filter p list) < length list + 1
no_more p [] = omega arith
no_more p (x ∷ list) = by (p x) (no_more p list)
  where
    by : (b : Bool) → length (filter p list) < length list + 1 → length (if b then x ∷ filter p list else filter p list) < suc (length list) + 1
    by true more = omega (arith, more)
    by false more = omega (arith, more)

all_kept : (p : Opened → Bool) (list : List Opened) → length (filter p list) ≡ length list → filter p list ≡ list
all_kept p [] many = refl
all_kept p (x ∷ list) many = by (p x) many (no_more p list) (all_kept p list)
  where
    by : (b : Bool) → length (if b then x ∷ filter p list else filter p list) ≡ suc (length list) → length (filter p list) < length list + 1 → (length (filter p list) ≡ length list → filter p list ≡ list)
        → (if b then x ∷ filter p list else filter p list) ≡ x ∷ list
    by true many most more = ap (λ l. x ∷ l) (more (omega (arith, many)))
    by false many most more = absurd (omega (arith, many, most))

-- the forward of a port of the host, and the list around it
pub record IsTaken (socket : ℕ) (list new : List Opened) : Type 0 where
  pub before : List Opened
  pub behind : List Opened
  pub forward : Forward
  pub is : list ≡ before ++ (forward, socket) ∷ behind
  pub left : new ≡ before ++ behind

pub taken_out : (p : Proto) (host : Endpoint) (socket : ℕ) (list : List Opened) → socket_at p host list ≡ Some socket → length (without_port p host list) + 1 ≡ length list → IsTaken socket list (without_port p host list)
taken_out p host socket [] found one = cc
taken_out p host socket (x ∷ list) found one = by (is_at p host x) found one (λ found one. taken_out p host socket list found one)
  where
    by : (b : Bool) → option_map socket_of (if b then Some x else find (is_at p host) list) ≡ Some socket
        → length (if not b then x ∷ without_port p host list else without_port p host list) + 1 ≡ suc (length list)
        → (socket_at p host list ≡ Some socket → length (without_port p host list) + 1 ≡ length list → IsTaken socket list (without_port p host list))
        → IsTaken socket (x ∷ list) (if not b then x ∷ without_port p host list else without_port p host list)
    by true found one more = record {
      before = [];
      behind = list;
      forward = x.0;
      is = ap (λ n. (x.0, n) ∷ list) (the_same found);
      left = all_kept (λ o. not (is_at p host o)) list (omega (arith, one));
    }
      where
        the_same : Some (socket_of x) ≡ Some socket → x.1 ≡ socket
        the_same is = cc
    by false found one more =
        let rest = more found (omega (arith, one)) in
        record { before = x ∷ rest.before; behind = rest.behind; forward = rest.forward; is = ap (λ l. x ∷ l) rest.is; left = ap (λ l. x ∷ l) rest.left }

-- ---- in a turn, between its calls

module _ (config : Config) (count : ℕ) (slirp : SlirpState) (f : Flowing) (link : LinkState) (past : List Entry) (some : 0 < count) (holds : Holds config (after count) slirp f link past) where
  not_before : Unbegun config NeedsNothing slirp link past → ⊥
  not_before unbegun =
      let none : waits past ≡ 0 = unbegun.unwaited in
      let counted : waits past ≡ count = holds.clock.counted in
      omega (arith, some, none, counted)

  turn : InTurn config past
  turn = in_turn holds.stands not_before

  nothing_asked : step config past ≡ NeedsNothing
  nothing_asked = asked_for config (after count) NeedsNothing None slirp f link past holds

  nothing_due : due config past ≡ None
  nothing_due = due_is config past NeedsNothing turn.working (none_due_for_services config past holds.relayed.heard holds.services.quest) holds.flows.holds.asked nothing_asked

  stay : NoneMustClose config past
  stay = flows_stay_open config f slirp.moment past holds.flows

  nothing_left : errand_left config past ≡ None
  nothing_left = errand_for config NeedsNothing None slirp past holds.relayed

  -- ---- a port of the host is given to a guest

  module _ (g : Forward) (led : forward_on config slirp.number ≡ Some g) (port : g.host.port ≢ 0) where
    no_zero : (g.host.port == 0) ≡ false
    no_zero = by (g.host.port == 0) refl
      where
        by : (b : Bool) → (g.host.port == 0) ≡ b → b ≡ false
        by true is = absurd (port (equal g.host.port 0 is))
        by false is = refl

    named : datagram_kind (nat_lt 0 (waits past)) g.host.port ≡ OfForward
    named = by (nat_lt 0 (waits past))
      where
        by : (b : Bool) → datagram_kind b g.host.port ≡ OfForward
        by true = ap (λ (z : Bool). if z then OfAssociation else OfForward) no_zero
        by false = refl

    drawn : (slirp.number == next_number past) ≡ true
    drawn = ap (λ n. slirp.number == n) holds.sockets.number ∙ same slirp.number

    abbrev host_of : Option Forward → Option Endpoint
    host_of o = option_map (λ (f : Forward). f.host) o

    is_added_now : (guest : Option Endpoint) → is_some guest ≡ true → is_added config past slirp.number g.host guest ≡ true
    is_added_now guest some_guest =
        let works = is_working (phase config past) in
        let at_port = is_port g.host (host_of (forward_on config slirp.number)) in
        and_both (works && is_some guest && at_port) (not (g.host.port == 0))
        (and_both (works && is_some guest) at_port (and_both works (is_some guest) (ap is_working turn.working) some_guest) (ap (λ o. is_port g.host (host_of o)) led ∙ same_port g.host))
        (ap not no_zero)

    may_add : (answer : Made) → May config past (call_of (port_opening g.proto slirp.number g.host answer))
    may_add answer = by g.proto refl
      where
        by : (p : Proto) → g.proto ≡ p → May config past (call_of (port_opening p slirp.number g.host answer))
        by Tcp is =
            gathered config past (CallListen slirp.number g.host) tt (any_one config past (CallListen slirp.number g.host) nothing_due)
            (or_second (is_some (due config past)) (is_added config past slirp.number g.host (port_of config slirp.number)) (is_added_now (port_of config slirp.number)
            (ap (λ (o : Option Forward). is_some (option_and_then (λ (f : Forward). port_by f.proto f.guest) o)) led ∙ ap (λ p. is_some (port_by p g.guest)) is)))
            drawn refl refl (ap not holds.open_yet) (untouched config past (CallListen slirp.number g.host) (ask_nothing config past nothing_due stay) tt tt)
        by Udp is =
            gathered config past (CallUdpOpen slirp.number g.host) tt (any_one config past (CallUdpOpen slirp.number g.host) nothing_due)
            (or_second (is_some (due config past)) (is_added config past slirp.number g.host (given_port config slirp.number)) (is_added_now (given_port config slirp.number)
            (ap (λ (o : Option Forward). is_some (option_and_then (λ (f : Forward). given_by f.proto f.guest) o)) led ∙ ap (λ p. is_some (given_by p g.guest)) is)))
            drawn refl refl (ap not holds.open_yet) (untouched config past (CallUdpOpen slirp.number g.host) (ask_nothing config past nothing_due stay) tt tt)

    abbrev forwards_after : Made → List Opened
    forwards_after Done = slirp.forwards ++ (g, slirp.number) ∷ []
    forwards_after Failed = slirp.forwards

    in_force_after : (answer : Made) → AreInForce config (forwards_after answer) (port_opening g.proto slirp.number g.host answer ∷ past)
    in_force_after Done = given_last config slirp.forwards past holds.lawful holds.forwards g g.host named slirp.number drawn led
    in_force_after Failed = given_none config slirp.forwards past holds.lawful holds.forwards g g.host named slirp.number drawn

    -- the host opened it, or refused it
    pub host_asked : (answer : Made) → Allowed (port_opening g.proto slirp.number g.host answer)
        → Holds config (after count) (record slirp { number = slirp.number + 1; forwards = forwards_after answer }) f link (port_opening g.proto slirp.number g.host answer ∷ past)
    host_asked answer fine =
        let e = port_opening g.proto slirp.number g.host answer in
        let new : SlirpState = record slirp { number = slirp.number + 1; forwards = forwards_after answer } in
        let q : Quiet config e past = opens_quietly config g.proto slirp.number g.host answer past in
        record {
          lawful = (may_add answer, holds.lawful);
          allowed = (fine, holds.allowed);
          keeps = keeps_by link e past q.framed q.partly q.rest q.blocked holds.keeps;
          answers = record {
            sent = q.sent ∙ holds.answers.sent;
            owed = owed_stays config f.aged slirp new e past q.files q.again q.moment refl (left_then config g.proto slirp.number g.host answer past nothing_asked) q.sent refl holds.answers.owed;
          };
          guests = guests_stay config slirp new e past q.came refl holds.guests;
          relayed = record {
            list = list_then config slirp.number g.host past nothing_left g.proto answer ∙ holds.relayed.list;
            questions = named_then config slirp.number g.host past nothing_left g.proto answer ∙ holds.relayed.questions;
            asks = ap (asked_by config new) (errand_then config slirp.number g.host past nothing_left g.proto answer);
            heard = q.unheard;
          };
          services = services_stay config slirp new e past q.came q.files refl holds.services;
          forwards = in_force_after answer;
          flows = flows_stay config f slirp.moment e past q.silent q.unasked (let up = opening_next g.proto slirp.number g.host answer past in omega (arith, up)) q.moment holds.flows;
          sockets = record {
            number = opening_next g.proto slirp.number g.host answer past ∙ ap (λ n. n + 1) holds.sockets.number;
            kinds = kinds_opened g.proto slirp.number g.host answer past named holds.sockets.kinds;
          };
          clock = record { moment = q.moment ∙ holds.clock.moment; counted = opening_waits g.proto slirp.number g.host answer past ∙ holds.clock.counted };
          stands = Turns (record {
            working = phase_then config g.proto slirp.number g.host answer past ∙ ap (opened answer) turn.working ∙ opened_working answer;
            waited = subst (λ n. 0 < n) (sym (opening_waits g.proto slirp.number g.host answer past)) turn.waited;
          });
          agenda = (holds.agenda.0, q.unreported ∙ holds.agenda.1);
          open_yet = opening_open config g.proto slirp.number g.host answer past ∙ holds.open_yet;
        }

  -- ---- and taken back

  module _ (n : ℕ) (told : is_among n config.removed ≡ true) (new : List Opened) (one : IsTaken n slirp.forwards new) where
    here : IsInForce config past (one.forward, n)
    here = holds.forwards.each (length one.before) (one.forward, n) (ap (λ (l : List Opened). slice_get l (length one.before)) one.is ∙ at_middle one.before one.behind (one.forward, n))

    given_here : is_given (kind_of n past) ≡ true
    given_here = ap is_given here.kind ∙ is_kind one.forward.proto

    unlisted : is_among n (numbers slirp.associations ++ question_numbers slirp.questions) ≡ false
    unlisted =
        sym (carried_by config (after count) NeedsNothing None slirp f link past holds n)
        ∙ ap (λ k. is_among n (open_sockets past) && is_association k) here.kind ∙ no_association one.forward.proto (is_among n (open_sockets past))

    neither : (is_among n (numbers slirp.associations) || is_among n (question_numbers slirp.questions)) ≡ false
    neither = sym (among_both n (numbers slirp.associations) (question_numbers slirp.questions)) ∙ unlisted

    list_is : without n (associations config past) ≡ slirp.associations
    list_is = ap (without n) holds.relayed.list ∙ unclosed n slirp.associations (none_first (is_among n (numbers slirp.associations)) (is_among n (question_numbers slirp.questions)) neither)

    questions_are : without_question n (questions config past) ≡ slirp.questions
    questions_are = ap (without_question n) holds.relayed.questions
        ∙ none_without n slirp.questions (none_second (is_among n (numbers slirp.associations)) (is_among n (question_numbers slirp.questions)) neither)

    -- its kind is that of its entry
    kind_is : kind_for config n past ≡ Some (given_kind one.forward.proto)
    kind_is = by (known_of config past holds.lawful n)
      where
        no_name : (p : Proto) → Some (given_kind p) ≡ Some OfAssociation → ⊥
        no_name Tcp is = cc
        no_name Udp is = cc

        by : ((kind_for config n past ≡ kind_of n past) × (is_for_question (kind_of n past) ≡ false)) ⊎ ((kind_for config n past ≡ Some DnsSocket) × (kind_of n past ≡ Some OfAssociation))
            → kind_for config n past ≡ Some (given_kind one.forward.proto)
        by (inl known) = known.0 ∙ here.kind
        by (inr other) = absurd (no_name one.forward.proto (sym here.kind ∙ other.1))

    parted : parts config past n ≡ true
    parted = ap (may_part config past n) kind_is ∙ by one.forward.proto
      where
        by : (p : Proto) → may_part config past n (Some (given_kind p)) ≡ true
        by Tcp = told
        by Udp = told

    may_close_it : may_close config past n ≡ true
    may_close_it =
        let ended = is_ended config past && is_it n (first (open_sockets past)) in
        and_both (is_among n (open_sockets past)) (if is_closing config past then is_it n (first (open_sockets past)) else parts config past n || ended) here.open_yet
        (ap (λ (b : Bool). if b then is_it n (first (open_sockets past)) else parts config past n || ended) holds.open_yet ∙ or_first (parts config past n) ended parted)

    no_one : flow_of n (book config past).flows ≡ None
    no_one = no_flow_of config past n holds.lawful here.open_yet (ap is_flow here.kind ∙ no_flow_kind one.forward.proto)

    may_take : May config past (CallClose n)
    may_take =
        closes config past n (any_one config past (CallClose n) nothing_due) (ap (λ p. is_working p || is_over p) turn.working) may_close_it
        (closes_freely config past n no_one (flows_ask_nothing config f slirp.moment past holds.flows))

    all_sockets : forward_sockets slirp.forwards ≡ forward_sockets one.before ++ n ∷ forward_sockets one.behind
    all_sockets = ap forward_sockets one.is ∙ sockets_of_both one.before ((one.forward, n) ∷ one.behind)

    left_sockets : forward_sockets new ≡ forward_sockets one.before ++ forward_sockets one.behind
    left_sockets = ap forward_sockets one.left ∙ sockets_of_both one.before one.behind

    rising : IsRising (next_number past) (forward_sockets one.before ++ n ∷ forward_sockets one.behind)
    rising = subst (IsRising (next_number past)) all_sockets holds.forwards.rising

    was_open : (m : ℕ) → is_among m (open_sockets (Close n ∷ past)) ≡ true → (not (m == n) ≡ true) × (is_among m (open_sockets past) ≡ true)
    was_open m among = both (not (m == n)) (is_among m (open_sockets past)) (sym (among_without m n (open_sockets past)) ∙ among)
      where
        both : (a b : Bool) → (a && b) ≡ true → (a ≡ true) × (b ≡ true)
        both true b is = (refl, is)
        both false b is = cc

    no_longer : (b : Bool) → not b ≡ true → b ≡ false
    no_longer true is = cc
    no_longer false is = refl

    in_force_left : AreInForce config new (Close n ∷ past)
    in_force_left = record {
      each = λ k o at.
          let whole = in_whole one.before one.behind (one.forward, n) k o (ap (λ (l : List Opened). slice_get l k) (sym one.left) ∙ at) in
          let was = holds.forwards.each whole.0 o (ap (λ (l : List Opened). slice_get l whole.0) one.is ∙ whole.1) in
          let other = apart (socket_of o) (ap (is_among (socket_of o)) (sym left_sockets) ∙ among_at new k o at) in
          record {
            open_yet = among_without (socket_of o) n (open_sockets past) ∙ and_both (not (socket_of o == n)) (is_among (socket_of o) (open_sockets past)) (ap not other) was.open_yet;
            kind = was.kind;
            is = was.is;
          };
      all = λ m among given.
          let was = was_open m among in
          ap (is_among m) left_sockets
          ∙ among_fewer m n (forward_sockets one.before) (forward_sockets one.behind) (no_longer (m == n) was.0) (ap (is_among m) (sym all_sockets) ∙ holds.forwards.all m was.1 given);
      rising = subst (IsRising (next_number past)) (sym left_sockets) (rising_fewer (next_number past) n (forward_sockets one.before) (forward_sockets one.behind) rising);
    }
      where
        apart : (m : ℕ) → is_among m (forward_sockets one.before ++ forward_sockets one.behind) ≡ true → (m == n) ≡ false
        apart m among = by (m == n) refl
          where
            by : (b : Bool) → (m == n) ≡ b → b ≡ false
            by true is = absurd (true_false (sym among ∙ ap (λ x. is_among x (forward_sockets one.before ++ forward_sockets one.behind)) (equal m n is)
                ∙ rising_apart (next_number past) n (forward_sockets one.before) (forward_sockets one.behind) rising))
            by false is = refl

    pub socket_closed : Allowed (Close n) → Holds config (after count) (record slirp { forwards = new }) f link (Close n ∷ past)
    socket_closed fine =
        let less : SlirpState = record slirp { forwards = new } in
        record {
          lawful = (may_take, holds.lawful);
          allowed = (fine, holds.allowed);
          keeps = keeps_by link (Close n) past tt refl refl refl holds.keeps;
          answers = record { sent = holds.answers.sent; owed = owed_stays config f.aged slirp less (Close n) past refl refl refl refl refl refl refl holds.answers.owed };
          guests = guests_stay config slirp less (Close n) past refl refl holds.guests;
          relayed = record {
            list = list_is;
            questions = questions_are;
            asks = ap (asked_by config less) nothing_left;
            heard = refl;
          };
          services = services_stay config slirp less (Close n) past refl refl refl holds.services;
          forwards = in_force_left;
          flows = flows_same config f slirp.moment (Close n) past (close_same config past n no_one) refl (omega arith) refl holds.flows;
          sockets = record { number = holds.sockets.number; kinds = λ m among. holds.sockets.kinds m (was_open m among).1 };
          clock = record { moment = holds.clock.moment; counted = holds.clock.counted };
          stands = Turns (record { working = turn.working; waited = turn.waited });
          agenda = holds.agenda;
          open_yet = still_open config (Close n) past (ap not parted) holds.open_yet;
        }

-- ---- what a call makes of it

never_refused : (taken other full : Bool) (cause : FwdFault) → (if taken then Some Taken else (if other then Some BadGuest else (if full then Some Full else None))) ≡ Some cause → was_asked (Some cause) ≡ false
never_refused taken other full Taken is = refl
never_refused taken other full BadGuest is = refl
never_refused taken other full Full is = refl
never_refused taken other full Refused is = absurd (none taken other full is)
  where
    none : (taken other full : Bool) → (if taken then Some Taken else (if other then Some BadGuest else (if full then Some Full else None))) ≡ Some Refused → ⊥
    none true other full is = cc
    none false true full is = cc
    none false false true is = cc
    none false false false is = cc

abbrev HoldsStill : Config → ℕ → LinkState → SlirpState → List Entry → Type 0
HoldsStill config count link slirp past = Holds config (after count) slirp (flowing false slirp.flows) link past

pub added : (config : Config) (count : ℕ) (slirp new : SlirpState) (g : Forward) (fault : Option FwdFault) (link : LinkState) (made past : List Entry) → 0 < count → MayAdd config slirp g → g.host.port ≢ 0
    → Adds (fault_of slirp.config g slirp.forwards) g slirp.number slirp.forwards new.forwards fault made
    → new ≡ record slirp { number = number_after fault slirp.number; forwards = new.forwards } → AreAllowed made
    → Holds config (after count) slirp (flowing false slirp.flows) link past → Holds config (after count) new (flowing false new.flows) link (made ++ past)
added config count slirp new g fault link made past some may port adds same_state allowed holds = by (fault_of slirp.config g slirp.forwards) refl adds
  where
    still : (state : SlirpState) (es : List Entry) → made ≡ es → new ≡ state → HoldsStill config count link state (es ++ past) → HoldsStill config count link new (made ++ past)
    still state es is same then_is =
        subst (λ l. HoldsStill config count link new (l ++ past)) (sym is) (subst (λ s. HoldsStill config count link s (es ++ past)) (sym same) then_is)

    host_answered : (answer : Made) → fault_of slirp.config g slirp.forwards ≡ None → made ≡ port_opening g.proto slirp.number g.host answer ∷ []
        → AddsBy answer g slirp.number slirp.forwards new.forwards fault → HoldsStill config count link new (made ++ past)
    host_answered Done none one (told, last) =
        still (record slirp { number = slirp.number + 1; forwards = slirp.forwards ++ (g, slirp.number) ∷ [] }) (port_opening g.proto slirp.number g.host Done ∷ []) one
        (same_state ∙ (λ i. record slirp { number = number_after (told i) slirp.number; forwards = last i }))
        (host_asked config count slirp (flowing false slirp.flows) link past some holds g (may none) port Done (subst AreAllowed one allowed).0)
    host_answered Failed none one (told, as_before) =
        still (record slirp { number = slirp.number + 1; forwards = slirp.forwards }) (port_opening g.proto slirp.number g.host Failed ∷ []) one
        (same_state ∙ (λ i. record slirp { number = number_after (told i) slirp.number; forwards = as_before i }))
        (host_asked config count slirp (flowing false slirp.flows) link past some holds g (may none) port Failed (subst AreAllowed one allowed).0)

    by : (o : Option FwdFault) → fault_of slirp.config g slirp.forwards ≡ o → Adds o g slirp.number slirp.forwards new.forwards fault made → HoldsStill config count link new (made ++ past)
    by (Some cause) is (told, as_before, none) =
        let unasked : number_after fault slirp.number ≡ slirp.number =
        ap (λ o. number_after o slirp.number) told
        ∙ ap (λ (b : Bool). if b then slirp.number + 1 else slirp.number)
        (never_refused (is_taken g.proto g.host slirp.forwards) (not (is_guest slirp.config (address g.guest))) (nat_le most_forwards (length slirp.forwards)) cause is) in
        still slirp [] none (same_state ∙ (λ i. record slirp { number = unasked i; forwards = as_before i })) holds
    by None is (answer, one, by_answer) = host_answered answer is one by_answer

none_out : (p : Proto) (host : Endpoint) (list : List Opened) → socket_at p host list ≡ None → without_port p host list ≡ list
none_out p host [] none = refl
none_out p host (x ∷ list) none = by (is_at p host x) none (none_out p host list)
  where
    by : (b : Bool) → option_map socket_of (if b then Some x else find (is_at p host) list) ≡ None → (socket_at p host list ≡ None → without_port p host list ≡ list)
        → (if not b then x ∷ without_port p host list else without_port p host list) ≡ x ∷ list
    by true none more = cc
    by false none more = ap (λ l. x ∷ l) (more none)

pub taken_back : (config : Config) (count : ℕ) (slirp new : SlirpState) (p : Proto) (host : Endpoint) (link : LinkState) (made past : List Entry) → 0 < count → MayRemove config slirp p host
    → ((n : ℕ) → socket_at p host slirp.forwards ≡ Some n → length (without_port p host slirp.forwards) + 1 ≡ length slirp.forwards)
    → new ≡ record slirp { forwards = without_port p host slirp.forwards } → made ≡ closed_at (socket_at p host slirp.forwards) → AreAllowed made
    → Holds config (after count) slirp (flowing false slirp.flows) link past → Holds config (after count) new (flowing false new.flows) link (made ++ past)
taken_back config count slirp new p host link made past some may one same_state calls allowed holds = by (socket_at p host slirp.forwards) refl
  where
    still : (forwards : List Opened) (es : List Entry) → made ≡ es → new ≡ record slirp { forwards = forwards } → HoldsStill config count link (record slirp { forwards = forwards }) (es ++ past)
        → HoldsStill config count link new (made ++ past)
    still forwards es is same then_is =
        subst (λ l. HoldsStill config count link new (l ++ past)) (sym is) (subst (λ s. HoldsStill config count link s (es ++ past)) (sym same) then_is)

    by : (o : Option ℕ) → socket_at p host slirp.forwards ≡ o → HoldsStill config count link new (made ++ past)
    by None none = still slirp.forwards [] (calls ∙ ap closed_at none) (same_state ∙ ap (λ l. record slirp { forwards = l }) (none_out p host slirp.forwards none)) holds
    by (Some n) found =
        let closed : made ≡ Close n ∷ [] = calls ∙ ap closed_at found in
        still (without_port p host slirp.forwards) (Close n ∷ []) closed same_state
        (socket_closed config count slirp (flowing false slirp.flows) link past some holds n (may n found) (without_port p host slirp.forwards)
        (taken_out p host n slirp.forwards found (one n found)) (subst AreAllowed closed allowed).0)

-- ---- what the list of forwards says of a removal

pub closes_it : (old new : Telling) (o : Option ℕ) → ((n : ℕ) → o ≡ Some n → Makes old new (λ made. made ≡ Close n ∷ [])) → (o ≡ None → new ≡ old) → Makes old new (λ made. made ≡ closed_at o)
closes_it old new None there not_there = subst (λ t. Makes old t (λ made. made ≡ [])) (sym (not_there refl)) (makes_none old (λ made. made ≡ []) refl)
closes_it old new (Some n) there not_there = there n refl

pub found_by : {T E : Type 0} (o : Option ℕ) (result : Result T E) → ((n : ℕ) → o ≡ Some n → IsOk result) → (o ≡ None → IsErr result) → is_ok result ≡ is_some o
found_by None (Ok t) there not_there = let never = not_there refl in absurd cc
found_by None (Err e) there not_there = refl
found_by (Some n) (Ok t) there not_there = refl
found_by (Some n) (Err e) there not_there = let never = there n refl in absurd cc
