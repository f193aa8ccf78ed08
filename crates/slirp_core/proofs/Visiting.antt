-- A peer comes to a port of the host that is given to a guest: its flow begins, or it is refused and its socket closed, or none has come.
use Rattle.std.proofs.Common.{◌≡◌, ℕ, ◌+◌, ◌==◌, ◌&&◌, ◌||◌, not, ◌⊎◌, inl, inr, Bool, true, false, List, [], ◌∷◌, ◌++◌, length, MatchOption, Option}
use Rattle.std.proofs.Common.{Some, None, refl, sym, ◌∙◌, ap, subst, arith, if◌then◌else◌}
use Rattle.std.proofs.lemmas.Bool.Decides.{nat_tests}
use Rattle.net_octets.specs.declared.Endpoint.{Endpoint}
use Rattle.net_octets.specs.declared.Mac.{Mac}
use Rattle.poll_list.specs.declared.Want.{Want}
use Rattle.poll_list.specs.declared.Who.TheVariants.{Listener as AListener}
use Rattle.std.specs.Option.{option_and_then}
use Rattle.world_face.specs.Journal.{Accept, Allowed, AreAllowed, CallAccept, CallClose, Close, Entry}
use Rattle.world_face.specs.declared.Accepted.{Accepted}
use Rattle.world_face.specs.declared.Accepted.TheVariants.{From, NotYet as NotYetAccepted, Failed as AcceptFailed}
use Rattle.slirp_settings.specs.Addresses.{Config}
use Rattle.slirp_settings.specs.declared.Forward.{Forward}
use Rattle.arp_table.specs.Table.{mac_of as learnt_for}
use Rattle.spec_flow.specs.Event.{Accepts}
use Rattle.spec_flow.specs.Flow.{first_number}
use Rattle.spec_flows.specs.Book.{book, doom, is_refused, opens, port_by, port_of, quiet, scene, tuple_for, visits_for}
use Rattle.spec_flows.specs.Doings.{Nothing, doing}
use Rattle.spec_flows.specs.Flows.{Book, flow_of, has_room_for_peer, is_it, is_used}
use Rattle.host_policy.specs.Targets.{is_hidden, shown}
use Rattle.world_face.specs.Tells.{Answers, Brings, Telling}
use Rattle.world_face.proofs.Telling.{brings_one}
use Rattle.spec_flows.specs.Laws.{MayShut, flow_settings}
use Rattle.spec_flows.specs.SegmentVerdicts.{due_for_flows}
use Rattle.spec_trace.specs.Moments.{moment}
use Rattle.spec_trace.specs.Shape.{is_ended, is_over, is_working}
use Rattle.slirp_settings.specs.declared.Proto.TheVariants.{Tcp}
use Rattle.rules_dns.specs.Questions.{numbers as question_numbers, without as question_without}
use Rattle.spec_trace.specs.Sockets.{Flow as OfFlow, Listener as OfListener, is_among, is_association, is_listener, kind_of, next_number, number_for_peer, open_sockets, with_peer, first}
use Rattle.sim_flows.specs.Peers.{fits_peer}
use Rattle.sim_flows.proofs.Peers.{room_recorded}
use Rattle.spec_run.specs.Agenda.{agenda, all_wanted, is_to_read, wanted_of}
use Rattle.spec_run.specs.Errands.{errand_left}
use Rattle.spec_run.specs.Laws.{May, carries, may_leave, may_part, parts, takes_peers}
use Rattle.spec_run.specs.Names.{kind_for}
use Rattle.spec_run.proofs.Bools.{among_last, among_without, and_both, or_second, same, second_of}
use Rattle.spec_run.proofs.Deeds.{accepts, closes, this_one}
use Rattle.stream_netdev.specs.State.{LinkState}
use Rattle.sim_flows.specs.Stands.{InWork}
use Rattle.sim_flows.proofs.Calling.{due_is as due_for_a_flow}
use Rattle.sim_flows.proofs.Known.{known_was_taught}
use Rattle.tcp_flows.specs.Kept.{Kept}
use Rattle.tcp_flows.specs.Runs.{Between, Welcomes}
use Rattle.spec_run.specs.Datagrams.{NeedsNothing}
use Rattle.rules_udp.specs.Associations.{numbers, without}
use Rattle.spec_run.proofs.OpenSockets.{next_is_new}
use Rattle.slirp_core.proofs.Given.{in_force_with, stays_in_force}
use Rattle.spec_duties.specs.Serving.{is_left_to_read}
use Rattle.rules_forward.specs.Opened.{forward_with}
use Rattle.slirp_core.specs.Forwards.{IsInForce, given_kind, is_given}
use Rattle.slirp_core.specs.Visits.{Treats}
use Rattle.slirp_core.specs.Holds.{Begins, Holds, InTurn, OfFlows, Stands, Turns, flowing, is_ours, standing}
use Rattle.slirp_core.specs.State.{SlirpState}
use Rattle.slirp_core.proofs.Called.{between, flows_put}
use Rattle.slirp_core.proofs.Flows.{close_same, flows_since, flows_stay, flows_stay_open}
use Rattle.slirp_core.proofs.Guests.{guests_stay}
use Rattle.slirp_core.proofs.Names.{none_without}
use Rattle.slirp_core.proofs.Parts.{asks_nothing, asked_for, behind_of, due_is, errand_for, keeps_by, reads_of, still_open}
use Rattle.slirp_core.proofs.Relaying.{not_carried, unclosed}
use Rattle.slirp_core.proofs.Owing.{owed_stays}
use Rattle.slirp_core.proofs.Served.{peer_is_read}
use Rattle.slirp_core.proofs.Services.{none_due_for_services, services_stay}

-- the kinds of sockets, where a peer came or none
kinds_visited : (listener number : ℕ) (answer : Accepted) (past : List Entry) → ((n : ℕ) → is_among n (open_sockets past) ≡ true → is_ours (kind_of n past) ≡ true)
    → (n : ℕ) → is_among n (with_peer answer number (open_sockets past)) ≡ true → is_ours (kind_of n (Accept listener number answer ∷ past)) ≡ true
kinds_visited listener number answer past kinds n among = by (number == n) refl
  where
    turned : (number == n) ≡ false → (n == number) ≡ false
    turned is = grind (arith, nat_tests, is)

    only : (a b : Bool) → b ≡ false → (a || b) ≡ true → a ≡ true
    only true b is or = refl
    only false b is or = cc

    before : (a : Accepted) → (n == number) ≡ false → is_among n (with_peer a number (open_sockets past)) ≡ true → is_among n (open_sockets past) ≡ true
    before (From peer) other is = only (is_among n (open_sockets past)) (n == number) other (sym (among_last n number (open_sockets past)) ∙ is)
    before NotYetAccepted other is = is
    before AcceptFailed other is = is

    by : (b : Bool) → (number == n) ≡ b → is_ours (if b then Some OfFlow else kind_of n past) ≡ true
    by true is = refl
    by false is = kinds n (before answer (turned is) among)

module _ (config : Config) (count : ℕ) (wants : List Want) (item : Want) (items : List Want) (listener : ℕ)
    (reads_it : is_to_read (AListener listener) (wanted_of wants item) ≡ true) (slirp : SlirpState) (link : LinkState) (past : List Entry)
    (holds : Holds config (standing count wants (item ∷ items)) slirp (flowing false slirp.flows) link past) (is_open : (is_among listener (open_sockets past) ≡ true) ×
    (kind_of listener past ≡ Some OfListener)) (room : fits_peer slirp.flows.flows ≡ true) where
  -- something was reported, so the first wait has been
  turn : InTurn config past
  turn = by holds.stands
    where
      no_last : (before : List Want) (x : Want) (rest : List Want) → [] ≡ before ++ x ∷ rest → ⊥
      no_last [] x rest is = cc
      no_last (y ∷ before) x rest is = cc

      by : Stands config NeedsNothing slirp slirp.flows link past → InTurn config past
      by (Turns t) = t
      by (Begins unbegun free unrested) = absurd (no_last holds.agenda.0 (wanted_of wants item) (all_wanted wants items) (sym unbegun.unreported ∙ holds.agenda.1))

  takes : takes_peers config past listener ≡ true
  takes =
      and_both (is_among listener (open_sockets past) && is_listener (kind_of listener past)) (has_room_for_peer config.flows (book config past).flows)
      (and_both (is_among listener (open_sockets past)) (is_listener (kind_of listener past)) is_open.0 (ap is_listener is_open.1))
      (room_recorded config slirp.moment false None slirp.flows.flows past holds.flows.holds holds.flows.asked ∙ room)

  may_accept : May config past (CallAccept listener slirp.number)
  may_accept = accepts config past listener slirp.number
      (due_is config past NeedsNothing turn.working (none_due_for_services config past holds.relayed.heard holds.services.quest) holds.flows.holds.asked
      (asked_for config (standing count wants (item ∷ items)) NeedsNothing None slirp (flowing false slirp.flows) link past holds))
      (flows_stay_open config (flowing false slirp.flows) slirp.moment past holds.flows) (ap is_working turn.working) takes (ap (λ n. slirp.number == n) holds.sockets.number ∙ same slirp.number)
      (reads_of (AListener listener) (wanted_of wants item) (all_wanted wants items) (agenda past) reads_it holds.agenda) holds.open_yet

  -- what an accept leaves, by its answer
  module _ (answer : Accepted) (number : ℕ) (kept : Kept) (fine : Allowed (Accept listener slirp.number answer)) (then_is : Between config slirp.moment false None kept
      (Accept listener slirp.number answer ∷ past))
      (next : next_number (Accept listener slirp.number answer ∷ past) ≡ number)
      (kinds : (n : ℕ) → is_among n (open_sockets (Accept listener slirp.number answer ∷ past)) ≡ true → is_ours (kind_of n (Accept listener slirp.number answer ∷ past)) ≡ true) where
    abbrev e : Entry
    e = Accept listener slirp.number answer

    came : Holds config (standing count wants items) (record slirp { number = number }) (flowing false kept) link (e ∷ past)
    came = record {
      lawful = then_is.lawful;
      allowed = (fine, holds.allowed);
      keeps = keeps_by link e past tt refl refl refl holds.keeps;
      answers = record { sent = holds.answers.sent; owed = owed_stays config false slirp (record slirp { number = number }) e past refl refl refl refl refl refl refl holds.answers.owed };
      guests = guests_stay config slirp (record slirp { number = number }) e past refl refl holds.guests;
      relayed = record { list = holds.relayed.list; questions = holds.relayed.questions; asks = asks_nothing config slirp (errand_left config (e ∷ past)) then_is.work.errand; heard = refl };
      services = services_stay config slirp (record slirp { number = number }) e past refl refl refl holds.services;
      forwards = stays_in_force config slirp.forwards past holds.lawful holds.forwards e then_is.lawful.0 tt;
      flows = record { holds = then_is.holds; settings = then_is.settings; asked = then_is.asked; unit = holds.flows.unit };
      sockets = record { number = next; kinds = kinds };
      clock = record { moment = holds.clock.moment; counted = holds.clock.counted };
      stands = Turns (record { working = then_is.work.working; waited = turn.waited });
      agenda = behind_of (AListener listener) (wanted_of wants item) (all_wanted wants items) (agenda past) reads_it holds.agenda;
      open_yet = then_is.work.open_yet;
    }

  -- ---- none has come

  module _ (answer : Accepted) (fine : Allowed (Accept listener slirp.number answer)) (nobody : doing config past (Accept listener slirp.number answer) ≡ Nothing)
      (next : number_for_peer answer (next_number past) ≡ next_number past)
      (same_sockets : with_peer answer slirp.number (open_sockets past) ≡ open_sockets past) where
    abbrev none_at : Entry
    none_at = Accept listener slirp.number answer

    quiet_flows : OfFlows config (flowing false slirp.flows) slirp.moment (none_at ∷ past)
    quiet_flows = flows_stay config (flowing false slirp.flows) slirp.moment none_at past nobody refl (omega (arith, next)) refl holds.flows

    pub none_came : Holds config (standing count wants items) slirp (flowing false slirp.flows) link (none_at ∷ past)
    none_came = came answer slirp.number slirp.flows fine (record {
      holds = quiet_flows.holds;
      asked = quiet_flows.asked;
      settings = quiet_flows.settings;
      lawful = (may_accept, holds.lawful);
      work = record {
        working = turn.working;
        errand = errand_for config NeedsNothing None slirp past holds.relayed;
        services = none_due_for_services config
            (none_at ∷ past) refl holds.services.quest;
        open_yet = holds.open_yet;
      };
      at = holds.clock.moment;
    }) (next ∙ holds.sockets.number) (λ n among. kinds_visited listener slirp.number answer past holds.sockets.kinds n among)

  -- ---- a peer has

  module _ (guest peer : Endpoint) (port : port_of config listener ≡ Some guest) (fine : Allowed (Accept listener slirp.number (From peer))) where
    abbrev visit : Entry
    visit = Accept listener slirp.number (From peer)

    -- its flow begins
    pub welcomed : (kept : Kept) (mac : Option Mac) → is_refused config guest peer (book config past) ≡ false → mac ≡ learnt_for guest.addr slirp.known →
        Welcomes slirp.moment slirp.number slirp.flows kept (tuple_for config guest peer) mac
        → Holds config (standing count wants items) (record slirp { number = slirp.number + 1 }) (flowing false kept) link (visit ∷ past)
    welcomed kept mac welcome found welcomes = came (From peer) (slirp.number + 1) kept fine
        (welcomes config listener peer past (record {
          between = between config (standing count wants (item ∷ items)) slirp (flowing false slirp.flows) link past turn holds;
          next = sym holds.sockets.number;
          guest = guest;
          port = port;
          tuple = refl;
          welcome = welcome;
          learnt = λ m is. known_was_taught config past guest.addr m (ap (learnt_for guest.addr) holds.guests.known ∙ sym found ∙ is);
          lawful = (may_accept, holds.lawful);
          work = record {
            working = turn.working;
            errand = errand_for config NeedsNothing None slirp past holds.relayed;
            services = none_due_for_services config
                (visit ∷ past) refl holds.services.quest;
            open_yet = holds.open_yet;
          };
        }))
        (ap (λ n. n + 1) holds.sockets.number) (λ n among. kinds_visited listener slirp.number (From peer) past holds.sockets.kinds n among)

    -- or its socket is closed at once
    module _ (refused : is_refused config guest peer (book config past) ≡ true) (closed_fine : Allowed (Close slirp.number)) where
      abbrev shut_again : List Entry
      shut_again = Close slirp.number ∷ visit ∷ past

      doomed_is : book config (visit ∷ past) ≡ doom slirp.number (book config past)
      doomed_is =
          ap (λ o. visits_for config (moment past) slirp.number peer o (book config past)) port
          ∙ ap (λ (b : Bool). if b then doom slirp.number (book config past) else opens config (moment past) slirp.number (tuple_for config guest peer)
          (Accepts (first_number (moment past) (length (book config past).flows))) (book config past)) refused

      no_flow_yet : flow_of slirp.number (book config past).flows ≡ None
      no_flow_yet = subst (λ n. flow_of n (book config past).flows ≡ None) holds.sockets.number (holds.flows.holds.seats.fresh (next_number past) (omega arith))

      no_flow_then : flow_of slirp.number (book config (visit ∷ past)).flows ≡ None
      no_flow_then = ap (λ (b : Book). flow_of slirp.number b.flows) doomed_is ∙ no_flow_yet

      close_is_due : due_for_flows config (book config (visit ∷ past)) (next_number (visit ∷ past)) ≡ Some (CallClose slirp.number)
      close_is_due = ap (λ b. due_for_flows config b (next_number (visit ∷ past))) doomed_is

      work_then : InWork config (visit ∷ past)
      work_then = record {
        working = turn.working;
        errand = errand_for config NeedsNothing None slirp past holds.relayed;
        services = none_due_for_services config
            (visit ∷ past) refl holds.services.quest;
        open_yet = holds.open_yet;
      }

      its_kind : kind_for config slirp.number (visit ∷ past) ≡ Some OfFlow
      its_kind = ap (λ b. if b then Some OfFlow else kind_for config slirp.number past) (same slirp.number)

      may_part_it : parts config (visit ∷ past) slirp.number ≡ true
      may_part_it =
          ap (may_part config (visit ∷ past) slirp.number) its_kind
          ∙ ap (λ o. may_leave (scene config (visit ∷ past)) (book config (visit ∷ past)) slirp.number o) no_flow_then
          ∙ ap (λ (b : Book). is_it slirp.number b.doomed) doomed_is ∙ same slirp.number

      may_shut : May config (visit ∷ past) (CallClose slirp.number)
      may_shut = closes config (visit ∷ past) slirp.number
          (this_one config (visit ∷ past) (CallClose slirp.number) (due_for_a_flow config (visit ∷ past) work_then ∙ close_is_due))
          (ap (λ p. is_working p || is_over p) turn.working)
          (and_both (is_among slirp.number (open_sockets past ++ (slirp.number ∷ []))) _
          (among_last slirp.number slirp.number (open_sockets past) ∙ or_second (is_among slirp.number (open_sockets past)) (slirp.number == slirp.number) (same slirp.number))
          (ap (λ (b : Bool). if b then is_it slirp.number (first (open_sockets (visit ∷ past))) else parts config (visit ∷ past) slirp.number ||
          (is_ended config (visit ∷ past) && is_it slirp.number (first (open_sockets (visit ∷ past))))) holds.open_yet
          ∙ ap (λ b. b || (is_ended config (visit ∷ past) && is_it slirp.number (first (open_sockets (visit ∷ past))))) may_part_it))
          (record {
            due = subst (λ o. MatchOption o (Unit {0}) (λ d. CallClose slirp.number ≡ d)) (sym close_is_due) refl;
            touches = subst (MayShut (flow_settings config) (scene config (visit ∷ past)) (book config (visit ∷ past)).came) (sym no_flow_then) tt;
            must = tt;
            at_once = λ n f found closes. absurd (flows_stay_open config (flowing false slirp.flows) slirp.moment past holds.flows n f
                (sym (ap (λ (b : Book). flow_of n b.flows) doomed_is) ∙ found) closes);
          })

      book_then : book config shut_again ≡ quiet (book config past)
      book_then = close_same config (visit ∷ past) slirp.number no_flow_then ∙ ap quiet doomed_is

      flows_then : OfFlows config (flowing false slirp.flows) slirp.moment shut_again
      flows_then = flows_since config (flowing false slirp.flows) slirp.moment (Close slirp.number ∷ visit ∷ []) past book_then refl (omega arith) refl holds.flows

      -- its number is no association's, and no question's
      uncarried : carries past slirp.number ≡ false
      uncarried = ap (λ b. b && is_association (kind_of slirp.number past)) (ap (λ n. is_among n (open_sockets past)) (sym holds.sockets.number) ∙ next_is_new config past holds.lawful)

      unlisted : (is_among slirp.number (numbers slirp.associations) ≡ false) × (is_among slirp.number (question_numbers slirp.questions) ≡ false)
      unlisted = not_carried config (standing count wants (item ∷ items)) NeedsNothing None slirp (flowing false slirp.flows) link past holds slirp.number uncarried

      kinds_then : (n : ℕ) → is_among n (open_sockets shut_again) ≡ true → is_ours (kind_of n shut_again) ≡ true
      kinds_then n among =
          kinds_visited listener slirp.number (From peer) past holds.sockets.kinds n
          (second_of (not (n == slirp.number)) (is_among n (open_sockets (visit ∷ past))) (sym (among_without n slirp.number (open_sockets (visit ∷ past))) ∙ among))

      pub turned_away : Holds config (standing count wants items) (record slirp { number = slirp.number + 1 }) (flowing false slirp.flows) link shut_again
      turned_away = record {
        lawful = (may_shut, (may_accept, holds.lawful));
        allowed = (closed_fine, (fine, holds.allowed));
        keeps = keeps_by link (Close slirp.number) (visit ∷ past) tt refl refl refl (keeps_by link visit past tt refl refl refl holds.keeps);
        answers = record {
          sent = holds.answers.sent;
          owed = owed_stays config false (record slirp { number = slirp.number + 1 }) (record slirp { number = slirp.number + 1 }) (Close slirp.number)
              (visit ∷ past) refl refl refl refl refl refl refl
              (owed_stays config false slirp (record slirp { number = slirp.number + 1 }) visit past refl refl refl refl refl refl refl holds.answers.owed);
        };
        guests = guests_stay config (record slirp { number = slirp.number + 1 }) (record slirp { number = slirp.number + 1 }) (Close slirp.number) (visit ∷ past) refl refl
            (guests_stay config slirp (record slirp { number = slirp.number + 1 }) visit past refl refl holds.guests);
        relayed = record {
          list = ap (without slirp.number) holds.relayed.list ∙ unclosed slirp.number slirp.associations unlisted.0;
          questions = ap
              (question_without slirp.number) holds.relayed.questions ∙ none_without slirp.number slirp.questions unlisted.1;
          asks = holds.relayed.asks;
          heard = refl;
        };
        services = services_stay config (record slirp { number = slirp.number + 1 }) (record slirp { number = slirp.number + 1 }) (Close slirp.number) (visit ∷ past) refl refl refl
            (services_stay config slirp (record slirp { number = slirp.number + 1 }) visit past refl refl refl holds.services);
        forwards = stays_in_force config slirp.forwards (visit ∷ past) (may_accept, holds.lawful) (stays_in_force config slirp.forwards past holds.lawful holds.forwards visit may_accept tt)
            (Close slirp.number) may_shut (ap (λ b. is_given (if b then Some OfFlow else kind_of slirp.number past)) (same slirp.number));
        flows = flows_then;
        sockets = record { number = ap (λ n. n + 1) holds.sockets.number; kinds = kinds_then };
        clock = record { moment = holds.clock.moment; counted = holds.clock.counted };
        stands = Turns (record { working = turn.working; waited = turn.waited });
        agenda = behind_of (AListener listener) (wanted_of wants item) (all_wanted wants items) (agenda past) reads_it holds.agenda;
        open_yet = still_open config (Close slirp.number) (visit ∷ past) (ap not may_part_it) holds.open_yet;
      }

-- ---- by what the core found

module _ (config : Config) (count : ℕ) (wants : List Want) (item : Want) (items : List Want) (listener : ℕ)
    (reads_it : is_to_read (AListener listener) (wanted_of wants item) ≡ true) (slirp : SlirpState) (link : LinkState) (past : List Entry)
    (holds : Holds config (standing count wants (item ∷ items)) slirp (flowing false slirp.flows) link past) (room : fits_peer slirp.flows.flows ≡ true)
    (forward : Forward) (at : forward_with listener slirp.forwards ≡ Some forward) (tcp : forward.proto ≡ Tcp) where
  one : IsInForce config past (forward, listener)
  one = in_force_with config slirp.forwards past holds.forwards listener forward at

  -- it is one to which peers connect
  is_open : (is_among listener (open_sockets past) ≡ true) × (kind_of listener past ≡ Some OfListener)
  is_open = (one.open_yet, one.kind ∙ ap (λ p. Some (given_kind p)) tcp)

  leads : port_of config listener ≡ Some forward.guest
  leads = ap (option_and_then (λ (f : Forward). port_by f.proto f.guest)) one.is ∙ ap (λ p. port_by p forward.guest) tcp

  pub nobody_came : Allowed (Accept listener slirp.number NotYetAccepted) → Holds config (standing count wants items) slirp (flowing false slirp.flows) link
      (Accept listener slirp.number NotYetAccepted ∷ past)
  nobody_came fine = none_came config count wants item items listener reads_it slirp link past holds is_open room NotYetAccepted fine refl refl refl

  pub none_accepted : Allowed (Accept listener slirp.number AcceptFailed) → Holds config (standing count wants items) slirp (flowing false slirp.flows) link
      (Accept listener slirp.number AcceptFailed ∷ past)
  none_accepted fine = none_came config count wants item items listener reads_it slirp link past holds is_open room AcceptFailed fine refl refl refl

  -- a peer came, and was treated so
  pub treated : (peer : Endpoint) (new : SlirpState) (made : List Entry) → AreAllowed (made ++ Accept listener slirp.number (From peer) ∷ []) →
      new ≡ record slirp { number = slirp.number + 1; flows = new.flows }
      → Treats (is_refused config forward.guest peer (book config past)) forward.guest peer slirp new made
      → Holds config (standing count wants items) new (flowing false new.flows) link ((made ++ Accept listener slirp.number (From peer) ∷ []) ++ past)
  treated peer new made allowed same treats = by (is_refused config forward.guest peer (book config past)) refl treats
    where
      allowed_last : (made : List Entry) (e : Entry) → AreAllowed (made ++ e ∷ []) → Allowed e
      allowed_last [] e all = all.0
      allowed_last (x ∷ made) e all = allowed_last made e all.1

      came_so : Allowed (Accept listener slirp.number (From peer))
      came_so = allowed_last made (Accept listener slirp.number (From peer)) allowed

      by : (b : Bool) → is_refused config forward.guest peer (book config past) ≡ b → Treats b forward.guest peer slirp new made
          → Holds config (standing count wants items) new (flowing false new.flows) link ((made ++ Accept listener slirp.number (From peer) ∷ []) ++ past)
      by false welcome (none, welcomes) =
          let begun = welcomed config count wants item items listener reads_it slirp link past holds is_open room forward.guest peer leads came_so new.flows
          (learnt_for forward.guest.addr slirp.known) welcome refl
          (subst (λ (c : Config). Welcomes slirp.moment slirp.number slirp.flows new.flows (tuple_for c forward.guest peer)
          (learnt_for forward.guest.addr slirp.known)) holds.guests.settings welcomes) in
          subst (λ es. Holds config (standing count wants items) new (flowing false new.flows) link ((es ++ Accept listener slirp.number (From peer) ∷ []) ++ past)) (sym none)
          (subst (λ (s : SlirpState). Holds config (standing count wants items) s (flowing false new.flows) link (Accept listener slirp.number (From peer) ∷ past)) (sym same)
          (flows_put config (standing count wants items) (record slirp { number = slirp.number + 1 }) new.flows (flowing false new.flows) link (Accept listener slirp.number (From peer) ∷ past) begun))
      by true refused (one, same_flows) =
          let shut = turned_away config count wants item items listener reads_it slirp link past holds is_open room forward.guest peer leads came_so refused (first_allowed made one allowed) in
          subst (λ es. Holds config (standing count wants items) new (flowing false new.flows) link ((es ++ Accept listener slirp.number (From peer) ∷ []) ++ past)) (sym one)
          (subst (λ (k : Kept). Holds config (standing count wants items) new (flowing false k) link (Close slirp.number ∷ Accept listener slirp.number (From peer) ∷ past)) (sym same_flows)
          (subst (λ (s : SlirpState). Holds config (standing count wants items) s (flowing false slirp.flows) link (Close slirp.number ∷ Accept listener slirp.number (From peer) ∷ past))
          (sym (same ∙ ap (λ (k : Kept). record slirp { number = slirp.number + 1; flows = k }) same_flows)) shut))
        where
          first_allowed : (made : List Entry) → made ≡ Close slirp.number ∷ [] → AreAllowed (made ++ Accept listener slirp.number (From peer) ∷ []) → Allowed (Close slirp.number)
          first_allowed made is all = (subst (λ es. AreAllowed (es ++ Accept listener slirp.number (From peer) ∷ [])) is all).0

-- nobody came, or the host failed: nothing is left of the report
pub passed_by : (a b : Telling) (config : Config) (count : ℕ) (wants : List Want) (item : Want) (items : List Want) (listener : ℕ) → is_to_read (AListener listener)
    (wanted_of wants item) ≡ true → (slirp : SlirpState) (link : LinkState)
    → fits_peer slirp.flows.flows ≡ true → (forward : Forward) → forward_with listener slirp.forwards ≡ Some forward → forward.proto ≡ Tcp
    → (answer : Accepted) → (answer ≡ NotYetAccepted) ⊎ (answer ≡ AcceptFailed) → Answers a b (Accept listener slirp.number answer)
    → Brings a b (Holds config (standing count wants (item ∷ items)) slirp (flowing false slirp.flows) link)
    (λ past. Holds config (standing count wants items) slirp (flowing false slirp.flows) link past × (is_left_to_read config past (AListener listener) ≡ false))
passed_by a b config count wants item items listener reads_it slirp link room forward at tcp answer (inl is) answers =
    brings_one (subst (λ (r : Accepted). Answers a b (Accept listener slirp.number r)) is answers)
    (λ fine past holds. let then_is = nobody_came config count wants item items listener reads_it slirp link past holds room forward at tcp fine in (
      then_is,
      peer_is_read config count wants item items slirp slirp (flowing false slirp.flows) (flowing false slirp.flows) link link past
          (Accept listener slirp.number NotYetAccepted ∷ []) holds then_is listener slirp.number NotYetAccepted [] refl,
    ))
passed_by a b config count wants item items listener reads_it slirp link room forward at tcp answer (inr is) answers =
    brings_one (subst (λ (r : Accepted). Answers a b (Accept listener slirp.number r)) is answers)
    (λ fine past holds. let then_is = none_accepted config count wants item items listener reads_it slirp link past holds room forward at tcp fine in (
      then_is,
      peer_is_read config count wants item items slirp slirp (flowing false slirp.flows) (flowing false slirp.flows) link link past
          (Accept listener slirp.number AcceptFailed ∷ []) holds then_is listener slirp.number AcceptFailed [] refl,
    ))

-- who is refused, by what the policy and the slots say
pub refused_by : (config : Config) (guest peer other : Endpoint) (b : Book) (found : Option Endpoint) (used : Bool) → found ≡
    (if is_hidden config peer then None else Some (shown config peer)) → found ≡ Some other
    → used ≡ is_used (record { guest = guest; other = other }) b.flows → is_refused config guest peer b ≡ used
refused_by config guest peer other b found used is was recorded = by (is_hidden config peer) refl (sym is ∙ was)
  where
    by : (h : Bool) → is_hidden config peer ≡ h → (if h then None else Some (shown config peer)) ≡ Some other → is_refused config guest peer b ≡ used
    by true hidden none = cc
    by false hidden seen =
        ap (λ h. h || is_used (tuple_for config guest peer) b.flows) hidden
        ∙ ap (λ (e : Endpoint). is_used (record { guest = guest; other = e }) b.flows) (the_same seen) ∙ sym recorded
      where
        the_same : Some (shown config peer) ≡ Some other → shown config peer ≡ other
        the_same some = cc

-- by what was found of its two ends
true_then : (b : Bool) → false ≡ not b → true ≡ b
true_then true is = refl
true_then false is = cc

false_then : (b : Bool) → true ≡ not b → false ≡ b
false_then true is = cc
false_then false is = refl

pub treats_refused : (b : Bool) (guest peer : Endpoint) (old new : SlirpState) (made : List Entry) → false ≡ not b → made ≡ Close old.number ∷ [] → new.flows ≡ old.flows →
    Treats b guest peer old new made
treats_refused b guest peer old new made is one same_flows = subst (λ (x : Bool). Treats x guest peer old new made) (true_then b is) (one, same_flows)

pub treats_welcome : (b : Bool) (guest peer : Endpoint) (old new : SlirpState) (made : List Entry) → true ≡ not b → made ≡ []
    → Welcomes old.moment old.number old.flows new.flows (tuple_for old.config guest peer) (learnt_for guest.addr old.known) → Treats b guest peer old new made
treats_welcome b guest peer old new made is none welcomes = subst (λ (x : Bool). Treats x guest peer old new made) (false_then b is) (none, welcomes)
