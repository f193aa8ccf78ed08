-- A segment is heard: its flow takes it, or it strays, or the host connects for it.
use Rattle.slirp_core.proofs.Given.{left_in_force, stays_in_force}
use Rattle.std.proofs.Common.{◌≡◌, ℕ, ◌<◌, ◌+◌, ◌==◌, ◌&&◌, ◌||◌, not, option_map, nat_lt, Bool, true, false, List, [], ◌∷◌, ◌++◌, length, Some, None, inl, refl, sym, ◌∙◌, ap, subst, arith, if◌then◌else◌}
use Rattle.std.proofs.lemmas.Bool.Decides.{nat_tests}
use Rattle.std.specs.Prelude.{Contains}
use Rattle.std.specs.Option.{option_and_then}
use Rattle.net_octets.specs.declared.Endpoint.{Endpoint}
use Rattle.net_octets.specs.declared.Mac.{Mac}
use Rattle.world_face.specs.Journal.{Entry, Allowed, AreAllowed, Connect, CallConnect}
use Rattle.world_face.specs.declared.Made.{Made}
use Rattle.world_face.specs.declared.Made.TheVariants.{Done as MadeDone, Failed as MadeFailed}
use Rattle.world_face.proofs.Telling.{allowed_then}
use Rattle.slirp_settings.specs.Addresses.{Config}
use Rattle.spec_flows.specs.Book.{book, scene, turned}
use Rattle.spec_flows.specs.Doings.{Comes as ComesOn}
use Rattle.spec_flows.specs.Flows.{Book, owner, Flow}
use Rattle.spec_flows.specs.SegmentVerdicts.{SegmentVerdict, Dropped, AsksFor, GetsReset, asked_for, due_by, due_for_flows, is_mistaken, is_reset, is_reset_by, segment_verdict, NeedsRoom, giving_way, needs_room, quietest}
use Rattle.spec_flows.specs.Segments.{OnTuple}
use Rattle.spec_flows.specs.Taught.{taught}
use Rattle.spec_trace.specs.Sockets.{Flow as FlowKind, is_among, kind_of, next_number, open_sockets, with_made}
use Rattle.spec_run.specs.Agenda.{agenda, all_wanted}
use Rattle.spec_run.specs.Answers.{frames_of, identification, left, owed_for_segment, reset_for, unconnected}
use Rattle.spec_run.specs.Errands.{errand_left}
use Rattle.spec_run.specs.Laws.{Lawful, May}
use Rattle.spec_run.proofs.Bools.{among_last}
use Rattle.sim_flows.specs.Seats.{in_use_slots}
use Rattle.stream_netdev.specs.State.{LinkState}
use Rattle.slirp_core.specs.Holds.{Standing, IsLast, Comes, Holds, Turns, flowing, is_ours}
use Rattle.slirp_core.specs.Segments.{Coming}
use Rattle.slirp_core.specs.State.{SlirpState}
use Rattle.slirp_core.proofs.Guests.{guests_stay}
use Rattle.slirp_core.proofs.Parts.{asks_nothing, keeps_by}
use Rattle.rules_tftp.specs.Transfers.{Files}
use Rattle.slirp_core.proofs.Services.{none_due_for_services, unheard}
use Rattle.sim_flows.specs.Core.{Following, mac_of, number_of}
use Rattle.sim_flows.specs.Stands.{verdict_without_flow}
use Rattle.sim_flows.proofs.Joined.{may_connect}
use Rattle.sim_flows.proofs.Others.{holds_quiet}
use Rattle.tcp_flows.specs.Kept.{Kept}
use Rattle.tcp_flows.proofs.Asking.{asked_then}
use Rattle.tcp_flows.specs.Runs.{Begins as BeginsFlow, Between, HasVerdict, Hears, IsHeard, Leaves}
use Rattle.tcp_flows.specs.declared.guest.Heard.{Heard}
use Rattle.tcp_flows.specs.declared.guest.Heard.TheVariants.{Taken, Strange, Alone}
use Rattle.slirp_core.proofs.Called.{framed, guests_left, sockets_left}
use Rattle.spec_flow.specs.Close.{owes_reset}
use Rattle.std.specs.List.{list_any}
use Rattle.tcp_flows.specs.Way.{GivesWay}
use Rattle.spec_trace.specs.Moments.{moment}
use Rattle.slirp_core.proofs.AsGiven.{answers_as}

-- the kinds of sockets, one more that is a flow's
kinds_joined : (number : ℕ) (to : Endpoint) (answer : Made) (past : List Entry) → ((n : ℕ) → is_among n (open_sockets past) ≡ true → is_ours (kind_of n past) ≡ true)
    → (n : ℕ) → is_among n (with_made answer number (open_sockets past)) ≡ true → is_ours (kind_of n (Connect number to answer ∷ past)) ≡ true
kinds_joined number to answer past kinds n among = by (number == n) refl
  where
    turned_round : (number == n) ≡ false → (n == number) ≡ false
    turned_round is = grind (arith, nat_tests, is)

    only : (a b : Bool) → b ≡ false → (a || b) ≡ true → a ≡ true
    only true b is or = refl
    only false b is or = cc

    before : (a : Made) → (n == number) ≡ false → is_among n (with_made a number (open_sockets past)) ≡ true → is_among n (open_sockets past) ≡ true
    before MadeDone other is = only (is_among n (open_sockets past)) (n == number) other (sym (among_last n number (open_sockets past)) ∙ is)
    before MadeFailed other is = is

    by : (b : Bool) → (number == n) ≡ b → is_ours (if b then Some FlowKind else kind_of n past) ≡ true
    by true is = refl
    by false is = kinds n (before answer (turned_round is) among)

module _ (config : Config) (at : Standing) (slirp : SlirpState) (kept : Kept) (link : LinkState) (c : Coming) (past : List Entry) (comes : Comes config at slirp kept link c past) where
  -- ---- what the trace says of the segment

  then_book : book config past ≡ turned config (scene config comes.before) (ComesOn c.on) (book config comes.before)
  then_book = ap (book config) comes.is ∙ ap (λ d. turned config (scene config comes.before) d (book config comes.before)) comes.brings.comes

  came_is : (book config past).came ≡ Some c.on
  came_is = ap (λ (b : Book). b.came) then_book

  abbrev the_verdict : SegmentVerdict
  the_verdict = segment_verdict config (book config past) c.on

  doomed_is : (book config past).doomed ≡ giving_way config slirp.moment c.on (book config past)
  doomed_is =
      ap (λ (b : Book). b.doomed) then_book ∙ ap (giving_way config (moment comes.before) c.on) (sym then_book)
      ∙ ap (λ m. giving_way config m c.on (book config past)) comes.brings.at_before

  -- where it doesn't need room none gives way
  none_doomed : (l : SegmentVerdict) → the_verdict ≡ l → needs_room l ≡ false → (book config past).doomed ≡ None
  none_doomed l is room =
      doomed_is ∙ ap (λ b. if b && not (list_any (λ (f : Flow). owes_reset f.story) (book config past).flows)
      then option_map (λ (f : Flow). f.number) (quietest slirp.moment (book config past).flows) else None) (ap needs_room is ∙ room)

  due_as : (l : SegmentVerdict) → the_verdict ≡ l → needs_room l ≡ false → due_for_flows config (book config past) (next_number past) ≡ due_by None (asked_for l) (next_number past)
  due_as l is room =
      (λ i. due_by (none_doomed l is room i) (option_and_then (λ (on : OnTuple). asked_for (segment_verdict config (book config past) on)) (came_is i)) (next_number past))
      ∙ ap (λ l. due_by None (asked_for l) (next_number past)) is

  -- what is owed for it by its lot
  owed_as : (b : Bool) → is_reset config (book config past) c.on ≡ b → left config past ≡ frames_of config slirp.sent (owed_for_segment b c.on)
  owed_as b is = comes.owed ∙ ap (λ b. frames_of config slirp.sent (owed_for_segment b c.on)) is

  reset_by : (l : SegmentVerdict) → the_verdict ≡ l → is_reset config (book config past) c.on ≡ is_reset_by l (is_mistaken c.on.segment (owner c.on.tuple (book config past).flows))
  reset_by l is = ap (λ l. is_reset_by l (is_mistaken c.on.segment (owner c.on.tuple (book config past).flows))) is

  -- the frames of the reset that answers it
  abbrev pub reset_frames : List (List ℕ)
  reset_frames = frames_of slirp.config slirp.sent (reset_for c.on ∷ [])

  owed_reset : is_reset config (book config past) c.on ≡ true → left config past ≡ reset_frames
  owed_reset is = owed_as true is ∙ sym (answers_as config comes.guests.settings slirp.sent (λ k. reset_for c.on ∷ []) refl)

  owed_none : is_reset config (book config past) c.on ≡ false → left config past ≡ slirp.pending
  owed_none is = owed_as false is ∙ sym comes.none

  -- ---- its flow, or none, takes it

  -- all is as it was but the flows and what is owed
  settles : (made : List Entry) (new : Kept) (pending : List (List ℕ)) → AreAllowed made → Between config slirp.moment false None new (made ++ past) → Leaves config past made →
      agenda (made ++ past) ≡ agenda past → left config past ≡ pending
      → Holds config at (record slirp { pending = pending }) (flowing false new) link (made ++ past)
  settles made new pending allowed then_is leaves reported owed =
      let others = leaves.others in
      let guests = guests_left config slirp past made (then_is.at ∙ sym comes.clock.moment) others comes.guests in
      let fragments = guests.fragments in
      record {
        lawful = then_is.lawful;
        allowed = allowed_then made past allowed comes.allowed;
        keeps = record {
          framed = framed config (made ++ past) then_is.lawful;
          partly = others.partly ∙ comes.keeps.partly;
          rest = leaves.tail ∙ comes.keeps.rest;
          blocked = leaves.blocked ∙ comes.keeps.blocked;
        };
        answers = record {
          sent = leaves.counted ∙ comes.sent;
          owed = inl (record { left = leaves.left ∙ owed; again = others.again ∙ comes.again; files = comes.files ∙ sym (ap (λ (k : Files). k.transfers) others.files) });
        };
        guests = record { settings = guests.settings; known = guests.known; fragments = record { held = fragments.held; is_held = fragments.is_held; wait = fragments.wait } };
        relayed = record {
          list = others.list ∙ comes.relayed.list;
          questions = others.questions ∙ comes.relayed.questions;
          asks = asks_nothing config slirp
              (errand_left config (made ++ past)) then_is.work.errand;
          heard = unheard config (made ++ past) then_is.work.services;
        };
        services = record { leases = others.leases ∙ comes.services.leases; quest = ap (λ (k : Files). k.quest) others.files ∙ comes.services.quest };
        forwards = left_in_force config slirp.forwards past made others (let same_next = leaves.next in omega (arith, same_next)) comes.forwards;
        flows = record { holds = then_is.holds; asked = then_is.asked; settings = then_is.settings; unit = comes.unit };
        sockets = record { number = leaves.next ∙ comes.sockets.number; kinds = sockets_left config past made others comes.sockets.kinds };
        clock = record { moment = then_is.at; counted = others.waits ∙ comes.clock.counted };
        stands = Turns (record { working = then_is.work.working; waited = subst (λ n. 0 < n) (sym others.waits) comes.turn.waited });
        agenda = subst (IsLast (all_wanted at.wants at.left)) (sym reported) comes.agenda;
        open_yet = then_is.work.open_yet;
      }

  module _ (made : List Entry) (new : Kept) (allowed : AreAllowed made) where
    abbrev Told : Heard → List Entry → Type 0
    Told heard l = IsHeard heard config slirp.moment new c.on l made × HasVerdict heard config new c.on l × Leaves config l made × (agenda (made ++ l) ≡ agenda l)

    told : (heard : Heard) → Hears slirp.moment kept new c.on.tuple c.tcp heard made → Told heard past
    told heard hears = subst (Told heard) (sym comes.is) (hears config comes.newest comes.before c.on comes.brings)

    -- its flow took it
    pub heard_taken : Hears slirp.moment kept new c.on.tuple c.tcp Taken made → Holds config at slirp (flowing false new) link (made ++ past)
    heard_taken hears = let t = told Taken hears in settles made new slirp.pending allowed t.0 t.2 t.3 (owed_none t.1.1)

    -- its flow turned it away
    pub heard_strange : Hears slirp.moment kept new c.on.tuple c.tcp Strange made → Holds config at (record slirp { pending = reset_frames }) (flowing false new) link (made ++ past)
    heard_strange hears = let t = told Strange hears in settles made new reset_frames allowed t.0 t.2 t.3 (owed_reset t.1.1)

    -- ---- it is one without a flow

    module _ (hears : Hears slirp.moment kept new c.on.tuple c.tcp Alone made) where
      abbrev its : SegmentVerdict
      its = verdict_without_flow config (nat_lt (in_use_slots new.flows.table.slots) (length new.flows.table.slots)) c.on

      abbrev t : Told Alone past
      t = told Alone hears

      then_between : (l : SegmentVerdict) → its ≡ l → needs_room l ≡ false → Between config slirp.moment false (due_by None (asked_for l) (next_number past)) new past
      then_between l is room = subst (λ d. Between config slirp.moment false d new past) (due_as l (t.1 ∙ is) room) t.0.1

      -- nothing is called
      no_call : Between config slirp.moment false None new past → Between config slirp.moment false None new (made ++ past)
      no_call then_is = subst (λ m. Between config slirp.moment false None new (m ++ past)) (sym t.0.0) then_is

      pub none_made : made ≡ []
      none_made = t.0.0

      -- it is ignored
      pub alone_dropped : its ≡ Dropped → Holds config at slirp (flowing false new) link (made ++ past)
      alone_dropped is = settles made new slirp.pending allowed (no_call (then_between Dropped is refl)) t.2 t.3 (owed_none (reset_by Dropped (t.1 ∙ is)))

      -- it is answered by a reset
      pub alone_reset : its ≡ GetsReset → Holds config at (record slirp { pending = reset_frames }) (flowing false new) link (made ++ past)
      alone_reset is = settles made new reset_frames allowed (no_call (then_between GetsReset is refl)) t.2 t.3 (owed_reset (reset_by GetsReset (t.1 ∙ is)))

      -- ---- all places are in use: one flow gives way, or none

      pub alone_crowded : its ≡ NeedsRoom → (parted : Kept) (closes : List Entry) → AreAllowed closes → GivesWay slirp.moment new parted closes →
          Holds config at slirp (flowing false parted) link (closes ++ past)
      alone_crowded is parted closes fine gives =
          let g = gives config past c.on (record { came = came_is; segment_verdict = t.1 ∙ is; doomed = doomed_is }) t.0.1 in
          settles closes parted slirp.pending fine g.0 g.1 g.2 (owed_none (reset_by NeedsRoom (t.1 ∙ is)))

      -- ---- the host is to connect for it

      module _ (to : Endpoint) (asks : its ≡ AsksFor to) where
        abbrev due_is : Between config slirp.moment false (Some (CallConnect (next_number past) to)) new past
        due_is = then_between (AsksFor to) asks refl

        may : May config past (CallConnect slirp.number to)
        may = subst (λ n. May config past (CallConnect n to)) comes.sockets.number (may_connect config new.flows past slirp.moment to due_is.holds due_is.work due_is.lawful)

        not_reset : is_reset config (book config past) c.on ≡ false
        not_reset = reset_by (AsksFor to) (t.1 ∙ asks)

        -- what a connect leaves, by its answer
        connects : (answer : Made) (then_kept : Kept) (pending : List (List ℕ)) → Allowed (Connect slirp.number to answer) → Lawful config (Connect slirp.number to answer ∷ past)
            → Between config slirp.moment false None then_kept (Connect slirp.number to answer ∷ past) → left config (Connect slirp.number to answer ∷ past) ≡ pending
            → Holds config at (record slirp { number = slirp.number + 1; pending = pending }) (flowing false then_kept) link (Connect slirp.number to answer ∷ past)
        connects answer then_kept pending fine lawful then_is owed =
            let e = Connect slirp.number to answer in
            record {
              lawful = lawful;
              allowed = (fine, comes.allowed);
              keeps = keeps_by link e past tt refl refl refl comes.keeps;
              answers = record { sent = comes.sent; owed = inl (record { left = owed; again = comes.again; files = comes.files }) };
              guests = guests_stay config slirp (record slirp { number = slirp.number + 1; pending = pending }) e past refl refl comes.guests;
              relayed = record { list = comes.relayed.list; questions = comes.relayed.questions; asks = comes.relayed.asks; heard = refl };
              services = record { leases = comes.services.leases; quest = comes.services.quest };
              forwards = stays_in_force config slirp.forwards past lawful.1 comes.forwards e lawful.0 tt;
              flows = record { holds = then_is.holds; asked = then_is.asked; settings = then_is.settings; unit = comes.unit };
              sockets = record { number = ap (λ n. n + 1) comes.sockets.number; kinds = kinds_joined slirp.number to answer past comes.sockets.kinds };
              clock = record { moment = comes.clock.moment; counted = comes.clock.counted };
              stands = Turns (record { working = then_is.work.working; waited = comes.turn.waited });
              agenda = comes.agenda;
              open_yet = then_is.work.open_yet;
            }

        -- it connects: the flow begins
        pub connected : (begun : Kept) (mac : Mac) → mac.0 ≡ c.on.mac → Allowed (Connect slirp.number to MadeDone)
            → BeginsFlow slirp.moment slirp.number new begun c.on.tuple mac c.tcp → Holds config at (record slirp { number = slirp.number + 1 }) (flowing false begun) link
            (Connect slirp.number to MadeDone ∷ past)
        connected begun mac is_its fine begins =
            let then_is = begins config to past (record {
              between = subst (λ n. Between config slirp.moment false (Some (CallConnect n to)) new past) comes.sockets.number due_is;
              next = sym comes.sockets.number;
              on = c.on;
              came = came_is;
              tuple = refl;
              segment = comes.brings.segment;
              learnt = subst (λ m. Contains (taught config past) (c.on.tuple.guest.addr, record { 0 = m })) (sym is_its) comes.learnt;
            }) in
            connects MadeDone begun slirp.pending fine then_is.lawful then_is (owed_none not_reset)

        -- it doesn't: the guest gets a reset
        pub unconnected_then : Allowed (Connect slirp.number to MadeFailed) → Holds config at (record slirp { number = slirp.number + 1; pending = reset_frames })
            (flowing false new) link (Connect slirp.number to MadeFailed ∷ past)
        unconnected_then fine =
            let e = Connect slirp.number to MadeFailed in
            connects MadeFailed new reset_frames fine (may, due_is.lawful)
            (record {
              holds = holds_quiet number_of mac_of (Following config slirp.moment) (Following config slirp.moment) config new.flows past e false
                  (Some (CallConnect (next_number past) to)) refl (omega arith) refl (λ p story follows. follows) due_is.holds;
              asked = asked_then config past (e ∷ past) new.flows.slots new.flows.slots refl (λ guest. refl) (λ k q here. (q, k, here, refl, omega arith, refl)) due_is.asked;
              settings = due_is.settings;
              lawful = (may, due_is.lawful);
              work = record {
                working = due_is.work.working;
                errand = due_is.work.errand;
                services = none_due_for_services config (e ∷ past) refl comes.services.quest;
                open_yet = due_is.work.open_yet;
              };
              at = due_is.at;
            })
            (ap (λ o. unconnected config (identification past) o (left config past)) came_is
            ∙ ap (λ i. frames_of config i (reset_for c.on ∷ [])) comes.sent
            ∙ sym (answers_as config comes.guests.settings slirp.sent (λ k. reset_for c.on ∷ []) refl))
