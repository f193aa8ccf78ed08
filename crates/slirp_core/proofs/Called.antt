-- Calls for flows: reports of their sockets, the time, and what they send.
use Rattle.std.proofs.Common.{◌≡◌, ℕ, ◌<◌, ◌+◌, ◌||◌, nat_le, Bool, true, false, List, [], ◌∷◌, ◌++◌, filter, None, inl, refl, sym, ◌∙◌, ap, subst, arith}
use Rattle.std.proofs.lemmas.Bool.Decides.{nat_tests}
use Rattle.poll_list.specs.declared.Want.{Want}
use Rattle.poll_list.specs.declared.Who.TheVariants.{Tcp as OnTcp}
use Rattle.world_face.specs.Journal.{Entry, AreAllowed, Follows}
use Rattle.world_face.specs.Frames.{LinkFailed, MayFrame}
use Rattle.world_face.proofs.Telling.{allowed_then}
use Rattle.slirp_settings.specs.Addresses.{Config}
use Rattle.ipv4_head.specs.Sets.{young}
use Rattle.spec_trace.specs.Moments.{moment, waits}
use Rattle.spec_trace.specs.Shape.{is_ended, is_over}
use Rattle.spec_trace.specs.Sockets.{is_among, kind_of, next_number, open_sockets}
use Rattle.spec_run.specs.Agenda.{agenda, all_wanted, wanted_of}
use Rattle.spec_run.specs.Errands.{errand_left}
use Rattle.spec_run.specs.Datagrams.{NeedsNothing}
use Rattle.spec_run.specs.Laws.{Lawful}
use Rattle.stream_netdev.specs.State.{LinkState}
use Rattle.slirp_core.specs.Holds.{holders_with, Stands, Begins, Standing, InTurn, IsLast, OfGuests, after, standing, AfterPump, Ended, Flowing, Holds, Turns, flowing, is_ours}
use Rattle.slirp_core.specs.State.{SlirpState}
use Rattle.slirp_core.specs.Waiting.{OfFragments}
use Rattle.slirp_core.proofs.Swapping.{holds_swapped}
use Rattle.slirp_core.proofs.Parts.{asks_nothing, errand_for, in_turn, two_in}
use Rattle.slirp_core.specs.Owed.{IsOwed, kept_by}
use Rattle.slirp_core.proofs.Owing.{SameLedger, nothing_left, of_left, owed_aged, owed_as, owed_on, same_beside}
use Rattle.slirp_core.proofs.Services.{none_due_for_services, unheard}
use Rattle.spec_run.proofs.KeptFiles.{now_is}
use Rattle.rules_tftp.specs.Transfers.{Files, Transfer, are_left}
use Rattle.stream_netdev.specs.declared.Pumped.{Pumped}
use Rattle.stream_netdev.specs.declared.Pumped.TheVariants.{Clear, Blocked, Failed}
use Rattle.spec_trace.specs.Guests.{known}
use Rattle.tcp_flows.specs.Kept.{Kept}
use Rattle.tcp_flows.specs.Reading.{AreTold, NoneInSlots}
use Rattle.sim_flows.specs.Core.{Following, number_of}
use Rattle.sim_flows.proofs.Staying.{core_stays}
use Rattle.sim_flows.specs.Seats.{Seats}
use Rattle.spec_flows.specs.Book.{book, is_young}
use Rattle.spec_flows.specs.Flows.{TimeWait}
use Rattle.tcp_flows.specs.Runs.{Between, Broken, ClosesRising, IsIdle, IsIdlePump, Leaves, Learns, LeavesOthers, Pumps, Reports, Sendable, Ticks, Tells}
use Rattle.tcp_flows.specs.Told.{ServesOnce}
use Rattle.slirp_core.proofs.Given.{left_in_force}
use Rattle.slirp_core.proofs.Open.{open_by}

-- each call was one that a link may get
pub framed : (config : Config) (past : List Entry) → Lawful config past → Follows MayFrame past
framed config [] lawful = tt
framed config (e ∷ past) lawful = (lawful.0.framed, framed config past lawful.1)

-- what Between says of a core at a moment in a turn
pub between : (config : Config) (at : Standing) (slirp : SlirpState) (f : Flowing) (link : LinkState) (past : List Entry) → InTurn config past → Holds config at slirp f link past →
    Between config slirp.moment f.aged None f.kept past
between config at slirp f link past turn holds = record {
  holds = holds.flows.holds;
  asked = holds.flows.asked;
  settings = holds.flows.settings;
  lawful = holds.lawful;
  work = record {
    working = turn.working;
    errand = errand_for config NeedsNothing None slirp past holds.relayed;
    services = none_due_for_services config past holds.relayed.heard holds.services.quest;
    open_yet = holds.open_yet;
  };
  at = holds.clock.moment;
}

-- which fragments wait
pub fragments_left : (config : Config) (slirp : SlirpState) (past made : List Entry) → moment (made ++ past) ≡ moment past → LeavesOthers config past made →
    OfFragments config slirp past → OfFragments config slirp (made ++ past)
fragments_left config slirp past made same others fragments = record {
  held = fragments.held;
  is_held = fragments.is_held;
  wait = ap (λ n. young n fragments.held) same ∙ fragments.wait ∙ sym (λ i. young (same i) (others.sets i));
}

pub guests_left : (config : Config) (slirp : SlirpState) (past made : List Entry) → moment (made ++ past) ≡ moment past → LeavesOthers config past made →
    OfGuests config slirp past → OfGuests config slirp (made ++ past)
guests_left config slirp past made same others guests = record {
  settings = guests.settings;
  known = others.known ∙ guests.known;
  fragments = fragments_left config slirp past made same others guests.fragments;
}

pub sockets_left : (config : Config) (past made : List Entry) → LeavesOthers config past made → ((n : ℕ) → is_among n (open_sockets past) ≡ true → is_ours (kind_of n past) ≡ true)
    → (n : ℕ) → is_among n (open_sockets (made ++ past)) ≡ true → is_ours (kind_of n (made ++ past)) ≡ true
sockets_left config past made others kinds n among = ap is_ours (others.kinds n) ∙ kinds n (others.opens n among)

-- Calls for flows, after which their slots stand for the flows again, leave all else; these transfers of files are kept then.
pub after_flows : (config : Config) (at later : Standing) (slirp : SlirpState) (f : Flowing) (link : LinkState) (past made : List Entry) (aged : Bool) (new : Kept)
    (transfers : List Transfer) → later.count ≡ at.count → AreAllowed made → InTurn config past
    → Holds config at slirp f link past → Between config slirp.moment aged None new (made ++ past) → Leaves config past made → IsLast (all_wanted later.wants later.left) (agenda (made ++ past))
    → (SameLedger config past (made ++ past) → IsOwed config aged (record slirp { transfers = transfers }) (made ++ past))
    → Holds config later (record slirp { transfers = transfers }) (flowing aged new) link (made ++ past)
after_flows config at later slirp f link past made aged new transfers same allowed turn holds then_is leaves reported owed =
    let others = leaves.others in
    let moments : moment (made ++ past) ≡ moment past = then_is.at ∙ sym holds.clock.moment in
    let guests = guests_left config slirp past made moments others holds.guests in
    let fragments = guests.fragments in
    record {
      lawful = then_is.lawful;
      allowed = allowed_then made past allowed holds.allowed;
      keeps = record {
        framed = framed config (made ++ past) then_is.lawful;
        partly = others.partly ∙ holds.keeps.partly;
        rest = leaves.tail ∙ holds.keeps.rest;
        blocked = leaves.blocked ∙ holds.keeps.blocked;
      };
      answers = record { sent = leaves.counted ∙ holds.answers.sent; owed = owed (same_beside config past made leaves.left leaves.counted moments others) };
      guests = record { settings = guests.settings; known = guests.known; fragments = record { held = fragments.held; is_held = fragments.is_held; wait = fragments.wait } };
      relayed = record {
        list = others.list ∙ holds.relayed.list;
        questions = others.questions ∙ holds.relayed.questions;
        asks = asks_nothing config slirp
            (errand_left config (made ++ past)) then_is.work.errand;
        heard = unheard config (made ++ past) then_is.work.services;
      };
      services = record { leases = others.leases ∙ holds.services.leases; quest = ap (λ (k : Files). k.quest) others.files ∙ holds.services.quest };
      forwards = left_in_force config slirp.forwards past made others (let same_next = leaves.next in omega (arith, same_next)) holds.forwards;
      flows = record { holds = then_is.holds; asked = then_is.asked; settings = then_is.settings; unit = holds.flows.unit };
      sockets = record { number = leaves.next ∙ holds.sockets.number; kinds = sockets_left config past made others holds.sockets.kinds };
      clock = record { moment = then_is.at; counted = others.waits ∙ holds.clock.counted ∙ sym same };
      stands = Turns (record { working = then_is.work.working; waited = subst (λ n. 0 < n) (sym others.waits) turn.waited });
      agenda = reported;
      open_yet = then_is.work.open_yet;
    }

-- a wait began this turn, where it reported something
pub reported_turn : (config : Config) (count : ℕ) (wants : List Want) (item : Want) (items : List Want) (slirp : SlirpState) (f : Flowing) (link : LinkState) (past : List Entry) →
    Holds config (standing count wants (item ∷ items)) slirp f link past → InTurn config past
reported_turn config count wants item items slirp f link past holds = in_turn holds.stands (λ u. nothing_last (agenda past) u.unreported holds.agenda)
  where
    nothing_last : (all : List Want) → all ≡ [] → IsLast (all_wanted wants (item ∷ items)) all → ⊥
    nothing_last all none ([], is) = cc (sym is ∙ none)
    nothing_last all none ((x ∷ before), is) = cc (sym is ∙ none)

-- the host reported a socket of a flow
pub reported : (config : Config) (count : ℕ) (wants : List Want) (item : Want) (items : List Want) (slirp : SlirpState) (f : Flowing) (link : LinkState) (past made : List Entry)
    (number : ℕ) (read write : Bool) (new : Kept)
    → wanted_of wants item ≡ record { of = OnTcp number; read = read; write = write } → Reports slirp.moment number read write f.kept new made → AreAllowed made
    → Holds config (standing count wants (item ∷ items)) slirp f link past → Holds config (standing count wants items) slirp (flowing f.aged new) link (made ++ past)
reported config count wants item items slirp f link past made number read write new wanted reports allowed holds =
    let turn = reported_turn config count wants item items slirp f link past holds in
    let then_is = reports config f.aged past (all_wanted wants items) (between config (standing count wants (item ∷ items)) slirp f link past turn holds)
    (subst (λ w. IsLast (w ∷ all_wanted wants items) (agenda past)) wanted holds.agenda) in
    after_flows config (standing count wants (item ∷ items)) (standing count wants items) slirp f link past made f.aged new slirp.transfers refl allowed turn holds then_is.between
    then_is.leaves then_is.agenda
    (λ same. owed_on config f.aged slirp past (made ++ past) same holds.answers.owed)

-- and nothing is left of that, unless the flow was told before in this turn
pub told_once : (config : Config) (count : ℕ) (wants : List Want) (item : Want) (items : List Want) (slirp : SlirpState) (f : Flowing) (link : LinkState) (past made : List Entry)
    (number : ℕ) (read write : Bool)
    → wanted_of wants item ≡ record { of = OnTcp number; read = read; write = write } → Tells slirp.moment number read write f.kept made
    → Holds config (standing count wants (item ∷ items)) slirp f link past → ServesOnce config number read write f.kept (made ++ past)
told_once config count wants item items slirp f link past made number read write wanted tells holds =
    let turn = reported_turn config count wants item items slirp f link past holds in
    tells config f.aged past (all_wanted wants items) (between config (standing count wants (item ∷ items)) slirp f link past turn holds)
    (subst (λ w. IsLast (w ∷ all_wanted wants items) (agenda past)) wanted holds.agenda)

-- where another wait may come the run isn't over
not_ended : (config : Config) (count : ℕ) (slirp : SlirpState) (kept : Kept) (link : LinkState) (past : List Entry) → count < config.turns → InTurn config past
    → Holds config (after count) slirp (flowing false kept) link past → is_ended config past ≡ false
not_ended config count slirp kept link past few turn holds = ap (λ p. is_over p || nat_le config.turns (waits past)) turn.working ∙ not_all
  where
    not_all : nat_le config.turns (waits past) ≡ false
    not_all = let counted : waits past ≡ count = holds.clock.counted in grind (arith, nat_tests, few, counted)

-- the guests that are known are those of the trace
told_now : (config : Config) (slirp : SlirpState) (kept : Kept) (past : List Entry) → AreTold slirp.known kept.flows.slots → known config past ≡ slirp.known → AreTold
    (known config past) kept.flows.slots
told_now config slirp kept past told is = subst (λ l. AreTold l kept.flows.slots) (sym is) told

-- flows were told their guests' hardware addresses
pub addresses_told : (config : Config) (at : Standing) (slirp : SlirpState) (aged : Bool) (kept new : Kept) (link : LinkState) (past : List Entry) → Learns slirp.known kept new →
    (NoneInSlots kept.flows.slots → new ≡ kept)
    → Holds config at slirp (flowing aged kept) link past → Holds config at slirp (flowing aged new) link past
addresses_told config at slirp aged kept new link past learns idle holds = by holds.stands
  where
    by : Stands config NeedsNothing slirp kept link past → Holds config at slirp (flowing aged new) link past
    by (Turns turn) =
        let then_is = learns config slirp.moment aged past holds.guests.known (between config at slirp (flowing aged kept) link past turn holds) in
        record {
          lawful = holds.lawful;
          allowed = holds.allowed;
          keeps = holds.keeps;
          answers = holds.answers;
          guests = holds.guests;
          relayed = holds.relayed;
          services = holds.services;
          forwards = holds.forwards;
          flows = record { holds = then_is.holds; asked = then_is.asked; settings = then_is.settings; unit = holds.flows.unit };
          sockets = holds.sockets;
          clock = holds.clock;
          stands = Turns turn;
          agenda = holds.agenda;
          open_yet = holds.open_yet;
        }
    by (Begins unbegun free unrested) = subst (λ (k : Kept). Holds config at slirp (flowing aged k) link past) (sym (idle free)) holds

-- the transfers of files that are over are gone
abbrev pub without_over : SlirpState → SlirpState
without_over slirp = record slirp { transfers = are_left slirp.moment slirp.transfers }

-- flows were told the time, in a turn after which another wait may come
pub ticked : (config : Config) (count : ℕ) (slirp : SlirpState) (kept new : Kept) (link : LinkState) (past made : List Entry) (Closes : List Entry → Type 0) →
    count < config.turns → AreTold slirp.known kept.flows.slots → Ticks slirp.moment false Closes kept new made → AreAllowed made → InTurn config past
    → Holds config (after count) slirp (flowing false kept) link past → Holds config (after count) (without_over slirp) (flowing true new) link (made ++ past)
ticked config count slirp kept new link past made Closes few told ticks allowed turn holds =
    let then_is = (ticks config past (not_ended config count slirp kept link past few turn holds) (between config (after count) slirp (flowing false kept) link past turn holds)
    (told_now config slirp kept past told holds.guests.known)).0 in
    after_flows config (after count) (after count) slirp (flowing false kept) link past made true new
    (are_left slirp.moment slirp.transfers) refl allowed turn holds then_is.between then_is.leaves (subst (IsLast []) (sym then_is.agenda) holds.agenda)
    (λ same. owed_aged config slirp (made ++ past) then_is.between.at (owed_on config false slirp past (made ++ past) same holds.answers.owed))

-- and before the first wait, where there is no flow
pub unticked : (config : Config) (at : Standing) (slirp : SlirpState) (kept : Kept) (link : LinkState) (past : List Entry) → (book config past).time_waits ≡ [] → Holds config at slirp
    (flowing false kept) link past
    → Holds config at (without_over slirp) (flowing true kept) link past
unticked config at slirp kept link past unrested holds = record {
  lawful = holds.lawful;
  allowed = holds.allowed;
  keeps = holds.keeps;
  answers = record { sent = holds.answers.sent; owed = owed_aged config slirp past holds.clock.moment holds.answers.owed };
  guests = record {
    settings = holds.guests.settings;
    known = holds.guests.known;
    fragments = record {
      held = holds.guests.fragments.held;
      is_held = holds.guests.fragments.is_held;
      wait = holds.guests.fragments.wait;
    };
  };
  relayed = record { list = holds.relayed.list; questions = holds.relayed.questions; asks = holds.relayed.asks; heard = holds.relayed.heard };
  services = record { leases = holds.services.leases; quest = holds.services.quest };
  forwards = holds.forwards;
  flows = record {
    holds = record {
      seats = subst (λ (r : List TimeWait). Seats number_of (Following config slirp.moment) kept.flows.table kept.flows.slots (next_number past) (book config past).flows r)
          (unrested ∙ sym (ap (filter (is_young (moment past))) unrested)) holds.flows.holds.seats;
      slots = holds.flows.holds.slots;
      opened = holds.flows.holds.opened;
      asked = holds.flows.holds.asked;
      learnt = holds.flows.holds.learnt;
    };
    asked = holds.flows.asked;
    settings = holds.flows.settings;
    unit = holds.flows.unit;
  };
  sockets = holds.sockets;
  clock = record { moment = holds.clock.moment; counted = holds.clock.counted };
  stands = stands holds.stands;
  agenda = holds.agenda;
  open_yet = holds.open_yet;
}
  where
    stands : Stands config NeedsNothing slirp kept link past → Stands config NeedsNothing (without_over slirp) kept link past
    stands (Turns turn) = Turns turn
    stands (Begins u free unrested) = Begins (record {
      started = u.started;
      unwaited = u.unwaited;
      unreported = u.unreported;
      unasked = u.unasked;
      alone = u.alone;
      unnamed = u.unnamed;
      nothing = u.nothing;
      unserved = ap (are_left slirp.moment) u.unserved;
      empty = u.empty;
    }) free unrested

-- what the core has beside its relation to flows
pub flows_put : (config : Config) (at : Standing) (slirp : SlirpState) (k : Kept) (f : Flowing) (link : LinkState) (past : List Entry) → Holds config at slirp f link past →
    Holds config at (record slirp { flows = k }) f link past
flows_put config at slirp k f link past holds =
    holds_swapped config at slirp slirp.pending slirp.transfers k f link past holds
    (record { sent = holds.answers.sent; owed = owed_as config f.aged slirp (record slirp { flows = k }) past refl refl holds.answers.owed }) (λ none unserved. none) (λ unserved. unserved)

-- a turn begins
pub turn_begins : (config : Config) (at : Standing) (slirp : SlirpState) (aged : Bool) (kept : Kept) (link : LinkState) (past : List Entry) → Holds config at slirp (flowing aged kept) link past
    → Holds config at slirp (flowing aged (record kept { turn = kept.turn + 1 })) link past
turn_begins config at slirp aged kept link past holds = record {
  lawful = holds.lawful;
  allowed = holds.allowed;
  keeps = holds.keeps;
  answers = holds.answers;
  guests = holds.guests;
  relayed = holds.relayed;
  services = holds.services;
  forwards = holds.forwards;
  flows = record {
    holds = holds.flows.holds;
    asked = holds.flows.asked;
    settings = record {
      ring = holds.flows.settings.ring;
      mtu = holds.flows.settings.mtu;
      mru = holds.flows.settings.mru;
      congestion = holds.flows.settings.congestion;
      vhost = holds.flows.settings.vhost;
    };
    unit = holds.flows.unit;
  };
  sockets = holds.sockets;
  clock = holds.clock;
  stands = stands holds.stands;
  agenda = holds.agenda;
  open_yet = holds.open_yet;
}
  where
    stands : Stands config NeedsNothing slirp kept link past → Stands config NeedsNothing slirp (record kept { turn = kept.turn + 1 }) link past
    stands (Turns turn) = Turns turn
    stands (Begins unbegun free unrested) = Begins unbegun free unrested

-- the flows of a turn, or of none
pub told_the_time : (config : Config) (count : ℕ) (slirp : SlirpState) (kept new : Kept) (link : LinkState) (past made : List Entry) (Closes : List Entry → Type 0) →
    count < config.turns → AreTold slirp.known kept.flows.slots → Ticks slirp.moment false Closes kept new made → IsIdle kept new made → AreAllowed made
    → Holds config (after count) slirp (flowing false kept) link past → Holds config (after count) (without_over slirp) (flowing true new) link (made ++ past)
told_the_time config count slirp kept new link past made Closes few told ticks idle allowed holds = by holds.stands
  where
    by : Stands config NeedsNothing slirp kept link past → Holds config (after count) (without_over slirp) (flowing true new) link (made ++ past)
    by (Turns turn) = ticked config count slirp kept new link past made Closes few told ticks allowed turn holds
    by (Begins unbegun free unrested) =
        let none = idle free in
        subst (λ (m : List Entry). Holds config (after count) (without_over slirp) (flowing true new) link (m ++ past)) (sym none.1)
        (subst (λ (k : Kept). Holds config (after count) (without_over slirp) (flowing true k) link past) (sym none.0) (unticked config (after count) slirp kept link past unrested holds))

-- its sockets are closed by rising number
pub told_rising : (config : Config) (count : ℕ) (slirp : SlirpState) (kept new : Kept) (link : LinkState) (past made : List Entry) → count < config.turns →
    AreTold slirp.known kept.flows.slots → Ticks slirp.moment false ClosesRising kept new made → IsIdle kept new made
    → Holds config (after count) slirp (flowing false kept) link past → ClosesRising made
told_rising config count slirp kept new link past made few told ticks idle holds = by holds.stands
  where
    by : Stands config NeedsNothing slirp kept link past → ClosesRising made
    by (Turns turn) = (ticks config past (not_ended config count slirp kept link past few turn holds) (between config (after count) slirp (flowing false kept) link past turn holds)
        (told_now config slirp kept past told holds.guests.known)).1
    by (Begins unbegun free unrested) = subst ClosesRising (sym (idle free).1) tt

-- ---- what flows owe goes out

-- nothing is left of an answer
pub sendable : (config : Config) (at : Standing) (slirp : SlirpState) (f : Flowing) (link : LinkState) (past : List Entry) → slirp.pending ≡ [] → InTurn config past → Holds config at slirp f link past
    → Sendable config slirp.moment f.aged slirp.known f.kept link slirp.sent past
sendable config at slirp f link past none turn holds = record {
  between = between config at slirp f link past turn holds;
  keeps = holds.keeps;
  nothing = nothing_left config f.aged slirp past none holds.answers.owed;
  counted = holds.answers.sent;
  knows = holds.guests.known;
}

module _ (config : Config) (at : Standing) (slirp : SlirpState) (f : Flowing) (link next : LinkState) (past made : List Entry) (new : Kept) (last : ℕ) (none : slirp.pending ≡ [])
    (allowed : AreAllowed made) (turn : InTurn config past) (holds : Holds config at slirp f link past) where
  -- they were taken, or the link is blocked
  went_on : Sendable config slirp.moment f.aged slirp.known new next last (made ++ past) → next_number (made ++ past) ≡ next_number past → LeavesOthers config past made → agenda
      (made ++ past) ≡ agenda past
      → Holds config at (record slirp { sent = last }) (flowing f.aged new) next (made ++ past)
  went_on then_is same others reported =
      let guests = guests_left config slirp past made (then_is.between.at ∙ sym holds.clock.moment) others holds.guests in
      let fragments = guests.fragments in
      record {
        lawful = then_is.between.lawful;
        allowed = allowed_then made past allowed holds.allowed;
        keeps = then_is.keeps;
        answers = record {
          sent = then_is.counted;
          owed = inl (record {
            left = then_is.nothing ∙ sym none;
            again = others.again ∙ (of_left config f.aged slirp past none holds.answers.owed).again;
            files = (of_left config f.aged slirp past none holds.answers.owed).files
                ∙ sym (λ i. kept_by f.aged false ((now_is config (made ++ past) ∙ then_is.between.at ∙ sym holds.clock.moment ∙ sym (now_is config past)) i) (others.files i).transfers);
          });
        };
        guests = record { settings = guests.settings; known = guests.known; fragments = record { held = fragments.held; is_held = fragments.is_held; wait = fragments.wait } };
        relayed = record {
          list = others.list ∙ holds.relayed.list;
          questions = others.questions ∙ holds.relayed.questions;
          asks = asks_nothing config slirp
              (errand_left config (made ++ past)) then_is.between.work.errand;
          heard = unheard config (made ++ past) then_is.between.work.services;
        };
        services = record { leases = others.leases ∙ holds.services.leases; quest = ap (λ (k : Files). k.quest) others.files ∙ holds.services.quest };
        forwards = left_in_force config slirp.forwards past made others (omega (arith, same)) holds.forwards;
        flows = record { holds = then_is.between.holds; asked = then_is.between.asked; settings = then_is.between.settings; unit = holds.flows.unit };
        sockets = record { number = same ∙ holds.sockets.number; kinds = sockets_left config past made others holds.sockets.kinds };
        clock = record { moment = then_is.between.at; counted = others.waits ∙ holds.clock.counted };
        stands = Turns (record { working = then_is.between.work.working; waited = subst (λ n. 0 < n) (sym others.waits) turn.waited });
        agenda = subst (IsLast (all_wanted at.wants at.left)) (sym reported) holds.agenda;
        open_yet = then_is.between.work.open_yet;
      }

  -- the link failed
  broke : Broken config slirp.moment f.aged new (made ++ past) → next_number (made ++ past) ≡ next_number past → LeavesOthers config past made → Ended config at.count LinkFailed slirp.forwards (holders_with slirp new) (made ++ past)
  broke then_is same others = record {
    lawful = then_is.lawful;
    over = then_is.over;
    waited = others.waits ∙ holds.clock.counted;
    errand = others.errand ∙ errand_for config NeedsNothing None slirp past holds.relayed;
    served = then_is.served;
    idle = then_is.asks;
    stay = core_stays config slirp.moment f.aged None new.flows (made ++ past) then_is.holds;
    sockets = open_by config slirp (flowing f.aged new) slirp.moment (made ++ past) then_is.lawful (others.list ∙ holds.relayed.list)
        (others.questions ∙ holds.relayed.questions) then_is.holds (sockets_left config past made others holds.sockets.kinds)
        (left_in_force config slirp.forwards past made others (omega (arith, same)) holds.forwards);
    two = two_in config slirp (made ++ past) then_is.lawful (others.list ∙ holds.relayed.list) (others.questions ∙ holds.relayed.questions);
  }

  -- the flows were pumped
  pub pumped : (result : Pumped) → Pumps slirp.moment slirp.known f.kept new link next slirp.sent last result made → AfterPump result config at (record slirp { sent = last })
      (flowing f.aged new) next (made ++ past)
  pumped Clear pumps = let then_is = pumps config f.aged past (sendable config at slirp f link past none turn holds) in went_on then_is.0 then_is.1 then_is.2 then_is.3
  pumped Blocked pumps = let then_is = pumps config f.aged past (sendable config at slirp f link past none turn holds) in went_on then_is.0 then_is.1 then_is.2 then_is.3
  pumped Failed pumps = let then_is = pumps config f.aged past (sendable config at slirp f link past none turn holds) in (broke then_is.0 then_is.1 then_is.2, then_is.1 ∙ holds.sockets.number)

-- the flows of a turn were pumped, or of none
pub pumped_so : (config : Config) (at : Standing) (slirp : SlirpState) (aged : Bool) (kept new : Kept) (link next : LinkState) (past made : List Entry) (last : ℕ)
    (result : Pumped) → slirp.pending ≡ [] → AreAllowed made
    → Pumps slirp.moment slirp.known kept new link next slirp.sent last result made → IsIdlePump kept new link next slirp.sent last result made → Holds config at slirp (flowing aged kept) link past
    → AfterPump result config at (record slirp { sent = last }) (flowing aged new) next (made ++ past)
pumped_so config at slirp aged kept new link next past made last result none allowed pumps idle holds = by holds.stands
  where
    by : Stands config NeedsNothing slirp kept link past → AfterPump result config at (record slirp { sent = last }) (flowing aged new) next (made ++ past)
    by (Turns turn) = pumped config at slirp (flowing aged kept) link next past made new last none allowed turn holds result pumps
    by (Begins unbegun free unrested) =
        let still = idle free in
        subst (λ (m : List Entry). AfterPump result config at (record slirp { sent = last }) (flowing aged new) next (m ++ past)) (sym still.1)
        (subst (λ (r : Pumped). AfterPump r config at (record slirp { sent = last }) (flowing aged new) next past) (sym still.2)
        (subst (λ (k : Kept). Holds config at (record slirp { sent = last }) (flowing aged k) next past) (sym still.0)
        (subst (λ (l : LinkState). Holds config at (record slirp { sent = last }) (flowing aged kept) l past) (sym still.3)
        (subst (λ (n : ℕ). Holds config at (record slirp { sent = n }) (flowing aged kept) link past) (sym still.4) holds))))

-- the ended run as it is where the network has other flows
pub after_put : (result : Pumped) (config : Config) (at : Standing) (slirp : SlirpState) (k : Kept) (f : Flowing) (link : LinkState) (past : List Entry) →
    AfterPump result config at slirp f link past → AfterPump result config at (record slirp { flows = k }) f link past
after_put Clear config at slirp k f link past holds = flows_put config at slirp k f link past holds
after_put Blocked config at slirp k f link past holds = flows_put config at slirp k f link past holds
after_put Failed config at slirp k f link past ended = ended
