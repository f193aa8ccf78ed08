-- A datagram for the server of files is served: its calls on files leave all else, and what comes of them is kept and told.
use Rattle.slirp_core.specs.Forwards.{AreInForce}
use Rattle.slirp_core.proofs.Given.{unmoved}
use Rattle.std.proofs.Common.{◌≡◌, ℕ, ◌+◌, ◌-◌, length, false, List, [], ◌∷◌, ◌++◌, Option, Some, None, inl, refl, sym, ◌∙◌, ap, subst, arith}
use Rattle.world_face.specs.Journal.{AreAllowed, Call, CallFileLen, CallFileRead, Entry, FileLen, FileRead, call_of}
use Rattle.world_face.proofs.Telling.{allowed_then}
use Rattle.slirp_settings.specs.Addresses.{Config}
use Rattle.spec_trace.specs.Packets.{Datagram}
use Rattle.rules_tftp.specs.Asking.{AreAskedFor, IsServed, after_calls, call_for}
use Rattle.rules_tftp.specs.Packets.{packet_in}
use Rattle.rules_tftp.specs.Transfers.{Files, Outcome, Quest, Said, SeeksLength, SeeksOctets, Settled as SeeksNothing, Transfer, came, octets_of, place_of, settled}
use Rattle.spec_run.specs.Agenda.{agenda, all_wanted}
use Rattle.spec_run.specs.Answers.{frames_of, serving, told_of_files}
use Rattle.spec_run.specs.Datagrams.{NeedsNothing}
use Rattle.spec_run.specs.Errands.{errand_left}
use Rattle.spec_run.specs.Leasing.{leases}
use Rattle.spec_run.specs.Names.{questions}
use Rattle.spec_run.specs.Relayed.{associations}
use Rattle.spec_run.proofs.FileSteps.{AreFileCalls, MaySeek, are_file_calls, silent_packet}
use Rattle.spec_run.proofs.KeptFiles.{now_is}
use Rattle.stream_netdev.specs.Keeps.{Keeps}
use Rattle.stream_netdev.specs.State.{LinkState}
use Rattle.tcp_flows.specs.Kept.{Kept}
use Rattle.slirp_core.specs.Holds.{AsksFile, Holds, InTurn, IsLast, OfClock, OfFlows, OfGuests, OfSockets, Standing, Turns, flowing}
use Rattle.slirp_core.specs.State.{SlirpState}
use Rattle.slirp_core.proofs.Flows.{flows_ask_nothing, flows_stay}
use Rattle.slirp_core.proofs.Guests.{guests_stay}
use Rattle.slirp_core.proofs.Parts.{asks_nothing, errand_for, keeps_by}
use Rattle.slirp_core.proofs.AsGiven.{answers_as, told_as}

-- ---- calls on files

abbrev IsOfFile : Entry → Type 0
IsOfFile (FileLen name answer) = Unit {0}
IsOfFile (FileRead name place asked answer octets) = Unit {0}
IsOfFile _ = ⊥

abbrev IsCallOfFile : Call → Type 0
IsCallOfFile (CallFileLen name) = Unit {0}
IsCallOfFile (CallFileRead name place asked) = Unit {0}
IsCallOfFile _ = ⊥

by_call : (e : Entry) (s : Call) → call_of e ≡ s → IsCallOfFile s → IsOfFile e
by_call (FileLen name answer) s is file = tt
by_call (FileRead name place asked answer octets) s is file = tt
by_call _ s is file = absurd (subst IsCallOfFile (sym is) file)

asked_of_file : (q : Quest) (e : Entry) → call_for q ≡ Some (call_of e) → IsOfFile e
asked_of_file SeeksNothing e is = cc
asked_of_file (SeeksLength s) e is = by_call e (CallFileLen s.file) (the_call is) tt
  where
    the_call : Some (CallFileLen s.file) ≡ Some (call_of e) → call_of e ≡ CallFileLen s.file
    the_call is = cc
asked_of_file (SeeksOctets t there) e is = by_call e (CallFileRead t.file (place_of t + length there) (octets_of t - length there)) (the_call is) tt
  where
    the_call : Some (CallFileRead t.file (place_of t + length there) (octets_of t - length there)) ≡ Some (call_of e) → call_of e ≡ CallFileRead t.file (place_of t + length there)
        (octets_of t - length there)
    the_call is = cc

-- ---- they leave all else

module _ (config : Config) (at : Standing) (slirp : SlirpState) (kept : Kept) (link : LinkState) where
  record Still (past : List Entry) : Type 0 where
    keeps : Keeps link past
    guests : OfGuests config slirp past
    list : associations config past ≡ slirp.associations
    questions : questions config past ≡ slirp.questions
    leases : leases config past ≡ slirp.leases
    flows : OfFlows config (flowing false kept) slirp.moment past
    sockets : OfSockets slirp.number past
    clock : OfClock at slirp past
    turn : InTurn config past
    agenda : IsLast (all_wanted at.wants at.left) (agenda past)
    forwards : AreInForce config slirp.forwards past

  still_one : (e : Entry) (past : List Entry) → IsOfFile e → Still past → Still (e ∷ past)
  still_one (FileLen name answer) past is s =
      let e = FileLen name answer in
      record {
        keeps = keeps_by link e past tt refl refl refl s.keeps;
        guests = guests_stay config slirp slirp e past refl refl s.guests;
        list = s.list;
        questions = s.questions;
        leases = s.leases;
        flows = flows_stay config (flowing false kept) slirp.moment e past refl refl (omega arith) refl s.flows;
        sockets = record { number = s.sockets.number; kinds = s.sockets.kinds };
        clock = record { moment = s.clock.moment; counted = s.clock.counted };
        turn = record { working = s.turn.working; waited = s.turn.waited };
        agenda = s.agenda;
        forwards = unmoved config slirp.forwards (e ∷ past) past (λ n among. refl) (λ n among given. among) (λ n among given. (among, given)) (omega arith) s.forwards;
      }
  still_one (FileRead name place asked answer octets) past is s =
      let e = FileRead name place asked answer octets in
      record {
        keeps = keeps_by link e past tt refl refl refl s.keeps;
        guests = guests_stay config slirp slirp e past refl refl s.guests;
        flows = flows_stay config (flowing false kept) slirp.moment e past refl refl (omega arith) refl s.flows;
        sockets = record { number = s.sockets.number; kinds = s.sockets.kinds };
        clock = record { moment = s.clock.moment; counted = s.clock.counted };
        turn = record { working = s.turn.working; waited = s.turn.waited };
        agenda = s.agenda;
        list = s.list;
        questions = s.questions;
        leases = s.leases;
        forwards = unmoved config slirp.forwards (e ∷ past) past (λ n among. refl) (λ n among given. among) (λ n among given. (among, given)) (omega arith) s.forwards;
      }
  still_one _ past is s = absurd is

  still_all : (now : ℕ) (o : Outcome) (made past : List Entry) → AreAskedFor now o made → Still past → Still (made ++ past)
  still_all now o [] past asked s = s
  still_all now o (e ∷ made) past asked s = still_one e (made ++ past) (asked_of_file (after_calls now made o).files.quest e asked.0) (still_all now o made past asked.1 s)

  -- what comes of it is kept, and told
  pub served : (d : Datagram) (past made : List Entry) (transfers : List Transfer) (told : Option Said) → AsksFile config at slirp kept link d past → AreAllowed made
      → IsServed slirp.moment (came slirp.config.tftp_path slirp.moment d.mac d.from d.body (settled slirp.transfers)) transfers told made
      → Holds config at (record slirp { pending = frames_of slirp.config slirp.sent (told_of_files slirp.config told); transfers = transfers }) (flowing false kept) link (made ++ past)
  served d past made transfers told a allowed is_served =
      let o : Outcome = came config.tftp_path slirp.moment d.mac d.from d.body (settled slirp.transfers) in
      let at_now : (serving config past).now ≡ slirp.moment = now_is config past ∙ a.clock.moment in
      let is : IsServed slirp.moment o transfers told made = subst (λ (k : Config). IsServed slirp.moment (came k.tftp_path slirp.moment d.mac d.from d.body
      (settled slirp.transfers)) transfers told made) a.guests.settings is_served in
      let may : MaySeek config past = record {
        working = a.turn.working;
        settled = errand_for config NeedsNothing None slirp past a.relayed;
        unheard = a.relayed.heard;
        nothing = flows_ask_nothing config (flowing false kept) slirp.moment past a.flows;
        open_yet = a.open_yet;
      } in
      let calls : AreFileCalls config past o made = are_file_calls config past o made a.lawful may a.outcome (silent_packet config.tftp_path slirp.moment d.mac d.from
      (packet_in d.body) slirp.transfers)
      (a.owed ∙ ap (λ i. frames_of config i (told_of_files config o.told)) (sym a.sent)) (subst (λ n. AreAskedFor n o made) (sym at_now) is.asked) in
      let after : after_calls (serving config past).now made o ≡ after_calls slirp.moment made o = ap (λ n. after_calls n made o) at_now in
      let files : (serving config (made ++ past)).files ≡ (after_calls slirp.moment made o).files = calls.files ∙ ap (λ (p : Outcome). p.files) after in
      let s = still_all slirp.moment o made past is.asked (record {
        keeps = a.keeps;
        guests = a.guests;
        list = a.relayed.list;
        questions = a.relayed.questions;
        leases = a.leases;
        flows = a.flows;
        sockets = a.sockets;
        clock = a.clock;
        turn = a.turn;
        agenda = a.agenda;
        forwards = a.forwards;
      }) in
      record {
        lawful = calls.lawful;
        allowed = allowed_then made past allowed a.allowed;
        keeps = s.keeps;
        answers = record {
          sent = calls.ident ∙ a.sent;
          owed = inl (record {
            left = calls.left ∙ ap (λ i. frames_of config i (told_of_files config (after_calls (serving config past).now made o).told)) a.sent
                ∙ ap (λ (p : Outcome). frames_of config slirp.sent (told_of_files config p.told)) after
                ∙ sym (ap (λ t. frames_of config slirp.sent (told_of_files config t)) is.tells)
                ∙ sym (answers_as config a.guests.settings slirp.sent (λ k. told_of_files k told) (told_as config told));
            again = calls.again ∙ a.again;
            files = is.transfers ∙ sym (ap (λ (f : Files). f.transfers) files);
          });
        };
        guests = record {
          settings = s.guests.settings;
          known = s.guests.known;
          fragments = record {
            held = s.guests.fragments.held;
            is_held = s.guests.fragments.is_held;
            wait = s.guests.fragments.wait;
          };
        };
        relayed = record { list = s.list; questions = s.questions; asks = asks_nothing config slirp (errand_left config (made ++ past)) calls.may.settled; heard = calls.may.unheard };
        services = record { leases = s.leases; quest = ap (λ (f : Files). f.quest) files ∙ is.settled };
        forwards = s.forwards;
        flows = s.flows;
        sockets = s.sockets;
        clock = record { moment = s.clock.moment; counted = s.clock.counted };
        stands = Turns s.turn;
        agenda = s.agenda;
        open_yet = calls.may.open_yet;
      }
