-- How a run begins, and fragments that are dropped.
use Rattle.std.proofs.Common.{◌≡◌, ℕ, ◌+◌, ◌^◌, ◌≤◌, ◌==◌, min, max, nat_le, ◌||◌, Bool, true, false, zero, suc, List, [], ◌∷◌, ◌++◌, length, replicate, slice_get, Some, None, inl, inr}
use Rattle.std.specs.Option.{option_or}
use Rattle.std.proofs.Common.{refl, sym, ◌∙◌, ap, subst, arith, if◌then◌else◌}
use Rattle.std.proofs.lemmas.Bool.Decides.{nat_tests}
use Rattle.std.proofs.lemmas.List.{length-replicate}
use Rattle.net_octets.specs.declared.Endpoint.{Endpoint}
use Rattle.world_face.specs.Journal.{Entry, Allowed, CallNow, Now, call_of}
use Rattle.world_face.specs.Frames.{Ending, MayFrame, is_blocked, partial, tail}
use Rattle.world_face.specs.declared.Made.{Made}
use Rattle.world_face.specs.declared.Made.TheVariants.{Done, Failed}
use Rattle.slirp_settings.specs.Addresses.{Config, forward_on}
use Rattle.spec_run.proofs.Given.{led_by_settings}
use Rattle.slirp_settings.specs.declared.Forward.{Forward}
use Rattle.slirp_settings.specs.declared.Proto.{Proto}
use Rattle.slirp_settings.specs.declared.Proto.TheVariants.{Tcp, Udp}
use Rattle.rules_forward.specs.Adding.{opening_of as port_opening}
use Rattle.rules_forward.specs.Opened.{Opened}
use Rattle.rules_udp.specs.Associations.{numbers}
use Rattle.rules_dns.specs.Questions.{numbers as question_numbers}
use Rattle.ipv4_head.specs.Sets.{PartSet, young}
use Rattle.ipv4_reasm.specs.Areas.{Gathered}
use Rattle.spec_trace.specs.Shape.{By, Opening, Over, Refused, Started, clocked, due_in, is_over, opened, opening_of as opening_call, phase}
use Rattle.spec_trace.specs.Moments.{moment, waits}
use Rattle.spec_trace.specs.Happenings.{happens}
use Rattle.spec_trace.specs.Sockets.{is_among, kind_of, next_number, open_sockets, with_made}
use Rattle.spec_flows.specs.Book.{book}
use Rattle.spec_flows.specs.Doings.{Nothing, doing}
use Rattle.spec_flows.specs.SegmentVerdicts.{due_for_flows}
use Rattle.spec_run.specs.Agenda.{agenda}
use Rattle.spec_run.specs.Answers.{identification, left, serving}
use Rattle.rules_tftp.specs.Transfers.{Files}
use Rattle.spec_run.specs.Asking.{step}
use Rattle.spec_run.specs.Errands.{errand_left}
use Rattle.spec_run.specs.Sending.{requests}
use Rattle.spec_run.specs.Names.{answered, questions, with_opened as name_opened}
use Rattle.spec_run.specs.Relayed.{associations, with_opened}
use Rattle.spec_run.specs.Datagrams.{NeedsNothing, due_for}
use Rattle.spec_run.specs.Laws.{May, due, due_for_services}
use Rattle.spec_run.proofs.Bools.{among_last, same}
use Rattle.spec_run.proofs.Deeds.{asks, listens, opens as opens_socket}
use Rattle.stream_netdev.specs.State.{LinkState, under_way}
use Rattle.slirp_core.specs.Forwards.{AreInForce, given_kind, with_numbers}
use Rattle.rules_forward.specs.Opened.{forward_sockets}
use Rattle.slirp_core.specs.Fragments.{IsHeld}
use Rattle.slirp_core.specs.Holds.{Standing, after, Begins, Holders, Closing, asked_by, carriers, holders_of, holders_with, Ended, Flowing, Holds, IsOf, OfFlows, Opens, IsThrough, OverFor, as_given}
use Rattle.slirp_core.specs.Holds.{AllWaited, Stands, Turns, flowing, is_ours}
use Rattle.slirp_core.specs.State.{SlirpState}
use Rattle.slirp_core.proofs.Guests.{guests_forget, guests_stay}
use Rattle.rules_dhcp.specs.declared.Lease.TheVariants.{Free as LeaseFree}
use Rattle.slirp_core.proofs.Parts.{errand_for, two_in}
use Rattle.slirp_core.proofs.Owing.{owed_as, owed_stays, owed_told}
use Rattle.slirp_core.proofs.Services.{none_due_for_services, services_as, services_stay}
use Rattle.slirp_core.proofs.Waitings.{fragments_dropped}
use Rattle.flow_table.specs.Slots.{all_free}
use Rattle.flow_table.specs.declared.Slot.TheVariants.{Free}
use Rattle.sim_flows.specs.FlowsHold.{FlowsState}
use Rattle.sim_flows.proofs.Beginning.{seats_begin}
use Rattle.flow_splice.specs.Splice.{Splice}
use Rattle.sim_flows.specs.Core.{CoreHolds, Following, number_of}
use Rattle.sim_flows.proofs.Options.{true_false}
use Rattle.tcp_flows.specs.Kept.{IsFor, Kept}
use Rattle.tcp_flows.specs.Reading.{NoneInSlots}
use Rattle.slirp_core.proofs.Flows.{flows_ask_nothing, flows_stay, flows_stay_open, flows_told}
use Rattle.slirp_core.proofs.Given.{given_last, named_first, none_in_force, opening_made, opening_next, opening_open, opening_waits, stays_in_force}
use Rattle.slirp_core.proofs.Open.{are_open}
use Rattle.slirp_core.proofs.Openings.{Quiet, errand_then, kinds_opened, list_then, named_then, opens_quietly, phase_then}

-- ---- fragments are dropped

-- where the turn is stays
stands_so : (config : Config) (slirp : SlirpState) (parts : List Gathered) (kept : Kept) (link : LinkState) (past : List Entry) → Stands config NeedsNothing slirp kept link past →
    Stands config NeedsNothing (record slirp { fragments = parts }) kept link past
stands_so config slirp parts kept link past (Turns turn) = Turns turn
stands_so config slirp parts kept link past (Begins u free unrested) =
    Begins (record {
      started = u.started;
      unwaited = u.unwaited;
      unreported = u.unreported;
      unasked = u.unasked;
      alone = u.alone;
      unnamed = u.unnamed;
      nothing = u.nothing;
      unserved = u.unserved;
      empty = u.empty;
    }) free unrested

pub forgets : (config : Config) (at : Standing) (slirp new : SlirpState) (f : Flowing) (link : LinkState) (past : List Entry) → new ≡ record slirp { fragments = new.fragments }
    → ((held : List PartSet) → IsHeld slirp.fragments held → IsHeld new.fragments (young slirp.moment held)) → Holds config at slirp f link past → Holds config at new f link past
forgets config at slirp new f link past same drops holds =
    subst (λ (s : SlirpState). Holds config at s f link past) (sym same) (record {
      lawful = holds.lawful;
      allowed = holds.allowed;
      keeps = holds.keeps;
      answers = record { sent = holds.answers.sent; owed = owed_as config f.aged slirp (record slirp { fragments = new.fragments }) past refl refl holds.answers.owed };
      guests = guests_forget config slirp (record slirp { fragments = new.fragments }) past refl refl
          (fragments_dropped config slirp (record slirp { fragments = new.fragments }) past (sym holds.clock.moment) holds.guests.fragments
          (drops holds.guests.fragments.held holds.guests.fragments.is_held)) holds.guests;
      relayed = record { list = holds.relayed.list; questions = holds.relayed.questions; asks = holds.relayed.asks; heard = holds.relayed.heard };
      services = services_as config slirp (record slirp { fragments = new.fragments }) past refl holds.services;
      forwards = holds.forwards;
      flows = holds.flows;
      sockets = holds.sockets;
      clock = record { moment = holds.clock.moment; counted = holds.clock.counted };
      stands = stands_so config slirp new.fragments f.kept link past holds.stands;
      agenda = holds.agenda;
      open_yet = holds.open_yet;
    })

-- ---- before the first turn

-- no slot has a flow, and none was opened
pub record IsUnused (config : Config) (kept : Kept) : Type 0 where
  pub flows : kept.flows ≡ record { table = all_free config.flows; slots = replicate config.flows None; opened = 0 }
  pub settings : IsFor config kept
  pub unit : 28 ≤ config.mtu

-- a core that has served nothing, and its link
pub record IsUnbegun (config : Config) (slirp : SlirpState) (link : LinkState) : Type 0 where
  pub forwards : slirp.forwards ≡ []
  pub settings : slirp.config ≡ as_given config
  pub flows : IsUnused config slirp.flows
  pub known : slirp.known ≡ []
  pub sent : slirp.sent ≡ 0
  pub pending : slirp.pending ≡ []
  pub moment : slirp.moment ≡ 0
  pub number : slirp.number ≡ 0
  pub associations : slirp.associations ≡ []
  pub questions : slirp.questions ≡ []
  pub fragments : slirp.fragments ≡ []
  pub leases : slirp.leases ≡ replicate 16 LeaseFree
  pub transfers : slirp.transfers ≡ []
  pub input : under_way link ≡ []
  pub output : link.tail ≡ []
  pub free : link.blocked ≡ false

none_there : (n k : ℕ) (p : Splice) → slice_get (replicate n None) k ≡ Some (Some p) → ⊥
none_there zero k p is = cc
none_there (suc n) zero p is = cc
none_there (suc n) (suc k) p is = none_there n k p is

all_is_free : (config : Config) (kept : Kept) → IsUnused config kept → NoneInSlots kept.flows.slots
all_is_free config kept unused k p is = none_there config.flows k p (sym (ap (λ (s : FlowsState Splice). slice_get s.slots k) unused.flows) ∙ is)

nothing_holds : (config : Config) (now : ℕ) → CoreHolds config now false None (record { table = all_free config.flows; slots = replicate config.flows None; opened = 0 }) []
nothing_holds config now = record {
  seats = seats_begin number_of (Following config now) config.flows;
  slots = length-replicate config.flows Free;
  opened = refl;
  asked = refl;
  learnt = λ k p f m at found is_mac. absurd (none_there config.flows k p at);
}

unused_holds : (config : Config) (kept : Kept) (now : ℕ) → IsUnused config kept → OfFlows config (flowing false kept) now []
unused_holds config kept now unused = record {
  holds = subst (λ s. CoreHolds config now false None s []) (sym unused.flows) (nothing_holds config now);
  asked = record { asks = λ n. 0; few = λ n. omega arith; began = λ k p at. absurd (all_is_free config kept unused k p at); own = λ k p at. omega arith; counted = λ guest. omega arith };
  settings = unused.settings;
  unit = unused.unit;
}

-- nothing was done yet
pub begun : (config : Config) (slirp : SlirpState) (link : LinkState) → IsUnbegun config slirp link → Opens config 0 slirp link []
begun config slirp link new = record {
  lawful = tt;
  allowed = tt;
  keeps = record { framed = tt; partly = sym new.input; rest = sym new.output; blocked = sym new.free };
  answers = record { sent = sym new.sent; owed = inl (record { left = sym new.pending; again = refl; files = new.transfers }) };
  guests = record {
    settings = new.settings;
    known = sym new.known;
    fragments = record { held = []; is_held = subst (λ (areas : List Gathered). IsHeld areas []) (sym new.fragments) (record { stand = tt; carry = tt }); wait = refl };
  };
  relayed = record { list = sym new.associations; questions = sym new.questions; asks = refl; heard = refl };
  services = record { leases = sym new.leases; quest = refl };
  done = [];
  left = config.forwards;
  all = refl;
  many = refl;
  forwards = new.forwards;
  given = subst (λ l. AreInForce config l []) (sym new.forwards) (none_in_force config);
  opening = refl;
  are_open = sym (ap forward_sockets new.forwards);
  flows = unused_holds config slirp.flows slirp.moment new.flows;
  sockets = record { number = sym new.number; kinds = λ n among. cc };
  clock = record { moment = sym new.moment; counted = refl };
  number = new.number;
  unreported = refl;
  none = all_is_free config slirp.flows new.flows;
  unrested = refl;
  alone = new.associations;
  unnamed = new.questions;
  nothing = new.pending;
  unserved = new.transfers;
  empty = new.output;
  open_yet = refl;
}

-- ---- a port of the host is opened

numbers_more : (n : ℕ) (fs : List Forward) (f : Forward) → with_numbers n (fs ++ f ∷ []) ≡ with_numbers n fs ++ (f, n + length fs) ∷ []
numbers_more n [] f = ap (λ m. (f, m) ∷ []) (omega arith)
numbers_more n (x ∷ fs) f = ap (λ l. (x, n) ∷ l) (numbers_more (n + 1) fs f ∙ ap (λ m. with_numbers (n + 1) fs ++ (f, m) ∷ []) (omega arith))

pub numbers_last : (fs : List Forward) (f : Forward) → with_numbers 0 fs ++ (f, length fs) ∷ [] ≡ with_numbers 0 (fs ++ f ∷ [])
numbers_last fs f = let same_number : length fs ≡ 0 + length fs = omega arith in ap (λ m. with_numbers 0 fs ++ (f, m) ∷ []) same_number ∙ sym (numbers_more 0 fs f)

sockets_more : (list : List Opened) (f : Forward) (n : ℕ) → forward_sockets (list ++ (f, n) ∷ []) ≡ forward_sockets list ++ n ∷ []
sockets_more [] f n = refl
sockets_more (x ∷ list) f n = ap (λ l. x.1 ∷ l) (sockets_more list f n)

one_of : (xs : List Forward) (x : Forward) (ys : List Forward) → xs ++ x ∷ ys ≡ (xs ++ x ∷ []) ++ ys
one_of [] x ys = refl
one_of (y ∷ xs) x ys = ap (λ l. y ∷ l) (one_of xs x ys)

length_more : (xs : List Forward) (x : Forward) → length (xs ++ x ∷ []) ≡ length xs + 1
length_more [] x = refl
length_more (y ∷ xs) x = let more = length_more xs x in omega (arith, more)

-- the next of the settings is the first that is left
pub next_left : (done left all : List Forward) (f : Forward) → all ≡ done ++ left → slice_get all (length done) ≡ Some f → (rest : List Forward) × (left ≡ f ∷ rest)
next_left done left all f is at = behind done left f (sym (ap (λ l. slice_get l (length done)) is) ∙ at)
  where
    behind : (done left : List Forward) (f : Forward) → slice_get (done ++ left) (length done) ≡ Some f → (rest : List Forward) × (left ≡ f ∷ rest)
    behind [] [] f at = absurd cc
    behind [] (x ∷ left) f at = (left, ap (λ y. y ∷ left) (the_same x at))
      where
        the_same : (x : Forward) → Some x ≡ Some f → x ≡ f
        the_same x is = cc
    behind (y ∷ done) left f at = behind done left f at

module _ (config : Config) (slirp : SlirpState) (link : LinkState) (past : List Entry) (opens : Opens config slirp.number slirp link past) (f : Forward) (rest : List Forward)
    (next : opens.left ≡ f ∷ rest) where
  open_due : due config past ≡ Some (opening_call f.proto slirp.number f)
  open_due =
      ap (λ p. option_or (due_in p past) (option_or (due_for config (step config past) (next_number past))
      (option_or (due_for_services config past) (due_for_flows config (book config past) (next_number past)))))
      (opens.opening ∙ ap (Opening slirp.number) next)
      ∙ ap (λ n. Some (opening_call f.proto n f)) opens.sockets.number

  may_open_it : (answer : Made) → May config past (call_of (port_opening f.proto slirp.number f.host answer))
  may_open_it answer = by f.proto open_due
    where
      drawn : (slirp.number == next_number past) ≡ true
      drawn = ap (λ n. slirp.number == n) opens.sockets.number ∙ same slirp.number

      by : (p : Proto) → due config past ≡ Some (opening_call p slirp.number f) → May config past (call_of (port_opening p slirp.number f.host answer))
      by Tcp is = listens config past slirp.number f.host is drawn (flows_ask_nothing config (flowing false slirp.flows) slirp.moment past opens.flows) opens.open_yet
      by Udp is = opens_socket config past slirp.number f.host is drawn (flows_ask_nothing config (flowing false slirp.flows) slirp.moment past opens.flows) opens.open_yet

  nothing_left : errand_left config past ≡ None
  nothing_left = errand_for config NeedsNothing None slirp past opens.relayed

  abbrev opened_port : Made → Entry
  opened_port answer = port_opening f.proto slirp.number f.host answer

  -- no datagram is to go out, so no one's socket is opened
  left_then : (p : Proto) → left config (port_opening p slirp.number f.host Done ∷ past) ≡ left config past
  left_then Tcp = refl
  left_then Udp = refl

  -- its number is the next one, and that of its place in the settings
  drawn : (slirp.number == next_number past) ≡ true
  drawn = ap (λ n. slirp.number == n) opens.sockets.number ∙ same slirp.number

  own_place : forward_on config slirp.number ≡ Some f
  own_place = led_by_settings config slirp.number f (ap (slice_get config.forwards) opens.many ∙ ap (λ l. slice_get l (length opens.done)) (opens.all ∙ ap (λ l. opens.done ++ l) next)
      ∙ behind_all opens.done)
    where
      behind_all : (done : List Forward) → slice_get (done ++ f ∷ rest) (length done) ≡ Some f
      behind_all [] = refl
      behind_all (x ∷ done) = behind_all done

  -- it is open
  module _ (fine : Allowed (opened_port Done)) where
    abbrev pub with_one : SlirpState
    with_one = record slirp { number = slirp.number + 1; forwards = slirp.forwards ++ (f, slirp.number) ∷ [] }

    abbrev q : Quiet config (opened_port Done) past
    q = opens_quietly config f.proto slirp.number f.host Done past

    pub more_open : Opens config (slirp.number + 1) with_one link (opened_port Done ∷ past)
    more_open = record {
      lawful = (may_open_it Done, opens.lawful);
      allowed = (fine, opens.allowed);
      keeps = record { framed = (q.framed, opens.keeps.framed); partly = q.partly ∙ opens.keeps.partly; rest = q.rest ∙ opens.keeps.rest; blocked = q.blocked ∙ opens.keeps.blocked };
      answers = record {
        sent = q.sent ∙ opens.answers.sent;
        owed = owed_stays config false slirp with_one (opened_port Done) past q.files q.again q.moment refl
            (left_then f.proto) q.sent refl opens.answers.owed;
      };
      guests = guests_stay config slirp with_one (opened_port Done) past q.came refl opens.guests;
      relayed = record {
        list = list_then config slirp.number f.host past nothing_left f.proto Done ∙ opens.relayed.list;
        questions = named_then config slirp.number f.host past nothing_left f.proto Done ∙ opens.relayed.questions;
        asks = ap (asked_by config with_one) (errand_then config slirp.number f.host past nothing_left f.proto Done);
        heard = q.unheard;
      };
      services = services_stay config slirp with_one (opened_port Done) past q.came q.files refl opens.services;
      done = opens.done ++ f ∷ [];
      left = rest;
      all = opens.all ∙ ap (λ l. opens.done ++ l) next ∙ one_of opens.done f rest;
      many = ap (λ n. n + 1) opens.many ∙ sym (length_more opens.done f);
      given = given_last config slirp.forwards past opens.lawful opens.given f f.host (named_first past f.host opens.clock.counted) slirp.number drawn own_place;
      forwards = ap (λ l. l ++ (f, slirp.number) ∷ []) opens.forwards ∙ ap (λ n. with_numbers 0 opens.done ++ (f, n) ∷ []) opens.many ∙ numbers_last opens.done f;
      opening = phase_then config f.proto slirp.number f.host Done past ∙ ap (λ p. opened Done p) (opens.opening ∙ ap (Opening slirp.number) next);
      are_open = opening_made f.proto slirp.number f.host Done past ∙ ap (λ l. l ++ slirp.number ∷ []) opens.are_open ∙ sym (sockets_more slirp.forwards f slirp.number);
      flows = flows_stay config (flowing false slirp.flows) slirp.moment (opened_port Done) past q.silent q.unasked
          (let up = opening_next f.proto slirp.number f.host Done past in omega (arith, up)) q.moment opens.flows;
      sockets = record {
        number = opening_next f.proto slirp.number f.host Done past ∙ ap (λ n. n + 1) opens.sockets.number;
        kinds = kinds_opened f.proto slirp.number f.host Done past (named_first past f.host opens.clock.counted) opens.sockets.kinds;
      };
      clock = record { moment = q.moment ∙ opens.clock.moment; counted = opening_waits f.proto slirp.number f.host Done past ∙ opens.clock.counted };
      number = refl;
      unreported = q.unreported ∙ opens.unreported;
      none = opens.none;
      unrested = q.unrested ∙ opens.unrested;
      alone = opens.alone;
      unnamed = opens.unnamed;
      nothing = opens.nothing;
      unserved = opens.unserved;
      empty = opens.empty;
      open_yet = opening_open config f.proto slirp.number f.host Done past ∙ opens.open_yet;
    }

  -- the host refused it
  pub refused : Allowed (opened_port Failed) → Closing config (Over (Refused slirp.number)) (forward_sockets slirp.forwards) (holders_of slirp) (opened_port Failed ∷ past)
  refused fine = record {
    lawful = (may_open_it Failed, opens.lawful);
    ended = ap (λ p. is_over p || nat_le config.turns (waits (opened_port Failed ∷ past))) phase_is;
    is = sym phase_is;
    through = OverFor (Refused slirp.number) phase_is;
    errand = errand_then config slirp.number f.host past nothing_left f.proto Failed;
    served = none_due_for_services config (opened_port Failed ∷ past) q.unheard (ap (λ (k : Files). k.quest) q.files ∙ opens.services.quest);
    idle = (flows_stay config (flowing false slirp.flows) slirp.moment (opened_port Failed) past q.silent q.unasked
        (let up = opening_next f.proto slirp.number f.host Failed past in omega (arith, up)) q.moment opens.flows).holds.asked;
    stay = flows_stay_open config (flowing false slirp.flows) slirp.moment (opened_port Failed ∷ past) (flows_stay config (flowing false slirp.flows) slirp.moment
        (opened_port Failed) past q.silent q.unasked (let up = opening_next f.proto slirp.number f.host Failed past in omega (arith, up)) q.moment opens.flows);
    sockets = record {
      each = λ n among. inl (sym (ap (is_among n) (are_same n)) ∙ among);
      forward = λ n among. ap (is_among n) (are_same n) ∙ among;
      carry = λ n among. absurd (unlisted n among);
      flow = λ k p at. absurd (opens.none k p at.here);
      apart = λ k p at. absurd (opens.none k p at.here);
      rising = (next_number past, opens.given.rising);
      others = λ n among of. not_of n of;
    };
    two = λ n among. absurd (true_false (sym among ∙ ap (λ l. is_among n (numbers l)) opens.alone));
  }
    where
      q : Quiet config (opened_port Failed) past
      q = opens_quietly config f.proto slirp.number f.host Failed past

      phase_is : phase config (opened_port Failed ∷ past) ≡ Over (Refused slirp.number)
      phase_is = phase_then config f.proto slirp.number f.host Failed past ∙ ap (λ p. opened Failed p) (opens.opening ∙ ap (Opening slirp.number) next)

      are_same : (n : ℕ) → open_sockets (opened_port Failed ∷ past) ≡ forward_sockets slirp.forwards
      are_same n = opening_made f.proto slirp.number f.host Failed past ∙ opens.are_open

      none_carried : carriers (holders_of slirp) ≡ []
      none_carried = λ i. numbers (opens.alone i) ++ question_numbers (opens.unnamed i)

      unlisted : (n : ℕ) → is_among n (carriers (holders_of slirp)) ≡ true → ⊥
      unlisted n among = true_false (sym among ∙ ap (is_among n) none_carried)

      not_of : (m : ℕ) → IsOf (carriers (holders_of slirp)) slirp.flows.flows.slots m → ⊥
      not_of m (inl among) = unlisted m among
      not_of m (inr (k, p, at, number, u)) = opens.none k p at.here

-- ---- all are open, and the clock was asked

pub started : (config : Config) (slirp : SlirpState) (link : LinkState) (told : ℕ) (past : List Entry) → Allowed (Now told) → Opens config (length config.forwards) slirp link past
    → Holds config (after 0) (record slirp { moment = max (min told (2 ^ 62)) slirp.moment }) (flowing false slirp.flows) link (Now told ∷ past)
started config slirp link told past fine opens = record {
  lawful = (asks config past asks_due (flows_ask_nothing config (flowing false slirp.flows) slirp.moment past opens.flows) opens.open_yet, opens.lawful);
  allowed = (fine, opens.allowed);
  keeps = record { framed = (tt, opens.keeps.framed); partly = opens.keeps.partly; rest = opens.keeps.rest; blocked = opens.keeps.blocked };
  answers = record {
    sent = opens.answers.sent;
    owed = owed_told config slirp (record slirp { moment = max (min told (2 ^ 62)) slirp.moment }) past
        (Now told ∷ past) refl refl refl refl refl refl opens.answers.owed;
  };
  guests = guests_stay config slirp (record slirp { moment = max (min told (2 ^ 62)) slirp.moment }) (Now told) past refl refl opens.guests;
  relayed = record { list = opens.relayed.list; questions = opens.relayed.questions; asks = opens.relayed.asks; heard = refl };
  services = services_stay config slirp (record slirp { moment = max (min told (2 ^ 62)) slirp.moment }) (Now told) past refl refl refl opens.services;
  forwards = stays_in_force config slirp.forwards past opens.lawful opens.given (Now told)
      (asks config past asks_due (flows_ask_nothing config (flowing false slirp.flows) slirp.moment past opens.flows) opens.open_yet) tt;
  flows = flows_told config slirp.flows slirp.moment (max (min told (2 ^ 62)) slirp.moment) told past (omega arith) opens.flows;
  sockets = record { number = opens.sockets.number; kinds = opens.sockets.kinds };
  clock = record { moment = ap (max (min told (2 ^ 62))) opens.clock.moment; counted = opens.clock.counted };
  stands = Begins (record {
    started = phase_is;
    unwaited = opens.clock.counted;
    unreported = opens.unreported;
    unasked = refl;
    alone = opens.alone;
    unnamed = opens.unnamed;
    nothing = opens.nothing;
    unserved = opens.unserved;
    empty = opens.empty;
  }) opens.none opens.unrested;
  agenda = ([], opens.unreported);
  open_yet = opens.open_yet;
}
  where
    none_left : (done left all : List Forward) → all ≡ done ++ left → length all ≡ length done → left ≡ []
    none_left [] [] all is many = refl
    none_left [] (x ∷ left) all is many = absurd (let more : length all ≡ length (x ∷ left) = ap (λ l. length l) is in omega (arith, many, more))
    none_left (y ∷ done) left [] is many = absurd cc
    none_left (y ∷ done) left (z ∷ all) is many = none_left done left all (tails is) (omega (arith, many))
      where
        tails : z ∷ all ≡ y ∷ (done ++ left) → all ≡ done ++ left
        tails is = cc

    nothing_left : opens.left ≡ []
    nothing_left = none_left opens.done opens.left config.forwards opens.all opens.many

    opening : phase config past ≡ Opening (length config.forwards) []
    opening = opens.opening ∙ ap (Opening (length config.forwards)) nothing_left

    phase_is : phase config (Now told ∷ past) ≡ Started
    phase_is = ap clocked opening

    asks_due : due config past ≡ Some CallNow
    asks_due = ap (λ p. option_or (due_in p past) (option_or (due_for config (step config past) (next_number past))
        (option_or (due_for_services config past) (due_for_flows config (book config past) (next_number past))))) opening

-- ---- the end of the turns

-- a run that an entry ended
pub ran : (config : Config) (count : ℕ) (why : Ending) (forwards : List Opened) (o : Holders) (made : List Entry) → Ended config count why forwards o made → Closing config
    (phase config made) (forward_sockets forwards) o made
ran config count why forwards o made ended = record {
  lawful = ended.lawful;
  ended = ap (λ p. is_over p || nat_le config.turns (waits made)) ended.over;
  is = refl;
  through = OverFor (By why) ended.over;
  errand = ended.errand;
  served = ended.served;
  idle = ended.idle;
  stay = ended.stay;
  sockets = ended.sockets;
  two = ended.two;
}

either : (b : Bool) → (b || true) ≡ true
either true = refl
either false = refl

-- after as many waits as there may be
pub spent : (config : Config) (count : ℕ) (slirp : SlirpState) (f : Flowing) (link : LinkState) (made : List Entry) → 1 ≤ config.turns → config.turns ≤ count → Holds config
    (after count) slirp f link made
    → Closing config (phase config made) (forward_sockets slirp.forwards) (holders_with slirp f.kept) made
spent config count slirp f link made some all holds = record {
  lawful = holds.lawful;
  ended = ap (λ b. is_over (phase config made) || b) none_left ∙ either (is_over (phase config made));
  is = refl;
  through = through holds.stands;
  errand = errand_for config NeedsNothing None slirp made holds.relayed;
  served = none_due_for_services config made holds.relayed.heard holds.services.quest;
  idle = holds.flows.holds.asked;
  stay = flows_stay_open config f slirp.moment made holds.flows;
  sockets = are_open config (after count) NeedsNothing None slirp f link made holds;
  two = two_in config slirp made holds.lawful holds.relayed.list holds.relayed.questions;
}
  where
    none_left : nat_le config.turns (waits made) ≡ true
    none_left = let counted : waits made ≡ count = holds.clock.counted in grind (arith, nat_tests, counted, all)

    through : Stands config NeedsNothing slirp f.kept link made → IsThrough config made
    through (Turns turn) = AllWaited turn.working
    through (Begins unbegun free unrested) = let none : waits made ≡ 0 = unbegun.unwaited in let counted : waits made ≡ count = holds.clock.counted in absurd (omega (arith, none, counted, some, all))
