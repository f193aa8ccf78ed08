-- What the core has, part by part, after a call on a socket that isn't a flow's.
use Rattle.std.proofs.lemmas.Bool.Decides.{nat_tests}
use Rattle.spec_run.proofs.Bools.{second_of}
use Rattle.std.proofs.Common.{◌<◌, ◌≡◌, ℕ, ◌&&◌, ◌||◌, Bool, true, false, List, [], ◌∷◌, Option, Some, None, refl, sym, ◌∙◌, ap, subst, arith, nat_le, ◌++◌, length, if◌then◌else◌}
use Rattle.std.specs.Option.{option_or}
use Rattle.net_octets.specs.declared.Endpoint.{Endpoint}
use Rattle.poll_list.specs.declared.Want.{Want}
use Rattle.world_face.specs.Journal.{Entry, Call, Allowed, call_of, Close, UdpOpen, UdpSend, UdpRecv}
use Rattle.world_face.specs.declared.Made.TheVariants.{Done, Failed}
use Rattle.slirp_settings.specs.Addresses.{Config}
use Rattle.rules_udp.specs.Associations.{numbers, most_associations, socket_of}
use Rattle.rules_udp.specs.declared.Association.{Association}
use Rattle.rules_dns.specs.Questions.{ident_in, most_questions, numbers as question_numbers, socket_of as question_socket}
use Rattle.rules_dns.specs.declared.Question.{Question}
use Rattle.rules_forward.specs.Opened.{socket_for as port_for}
use Rattle.spec_flows.specs.Book.{book}
use Rattle.spec_flows.specs.SegmentVerdicts.{due_for_flows}
use Rattle.spec_trace.specs.Happenings.{happens}
use Rattle.spec_trace.specs.Shape.{Phase, Working, phase, due_in, opened}
use Rattle.spec_trace.specs.Moments.{waits}
use Rattle.spec_trace.specs.Sockets.{Kind, Association as OfAssociation, DnsSocket, Forward as OfForward, Listener as OfListener, Flow as OfFlow, is_among, is_association, kind_of, next_number, open_sockets}
use Rattle.spec_run.specs.Agenda.{agenda, all_wanted, behind, from, is_to_read}
use Rattle.spec_run.specs.Asking.{step}
use Rattle.spec_run.specs.Errands.{errand_left}
use Rattle.spec_run.specs.Datagrams.{Step, due_for, Errand, NeedsNothing, NeedsRoom, NeedsSocket, asks_a_name}
use Rattle.spec_run.specs.Names.{questions, step_to_names, with_socket as with_question}
use Rattle.spec_run.specs.Ports.{forward_for}
use Rattle.spec_run.specs.Relayed.{associations, step_for, with_forward, with_socket, without_socket}
use Rattle.spec_run.specs.Laws.{Lawful, May, carries, due, due_for_services, is_closing, begins_closing}
use Rattle.spec_run.proofs.Joining.{joined_step}
use Rattle.stream_netdev.specs.Keeps.{Keeps}
use Rattle.stream_netdev.specs.State.{LinkState}
use Rattle.slirp_core.specs.Holds.{Standing, InTurn, AreTwo, asked_by, carriers, holders_of, IsLast, OfAnswers, OfClock, OfRelay, Unbegun, Flowing, HoldsOn, OfFlows, OfSockets, Stands, Turns, Begins}
use Rattle.slirp_core.specs.Forwards.{AreInForce, is_given}
use Rattle.slirp_core.specs.State.{SlirpState}
use Rattle.slirp_core.proofs.Guests.{guests_stay, of_guests}
use Rattle.spec_run.specs.Answers.{serving}
use Rattle.slirp_core.proofs.Services.{services_stay}
use Rattle.slirp_core.proofs.Given.{IsOther, forward_is, stays_in_force}
use Rattle.slirp_core.proofs.Names.{carried as carried_names, two_apart}
use Rattle.tcp_flows.specs.Kept.{Kept}
use Rattle.slirp_core.proofs.Flows.{close_same, flows_same, flows_stay, no_flow}
use Rattle.poll_list.specs.Listing.{reads, same_who}
use Rattle.poll_list.specs.declared.Who.{Who}
use Rattle.world_face.specs.Frames.{MayFrame, partial, tail, is_blocked}
use Rattle.spec_run.proofs.Steps.{errand_in}

-- ---- which call is due

-- by where the run stands; services and flows ask for none
pub due_in_phase : (config : Config) (past : List Entry) (p : Phase) → phase config past ≡ p → due_for_services config past ≡ None → due_for_flows config (book config past) (next_number past) ≡ None
    → due config past ≡ option_or (due_in p past) (due_for config (step config past) (next_number past))
due_in_phase config past p is serves asks =
    ap (λ q. option_or (due_in q past) (option_or (due_for config (step config past) (next_number past))
    (option_or (due_for_services config past) (due_for_flows config (book config past) (next_number past))))) is
    ∙ ap (λ o. option_or (due_in p past) (option_or (due_for config (step config past) (next_number past)) (option_or o (due_for_flows config (book config past) (next_number past))))) serves
    ∙ ap (λ o. option_or (due_in p past) (option_or (due_for config (step config past) (next_number past)) o)) asks
    ∙ ap (option_or (due_in p past)) (unless_none (due_for config (step config past) (next_number past)))
  where
    unless_none : (o : Option Call) → option_or o None ≡ o
    unless_none None = refl
    unless_none (Some call) = refl

pub due_is : (config : Config) (past : List Entry) (s : Step) → phase config past ≡ Working → due_for_services config past ≡ None → due_for_flows config (book config past)
    (next_number past) ≡ None → step config past ≡ s → due config past ≡ due_for config s (next_number past)
due_is config past s working serves asks is = due_in_phase config past Working working serves asks ∙ ap (λ t. due_for config t (next_number past)) is

-- of which datagram
in_room : (b : Bool) (oldest : ℕ) (errand : Errand) → errand_in (if b then NeedsRoom oldest errand else NeedsSocket errand) ≡ Some errand
in_room true oldest errand = refl
in_room false oldest errand = refl

in_fresh : (list : List Association) (errand : Errand) → errand_in (without_socket list errand) ≡ Some errand
in_fresh [] errand = refl
in_fresh (a ∷ list) errand = in_room (nat_le most_associations (length (a ∷ list))) a.number errand

in_socket : (o : Option ℕ) (list : List Association) (errand : Errand) → errand_in (with_socket o list errand) ≡ Some errand
in_socket None list errand = in_fresh list errand
in_socket (Some socket) list errand = refl

in_forward : (o : Option ℕ) (list : List Association) (errand : Errand) → errand_in (with_forward o list errand) ≡ Some errand
in_forward None list errand = in_socket (socket_of errand.datagram.from list) list errand
in_forward (Some socket) list errand = refl

in_names : (o : Option ℕ) (asked : List Question) (errand : Errand) → errand_in (with_question o asked errand) ≡ Some errand
in_names None [] errand = refl
in_names None (q ∷ asked) errand = in_room (nat_le most_questions (length (q ∷ asked))) q.number errand
in_names (Some socket) asked errand = refl

in_step : (config : Config) (asked : List Question) (forward : Endpoint → Option ℕ) (list : List Association) (o : Option Errand) → errand_in (step_for config asked forward list o) ≡ o
in_step config asked forward list None = refl
in_step config asked forward list (Some errand) = by (asks_a_name config errand)
  where
    by : (b : Bool) → errand_in (if b then step_to_names asked errand else with_forward (forward errand.datagram.from) list errand) ≡ Some errand
    by true = in_names (question_socket errand.datagram.from (ident_in errand.datagram.body) asked) asked errand
    by false = in_forward (forward errand.datagram.from) list errand

pub asked_in : (config : Config) (slirp : SlirpState) (errand : Errand) → errand_in (asked_by config slirp (Some errand)) ≡ Some errand
asked_in config slirp errand = in_step config slirp.questions (λ guest. port_for guest slirp.forwards) slirp.associations (Some errand)

pub errand_for : (config : Config) (s : Step) (heard : Option ℕ) (slirp : SlirpState) (past : List Entry) → OfRelay config s heard slirp past → errand_left config past ≡ errand_in s
errand_for config s heard slirp past relayed = sym (in_step config slirp.questions (λ guest. port_for guest slirp.forwards) slirp.associations (errand_left config past)) ∙ ap errand_in relayed.asks

-- nothing is asked for, whatever the lists
pub asks_nothing : (config : Config) (slirp : SlirpState) (o : Option Errand) → o ≡ None → asked_by config slirp o ≡ NeedsNothing
asks_nothing config slirp o is = ap (asked_by config slirp) is

pub or_first : (a b : Bool) → a ≡ true → (a || b) ≡ true
or_first true b is = refl
or_first false b is = cc

pub or_second : (a b : Bool) → b ≡ true → (a || b) ≡ true
or_second true b is = refl
or_second false b is = is

-- the first port of the host that is given to a port of a guest for datagrams is that of the list
pub forward_in : (config : Config) (at : Standing) (step : Step) (heard : Option ℕ) (slirp : SlirpState) (f : Flowing) (link : LinkState) (past : List Entry) →
    HoldsOn config at step heard slirp f link past
    → (guest : Endpoint) → forward_for config guest past ≡ port_for guest slirp.forwards
forward_in config at step heard slirp f link past holds guest =
    forward_is config slirp.forwards past holds.lawful holds.forwards guest

-- what the lists ask for is what the trace says
pub asked_for : (config : Config) (at : Standing) (s : Step) (heard : Option ℕ) (slirp : SlirpState) (f : Flowing) (link : LinkState) (past : List Entry) →
    HoldsOn config at s heard slirp f link past → step config past ≡ s
asked_for config at s heard slirp f link past holds =
    joined_step config past holds.lawful
    ∙ (λ i. step_for config (holds.relayed.questions i) (λ guest. forward_in config at s heard slirp f link past holds guest i) (holds.relayed.list i) (errand_left config past))
    ∙ holds.relayed.asks

-- the sockets that carry datagrams are those of the lists
pub carried : (config : Config) (slirp : SlirpState) (past : List Entry) → Lawful config past → associations config past ≡ slirp.associations →
    questions config past ≡ slirp.questions → (n : ℕ) → carries past n ≡ is_among n (carriers (holders_of slirp))
carried config slirp past lawful list asked n = carried_names config past lawful n ∙ (λ i. is_among n (numbers (list i) ++ question_numbers (asked i)))

pub carried_by : (config : Config) (at : Standing) (s : Step) (heard : Option ℕ) (slirp : SlirpState) (f : Flowing) (link : LinkState) (past : List Entry) →
    HoldsOn config at s heard slirp f link past → (n : ℕ) → carries past n ≡ is_among n (carriers (holders_of slirp))
carried_by config at s heard slirp f link past holds n = carried config slirp past holds.lawful holds.relayed.list holds.relayed.questions n

-- and none is an association's and a question's
pub two_in : (config : Config) (slirp : SlirpState) (past : List Entry) → Lawful config past → associations config past ≡ slirp.associations →
    questions config past ≡ slirp.questions → AreTwo (holders_of slirp)
two_in config slirp past lawful list asked n among = sym (ap (λ l. is_among n (question_numbers l)) asked) ∙ two_apart config past lawful n (ap (λ l. is_among n (numbers l)) list ∙ among)

-- a turn has begun, where that is against what is so before
pub in_turn : {config : Config} {step : Step} {slirp : SlirpState} {kept : Kept} {link : LinkState} {past : List Entry} → Stands config step slirp kept link past →
    (Unbegun config step slirp link past → ⊥) → InTurn config past
in_turn (Turns turn) not_before = turn
in_turn (Begins unbegun free unrested) not_before = absurd (not_before unbegun)

-- ---- parts that an entry leaves

pub keeps_by : (link : LinkState) (e : Entry) (past : List Entry) → MayFrame past (call_of e) → partial (e ∷ past) ≡ partial past → tail (e ∷ past) ≡ tail past → is_blocked
    (e ∷ past) ≡ is_blocked past
    → Keeps link past → Keeps link (e ∷ past)
keeps_by link e past may partly rest blocked keeps = record { framed = (may, keeps.framed); partly = partly ∙ keeps.partly; rest = rest ∙ keeps.rest; blocked = blocked ∙ keeps.blocked }

-- the closing has not begun by an entry that doesn't begin it
pub still_open : (config : Config) (e : Entry) (past : List Entry) → begins_closing config past e ≡ false → is_closing config past ≡ false → is_closing config (e ∷ past) ≡ false
still_open config e past not_begun open_yet = ap (λ (b : Bool). if b then true else is_closing config past) not_begun ∙ open_yet

-- calls on sockets
abbrev pub IsOnSocket : Entry → Type 0
IsOnSocket (Close socket) = Unit {0}
IsOnSocket (UdpOpen socket at answer) = Unit {0}
IsOnSocket (UdpSend socket to octets answer) = Unit {0}
IsOnSocket (UdpRecv socket asked answer octets) = Unit {0}
IsOnSocket _ = ⊥

still_in_turn : (config : Config) (e : Entry) (past : List Entry) → IsOnSocket e → InTurn config past → InTurn config (e ∷ past)
still_in_turn config (Close socket) past on turn = record { working = turn.working; waited = turn.waited }
still_in_turn config (UdpOpen socket at Done) past on turn = record { working = ap (opened Done) turn.working; waited = turn.waited }
still_in_turn config (UdpOpen socket at Failed) past on turn = record { working = ap (opened Failed) turn.working; waited = turn.waited }
still_in_turn config (UdpSend socket to octets answer) past on turn = record { working = turn.working; waited = turn.waited }
still_in_turn config (UdpRecv socket asked answer octets) past on turn = record { working = turn.working; waited = turn.waited }
still_in_turn config _ past on turn = absurd on

link_stays : (link : LinkState) (e : Entry) (past : List Entry) → IsOnSocket e → Keeps link past → Keeps link (e ∷ past)
link_stays link (Close socket) past on keeps = keeps_by link (Close socket) past tt refl refl refl keeps
link_stays link (UdpOpen socket at answer) past on keeps = keeps_by link (UdpOpen socket at answer) past tt refl refl refl keeps
link_stays link (UdpSend socket to octets answer) past on keeps = keeps_by link (UdpSend socket to octets answer) past tt refl refl refl keeps
link_stays link (UdpRecv socket asked answer octets) past on keeps = keeps_by link (UdpRecv socket asked answer octets) past tt refl refl refl keeps
link_stays link _ past on keeps = absurd on

brings_none : (config : Config) (e : Entry) (past : List Entry) → IsOnSocket e → (happens config past e).came ≡ None
brings_none config (Close socket) past on = refl
brings_none config (UdpOpen socket at answer) past on = refl
brings_none config (UdpSend socket to octets answer) past on = refl
brings_none config (UdpRecv socket asked answer octets) past on = refl
brings_none config _ past on = absurd on

resolves_none : (config : Config) (e : Entry) (past : List Entry) → IsOnSocket e → (serving config (e ∷ past)).files ≡ (serving config past).files
resolves_none config (Close socket) past on = refl
resolves_none config (UdpOpen socket at answer) past on = refl
resolves_none config (UdpSend socket to octets answer) past on = refl
resolves_none config (UdpRecv socket asked answer octets) past on = refl
resolves_none config _ past on = absurd on

clock_stays : (at after : Standing) (slirp new : SlirpState) (e : Entry) (past : List Entry) → IsOnSocket e → new.moment ≡ slirp.moment → after.count ≡ at.count →
    OfClock at slirp past → OfClock after new (e ∷ past)
clock_stays at after slirp new (Close socket) past on same count clock = record { moment = clock.moment ∙ sym same; counted = clock.counted ∙ sym count }
clock_stays at after slirp new (UdpOpen socket to answer) past on same count clock = record { moment = clock.moment ∙ sym same; counted = clock.counted ∙ sym count }
clock_stays at after slirp new (UdpSend socket to octets answer) past on same count clock = record { moment = clock.moment ∙ sym same; counted = clock.counted ∙ sym count }
clock_stays at after slirp new (UdpRecv socket asked answer octets) past on same count clock = record { moment = clock.moment ∙ sym same; counted = clock.counted ∙ sym count }
clock_stays at after slirp new _ past on same count clock = absurd on

-- the socket of a close carries a guest's datagrams, and one that is opened has the port that the host chooses
abbrev pub IsOwn : Entry → List Entry → Type 0
IsOwn (Close socket) past = carries past socket ≡ true
IsOwn (UdpOpen socket at answer) past = at.port ≡ 0
IsOwn _ past = Unit {0}

-- so it is none of a port of the host that is given to a guest
no_carrier : (k : Option Kind) → is_association k ≡ true → is_given k ≡ false
no_carrier None is = refl
no_carrier (Some OfAssociation) is = refl
no_carrier (Some DnsSocket) is = refl
no_carrier (Some OfForward) is = cc
no_carrier (Some OfListener) is = cc
no_carrier (Some OfFlow) is = refl

is_other : (e : Entry) (past : List Entry) → IsOnSocket e → IsOwn e past → 0 < waits past → IsOther e past
is_other (Close socket) past on own waited = no_carrier (kind_of socket past) (second_of (is_among socket (open_sockets past)) (is_association (kind_of socket past)) own)
is_other (UdpOpen socket at answer) past on own waited = (grind (arith, nat_tests, waited), own)
is_other (UdpSend socket to octets answer) past on own waited = tt
is_other (UdpRecv socket asked answer octets) past on own waited = tt
is_other _ past on own waited = absurd on

flows_on : (config : Config) (f : Flowing) (now : ℕ) (e : Entry) (past : List Entry) → IsOnSocket e → IsOwn e past → Lawful config past → OfFlows config f now past →
    OfFlows config f now (e ∷ past)
flows_on config f now (Close socket) past on own lawful flows = flows_same config f now (Close socket) past
    (close_same config past socket (no_flow config past socket lawful own)) refl (omega arith) refl flows
flows_on config f now (UdpOpen socket at answer) past on own lawful flows = flows_stay config f now (UdpOpen socket at answer) past refl refl (omega arith) refl flows
flows_on config f now (UdpSend socket to octets answer) past on own lawful flows = flows_stay config f now (UdpSend socket to octets answer) past refl refl (omega arith) refl flows
flows_on config f now (UdpRecv socket asked answer octets) past on own lawful flows = flows_stay config f now (UdpRecv socket asked answer octets) past refl refl (omega arith) refl flows
flows_on config f now _ past on own lawful flows = absurd on

-- what a call on a socket changes: the call was allowed, and what it made of answers, associations, sockets, agenda and closing
pub record Changes (config : Config) (aged : Bool) (after : Standing) (step : Step) (heard : Option ℕ) (new : SlirpState) (e : Entry) (past : List Entry) : Type 0 where
  pub may : May config past (call_of e)
  pub allowed : Allowed e
  pub own : IsOwn e past
  pub answers : OfAnswers config step aged new (e ∷ past)
  pub relayed : OfRelay config step heard new (e ∷ past)
  pub sockets : OfSockets new.number (e ∷ past)
  pub agenda : IsLast (all_wanted after.wants after.left) (agenda (e ∷ past))
  pub open_yet : is_closing config (e ∷ past) ≡ false

-- and the rest stays
pub after_socket : (config : Config) (at after : Standing) (step new_step : Step) (heard new_heard : Option ℕ) (slirp new : SlirpState) (f : Flowing) (link : LinkState) (e : Entry)
    (past : List Entry) → IsOnSocket e
    → of_guests new ≡ of_guests slirp → new.moment ≡ slirp.moment → new.leases ≡ slirp.leases → new.forwards ≡ slirp.forwards → after.count ≡ at.count → InTurn config past
    → HoldsOn config at step heard slirp f link past → Changes config f.aged after new_step new_heard new e past → HoldsOn config after new_step new_heard new f link (e ∷ past)
after_socket config at after step new_step heard new_heard slirp new f link e past on same_guests same_moment same_leases same_forwards same_count turn holds changes = record {
  lawful = (changes.may, holds.lawful);
  allowed = (changes.allowed, holds.allowed);
  keeps = link_stays link e past on holds.keeps;
  answers = changes.answers;
  guests = guests_stay config slirp new e past (brings_none config e past on) same_guests holds.guests;
  relayed = changes.relayed;
  services = services_stay config slirp new e past (brings_none config e past on) (resolves_none config e past on) same_leases holds.services;
  forwards = subst (λ l. AreInForce config l (e ∷ past)) (sym same_forwards)
      (stays_in_force config slirp.forwards past holds.lawful holds.forwards e changes.may (is_other e past on changes.own turn.waited));
  flows = subst (λ m. OfFlows config f m (e ∷ past)) (sym same_moment) (flows_on config f slirp.moment e past on changes.own holds.lawful holds.flows);
  sockets = changes.sockets;
  clock = clock_stays at after slirp new e past on same_moment same_count holds.clock;
  stands = Turns (still_in_turn config e past on turn);
  agenda = changes.agenda;
  open_yet = changes.open_yet;
}

-- ---- items of what a wait reported

pub skipped : (item : Want) (items all : List Want) → IsLast (item ∷ items) all → IsLast items all
skipped item items all (before, is) = (before ++ (item ∷ []), is ∙ moved before)
  where
    moved : (xs : List Want) → xs ++ (item ∷ items) ≡ (xs ++ (item ∷ [])) ++ items
    moved [] = refl
    moved (x ∷ xs) = ap (λ l. x ∷ l) (moved xs)

pub reads_last : (who : Who) (item : Want) (items before : List Want) → is_to_read who item ≡ true → reads who (before ++ (item ∷ items)) ≡ true
reads_last who item items [] is = ap (λ (b : Bool). b || reads who items) is
reads_last who item items (x ∷ before) is = or_second (same_who who x.of && x.read) (reads who (before ++ (item ∷ items))) (reads_last who item items before is)

pub reads_of : (who : Who) (item : Want) (items all : List Want) → is_to_read who item ≡ true → IsLast (item ∷ items) all → reads who all ≡ true
reads_of who item items all is (before, last) = ap (reads who) last ∙ reads_last who item items before is

behind_last : (who : Who) (item : Want) (items before : List Want) → is_to_read who item ≡ true → IsLast items (behind who (before ++ (item ∷ items)))
behind_last who item items [] is = ([], ap (λ (b : Bool). if b then items else behind who items) is)
behind_last who item items (x ∷ before) is = by (is_to_read who x) (behind_last who item items before is)
  where
    by : (b : Bool) → IsLast items (behind who (before ++ (item ∷ items))) → IsLast items (if b then before ++ (item ∷ items) else behind who (before ++ (item ∷ items)))
    by true later = skipped item items (before ++ (item ∷ items)) (before, refl)
    by false later = later

pub behind_of : (who : Who) (item : Want) (items all : List Want) → is_to_read who item ≡ true → IsLast (item ∷ items) all → IsLast items (behind who all)
behind_of who item items all is (before, last) = subst (λ l. IsLast items (behind who l)) (sym last) (behind_last who item items before is)

from_last : (who : Who) (item : Want) (items before : List Want) → is_to_read who item ≡ true → IsLast (item ∷ items) (from who (before ++ (item ∷ items)))
from_last who item items [] is = ([], ap (λ (b : Bool). if b then item ∷ items else from who items) is)
from_last who item items (x ∷ before) is = by (is_to_read who x) (from_last who item items before is)
  where
    by : (b : Bool) → IsLast (item ∷ items) (from who (before ++ (item ∷ items))) → IsLast (item ∷ items) (if b then x ∷ (before ++ (item ∷ items)) else from who (before ++ (item ∷ items)))
    by true later = (x ∷ before, refl)
    by false later = later

pub from_of : (who : Who) (item : Want) (items all : List Want) → is_to_read who item ≡ true → IsLast (item ∷ items) all → IsLast (item ∷ items) (from who all)
from_of who item items all is (before, last) = subst (λ l. IsLast (item ∷ items) (from who l)) (sym last) (from_last who item items before is)
