-- Where a run stands, and which calls are due there.
use Rattle.std.proofs.Common.{◌≡◌, ℕ, ◌<◌, ◌==◌, ◌&&◌, ◌||◌, not, nat_le, Bool, true, false, List, [], ◌∷◌, length, is_some, MatchOption, Option, Some, None, option_map, cond, ◌⊎◌, inl, inr}
use Rattle.std.proofs.Common.{refl, sym, ◌∙◌, ap, subst, arith}
use Rattle.std.specs.Option.{option_or}
use Rattle.world_face.specs.Journal.{Entry, Call, Now, Wait, LinkRead, Listen, UdpOpen, CallClose, CallConnect, CallListen, CallUdpOpen, CallUdpSend, CallUdpRecv, CallFileLen, CallFileRead, call_of}
use Rattle.world_face.specs.Frames.{Ending, ending, partial}
use Rattle.world_face.specs.declared.Made.{Made}
use Rattle.world_face.specs.declared.Made.TheVariants.{Done, Failed}
use Rattle.net_octets.specs.declared.Endpoint.{Endpoint}
use Rattle.slirp_settings.specs.declared.Forward.{Forward}
use Rattle.slirp_settings.specs.declared.Proto.{Proto}
use Rattle.slirp_settings.specs.declared.Proto.TheVariants.{Tcp, Udp as ByUdp}
use Rattle.slirp_settings.specs.Addresses.{Config, forward_on}
use Rattle.slirp_settings.specs.Classes.{same_endpoint}
use Rattle.spec_flows.specs.Book.{book, port_of}
use Rattle.spec_flows.specs.SegmentVerdicts.{connects_to, due_by, due_for_flows}
use Rattle.spec_trace.specs.Happenings.{Arrival, happens}
use Rattle.spec_trace.specs.Moments.{waits}
use Rattle.spec_trace.specs.Shape.{GivesNone, Phase, Opening, Started, Woken, Working, Over, phase, phase_by, phase_after, opened, clocked, unless_over, due_in, opening_of, is_working}
use Rattle.spec_trace.specs.Sockets.{first, next_number, open_sockets}
use Rattle.spec_run.specs.Datagrams.{Errand, Step, NeedsNothing, NeedsRoom, NeedsSocket, NeedsSending, asks_a_name, errand_by_packet, due_for, opened_at}
use Rattle.spec_run.specs.Asking.{is_full, step, step_of, step_on, yields}
use Rattle.spec_run.specs.Ports.{forward_for, given_port, is_port, longest_unused, socket_for}
use Rattle.rules_dns.specs.Questions.{ident_in, most_questions, socket_of}
use Rattle.rules_dns.specs.declared.Question.{Question}
use Rattle.spec_run.specs.Errands.{errand_after, errand_left}
use Rattle.spec_run.specs.Answers.{serving}
use Rattle.spec_run.specs.Names.{answered, questions, step_to_names, with_socket}
use Rattle.rules_tftp.specs.Asking.{call_for}
use Rattle.rules_tftp.specs.Transfers.{Quest, Settled as SeeksNothing, SeeksLength, SeeksOctets}
use Rattle.spec_run.specs.Laws.{May, Lawful, due, due_for_services, is_added}
use Rattle.spec_run.proofs.Bools.{first_of, second_of}
use Rattle.spec_run.proofs.Given.{leads_nowhere}
use Rattle.spec_run.proofs.Longest.{equal_endpoints}
use Rattle.spec_run.proofs.Steps.{OfErrand, of_errand, all_errands, by_call}

-- ---- waits

abbrev pub HasWaited : Phase → ℕ → Type 0
HasWaited (Opening count forwards) n = n ≡ 0
HasWaited Started n = Unit {0}
HasWaited Woken n = 0 < n
HasWaited Working n = 0 < n
HasWaited (Over cause) n = Unit {0}

by_clock : (p : Phase) (n : ℕ) → HasWaited p n → HasWaited (clocked p) n
by_clock (Opening count forwards) n is = tt
by_clock Started n is = tt
by_clock Woken n is = is
by_clock Working n is = is
by_clock (Over cause) n is = tt

by_made : (answer : Made) (p : Phase) (n : ℕ) → HasWaited p n → HasWaited (opened answer p) n
by_made Done (Opening count []) n is = is
by_made Done (Opening count (forward ∷ forwards)) n is = is
by_made Failed (Opening count forwards) n is = tt
by_made Done Started n is = is
by_made Failed Started n is = is
by_made Done Woken n is = is
by_made Failed Woken n is = is
by_made Done Working n is = is
by_made Failed Working n is = is
by_made Done (Over cause) n is = is
by_made Failed (Over cause) n is = is

by_entry : (e : Entry) (p : Phase) (past : List Entry) → HasWaited p (waits past) → HasWaited (phase_by e p) (waits (e ∷ past))
by_entry (Now told) p past is = by_clock p (waits past) is
by_entry (Wait wants timeout answer ready) p past is = omega arith
by_entry (Listen socket at answer) p past is = by_made answer p (waits past) is
by_entry (UdpOpen socket at answer) p past is = by_made answer p (waits past) is
by_entry _ p past is = is

by_end : (p : Phase) (why : Ending) (n : ℕ) → HasWaited (unless_over p why) n
by_end (Opening count forwards) why n = tt
by_end Started why n = tt
by_end Woken why n = tt
by_end Working why n = tt
by_end (Over cause) why n = tt

after : (e : Entry) (o : Option Ending) (p : Phase) (past : List Entry) → HasWaited p (waits past) → HasWaited (phase_after e o p) (waits (e ∷ past))
after e None p past is = by_entry e p past is
after e (Some why) p past is = by_end p why (waits (e ∷ past))

pub has_waited : (config : Config) (past : List Entry) → HasWaited (phase config past) (waits past)
has_waited config [] = refl
has_waited config (e ∷ past) = after e (ending e (partial past)) (phase config past) past (has_waited config past)

pub working_waited : (p : Phase) (n : ℕ) → is_working p ≡ true → HasWaited p n → 0 < n
working_waited Working n working is = is
working_waited (Opening count forwards) n working is = cc
working_waited Started n working is = cc
working_waited Woken n working is = cc
working_waited (Over cause) n working is = cc

-- ---- what asks came after a wait

pub more_waits : (e : Entry) (past : List Entry) → 0 < waits past → 0 < waits (e ∷ past)
more_waits (Wait wants timeout answer ready) past is = omega (arith, is)
more_waits _ past is = is

abbrev pub AsksAfterWaits : ℕ → Option Errand → Type 0
AsksAfterWaits n o = OfErrand (λ (errand : Errand). 0 < n) o

on_arrival : (config : Config) (e : Entry) (past : List Entry) (o : Option Arrival) (before : Option Errand) → ((arrival : Arrival) → o ≡ Some arrival → 0 < waits past) →
    AsksAfterWaits (waits past) before
    → AsksAfterWaits (waits past) (errand_after config e o before)
on_arrival config e past None before waited is = by_call (λ (errand : Errand). 0 < waits past) e before is
on_arrival config e past (Some arrival) before waited is = all_errands (λ (errand : Errand). 0 < waits past) (errand_by_packet config arrival.packet) (λ errand this. waited arrival refl)

-- a frame comes in a turn alone
pub comes_working : (config : Config) (e : Entry) (past : List Entry) → May config past (call_of e) → (arrival : Arrival) → (happens config past e).came ≡ Some arrival → is_working
    (phase config past) ≡ true
comes_working config (LinkRead asked answer octets) past may arrival is = may.place
comes_working config _ past may arrival is = cc

pub asks_after_waits : (config : Config) (past : List Entry) → Lawful config past → AsksAfterWaits (waits past) (errand_left config past)
asks_after_waits config [] lawful = tt
asks_after_waits config (e ∷ past) lawful =
    of_errand (λ (errand : Errand). 0 < waits past) (λ (errand : Errand). 0 < waits (e ∷ past)) (λ errand is. more_waits e past is) (errand_left config (e ∷ past))
    (on_arrival config e past (happens config past e).came (errand_left config past)
    (λ arrival is. working_waited (phase config past) (waits past) (comes_working config e past lawful.0 arrival is) (has_waited config past))
    (asks_after_waits config past lawful.1))

-- ---- no forwards

abbrev pub OpensNone : Phase → Type 0
OpensNone (Opening count forwards) = forwards ≡ []
OpensNone _ = Unit {0}

none_made : (answer : Made) (p : Phase) → OpensNone p → OpensNone (opened answer p)
none_made Done (Opening count []) is = refl
none_made Done (Opening count (forward ∷ forwards)) is = cc
none_made Failed (Opening count forwards) is = tt
none_made Done Started is = is
none_made Failed Started is = is
none_made Done Woken is = is
none_made Failed Woken is = is
none_made Done Working is = is
none_made Failed Working is = is
none_made Done (Over cause) is = is
none_made Failed (Over cause) is = is

none_clocked : (p : Phase) → OpensNone p → OpensNone (clocked p)
none_clocked (Opening count forwards) is = tt
none_clocked Started is = tt
none_clocked Woken is = tt
none_clocked Working is = tt
none_clocked (Over cause) is = tt

none_by : (e : Entry) (p : Phase) → OpensNone p → OpensNone (phase_by e p)
none_by (Now told) p is = none_clocked p is
none_by (Wait wants timeout answer ready) p is = tt
none_by (Listen socket at answer) p is = none_made answer p is
none_by (UdpOpen socket at answer) p is = none_made answer p is
none_by _ p is = is

none_ended : (p : Phase) (why : Ending) → OpensNone (unless_over p why)
none_ended (Opening count forwards) why = tt
none_ended Started why = tt
none_ended Woken why = tt
none_ended Working why = tt
none_ended (Over cause) why = tt

none_after : (e : Entry) (o : Option Ending) (p : Phase) → OpensNone p → OpensNone (phase_after e o p)
none_after e None p is = none_by e p is
none_after e (Some why) p is = none_ended p why

pub opens_none : (config : Config) (past : List Entry) → config.forwards ≡ [] → OpensNone (phase config past)
opens_none config [] none = none
opens_none config (e ∷ past) none = none_after e (ending e (partial past)) (phase config past) (opens_none config past none)

-- ---- which call is due

-- a socket is opened where that is due, or, where nothing is, for a port of the host that is given to a guest
pub record IsGivenNow (config : Config) (past : List Entry) (socket : ℕ) (at : Endpoint) (guest : Option Endpoint) : Type 0 where
  pub nothing : due config past ≡ None
  pub is : is_added config past socket at guest ≡ true

opening_due : (o : Option Call) (b : Bool) (call : Call) → (is_some o || b) ≡ true → MatchOption o (Unit {0}) (λ d. call ≡ d) → (o ≡ Some call) ⊎ ((o ≡ None) × (b ≡ true))
opening_due None b call is may = inr (refl, is)
opening_due (Some d) b call is may = inl (ap Some (sym may))

pub opening_call : (config : Config) (past : List Entry) (socket : ℕ) (at : Endpoint) (guest : Option Endpoint) (call : Call)
    → (is_some (due config past) || is_added config past socket at guest) ≡ true → MatchOption (due config past) (Unit {0}) (λ d. call ≡ d)
    → (due config past ≡ Some call) ⊎ IsGivenNow config past socket at guest
opening_call config past socket at guest call place may = elim (opening_due (due config past) (is_added config past socket at guest) call place may) [
  | inl is ↦ inl is
  | inr given ↦ inr (record { nothing = given.0; is = given.1 })
]

-- its forward, at whose port of the host it is opened
pub record GivenBy (config : Config) (socket : ℕ) (at : Endpoint) (guest : Option Endpoint) : Type 0 where
  pub forward : Forward
  pub on : forward_on config socket ≡ Some forward
  pub leads : is_some guest ≡ true
  pub host : at ≡ forward.host
  pub named : (at.port == 0) ≡ false

not_so : (b : Bool) → not b ≡ true → b ≡ false
not_so true never = cc
not_so false is = refl

pub given_forward : (config : Config) (past : List Entry) (socket : ℕ) (at : Endpoint) (guest : Option Endpoint) → is_added config past socket at guest ≡ true → GivenBy config socket at guest
given_forward config past socket at guest is = by (forward_on config socket) refl is
  where
    by : (o : Option Forward) → forward_on config socket ≡ o
        → (is_working (phase config past) && is_some guest && is_port at (option_map (λ (f : Forward). f.host) o) && not (at.port == 0)) ≡ true → GivenBy config socket at guest
    by None on is =
        let never = second_of (is_working (phase config past) && is_some guest) false (first_of (is_working (phase config past) && is_some guest && false) (not (at.port == 0)) is) in cc
    by (Some f) on is =
        let both = first_of (is_working (phase config past) && is_some guest && same_endpoint f.host at) (not (at.port == 0)) is in record {
          forward = f;
          on = on;
          leads = second_of (is_working (phase config past)) (is_some guest) (first_of (is_working (phase config past) && is_some guest) (same_endpoint f.host at) both);
          host = sym (equal_endpoints f.host at (second_of (is_working (phase config past) && is_some guest) (same_endpoint f.host at) both));
          named = not_so (at.port == 0) (second_of (is_working (phase config past) && is_some guest && same_endpoint f.host at) (not (at.port == 0)) is);
        }

pub given_turn : (config : Config) (past : List Entry) (socket : ℕ) (at : Endpoint) (guest : Option Endpoint) → is_added config past socket at guest ≡ true → is_working (phase config past) ≡ true
given_turn config past socket at guest is =
    first_of (is_working (phase config past)) (is_some guest) (first_of (is_working (phase config past) && is_some guest) (is_port at (option_map (λ (f : Forward). f.host) (forward_on config socket)))
    (first_of (is_working (phase config past) && is_some guest && is_port at (option_map (λ (f : Forward). f.host) (forward_on config socket))) (not (at.port == 0)) is))

-- none is where no port of the host is
pub given_none : (config : Config) (past : List Entry) (socket : ℕ) (at : Endpoint) (guest : Option Endpoint) → GivesNone config → is_added config past socket at guest ≡ true → ⊥
given_none config past socket at guest none is =
    let g = given_forward config past socket at guest is in
    let same : Some g.forward ≡ None = sym g.on ∙ leads_nowhere config socket none in
    cc

pub due_call : (o : Option Call) (call : Call) → is_some o ≡ true → MatchOption o (Unit {0}) (λ d. call ≡ d) → o ≡ Some call
due_call None call some is = cc
due_call (Some d) call some is = ap Some (sym is)

closing : {A : Type 0} (o : Option ℕ) (other : Option Call) (call : Call) → ((socket : ℕ) → CallClose socket ≡ call → A) → (other ≡ Some call → A) → option_or
    (option_map CallClose o) other ≡ Some call → A
closing None other call no_close then is = then is
closing (Some s) other call no_close then is = no_close s cc

opening_send : (proto : Proto) (number : ℕ) (forward : Forward) (socket : ℕ) (to : Endpoint) (octets : List ℕ) → opening_of proto number forward ≡ CallUdpSend socket to octets → ⊥
opening_send Tcp number forward socket to octets is = cc
opening_send ByUdp number forward socket to octets is = cc

sending_by : (p : Phase) (past : List Entry) (other : Option Call) (socket : ℕ) (to : Endpoint) (octets : List ℕ) → option_or (due_in p past) other ≡ Some
    (CallUdpSend socket to octets) → other ≡ Some (CallUdpSend socket to octets)
sending_by (Opening count []) past other socket to octets is = cc
sending_by (Opening count (forward ∷ forwards)) past other socket to octets is = absurd (opening_send forward.proto (next_number past) forward socket to octets cc)
sending_by Started past other socket to octets is = is
sending_by Woken past other socket to octets is = cc
sending_by Working past other socket to octets is = is
sending_by (Over cause) past other socket to octets is = closing (first (open_sockets past)) other (CallUdpSend socket to octets) (λ s same. cc) (λ then. then) is

-- for a flow a socket is closed, or one connects; and for a service one is closed, or a file is asked for
abbrev pub IsForOther : Option Call → Type 0
IsForOther None = Unit {0}
IsForOther (Some (CallClose socket)) = Unit {0}
IsForOther (Some (CallConnect socket to)) = Unit {0}
IsForOther (Some (CallFileLen name)) = Unit {0}
IsForOther (Some (CallFileRead name place asked)) = Unit {0}
IsForOther (Some _) = ⊥

for_flow : (doomed : Option ℕ) (to : Option Endpoint) (number : ℕ) → IsForOther (due_by doomed to number)
for_flow (Some socket) to number = tt
for_flow None None number = tt
for_flow None (Some to) number = tt

for_quest : (q : Quest) → IsForOther (call_for q)
for_quest SeeksNothing = tt
for_quest (SeeksLength s) = tt
for_quest (SeeksOctets t there) = tt

for_answer : (o : Option ℕ) → IsForOther (option_map CallClose o)
for_answer None = tt
for_answer (Some socket) = tt

either_other : (one other : Option Call) → IsForOther one → IsForOther other → IsForOther (option_or one other)
either_other None other first second = second
either_other (Some call) other first second = first

-- what is due for all but a datagram that goes out
abbrev pub others_due : Config → List Entry → Option Call
others_due config past = option_or (due_for_services config past) (due_for_flows config (book config past) (next_number past))

pub for_others : (config : Config) (past : List Entry) → IsForOther (others_due config past)
for_others config past =
    either_other (due_for_services config past) (due_for_flows config (book config past) (next_number past))
    (either_other (option_map CallClose (answered config past)) (call_for (serving config past).files.quest) (for_answer (answered config past)) (for_quest (serving config past).files.quest))
    (for_flow (book config past).doomed (connects_to config (book config past)) (next_number past))

no_send : (o : Option Call) (socket : ℕ) (to : Endpoint) (octets : List ℕ) → IsForOther o → o ≡ Some (CallUdpSend socket to octets) → ⊥
no_send o socket to octets is call = subst IsForOther call is

no_open : (o : Option Call) (socket : ℕ) (at : Endpoint) → IsForOther o → o ≡ Some (CallUdpOpen socket at) → ⊥
no_open o socket at is call = subst IsForOther call is

no_listen : (o : Option Call) (socket : ℕ) (at : Endpoint) → IsForOther o → o ≡ Some (CallListen socket at) → ⊥
no_listen o socket at is call = subst IsForOther call is

-- a datagram is sent where that was asked for
pub record Sends (step : Step) (socket : ℕ) (to : Endpoint) (octets : List ℕ) : Type 0 where
  pub errand : Errand
  pub asked : step ≡ NeedsSending socket errand
  pub target : to ≡ errand.to
  pub whole : octets ≡ errand.datagram.body

sends_for : (config : Config) (step : Step) (other : Option Call) (number socket : ℕ) (to : Endpoint) (octets : List ℕ) → IsForOther other → option_or
    (due_for config step number) other ≡ Some (CallUdpSend socket to octets) → Sends step socket to octets
sends_for config NeedsNothing other number socket to octets flow is = absurd (no_send other socket to octets flow is)
sends_for config (NeedsRoom oldest errand) other number socket to octets flow is = cc
sends_for config (NeedsSocket errand) other number socket to octets flow is = cc
sends_for config (NeedsSending s errand) other number socket to octets flow is = record {
  errand = errand;
  asked = (let same : s ≡ socket = cc in ap (λ n. NeedsSending n errand) same);
  target = cc;
  whole = cc;
}

pub sends : (config : Config) (past : List Entry) (socket : ℕ) (to : Endpoint) (octets : List ℕ) → May config past (CallUdpSend socket to octets) → Sends (step config past) socket to octets
sends config past socket to octets may =
    sends_for config (step config past) (others_due config past) (next_number past) socket to octets (for_others config past)
    (sending_by (phase config past) past (option_or (due_for config (step config past) (next_number past)) (others_due config past)) socket to octets
    (due_call (due config past) (CallUdpSend socket to octets) may.place may.due))

-- a socket for datagrams is opened where that was asked for, or for a forward
opening_by : (p : Phase) (past : List Entry) (other : Option Call) (socket : ℕ) (at : Endpoint) → HasWaited p (waits past) → option_or (due_in p past) other ≡ Some (CallUdpOpen socket at)
    → ((waits past ≡ 0) × (OpensNone p → ⊥)) ⊎ (other ≡ Some (CallUdpOpen socket at))
opening_by (Opening count []) past other socket at waited is = cc
opening_by (Opening count (forward ∷ forwards)) past other socket at waited is = inl (waited, λ none. cc)
opening_by Started past other socket at waited is = inr is
opening_by Woken past other socket at waited is = cc
opening_by Working past other socket at waited is = inr is
opening_by (Over cause) past other socket at waited is = closing {A = ((waits past ≡ 0) × ((Unit {0}) → ⊥)) ⊎ (other ≡ Some (CallUdpOpen socket at))}
    (first (open_sockets past)) other (CallUdpOpen socket at) (λ s same. cc) (λ then. inr then) is

pub record Opens (config : Config) (step : Step) (number socket : ℕ) (at : Endpoint) : Type 0 where
  pub errand : Errand
  pub asked : step ≡ NeedsSocket errand
  pub next : socket ≡ number
  pub at_address : at ≡ opened_at config errand

pub opens_for : (config : Config) (step : Step) (other : Option Call) (number socket : ℕ) (at : Endpoint) → IsForOther other → option_or (due_for config step number) other ≡ Some
    (CallUdpOpen socket at) → Opens config step number socket at
opens_for config NeedsNothing other number socket at flow is = absurd (no_open other socket at flow is)
opens_for config (NeedsRoom oldest errand) other number socket at flow is = cc
opens_for config (NeedsSocket errand) other number socket at flow is = record { errand = errand; asked = refl; next = cc; at_address = cc }
opens_for config (NeedsSending s errand) other number socket at flow is = cc

pub opens : (config : Config) (past : List Entry) (socket : ℕ) (at : Endpoint) → May config past (CallUdpOpen socket at)
    → ((waits past ≡ 0) × (OpensNone (phase config past) → ⊥)) ⊎ (Opens config (step config past) (next_number past) socket at ⊎ IsGivenNow config past socket at (given_port config socket))
opens config past socket at may = elim (opening_call config past socket at (given_port config socket) (CallUdpOpen socket at) may.place may.due) [
  | inl is ↦
      elim (opening_by (phase config past) past (option_or (due_for config (step config past) (next_number past)) (others_due config past)) socket at (has_waited config past) is) [
        | inl early ↦ inl early
        | inr asked ↦ inr (inl (opens_for config (step config past) (others_due config past) (next_number past) socket at (for_others config past) asked))
      ]
  | inr given ↦ inr (inr given)
]

-- a listener is opened for a forward alone
no_listening : (config : Config) (step : Step) (other : Option Call) (number socket : ℕ) (at : Endpoint) → IsForOther other → option_or (due_for config step number) other ≡ Some
    (CallListen socket at) → ⊥
no_listening config NeedsNothing other number socket at flow is = no_listen other socket at flow is
no_listening config (NeedsRoom oldest errand) other number socket at flow is = cc
no_listening config (NeedsSocket errand) other number socket at flow is = cc
no_listening config (NeedsSending s errand) other number socket at flow is = cc

listening_by : (p : Phase) (past : List Entry) (other : Option Call) (socket : ℕ) (at : Endpoint) → OpensNone p → (other ≡ Some (CallListen socket at) → ⊥) → option_or
    (due_in p past) other ≡ Some (CallListen socket at) → ⊥
listening_by (Opening count []) past other socket at none never is = cc
listening_by (Opening count (forward ∷ forwards)) past other socket at none never is = cc
listening_by Started past other socket at none never is = never is
listening_by Woken past other socket at none never is = cc
listening_by Working past other socket at none never is = never is
listening_by (Over cause) past other socket at none never is = closing {A = ⊥} (first (open_sockets past)) other (CallListen socket at) (λ s same. cc) never is

pub listens_never : (config : Config) (past : List Entry) (socket : ℕ) (at : Endpoint) → GivesNone config → May config past (CallListen socket at) → ⊥
listens_never config past socket at none may = elim (opening_call config past socket at (port_of config socket) (CallListen socket at) may.place may.due) [
  | inl is ↦
      listening_by (phase config past) past (option_or (due_for config (step config past) (next_number past)) (others_due config past)) socket at (opens_none config past none.0)
      (no_listening config (step config past) (others_due config past) (next_number past) socket at (for_others config past)) is
  | inr given ↦ given_none config past socket at (port_of config socket) none given.is
]

-- where nothing is due no datagram is left to go out
unasked_names : (o : Option ℕ) (list : List Question) (errand : Errand) → with_socket o list errand ≡ NeedsNothing → ⊥
unasked_names None [] errand is = cc
unasked_names None (q ∷ list) errand is = by (nat_le most_questions (length (q ∷ list))) is
  where
    by : (b : Bool) → cond b (NeedsRoom q.number errand) (NeedsSocket errand) ≡ NeedsNothing → ⊥
    by true is = cc
    by false is = cc
unasked_names (Some socket) list errand is = cc

unasked_ports : (config : Config) (past : List Entry) (o : Option ℕ) (errand : Errand) → step_on config o past errand ≡ NeedsNothing → ⊥
unasked_ports config past (Some socket) errand is = cc
unasked_ports config past None errand is = by (is_full config past) (longest_unused config past) is
  where
    by : (b : Bool) (o : Option ℕ) → cond b (yields o errand) (NeedsSocket errand) ≡ NeedsNothing → ⊥
    by true None is = cc
    by true (Some oldest) is = cc
    by false o is = cc

unasked_by : (config : Config) (past : List Entry) (o : Option Errand) → step_of config past o ≡ NeedsNothing → o ≡ None
unasked_by config past None is = refl
unasked_by config past (Some errand) is = absurd (by (asks_a_name config errand) is)
  where
    by : (b : Bool) → cond b (step_to_names (questions config past) errand) (step_on config (option_or (forward_for config errand.datagram.from past) (socket_for config errand.datagram.from past)) past errand) ≡ NeedsNothing → ⊥
    by true is = unasked_names (socket_of errand.datagram.from (ident_in errand.datagram.body) (questions config past)) (questions config past) errand is
    by false is = unasked_ports config past (option_or (forward_for config errand.datagram.from past) (socket_for config errand.datagram.from past)) errand is

none_second : (first second : Option Call) → option_or first second ≡ None → (first ≡ None) × (second ≡ None)
none_second None second is = (refl, is)
none_second (Some call) second is = cc

none_for_step : (config : Config) (s : Step) (number : ℕ) → due_for config s number ≡ None → s ≡ NeedsNothing
none_for_step config NeedsNothing number is = refl
none_for_step config (NeedsRoom oldest errand) number is = cc
none_for_step config (NeedsSocket errand) number is = cc
none_for_step config (NeedsSending socket errand) number is = cc

pub none_left : (config : Config) (past : List Entry) → due config past ≡ None → errand_left config past ≡ None
none_left config past none =
    let later = (none_second (due_in (phase config past) past) (option_or (due_for config (step config past) (next_number past)) (others_due config past)) none).1 in
    unasked_by config past (errand_left config past)
    (none_for_step config (step config past) (next_number past) (none_second (due_for config (step config past) (next_number past)) (others_due config past) later).0)

-- a socket is opened for what is left at a port of the host's choice
pub at_any_port : (config : Config) (past : List Entry) (socket : ℕ) (at : Endpoint) (errand : Errand) → 0 < waits past → errand_left config past ≡ Some errand
    → May config past (CallUdpOpen socket at) → at.port ≡ 0
at_any_port config past socket at errand waited left may = elim (opens config past socket at may) [
  | inl early ↦ (let none = early.0 in absurd (omega (arith, waited, none)))
  | inr later ↦ elim later [
    | inl o ↦ ap (λ (e : Endpoint). e.port) o.at_address
    | inr given ↦ (let never : Some errand ≡ None = sym left ∙ none_left config past given.nothing in cc)
  ]
]

-- a datagram is received where nothing is asked for
settled_for : (config : Config) (step : Step) (other : Option Call) (number : ℕ) (socket asked : ℕ) → MatchOption (option_or (due_for config step number) other) (Unit {0})
    (λ d. CallUdpRecv socket asked ≡ d) → step ≡ NeedsNothing
settled_for config NeedsNothing other number socket asked is = refl
settled_for config (NeedsRoom oldest errand) other number socket asked is = cc
settled_for config (NeedsSocket errand) other number socket asked is = cc
settled_for config (NeedsSending s errand) other number socket asked is = cc

settled_in : (config : Config) (p : Phase) (past : List Entry) (step : Step) (other : Option Call) (number socket asked : ℕ) → is_working p ≡ true → MatchOption
    (option_or (due_in p past) (option_or (due_for config step number) other)) (Unit {0}) (λ d. CallUdpRecv socket asked ≡ d)
    → step ≡ NeedsNothing
settled_in config Working past step other number socket asked working is = settled_for config step other number socket asked is
settled_in config (Opening count forwards) past step other number socket asked working is = cc
settled_in config Started past step other number socket asked working is = cc
settled_in config Woken past step other number socket asked working is = cc
settled_in config (Over cause) past step other number socket asked working is = cc

pub hears_settled : (config : Config) (past : List Entry) (socket asked : ℕ) → May config past (CallUdpRecv socket asked) → step config past ≡ NeedsNothing
hears_settled config past socket asked may = settled_in config (phase config past) past (step config past) (others_due config past) (next_number past) socket asked may.place may.due
