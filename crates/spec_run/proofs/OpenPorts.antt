-- Where the ports of the host that are given to guests are opened, and when they are closed.
use Rattle.std.proofs.Common.{◌≡◌, ℕ, suc, zero, ◌+◌, ◌<◌, ◌&&◌, ◌||◌, Bool, true, false, List, [], ◌∷◌, drop, slice_get, Option, Some, None, is_some, option_and_then, option_map, ◌⊎◌, inl, inr}
use Rattle.std.specs.Option.{option_or}
use Rattle.std.proofs.Common.{if◌then◌else◌, refl, sym, ap, ◌∙◌, subst, arith}
use Rattle.world_face.specs.Journal.{Entry, Call, Now, Wait, Listen, UdpOpen, CallClose, CallListen, CallUdpOpen}
use Rattle.world_face.specs.Frames.{Ending, ending, partial}
use Rattle.world_face.specs.declared.Made.{Made}
use Rattle.world_face.specs.declared.Made.TheVariants.{Done, Failed}
use Rattle.net_octets.specs.declared.Endpoint.{Endpoint}
use Rattle.slirp_settings.specs.declared.Forward.{Forward}
use Rattle.slirp_settings.specs.declared.Proto.{Proto}
use Rattle.slirp_settings.specs.declared.Proto.TheVariants.{Tcp, Udp}
use Rattle.slirp_settings.specs.Addresses.{Config, forward_on}
use Rattle.spec_trace.specs.Moments.{waits}
use Rattle.spec_trace.specs.Shape.{Phase, Opening, Started, Woken, Working, Over, is_ended, phase, phase_by, phase_after, opened, clocked, unless_over, due_in, is_working, opening_of}
use Rattle.spec_trace.specs.Sockets.{Kind, Association as OfAssociation, DnsSocket, Forward as OfForward, Listener as OfListener, Flow as OfFlow, first, is_among, next_number, open_sockets}
use Rattle.spec_flows.specs.Book.{port_by, port_of}
use Rattle.spec_run.specs.Asking.{step}
use Rattle.spec_run.specs.Datagrams.{Errand, Step, NeedsNothing, NeedsRoom, NeedsSocket, NeedsSending, due_for}
use Rattle.spec_run.specs.Names.{kind_for}
use Rattle.spec_flows.specs.Flows.{is_it}
use Rattle.spec_run.specs.Laws.{May, Lawful, is_closing, may_part, parts}
use Rattle.spec_run.specs.Ports.{given_port}
use Rattle.spec_run.specs.Said.{IsForAdded, OpensGiven, is_given}
use Rattle.spec_run.proofs.Bools.{first_of, second_of}
use Rattle.spec_run.proofs.Parting.{closing_ended}
use Rattle.spec_run.proofs.Phases.{HasWaited, IsForOther, asks_after_waits, for_others, given_forward, given_turn, has_waited, opening_call, opens_for, others_due}
use Rattle.spec_run.proofs.Steps.{OfErrand, errand_is}

-- ---- the ports that are still to be opened are those at the end of the settings' list

abbrev IsLeft : List Forward → Phase → Type 0
IsLeft all (Opening count forwards) = forwards ≡ drop count all
IsLeft all _ = Unit {0}

drop_next : (count : ℕ) (all rest : List Forward) (f : Forward) → f ∷ rest ≡ drop count all → (rest ≡ drop (suc count) all) × (slice_get all count ≡ Some f)
drop_next zero [] rest f is = absurd cc
drop_next zero (g ∷ all) rest f is = (cc, cc)
drop_next (suc count) [] rest f is = absurd cc
drop_next (suc count) (g ∷ all) rest f is = drop_next count all rest f is

left_made : (all : List Forward) (answer : Made) (p : Phase) → IsLeft all p → IsLeft all (opened answer p)
left_made all Done (Opening count []) is = is
left_made all Done (Opening count (f ∷ forwards)) is = (drop_next count all forwards f is).0 ∙ ap (λ (n : ℕ). drop n all) (let next : suc count ≡ count + 1 = omega arith in next)
left_made all Failed (Opening count forwards) is = tt
left_made all Done Started is = tt
left_made all Failed Started is = tt
left_made all Done Woken is = tt
left_made all Failed Woken is = tt
left_made all Done Working is = tt
left_made all Failed Working is = tt
left_made all Done (Over cause) is = tt
left_made all Failed (Over cause) is = tt

left_clocked : (all : List Forward) (p : Phase) → IsLeft all (clocked p)
left_clocked all (Opening count forwards) = tt
left_clocked all Started = tt
left_clocked all Woken = tt
left_clocked all Working = tt
left_clocked all (Over cause) = tt

left_by : (all : List Forward) (e : Entry) (p : Phase) → IsLeft all p → IsLeft all (phase_by e p)
left_by all (Now told) p is = left_clocked all p
left_by all (Wait wants timeout answer ready) p is = tt
left_by all (Listen socket at answer) p is = left_made all answer p is
left_by all (UdpOpen socket at answer) p is = left_made all answer p is
left_by all _ p is = is

left_ended : (all : List Forward) (p : Phase) (why : Ending) → IsLeft all (unless_over p why)
left_ended all (Opening count forwards) why = tt
left_ended all Started why = tt
left_ended all Woken why = tt
left_ended all Working why = tt
left_ended all (Over cause) why = tt

left_after : (all : List Forward) (e : Entry) (o : Option Ending) (p : Phase) → IsLeft all p → IsLeft all (phase_after e o p)
left_after all e None p is = left_by all e p is
left_after all e (Some why) p is = left_ended all p why

are_left : (config : Config) (past : List Entry) → IsLeft config.forwards (phase config past)
are_left config [] = refl
are_left config (e ∷ past) = left_after config.forwards e (ending e (partial past)) (phase config past) (are_left config past)

-- ---- so the port that is opened next is one of them

listens_at : (all : List Forward) (proto : Proto) (number socket : ℕ) (f : Forward) (at : Endpoint) (k : ℕ) → f.proto ≡ proto → slice_get all k ≡ Some f →
    opening_of proto number f ≡ CallListen socket at → OpensGiven all Tcp at
listens_at all Tcp number socket f at k proto here is = (k, f, here, proto, cc)
listens_at all Udp number socket f at k proto here is = absurd cc

opens_at : (all : List Forward) (proto : Proto) (number socket : ℕ) (f : Forward) (at : Endpoint) (k : ℕ) → f.proto ≡ proto → slice_get all k ≡ Some f →
    opening_of proto number f ≡ CallUdpOpen socket at → OpensGiven all Udp at
opens_at all Udp number socket f at k proto here is = (k, f, here, proto, cc)
opens_at all Tcp number socket f at k proto here is = absurd cc

some_call : (c d : Call) → ◌≡◌ {A = Option Call} (Some c) (Some d) → c ≡ d
some_call c d is = cc

closes_first : (o : Option ℕ) (other : Option Call) (call : Call) → ((s : ℕ) → CallClose s ≡ call → ⊥) → option_or (option_map CallClose o) other ≡ Some call → other ≡ Some call
closes_first None other call never is = is
closes_first (Some s) other call never is = absurd (never s (some_call (CallClose s) call is))

-- a listener is opened for a port of the settings alone
no_listening : (config : Config) (st : Step) (other : Option Call) (number socket : ℕ) (at : Endpoint) → IsForOther other → option_or (due_for config st number) other ≡ Some
    (CallListen socket at) → ⊥
no_listening config NeedsNothing other number socket at flow is = subst IsForOther is flow
no_listening config (NeedsRoom oldest errand) other number socket at flow is = cc
no_listening config (NeedsSocket errand) other number socket at flow is = cc
no_listening config (NeedsSending s errand) other number socket at flow is = cc

listening : (all : List Forward) (p : Phase) (past : List Entry) (other : Option Call) (socket : ℕ) (at : Endpoint) → IsLeft all p → (other ≡ Some (CallListen socket at) → ⊥) →
    option_or (due_in p past) other ≡ Some (CallListen socket at) → OpensGiven all Tcp at
listening all (Opening count []) past other socket at left never is = absurd cc
listening all (Opening count (f ∷ forwards)) past other socket at left never is =
    listens_at all f.proto (next_number past) socket f at count refl (drop_next count all forwards f left).1 (some_call (opening_of f.proto (next_number past) f) (CallListen socket at) is)
listening all Started past other socket at left never is = absurd (never is)
listening all Woken past other socket at left never is = absurd cc
listening all Working past other socket at left never is = absurd (never is)
listening all (Over cause) past other socket at left never is = absurd (never (closes_first (first (open_sockets past)) other (CallListen socket at) (λ s same. cc) is))

-- the forward of the port of a guest that takes connections is for connections
for_connections : (o : Option Forward) (f : Forward) → o ≡ Some f → is_some (option_and_then (λ (f : Forward). port_by f.proto f.guest) o) ≡ true → f.proto ≡ Tcp
for_connections o f on some = by f.proto (ap (λ (o : Option Forward). is_some (option_and_then (λ (f : Forward). port_by f.proto f.guest) o)) (sym on) ∙ some)
  where
    by : (p : Proto) → is_some (port_by p f.guest) ≡ true → p ≡ Tcp
    by Tcp is = refl
    by Udp is = cc

pub listens_where_given : (config : Config) (past : List Entry) (socket : ℕ) (at : Endpoint) → May config past (CallListen socket at)
    → OpensGiven config.forwards Tcp at ⊎ IsForAdded config Tcp socket at
listens_where_given config past socket at may = elim (opening_call config past socket at (port_of config socket) (CallListen socket at) may.place may.due) [
  | inl is ↦ inl (listening config.forwards (phase config past) past (option_or (due_for config (step config past) (next_number past)) (others_due config past)) socket at (are_left config past)
      (no_listening config (step config past) (others_due config past) (next_number past) socket at (for_others config past)) is)
  | inr given ↦ (let g = given_forward config past socket at (port_of config socket) given.is in
      inr (g.forward, g.on, for_connections (forward_on config socket) g.forward g.on g.leads, g.host))
]

-- what is asked for by a datagram was asked for after a wait
asked_later : (config : Config) (past : List Entry) (socket : ℕ) (at : Endpoint) → Lawful config past → option_or (due_for config (step config past) (next_number past))
    (others_due config past) ≡ Some (CallUdpOpen socket at) → 0 < waits past
asked_later config past socket at lawful is =
    let o = opens_for config (step config past) (others_due config past) (next_number past) socket at (for_others config past) is in
    subst (OfErrand (λ (errand : Errand). 0 < waits past)) (errand_is config past (NeedsSocket o.errand) o.asked) (asks_after_waits config past lawful)

-- a socket for datagrams that is opened before the first wait is one of them too
opening : (all : List Forward) (p : Phase) (past : List Entry) (other : Option Call) (socket : ℕ) (at : Endpoint) → IsLeft all p → HasWaited p (waits past) → waits past ≡ 0 →
    (other ≡ Some (CallUdpOpen socket at) → 0 < waits past)
    → option_or (due_in p past) other ≡ Some (CallUdpOpen socket at) → OpensGiven all Udp at
opening all (Opening count []) past other socket at left waited early later is = absurd cc
opening all (Opening count (f ∷ forwards)) past other socket at left waited early later is =
    opens_at all f.proto (next_number past) socket f at count refl (drop_next count all forwards f left).1 (some_call (opening_of f.proto (next_number past) f) (CallUdpOpen socket at) is)
opening all Started past other socket at left waited early later is = let more = later is in absurd (omega (arith, early, more))
opening all Woken past other socket at left waited early later is = absurd cc
opening all Working past other socket at left waited early later is = absurd (omega (arith, early, waited))
opening all (Over cause) past other socket at left waited early later is = let more = later (closes_first (first (open_sockets past)) other (CallUdpOpen socket at)
    (λ s same. cc) is) in absurd (omega (arith, early, more))

-- in a turn a wait came
turned : (p : Phase) (n : ℕ) → is_working p ≡ true → HasWaited p n → n ≡ 0 → ⊥
turned Working n working waited early = absurd (omega (arith, waited, early))
turned (Opening count forwards) n working waited early = cc
turned Started n working waited early = cc
turned Woken n working waited early = cc
turned (Over cause) n working waited early = cc

pub opens_where_given : (config : Config) (past : List Entry) (socket : ℕ) (at : Endpoint) → Lawful config past → waits past ≡ 0 → May config past (CallUdpOpen socket at) →
    OpensGiven config.forwards Udp at
opens_where_given config past socket at lawful early may = elim (opening_call config past socket at (given_port config socket) (CallUdpOpen socket at) may.place may.due) [
  | inl is ↦
      opening config.forwards (phase config past) past (option_or (due_for config (step config past) (next_number past)) (others_due config past)) socket at (are_left config past)
      (has_waited config past) early (asked_later config past socket at lawful) is
  | inr given ↦ absurd (turned (phase config past) (waits past) (given_turn config past socket at (given_port config socket) given.is) (has_waited config past) early)
]

-- ---- and it is closed after the end, unless it is taken back

given_stays : (config : Config) (past : List Entry) (socket : ℕ) (o : Option Kind) → is_among socket config.removed ≡ false → is_given o ≡ true → may_part config past socket o ≡ false
given_stays config past socket None none is = absurd cc
given_stays config past socket (Some OfAssociation) none is = absurd cc
given_stays config past socket (Some DnsSocket) none is = absurd cc
given_stays config past socket (Some OfForward) none is = none
given_stays config past socket (Some OfListener) none is = none
given_stays config past socket (Some OfFlow) none is = absurd cc

ended_only : (closing least some ended : Bool) → (closing ≡ true → ended ≡ true) → some ≡ false → (if closing then least else some || (ended && least)) ≡ true → ended ≡ true
ended_only true least some ended already none is = already refl
ended_only false least true ended already none is = absurd cc
ended_only false least false ended already none is = first_of ended least is

pub closes_given_after_the_end : (config : Config) (past : List Entry) (socket : ℕ) → is_among socket config.removed ≡ false → Lawful config past → May config past (CallClose socket) → is_given
    (kind_for config socket past) ≡ true → is_ended config past ≡ true
closes_given_after_the_end config past socket none lawful may given =
    ended_only (is_closing config past) (is_it socket (first (open_sockets past))) (parts config past socket) (is_ended config past) (closing_ended config past lawful)
    (given_stays config past socket (kind_for config socket past) none given)
    (second_of (is_among socket (open_sockets past)) (if is_closing config past then is_it socket (first (open_sockets past)) else parts config past socket ||
    (is_ended config past && is_it socket (first (open_sockets past)))) may.socket)
