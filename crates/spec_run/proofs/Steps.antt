-- What the datagram that came last asks for, by the trace.
use Rattle.std.proofs.Common.{◌≡◌, ℕ, ◌==◌, ◌&&◌, ◌||◌, not, Bool, true, false, List, [], ◌∷◌, Option, Some, None, if◌then◌else◌, refl, sym, ◌∙◌, ap, subst, ◌⊎◌, inl, inr}
use Rattle.std.specs.Option.{option_or}
use Rattle.world_face.specs.Journal.{Entry, UdpOpen, UdpSend}
use Rattle.world_face.specs.declared.Made.TheVariants.{Done, Failed}
use Rattle.slirp_settings.specs.declared.Proto.TheVariants.{Udp as ByUdp}
use Rattle.host_policy.specs.declared.Verdict.{Verdict}
use Rattle.host_policy.specs.declared.Verdict.TheVariants.{Go, Denied}
use Rattle.net_octets.specs.declared.Endpoint.{Endpoint}
use Rattle.slirp_settings.specs.Addresses.{Config, address}
use Rattle.host_policy.specs.Targets.{target}
use Rattle.spec_trace.specs.Happenings.{Arrival, happens, datagram_by, datagram_came}
use Rattle.spec_trace.specs.Packets.{Packet, Unheard, ArpPacket, Message, DatagramPacket, Segment, Datagram}
use Rattle.rules_dns.specs.declared.Question.{Question}
use Rattle.rules_dns.specs.Questions.{ident_in, is_question, socket_of as question_socket}
use Rattle.spec_run.specs.Asking.{is_full, step, step_of, step_on, yields}
use Rattle.spec_run.specs.Errands.{errand_after, errand_by_call, errand_left}
use Rattle.spec_run.specs.Names.{questions, step_to_names, with_socket, without_socket}
use Rattle.spec_run.specs.Datagrams.{DatagramVerdict, Ignored, Refused, ForLeases, ForFiles, GoesTo, asks_a_name, datagram_verdict, datagram_verdict_by, is_to_names, Errand, errand_of, errand_by, errand_by_packet, Step}
use Rattle.spec_run.specs.Datagrams.{NeedsNothing, NeedsRoom, NeedsSocket, NeedsSending}
use Rattle.spec_run.specs.Ports.{last_datagram, longest_unused, socket_for, forward_for}

-- ---- an errand is that of the datagram that came last

pub record Asks (config : Config) (last : Option Datagram) (errand : Errand) : Type 0 where
  pub datagram : last ≡ Some errand.datagram
  pub goes : datagram_verdict config errand.datagram ≡ GoesTo errand.to

-- of an errand that is left, this holds
abbrev pub OfErrand : (Errand → Type 0) → Option Errand → Type 0
OfErrand Q None = Unit {0}
OfErrand Q (Some errand) = Q errand

pub of_errand : (Q R : Errand → Type 0) → ((errand : Errand) → Q errand → R errand) → (o : Option Errand) → OfErrand Q o → OfErrand R o
of_errand Q R more None is = tt
of_errand Q R more (Some errand) is = more errand is

pub all_errands : (Q : Errand → Type 0) (o : Option Errand) → ((errand : Errand) → o ≡ Some errand → Q errand) → OfErrand Q o
all_errands Q None is = tt
all_errands Q (Some errand) is = is errand refl

pub by_call : (Q : Errand → Type 0) (e : Entry) (o : Option Errand) → OfErrand Q o → OfErrand Q (errand_by_call e o)
by_call Q (UdpOpen socket at Done) o is = is
by_call Q (UdpOpen socket at Failed) o is = tt
by_call Q (UdpSend socket to octets answer) o is = tt
by_call Q _ o is = is

-- where none is left, none comes by a call
pub none_by_call : (e : Entry) → errand_by_call e None ≡ None
none_by_call (UdpOpen socket at Done) = refl
none_by_call (UdpOpen socket at Failed) = refl
none_by_call (UdpSend socket to octets answer) = refl
none_by_call _ = refl

abbrev pub AsksFor : Config → Option Datagram → Option Errand → Type 0
AsksFor config last o = OfErrand (Asks config last) o

-- a datagram that came begins its steps
begun : (config : Config) (d : Datagram) (what : DatagramVerdict) → datagram_verdict config d ≡ what → (errand : Errand) → errand_by d what ≡ Some errand → Asks config (Some d) errand
begun config d Ignored is errand this = cc
begun config d Refused is errand this = cc
begun config d ForLeases is errand this = cc
begun config d ForFiles is errand this = cc
begun config d (GoesTo to) is errand this =
    let that : Errand = record { datagram = d; to = to } in
    let whole : that ≡ errand = cc in
    let asks : Asks config (Some d) that = record { datagram = refl; goes = is } in
    subst (Asks config (Some d)) whole asks

by_packet : (config : Config) (before : Option Datagram) (packet : Packet) → AsksFor config (option_or (datagram_by packet) before) (errand_by_packet config packet)
by_packet config before (DatagramPacket d) = all_errands (Asks config (Some d)) (errand_of config d) (begun config d (datagram_verdict config d) refl)
by_packet config before Unheard = tt
by_packet config before (ArpPacket arp) = tt
by_packet config before (Message mac ip message) = tt
by_packet config before (Segment mac ip tcp) = tt

by_arrival : (config : Config) (e : Entry) (o : Option Arrival) (before : Option Errand) (last : Option Datagram) → AsksFor config last before → AsksFor config
    (option_or (datagram_came o) last) (errand_after config e o before)
by_arrival config e None before last is = by_call (Asks config last) e before is
by_arrival config e (Some arrival) before last is = by_packet config last arrival.packet

errands_ask : (config : Config) (past : List Entry) → AsksFor config (last_datagram config past) (errand_left config past)
errands_ask config [] = tt
errands_ask config (e ∷ past) = by_arrival config e (happens config past e).came (errand_left config past) (last_datagram config past) (errands_ask config past)

pub errand_asks : (config : Config) (past : List Entry) (errand : Errand) → errand_left config past ≡ Some errand → Asks config (last_datagram config past) errand
errand_asks config past errand is = subst (AsksFor config (last_datagram config past)) is (errands_ask config past)

-- ---- the step is that of the errand

abbrev pub errand_in : Step → Option Errand
errand_in NeedsNothing = None
errand_in (NeedsRoom oldest errand) = Some errand
errand_in (NeedsSocket errand) = Some errand
errand_in (NeedsSending socket errand) = Some errand

on_full : (full : Bool) (oldest : Option ℕ) (errand : Errand) → errand_in (if full then yields oldest errand else NeedsSocket errand) ≡ Some errand
on_full true None errand = refl
on_full true (Some oldest) errand = refl
on_full false oldest errand = refl

on_socket : (config : Config) (o : Option ℕ) (past : List Entry) (errand : Errand) → errand_in (step_on config o past errand) ≡ Some errand
on_socket config None past errand = on_full (is_full config past) (longest_unused config past) errand
on_socket config (Some socket) past errand = refl

on_room : (b : Bool) (oldest : ℕ) (errand : Errand) → errand_in (if b then NeedsRoom oldest errand else NeedsSocket errand) ≡ Some errand
on_room true oldest errand = refl
on_room false oldest errand = refl

without_one : (list : List Question) (errand : Errand) → errand_in (without_socket list errand) ≡ Some errand
without_one [] errand = refl
without_one (q ∷ list) errand = on_room _ q.number errand

on_question : (o : Option ℕ) (list : List Question) (errand : Errand) → errand_in (with_socket o list errand) ≡ Some errand
on_question None list errand = without_one list errand
on_question (Some socket) list errand = refl

on_either : (config : Config) (forward own : Option ℕ) (past : List Entry) (errand : Errand) → errand_in (step_on config (option_or forward own) past errand) ≡ Some errand
on_either config (Some forward) own past errand = refl
on_either config None own past errand = on_socket config own past errand

by_name : (config : Config) (past : List Entry) (errand : Errand) (name : Bool)
    → errand_in (if name then step_to_names (questions config past) errand else step_on config (option_or (forward_for config errand.datagram.from past) (socket_for config errand.datagram.from past)) past errand) ≡ Some errand
by_name config past errand true = on_question _ (questions config past) errand
by_name config past errand false = on_either config (forward_for config errand.datagram.from past) (socket_for config errand.datagram.from past) past errand

keeps_errand : (config : Config) (past : List Entry) (o : Option Errand) → errand_in (step_of config past o) ≡ o
keeps_errand config past None = refl
keeps_errand config past (Some errand) = by_name config past errand (asks_a_name config errand)

pub errand_is : (config : Config) (past : List Entry) (s : Step) → step config past ≡ s → errand_left config past ≡ errand_in s
errand_is config past s is = sym (keeps_errand config past (errand_left config past)) ∙ ap errand_in is

-- what was asked of a step is asked of its errand; here of one that is no question to the name server, and of one that is
pub step_is_of : (config : Config) (past : List Entry) (errand : Errand) → asks_a_name config errand ≡ false → errand_left config past ≡ Some errand
    → step config past ≡ step_on config (option_or (forward_for config errand.datagram.from past) (socket_for config errand.datagram.from past)) past errand
step_is_of config past errand other is =
    ap (step_of config past) is
    ∙ ap (λ (b : Bool). if b then step_to_names (questions config past) errand else step_on config (option_or (forward_for config errand.datagram.from past) (socket_for config errand.datagram.from past)) past errand) other

pub step_to_name : (config : Config) (past : List Entry) (errand : Errand) → asks_a_name config errand ≡ true → errand_left config past ≡ Some errand →
    step config past ≡ step_to_names (questions config past) errand
step_to_name config past errand name is =
    ap (step_of config past) is
    ∙ ap (λ (b : Bool). if b then step_to_names (questions config past) errand else step_on config (option_or (forward_for config errand.datagram.from past) (socket_for config errand.datagram.from past)) past errand) name

no_socket : (config : Config) (o : Option ℕ) (past : List Entry) (errand : Errand) → step_on config o past errand ≡ NeedsSocket errand → o ≡ None
no_socket config None past errand is = refl
no_socket config (Some socket) past errand is = cc

this_socket : (config : Config) (o : Option ℕ) (past : List Entry) (errand : Errand) (full : Bool) (oldest : Option ℕ) (socket : ℕ) → is_full config past ≡ full → longest_unused config past ≡ oldest
    → step_on config o past errand ≡ NeedsSending socket errand → o ≡ Some socket
this_socket config (Some s) past errand full oldest socket f l is = (let same : s ≡ socket = cc in ap Some same)
this_socket config None past errand full oldest socket f l is =
    absurd (never full oldest (sym (ap (λ (b : Bool). if b then yields (longest_unused config past) errand else NeedsSocket errand) f ∙ ap
    (λ o. if full then yields o errand else NeedsSocket errand) l) ∙ is))
  where
    never : (full : Bool) (oldest : Option ℕ) → (if full then yields oldest errand else NeedsSocket errand) ≡ NeedsSending socket errand → ⊥
    never true None is = cc
    never true (Some oldest) is = cc
    never false oldest is = cc

not_given : (config : Config) (forward own : Option ℕ) (past : List Entry) (errand : Errand) → step_on config (option_or forward own) past errand ≡ NeedsSocket errand → own ≡ None
not_given config None own past errand is = no_socket config own past errand is
not_given config (Some forward) own past errand is = cc

given_or_own : (config : Config) (forward own : Option ℕ) (past : List Entry) (errand : Errand) (socket : ℕ) → step_on config (option_or forward own) past errand ≡ NeedsSending socket errand →
    (forward ≡ Some socket) ⊎ (own ≡ Some socket)
given_or_own config None own past errand socket is = inr (this_socket config own past errand (is_full config past) (longest_unused config past) socket refl refl is)
given_or_own config (Some forward) own past errand socket is = inl (let same : forward ≡ socket = cc in ap Some same)

-- a socket is asked for where none is open for the port
pub unopened : (config : Config) (past : List Entry) (errand : Errand) → asks_a_name config errand ≡ false → step config past ≡ NeedsSocket errand → socket_for config errand.datagram.from past ≡ None
unopened config past errand other is =
    not_given config (forward_for config errand.datagram.from past) (socket_for config errand.datagram.from past) past errand
    (sym (step_is_of config past errand other (errand_is config past (NeedsSocket errand) is)) ∙ is)

-- a datagram is sent on the one that is, a port of the host that is given to its port or its own
pub opened_for_it : (config : Config) (past : List Entry) (socket : ℕ) (errand : Errand) → asks_a_name config errand ≡ false → step config past ≡ NeedsSending socket errand
    → (forward_for config errand.datagram.from past ≡ Some socket) ⊎ (socket_for config errand.datagram.from past ≡ Some socket)
opened_for_it config past socket errand other is =
    given_or_own config (forward_for config errand.datagram.from past) (socket_for config errand.datagram.from past) past errand socket
    (sym (step_is_of config past errand other (errand_is config past (NeedsSending socket errand) is)) ∙ is)

-- a question is sent on the socket of the same question
asked_on : (o : Option ℕ) (list : List Question) (errand : Errand) (socket : ℕ) → with_socket o list errand ≡ NeedsSending socket errand → o ≡ Some socket
asked_on (Some s) list errand socket is = (let same : s ≡ socket = cc in ap Some same)
asked_on None list errand socket is = absurd (never list is)
  where
    in_room : (b : Bool) (oldest : ℕ) → (if b then NeedsRoom oldest errand else NeedsSocket errand) ≡ NeedsSending socket errand → ⊥
    in_room true oldest is = cc
    in_room false oldest is = cc

    never : (list : List Question) → without_socket list errand ≡ NeedsSending socket errand → ⊥
    never [] is = cc
    never (q ∷ list) is = in_room _ q.number is

pub opened_for_question : (config : Config) (past : List Entry) (socket : ℕ) (errand : Errand) → asks_a_name config errand ≡ true → step config past ≡ NeedsSending socket errand
    → question_socket errand.datagram.from (ident_in errand.datagram.body) (questions config past) ≡ Some socket
opened_for_question config past socket errand name is =
    asked_on (question_socket errand.datagram.from (ident_in errand.datagram.body) (questions config past)) (questions config past) errand socket
    (sym (step_to_name config past errand name (errand_is config past (NeedsSending socket errand) is)) ∙ is)

-- ---- what goes to an endpoint goes to its target
goes_by : (config : Config) (d : Datagram) (v : Verdict) (to : Endpoint) → datagram_verdict_by config d v ≡ GoesTo to → v ≡ Go to
goes_by config d (Go at) to is = by (is_to_names config d && not (is_question d.body)) is
  where
    by : (b : Bool) → (if b then Ignored else GoesTo at) ≡ GoesTo to → Go at ≡ Go to
    by true is = cc
    by false is = cc
goes_by config d (Denied rule) to is = cc

-- what is decided before doesn't go out
passed_or : (b : Bool) (one other : DatagramVerdict) (to : Endpoint) → (one ≡ GoesTo to → ⊥) → (if b then one else other) ≡ GoesTo to → other ≡ GoesTo to
passed_or true one other to never is = absurd (never is)
passed_or false one other to never is = is

no_lease : (b : Bool) (to : Endpoint) → (if b then Ignored else ForLeases) ≡ GoesTo to → ⊥
no_lease true to is = cc
no_lease false to is = cc

pub goes_by_policy : (config : Config) (d : Datagram) (to : Endpoint) → datagram_verdict config d ≡ GoesTo to → datagram_verdict_by config d (target config ByUdp d.to) ≡ GoesTo to
goes_by_policy config d to is =
    let third = datagram_verdict_by config d (target config ByUdp d.to) in
    let second = if (d.to.port == 69) && (address d.to == config.vhost) then ForFiles else third in
    passed_or ((d.to.port == 69) && (address d.to == config.vhost)) ForFiles third to (λ never. cc)
    (passed_or ((d.to.port == 67) && ((address d.to == config.vhost) || (address d.to == 0xffffffff))) (if config.no_dhcp then Ignored else ForLeases) second to (no_lease config.no_dhcp to)
    (passed_or (d.from.port == 0) Ignored (if (d.to.port == 67) && ((address d.to == config.vhost) || (address d.to == 0xffffffff)) then
    (if config.no_dhcp then Ignored else ForLeases) else second) to (λ never. cc) is))

pub goes_to_target : (config : Config) (d : Datagram) (to : Endpoint) → datagram_verdict config d ≡ GoesTo to → target config ByUdp d.to ≡ Go to
goes_to_target config d to is = goes_by config d (target config ByUdp d.to) to (goes_by_policy config d to is)
