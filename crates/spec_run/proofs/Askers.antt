-- Of each question that waits the trace has that it was asked, or it is sent next.
use Rattle.std.proofs.Common.{◌≡◌, ℕ, ◌<◌, ◌==◌, ◌&&◌, not, Bool, true, false, List, [], ◌∷◌, ◌++◌, MatchOption, Option, Some, None, option_map, unwrap_or, if◌then◌else◌, ◌⊎◌, inl, inr}
use Rattle.std.specs.Option.{option_or}
use Rattle.std.proofs.Common.{refl, sym, ◌∙◌, ap, subst, arith}
use Rattle.std.proofs.lemmas.Bool.Decides.{nat_tests}
use Rattle.world_face.specs.Journal.{Entry, Call, Close, UdpOpen, UdpSend, UdpRecv, CallClose, CallUdpOpen, CallUdpSend, CallUdpRecv, call_of}
use Rattle.world_face.specs.declared.Made.{Made}
use Rattle.world_face.specs.declared.Made.TheVariants.{Done, Failed}
use Rattle.world_face.specs.declared.Sent.{Sent}
use Rattle.world_face.specs.declared.Got.{Got}
use Rattle.world_face.specs.declared.Got.TheVariants.{From, NotYet as GotNotYet, Failed as GotFailed}
use Rattle.net_octets.specs.declared.Endpoint.{Endpoint}
use Rattle.slirp_settings.specs.Addresses.{Config, address}
use Rattle.host_policy.specs.Targets.{by_rules, resolver_on, target}
use Rattle.slirp_settings.specs.Classes.{same_endpoint}
use Rattle.slirp_settings.specs.declared.Proto.TheVariants.{Udp as ByUdp}
use Rattle.host_policy.specs.declared.Verdict.{Verdict}
use Rattle.host_policy.specs.declared.Verdict.TheVariants.{Go, Denied}
use Rattle.host_policy.specs.declared.Rule.{Rule}
use Rattle.host_policy.specs.declared.Rule.TheVariants.{Restricted, PortZero, NameServer}
use Rattle.rules_dns.specs.declared.Question.{Question}
use Rattle.rules_dns.specs.Questions.{ident_in, is_question, socket_of, without}
use Rattle.spec_trace.specs.Moments.{moment, waits}
use Rattle.spec_trace.specs.Packets.{Datagram}
use Rattle.spec_trace.specs.Shape.{Phase, Opening, Started, Woken, Working, Over, due_in, opened, phase}
use Rattle.spec_trace.specs.Sockets.{first, next_number, open_sockets}
use Rattle.spec_run.specs.Asking.{step}
use Rattle.spec_run.specs.Datagrams.{Errand, GoesTo, Ignored, NeedsSending, NeedsSocket, asks_a_name, due_for, datagram_verdict, datagram_verdict_by, is_to_names}
use Rattle.spec_run.specs.Errands.{errand_left}
use Rattle.spec_run.specs.Laws.{May, Lawful, due}
use Rattle.spec_run.specs.Names.{question, questions, step_to_names, with_heard, with_opened, with_sent, with_socket}
use Rattle.spec_run.specs.Ports.{last_datagram, given_port}
use Rattle.spec_run.specs.Questions.{WasAsked}
use Rattle.spec_run.proofs.Bools.{and_both, equal, same}
use Rattle.spec_run.proofs.Joining.{waited_for}
use Rattle.spec_run.proofs.Listed.{AllQuestions, all_last, all_moved, all_so, all_without, socket_last}
use Rattle.spec_run.proofs.Longest.{same_port}
use Rattle.spec_run.proofs.Phases.{HasWaited, has_waited, none_left, opening_call, opens, others_due}
use Rattle.spec_run.proofs.Steps.{Asks, errand_asks, errand_is, goes_by_policy, goes_to_target, step_to_name}

-- ---- a question goes to the resolver

by_go : (o : Option Endpoint) (rule : Rule) (to : Endpoint) → unwrap_or (option_map Go o) (Denied rule) ≡ Go to → o ≡ Some to
by_go None rule to is = cc
by_go (Some at) rule to is = let this : at ≡ to = cc in ap Some this

resolves_by : (config : Config) (port : ℕ) (to : Endpoint) → resolver_on config port ≡ Some to → config.resolver ≡ Some to
resolves_by config port to is = by ((port == 53) && not config.no_dns) is
  where
    by : (b : Bool) → (if b then config.resolver else None) ≡ Some to → config.resolver ≡ Some to
    by true is = is
    by false is = cc

by_rules_of : (config : Config) (at to : Endpoint) → (address at == config.vnameserver) ≡ true → by_rules config at ≡ Go to → config.resolver ≡ Some to
by_rules_of config at to names is = by config.restricted (at.port == 0) (address at == config.vnameserver) _ names is
  where
    by : (shut none server : Bool) (rest : Verdict) → server ≡ true →
        (if shut then Denied Restricted else (if none then Denied PortZero else (if server then unwrap_or (option_map Go (resolver_on config at.port))
        (Denied NameServer) else rest))) ≡ Go to → config.resolver ≡ Some to
    by true none server rest here is = cc
    by false true server rest here is = cc
    by false false true rest here is = resolves_by config at.port to (by_go (resolver_on config at.port) NameServer to is)
    by false false false rest here is = cc

pub to_resolver : (config : Config) (errand : Errand) → asks_a_name config errand ≡ true → datagram_verdict config errand.datagram ≡ GoesTo errand.to → config.resolver ≡ Some errand.to
to_resolver config errand names goes = by_rules_of config errand.datagram.to errand.to names (goes_to_target config errand.datagram errand.to goes)

-- and it is one
question_by : (config : Config) (d : Datagram) (v : Verdict) (to : Endpoint) → is_to_names config d ≡ true → datagram_verdict_by config d v ≡ GoesTo to → is_question d.body ≡ true
question_by config d (Denied rule) to names is = cc
question_by config d (Go at) to names is = by (is_to_names config d) (is_question d.body) names is
  where
    by : (server asks : Bool) → server ≡ true → (if server && not asks then Ignored else GoesTo at) ≡ GoesTo to → asks ≡ true
    by true true here is = refl
    by true false here is = cc
    by false asks here is = cc

pub is_asked : (config : Config) (errand : Errand) → asks_a_name config errand ≡ true → datagram_verdict config errand.datagram ≡ GoesTo errand.to → is_question errand.datagram.body ≡ true
is_asked config errand names goes = question_by config errand.datagram (target config ByUdp errand.datagram.to) errand.to names (goes_by_policy config errand.datagram errand.to goes)

-- ---- one that is opened is sent next

-- the question of a socket wasn't sent yet: that comes next, but where the run is over, and it is closed
record IsUnsent (config : Config) (past : List Entry) (n : ℕ) (guest : Endpoint) (ident : ℕ) : Type 0 where
  errand : Errand
  needs : step config past ≡ NeedsSending n errand
  names : asks_a_name config errand ≡ true
  port : errand.datagram.from ≡ guest
  identifier : ident_in errand.datagram.body ≡ ident
  ahead : (due_in (phase config past) past ≡ None) ⊎ (due_in (phase config past) past ≡ Some (CallClose n))

first_due : (p : Phase) (past : List Entry) (other : Option Call) (socket : ℕ) (at : Endpoint) → HasWaited p (waits past) → 0 < waits past → option_or (due_in p past) other ≡ Some
    (CallUdpOpen socket at)
    → (due_in (opened Done p) (UdpOpen socket at Done ∷ past) ≡ None) ⊎ (due_in (opened Done p) (UdpOpen socket at Done ∷ past) ≡ Some (CallClose socket))
first_due (Opening count forwards) past other socket at waited some is = absurd (omega (arith, waited, some))
first_due Started past other socket at waited some is = inl refl
first_due Woken past other socket at waited some is = absurd cc
first_due Working past other socket at waited some is = inl refl
first_due (Over cause) past other socket at waited some is = by (open_sockets past) is
  where
    by : (sockets : List ℕ) → option_or (option_map CallClose (first sockets)) other ≡ Some (CallUdpOpen socket at)
        → (option_map CallClose (first (sockets ++ (socket ∷ []))) ≡ None) ⊎ (option_map CallClose (first (sockets ++ (socket ∷ []))) ≡ Some (CallClose socket))
    by [] is = inr refl
    by (s ∷ sockets) is = absurd cc

-- a call that is due, and may come, is the one that comes
pub is_due : (config : Config) (past : List Entry) (call d : Call) → May config past call → due config past ≡ Some d → call ≡ d
is_due config past call d may is = subst (λ o. MatchOption o (Unit {0}) (λ x. call ≡ x)) is may.due

no_socket_for : (o : Option ℕ) (list : List Question) (errand : Errand) → with_socket o list errand ≡ NeedsSocket errand → o ≡ None
no_socket_for None list errand is = refl
no_socket_for (Some socket) list errand is = cc

-- a socket is opened for a question where none waits that is of this port with this identifier
pub no_socket_yet : (config : Config) (past : List Entry) (socket : ℕ) (at : Endpoint) (errand : Errand) → May config past (CallUdpOpen socket at) → Lawful config past →
    errand_left config past ≡ Some errand → asks_a_name config errand ≡ true
    → socket_of errand.datagram.from (ident_in errand.datagram.body) (questions config past) ≡ None
no_socket_yet config past socket at errand may lawful left names =
    elim (opens config past socket at may) [
      | inl early ↦ (let none = early.0 in let waited = waited_for config past errand left lawful in let some : 0 < waits past = grind (arith, nat_tests, waited) in absurd (omega (arith, none, some)))
      | inr later ↦ elim later [
        | inl o ↦ no_socket_for (socket_of errand.datagram.from (ident_in errand.datagram.body) (questions config past)) (questions config past) errand
            (sym (step_to_name config past errand names left) ∙ o.asked ∙ ap NeedsSocket (the_same o.errand (sym (errand_is config past (NeedsSocket o.errand) o.asked) ∙ left)))
        | inr given ↦ (let never : Some errand ≡ None = sym left ∙ none_left config past given.nothing in cc)
      ]
    ]
  where
    the_same : (other : Errand) → Some other ≡ Some errand → other ≡ errand
    the_same other is = cc

opened_unsent : (config : Config) (past : List Entry) (socket : ℕ) (at : Endpoint) (errand : Errand) → May config past (CallUdpOpen socket at) → Lawful config past →
    errand_left config past ≡ Some errand → asks_a_name config errand ≡ true
    → IsUnsent config (UdpOpen socket at Done ∷ past) socket errand.datagram.from (ident_in errand.datagram.body)
opened_unsent config past socket at errand may lawful left names = record {
  errand = errand;
  needs = step_to_name config (UdpOpen socket at Done ∷ past) errand names left ∙ ap (λ list. step_to_names list errand) list_is
      ∙ ap (λ o. with_socket o (questions config past ++ (question socket errand (moment past) ∷ [])) errand) (socket_last errand.datagram.from (ident_in errand.datagram.body)
      (questions config past) (question socket errand (moment past))
      (no_socket_yet config past socket at errand may lawful left names)
      (and_both (same_endpoint errand.datagram.from errand.datagram.from) (ident_in errand.datagram.body == ident_in errand.datagram.body) (same_port errand.datagram.from)
      (same (ident_in errand.datagram.body))));
  names = names;
  port = refl;
  identifier = refl;
  ahead = first_due (phase config past) past (option_or (due_for config (step config past) (next_number past)) (others_due config past)) socket at (has_waited config past)
      (let waited = waited_for config past errand left lawful in grind (arith, nat_tests, waited))
      (elim (opening_call config past socket at (given_port config socket) (CallUdpOpen socket at) may.place may.due) [
        | inl is ↦ is
        | inr given ↦ (let never : Some errand ≡ None = sym left ∙ none_left config past given.nothing in cc)
      ]);
}
  where
    list_is : questions config (UdpOpen socket at Done ∷ past) ≡ questions config past ++ (question socket errand (moment past) ∷ [])
    list_is = ap (λ o. with_opened config Done socket (moment past) o (questions config past)) left
        ∙ ap (λ (b : Bool). if b then questions config past ++ (question socket errand (moment past) ∷ []) else questions config past) names

-- the call that comes then
data Following (config : Config) (past : List Entry) (n : ℕ) (guest : Endpoint) (ident : ℕ) (call : Call) : Type 0 where
  AskedNext : (errand : Errand) → call ≡ CallUdpSend n errand.to errand.datagram.body → errand_left config past ≡ Some errand → asks_a_name config errand ≡ true →
      errand.datagram.from ≡ guest → ident_in errand.datagram.body ≡ ident
      → Following config past n guest ident call
  ShutNext : call ≡ CallClose n → Following config past n guest ident call

following : (config : Config) (past : List Entry) (n : ℕ) (guest : Endpoint) (ident : ℕ) (call : Call) → IsUnsent config past n guest ident → May config past call →
    Following config past n guest ident call
following config past n guest ident call u may = elim u.ahead [
  | inl none ↦ AskedNext u.errand
      (is_due config past call (CallUdpSend n u.errand.to u.errand.datagram.body) may
      (ap (λ o. option_or o (option_or (due_for config (step config past) (next_number past)) (others_due config past))) none
      ∙ ap (λ s. option_or (due_for config s (next_number past)) (others_due config past)) u.needs))
      (errand_is config past (NeedsSending n u.errand) u.needs) u.names u.port u.identifier
  | inr shut ↦ ShutNext (is_due config past call (CallClose n) may (ap (λ o. option_or o (option_or (due_for config (step config past) (next_number past)) (others_due config past))) shut))
]

-- ---- so each was asked, or is asked next

abbrev IsAsked : Config → List Entry → Question → Type 0
IsAsked config past q = WasAsked config past q.number q.guest q.ident ⊎ IsUnsent config past q.number q.guest q.ident

abbrev WasAskedOrShut : Config → Entry → List Entry → Question → Type 0
WasAskedOrShut config e past q = WasAsked config (e ∷ past) q.number q.guest q.ident ⊎ (call_of e ≡ CallClose q.number)

was_asked_on : (config : Config) (e : Entry) (past : List Entry) (n : ℕ) (guest : Endpoint) (ident : ℕ) → WasAsked config past n guest ident → WasAsked config (e ∷ past) n guest ident
was_asked_on config e past n guest ident w = record {
  later = e ∷ w.later;
  resolver = w.resolver;
  datagram = w.datagram;
  answer = w.answer;
  earlier = w.earlier;
  sent = ap (λ (l : List Entry). e ∷ l) w.sent;
  resolves = w.resolves;
  last = w.last;
  port = w.port;
  to_names = w.to_names;
  identifier = w.identifier;
}

sent_entry : (e : Entry) (n : ℕ) (to : Endpoint) (octets : List ℕ) → call_of e ≡ CallUdpSend n to octets → (answer : Sent) × (e ≡ UdpSend n to octets answer)
sent_entry (UdpSend s t o answer) n to octets is = (answer, cc)
sent_entry _ n to octets is = absurd cc

asked_on : (config : Config) (e : Entry) (past : List Entry) (q : Question) → May config past (call_of e) → IsAsked config past q → WasAskedOrShut config e past q
asked_on config e past q may asked = elim asked [
  | inl was ↦ inl (was_asked_on config e past q.number q.guest q.ident was)
  | inr unsent ↦ by (following config past q.number q.guest q.ident (call_of e) unsent may)
]
  where
    by : Following config past q.number q.guest q.ident (call_of e) → WasAskedOrShut config e past q
    by (ShutNext is) = inr is
    by (AskedNext errand is left names port identifier) =
        let asks : Asks config (last_datagram config past) errand = errand_asks config past errand left in
        let this = sent_entry e q.number errand.to errand.datagram.body is in
        inl (record {
          later = [];
          resolver = errand.to;
          datagram = errand.datagram;
          answer = this.0;
          earlier = past;
          sent = ap (λ (x : Entry). x ∷ past) this.1;
          resolves = to_resolver config errand names asks.goes;
          last = asks.datagram;
          port = port;
          to_names = equal (address errand.datagram.to) config.vnameserver names;
          identifier = identifier;
        })

all_asked_on : (config : Config) (e : Entry) (past : List Entry) (list : List Question) → May config past (call_of e) → AllQuestions (IsAsked config past) list → AllQuestions
    (WasAskedOrShut config e past) list
all_asked_on config e past list may all = all_so (IsAsked config past) (WasAskedOrShut config e past) list (λ q asked. asked_on config e past q may asked) all

-- the entry is no close
stay_asked : (config : Config) (e : Entry) (past : List Entry) (list : List Question) → ((n : ℕ) → call_of e ≡ CallClose n → ⊥) → AllQuestions (WasAskedOrShut config e past) list →
    AllQuestions (IsAsked config (e ∷ past)) list
stay_asked config e past list never all = all_so (WasAskedOrShut config e past) (IsAsked config (e ∷ past)) list (λ q either. elim either [
  | inl was ↦ inl was
  | inr shut ↦ absurd (never q.number shut)
]) all

opened_asked : (config : Config) (past : List Entry) (socket : ℕ) (at : Endpoint) (answer : Made) (o : Option Errand) → May config past (CallUdpOpen socket at) →
    Lawful config past → errand_left config past ≡ o
    → AllQuestions (IsAsked config (UdpOpen socket at answer ∷ past)) (questions config past) → AllQuestions (IsAsked config (UdpOpen socket at answer ∷ past))
    (with_opened config answer socket (moment past) o (questions config past))
opened_asked config past socket at Done None may lawful left all = all
opened_asked config past socket at Failed o may lawful left all = all
opened_asked config past socket at Done (Some errand) may lawful left all = by (asks_a_name config errand) refl
  where
    by : (b : Bool) → asks_a_name config errand ≡ b → AllQuestions (IsAsked config (UdpOpen socket at Done ∷ past))
        (if b then questions config past ++ (question socket errand (moment past) ∷ []) else questions config past)
    by true names = all_last (IsAsked config (UdpOpen socket at Done ∷ past)) (questions config past) (question socket errand (moment past)) all
        (inr (opened_unsent config past socket at errand may lawful left names))
    by false names = all

sent_asked : (config : Config) (past : List Entry) (socket now : ℕ) (o : Option Errand) (list : List Question) → AllQuestions (IsAsked config past) list → AllQuestions
    (IsAsked config past) (with_sent socket now o list)
sent_asked config past socket now None list all = all
sent_asked config past socket now (Some errand) list all = all_moved (IsAsked config past) _ socket list (λ q asked. asked) all

heard_asked : (config : Config) (past : List Entry) (answer : Got) (socket now : ℕ) (list : List Question) → AllQuestions (IsAsked config past) list → AllQuestions
    (IsAsked config past) (with_heard answer socket now list)
heard_asked config past (From peer n) socket now list all = all_moved (IsAsked config past) _ socket list (λ q asked. asked) all
heard_asked config past GotNotYet socket now list all = all
heard_asked config past GotFailed socket now list all = all

closed_asked : (config : Config) (past : List Entry) (socket : ℕ) (list : List Question) → AllQuestions (WasAskedOrShut config (Close socket) past) list → AllQuestions
    (IsAsked config (Close socket ∷ past)) (without socket list)
closed_asked config past socket list all = all_so (λ q. WasAskedOrShut config (Close socket) past q × ((q.number == socket) ≡ false)) (IsAsked config (Close socket ∷ past))
    (without socket list) (λ q both. left q both.0 both.1) (all_without (WasAskedOrShut config (Close socket) past) socket list all)
  where
    left : (q : Question) → WasAskedOrShut config (Close socket) past q → (q.number == socket) ≡ false → IsAsked config (Close socket ∷ past) q
    left q either other = elim either [
      | inl was ↦ inl was
      | inr shut ↦ (let this : q.number ≡ socket = cc in absurd (let never : true ≡ false = sym (same q.number) ∙ ap (λ m. q.number == m) this ∙ other in cc))
    ]

asked_by : (config : Config) (e : Entry) (past : List Entry) → May config past (call_of e) → Lawful config past → AllQuestions (WasAskedOrShut config e past)
    (questions config past) → AllQuestions (IsAsked config (e ∷ past)) (questions config (e ∷ past))
asked_by config (Close socket) past may lawful all = closed_asked config past socket (questions config past) all
asked_by config (UdpOpen socket at answer) past may lawful all =
    opened_asked config past socket at answer (errand_left config past) may lawful refl (stay_asked config (UdpOpen socket at answer) past (questions config past) (λ n is. cc) all)
asked_by config (UdpSend socket to octets answer) past may lawful all =
    sent_asked config (UdpSend socket to octets answer ∷ past) socket (moment past) (errand_left config past) (questions config past)
    (stay_asked config (UdpSend socket to octets answer) past (questions config past) (λ n is. cc) all)
asked_by config (UdpRecv socket asked answer octets) past may lawful all =
    heard_asked config (UdpRecv socket asked answer octets ∷ past) answer socket (moment past) (questions config past) (stay_asked config (UdpRecv socket asked answer octets) past
    (questions config past) (λ n is. cc) all)
asked_by config e past may lawful all = stay_asked config e past (questions config past) (λ n is. cc) all

are_asked : (config : Config) (past : List Entry) → Lawful config past → AllQuestions (IsAsked config past) (questions config past)
are_asked config [] lawful = tt
are_asked config (e ∷ past) lawful = asked_by config e past lawful.0 lawful.1 (all_asked_on config e past (questions config past) lawful.0 (are_asked config past lawful.1))

-- where something is received each was asked
abbrev pub WasAskedOf : Config → List Entry → Question → Type 0
WasAskedOf config past q = WasAsked config past q.number q.guest q.ident

pub all_were_asked : (config : Config) (past : List Entry) (socket asked : ℕ) → Lawful config past → May config past (CallUdpRecv socket asked) → AllQuestions
    (WasAskedOf config past) (questions config past)
all_were_asked config past socket asked lawful may = all_so (IsAsked config past) (WasAskedOf config past) (questions config past) was (are_asked config past lawful)
  where
    by : (q : Question) → Following config past q.number q.guest q.ident (CallUdpRecv socket asked) → WasAskedOf config past q
    by q (ShutNext is) = absurd cc
    by q (AskedNext errand is left names port identifier) = absurd cc

    was : (q : Question) → IsAsked config past q → WasAskedOf config past q
    was q either = elim either [
      | inl asked ↦ asked
      | inr unsent ↦ by q (following config past q.number q.guest q.ident (CallUdpRecv socket asked) unsent may)
    ]
