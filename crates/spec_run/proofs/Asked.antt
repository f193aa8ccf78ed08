-- What the list of questions has of each is what the trace says of its socket.
use Rattle.std.proofs.Common.{◌≡◌, ℕ, ◌<◌, ◌==◌, nat_lt, not, Bool, true, false, List, [], ◌∷◌, ◌++◌, Option, Some, None, option_map, if◌then◌else◌, refl, sym, ◌∙◌, ap, subst, arith}
use Rattle.std.proofs.lemmas.Bool.Decides.{nat_tests}
use Rattle.world_face.specs.Journal.{Entry, Connect, Listen, Accept, Close, UdpOpen, UdpSend, UdpRecv, call_of}
use Rattle.world_face.specs.declared.Made.{Made}
use Rattle.world_face.specs.declared.Made.TheVariants.{Done, Failed}
use Rattle.world_face.specs.declared.Got.{Got}
use Rattle.world_face.specs.declared.Got.TheVariants.{From, NotYet as GotNotYet, Failed as GotFailed}
use Rattle.net_octets.specs.declared.Endpoint.{Endpoint}
use Rattle.slirp_settings.specs.Addresses.{Config}
use Rattle.slirp_settings.specs.Classes.{same_endpoint}
use Rattle.rules_dns.specs.declared.Question.{Question}
use Rattle.rules_dns.specs.Questions.{heard_at, socket_of, without}
use Rattle.spec_trace.specs.Moments.{moment, waits}
use Rattle.spec_trace.specs.Packets.{Datagram}
use Rattle.spec_trace.specs.Sockets.{DnsSocket, Listener as OfListener, Flow as OfFlow, datagram_kind, is_flow, kind_of, next_number}
use Rattle.spec_run.specs.Datagrams.{Errand, asks_a_name}
use Rattle.spec_run.specs.Errands.{errand_left}
use Rattle.spec_run.specs.Laws.{May, Lawful}
use Rattle.spec_run.specs.Names.{datagram_kind_for, kind_for, question, questions, with_heard, with_opened, with_sent}
use Rattle.spec_run.specs.Ports.{given_port, last_port, opened_for, port_for}
use Rattle.spec_run.proofs.Bools.{equal, first_of, same}
use Rattle.spec_run.proofs.Joining.{waited_for}
use Rattle.spec_run.proofs.Listed.{AllQuestions, all_last, all_left, all_moved, all_so, socket_found}
use Rattle.spec_run.proofs.Longest.{equal_endpoints}
use Rattle.spec_run.proofs.OpenSockets.{peer_next}
use Rattle.spec_run.proofs.Sorts.{same_flow}
use Rattle.spec_run.proofs.Steps.{errand_asks}
use Rattle.spec_run.proofs.Uses.{drawn_on}
use Rattle.spec_run.proofs.Phases.{at_any_port}

-- the port for which its socket was opened, that this is of the kind of questions, and that its number was drawn
pub record KeptQuestion (config : Config) (past : List Entry) (q : Question) : Type 0 where
  pub guest : opened_for config q.number past ≡ Some q.guest
  pub kind : kind_for config q.number past ≡ Some DnsSocket
  pub drawn : q.number < next_number past

abbrev pub AreKeptQuestions : Config → List Entry → List Question → Type 0
AreKeptQuestions config past list = AllQuestions (KeptQuestion config past) list

-- ---- of one

not_new : (s n number : ℕ) → (s == number) ≡ true → n < number → (s == n) ≡ false
not_new s n number new drawn = grind (arith, nat_tests, new, drawn)

opened_on : (config : Config) (e : Entry) (past : List Entry) (n : ℕ) → May config past (call_of e) → n < next_number past → opened_for config n (e ∷ past) ≡ opened_for config n past
opened_on config (UdpOpen s at answer) past n may drawn = ap (λ (b : Bool). if b then port_for config at.port n past else opened_for config n past) (not_new s n (next_number past) may.socket drawn)
opened_on config _ past n may drawn = refl

kind_on : (config : Config) (e : Entry) (past : List Entry) (n : ℕ) → May config past (call_of e) → n < next_number past → kind_for config n (e ∷ past) ≡ kind_for config n past
kind_on config (Connect socket to answer) past n may drawn = ap (λ (b : Bool). if b then Some OfFlow else kind_for config n past) (not_new socket n (next_number past) may.socket drawn)
kind_on config (Listen socket at answer) past n may drawn = ap (λ (b : Bool). if b then Some OfListener else kind_for config n past) (not_new socket n (next_number past) may.socket drawn)
kind_on config (UdpOpen socket at answer) past n may drawn = ap
    (λ (b : Bool). if b then Some (datagram_kind_for config (nat_lt 0 (waits past)) at.port (errand_left config past)) else kind_for config n past) (not_new socket n (next_number past) may.socket drawn)
kind_on config (Accept listener socket answer) past n may drawn = ap (λ (b : Bool). if b then Some OfFlow else kind_for config n past)
    (not_new socket n (next_number past) (peer_next config past listener socket answer may) drawn)
kind_on config _ past n may drawn = refl

kept_on : (config : Config) (e : Entry) (past : List Entry) (q : Question) → May config past (call_of e) → KeptQuestion config past q → KeptQuestion config (e ∷ past) q
kept_on config e past q may kept = record {
  guest = opened_on config e past q.number may kept.drawn ∙ kept.guest;
  kind = kind_on config e past q.number may kept.drawn ∙ kept.kind;
  drawn = drawn_on e past q.number kept.drawn;
}

-- ---- by an entry

opened_kept : (config : Config) (past : List Entry) (socket : ℕ) (at : Endpoint) (answer : Made) (o : Option Errand) → May config past (call_of (UdpOpen socket at answer)) →
    Lawful config past → errand_left config past ≡ o
    → AreKeptQuestions config (UdpOpen socket at answer ∷ past) (questions config past) → AreKeptQuestions config (UdpOpen socket at answer ∷ past)
    (with_opened config answer socket (moment past) o (questions config past))
opened_kept config past socket at Done None may lawful left kept = kept
opened_kept config past socket at Failed o may lawful left kept = kept
opened_kept config past socket at Done (Some errand) may lawful left kept = by (asks_a_name config errand) refl
  where
    new : asks_a_name config errand ≡ true → KeptQuestion config (UdpOpen socket at Done ∷ past) (question socket errand (moment past))
    new name = record {
      guest = ap (λ (b : Bool). if b then port_for config at.port socket past else opened_for config socket past) (same socket)
          ∙ ap (λ port. port_for config port socket past)
          (at_any_port config past socket at errand (let waited = waited_for config past errand left lawful in grind (arith, nat_tests, waited)) left may)
          ∙ ap (λ (b : Bool). if b then last_port config past else given_port config socket) (waited_for config past errand left lawful) ∙ ap
          (option_map (λ (d : Datagram). d.from)) (errand_asks config past errand left).datagram;
      kind = ap (λ (b : Bool). if b then Some (datagram_kind_for config (nat_lt 0 (waits past)) at.port (errand_left config past)) else kind_for config socket past) (same socket)
          ∙ ap (λ o. Some (datagram_kind_for config (nat_lt 0 (waits past)) at.port o)) left
          ∙ ap (λ (b : Bool). Some (if b then DnsSocket else datagram_kind (nat_lt 0 (waits past)) at.port)) name;
      drawn = (let number = may.socket in let here : socket ≡ next_number past = grind (arith, nat_tests, number) in omega (arith, here));
    }

    by : (b : Bool) → asks_a_name config errand ≡ b → AreKeptQuestions config (UdpOpen socket at Done ∷ past)
        (if b then questions config past ++ (question socket errand (moment past) ∷ []) else questions config past)
    by true name = all_last (KeptQuestion config (UdpOpen socket at Done ∷ past)) (questions config past) (question socket errand (moment past)) kept (new name)
    by false other = kept

same_question : (config : Config) (past : List Entry) (q other : Question) → other.number ≡ q.number → other.guest ≡ q.guest → KeptQuestion config past q → KeptQuestion config past other
same_question config past q other number guest kept = record {
  guest = ap (λ n. opened_for config n past) number ∙ kept.guest ∙ ap Some (sym guest);
  kind = ap (λ n. kind_for config n past) number ∙ kept.kind;
  drawn = (let before = kept.drawn in omega (arith, before, number));
}

sent_kept : (config : Config) (past : List Entry) (socket now : ℕ) (o : Option Errand) (list : List Question) → AreKeptQuestions config past list → AreKeptQuestions config past
    (with_sent socket now o list)
sent_kept config past socket now None list kept = kept
sent_kept config past socket now (Some errand) list kept = all_moved (KeptQuestion config past) _ socket list (λ q one. same_question config past q _ refl refl one) kept

heard_kept : (config : Config) (past : List Entry) (answer : Got) (socket now : ℕ) (list : List Question) → AreKeptQuestions config past list → AreKeptQuestions config past
    (with_heard answer socket now list)
heard_kept config past (From peer n) socket now list kept = all_moved (KeptQuestion config past) (heard_at now) socket list (λ q one. same_question config past q (heard_at now q) refl refl one) kept
heard_kept config past GotNotYet socket now list kept = kept
heard_kept config past GotFailed socket now list kept = kept

kept_by : (config : Config) (e : Entry) (past : List Entry) → May config past (call_of e) → Lawful config past → AreKeptQuestions config (e ∷ past) (questions config past) →
    AreKeptQuestions config (e ∷ past) (questions config (e ∷ past))
kept_by config (Close socket) past may lawful kept = all_left (KeptQuestion config (Close socket ∷ past)) socket (questions config past) kept
kept_by config (UdpOpen socket at answer) past may lawful kept = opened_kept config past socket at answer (errand_left config past) may lawful refl kept
kept_by config (UdpSend socket to octets answer) past may lawful kept = sent_kept config (UdpSend socket to octets answer ∷ past) socket (moment past) (errand_left config past)
    (questions config past) kept
kept_by config (UdpRecv socket asked answer octets) past may lawful kept = heard_kept config (UdpRecv socket asked answer octets ∷ past) answer socket (moment past) (questions config past) kept
kept_by config _ past may lawful kept = kept

pub kept_questions : (config : Config) (past : List Entry) → Lawful config past → AreKeptQuestions config past (questions config past)
kept_questions config [] lawful = tt
kept_questions config (e ∷ past) lawful = kept_by config e past lawful.0 lawful.1
    (all_so (KeptQuestion config past) (KeptQuestion config (e ∷ past)) (questions config past) (λ q kept. kept_on config e past q lawful.0 kept) (kept_questions config past lawful.1))

-- ---- the socket of a question was opened for the port that asks it

pub asked_for : (config : Config) (past : List Entry) (guest : Endpoint) (ident socket : ℕ) → Lawful config past → socket_of guest ident (questions config past) ≡ Some socket →
    opened_for config socket past ≡ Some guest
asked_for config past guest ident socket lawful is =
    let q = socket_found (KeptQuestion config past) guest ident socket (questions config past) (kept_questions config past lawful) is in
    subst (λ n. opened_for config n past ≡ Some guest) q.3 (q.1.guest ∙ ap Some (equal_endpoints q.0.guest guest (first_of (same_endpoint q.0.guest guest) (q.0.ident == ident) q.2)))

-- ---- the socket of a connection is no question's

apart_from : (config : Config) (past : List Entry) (n : ℕ) (list : List Question) → AreKeptQuestions config past list → is_flow (kind_for config n past) ≡ true → without n list ≡ list
apart_from config past n [] kept flow = refl
apart_from config past n (q ∷ list) kept flow = by (q.number == n) refl (apart_from config past n list kept.1 flow)
  where
    by : (b : Bool) → (q.number == n) ≡ b → without n list ≡ list → (if not b then q ∷ without n list else without n list) ≡ q ∷ list
    by true here rest =
        let no : false ≡ true = sym (ap is_flow (subst (λ m. kind_for config m past ≡ Some DnsSocket) (equal q.number n here) kept.0.kind)) ∙ flow in
        cc
    by false other rest = ap (λ (l : List Question). q ∷ l) rest

pub flow_asks_none : (config : Config) (past : List Entry) (n : ℕ) → Lawful config past → is_flow (kind_of n past) ≡ true → without n (questions config past) ≡ questions config past
flow_asks_none config past n lawful flow = apart_from config past n (questions config past) (kept_questions config past lawful) (same_flow config n past ∙ flow)
