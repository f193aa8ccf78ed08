-- What is sent on the socket of a question is a question, and goes to the resolver.
use Rattle.std.proofs.Common.{◌≡◌, ℕ, ◌==◌, nat_lt, Bool, true, false, List, [], ◌∷◌, Option, Some, None, if◌then◌else◌, inl, inr, refl, sym, ◌∙◌, ap, arith}
use Rattle.world_face.specs.Journal.{Entry, Connect, Listen, Accept, UdpOpen, CallUdpSend, CallUdpOpen}
use Rattle.net_octets.specs.declared.Endpoint.{Endpoint}
use Rattle.slirp_settings.specs.Addresses.{Config, address}
use Rattle.rules_dns.specs.Questions.{is_question}
use Rattle.spec_trace.specs.Moments.{waits}
use Rattle.spec_trace.specs.Packets.{Datagram}
use Rattle.spec_trace.specs.Sockets.{Kind, Association, DnsSocket, Forward, Listener, Flow, datagram_kind, is_among, is_association, is_forward, kind_of, open_sockets}
use Rattle.spec_run.specs.Asking.{step}
use Rattle.spec_run.specs.Datagrams.{Errand, NeedsSending, asks_a_name}
use Rattle.spec_run.specs.Errands.{errand_left}
use Rattle.spec_run.specs.Laws.{May, Lawful}
use Rattle.spec_run.specs.Names.{datagram_kind_for, kind_for}
use Rattle.spec_run.specs.Ports.{associations_open, forwards_open, is_port, last_datagram, opened_for}
use Rattle.spec_run.specs.Questions.{is_for_question}
use Rattle.spec_run.proofs.Askers.{is_asked, to_resolver}
use Rattle.spec_run.proofs.Bools.{equal, second_of}
use Rattle.spec_run.proofs.Joining.{waited_for}
use Rattle.spec_run.proofs.Longest.{among_if, find_some}
use Rattle.spec_run.proofs.Phases.{at_any_port, sends}
use Rattle.spec_run.proofs.Steps.{Asks, errand_asks, errand_is, opened_for_it}
use Rattle.std.proofs.lemmas.Bool.Decides.{nat_tests}

-- ---- a question's socket is no association, and no port of the host that is given to a guest

apart : (k : Option Kind) → is_for_question k ≡ true → is_association k ≡ true → ⊥
apart (Some DnsSocket) one other = cc
apart (Some Association) one other = cc
apart (Some Forward) one other = cc
apart (Some Listener) one other = cc
apart (Some Flow) one other = cc
apart None one other = cc

no_forward_for : (config : Config) (past : List Entry) (socket : ℕ) (at : Endpoint) (o : Option Errand) → May config past (CallUdpOpen socket at) → Lawful config past
    → errand_left config past ≡ o → is_for_question (Some (datagram_kind_for config (nat_lt 0 (waits past)) at.port o)) ≡ true
    → is_forward (Some (datagram_kind (nat_lt 0 (waits past)) at.port)) ≡ false
no_forward_for config past socket at None may lawful left one = absurd (by (nat_lt 0 (waits past)) (at.port == 0) refl one)
  where
    by : (waited z : Bool) → (at.port == 0) ≡ z → is_for_question (Some (datagram_kind waited at.port)) ≡ true → ⊥
    by true true any is = (let same : false ≡ true = sym (ap (λ (z : Bool). is_for_question (Some (if z then Association else Forward))) any) ∙ is in cc)
    by true false named is = (let same : false ≡ true = sym (ap (λ (z : Bool). is_for_question (Some (if z then Association else Forward))) named) ∙ is in cc)
    by false z named is = cc
no_forward_for config past socket at (Some errand) may lawful left one =
    let waited = waited_for config past errand left lawful in
    ap (λ (b : Bool). is_forward (Some (datagram_kind b at.port))) waited ∙ ap (λ port. is_forward (Some (datagram_kind true port))) (at_any_port config past socket at errand (grind (arith, nat_tests, waited)) left may)

either : (b : Bool) (one other before now : Option Kind) → (is_for_question one ≡ true → is_forward other ≡ false) → (is_for_question before ≡ true → is_forward now ≡ false) →
    is_for_question (if b then one else before) ≡ true → is_forward (if b then other else now) ≡ false
either true one other before now first second is = first is
either false one other before now first second is = second is

no_forward : (config : Config) (n : ℕ) (past : List Entry) → Lawful config past → is_for_question (kind_for config n past) ≡ true → is_forward (kind_of n past) ≡ false
no_forward config n (Connect socket to answer ∷ past) lawful = either (socket == n) _ _ (kind_for config n past) (kind_of n past) (λ is. refl) (no_forward config n past lawful.1)
no_forward config n (Listen socket at answer ∷ past) lawful = either (socket == n) _ _ (kind_for config n past) (kind_of n past) (λ is. refl) (no_forward config n past lawful.1)
no_forward config n (UdpOpen socket at answer ∷ past) lawful = either (socket == n) _ _ (kind_for config n past) (kind_of n past)
    (no_forward_for config past socket at (errand_left config past) lawful.0 lawful.1 refl) (no_forward config n past lawful.1)
no_forward config n (Accept listener socket answer ∷ past) lawful = either (socket == n) _ _ (kind_for config n past) (kind_of n past) (λ is. refl) (no_forward config n past lawful.1)
no_forward config n (_ ∷ past) lawful = no_forward config n past lawful.1
no_forward config n [] lawful = λ is. refl

-- ---- so what is sent on it is a question

pub names_asked : (config : Config) (past : List Entry) (socket : ℕ) (errand : Errand) → Lawful config past → is_for_question (kind_for config socket past) ≡ true →
    step config past ≡ NeedsSending socket errand → asks_a_name config errand ≡ true
names_asked config past socket errand lawful one needs = by (asks_a_name config errand) refl
  where
    by : (b : Bool) → asks_a_name config errand ≡ b → b ≡ true
    by true names = refl
    by false other = absurd (elim (opened_for_it config past socket errand other needs) [
      | inl given ↦ (let is = second_of (is_among socket (open_sockets past)) (is_forward (kind_of socket past))
          (sym (among_if (λ s. is_forward (kind_of s past)) socket (open_sockets past)) ∙ (find_some (λ s. is_port errand.datagram.from (opened_for config s past))
          (forwards_open past) socket given).1) in
          let not = no_forward config socket past lawful one in
          let never : true ≡ false = sym is ∙ not in
          cc)
      | inr own ↦ (let is = second_of (is_among socket (open_sockets past)) (is_association (kind_for config socket past))
          (sym (among_if (λ s. is_association (kind_for config s past)) socket (open_sockets past)) ∙ (find_some (λ s. is_port errand.datagram.from (opened_for config s past))
          (associations_open config past) socket own).1) in
          apart (kind_for config socket past) one is)
    ])

pub goes_to_resolver : (config : Config) (past : List Entry) (socket : ℕ) (to : Endpoint) (octets : List ℕ) → Lawful config past → May config past (CallUdpSend socket to octets) →
    is_for_question (kind_for config socket past) ≡ true → config.resolver ≡ Some to
goes_to_resolver config past socket to octets lawful may one =
    let s = sends config past socket to octets may in
    let asks : Asks config (last_datagram config past) s.errand = errand_asks config past s.errand (errand_is config past (NeedsSending socket s.errand) s.asked) in
    to_resolver config s.errand (names_asked config past socket s.errand lawful one s.asked) asks.goes ∙ ap Some (sym s.target)

pub asks_of_names : (config : Config) (past : List Entry) (socket : ℕ) (to : Endpoint) (octets : List ℕ) → Lawful config past → May config past (CallUdpSend socket to octets) →
    is_for_question (kind_for config socket past) ≡ true
    → (d : Datagram) × (last_datagram config past ≡ Some d) × (address d.to ≡ config.vnameserver) × (octets ≡ d.body) × (is_question octets ≡ true)
asks_of_names config past socket to octets lawful may one =
    let s = sends config past socket to octets may in
    let asks : Asks config (last_datagram config past) s.errand = errand_asks config past s.errand (errand_is config past (NeedsSending socket s.errand) s.asked) in
    let names = names_asked config past socket s.errand lawful one s.asked in
    (s.errand.datagram, asks.datagram, equal (address s.errand.datagram.to) config.vnameserver names, s.whole, ap is_question s.whole ∙ is_asked config s.errand names asks.goes)
