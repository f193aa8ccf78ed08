-- What is due for a datagram of a guest: a socket is opened for it once, and it is sent once.
use Rattle.std.proofs.Common.{◌≡◌, ℕ, ◌+◌, ◌≤◌, ◌==◌, nat_lt, Bool, true, false, List, [], ◌∷◌, ◌++◌, Option, Some, None, option_map, if◌then◌else◌, refl, sym, ◌∙◌, ap, subst, arith}
use Rattle.std.specs.Option.{option_or}
use Rattle.net_octets.specs.declared.Endpoint.{Endpoint}
use Rattle.world_face.specs.Frames.{is_whole, partial}
use Rattle.world_face.specs.Journal.{AreAllowed, Call, Entry, call_of, Now, Wait, LinkOpen, LinkRead, LinkWrite, Connect, Connected, Listen, Accept, TcpRead, TcpWrite, TcpEnd, Close}
use Rattle.world_face.specs.Journal.{UdpOpen, UdpSend, UdpRecv, FileLen, FileRead, CallClose, CallLinkRead, CallUdpOpen, CallUdpSend}
use Rattle.world_face.specs.declared.Io.{Io}
use Rattle.world_face.specs.declared.Made.{Made}
use Rattle.world_face.specs.declared.Made.TheVariants.{Done, Failed}
use Rattle.world_face.specs.declared.Sent.{Sent}
use Rattle.slirp_settings.specs.Addresses.{Config}
use Rattle.rules_dns.specs.Questions.{ident_in}
use Rattle.spec_trace.specs.Happenings.{Arrival, arrival_of}
use Rattle.spec_trace.specs.Fragments.{waiting}
use Rattle.spec_trace.specs.Moments.{moment, waits}
use Rattle.spec_trace.specs.Packets.{Datagram}
use Rattle.spec_trace.specs.Shape.{Phase, Opening, Over, Started, Woken, Working, due_in, is_working, opened, phase, phase_after}
use Rattle.spec_trace.specs.Sockets.{datagram_kind, is_among, is_association, next_number, open_sockets, DnsSocket}
use Rattle.spec_run.specs.Asking.{step, step_of, step_on}
use Rattle.spec_run.specs.Datagrams.{Errand, Step, NeedsNothing, NeedsRoom, NeedsSending, NeedsSocket, asks_a_name, due_for}
use Rattle.spec_run.specs.Errands.{errand_after, errand_left}
use Rattle.spec_run.specs.Laws.{May, Lawful, due}
use Rattle.spec_run.specs.Names.{kind_for, question, questions, step_to_names, with_opened, with_socket, datagram_kind_for}
use Rattle.spec_run.specs.Ports.{associations_open, forward_for, given_port, is_port, last_port, opened_for, port_for, socket_for}
use Rattle.spec_run.proofs.Askers.{is_due, no_socket_yet}
use Rattle.spec_run.proofs.Bools.{among_last, and_both, or_second, same}
use Rattle.spec_run.proofs.Joining.{waited_for}
use Rattle.spec_run.proofs.Listed.{socket_last}
use Rattle.spec_run.proofs.Longest.{among_if, find_none, same_port}
use Rattle.spec_run.proofs.Phases.{Opens, at_any_port, others_due, sends}
use Rattle.spec_run.proofs.Steps.{OfErrand, all_errands, errand_asks, errand_in, errand_is, of_errand, step_is_of, step_to_name}
use Rattle.spec_turns.proofs.Asking.{it_came}
use Rattle.std.specs.Prelude.{drop}
use Rattle.slirp_settings.specs.Classes.{same_endpoint}
use Rattle.std.proofs.lemmas.Bool.Decides.{nat_tests}

-- ---- it is asked for in a turn alone

abbrev pub InTurn : Config → List Entry → Type 0
InTurn config past = OfErrand (λ (errand : Errand). is_working (phase config past) ≡ true) (errand_left config past)

working_none : (p : Phase) (past : List Entry) → is_working p ≡ true → due_in p past ≡ None
working_none Working past is = refl
working_none (Opening count forwards) past is = cc
working_none Started past is = cc
working_none Woken past is = cc
working_none (Over cause) past is = cc

-- the call that is due for it
due_now : (config : Config) (past : List Entry) (s : Step) (call : Call) (errand : Errand) → InTurn config past → step config past ≡ s → errand_in s ≡ Some errand →
    due_for config s (next_number past) ≡ Some call → due config past ≡ Some call
due_now config past s call errand turn is left this =
    let working : is_working (phase config past) ≡ true = subst (λ o. OfErrand (λ (errand : Errand). is_working (phase config past) ≡ true) o) (errand_is config past s is ∙ left) turn in
    ap (λ o. option_or o (option_or (due_for config (step config past) (next_number past)) (others_due config past))) (working_none (phase config past) past working)
    ∙ ap (λ o. option_or o (others_due config past)) (ap (λ x. due_for config x (next_number past)) is ∙ this)

abbrev pub IsIdle : Call → Type 0
IsIdle (CallClose socket) = ⊥
IsIdle (CallUdpOpen socket at) = ⊥
IsIdle (CallUdpSend socket to octets) = ⊥
IsIdle _ = Unit {0}

pub idle_none : (config : Config) (past : List Entry) (call : Call) → May config past call → IsIdle call → InTurn config past → errand_left config past ≡ None
idle_none config past call may idle turn = by (step config past) refl
  where
    by : (s : Step) → step config past ≡ s → errand_left config past ≡ None
    by NeedsNothing is = errand_is config past NeedsNothing is
    by (NeedsRoom oldest errand) is = absurd (subst IsIdle (is_due config past call (CallClose oldest) may
        (due_now config past (NeedsRoom oldest errand) (CallClose oldest) errand turn is refl refl)) idle)
    by (NeedsSocket errand) is = absurd (subst IsIdle (is_due config past call _ may (due_now config past (NeedsSocket errand) _ errand turn is refl refl)) idle)
    by (NeedsSending socket errand) is = absurd (subst IsIdle (is_due config past call _ may (due_now config past (NeedsSending socket errand) _ errand turn is refl refl)) idle)

none_in_turn : (config : Config) (past later : List Entry) → errand_left config past ≡ None → OfErrand (λ (errand : Errand). is_working (phase config later) ≡ true) (errand_left config past)
none_in_turn config past later none = subst (λ o. OfErrand (λ (errand : Errand). is_working (phase config later) ≡ true) o) (sym none) tt

opened_working : (p : Phase) → is_working p ≡ true → is_working (opened Done p) ≡ true
opened_working Working is = refl
opened_working (Opening count forwards) is = cc
opened_working Started is = cc
opened_working Woken is = cc
opened_working (Over cause) is = cc

abbrev pub came_by : Config → List Entry → (asked : ℕ) (answer : Io) (octets : List ℕ) → (b : Bool) → Option Arrival
came_by config past asked answer octets b = option_map (arrival_of config (moment past) (waiting config past)) (if b then Some (drop 4 (partial past ++ octets)) else None)

read_turn : (config : Config) (past : List Entry) (asked : ℕ) (answer : Io) (octets : List ℕ) → Lawful config (LinkRead asked answer octets ∷ past) → AreAllowed
    (LinkRead asked answer octets ∷ past) → InTurn config past
    → InTurn config (LinkRead asked answer octets ∷ past)
read_turn config past asked answer octets lawful allowed turn = by (is_whole (partial past ++ octets)) refl
  where
    by : (b : Bool) → is_whole (partial past ++ octets) ≡ b
        → OfErrand (λ (errand : Errand). is_working (phase config (LinkRead asked answer octets ∷ past)) ≡ true) (errand_after config (LinkRead asked answer octets)
        (came_by config past asked answer octets b) (errand_left config past))
    by true whole = all_errands (λ (errand : Errand). is_working (phase config (LinkRead asked answer octets ∷ past)) ≡ true) (errand_after config (LinkRead asked answer octets)
        (came_by config past asked answer octets true) (errand_left config past))
        (λ errand is. ap (λ o. is_working (phase_after (LinkRead asked answer octets) o (phase config past)))
        (it_came config past asked answer octets lawful.1 allowed.1 lawful.0 allowed.0 whole).goes_on ∙ lawful.0.place)
    by false part = none_in_turn config past (LinkRead asked answer octets ∷ past) (idle_none config past (CallLinkRead asked) lawful.0 tt turn)

opened_turn : (config : Config) (past : List Entry) (socket : ℕ) (at : Endpoint) (answer : Made) → InTurn config past → InTurn config (UdpOpen socket at answer ∷ past)
opened_turn config past socket at Done turn = of_errand (λ errand. is_working (phase config past) ≡ true) (λ errand. is_working (opened Done (phase config past)) ≡ true)
    (λ errand is. opened_working (phase config past) is) (errand_left config past) turn
opened_turn config past socket at Failed turn = tt

pub in_turn : (config : Config) (past : List Entry) → Lawful config past → AreAllowed past → InTurn config past
in_turn config [] lawful allowed = tt
in_turn config (e ∷ past) lawful allowed = by e lawful allowed (in_turn config past lawful.1 allowed.1)
  where
    by : (e : Entry) → Lawful config (e ∷ past) → AreAllowed (e ∷ past) → InTurn config past → InTurn config (e ∷ past)
    by (LinkRead asked answer octets) lawful allowed turn = read_turn config past asked answer octets lawful allowed turn
    by (UdpOpen socket at answer) lawful allowed turn = opened_turn config past socket at answer turn
    by (UdpSend socket to octets answer) lawful allowed turn = tt
    by (Close socket) lawful allowed turn = turn
    by (Now told) lawful allowed turn = none_in_turn config past (Now told ∷ past) (idle_none config past _ lawful.0 tt turn)
    by (Wait wants timeout answer ready) lawful allowed turn = none_in_turn config past (Wait wants timeout answer ready ∷ past) (idle_none config past _ lawful.0 tt turn)
    by (LinkOpen at answer) lawful allowed turn = none_in_turn config past (LinkOpen at answer ∷ past) (idle_none config past _ lawful.0 tt turn)
    by (LinkWrite octets answer) lawful allowed turn = none_in_turn config past (LinkWrite octets answer ∷ past) (idle_none config past _ lawful.0 tt turn)
    by (Connect socket to answer) lawful allowed turn = none_in_turn config past (Connect socket to answer ∷ past) (idle_none config past _ lawful.0 tt turn)
    by (Connected socket answer) lawful allowed turn = none_in_turn config past (Connected socket answer ∷ past) (idle_none config past _ lawful.0 tt turn)
    by (Listen socket at answer) lawful allowed turn = none_in_turn config past (Listen socket at answer ∷ past) (idle_none config past _ lawful.0 tt turn)
    by (Accept listener socket answer) lawful allowed turn = none_in_turn config past (Accept listener socket answer ∷ past) (idle_none config past _ lawful.0 tt turn)
    by (TcpRead socket asked answer octets) lawful allowed turn = none_in_turn config past (TcpRead socket asked answer octets ∷ past) (idle_none config past _ lawful.0 tt turn)
    by (TcpWrite socket octets answer) lawful allowed turn = none_in_turn config past (TcpWrite socket octets answer ∷ past) (idle_none config past _ lawful.0 tt turn)
    by (TcpEnd socket answer) lawful allowed turn = none_in_turn config past (TcpEnd socket answer ∷ past) (idle_none config past _ lawful.0 tt turn)
    by (UdpRecv socket asked answer octets) lawful allowed turn = none_in_turn config past (UdpRecv socket asked answer octets ∷ past) (idle_none config past _ lawful.0 tt turn)
    by (FileLen name answer) lawful allowed turn = none_in_turn config past (FileLen name answer ∷ past) (idle_none config past _ lawful.0 tt turn)
    by (FileRead name place asked answer octets) lawful allowed turn = none_in_turn config past (FileRead name place asked answer octets ∷ past) (idle_none config past _ lawful.0 tt turn)

-- ---- how many calls are still due for it, but for closes

abbrev pub calls_for : Step → ℕ
calls_for NeedsNothing = 0
calls_for (NeedsRoom oldest errand) = 2
calls_for (NeedsSocket errand) = 2
calls_for (NeedsSending socket errand) = 1

pub two_most : (s : Step) → calls_for s ≤ 2
two_most NeedsNothing = omega arith
two_most (NeedsRoom oldest errand) = omega arith
two_most (NeedsSocket errand) = omega arith
two_most (NeedsSending socket errand) = omega arith

pub none_for : (config : Config) (past : List Entry) → errand_left config past ≡ None → calls_for (step config past) ≡ 0
none_for config past none = ap (λ o. calls_for (step_of config past o)) none

abbrev IsNoSending : Call → Type 0
IsNoSending (CallUdpSend socket to octets) = ⊥
IsNoSending _ = Unit {0}

pub no_more : (config : Config) (e : Entry) (past : List Entry) → May config past (call_of e) → InTurn config past → IsNoSending (call_of e) → errand_left config (e ∷ past) ≡ errand_left config past
    → calls_for (step config (e ∷ past)) ≤ calls_for (step config past)
no_more config e past may turn other same_left = by (step config past) refl
  where
    by : (s : Step) → step config past ≡ s → calls_for (step config (e ∷ past)) ≤ calls_for s
    by NeedsNothing is = let none = none_for config (e ∷ past) (same_left ∙ errand_is config past NeedsNothing is) in omega (arith, none)
    by (NeedsRoom oldest errand) is = two_most (step config (e ∷ past))
    by (NeedsSocket errand) is = two_most (step config (e ∷ past))
    by (NeedsSending socket errand) is = absurd (subst IsNoSending (is_due config past (call_of e) _ may (due_now config past (NeedsSending socket errand) _ errand turn is refl refl)) other)

pub sent_once : (config : Config) (past : List Entry) (socket : ℕ) (to : Endpoint) (octets : List ℕ) (answer : Sent) → May config past (CallUdpSend socket to octets) → calls_for
    (step config (UdpSend socket to octets answer ∷ past)) + 1 ≤ calls_for (step config past)
sent_once config past socket to octets answer may = let asked = ap calls_for (sends config past socket to octets may).asked in omega (arith, asked)

-- a socket that was opened for it is there
module _ (config : Config) (past : List Entry) (socket : ℕ) (at : Endpoint) (errand : Errand) (may : May config past (CallUdpOpen socket at)) (lawful : Lawful config past)
    (left : errand_left config past ≡ Some errand) where
  waited : nat_lt 0 (waits past) ≡ true
  waited = waited_for config past errand left lawful

  any : at.port ≡ 0
  any = at_any_port config past socket at errand (grind (arith, nat_tests, waited)) left may

  question_sent : asks_a_name config errand ≡ true → calls_for (step config (UdpOpen socket at Done ∷ past)) ≤ 1
  question_sent names =
      let is = ap calls_for (step_to_name config (UdpOpen socket at Done ∷ past) errand names left ∙ ap (λ list. step_to_names list errand) list_is
      ∙ ap (λ o. with_socket o (questions config past ++ (question socket errand (moment past) ∷ [])) errand) (socket_last errand.datagram.from (ident_in errand.datagram.body)
      (questions config past) (question socket errand (moment past))
      (no_socket_yet config past socket at errand may lawful left names)
      (and_both (same_endpoint errand.datagram.from errand.datagram.from) (ident_in errand.datagram.body == ident_in errand.datagram.body) (same_port errand.datagram.from)
      (same (ident_in errand.datagram.body))))) in omega (arith, is)
    where
      list_is : questions config (UdpOpen socket at Done ∷ past) ≡ questions config past ++ (question socket errand (moment past) ∷ [])
      list_is = ap (λ o. with_opened config Done socket (moment past) o (questions config past)) left
          ∙ ap (λ (b : Bool). if b then questions config past ++ (question socket errand (moment past) ∷ []) else questions config past) names

  its_port : is_port errand.datagram.from (opened_for config socket (UdpOpen socket at Done ∷ past)) ≡ true
  its_port = ap (is_port errand.datagram.from) (ap (λ (b : Bool). if b then port_for config at.port socket past else opened_for config socket past) (same socket) ∙ ap (λ port. port_for config port socket past) any
      ∙ ap (λ (b : Bool). if b then last_port config past else given_port config socket) waited ∙ ap (option_map (λ (d : Datagram). d.from)) (errand_asks config past errand left).datagram)
      ∙ same_port errand.datagram.from

  is_there : asks_a_name config errand ≡ false → is_among socket (associations_open config (UdpOpen socket at Done ∷ past)) ≡ true
  is_there other =
      among_if (λ s. is_association (kind_for config s (UdpOpen socket at Done ∷ past))) socket (open_sockets past ++ (socket ∷ []))
      ∙ and_both (is_among socket (open_sockets past ++ (socket ∷ []))) (is_association (kind_for config socket (UdpOpen socket at Done ∷ past)))
      (among_last socket socket (open_sockets past) ∙ or_second (is_among socket (open_sockets past)) (socket == socket) (same socket))
      (ap (λ (b : Bool). is_association (if b then Some (datagram_kind_for config (nat_lt 0 (waits past)) at.port (errand_left config past)) else kind_for config socket past)) (same socket)
      ∙ ap (λ o. is_association (Some (datagram_kind_for config (nat_lt 0 (waits past)) at.port o))) left
      ∙ ap (λ (b : Bool). is_association (Some (if b then DnsSocket else datagram_kind (nat_lt 0 (waits past)) at.port))) other
      ∙ ap (λ (b : Bool). is_association (Some (datagram_kind b at.port))) waited ∙ ap (λ port. is_association (Some (datagram_kind true port))) any)

  at_most_one : (forward own : Option ℕ) (later : List Entry) → (own ≡ None → ⊥) → calls_for (step_on config (option_or forward own) later errand) ≤ 1
  at_most_one (Some forward) own later some = omega arith
  at_most_one None (Some s) later some = omega arith
  at_most_one None None later some = absurd (some refl)

  datagram_sent : asks_a_name config errand ≡ false → calls_for (step config (UdpOpen socket at Done ∷ past)) ≤ 1
  datagram_sent other =
      let later = UdpOpen socket at Done ∷ past in
      let is = ap calls_for (step_is_of config later errand other left) in
      let most = at_most_one (forward_for config errand.datagram.from later) (socket_for config errand.datagram.from later) later
      (λ none. clash (is_port errand.datagram.from (opened_for config socket later)) its_port (find_none (λ s. is_port errand.datagram.from (opened_for config s later))
      (associations_open config later) socket none (is_there other))) in
      omega (arith, is, most)
    where
      clash : (b : Bool) → b ≡ true → b ≡ false → ⊥
      clash true one two = cc
      clash false one two = cc

  opened_for_it : calls_for (step config (UdpOpen socket at Done ∷ past)) ≤ 1
  opened_for_it = by (asks_a_name config errand) refl
    where
      by : (b : Bool) → asks_a_name config errand ≡ b → calls_for (step config (UdpOpen socket at Done ∷ past)) ≤ 1
      by true is = question_sent is
      by false is = datagram_sent is

pub sent_next : (config : Config) (past : List Entry) (socket : ℕ) (at : Endpoint) (answer : Made) → Opens config (step config past) (next_number past) socket at → May config past
    (CallUdpOpen socket at) → Lawful config past
    → calls_for (step config (UdpOpen socket at answer ∷ past)) + 1 ≤ calls_for (step config past)
sent_next config past socket at answer o may lawful = by answer o.errand (ap calls_for o.asked) (errand_is config past (NeedsSocket o.errand) o.asked)
  where
    by : (answer : Made) (errand : Errand) → calls_for (step config past) ≡ 2 → errand_left config past ≡ Some errand → calls_for
        (step config (UdpOpen socket at answer ∷ past)) + 1 ≤ calls_for (step config past)
    by Done errand two left = let one = opened_for_it config past socket at errand may lawful left in omega (arith, two, one)
    by Failed errand two left = omega (arith, two)
