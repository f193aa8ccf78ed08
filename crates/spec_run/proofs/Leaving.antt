-- Why the socket of a question is closed, and that it is after the answer.
use Rattle.std.proofs.Common.{◌≡◌, ℕ, ◌+◌, ◌<◌, ◌≤◌, ◌==◌, ◌&&◌, ◌||◌, not, nat_le, Bool, true, false, List, [], ◌∷◌, ◌++◌, length, find, Option, Some, None, option_map, if◌then◌else◌}
use Rattle.std.specs.Option.{option_or}
use Rattle.std.proofs.Common.{◌⊎◌, inl, inr, refl, sym, ◌∙◌, ap, subst, arith}
use Rattle.std.proofs.lemmas.Bool.Decides.{nat_tests}
use Rattle.world_face.specs.Journal.{Entry, Close, UdpOpen, UdpSend, UdpRecv, CallClose, call_of}
use Rattle.world_face.specs.declared.Made.{Made}
use Rattle.world_face.specs.declared.Made.TheVariants.{Done, Failed}
use Rattle.world_face.specs.declared.Sent.{Sent}
use Rattle.world_face.specs.declared.Got.{Got}
use Rattle.world_face.specs.declared.Got.TheVariants.{From, NotYet as GotNotYet, Failed as GotFailed}
use Rattle.net_octets.specs.declared.Endpoint.{Endpoint}
use Rattle.slirp_settings.specs.Addresses.{Config}
use Rattle.slirp_settings.specs.Classes.{same_endpoint}
use Rattle.rules_dns.specs.declared.Question.{Question}
use Rattle.rules_dns.specs.Questions.{ident_in, is_answer, is_answered, is_idle, is_of, is_over, most_questions, numbered, numbers, question_life, socket_of, without}
use Rattle.spec_trace.specs.Moments.{moment}
use Rattle.spec_trace.specs.Packets.{Datagram}
use Rattle.spec_trace.specs.Shape.{Phase, Opening, Started, Woken, Working, Over, due_in, is_ended, is_working, phase}
use Rattle.spec_trace.specs.Sockets.{Kind, Association, DnsSocket, Forward, Listener, Flow, is_among, next_number, open_sockets, first}
use Rattle.spec_flows.specs.Book.{book}
use Rattle.spec_flows.specs.Flows.{is_it}
use Rattle.spec_flows.specs.SegmentVerdicts.{due_for_flows}
use Rattle.rules_tftp.specs.Asking.{call_for}
use Rattle.spec_run.specs.Answers.{serving}
use Rattle.spec_run.specs.Asking.{step, step_of}
use Rattle.spec_run.specs.Datagrams.{Errand, Step, NeedsNothing, NeedsRoom, NeedsSocket, NeedsSending, asks_a_name, due_for}
use Rattle.spec_run.specs.Errands.{errand_left}
use Rattle.spec_run.specs.Laws.{May, Lawful, is_closing, may_part, gives_way, parts}
use Rattle.spec_run.specs.Names.{answered, answered_on, has_waited, kind_for, question, questions, with_heard, with_opened, with_sent, with_socket}
use Rattle.spec_run.specs.Ports.{last_datagram, last_use, used_at}
use Rattle.spec_run.specs.Questions.{HasWaitedLong, HasWaitedLongest, IsAnswerTo, WasAsked, WasJustAnswered, is_for_question, questions_open}
use Rattle.spec_run.specs.Said.{AllUsedAfter, AreByLastUse}
use Rattle.spec_run.proofs.Asked.{KeptQuestion, kept_questions}
use Rattle.spec_run.proofs.Askers.{WasAskedOf, all_were_asked, is_due}
use Rattle.spec_run.proofs.Bools.{and_both, among_without, equal, first_of, or_first, or_second, same, second_of}
use Rattle.spec_run.proofs.Listed.{AllQuestions, all_last, all_left, all_moved, among_found, asked_without, found, numbers_last, numbers_moved, socket_found}
use Rattle.spec_run.proofs.Longest.{Once, equal_endpoints, no_longer, same_port}
use Rattle.spec_run.proofs.OpenSockets.{IsGone, gone_by, hears_on_open, stays_gone}
use Rattle.spec_run.proofs.Parting.{closing_ended, parts_where}
use Rattle.spec_run.proofs.Phases.{hears_settled, others_due, sends}
use Rattle.spec_run.proofs.Steps.{Asks, errand_asks, errand_is, opened_for_question, step_to_name}
use Rattle.spec_run.proofs.Uses.{drawn_on}
use Rattle.spec_run.proofs.Waiting.{AreWaiting, IsUsed, are_waiting, same_waiting}

-- ---- by rising last use each stands once

not_first : (past : List Entry) (n : ℕ) (ns : List ℕ) → AllUsedAfter past n ns → is_among n ns ≡ false
not_first past n [] is = refl
not_first past n (m ∷ ns) is = by (n == m) refl (not_first past n ns is.1)
  where
    by : (b : Bool) → (n == m) ≡ b → is_among n ns ≡ false → (b || is_among n ns) ≡ false
    by true here rest = (let one = ap (λ k. last_use k past) (equal n m here) in let later = is.0 in absurd (omega (arith, one, later)))
    by false other rest = rest

once_rising : (past : List Entry) (ns : List ℕ) → AreByLastUse past ns → Once ns
once_rising past [] is = tt
once_rising past (n ∷ ns) is = (not_first past n ns is.0, once_rising past ns is.1)

all_later : (past : List Entry) (n m : ℕ) (ns : List ℕ) → AllUsedAfter past n ns → is_among m ns ≡ true → last_use n past < last_use m past
all_later past n m [] is among = absurd cc
all_later past n m (k ∷ ns) is among = by (m == k) refl among (λ more. all_later past n m ns is.1 more)
  where
    by : (b : Bool) → (m == k) ≡ b → (b || is_among m ns) ≡ true → (is_among m ns ≡ true → last_use n past < last_use m past) → last_use n past < last_use m past
    by true here among more = (let one = ap (λ j. last_use j past) (equal m k here) in let later = is.0 in omega (arith, one, later))
    by false other among more = more among

least_first : (past : List Entry) (n m : ℕ) (ns : List ℕ) → AllUsedAfter past n ns → is_among m (n ∷ ns) ≡ true → last_use n past ≤ last_use m past
least_first past n m ns is among = by (m == n) refl among
  where
    by : (b : Bool) → (m == n) ≡ b → (b || is_among m ns) ≡ true → last_use n past ≤ last_use m past
    by true here among = (let one = ap (λ j. last_use j past) (equal m n here) in omega (arith, one))
    by false other among = (let later = all_later past n m ns is among in omega (arith, later))

as_many : (list : List Question) → length (numbers list) ≡ length list
as_many [] = refl
as_many (q ∷ list) = (let rest = as_many list in omega (arith, rest))

-- ---- the reasons of a close

longest : (config : Config) (past : List Entry) (o : Option ℕ) (list : List Question) (errand : Errand) (oldest : ℕ) → AreWaiting config past list →
    with_socket o list errand ≡ NeedsRoom oldest errand → HasWaitedLongest config oldest past
longest config past (Some s) list errand oldest w is = absurd cc
longest config past None [] errand oldest w is = absurd cc
longest config past None (q ∷ list) errand oldest w is = by (nat_le most_questions (length (q ∷ list))) refl is
  where
    by : (b : Bool) → nat_le most_questions (length (q ∷ list)) ≡ b → (if b then NeedsRoom q.number errand else NeedsSocket errand) ≡ NeedsRoom oldest errand → HasWaitedLongest config oldest past
    by true many is =
        let this : q.number ≡ oldest = cc in
        let count = as_many (q ∷ list) in
        let all = no_longer (numbers (q ∷ list)) (questions_open config past) (once_rising past (numbers (q ∷ list)) w.order) (λ n among. same_waiting config past (q ∷ list) w n ∙ among) in
        let enough : most_questions ≤ length (q ∷ list) = grind (arith, nat_tests, many) in
        subst (λ n. HasWaitedLongest config n past) this (record {
          full = omega (arith, count, all, enough);
          least = λ other among. least_first past q.number other (numbers list) w.order.0 (sym (same_waiting config past (q ∷ list) w other) ∙ among);
        })
    by false few is = absurd cc

way_given : (config : Config) (past : List Entry) (socket : ℕ) (s : Step) → step config past ≡ s → Lawful config past → gives_way config true socket s ≡ true → HasWaitedLongest config socket past
way_given config past socket (NeedsRoom oldest errand) at lawful is =
    let this : oldest ≡ socket = sym (equal socket oldest (first_of (socket == oldest) (asks_a_name config errand) is)) in
    let names : asks_a_name config errand ≡ true = second_of (socket == oldest) (asks_a_name config errand) is in
    subst (λ n. HasWaitedLongest config n past) this
    (longest config past (socket_of errand.datagram.from (ident_in errand.datagram.body) (questions config past)) (questions config past) errand oldest (are_waiting config past lawful)
    (sym (step_to_name config past errand names (errand_is config past (NeedsRoom oldest errand) at)) ∙ at))
way_given config past socket NeedsNothing at lawful is = absurd cc
way_given config past socket (NeedsSocket errand) at lawful is = absurd cc
way_given config past socket (NeedsSending s errand) at lawful is = absurd cc

waited_long : (past : List Entry) (n now : ℕ) (list : List Question) → AllQuestions (IsUsed past) list → is_idle n now list ≡ true → used_at n past + question_life ≤ now
waited_long past n now [] all is = absurd cc
waited_long past n now (q ∷ list) all is = by (q.number == n) (is_over now q) refl refl is (λ more. waited_long past n now list all.1 more)
  where
    by : (t u : Bool) → (q.number == n) ≡ t → is_over now q ≡ u → ((t && u) || is_idle n now list) ≡ true → (is_idle n now list ≡ true → used_at n past + question_life ≤ now) →
        used_at n past + question_life ≤ now
    by true true this over is more =
        let here : used_at n past ≡ q.used = ap (λ m. used_at m past) (sym (equal q.number n this)) ∙ all.0.used in
        let long : q.used + question_life ≤ now = grind (arith, nat_tests, over) in
        omega (arith, here, long)
    by true false this over is more = more is
    by false u this over is more = more is

-- what an answer is, by the test
resolves_of : (resolver : Option Endpoint) (q : Question) (peer : Endpoint) (octets : List ℕ) → is_answered resolver q peer octets ≡ true → (resolver ≡ Some peer) ×
    (is_answer octets ≡ true) × (ident_in octets ≡ q.ident)
resolves_of None q peer octets is = absurd cc
resolves_of (Some at) q peer octets is =
    let front = first_of (same_endpoint peer at && is_answer octets) (ident_in octets == q.ident) is in (
      ap Some (sym (equal_endpoints peer at (first_of (same_endpoint peer at) (is_answer octets) front))),
      second_of (same_endpoint peer at) (is_answer octets) front,
      equal (ident_in octets) q.ident (second_of (same_endpoint peer at && is_answer octets) (ident_in octets == q.ident) is),
    )

pub answer_of : (config : Config) (past : List Entry) (q : Question) (peer : Endpoint) (octets : List ℕ) → is_answered config.resolver q peer octets ≡ true →
    WasAskedOf config past q → IsAnswerTo config past q.number q.guest peer octets
answer_of config past q peer octets counts asked =
    let known = resolves_of config.resolver q peer octets counts in
    record { resolves = known.0; answers = known.1; asked = subst (WasAsked config past q.number q.guest) (sym known.2) asked }

just_answered : (config : Config) (socket : ℕ) (past : List Entry) → Lawful config past → is_it socket (answered config past) ≡ true → WasJustAnswered config socket past
just_answered config socket (UdpRecv s asked (From peer count) octets ∷ before) lawful is = by (numbered s (questions config before)) refl is
  where
    of_answer : (q : Question) (b : Bool) → is_answered config.resolver q peer octets ≡ b → numbered s (questions config before) ≡ Some q → is_it socket
        (if b then Some q.number else None) ≡ true → WasJustAnswered config socket (UdpRecv s asked (From peer count) octets ∷ before)
    of_answer q false other at is = absurd cc
    of_answer q true counts at is =
        let known = found (WasAskedOf config before) s (questions config before) q (all_were_asked config before s asked lawful.1 lawful.0) at in
        let one : q.number ≡ socket = equal q.number socket is in
        record {
          asked = asked;
          peer = peer;
          count = count;
          octets = octets;
          before = before;
          received = ap (λ n. UdpRecv n asked (From peer count) octets ∷ before) (sym known.1 ∙ one);
          guest = q.guest;
          answer = subst (λ n. IsAnswerTo config before n q.guest peer octets) one (answer_of config before q peer octets counts known.0);
        }

    by : (o : Option Question) → numbered s (questions config before) ≡ o → is_it socket (answered_on config peer octets o) ≡ true → WasJustAnswered config socket
        (UdpRecv s asked (From peer count) octets ∷ before)
    by None at is = absurd cc
    by (Some q) at is = of_answer q (is_answered config.resolver q peer octets) refl at is
just_answered config socket (UdpRecv s asked GotNotYet octets ∷ before) lawful is = absurd cc
just_answered config socket (UdpRecv s asked GotFailed octets ∷ before) lawful is = absurd cc
just_answered config socket (_ ∷ before) lawful is = absurd cc
just_answered config socket [] lawful is = absurd cc

abbrev Reasons : Config → ℕ → List Entry → Type 0
Reasons config socket past = WasJustAnswered config socket past ⊎ (HasWaitedLong socket past ⊎ HasWaitedLongest config socket past)

by_reason : (config : Config) (past : List Entry) (socket : ℕ) (a b c : Bool) → Lawful config past → gives_way config true socket (step config past) ≡ a →
    is_it socket (answered config past) ≡ b → has_waited config past socket ≡ c → (a || b || c) ≡ true → Reasons config socket past
by_reason config past socket true b c lawful way came long is = inr (inr (way_given config past socket (step config past) refl lawful way))
by_reason config past socket false true c lawful way came long is = inl (just_answered config socket past lawful came)
by_reason config past socket false false true lawful way came long is = inr (inl (waited_long past socket (moment past) (questions config past) (are_waiting config past lawful).used long))
by_reason config past socket false false false lawful way came long is = absurd cc

by_kind : (config : Config) (past : List Entry) (socket : ℕ) (k : Option Kind) → Lawful config past → is_for_question k ≡ true → may_part config past socket k ≡ true → Reasons config socket past
by_kind config past socket (Some DnsSocket) lawful one is =
    by_reason config past socket (gives_way config true socket (step config past)) (is_it socket (answered config past)) (has_waited config past socket) lawful refl refl refl is
by_kind config past socket (Some Association) lawful one is = absurd cc
by_kind config past socket (Some Forward) lawful one is = absurd cc
by_kind config past socket (Some Listener) lawful one is = absurd cc
by_kind config past socket (Some Flow) lawful one is = absurd cc
by_kind config past socket None lawful one is = absurd cc

pub leaves_for : (config : Config) (past : List Entry) (socket : ℕ) → May config past (CallClose socket) → Lawful config past → is_ended config past ≡ false → is_for_question
    (kind_for config socket past) ≡ true → Reasons config socket past
leaves_for config past socket may lawful running one =
    by_kind config past socket (kind_for config socket past) lawful one
    (parts_where (is_closing config past) (is_it socket (first (open_sockets past))) (parts config past socket) (is_ended config past) (λ closing. closing_ended config past lawful closing) running
    (second_of (is_among socket (open_sockets past)) (if is_closing config past then is_it socket (first (open_sockets past)) else parts config past socket ||
    (is_ended config past && is_it socket (first (open_sockets past)))) may.socket))

-- ---- what is asked on an open socket is kept

abbrev pub IsFor : ℕ → Endpoint → ℕ → Question → Type 0
IsFor n guest ident q = q.number ≡ n → (q.guest ≡ guest) × (q.ident ≡ ident)

-- of a list in the order of use only one has the number
vacuous : (past : List Entry) (n : ℕ) (guest : Endpoint) (ident : ℕ) (list : List Question) → AllUsedAfter past n (numbers list) → AllQuestions (IsFor n guest ident) list
vacuous past n guest ident [] is = tt
vacuous past n guest ident (q ∷ list) is = (
  (λ this. (let one = ap (λ m. last_use m past) this in let later = is.0 in absurd (omega (arith, one, later)))),
  vacuous past n guest ident list is.1,
)

-- a question has this number, and each one that has it is of this port with this identifier
pub record IsOfOne (n : ℕ) (guest : Endpoint) (ident : ℕ) (list : List Question) : Type 0 where
  pub among : is_among n (numbers list) ≡ true
  pub idents : AllQuestions (IsFor n guest ident) list

of_one : (past : List Entry) (guest : Endpoint) (ident n : ℕ) (list : List Question) → AreByLastUse past (numbers list) → socket_of guest ident list ≡ Some n → IsOfOne n guest ident list
of_one past guest ident n [] order is = absurd cc
of_one past guest ident n (x ∷ list) order is = by (is_of guest ident x) refl is (λ more. of_one past guest ident n list order.1 more)
  where
    by : (b : Bool) → is_of guest ident x ≡ b → option_map (λ (q : Question). q.number) (if b then Some x else find (is_of guest ident) list) ≡ Some n →
        (socket_of guest ident list ≡ Some n → IsOfOne n guest ident list) → IsOfOne n guest ident (x ∷ list)
    by true this is more =
        let here : x.number ≡ n = cc in
        record {
          among = ap (λ b. b || is_among n (numbers list)) (ap (λ m. n == m) here ∙ same n);
          idents = (
            (λ number. (
              equal_endpoints x.guest guest (first_of (same_endpoint x.guest guest) (x.ident == ident) this),
              equal x.ident ident
                  (second_of (same_endpoint x.guest guest) (x.ident == ident) this),
            )),
            subst (λ m. AllQuestions (IsFor m guest ident) list) here (vacuous past x.number guest ident list order.0),
          );
        }
    by false other is more =
        let rest = more is in
        let later = all_later past x.number n (numbers list) order.0 rest.among in
        record {
          among = or_second (n == x.number) (is_among n (numbers list)) rest.among;
          idents = ((λ number. (let one = ap (λ m. last_use m past) number in absurd (omega (arith, one, later)))), rest.idents);
        }

-- an entry after which the socket is open
opened_keeps : (config : Config) (past : List Entry) (n : ℕ) (guest : Endpoint) (ident socket now : ℕ) (answer : Made) (o : Option Errand) (list : List Question) →
    socket ≡ next_number past → n < next_number past → IsOfOne n guest ident list → IsOfOne n guest ident (with_opened config answer socket now o list)
opened_keeps config past n guest ident socket now Done None list number drawn one = one
opened_keeps config past n guest ident socket now Failed o list number drawn one = one
opened_keeps config past n guest ident socket now Done (Some errand) list number drawn one = by (asks_a_name config errand)
  where
    by : (b : Bool) → IsOfOne n guest ident (if b then list ++ (question socket errand now ∷ []) else list)
    by true = record {
      among = numbers_last n list (question socket errand now) ∙ or_first (is_among n (numbers list)) (n == socket) one.among;
      idents = all_last (IsFor n guest ident) list (question socket errand now) one.idents (λ this. absurd (omega (arith, number, drawn, this)));
    }
    by false = one

sent_keeps : (n : ℕ) (guest : Endpoint) (ident socket now : ℕ) (o : Option Errand) (list : List Question) → IsOfOne n guest ident list → IsOfOne n guest ident (with_sent socket now o list)
sent_keeps n guest ident socket now None list one = one
sent_keeps n guest ident socket now (Some errand) list one = record {
  among = numbers_moved _ (λ q. refl) n socket list ∙ one.among;
  idents = all_moved (IsFor n guest ident) _ socket list (λ q is. is) one.idents;
}

heard_keeps : (n : ℕ) (guest : Endpoint) (ident socket now : ℕ) (answer : Got) (list : List Question) → IsOfOne n guest ident list → IsOfOne n guest ident (with_heard answer socket now list)
heard_keeps n guest ident socket now (From peer count) list one = record {
  among = numbers_moved _ (λ q. refl) n socket list ∙ one.among;
  idents = all_moved (IsFor n guest ident) _ socket list (λ q is. is) one.idents;
}
heard_keeps n guest ident socket now GotNotYet list one = one
heard_keeps n guest ident socket now GotFailed list one = one

closed_keeps : (n : ℕ) (guest : Endpoint) (ident socket : ℕ) (list : List Question) → not (n == socket) ≡ true → IsOfOne n guest ident list → IsOfOne n guest ident (without socket list)
closed_keeps n guest ident socket list other one = record {
  among = asked_without n socket list ∙ and_both (not (n == socket)) (is_among n (numbers list)) other one.among;
  idents = all_left (IsFor n guest ident) socket list one.idents;
}

keeps_one : (config : Config) (e : Entry) (past : List Entry) (n : ℕ) (guest : Endpoint) (ident : ℕ) → May config past (call_of e) → n < next_number past → is_among n
    (open_sockets (e ∷ past)) ≡ true → IsOfOne n guest ident (questions config past) → IsOfOne n guest ident (questions config (e ∷ past))
keeps_one config (Close socket) past n guest ident may drawn open_yet one = closed_keeps n guest ident socket (questions config past)
    (first_of (not (n == socket)) (is_among n (open_sockets past)) (sym (among_without n socket (open_sockets past)) ∙ open_yet)) one
keeps_one config (UdpOpen socket at answer) past n guest ident may drawn open_yet one = opened_keeps config past n guest ident socket (moment past) answer (errand_left config past)
    (questions config past) (equal socket (next_number past) may.socket) drawn one
keeps_one config (UdpSend socket to octets answer) past n guest ident may drawn open_yet one = sent_keeps n guest ident socket (moment past) (errand_left config past) (questions config past) one
keeps_one config (UdpRecv socket asked answer octets) past n guest ident may drawn open_yet one = heard_keeps n guest ident socket (moment past) answer (questions config past) one
keeps_one config _ past n guest ident may drawn open_yet one = one

-- a socket that is open was so before, where its number was drawn
was_open : (config : Config) (e : Entry) (past : List Entry) (n : ℕ) → May config past (call_of e) → n < next_number past → is_among n (open_sockets (e ∷ past)) ≡ true → is_among n
    (open_sockets past) ≡ true
was_open config e past n may drawn open_yet = by (is_among n (open_sockets past)) refl
  where
    by : (b : Bool) → is_among n (open_sockets past) ≡ b → b ≡ true
    by true is = refl
    by false shut = (let gone = gone_by config n e past may (record { drawn = drawn; shut = shut }) in let never : true ≡ false = sym open_yet ∙ gone.shut in cc)

-- a question that was sent on a socket that is open yet waits
record IsKept (config : Config) (past : List Entry) (n : ℕ) (guest : Endpoint) (ident : ℕ) : Type 0 where
  drawn : n < next_number past
  one : is_among n (open_sockets past) ≡ true → IsOfOne n guest ident (questions config past)

same_datagram : (o : Option Datagram) (a b : Datagram) → o ≡ Some a → o ≡ Some b → a ≡ b
same_datagram o a b is was = let both : Some a ≡ Some b = sym is ∙ was in cc

asked_here : (config : Config) (earlier : List Entry) (socket : ℕ) (to : Endpoint) (d : Datagram) (answer : Sent) → Lawful config (UdpSend socket to d.body answer ∷ earlier) →
    last_datagram config earlier ≡ Some d → (d.to.addr.0 == config.vnameserver) ≡ true
    → IsKept config (UdpSend socket to d.body answer ∷ earlier) socket d.from (ident_in d.body)
asked_here config earlier socket to d answer lawful last names =
    let s = sends config earlier socket to d.body lawful.0 in
    let asks : Asks config (last_datagram config earlier) s.errand = errand_asks config earlier s.errand (errand_is config earlier (NeedsSending socket s.errand) s.asked) in
    let this : d ≡ s.errand.datagram = same_datagram (last_datagram config earlier) d s.errand.datagram last asks.datagram in
    let server : asks_a_name config s.errand ≡ true = ap (λ (x : Datagram). x.to.addr.0 == config.vnameserver) (sym this) ∙ names in
    let at = opened_for_question config earlier socket s.errand server s.asked in
    let one = of_one earlier s.errand.datagram.from (ident_in s.errand.datagram.body) socket (questions config earlier) (are_waiting config earlier lawful.1).order at in
    let known = socket_found (KeptQuestion config earlier) s.errand.datagram.from (ident_in s.errand.datagram.body) socket (questions config earlier) (kept_questions config earlier lawful.1) at in
    record {
      drawn = (let drawn = known.1.drawn in let number = known.3 in omega (arith, drawn, number));
      one = λ open_yet. sent_keeps socket d.from (ident_in d.body) socket (moment earlier) (errand_left config earlier) (questions config earlier)
          (subst (λ (x : Datagram). IsOfOne socket x.from (ident_in x.body) (questions config earlier)) (sym this) one);
    }

kept_since : (config : Config) (later earlier : List Entry) (socket : ℕ) (to : Endpoint) (d : Datagram) (answer : Sent) → Lawful config
    (later ++ (UdpSend socket to d.body answer ∷ earlier)) → last_datagram config earlier ≡ Some d → (d.to.addr.0 == config.vnameserver) ≡ true
    → IsKept config (later ++ (UdpSend socket to d.body answer ∷ earlier)) socket d.from (ident_in d.body)
kept_since config [] earlier socket to d answer lawful last names = asked_here config earlier socket to d answer lawful last names
kept_since config (e ∷ later) earlier socket to d answer lawful last names =
    let past = later ++ (UdpSend socket to d.body answer ∷ earlier) in
    let before = kept_since config later earlier socket to d answer lawful.1 last names in
    record {
      drawn = drawn_on e past socket before.drawn;
      one = λ open_yet. keeps_one config e past socket d.from (ident_in d.body) lawful.0 before.drawn open_yet (before.one (was_open config e past socket lawful.0 before.drawn open_yet));
    }

-- what was asked on an open socket waits, with its identifier
pub kept_asked : (config : Config) (past : List Entry) (socket : ℕ) (guest : Endpoint) (ident : ℕ) → Lawful config past → is_among socket (open_sockets past) ≡ true →
    WasAsked config past socket guest ident → IsOfOne socket guest ident (questions config past)
kept_asked config past socket guest ident lawful open_yet w =
    let names : (w.datagram.to.addr.0 == config.vnameserver) ≡ true = ap (λ n. n == config.vnameserver) w.to_names ∙ same config.vnameserver in
    let here = subst (λ l. IsKept config l socket w.datagram.from (ident_in w.datagram.body)) (sym w.sent)
    (kept_since config w.later w.earlier socket w.resolver w.datagram w.answer (subst (Lawful config) w.sent lawful) w.last names) in
    subst (λ g. IsOfOne socket g ident (questions config past)) w.port (subst (λ i. IsOfOne socket w.datagram.from i (questions config past)) w.identifier (here.one open_yet))

-- ---- after the answer

working_none : (p : Phase) (past : List Entry) → is_working p ≡ true → due_in p past ≡ None
working_none Working past is = refl
working_none (Opening count forwards) past is = absurd cc
working_none Started past is = absurd cc
working_none Woken past is = absurd cc
working_none (Over cause) past is = absurd cc

counts_of : (config : Config) (q : Question) (peer : Endpoint) (octets : List ℕ) → config.resolver ≡ Some peer → is_answer octets ≡ true → q.ident ≡ ident_in octets →
    is_answered config.resolver q peer octets ≡ true
counts_of config q peer octets resolves answers ident =
    ap (λ o. is_answered o q peer octets) resolves
    ∙ and_both (same_endpoint peer peer && is_answer octets) (ident_in octets == q.ident) (and_both (same_endpoint peer peer) (is_answer octets) (same_port peer) answers)
    (ap (λ i. ident_in octets == i) ident ∙ same (ident_in octets))

pub closed_next : (config : Config) (e : Entry) (past : List Entry) (socket asked count : ℕ) (guest peer : Endpoint) (octets : List ℕ) → Lawful config
    (e ∷ (UdpRecv socket asked (From peer count) octets ∷ past)) → IsAnswerTo config past socket guest peer octets → call_of e ≡ CallClose socket
closed_next config e past socket asked count guest peer octets lawful a =
    let may = lawful.1.0 in
    let now = UdpRecv socket asked (From peer count) octets ∷ past in
    let one = kept_asked config past socket guest (ident_in octets) lawful.1.1 (hears_on_open config past socket asked may.socket) a.asked in
    let q = among_found socket (questions config past) one.among in
    let known = found (IsFor socket guest (ident_in octets)) socket (questions config past) q.0 one.idents q.1 in
    let counts = counts_of config q.0 peer octets a.resolves a.answers (known.0 known.1).1 in
    let this : answered config now ≡ Some socket = ap (answered_on config peer octets) q.1 ∙ ap (λ (b : Bool). if b then Some q.0.number else None) counts ∙ ap Some known.1 in
    let first : due_in (phase config now) now ≡ None = working_none (phase config past) now may.place in
    let none : errand_left config past ≡ None = errand_is config past NeedsNothing (hears_settled config past socket asked may) in
    let settled : step config now ≡ NeedsNothing = ap (step_of config now) none in
    is_due config now (call_of e) (CallClose socket) lawful.0
    (ap (λ o. option_or o (option_or (due_for config (step config now) (next_number now)) (others_due config now))) first
    ∙ ap (λ s. option_or (due_for config s (next_number now)) (others_due config now)) settled
    ∙ ap (λ o. option_or (option_or (option_map CallClose o) (call_for (serving config now).files.quest)) (due_for_flows config (book config now) (next_number now))) this)

close_entry : (e : Entry) (n : ℕ) → call_of e ≡ CallClose n → e ≡ Close n
close_entry (Close socket) n is = cc
close_entry _ n is = absurd cc

-- from then on the socket is closed
gone_since : (config : Config) (e : Entry) (between past : List Entry) (socket asked count : ℕ) (guest peer : Endpoint) (octets : List ℕ) → Lawful config
    (e ∷ (between ++ (UdpRecv socket asked (From peer count) octets ∷ past))) → IsAnswerTo config past socket guest peer octets
    → IsGone socket (e ∷ (between ++ (UdpRecv socket asked (From peer count) octets ∷ past)))
gone_since config e [] past socket asked count guest peer octets lawful a =
    let here = UdpRecv socket asked (From peer count) octets ∷ past in
    let this : e ≡ Close socket = close_entry e socket (closed_next config e past socket asked count guest peer octets lawful a) in
    subst (λ x. IsGone socket (x ∷ here)) (sym this) (stays_gone config socket [] here (subst (λ x. Lawful config (x ∷ here)) this lawful))
gone_since config e (f ∷ between) past socket asked count guest peer octets lawful a =
    gone_by config socket e (f ∷ (between ++ (UdpRecv socket asked (From peer count) octets ∷ past))) lawful.0 (gone_since config f between past socket asked count guest peer octets lawful.1 a)

-- so nothing more is received on it
pub heard_once : (config : Config) (between past : List Entry) (socket asked count more : ℕ) (guest peer : Endpoint) (octets others : List ℕ) (answer : Got)
    → Lawful config (UdpRecv socket more answer others ∷ (between ++ (UdpRecv socket asked (From peer count) octets ∷ past))) → IsAnswerTo config past socket guest peer octets → ⊥
heard_once config [] past socket asked count more guest peer octets others answer lawful a = absurd
    (let never = closed_next config (UdpRecv socket more answer others) past socket asked count guest peer octets lawful a in cc)
heard_once config (e ∷ between) past socket asked count more guest peer octets others answer lawful a =
    let gone = gone_since config e between past socket asked count guest peer octets lawful.1 a in
    let never : true ≡ false = sym (hears_on_open config (e ∷ (between ++ (UdpRecv socket asked (From peer count) octets ∷ past))) socket more lawful.0.socket) ∙ gone.shut in
    cc
