-- Where what came last came on the socket of a question, the trace has when, and what was asked on it before.
use Rattle.std.proofs.Common.{◌≡◌, ℕ, Bool, true, false, List, [], ◌∷◌, ◌++◌, Option, Some, None, if◌then◌else◌, refl, sym, ◌∙◌, ap, subst}
use Rattle.world_face.specs.Journal.{AreAllowed, IsEndpoint, Entry, Connect, FileLen, FileRead, LinkWrite, UdpOpen, UdpSend, UdpRecv}
use Rattle.world_face.specs.Frames.{goes_out}
use Rattle.world_face.specs.declared.Made.{Made}
use Rattle.world_face.specs.declared.Made.TheVariants.{Done as MadeDone, Failed as MadeFailed}
use Rattle.world_face.specs.declared.Sent.{Sent}
use Rattle.world_face.specs.declared.Sent.TheVariants.{Done as SentDone, NotYet as SentNotYet, Failed as SentFailed}
use Rattle.world_face.specs.declared.Got.TheVariants.{From, NotYet as GotNotYet, Failed as GotFailed}
use Rattle.net_octets.specs.declared.Endpoint.{Endpoint}
use Rattle.slirp_settings.specs.Addresses.{Config}
use Rattle.rules_dns.specs.declared.Question.{Question}
use Rattle.rules_dns.specs.Questions.{is_answered, numbered}
use Rattle.spec_flows.specs.Book.{book}
use Rattle.spec_flows.specs.Segments.{OnTuple}
use Rattle.spec_trace.specs.Happenings.{Arrival, happens}
use Rattle.spec_trace.specs.Packets.{Datagram}
use Rattle.rules_tftp.specs.Asking.{by_answer}
use Rattle.rules_tftp.specs.Transfers.{Outcome, Said}
use Rattle.spec_run.specs.Answers.{begins_again, identification, ledger, may_go_again, serving}
use Rattle.spec_run.specs.Laws.{Lawful}
use Rattle.spec_run.specs.Names.{questions}
use Rattle.spec_run.specs.Ports.{last_datagram}
use Rattle.spec_run.specs.Questions.{AnswerCame}
use Rattle.spec_run.specs.Said.{AnswersQuestion, HasPorts, Occasion, NoOccasion, Came, Heard, HeardOfName, OfFile, Unsent, Unconnected, by_call, by_joined, by_made, by_outcome, by_said}
use Rattle.spec_run.specs.Said.{by_sent, for_guest, heard_on, last_occasion, occasion_after, refused_or, unsent_or}
use Rattle.spec_run.proofs.Asked.{KeptQuestion, kept_questions}
use Rattle.spec_run.proofs.Askers.{WasAskedOf, all_were_asked}
use Rattle.spec_run.proofs.Leaving.{answer_of}
use Rattle.spec_run.proofs.Listed.{found}
use Rattle.spec_run.proofs.Ranges.{RangePort, range_port}

-- what came on the socket of a question: when, and that the question waited then
record HeardAt (config : Config) (past : List Entry) (q : Question) (peer : Endpoint) (octets : List ℕ) : Type 0 where
  later : List Entry
  socket : ℕ
  asked : ℕ
  count : ℕ
  before : List Entry
  received : past ≡ later ++ (UdpRecv socket asked (From peer count) octets ∷ before)
  waits : numbered socket (questions config before) ≡ Some q

abbrev IsHeard : Config → List Entry → Occasion → Type 0
IsHeard config past (HeardOfName q peer octets) = HeardAt config past q peer octets
IsHeard config past _ = Unit {0}

-- ---- what else may come last

module _ (config : Config) (past : List Entry) where
  heard_unsent : (last : Option Datagram) (o : Occasion) → IsHeard config past o → IsHeard config past (unsent_or last o)
  heard_unsent None o before = before
  heard_unsent (Some d) o before = tt

  heard_made : (answer : Made) (last : Option Datagram) (o : Occasion) → IsHeard config past o → IsHeard config past (by_made answer last o)
  heard_made MadeDone last o before = before
  heard_made MadeFailed last o before = heard_unsent last o before

  heard_sent : (answer : Sent) (last : Option Datagram) (o : Occasion) → IsHeard config past o → IsHeard config past (by_sent answer last o)
  heard_sent SentDone last o before = before
  heard_sent SentNotYet last o before = before
  heard_sent SentFailed last o before = heard_unsent last o before

  heard_refused : (on : Option OnTuple) (o : Occasion) → IsHeard config past o → IsHeard config past (refused_or on o)
  heard_refused None o before = before
  heard_refused (Some on) o before = tt

  heard_joined : (answer : Made) (on : Option OnTuple) (o : Occasion) → IsHeard config past o → IsHeard config past (by_joined answer on o)
  heard_joined MadeDone on o before = before
  heard_joined MadeFailed on o before = heard_refused on o before

  heard_said : (said : Option Said) (o : Occasion) → IsHeard config past o → IsHeard config past (by_said said o)
  heard_said None o before = before
  heard_said (Some said) o before = tt

  heard_outcome : (outcome : Option Outcome) (o : Occasion) → IsHeard config past o → IsHeard config past (by_outcome outcome o)
  heard_outcome None o before = before
  heard_outcome (Some outcome) o before = heard_said outcome.told o before

  heard_if : (b : Bool) (one other : Occasion) → IsHeard config past one → IsHeard config past other → IsHeard config past (if b then one else other)
  heard_if true one other is else_ = is
  heard_if false one other is else_ = else_

-- ---- by an entry

here : (config : Config) (past : List Entry) (socket asked : ℕ) (peer : Endpoint) (count : ℕ) (octets : List ℕ) (o : Option Question) → numbered socket (questions config past) ≡ o
    → IsHeard config (UdpRecv socket asked (From peer count) octets ∷ past) (heard_on socket peer octets o)
here config past socket asked peer count octets None is = tt
here config past socket asked peer count octets (Some q) is = record { later = []; socket = socket; asked = asked; count = count; before = past; received = refl; waits = is }

heard_by : (config : Config) (e : Entry) (past : List Entry) (last : Option Datagram) (on : Option OnTuple) (o : Occasion) → IsHeard config (e ∷ past) o → IsHeard config (e ∷ past)
    (by_call config past e last on o)
heard_by config (Connect socket to answer) past last on o before = heard_joined config (Connect socket to answer ∷ past) answer on o before
heard_by config (UdpOpen socket at answer) past last on o before = heard_made config (UdpOpen socket at answer ∷ past) answer (for_guest at.port last) o before
heard_by config (UdpSend socket to octets answer) past last on o before = heard_sent config (UdpSend socket to octets answer ∷ past) answer last o before
heard_by config (UdpRecv socket asked (From peer count) octets) past last on o before = here config past socket asked peer count octets (numbered socket (questions config past)) refl
heard_by config (UdpRecv socket asked GotNotYet octets) past last on o before = before
heard_by config (UdpRecv socket asked GotFailed octets) past last on o before = before
heard_by config (LinkWrite octets answer) past last on o before =
    heard_if config (LinkWrite octets answer ∷ past) (begins_again config (identification past) (ledger config past) (goes_out (LinkWrite octets answer) past)) _ o
    (heard_said config (LinkWrite octets answer ∷ past) (may_go_again (serving config past)) o before) before
heard_by config (FileLen name answer) past last on o before = heard_outcome config (FileLen name answer ∷ past) (by_answer (serving config past).now (FileLen name answer)
    (serving config past).files) o before
heard_by config (FileRead name place asked answer octets) past last on o before =
    heard_outcome config (FileRead name place asked answer octets ∷ past) (by_answer (serving config past).now (FileRead name place asked answer octets) (serving config past).files) o before
heard_by config _ past last on o before = before

heard_on_entry : (config : Config) (e : Entry) (past : List Entry) (came : Option Arrival) (o : Occasion) → IsHeard config (e ∷ past) o → IsHeard config (e ∷ past)
    (occasion_after config e past came o)
heard_on_entry config e past None o before = heard_by config e past (last_datagram config past) (book config past).came o before
heard_on_entry config e past (Some arrival) o before = tt

further : (config : Config) (e : Entry) (past : List Entry) (o : Occasion) → IsHeard config past o → IsHeard config (e ∷ past) o
further config e past (HeardOfName q peer octets) h = record {
  later = e ∷ h.later;
  socket = h.socket;
  asked = h.asked;
  count = h.count;
  before = h.before;
  received = ap (λ (l : List Entry). e ∷ l) h.received;
  waits = h.waits;
}
further config e past NoOccasion h = tt
further config e past (Came s stray packet) h = tt
further config e past (Heard socket peer octets) h = tt
further config e past (OfFile said) h = tt
further config e past (Unsent d) h = tt
further config e past (Unconnected on) h = tt

is_heard : (config : Config) (past : List Entry) → IsHeard config past (last_occasion config past)
is_heard config [] = tt
is_heard config (e ∷ past) = heard_on_entry config e past (happens config past e).came (last_occasion config past) (further config e past (last_occasion config past) (is_heard config past))

-- ---- so it answers its question

-- what came before in a lawful run is one
lawful_before : (config : Config) (later past : List Entry) → Lawful config (later ++ past) → Lawful config past
lawful_before config [] past lawful = lawful
lawful_before config (e ∷ later) past lawful = lawful_before config later past lawful.1

pub answer_came : (config : Config) (past : List Entry) (q : Question) (peer : Endpoint) (octets : List ℕ) → Lawful config past →
    last_occasion config past ≡ HeardOfName q peer octets → is_answered config.resolver q peer octets ≡ true
    → AnswerCame config past q.guest octets
answer_came config past q peer octets lawful last counts =
    let h : HeardAt config past q peer octets = subst (IsHeard config past) last (is_heard config past) in
    let until = lawful_before config h.later (UdpRecv h.socket h.asked (From peer h.count) octets ∷ h.before) (subst (Lawful config) h.received lawful) in
    let known = found (WasAskedOf config h.before) h.socket (questions config h.before) q (all_were_asked config h.before h.socket h.asked until.1 until.0) h.waits in
    record {
      question = q;
      resolver = peer;
      last = last;
      later = h.later;
      asked = h.asked;
      count = h.count;
      before = h.before;
      received = h.received ∙ ap (λ n. h.later ++ (UdpRecv n h.asked (From peer h.count) octets ∷ h.before)) (sym known.1);
      answer = answer_of config h.before q peer octets counts known.0;
    }

pub answer_written : (config : Config) (past : List Entry) (frame : List ℕ) → Lawful config past → (a : AnswersQuestion config past frame) → AnswerCame config past a.question.guest a.octets
answer_written config past frame lawful a = answer_came config past a.question a.peer a.octets lawful a.last a.counts

-- ---- and the port that asked is one

allowed_before : (later past : List Entry) → AreAllowed (later ++ past) → AreAllowed past
allowed_before [] past allowed = allowed
allowed_before (e ∷ later) past allowed = allowed_before later past allowed.1

pub asker_range : (config : Config) (past : List Entry) (q : Question) (peer : Endpoint) (octets : List ℕ) → Lawful config past → AreAllowed past → HasPorts config →
    last_occasion config past ≡ HeardOfName q peer octets → IsEndpoint q.guest
asker_range config past q peer octets lawful allowed ports last =
    let h : HeardAt config past q peer octets = subst (IsHeard config past) last (is_heard config past) in
    let here = UdpRecv h.socket h.asked (From peer h.count) octets ∷ h.before in
    let until = lawful_before config h.later here (subst (Lawful config) h.received lawful) in
    let known = found (KeptQuestion config h.before) h.socket (questions config h.before) q (kept_questions config h.before until.1) h.waits in
    subst RangePort known.0.guest (range_port config q.number h.before ports (allowed_before h.later here (subst AreAllowed h.received allowed)).1)
