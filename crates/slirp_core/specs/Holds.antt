-- What the core keeps of the calls made on the World.
use Rattle.std.specs.Prelude.{◌≡◌, ℕ, ◌<◌, ◌≤◌, ◌||◌, ◌⊎◌, Bool, true, false, List, [], ◌∷◌, ◌++◌, drop, Contains, Option, None, Some, length}
use Rattle.poll_list.specs.declared.Want.{Want}
use Rattle.world_face.specs.Journal.{Entry, AreAllowed}
use Rattle.world_face.specs.Frames.{Ending, LinkFailed}
use Rattle.slirp_settings.specs.Addresses.{Config}
use Rattle.slirp_settings.specs.declared.Forward.{Forward}
use Rattle.rules_udp.specs.Associations.{numbers}
use Rattle.rules_udp.specs.declared.Association.{Association as AnAssociation}
use Rattle.rules_dns.specs.declared.Question.{Question}
use Rattle.rules_dns.specs.Questions.{numbers as question_numbers}
use Rattle.spec_flows.specs.Book.{book}
use Rattle.spec_flows.specs.Laws.{NoneMustClose}
use Rattle.spec_flows.specs.SegmentVerdicts.{due_for_flows, is_reset}
use Rattle.spec_flows.specs.Taught.{taught}
use Rattle.flow_splice.specs.Splice.{Splice}
use Rattle.spec_trace.specs.Guests.{known}
use Rattle.spec_trace.specs.Moments.{moment, waits}
use Rattle.rules_forward.specs.Opened.{Opened, socket_for}
use Rattle.spec_trace.specs.Packets.{Datagram}
use Rattle.spec_run.specs.Leasing.{leases}
use Rattle.spec_trace.specs.Shape.{Cause, Refused, Phase, Opening, Started, Working, By, Over, phase, is_ended}
use Rattle.spec_trace.specs.Sockets.{Kind, is_among, is_association, is_flow, kind_of, next_number, open_sockets}
use Rattle.spec_run.specs.Agenda.{agenda, all_wanted}
use Rattle.spec_run.specs.Answers.{frames_of, identification, left, owed_for_segment, serving, served_file, told_of_files}
use Rattle.spec_run.specs.Errands.{errand_left}
use Rattle.spec_run.specs.Datagrams.{Errand, Step, NeedsNothing}
use Rattle.spec_run.specs.Relayed.{associations, step_for}
use Rattle.spec_run.specs.Laws.{Finished, Lawful, due_for_services, is_closing}
use Rattle.spec_run.specs.Names.{answered, questions}
use Rattle.stream_netdev.specs.Keeps.{Keeps}
use Rattle.stream_netdev.specs.State.{LinkState}
use Rattle.slirp_core.specs.Forwards.{AreInForce, is_given, with_numbers}
use Rattle.rules_forward.specs.Opened.{forward_sockets}
use Rattle.slirp_core.specs.Owed.{IsOwedAt}
use Rattle.slirp_core.specs.Packets.{Request, ToSend, ToServe}
use Rattle.slirp_core.specs.Segments.{Coming}
use Rattle.slirp_core.specs.Services.{OfServices}
use Rattle.slirp_core.specs.Sockets.{IsRising}
use Rattle.slirp_core.specs.State.{SlirpState, serving_of}
use Rattle.slirp_core.specs.Waiting.{OfFragments}
use Rattle.stream_netdev.specs.declared.Pumped.{Pumped}
use Rattle.stream_netdev.specs.declared.Pumped.TheVariants.{Clear, Blocked, Failed}
use Rattle.sim_flows.specs.Asked.{AreAsked}
use Rattle.sim_flows.specs.Core.{CoreHolds, number_of}
use Rattle.tcp_flows.specs.Kept.{IsFor, Kept}
use Rattle.tcp_flows.specs.Reading.{AllClear, HasSocket, IsOpenAt, NoneInSlots}
use Rattle.tcp_flows.specs.Runs.{Brings}

-- where a run stands: so many waits were made, the last one with these wants, and this is left of what it reported
pub record Standing : Type 0 where
  pub count : ℕ
  pub wants : List Want
  pub left : List Want

abbrev pub standing : ℕ → List Want → List Want → Standing
standing count wants left = record { count = count; wants = wants; left = left }

-- after so many waits, of whose reports none is left
abbrev pub after : ℕ → Standing
after count = standing count [] []

-- these are the last of those
abbrev pub IsLast : List Want → List Want → Type 0
IsLast items all = (before : List Want) × (all ≡ before ++ items)

-- a wait began this turn
pub record InTurn (config : Config) (past : List Entry) : Type 0 where
  pub working : phase config past ≡ Working
  pub waited : 0 < waits past

-- before the first wait nothing was reported, no socket is open but those of forwards, nothing is to be sent, and no guest gets a file
pub record Unbegun (config : Config) (step : Step) (slirp : SlirpState) (link : LinkState) (past : List Entry) : Type 0 where
  pub started : phase config past ≡ Started
  pub unwaited : waits past ≡ 0
  pub unreported : agenda past ≡ []
  pub unasked : step ≡ NeedsNothing
  pub alone : slirp.associations ≡ []
  pub unnamed : slirp.questions ≡ []
  pub nothing : slirp.pending ≡ []
  pub unserved : slirp.transfers ≡ []
  pub empty : link.tail ≡ []

-- what the core has, part by part: how many datagrams went out, the frames that are owed, and the transfers of files
pub record OfAnswers (config : Config) (step : Step) (aged : Bool) (slirp : SlirpState) (past : List Entry) : Type 0 where
  pub sent : identification past ≡ slirp.sent
  pub owed : IsOwedAt step config aged slirp past

-- the clock and the waits
pub record OfClock (at : Standing) (slirp : SlirpState) (past : List Entry) : Type 0 where
  pub moment : moment past ≡ slirp.moment
  pub counted : waits past ≡ at.count

-- the settings as they were given: no forward is added or taken back
abbrev pub as_given : Config → Config
as_given config = record config { added = []; removed = [] }

-- what only a frame of the guests changes, and time, the settings aside, which nothing does: whose addresses are known, and which fragments wait
pub record OfGuests (config : Config) (slirp : SlirpState) (past : List Entry) : Type 0 where
  pub settings : slirp.config ≡ as_given config
  pub known : known config past ≡ slirp.known
  pub fragments : OfFragments config slirp past

-- what a datagram asks for by the open forwards, the questions that wait, and the associations
abbrev pub asked_by : Config → SlirpState → Option Errand → Step
asked_by config slirp errand = step_for config slirp.questions (λ guest. socket_for guest slirp.forwards) slirp.associations errand

-- the associations and the questions, each in the order of use; what the datagram that came last still asks for; and the socket of the question whose answer came just now, if one did
pub record OfRelay (config : Config) (step : Step) (on : Option ℕ) (slirp : SlirpState) (past : List Entry) : Type 0 where
  pub list : associations config past ≡ slirp.associations
  pub questions : questions config past ≡ slirp.questions
  pub asks : asked_by config slirp (errand_left config past) ≡ step
  pub heard : answered config past ≡ on

-- what is kept of flows, and whether the TIME-WAITs that are over have ended
pub record Flowing : Type 0 where
  pub kept : Kept
  pub aged : Bool

abbrev pub flowing : Bool → Kept → Flowing
flowing aged kept = record { kept = kept; aged = aged }

-- the slots stand for the flows of the trace, none of which asks for a call; no guest was asked for more often than the flows that were accepted for it may
-- ask; and a frame has room for a header and a unit of 8 octets
pub record OfFlows (config : Config) (f : Flowing) (now : ℕ) (past : List Entry) : Type 0 where
  pub holds : CoreHolds config now f.aged None f.kept.flows past
  pub asked : AreAsked config f.kept.flows.slots past
  pub settings : IsFor config f.kept
  pub unit : 28 ≤ config.mtu

-- the next number; and each open socket carries a guest's datagrams, is a flow's, or that of a port of the host that is given to a guest
abbrev pub is_ours : Option Kind → Bool
is_ours kind = is_association kind || is_flow kind || is_given kind

-- the open sockets are ours, and their numbers are drawn
pub record OfSockets (next : ℕ) (past : List Entry) : Type 0 where
  pub number : next_number past ≡ next
  pub kinds : (n : ℕ) → is_among n (open_sockets past) ≡ true → is_ours (kind_of n past) ≡ true

-- a wait began this turn; or none came yet, and then there is no flow
pub data Stands (config : Config) (step : Step) (slirp : SlirpState) (kept : Kept) (link : LinkState) (past : List Entry) : Type 0 where
  Turns : InTurn config past → Stands config step slirp kept link past
  Begins : Unbegun config step slirp link past → NoneInSlots kept.flows.slots → (book config past).time_waits ≡ [] → Stands config step slirp kept link past

-- Before the clock is asked: so many forwards are open, the first of the settings, and nothing else was done.
pub record Opens (config : Config) (count : ℕ) (slirp : SlirpState) (link : LinkState) (past : List Entry) : Type 0 where
  pub lawful : Lawful config past
  pub allowed : AreAllowed past
  pub keeps : Keeps link past
  pub answers : OfAnswers config NeedsNothing false slirp past
  pub guests : OfGuests config slirp past
  pub relayed : OfRelay config NeedsNothing None slirp past
  pub services : OfServices config slirp past
  pub done : List Forward
  pub left : List Forward
  pub all : config.forwards ≡ done ++ left
  pub many : count ≡ length done
  pub forwards : slirp.forwards ≡ with_numbers 0 done
  pub given : AreInForce config slirp.forwards past
  pub opening : phase config past ≡ Opening count left
  pub are_open : open_sockets past ≡ forward_sockets slirp.forwards
  pub flows : OfFlows config (flowing false slirp.flows) slirp.moment past
  pub sockets : OfSockets slirp.number past
  pub clock : OfClock (after 0) slirp past
  pub number : slirp.number ≡ count
  pub unreported : agenda past ≡ []
  pub none : NoneInSlots slirp.flows.flows.slots
  pub unrested : (book config past).time_waits ≡ []
  pub alone : slirp.associations ≡ []
  pub unnamed : slirp.questions ≡ []
  pub nothing : slirp.pending ≡ []
  pub unserved : slirp.transfers ≡ []
  pub empty : link.tail ≡ []
  pub open_yet : is_closing config past ≡ false

-- Between entries that end a run: what the core has is what the calls made so far left, and the datagram that came last still asks for this; the answer to a
-- question came just now on this socket, or none did.
pub record HoldsOn (config : Config) (at : Standing) (step : Step) (heard : Option ℕ) (slirp : SlirpState) (f : Flowing) (link : LinkState) (past : List Entry) : Type 0 where
  pub lawful : Lawful config past
  pub allowed : AreAllowed past
  pub keeps : Keeps link past
  pub answers : OfAnswers config step f.aged slirp past
  pub guests : OfGuests config slirp past
  pub relayed : OfRelay config step heard slirp past
  pub services : OfServices config slirp past
  pub forwards : AreInForce config slirp.forwards past
  pub flows : OfFlows config f slirp.moment past
  pub sockets : OfSockets slirp.number past
  pub clock : OfClock at slirp past
  pub stands : Stands config step slirp f.kept link past
  pub agenda : IsLast (all_wanted at.wants at.left) (agenda past)
  pub open_yet : is_closing config past ≡ false

-- no question's answer came just now; the datagram that came last still asks for this
abbrev pub HoldsAt : Config → Standing → Step → SlirpState → Flowing → LinkState → List Entry → Type 0
HoldsAt config at step slirp f link past = HoldsOn config at step None slirp f link past

-- the same, and it asks for nothing
abbrev pub Holds : Config → Standing → SlirpState → Flowing → LinkState → List Entry → Type 0
Holds config at slirp f link past = HoldsAt config at NeedsNothing slirp f link past

-- ---- a segment came

-- The newest entry brought a segment, which is still to be heard; else all is as it is between entries.
pub record Comes (config : Config) (at : Standing) (slirp : SlirpState) (kept : Kept) (link : LinkState) (c : Coming) (past : List Entry) : Type 0 where
  pub newest : Entry
  pub before : List Entry
  pub is : past ≡ newest ∷ before
  pub brings : Brings config slirp.moment kept c.on.tuple c.tcp c.on newest before
  pub allowed : AreAllowed past
  pub keeps : Keeps link past
  pub sent : identification past ≡ slirp.sent
  pub owed : left config past ≡ frames_of config slirp.sent (owed_for_segment (is_reset config (book config past) c.on) c.on)
  pub none : slirp.pending ≡ []
  pub again : (serving config past).again ≡ None
  pub files : slirp.transfers ≡ (serving config past).files.transfers
  pub guests : OfGuests config slirp past
  pub relayed : OfRelay config NeedsNothing None slirp past
  pub services : OfServices config slirp past
  pub forwards : AreInForce config slirp.forwards past
  pub learnt : Contains (taught config past) (c.on.tuple.guest.addr, record { 0 = c.on.mac })
  pub unit : 28 ≤ config.mtu
  pub sockets : OfSockets slirp.number past
  pub clock : OfClock at slirp past
  pub turn : InTurn config past
  pub agenda : IsLast (all_wanted at.wants at.left) (agenda past)

-- ---- a datagram for the server of files came

-- It is still to be served: the calls on files that it asks for come next, and what the guest is told is owed once none is asked for.
pub record AsksFile (config : Config) (at : Standing) (slirp : SlirpState) (kept : Kept) (link : LinkState) (d : Datagram) (past : List Entry) : Type 0 where
  pub lawful : Lawful config past
  pub allowed : AreAllowed past
  pub keeps : Keeps link past
  pub sent : identification past ≡ slirp.sent
  pub outcome : (serving config past).files ≡ (served_file config (serving_of slirp) d).files
  pub owed : left config past ≡ frames_of config slirp.sent (told_of_files config (served_file config (serving_of slirp) d).told)
  pub none : slirp.pending ≡ []
  pub again : (serving config past).again ≡ None
  pub guests : OfGuests config slirp past
  pub relayed : OfRelay config NeedsNothing None slirp past
  pub leases : leases config past ≡ slirp.leases
  pub forwards : AreInForce config slirp.forwards past
  pub flows : OfFlows config (flowing false kept) slirp.moment past
  pub sockets : OfSockets slirp.number past
  pub clock : OfClock at slirp past
  pub turn : InTurn config past
  pub agenda : IsLast (all_wanted at.wants at.left) (agenda past)
  pub open_yet : is_closing config past ≡ false

-- ---- what came asks for

-- What a datagram asks for is still to be done: it goes out, or is served. Where it asks for nothing all is as it must be.
abbrev pub RequestLeft : Config → Standing → SlirpState → LinkState → Option Request → List Entry → Type 0
RequestLeft config at slirp link None past = Holds config at slirp (flowing false slirp.flows) link past
RequestLeft config at slirp link (Some (ToSend errand)) past = HoldsAt config at (asked_by config slirp (Some errand)) slirp (flowing false slirp.flows) link past
RequestLeft config at slirp link (Some (ToServe d)) past = AsksFile config at slirp slirp.flows link d past

-- the same where a segment may have come, which is still to be heard
abbrev pub WorkLeft : Config → Standing → SlirpState → LinkState → Option Request → Option Coming → List Entry → Type 0
WorkLeft config at slirp link request None past = RequestLeft config at slirp link request past
WorkLeft config at slirp link request (Some segment) past = Comes config at slirp slirp.flows link segment past

-- ---- the end

-- what of the network has open sockets, but for forwards
pub record Holders : Type 0 where
  pub associations : List AnAssociation
  pub questions : List Question
  pub slots : List (Option Splice)

abbrev pub holders_with : SlirpState → Kept → Holders
holders_with slirp kept = record { associations = slirp.associations; questions = slirp.questions; slots = kept.flows.slots }

abbrev pub holders_of : SlirpState → Holders
holders_of slirp = holders_with slirp slirp.flows

-- no socket is open but those of forwards
pub record HoldsNothingElse (slirp : SlirpState) : Type 0 where
  pub alone : slirp.associations ≡ []
  pub unnamed : slirp.questions ≡ []
  pub none : NoneInSlots slirp.flows.flows.slots

-- the sockets of associations and of questions, which carry datagrams; none is that of both
abbrev pub carriers : Holders → List ℕ
carriers o = numbers o.associations ++ question_numbers o.questions

-- no socket is both an association's and a question's
abbrev pub AreTwo : Holders → Type 0
AreTwo o = (n : ℕ) → is_among n (numbers o.associations) ≡ true → is_among n (question_numbers o.questions) ≡ false

-- a socket is one of these, or a flow's
abbrev pub IsOf : List ℕ → List (Option Splice) → ℕ → Type 0
IsOf carriers parts n = (is_among n carriers ≡ true) ⊎ HasSocket n parts (λ p. Unit {0})

-- the least of them all is a forward's, or it isn't
abbrev pub IsForwardFirst : List ℕ → List ℕ → List (Option Splice) → Type 0
IsForwardFirst forwards carriers parts = (n : ℕ) × (rest : List ℕ) × (forwards ≡ n ∷ rest) × ((m : ℕ) → IsOf carriers parts m → n ≤ m)

-- the least open socket is of the others, whatever it is, and no forward's
pub record NoForwardFirst (forwards carriers : List ℕ) (parts : List (Option Splice)) : Type 0 where
  pub below : (bound : ℕ) → IsRising bound forwards → (n : ℕ) → IsOf carriers parts n → ((m : ℕ) → IsOf carriers parts m → n ≤ m) → (k : ℕ) → is_among k forwards ≡ true → n ≤ k
  pub none : ((n : ℕ) → IsOf carriers parts n → ⊥) → forwards ≡ []

-- the open sockets are those of these forwards, by rising number; these, which carry datagrams; and those of these flows; and none of them is two of these
pub record AreOpen (forwards carriers : List ℕ) (parts : List (Option Splice)) (past : List Entry) : Type 0 where
  pub each : (n : ℕ) → is_among n (open_sockets past) ≡ true → (is_among n forwards ≡ true) ⊎ IsOf carriers parts n
  pub forward : (n : ℕ) → is_among n forwards ≡ true → is_among n (open_sockets past) ≡ true
  pub carry : (n : ℕ) → is_among n carriers ≡ true → is_among n (open_sockets past) ≡ true
  pub flow : (k : ℕ) (p : Splice) → IsOpenAt parts k p → is_among (number_of p) (open_sockets past) ≡ true
  pub apart : (k : ℕ) (p : Splice) → IsOpenAt parts k p → is_among (number_of p) carriers ≡ false
  pub rising : (bound : ℕ) × IsRising bound forwards
  pub others : (n : ℕ) → is_among n forwards ≡ true → IsOf carriers parts n → ⊥

-- after an entry that ended the run in this way, after so many waits
pub record Ended (config : Config) (count : ℕ) (why : Ending) (forwards : List Opened) (o : Holders) (past : List Entry) : Type 0 where
  pub lawful : Lawful config past
  pub over : phase config past ≡ Over (By why)
  pub waited : waits past ≡ count
  pub errand : errand_left config past ≡ None
  pub served : due_for_services config past ≡ None
  pub idle : due_for_flows config (book config past) (next_number past) ≡ None
  pub stay : NoneMustClose config past
  pub sockets : AreOpen (forward_sockets forwards) (carriers o) o.slots past
  pub two : AreTwo o

-- after a pump: where it failed as many numbers were drawn as the network has
abbrev pub AfterPump : Pumped → Config → Standing → SlirpState → Flowing → LinkState → List Entry → Type 0
AfterPump Clear config at slirp f link past = Holds config at slirp f link past
AfterPump Blocked config at slirp f link past = Holds config at slirp f link past
AfterPump Failed config at slirp f link past = Ended config at.count LinkFailed slirp.forwards (holders_with slirp f.kept) past × (next_number past ≡ slirp.number)

-- what is left after a pump
abbrev pub Leaves : Pumped → SlirpState → LinkState → Type 0
Leaves Clear slirp link = (link.blocked ≡ false) × (link.tail ≡ []) × (slirp.pending ≡ []) × AllClear slirp.flows.flows.slots
Leaves Blocked slirp link = link.blocked ≡ true
Leaves Failed slirp link = Unit {0}

-- what is left of answers
abbrev pub LeavesNone : Pumped → SlirpState → LinkState → Type 0
LeavesNone Clear slirp link = (link.blocked ≡ false) × (link.tail ≡ []) × (slirp.pending ≡ [])
LeavesNone Blocked slirp link = link.blocked ≡ true
LeavesNone Failed slirp link = Unit {0}

-- after an offer of the first pending frame the others stay, where nothing of it is left
abbrev pub LeavesBehind : Pumped → SlirpState → SlirpState → LinkState → Type 0
LeavesBehind Clear old new link = (link.blocked ≡ false) × (link.tail ≡ []) × (new.pending ≡ drop 1 old.pending)
LeavesBehind Blocked old new link = link.blocked ≡ true
LeavesBehind Failed old new link = Unit {0}

-- the same of the rest of a frame alone
abbrev pub LeavesRest : Pumped → LinkState → Type 0
LeavesRest Clear link = (link.blocked ≡ false) × (link.tail ≡ [])
LeavesRest Blocked link = link.blocked ≡ true
LeavesRest Failed link = Unit {0}

-- an entry ended the run, or the host refused a forward; or it has made its last wait
pub data IsThrough (config : Config) (past : List Entry) : Type 0 where
  OverFor : (cause : Cause) → phase config past ≡ Over cause → IsThrough config past
  AllWaited : phase config past ≡ Working → IsThrough config past

-- A run that has ended in this phase; only its sockets are to be closed, which are those of these forwards, those that carry datagrams, and those of flows.
pub record Closing (config : Config) (over : Phase) (forwards : List ℕ) (o : Holders) (past : List Entry) : Type 0 where
  pub lawful : Lawful config past
  pub ended : is_ended config past ≡ true
  pub is : over ≡ phase config past
  pub through : IsThrough config past
  pub errand : errand_left config past ≡ None
  pub served : due_for_services config past ≡ None
  pub idle : due_for_flows config (book config past) (next_number past) ≡ None
  pub stay : NoneMustClose config past
  pub sockets : AreOpen forwards (carriers o) o.slots past
  pub two : AreTwo o

-- a run that is over: it is lawful and finished, and this is the phase in which it ended
abbrev pub Ran : Config → Phase → List Entry → Type 0
Ran config over made = Lawful config made × Finished config made × (over ≡ phase config made)

-- after a socket was closed, or none was left
abbrev pub AfterClosing : Bool → Config → Phase → List ℕ → Holders → List Entry → Type 0
AfterClosing true config over forwards o past = Closing config over forwards o past
AfterClosing false config over forwards o past = Ran config over past

-- where the socket with the least number is none of these forwards', one of the others was closed, if there was one
abbrev pub ClosesOther : Bool → List ℕ → (old new : Holders) → List Entry → Type 0
ClosesOther more forwards old new made =
    (config : Config) (over : Phase) (past : List Entry) → NoForwardFirst forwards (carriers old) old.slots → Closing config over forwards old past
    → AfterClosing more config over forwards new (made ++ past)

-- the socket with the least number was closed, if there was one
abbrev pub ClosesNext : Bool → (before after : List Opened) → (old new : Holders) → List Entry → Type 0
ClosesNext more before after old new made =
    (config : Config) (over : Phase) (past : List Entry) → Closing config over (forward_sockets before) old past
    → AfterClosing more config over (forward_sockets after) new (made ++ past)

-- all of these sockets were closed: whatever run had them, and had ended, is finished
abbrev pub ClosesAll : List Opened → Holders → List Entry → Type 0
ClosesAll forwards o made =
    (config : Config) (over : Phase) (past : List Entry) → Closing config over (forward_sockets forwards) o past → Ran config over (made ++ past)

-- after the ports of the host were opened; or one was refused, for which a number was drawn, too, and the others are to be closed
abbrev pub AfterListening : Option ℕ → Config → SlirpState → LinkState → List Entry → Type 0
AfterListening None config slirp link past = Opens config (length config.forwards) slirp link past
AfterListening (Some place) config slirp link past = Closing config (Over (Refused place)) (forward_sockets slirp.forwards) (holders_of slirp) past × (next_number past ≡ slirp.number)
