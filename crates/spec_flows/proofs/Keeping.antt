-- Each flow of a run keeps the law of one flow, where each call was one that may follow its past.
use Rattle.std.proofs.Common.{◌≡◌, ℕ, ◌+◌, ◌^◌, ◌≤◌, min, max, List, [], ◌∷◌, drop, Option, Some, None, MatchOption, refl, sym, subst, arith}
use Rattle.net_octets.specs.declared.Endpoint.{Endpoint}
use Rattle.world_face.specs.Frames.{tail, opens}
use Rattle.world_face.specs.Journal.{Entry, Call, call_of, Now, Wait, LinkOpen, LinkRead, LinkWrite, Connect, Connected, Listen, Accept, TcpRead, TcpWrite, TcpEnd, Close, UdpOpen, UdpSend}
use Rattle.world_face.specs.Journal.{UdpRecv, FileLen, FileRead, CallConnect, CallClose}
use Rattle.world_face.specs.declared.Io.{Io}
use Rattle.world_face.specs.declared.Io.TheVariants.{Done, End, NotYet, Failed}
use Rattle.world_face.specs.declared.Made.{Made}
use Rattle.world_face.specs.declared.Made.TheVariants.{Done as MadeDone, Failed as MadeFailed}
use Rattle.world_face.specs.declared.Accepted.{Accepted}
use Rattle.world_face.specs.declared.Accepted.TheVariants.{From, NotYet as NotYetAccepted, Failed as AcceptFailed}
use Rattle.slirp_settings.specs.Addresses.{Config}
use Rattle.spec_flow.specs.Event.{Event, Opens}
use Rattle.spec_flow.specs.Dutiful.{MustClose}
use Rattle.spec_flow.specs.Lawful.{Act, AskConnected, Write, EndHost, Read, act_of}
use Rattle.spec_trace.specs.Happenings.{Arrival, happens}
use Rattle.spec_trace.specs.Moments.{moment}
use Rattle.spec_trace.specs.Sockets.{next_number}
use Rattle.spec_flows.specs.Book.{book, scene, turned, quiet}
use Rattle.spec_flows.specs.Doings.{Doing, Nothing, Pauses, Joins, Visits, Calls, comes, goes, resolves, doing_by, joined, read_by, written_by, ended_by}
use Rattle.spec_flows.specs.Flows.{flow_of}
use Rattle.spec_flows.specs.Laws.{flow_settings, MayAct, MaySend, WritesBy, SendsOn, MustAct, MustSend, ClosesAtOnce, MayDue, MayFlow, KeepsFlows}
use Rattle.spec_flows.specs.SegmentVerdicts.{due_by, connects_to}
use Rattle.spec_flows.specs.Said.{Each, IsSound, AreKept}
use Rattle.spec_flows.specs.Segments.{OnTuple, segment_came, segment_in, asked_in}
use Rattle.spec_flows.proofs.Lists.{each_by_number}
use Rattle.spec_flows.proofs.Stories.{may_happen, must_happen, joined_act, joined_opens, read_act, read_opens, write_act, write_opens, end_act, end_opens}
use Rattle.spec_flows.proofs.Turning.{same_sound, comes_sound, goes_sound, resolves_sound, calls_sound, shuts_sound, joins_sound, visits_sound}

-- ---- the call that is due

-- where another call than a close comes, no socket is to be closed
none_doomed : (doomed : Option ℕ) (to : Option Endpoint) (number : ℕ) (call : Call) → MatchOption (due_by doomed to number) (Unit {0}) (λ d. call ≡ d)
    → ((socket : ℕ) → call ≡ CallClose socket → ⊥) → doomed ≡ None
none_doomed None to number call due not = refl
none_doomed (Some socket) to number call due not = absurd (not socket due)

-- where a socket is closed, it is the one that is to be
only_doomed : (doomed : Option ℕ) (to : Option Endpoint) (number socket : ℕ) → MatchOption (due_by doomed to number) (Unit {0}) (λ d. CallClose socket ≡ d)
    → (n : ℕ) → doomed ≡ Some n → n ≡ socket
only_doomed None to number socket due n is = absurd (none_some is)
  where
    none_some : None ≡ Some n → ⊥
    none_some is = cc
only_doomed (Some m) to number socket due n is = cc

-- a socket that connects has the next number
pub connects_next : (doomed : Option ℕ) (to : Option Endpoint) (number socket : ℕ) (at : Endpoint) → due_by doomed to number ≡ Some (CallConnect socket at) → socket ≡ number
connects_next (Some n) to number socket at is = cc
connects_next None None number socket at is = cc
connects_next None (Some e) number socket at is = cc

module _ (config : Config) (past : List Entry) (kept : AreKept config past) where
  free : (call : Call) → MayDue config past call → ((socket : ℕ) → call ≡ CallClose socket → ⊥) → (book config past).doomed ≡ None
  free call due not = none_doomed (book config past).doomed (connects_to config (book config past)) (next_number past) call due not

  -- no flow must be closed, where another call than a close comes
  free_to_go : (call : Call) → ClosesAtOnce config past call → ((socket : ℕ) → call ≡ CallClose socket → ⊥) → Each (λ f. MustClose f.story → ⊥) (book config past).flows
  free_to_go call closes not = each_by_number (λ f. MustClose f.story → ⊥) (book config past).flows kept.differ (λ n f found must. not n (closes n f found must))

  abbrev Stay : Type 0
  Stay = Each (λ f. MustClose f.story → ⊥) (book config past).flows

  abbrev IsNext : Doing → Type 0
  IsNext d = IsSound (flow_settings config) (moment past) (next_number past) (turned config (scene config past) d (book config past))

  nothing : (book config past).doomed ≡ None → IsNext Nothing
  nothing none = same_sound config (flow_settings config) (scene config past) (next_number past) (book config past) kept (moment past) (next_number past) (quiet (book config past))
      (omega arith) (omega arith) none refl

  -- a frame came, or none
  came : (e : Entry) → (book config past).doomed ≡ None → Stay → IsNext (doing_by None None e) → (o : Option Arrival) → IsNext (doing_by o None e)
  came e none stay other None = other
  came e none stay other (Some arrival) = by_segment (segment_came (Some arrival))
    where
      by_segment : (o : Option OnTuple) → IsNext (comes o)
      by_segment None = nothing none
      by_segment (Some on) = comes_sound config (flow_settings config) (scene config past) (next_number past) (book config past) kept on none stay

  -- a frame went out, or none
  asked : (o : Option ℕ) → (book config past).doomed ≡ None → Stay → IsNext (resolves o)
  asked None none stay = nothing none
  asked (Some guest) none stay = resolves_sound config (flow_settings config) (scene config past) (next_number past) (book config past) kept guest none stay

  went : (frame : List ℕ) (o : Option OnTuple) → (book config past).doomed ≡ None → Stay → SendsOn (MaySend (flow_settings config) (moment past)) (book config past).flows o
      → SendsOn (MustSend (flow_settings config) (moment past)) (book config past).flows o → IsNext (goes o (asked_in frame))
  went frame None none stay may must = asked (asked_in frame) none stay
  went frame (Some on) none stay may must = goes_sound config (flow_settings config) (scene config past) (next_number past) (book config past) kept on none may must

  begun : (octets : List ℕ) (answer : Io) → (book config past).doomed ≡ None → Stay → (rest : List ℕ) → WritesBy (MaySend (flow_settings config) (moment past)) (book config past).flows rest octets
      → WritesBy (MustSend (flow_settings config) (moment past)) (book config past).flows rest octets → IsNext (doing_by None (opens (LinkWrite octets answer) rest) (LinkWrite octets answer))
  begun octets answer none stay (x ∷ rest) may must = nothing none
  begun octets (Done n) none stay [] may must = went (drop 4 octets) (segment_in (drop 4 octets)) none stay may must
  begun octets End none stay [] may must = nothing none
  begun octets NotYet none stay [] may must = nothing none
  begun octets Failed none stay [] may must = nothing none

  -- a call on a flow's socket
  called : (socket : ℕ) (e : Event) (act : Act) → (book config past).doomed ≡ None → (Opens e → ⊥) → act_of e ≡ Some act
      → MayAct (flow_settings config) (moment past) (flow_of socket (book config past).flows) act → MustAct (flow_settings config) (moment past) (flow_of socket (book config past).flows) act
      → IsNext (Calls socket e)
  called socket e act none other is may must =
      calls_sound config (flow_settings config) (scene config past) (next_number past) (book config past) kept socket e none other
      (λ f found. may_happen (flow_settings config) f.story (moment past) e act is (subst (λ o. MayAct (flow_settings config) (moment past) o act) found may))
      (λ f found. must_happen (flow_settings config) f.story (moment past) e act is (subst (λ o. MustAct (flow_settings config) (moment past) o act) found must))

  connects : (socket : ℕ) (to : Endpoint) (answer : Made) → (book config past).doomed ≡ None → socket ≡ next_number past → AreKept config (Connect socket to answer ∷ past)
  connects socket to MadeDone none is =
      subst (λ n. IsSound (flow_settings config) (moment past) (next_number past + 1) (turned config (scene config past) (Joins n) (book config past))) (sym is)
      (joins_sound config (flow_settings config) (scene config past) (next_number past) (book config past) kept none)
  connects socket to MadeFailed none is =
      same_sound config (flow_settings config) (scene config past) (next_number past) (book config past) kept (moment past) (next_number past + 1) (quiet (book config past))
      (omega arith) (omega arith) none refl

  accepts : (listener socket : ℕ) (answer : Accepted) → (book config past).doomed ≡ None → socket ≡ next_number past → AreKept config (Accept listener socket answer ∷ past)
  accepts listener socket (From peer) none is =
      subst (λ n. IsSound (flow_settings config) (moment past) (next_number past + 1) (turned config (scene config past) (Visits listener n peer) (book config past))) (sym is)
      (visits_sound config (flow_settings config) (scene config past) (next_number past) (book config past) kept listener peer none)
  accepts listener socket NotYetAccepted none is = nothing none
  accepts listener socket AcceptFailed none is = nothing none

  more : (later next : ℕ) → moment past ≤ later → next_number past ≤ next → (book config past).doomed ≡ None → IsSound (flow_settings config) later next (quiet (book config past))
  more later next follows numbers none =
      same_sound config (flow_settings config) (scene config past) (next_number past) (book config past) kept later next (quiet (book config past)) follows numbers none refl

  pub goes_on : (e : Entry) → MayFlow config past (call_of e) → AreKept config (e ∷ past)
  goes_on (Now told) may = more (max (min told (2 ^ 62)) (moment past)) (next_number past) (omega arith) (omega arith) (free _ may.due (λ n is. cc))
  goes_on (Wait wants timeout answer ready) may =
      same_sound config (flow_settings config) (scene config past) (next_number past) (book config past) kept (moment past) (next_number past)
      (turned config (scene config past) Pauses (book config past)) (omega arith) (omega arith) (free _ may.due (λ n is. cc)) refl
  goes_on (LinkOpen at answer) may = nothing (free _ may.due (λ n is. cc))
  goes_on (LinkRead asked answer octets) may =
      came (LinkRead asked answer octets) (free _ may.due (λ n is. cc)) (free_to_go _ may.at_once (λ n is. cc)) (nothing (free _ may.due (λ n is. cc)))
      (happens config past (LinkRead asked answer octets)).came
  goes_on (LinkWrite octets answer) may = begun octets answer (free _ may.due (λ n is. cc)) (free_to_go _ may.at_once (λ n is. cc)) (tail past) may.touches may.must
  goes_on (Connect socket to answer) may =
      connects socket to answer (free _ may.due (λ n is. cc)) (connects_next (book config past).doomed (connects_to config (book config past)) (next_number past) socket to may.touches)
  goes_on (Connected socket answer) may =
      called socket (joined answer) AskConnected (free _ may.due (λ n is. cc)) (joined_opens answer) (joined_act answer) may.touches may.must
  goes_on (Listen socket at answer) may = more (moment past) (next_number past + 1) (omega arith) (omega arith) (free _ may.due (λ n is. cc))
  goes_on (Accept listener socket answer) may = accepts listener socket answer (free _ may.due (λ n is. cc)) may.touches
  goes_on (TcpRead socket asked answer octets) may =
      called socket (read_by answer octets) Read (free _ may.due (λ n is. cc)) (read_opens answer octets) (read_act answer octets) may.touches may.must.0
  goes_on (TcpWrite socket octets answer) may =
      called socket (written_by answer octets) (Write octets) (free _ may.due (λ n is. cc)) (write_opens answer octets) (write_act answer octets) may.touches may.must
  goes_on (TcpEnd socket answer) may =
      called socket (ended_by answer) EndHost (free _ may.due (λ n is. cc)) (end_opens answer) (end_act answer) may.touches may.must
  goes_on (Close socket) may =
      shuts_sound config (flow_settings config) (scene config past) (next_number past) (book config past) kept socket
      (only_doomed (book config past).doomed (connects_to config (book config past)) (next_number past) socket may.due) may.touches
  goes_on (UdpOpen socket at answer) may = more (moment past) (next_number past + 1) (omega arith) (omega arith) (free _ may.due (λ n is. cc))
  goes_on (UdpSend socket to octets answer) may = nothing (free _ may.due (λ n is. cc))
  goes_on (UdpRecv socket asked answer octets) may = nothing (free _ may.due (λ n is. cc))
  goes_on (FileLen name answer) may = nothing (free _ may.due (λ n is. cc))
  goes_on (FileRead name place asked answer octets) may = nothing (free _ may.due (λ n is. cc))

pub are_kept : (config : Config) (past : List Entry) → KeepsFlows config past → AreKept config past
are_kept config [] keeps = record { differ = tt; below = tt; each = tt }
are_kept config (e ∷ past) keeps = goes_on config past (are_kept config past keeps.1) e keeps.0
