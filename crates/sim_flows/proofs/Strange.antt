-- A reset that is still owed as the answer to what came last is no flow's own segment, and the frames of answers leave the flows as they are.
use Rattle.std.proofs.Common.{nat_eq, nat_lt, ◌≡◌, ℕ, ◌≤◌, ◌&&◌, ◌||◌, not, Bool, true, false, List, [], ◌∷◌, length, drop, filter, MatchBool, Option, Some, None, if◌then◌else◌, ◌⊎◌, inl}
use Rattle.std.proofs.Common.{inr, refl, sym, ◌∙◌, ap, subst, cond, ◌==◌}
use Rattle.net_octets.specs.declared.Endpoint.{Endpoint}
use Rattle.net_octets.specs.declared.Mac.{Mac}
use Rattle.std.specs.Option.{unwrap_or}
use Rattle.seq_space.specs.Places.{number_of}
use Rattle.world_face.specs.Journal.{Entry, Call, Now, Wait, LinkOpen, LinkRead, LinkWrite, Connect, Connected as CallsConnected, Listen, Accept, TcpRead, TcpWrite, TcpEnd, Close, UdpOpen}
use Rattle.world_face.specs.Journal.{UdpSend, UdpRecv, FileLen, FileRead, CallConnect, CallUdpOpen}
use Rattle.world_face.specs.Frames.{goes_out, opens as opens_by, tail}
use Rattle.world_face.specs.declared.Io.{Io}
use Rattle.world_face.specs.declared.Io.TheVariants.{Done as IoDone, End, NotYet as IoNotYet, Failed as IoFailed}
use Rattle.world_face.specs.declared.Made.{Made}
use Rattle.world_face.specs.declared.Made.TheVariants.{Done as MadeDone, Failed as MadeFailed}
use Rattle.world_face.specs.declared.Sent.{Sent}
use Rattle.world_face.specs.declared.Sent.TheVariants.{Done as SentDone, NotYet as SentNotYet, Failed as SentFailed}
use Rattle.world_face.specs.declared.Got.{Got}
use Rattle.world_face.specs.declared.Got.TheVariants.{From as GotFrom, NotYet as GotNotYet, Failed as GotFailed}
use Rattle.world_face.specs.declared.Joined.{Joined}
use Rattle.world_face.specs.declared.Joined.TheVariants.{Yes, NotYet as NotYetJoined, Failed as JoinFailed}
use Rattle.world_face.specs.declared.Accepted.{Accepted}
use Rattle.world_face.specs.declared.Accepted.TheVariants.{From as PeerFrom, NotYet as NotYetAccepted, Failed as AcceptFailed}
use Rattle.slirp_settings.specs.Addresses.{Config}
use Rattle.host_policy.specs.Targets.{target}
use Rattle.slirp_settings.specs.declared.Proto.TheVariants.{Tcp as OverTcp}
use Rattle.host_policy.specs.declared.Verdict.{Verdict}
use Rattle.host_policy.specs.declared.Verdict.TheVariants.{Go, Denied}
use Rattle.spec_flow.specs.Event.{AsksAddress, At, Segment, Story}
use Rattle.spec_flow.specs.Close.{is_owed_reset, owes_reset}
use Rattle.spec_flow.specs.Lawful.{Send, May as MayFor}
use Rattle.spec_flow.specs.Dutiful.{Must as MustOfOne}
use Rattle.spec_flow.specs.Flow.{host, is_accepted, is_closed, next_number, our_number, syn_is_out, their_number}
use Rattle.spec_flow.specs.Host.{answered as answered_yet, sent}
use Rattle.spec_flows.specs.Book.{book, is_young, quiet, scene, turned}
use Rattle.spec_flows.specs.Doings.{Doing, Resolves, comes, doing, doing_by, ended_by, goes, joined, read_by, resolves, visits, written_by}
use Rattle.spec_flows.specs.Flows.{Flow, Book, TimeWait, Scene, flow_of, is_on, has_time_wait, is_strange, is_used, owner, sends, used}
use Rattle.spec_flows.specs.Laws.{MaySend, SendsOn, MayShut, WritesBy, MustSend, flow_settings}
use Rattle.spec_flows.specs.SegmentVerdicts.{SegmentVerdict, OfFlow, Dropped, GetsReset, due_for_flows, is_mistaken, is_opening, is_reset, is_reset_by, is_to_many, verdict_by_policy}
use Rattle.spec_flows.specs.Said.{ConnectsAsAsked}
use Rattle.spec_flows.specs.Segments.{OnTuple, asked_in, from_guest, segment_by, segment_came, segment_in}
use Rattle.spec_flows.proofs.Laws.{connects_as_asked}
use Rattle.spec_flows.proofs.Newest.{is_newest}
use Rattle.spec_trace.specs.Happenings.{Arrival, happens}
use Rattle.spec_trace.specs.Moments.{moment}
use Rattle.spec_trace.specs.Packets.{Datagram, Packet, Unheard, ArpPacket, Message, DatagramPacket, Segment as SegmentPacket}
use Rattle.spec_trace.specs.Sockets.{next_number as next_socket}
use Rattle.spec_run.specs.Asking.{step}
use Rattle.spec_run.specs.Names.{questions}
use Rattle.rules_dns.specs.declared.Question.{Question}
use Rattle.rules_dns.specs.Questions.{numbered}
use Rattle.rules_tftp.specs.Asking.{by_answer}
use Rattle.rules_tftp.specs.Transfers.{Outcome, Said}
use Rattle.spec_run.specs.Answers.{Serving, is_flows, starts, again_frames, begins_again, is_first, is_out, ledger, left_by_file, left_by_outcome, may_go_again, serving, told_of_files}
use Rattle.spec_run.specs.Answers.{frames_of, identification, left, left_after, owed_for_packet, owed_for_segment, strays, taken, unsent}
use Rattle.spec_run.specs.Datagrams.{Step, NeedsNothing, NeedsRoom, NeedsSocket, NeedsSending}
use Rattle.spec_run.specs.Laws.{Lawful, May}
use Rattle.spec_run.proofs.Deeds.{FlowsLetWrite}
use Rattle.spec_run.specs.Ports.{last_datagram}
use Rattle.spec_run.specs.Said.{for_guest, Occasion, Came, by_outcome, by_said, heard_on, last_occasion, occasion_after, refused_or, unsent_or}
use Rattle.spec_run.proofs.Bools.{first_of, second_of}
use Rattle.spec_run.proofs.Owing.{Begins, Next, Beside, none_stays, others_stay, out_by}
use Rattle.spec_run.proofs.Steps.{errand_asks, errand_is}
use Rattle.spec_run.proofs.Strays.{left_resets}
use Rattle.sim_flows.specs.FlowsHold.{FlowsHold, FlowsState, time_waits_at}
use Rattle.sim_flows.specs.Seats.{Seats}
use Rattle.sim_flows.proofs.Holding.{taught_on}
use Rattle.sim_flows.proofs.Meanwhile.{IsMeanwhile, is_apart, is_free, meanwhile, quiet_owes, strange_sends, told_same, unused_free}
use Rattle.sim_flows.proofs.Resets.{Answering, HasEnds, answered, left_answers}
use Rattle.sim_flows.proofs.Sought.{holds_resolved}
use Rattle.sim_flows.proofs.Within.{AreEnds}
use Rattle.sim_flows.proofs.Options.{none_some, some_same, true_false}
use Rattle.spec_run.proofs.Joining.{settled_named}

-- ---- why a reset is owed

-- constructors differ
-- a segment that acknowledges another SYN than ours has ACK
mistaken_ack : (seg : Segment) (o : Option Flow) → is_mistaken seg o ≡ true → seg.ack ≡ true
mistaken_ack seg None is = cc
mistaken_ack seg (Some f) is =
    let opened = not (is_closed f.story) && syn_is_out f.story && not (answered_yet (host f.story)) in
    let other = not (nat_eq seg.acknowledgement (next_number (our_number f.story))) in
    second_of opened seg.ack (first_of (opened && seg.ack) (not seg.rst) (first_of (opened && seg.ack && not seg.rst) other is))

-- a segment that owes a reset has ACK, or no flow in use has its tuple
reset_why : (config : Config) (b : Book) (on : OnTuple) → is_reset config b on ≡ true → (on.segment.ack ≡ true) ⊎ (is_used on.tuple b.flows ≡ false)
reset_why config b on reset = by (is_used on.tuple b.flows) refl reset
  where
    other : SegmentVerdict
    other = if on.segment.rst || is_to_many config on.tuple.other then Dropped
        else (if is_opening on.segment then verdict_by_policy (target config OverTcp on.tuple.other) (nat_lt (used b.flows) config.flows) else GetsReset)

    by : (t : Bool) → is_used on.tuple b.flows ≡ t → is_reset_by (if t || has_time_wait on.tuple b then OfFlow else other) (is_mistaken on.segment (owner on.tuple b.flows)) ≡ true →
        (on.segment.ack ≡ true) ⊎ (is_used on.tuple b.flows ≡ false)
    by true is reset = inl (mistaken_ack on.segment (owner on.tuple b.flows) reset)
    by false is reset = inr is

-- one that asks for a connection owes none
asks_none : (config : Config) (b : Book) (to : Endpoint) (asked : ConnectsAsAsked config b to) → is_reset config b asked.on ≡ false
asks_none config b to asked =
    let on = asked.on in
    by (is_used on.tuple b.flows) (has_time_wait on.tuple b) (on.segment.rst || is_to_many config on.tuple.other) (is_opening on.segment) (nat_lt (used b.flows) config.flows)
    (target config OverTcp on.tuple.other) (is_mistaken on.segment (owner on.tuple b.flows))
    asked.free asked.awake asked.opening asked.target
  where
    by : (used in_time_wait many opening room : Bool) (v : Verdict) (mistaken : Bool) → used ≡ false → in_time_wait ≡ false → opening ≡ true → v ≡ Go to
        → is_reset_by (if used || in_time_wait then OfFlow else (if many then Dropped else (if opening then verdict_by_policy v room else GetsReset))) mistaken ≡ false
    by true in_time_wait many opening room v mistaken u r o t = cc
    by false true many opening room v mistaken u r o t = cc
    by false false true opening room v mistaken u r o t = refl
    by false false false false room v mistaken u r o t = cc
    by false false false true room (Denied rule) mistaken u r o t = cc
    by false false false true true (Go at) mistaken u r o t = refl
    by false false false true false (Go at) mistaken u r o t = refl

-- ---- while an answer is left

-- where the segment that is answered has no ACK, its tuple is free
abbrev pub IsClear : List Flow → Option OnTuple → Type 0
IsClear flows None = Unit {0}
IsClear flows (Some on) = (on.segment.ack ≡ true) ⊎ (is_free (owner on.tuple flows) ≡ true)

-- so it is as long as anything of the answer is left
abbrev pub IsCalm : Config → List Entry → Type 0
IsCalm config past = (left config past ≡ []) ⊎ IsClear (book config past).flows (answered (last_occasion config past))

-- where the ends are in range
abbrev CalmIf : Config → List Entry → Type 0
CalmIf config past = HasEnds config past → IsCalm config past

clear_on : (config : Config) (sc : Scene) (b : Book) (d : Doing) (o : Option OnTuple) → IsMeanwhile b d → IsClear b.flows o → IsClear (turned config sc d b).flows o
clear_on config sc b d None may is = tt
clear_on config sc b d (Some on) may is = elim is [
  | inl ack ↦ inl ack
  | inr free ↦ inr (meanwhile config sc b on.tuple free d may)
]

-- an entry that leaves what is left, and what came last
goes_on : (config : Config) (e : Entry) (past : List Entry) → left config (e ∷ past) ≡ left config past → last_occasion config (e ∷ past) ≡ last_occasion config past
    → IsMeanwhile (book config past) (doing config past e) → IsCalm config past → IsCalm config (e ∷ past)
goes_on config e past same_left same_last may calm = elim calm [
  | inl none ↦ inl (same_left ∙ none)
  | inr clear ↦ inr (subst (λ o. IsClear (book config (e ∷ past)).flows (answered o)) (sym same_last)
      (clear_on config (scene config past) (book config past) (doing config past e) (answered (last_occasion config past)) may clear))
]

-- a segment without ACK is no reset that a flow owes
no_ack : (a b c d e : Bool) → b ≡ false → (a && b && c && d && e) ≡ false
no_ack a true c d e is = cc
no_ack true false c d e is = refl
no_ack false false c d e is = refl

not_owed : (seg : Segment) (story : Story) → seg.ack ≡ false → is_owed_reset story seg ≡ false
not_owed seg story is =
    no_ack seg.rst seg.ack (not seg.syn) (not seg.fin)
    (if syn_is_out story || is_accepted story then nat_eq seg.number (number_of (our_number story) (sent (host story)))
    else (nat_eq seg.number 0 && nat_eq seg.acknowledgement (next_number (unwrap_or (their_number story) 0)))) is

-- the reset is strange to the flow that has its tuple
strange_if : (seg : Segment) (f : Flow) → seg.rst ≡ true → (owes_reset f.story ≡ false) ⊎ (is_owed_reset f.story seg ≡ false) → is_strange seg f ≡ true
strange_if seg f rst none = by seg.rst (owes_reset f.story) (is_owed_reset f.story seg) rst none
  where
    by : (rst owes owed : Bool) → rst ≡ true → (owes ≡ false) ⊎ (owed ≡ false) → (rst && not (owes && owed)) ≡ true
    by false owes owed rst none = cc
    by true true true rst none = elim none [ inl is ↦ absurd (true_false is) | inr is ↦ absurd (true_false is) ]
    by true true false rst none = refl
    by true false owed rst none = refl

strange_by : (config : Config) (past : List Entry) (frame : List ℕ) (rest : List (List ℕ)) (on : OnTuple) (f : Flow) → 28 ≤ config.mtu → Lawful config past → HasEnds config past →
    IsCalm config past → left config past ≡ frame ∷ rest
    → segment_in frame ≡ Some on → owner on.tuple (book config past).flows ≡ Some f → is_strange on.segment f ≡ true
strange_by config past frame rest on f fits lawful ends calm is read owned = elim calm [
  | inl none ↦ absurd (never (sym none ∙ is))
  | inr clear ↦ strange_if on.segment f (left_resets config past frame rest on fits lawful is read) (by (subst (IsClear (book config past).flows) a.is clear))
]
  where
    a : Answering (answered (last_occasion config past)) on
    a = left_answers config past frame rest on fits lawful ends is read

    never : [] ≡ frame ∷ rest → ⊥
    never is = cc

    by : (a.asked.segment.ack ≡ true) ⊎ (is_free (owner a.asked.tuple (book config past).flows) ≡ true) → (owes_reset f.story ≡ false) ⊎ (is_owed_reset f.story on.segment ≡ false)
    by (inl ack) = inr (not_owed on.segment f.story (a.ack ∙ ap not ack))
    by (inr free) = inl (quiet_owes f.story (ap is_free (sym (ap (λ t. owner t (book config past).flows) (sym a.tuple) ∙ owned)) ∙ free))

-- ---- a frame came

module _ (config : Config) (past : List Entry) (asked : ℕ) (answer : Io) (octets : List ℕ) where
  abbrev the_read : Entry
  the_read = LinkRead asked answer octets

  after_segment : (on : OnTuple) (stray : Bool) → is_reset config (book config (the_read ∷ past)) on ≡ stray → IsClear (book config (the_read ∷ past)).flows (if stray then Some on else None)
  after_segment on false is = tt
  after_segment on true is = elim (reset_why config (book config (the_read ∷ past)) on is) [
    | inl ack ↦ inl ack
    | inr free ↦ inr (unused_free (owner on.tuple (book config (the_read ∷ past)).flows) free)
  ]

  after_packet : (packet : Packet) → IsClear (book config (the_read ∷ past)).flows (answered (Came (serving config past) (strays config (book config (the_read ∷ past)) packet) packet))
  after_packet Unheard = tt
  after_packet (ArpPacket arp) = tt
  after_packet (Message mac ip message) = tt
  after_packet (DatagramPacket d) = tt
  after_packet (SegmentPacket mac ip tcp) = after_segment (from_guest mac ip tcp) (is_reset config (book config (the_read ∷ past)) (from_guest mac ip tcp)) refl

  comes_meanwhile : (o : Option OnTuple) → IsMeanwhile (book config past) (comes o)
  comes_meanwhile None = tt
  comes_meanwhile (Some on) = tt

  reads_meanwhile : (o : Option Arrival) → IsMeanwhile (book config past) (doing_by o None the_read)
  reads_meanwhile None = tt
  reads_meanwhile (Some arrival) = comes_meanwhile (segment_came (Some arrival))

  by_arrival : CalmIf config past → (o : Option Arrival) → AreEnds (answered (occasion_after config the_read past o (last_occasion config past)))
      → (left_after config past (happens config past the_read) o (ledger config past) ≡ []) ⊎ IsClear (book config (the_read ∷ past)).flows
      (answered (occasion_after config the_read past o (last_occasion config past)))
  by_arrival calm (Some arrival) ends = inr (after_packet arrival.packet)
  by_arrival calm None ends = elim (calm ends) [
    | inl none ↦ inl none
    | inr clear ↦ inr (clear_on config (scene config past) (book config past) (doing config past the_read) (answered (last_occasion config past))
        (reads_meanwhile (happens config past the_read).came) clear)
  ]

  after_read : CalmIf config past → CalmIf config (the_read ∷ past)
  after_read calm = by_arrival calm (happens config past the_read).came

-- ---- a frame went out

module _ (config : Config) (past : List Entry) (octets : List ℕ) (answer : Io) (fits : 28 ≤ config.mtu) (lawful : Lawful config (LinkWrite octets answer ∷ past))
    (ends : HasEnds config past) (calm : IsCalm config past) where
  abbrev the_write : Entry
  the_write = LinkWrite octets answer

  resolves_meanwhile : (o : Option ℕ) → IsMeanwhile (book config past) (resolves o)
  resolves_meanwhile None = tt
  resolves_meanwhile (Some guest) = tt

  goes_meanwhile : (frame : List ℕ) (rest : List (List ℕ)) (o : Option OnTuple) → left config past ≡ frame ∷ rest → segment_in frame ≡ o → IsMeanwhile (book config past) (goes o (asked_in frame))
  goes_meanwhile frame rest None is read = resolves_meanwhile (asked_in frame)
  goes_meanwhile frame rest (Some on) is read = λ f owned. strange_by config past frame rest on f fits lawful.1 ends calm is read owned

  -- a packet of a file begins to go again, or what came last is as it was
  abbrev begins : Option (List ℕ) → Bool
  begins o = begins_again config (identification past) (ledger config past) o

  abbrev last_by : Bool → Occasion
  last_by b = if b then by_said (may_go_again (serving config past)) (last_occasion config past) else last_occasion config past

  -- one that goes again answers no segment
  again_calm : (frame : List ℕ) (o : Option Said) → is_first frame (frames_of config (identification past) (told_of_files config o)) ≡ true → IsClear
      (book config (the_write ∷ past)).flows (answered (by_said o (last_occasion config past)))
  again_calm frame None is = cc
  again_calm frame (Some said) is = tt

  by_again : (frame : List ℕ) → goes_out the_write past ≡ Some frame → left config past ≡ [] → (b : Bool) → starts frame
      (again_frames config (identification past) (serving config past)) ≡ b → IsCalm config (the_write ∷ past)
  by_again frame out nothing true first = inr (subst (λ b. IsClear (book config (the_write ∷ past)).flows (answered (last_by b)))
      (sym (ap begins out ∙ ap (λ l. is_out l && starts frame (again_frames config (identification past) (serving config past))) nothing ∙ first))
      (again_calm frame (may_go_again (serving config past)) (second_of (not (is_flows frame)) (is_first frame (again_frames config (identification past) (serving config past))) first)))
  by_again frame out nothing false other = inl (none_stays config the_write past frame out nothing other)

  -- while an answer is left none begins
  none_begins : (frame : List ℕ) (rest : List (List ℕ)) → goes_out the_write past ≡ Some frame → left config past ≡ frame ∷ rest → last_occasion config (the_write ∷ past) ≡ last_occasion config past
  none_begins frame rest out some = ap last_by (ap begins out ∙ ap (λ l. is_out l && starts frame (again_frames config (identification past) (serving config past))) some)

  by_frame : (frame : List ℕ) → goes_out the_write past ≡ Some frame → Begins config past frame → IsCalm config (the_write ∷ past)
  by_frame frame out (Beside nothing is) = by_again frame out nothing (starts frame (again_frames config (identification past) (serving config past))) refl
  by_frame frame out (Next first) = elim calm [
    | inl none ↦ (let never : is_first frame [] ≡ true = subst (λ l. is_first frame l ≡ true) none first in cc)
    | inr clear ↦ inr (subst (λ o. IsClear (book config (the_write ∷ past)).flows (answered o))
        (sym (none_begins frame (left config (the_write ∷ past)) out (others_stay config the_write past frame lawful out first)))
        (clear_on config (scene config past) (book config past) (doing config past the_write) (answered (last_occasion config past))
        (subst (λ w. IsMeanwhile (book config past) (doing_by None w the_write)) (sym out)
        (goes_meanwhile frame (left config (the_write ∷ past)) (segment_in frame) (others_stay config the_write past frame lawful out first) refl)) clear))
  ]

  by_out : (o : Option (List ℕ)) → goes_out the_write past ≡ o → IsCalm config (the_write ∷ past)
  by_out None none =
      goes_on config the_write past (ap (λ w. taken w (again_frames config (identification past) (serving config past)) (left config past)) none) (ap last_by (ap begins none))
      (subst (λ w. IsMeanwhile (book config past) (doing_by None w the_write)) (sym none) tt) calm
  by_out (Some frame) out = by_frame frame out (out_by config the_write past frame lawful.0 out)

  after_write : IsCalm config (the_write ∷ past)
  after_write = by_out (goes_out the_write past) refl

-- ---- other calls

-- the answer of a call on a flow's socket
joined_apart : (answer : Joined) → is_apart (joined answer) ≡ true
joined_apart Yes = refl
joined_apart NotYetJoined = refl
joined_apart JoinFailed = refl

read_apart : (answer : Io) (octets : List ℕ) → is_apart (read_by answer octets) ≡ true
read_apart (IoDone n) octets = refl
read_apart End octets = refl
read_apart IoNotYet octets = refl
read_apart IoFailed octets = refl

written_apart : (answer : Io) (octets : List ℕ) → is_apart (written_by answer octets) ≡ true
written_apart (IoDone n) octets = refl
written_apart End octets = refl
written_apart IoNotYet octets = refl
written_apart IoFailed octets = refl

ended_apart : (answer : Made) → is_apart (ended_by answer) ≡ true
ended_apart MadeDone = refl
ended_apart MadeFailed = refl

visits_meanwhile : (b : Book) (answer : Accepted) (listener socket : ℕ) → IsMeanwhile b (visits answer listener socket)
visits_meanwhile b (PeerFrom peer) listener socket = tt
visits_meanwhile b NotYetAccepted listener socket = tt
visits_meanwhile b AcceptFailed listener socket = tt

-- where a segment asked for a connection that came last, nothing is left
none_owed : (config : Config) (s : Serving) (b : Book) (on : OnTuple) (ident : ℕ) (packet : Packet) → is_reset config b on ≡ false → segment_by packet ≡ Some on →
    frames_of config ident (owed_for_packet config s (strays config b packet) packet) ≡ []
none_owed config s b on ident (SegmentPacket mac ip tcp) none is =
    ap (λ t. frames_of config ident (owed_for_segment t (from_guest mac ip tcp))) (ap (is_reset config b) (some_same (from_guest mac ip tcp) on is) ∙ none)
none_owed config s b on ident Unheard none is = cc
none_owed config s b on ident (ArpPacket arp) none is = cc
none_owed config s b on ident (Message mac ip message) none is = cc
none_owed config s b on ident (DatagramPacket d) none is = cc

none_left : (config : Config) (past : List Entry) (on : OnTuple) → (book config past).came ≡ Some on → is_reset config (book config past) on ≡ false → left config past ≡ []
none_left config [] on is none = cc
none_left config (e ∷ past) on is none = by (happens config past e).came (is_newest on config e past is)
  where
    by : (o : Option Arrival) → segment_came o ≡ Some on → left_after config past (happens config past e) o (ledger config past) ≡ []
    by None came = cc
    by (Some arrival) came = none_owed config (serving config past) (book config (e ∷ past)) on (identification past) arrival.packet none came

-- a connect follows what asked for it, directly
after_connect : (config : Config) (past : List Entry) (socket : ℕ) (to : Endpoint) (answer : Made) → May config past (CallConnect socket to) → IsCalm config (Connect socket to answer ∷ past)
after_connect config past socket to answer may = by answer
  where
    asked : ConnectsAsAsked config (book config past) to
    asked = connects_as_asked config (book config past) (next_socket past) socket to may.flows.touches

    by : (answer : Made) → IsCalm config (Connect socket to answer ∷ past)
    by MadeDone = inl (none_left config past asked.on asked.came (asks_none config (book config past) to asked))
    by MadeFailed = inr (subst (λ c. IsClear (book config past).flows (answered (refused_or c (last_occasion config past)))) (sym asked.came)
        (inr (unused_free (owner asked.on.tuple (book config past).flows) asked.free)))

-- a datagram could get no socket, or couldn't be sent
unsent_same : (config : Config) (past : List Entry) (s : Step) → step config past ≡ s → last_datagram config past ≡ None → unsent config (identification past) s (left config past) ≡ left config past
unsent_same config past NeedsNothing is none = refl
unsent_same config past (NeedsRoom oldest errand) is none = refl
unsent_same config past (NeedsSocket errand) is none =
    absurd (none_some (sym none ∙ (errand_asks config past errand (errand_is config past (NeedsSocket errand) is)).datagram))
unsent_same config past (NeedsSending socket errand) is none =
    absurd (none_some (sym none ∙ (errand_asks config past errand (errand_is config past (NeedsSending socket errand) is)).datagram))

after_unsent : (config : Config) (past : List Entry) → CalmIf config past → AreEnds (answered (unsent_or (last_datagram config past) (last_occasion config past)))
    → (unsent config (identification past) (step config past) (left config past) ≡ []) ⊎ IsClear (book config past).flows (answered (unsent_or (last_datagram config past) (last_occasion config past)))
after_unsent config past calm = by (last_datagram config past) refl
  where
    by : (l : Option Datagram) → last_datagram config past ≡ l → AreEnds (answered (unsent_or l (last_occasion config past)))
        → (unsent config (identification past) (step config past) (left config past) ≡ []) ⊎ IsClear (book config past).flows (answered (unsent_or l (last_occasion config past)))
    by (Some d) is ends = inr tt
    by None is ends = elim (calm ends) [
      | inl none ↦ inl (unsent_same config past (step config past) refl is ∙ none)
      | inr clear ↦ inr clear
    ]

after_open : (config : Config) (past : List Entry) (socket : ℕ) (at : Endpoint) (answer : Made) → May config past (CallUdpOpen socket at) → Lawful config past → CalmIf config past → CalmIf config (UdpOpen socket at answer ∷ past)
after_open config past socket at MadeDone may lawful calm = calm
after_open config past socket at MadeFailed may lawful calm = by (at.port == 0) refl
  where
    Then : Option Datagram → Type 0
    Then last = AreEnds (answered (unsent_or last (last_occasion config past)))
        → (unsent config (identification past) (step config past) (left config past) ≡ []) ⊎ IsClear (book config past).flows (answered (unsent_or last (last_occasion config past)))

    quiet : step config past ≡ NeedsNothing → Then None
    quiet settled ends = elim (calm ends) [
      | inl none ↦ inl (ap (λ s. unsent config (identification past) s (left config past)) settled ∙ none)
      | inr clear ↦ inr clear
    ]

    by : (b : Bool) → (at.port == 0) ≡ b → Then (for_guest at.port (last_datagram config past))
    by true any = subst (λ (b : Bool). Then (cond b (last_datagram config past) None)) (sym any) (after_unsent config past calm)
    by false named = subst (λ (b : Bool). Then (cond b (last_datagram config past) None)) (sym named) (quiet (settled_named config past socket at lawful may named))

after_send : (config : Config) (past : List Entry) (socket : ℕ) (to : Endpoint) (octets : List ℕ) (answer : Sent) → CalmIf config past → CalmIf config (UdpSend socket to octets answer ∷ past)
after_send config past socket to octets SentDone calm = calm
after_send config past socket to octets SentNotYet calm = calm
after_send config past socket to octets SentFailed calm = after_unsent config past calm

after_hearing : (config : Config) (past : List Entry) (socket asked : ℕ) (answer : Got) (octets : List ℕ) → CalmIf config past → CalmIf config (UdpRecv socket asked answer octets ∷ past)
after_hearing config past socket asked (GotFrom peer n) octets calm = λ ends. inr (by (numbered socket (questions config past)))
  where
    by : (q : Option Question) → IsClear (book config (UdpRecv socket asked (GotFrom peer n) octets ∷ past)).flows (answered (heard_on socket peer octets q))
    by None = tt
    by (Some q) = tt
after_hearing config past socket asked GotNotYet octets calm = calm
after_hearing config past socket asked GotFailed octets calm = calm

-- with this packet that may go again
abbrev begun_of : Config → List Entry → Option Said → Option (List ℕ) → Bool
begun_of config past o None = false
begun_of config past o (Some frame) = is_out (left config past) && starts frame (frames_of config (identification past) (told_of_files config o))

-- something was written: a packet began to go again, or what came last is as it was
written_calm : (config : Config) (past : List Entry) (octets : List ℕ) (answer : Io) → 28 ≤ config.mtu → Lawful config (LinkWrite octets answer ∷ past) → CalmIf config past
    → (b : Bool) → begins_again config (identification past) (ledger config past) (goes_out (LinkWrite octets answer) past) ≡ b → CalmIf config (LinkWrite octets answer ∷ past)
written_calm config past octets answer fits lawful calm false is = λ ends.
    let same : last_occasion config (LinkWrite octets answer ∷ past) ≡ last_occasion config past =
    ap (λ (b : Bool). if b then by_said (may_go_again (serving config past)) (last_occasion config past) else last_occasion config past) is in
    let before : HasEnds config past = subst (λ o. AreEnds (answered o)) same ends in
    after_write config past octets answer fits lawful before (calm before)
written_calm config past octets answer fits lawful calm true is = λ ends. inr (subst (λ o. IsClear (book config (LinkWrite octets answer ∷ past)).flows (answered o)) (sym now)
    (clear (may_go_again (serving config past)) (goes_out (LinkWrite octets answer) past) is))
  where
    now : last_occasion config (LinkWrite octets answer ∷ past) ≡ by_said (may_go_again (serving config past)) (last_occasion config past)
    now = ap (λ (b : Bool). if b then by_said (may_go_again (serving config past)) (last_occasion config past) else last_occasion config past) is

    clear : (o : Option Said) (out : Option (List ℕ)) → begun_of config past o out ≡ true → IsClear (book config (LinkWrite octets answer ∷ past)).flows
        (answered (by_said o (last_occasion config past)))
    clear (Some said) out is = tt
    clear None None is = cc
    clear None (Some frame) is = (let never : false ≡ true = sym (no_start frame (is_out (left config past))) ∙ is in cc)
      where
        no_start : (frame : List ℕ) (out : Bool) → (out && starts frame []) ≡ false
        no_start frame false = refl
        no_start frame true = by (is_flows frame)
          where
            by : (b : Bool) → (not b && false) ≡ false
            by true = refl
            by false = refl

-- an answer of a file came
after_file : (config : Config) (e : Entry) (past : List Entry) (o : Option Outcome) → by_answer (serving config past).now e (serving config past).files ≡ o
    → left config (e ∷ past) ≡ left_by_outcome config (identification past) (by_answer (serving config past).now e (serving config past).files) (left config past)
    → last_occasion config (e ∷ past) ≡ by_outcome (by_answer (serving config past).now e (serving config past).files) (last_occasion config past)
    → IsMeanwhile (book config past) (doing config past e) → CalmIf config past → CalmIf config (e ∷ past)
after_file config e past o is lefts lasts may calm = λ ends. by o is ends
  where
    same : by_answer (serving config past).now e (serving config past).files ≡ None → HasEnds config (e ∷ past) → IsCalm config (e ∷ past)
    same none ends =
        goes_on config e past (lefts ∙ ap (λ o. left_by_outcome config (identification past) o (left config past)) none) (lasts ∙ ap (λ o. by_outcome o (last_occasion config past)) none) may
        (calm (subst (λ o. AreEnds (answered o)) (lasts ∙ ap (λ o. by_outcome o (last_occasion config past)) none) ends))

    by : (o : Option Outcome) → by_answer (serving config past).now e (serving config past).files ≡ o → HasEnds config (e ∷ past) → IsCalm config (e ∷ past)
    by None is ends = same is ends
    by (Some outcome) is ends = by_told outcome.told refl
      where
        by_told : (told : Option Said) → outcome.told ≡ told → IsCalm config (e ∷ past)
        by_told None none =
            let same_last : last_occasion config (e ∷ past) ≡ last_occasion config past = lasts ∙ ap (λ o. by_outcome o (last_occasion config past)) is ∙ ap
            (λ t. by_said t (last_occasion config past)) none in
            goes_on config e past (lefts ∙ ap (λ o. left_by_outcome config (identification past) o (left config past)) is ∙ ap (λ t. left_by_file config (identification past) t
            (left config past)) none) same_last may
            (calm (subst (λ o. AreEnds (answered o)) same_last ends))
        by_told (Some said) some =
            inr (subst (λ o. IsClear (book config (e ∷ past)).flows (answered o))
            (sym (lasts ∙ ap (λ o. by_outcome o (last_occasion config past)) is ∙ ap (λ t. by_said t (last_occasion config past)) some)) tt)

-- ---- all entries

calm_by : (config : Config) (e : Entry) (past : List Entry) → 28 ≤ config.mtu → Lawful config (e ∷ past) → CalmIf config past → CalmIf config (e ∷ past)
calm_by config (Now told) past fits lawful calm = λ ends. goes_on config (Now told) past refl refl tt (calm ends)
calm_by config (Wait wants timeout answer ready) past fits lawful calm = λ ends. goes_on config (Wait wants timeout answer ready) past refl refl tt (calm ends)
calm_by config (LinkOpen at answer) past fits lawful calm = λ ends. goes_on config (LinkOpen at answer) past refl refl tt (calm ends)
calm_by config (LinkRead asked answer octets) past fits lawful calm = after_read config past asked answer octets calm
calm_by config (LinkWrite octets answer) past fits lawful calm = written_calm config past octets answer fits lawful calm
    (begins_again config (identification past) (ledger config past) (goes_out (LinkWrite octets answer) past)) refl
calm_by config (Connect socket to answer) past fits lawful calm = λ ends. after_connect config past socket to answer lawful.0
calm_by config (CallsConnected socket answer) past fits lawful calm = λ ends. goes_on config (CallsConnected socket answer) past refl refl (joined_apart answer) (calm ends)
calm_by config (Listen socket at answer) past fits lawful calm = λ ends. goes_on config (Listen socket at answer) past refl refl tt (calm ends)
calm_by config (Accept listener socket answer) past fits lawful calm = λ ends. goes_on config (Accept listener socket answer) past refl refl
    (visits_meanwhile (book config past) answer listener socket) (calm ends)
calm_by config (TcpRead socket asked answer octets) past fits lawful calm = λ ends. goes_on config (TcpRead socket asked answer octets) past refl refl (read_apart answer octets) (calm ends)
calm_by config (TcpWrite socket octets answer) past fits lawful calm = λ ends. goes_on config (TcpWrite socket octets answer) past refl refl (written_apart answer octets) (calm ends)
calm_by config (TcpEnd socket answer) past fits lawful calm = λ ends. goes_on config (TcpEnd socket answer) past refl refl (ended_apart answer) (calm ends)
calm_by config (Close socket) past fits lawful calm =
    λ ends. goes_on config (Close socket) past refl refl
    (λ f found. (subst (MayShut (flow_settings config) (scene config past) (book config past).came) found lawful.0.flows.touches).calls_open_socket) (calm ends)
calm_by config (UdpOpen socket at answer) past fits lawful calm = after_open config past socket at answer lawful.0 lawful.1 calm
calm_by config (UdpSend socket to octets answer) past fits lawful calm = after_send config past socket to octets answer calm
calm_by config (UdpRecv socket asked answer octets) past fits lawful calm = after_hearing config past socket asked answer octets calm
calm_by config (FileLen name answer) past fits lawful calm = after_file config (FileLen name answer) past (by_answer (serving config past).now (FileLen name answer)
    (serving config past).files) refl refl refl tt calm
calm_by config (FileRead name place asked answer octets) past fits lawful calm =
    after_file config (FileRead name place asked answer octets) past (by_answer (serving config past).now (FileRead name place asked answer octets) (serving config past).files) refl refl refl tt calm

-- as long as anything is left of a reset that answers a segment without ACK, no flow on its tuple owes a reset
pub is_calm : (config : Config) (past : List Entry) → 28 ≤ config.mtu → Lawful config past → HasEnds config past → IsCalm config past
is_calm config [] fits lawful = λ ends. inl refl
is_calm config (e ∷ past) fits lawful = calm_by config e past fits lawful (is_calm config past fits lawful.1)

-- ---- what is left is no flow's own

-- the first frame that is left, where a segment is read in it, is strange to the flow that was opened last on its tuple
pub left_strange : (config : Config) (past : List Entry) (frame : List ℕ) (rest : List (List ℕ)) (on : OnTuple) (f : Flow) → 28 ≤ config.mtu → Lawful config past →
    HasEnds config past → left config past ≡ frame ∷ rest → segment_in frame ≡ Some on
    → owner on.tuple (book config past).flows ≡ Some f → is_strange on.segment f ≡ true
left_strange config past frame rest on f fits lawful ends is read owned = strange_by config past frame rest on f fits lawful ends (is_calm config past fits lawful ends) is read owned

-- ---- a frame of an answer may go out, and leaves the flows as they are

module _ (config : Config) (past : List Entry) (frame : List ℕ) (rest : List (List ℕ)) (fits : 28 ≤ config.mtu) (lawful : Lawful config past) (ends : HasEnds config past)
    (is : left config past ≡ frame ∷ rest) where
  may_send : (on : OnTuple) (o : Option Flow) → segment_in frame ≡ Some on → owner on.tuple (book config past).flows ≡ o → MaySend (flow_settings config) (moment past) on.segment o
  may_send on None read owned = left_resets config past frame rest on fits lawful is read
  may_send on (Some f) read owned =
      subst (λ b. MatchBool b (Unit {0}) (MayFor (flow_settings config) f.story (moment past) (Send on.segment))) (sym (left_strange config past frame rest on f fits lawful ends is read owned)) tt

  may_send_on : (o : Option OnTuple) → segment_in frame ≡ o → SendsOn (MaySend (flow_settings config) (moment past)) (book config past).flows o
  may_send_on None read = tt
  may_send_on (Some on) read = may_send on (owner on.tuple (book config past).flows) read refl

  -- nothing is asked of it, since it is none of a flow's own
  must_send : (on : OnTuple) (o : Option Flow) → segment_in frame ≡ Some on → owner on.tuple (book config past).flows ≡ o → MustSend (flow_settings config) (moment past) on.segment o
  must_send on None read owned = tt
  must_send on (Some f) read owned =
      subst (λ b. MatchBool b (Unit {0}) (MustOfOne (flow_settings config) f.story (moment past) (Send on.segment))) (sym (left_strange config past frame rest on f fits lawful ends is read owned)) tt

  must_send_on : (o : Option OnTuple) → segment_in frame ≡ o → SendsOn (MustSend (flow_settings config) (moment past)) (book config past).flows o
  must_send_on None read = tt
  must_send_on (Some on) read = must_send on (owner on.tuple (book config past).flows) read refl

  pub answer_may_go : (octets : List ℕ) → drop 4 octets ≡ frame → FlowsLetWrite config past octets
  answer_may_go octets begins = by (tail past)
    where
      by : (t : List ℕ) → WritesBy (MaySend (flow_settings config) (moment past)) (book config past).flows t octets
          × WritesBy (MustSend (flow_settings config) (moment past)) (book config past).flows t octets
      by [] = (
        subst (λ f. SendsOn (MaySend (flow_settings config) (moment past)) (book config past).flows (segment_in f)) (sym begins) (may_send_on (segment_in frame) refl),
        subst (λ f. SendsOn (MustSend (flow_settings config) (moment past)) (book config past).flows (segment_in f)) (sym begins) (must_send_on (segment_in frame) refl),
      )
      by (x ∷ rest) = (tt, tt)

  -- it is nothing to the flows, or asks for the hardware address of a guest
  IsSame : Doing → Type 0
  IsSame d = turned config (scene config past) d (book config past) ≡ quiet (book config past)

  AsksForOne : Doing → Type 0
  AsksForOne d = (guest : ℕ) × (d ≡ Resolves guest)

  goes_either : (o : Option OnTuple) (asked : Option ℕ) → segment_in frame ≡ o → IsSame (goes o asked) ⊎ AsksForOne (goes o asked)
  unfolding IsSame AsksForOne
  goes_either None None read = inl refl
  goes_either None (Some guest) read = inr (guest, refl)
  goes_either (Some on) asked read = inl (ap (λ (flows : List Flow). record (quiet (book config past)) { flows = flows })
      (told_same (is_on on.tuple) (sends (moment past) on.segment) (book config past).flows
      (λ f owned. strange_sends (moment past) on.segment f (left_strange config past frame rest on f fits lawful ends is read owned))))

  abbrev IsAnswer : Doing → Type 0
  IsAnswer d = IsSame d ⊎ AsksForOne d

  write_either : (octets : List ℕ) (answer : Io) → drop 4 octets ≡ frame → (t : List ℕ) → IsAnswer (doing_by None (opens_by (LinkWrite octets answer) t) (LinkWrite octets answer))
  unfolding IsSame
  write_either octets (IoDone n) begins [] = subst (λ f. IsAnswer (goes (segment_in f) (asked_in f))) (sym begins) (goes_either (segment_in frame) (asked_in frame) refl)
  write_either octets End begins [] = inl refl
  write_either octets IoNotYet begins [] = inl refl
  write_either octets IoFailed begins [] = inl refl
  write_either octets answer begins (x ∷ rest) = inl refl

  -- and the slots go on to stand for the flows
  module _ {P : Type 0} (number : P → ℕ) (mac : P → Option Mac) (F : P → Story → Type 0) (state : FlowsState P) (aged : Bool) (task : Option Call) where
    holds_quiet : (e : Entry) → book config (e ∷ past) ≡ quiet (book config past) → next_socket (e ∷ past) ≡ next_socket past → moment (e ∷ past) ≡ moment past
        → FlowsHold number mac F config aged task state past → FlowsHold number mac F config aged None state (e ∷ past)
    holds_quiet e new next at holds =
        let flows_are : (book config (e ∷ past)).flows ≡ (book config past).flows = ap (λ (b : Book). b.flows) new in
        let rests_are : time_waits_at aged config (e ∷ past) ≡ time_waits_at aged config past =
        ap (λ (b : Book). if aged then filter (is_young (moment (e ∷ past))) b.time_waits else b.time_waits) new ∙ ap
        (λ (m : ℕ). if aged then filter (is_young m) (book config past).time_waits else (book config past).time_waits) at in
        record {
          seats = subst (λ (n : ℕ). Seats number F state.table state.slots n (book config (e ∷ past)).flows (time_waits_at aged config (e ∷ past))) (sym next)
              (subst (λ (r : List TimeWait). Seats number F state.table state.slots (next_socket past) (book config (e ∷ past)).flows r) (sym rests_are)
              (subst (λ (l : List Flow). Seats number F state.table state.slots (next_socket past) l (time_waits_at aged config past)) (sym flows_are) holds.seats));
          slots = holds.slots;
          opened = ap (λ (l : List Flow). length l) flows_are ∙ holds.opened;
          asked = ap (λ b. due_for_flows config b (next_socket (e ∷ past))) new;
          learnt = λ k p f m at found is_mac. taught_on config past (e ∷ []) (f.tuple.guest.addr, m) (holds.learnt k p f m at (ap (flow_of (number p)) (sym flows_are) ∙ found) is_mac);
        }

    pub holds_answered : ((p : P) (story : Story) → F p story → F p (At (moment past) AsksAddress ∷ story)) → (octets : List ℕ) (answer : Io) → drop 4 octets ≡ frame →
        FlowsHold number mac F config aged task state past
        → FlowsHold number mac F config aged None state (LinkWrite octets answer ∷ past)
    unfolding IsSame AsksForOne
    holds_answered on octets answer begins holds = elim (write_either octets answer begins (tail past)) [
      | inl same ↦ holds_quiet (LinkWrite octets answer) same refl refl holds
      | inr one ↦ holds_resolved number mac F config aged task state past (LinkWrite octets answer) one.0 holds on one.1 refl refl
    ]
