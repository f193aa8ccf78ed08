-- What may be done for a flow: one obligation for each sentence of the law, on what is done next.
use Rattle.std.specs.Prelude.{◌≡◌, ℕ, ◌+◌, ◌-◌, ◌≤◌, List, [], ◌∷◌, ◌++◌, length, Bool, true, false, not, ◌&&◌, ◌||◌, Option, None, Some, is_some, if◌then◌else◌, nat_lt, IsTrue, slice_get}
use Rattle.std.specs.Prelude.{IfSome, MatchOption, MatchBool, ◌⊎◌, ℤ, pos, ◌+ℤ◌, int_le}
use Rattle.spec_flow.specs.Settings.{Settings}
use Rattle.spec_flow.specs.Event.{Segment, Event, Connects, Accepts, Arrives, Departs, Connected, ConnectsYet, ConnectFails, Writes, WriteFails, Reads, ReadsEnd, ReadFails, EndsHost}
use Rattle.spec_flow.specs.Event.{EndFails, AsksAddress, Closes, Beat, At, Story}
use Rattle.spec_flow.specs.Guest.{is_empty, Acked, ackd, HasCome, Conforming, EndsAt, Brought, front, written, has_ended}
use Rattle.spec_flow.specs.Host.{answered, got, got_end, sent, our_place, StandAt}
use Rattle.spec_flow.specs.Flow.{guest, host, their_number, our_number, next_number, is_accepted, is_closed, is_connecting, has_connected, syn_is_out, sendings, syn_sendings, was_long_ago}
use Rattle.spec_flow.specs.Windows.{is_scaled, least_shift, mss}
use Rattle.spec_flow.specs.Close.{is_done, IsReset, newest_rst, before, follows_reset, host_failed, gives_up, waits_too_long, may_give_way, finds_no_guest, owes_reset, is_owed_reset, in_time_wait_since}

-- what can be done for a flow, without its answer
pub data Act : Type 0 where
  AskConnected : Act
  Write : (octets : List ℕ) → Act
  EndHost : Act
  Read : Act
  Send : (segment : Segment) → Act
  Close : (directly ended known : Bool) → Act

-- what was done, where an event is not only what came
abbrev pub act_of : Event → Option Act
act_of (Connects ours syn) = None
act_of (Accepts ours) = None
act_of (Arrives seg) = None
act_of (Departs seg) = Some (Send seg)
act_of Connected = Some AskConnected
act_of ConnectsYet = Some AskConnected
act_of ConnectFails = Some AskConnected
act_of (Writes xs n) = Some (Write xs)
act_of (WriteFails xs) = Some (Write xs)
act_of (Reads xs) = Some Read
act_of ReadsEnd = Some Read
act_of ReadFails = Some Read
act_of EndsHost = Some EndHost
act_of EndFails = Some EndHost
act_of AsksAddress = None
act_of (Closes directly ended known) = Some (Close directly ended known)

-- the second list begins with the first
abbrev pub IsPrefixOf : List ℕ → List ℕ → Type 0
IsPrefixOf xs ys = (rest : List ℕ) × (xs ++ rest ≡ ys)

-- each octet of the list is at its place
abbrev pub AtPlaces : (ℕ → ℕ → Type 0) → List ℕ → Type 0
AtPlaces P xs = (i x : ℕ) → slice_get xs i ≡ Some x → P i x

-- ---- streams

-- octets may be offered to the host that go on with the guest's stream
abbrev pub WritesWhatTheGuestSent : Story → Act → Type 0
WritesWhatTheGuestSent past (Write xs) = Conforming (guest past) → IsPrefixOf (written (guest past) ++ xs) (front (guest past))
WritesWhatTheGuestSent past _ = Unit {0}

-- and, whatever the guest does, only octets that came with their numbers
abbrev pub WritesWhatCame : Story → Act → Type 0
WritesWhatCame past (Write xs) = AtPlaces (Brought (guest past)) (written (guest past) ++ xs)
WritesWhatCame past _ = Unit {0}

-- a segment carries what was read from the host, at its place, and leaves no gap
abbrev pub IsPiece : Story → Segment → Type 0
IsPiece past seg = (o : ℕ) × (our_place (host past) seg.number ≡ pos o) × (o ≤ sent (host past)) × StandAt (got (host past)) o seg.octets

-- a segment has no more octets than the guest takes in one, and our frames hold (RFC 9293, 3.7.1)
abbrev pub SendsWithinMss : Settings → Story → Act → Type 0
SendsWithinMss s past (Send seg) = length seg.octets ≤ mss s past
SendsWithinMss s past _ = Unit {0}

-- a segment with SYN or RST carries nothing
abbrev pub SendsWhatTheHostSent : Story → Act → Type 0
SendsWhatTheHostSent past (Send seg) = MatchBool (seg.syn || seg.rst) ((seg.octets ≡ []) × (seg.fin ≡ false)) (IsPiece past seg)
SendsWhatTheHostSent past _ = Unit {0}

-- since the last segment went out, a reset not counted, one came, or the host took octets
abbrev pub is_prompted : Story → Bool
is_prompted [] = false
is_prompted (At m (Arrives seg) ∷ past) = true
is_prompted (At m (Writes xs n) ∷ past) = (nat_lt 0 n && not (is_empty xs)) || is_prompted past
is_prompted (At m (Departs seg) ∷ past) = seg.rst && is_prompted past
is_prompted (_ ∷ past) = is_prompted past

-- the segment has nothing new: it ends where octets and FIN went out already, or it is a SYN again
abbrev pub repeats : Story → Segment → Bool
repeats past seg = if seg.syn then syn_is_out past
    else int_le (our_place (host past) seg.number +ℤ pos (length seg.octets + (if seg.fin then 1 else 0))) (pos (sent (host past)))

-- its first number was last sent 1,000 ms ago (RFC 6298, 2.4)
abbrev pub is_overdue : ℕ → Story → Segment → Bool
is_overdue now past seg = was_long_ago now 1000 (if seg.syn then syn_sendings past else (if is_empty seg.octets && not seg.fin then [] else sendings_at (our_place (host past) seg.number)))
  where
    sendings_at : ℤ → List ℕ
    sendings_at (pos o) = sendings past o
    sendings_at _ = []

-- what has nothing new goes out only in answer to something, or a second after it last did
abbrev pub SendsAgainWithReason : Story → ℕ → Act → Type 0
SendsAgainWithReason past now (Send seg) = IsTrue (seg.rst || not (repeats past seg) || is_prompted past || is_overdue now past seg)
SendsAgainWithReason past now _ = Unit {0}

-- ---- ends

-- the host is told the end once, after all octets
abbrev pub EndsAfterAll : Story → Act → Type 0
EndsAfterAll past EndHost = (has_ended (guest past) ≡ false) × (Conforming (guest past) → EndsAt (guest past) (length (written (guest past))))
EndsAfterAll past _ = Unit {0}

-- a FIN goes out after the host's end was read, at the end of all octets
abbrev pub SendsEndAfterAll : Story → Act → Type 0
SendsEndAfterAll past (Send seg) = IsTrue (seg.fin && not seg.rst) →
    IsTrue (got_end (host past)) × (our_place (host past) seg.number +ℤ pos (length seg.octets) ≡ pos (length (got (host past))))
SendsEndAfterAll past _ = Unit {0}

-- nothing is read after the end
abbrev pub ReadsToTheEnd : Story → Act → Type 0
ReadsToTheEnd past Read = got_end (host past) ≡ false
ReadsToTheEnd past _ = Unit {0}

-- ---- keeping

-- only what came is acknowledged, and nothing before the guest's SYN
abbrev pub AcknowledgesWhatCame : Story → Act → Type 0
AcknowledgesWhatCame past (Send seg) = IsTrue (not seg.rst) →
    (seg.ack ≡ is_some (their_number past))
    × (IsTrue seg.ack → Conforming (guest past) → HasCome (guest past) (ackd (Acked seg.acknowledgement ∷ guest past)))
AcknowledgesWhatCame past _ = Unit {0}

-- a reset acknowledges what came, as any segment does; 0 where the guest's SYN isn't known
abbrev pub HasNumberThatCame : Story → ℕ → Type 0
HasNumberThatCame past n = MatchOption (their_number past) (n ≡ 0) (λ f. Conforming (guest past) → HasCome (guest past) (ackd (Acked n ∷ guest past)))

-- so does each reset that goes out
abbrev pub ResetsAtWhatCame : Story → Act → Type 0
ResetsAtWhatCame past (Send seg) = IsTrue seg.rst → HasNumberThatCame past seg.acknowledgement
ResetsAtWhatCame past _ = Unit {0}

-- A flow is closed when both ends passed, for a cause of its own, or to give way to a SYN.
abbrev pub HasOwnCause : Bool → Bool → Bool → ℕ → Story → Type 0
HasOwnCause directly ended known now past =
    IsTrue (is_done past || ended || host_failed past || finds_no_guest known now past)
    ⊎ (IsTrue (not (follows_reset directly past) && (gives_up now past || waits_too_long now past))
    ⊎ (IsTrue directly × MatchOption (newest_rst past) ⊥ (λ seg. IsReset (before past) seg)))

-- a cause of its own, or it gives way to a guest's SYN
abbrev pub HasCause : Bool → Bool → Bool → ℕ → Story → Type 0
HasCause directly ended known now past = HasOwnCause directly ended known now past ⊎ IsTrue (may_give_way now past)

-- no flow is closed without a cause
abbrev pub ClosesWithCause : Story → ℕ → Act → Type 0
ClosesWithCause past now (Close directly ended known) = HasCause directly ended known now past
ClosesWithCause past now _ = Unit {0}

-- after a call that failed the close comes next
abbrev pub ClosesAfterFailure : Story → Act → Type 0
ClosesAfterFailure past (Close directly ended known) = Unit {0}
ClosesAfterFailure past _ = host_failed past ≡ false

-- no call on the socket after it was closed
abbrev pub CallsOpenSocket : Story → Act → Type 0
CallsOpenSocket past (Send seg) = Unit {0}
CallsOpenSocket past _ = is_closed past ≡ false

-- a reset goes out where the flow owes one
abbrev pub ResetsWhereOwed : Story → Act → Type 0
ResetsWhereOwed past (Send seg) = IsTrue seg.rst → IsTrue (owes_reset past && is_owed_reset past seg)
ResetsWhereOwed past _ = Unit {0}

-- A closed flow sends nothing but the reset that it owes, or acknowledgements while it is in TIME-WAIT. That a TIME-WAIT may have ended stands in the book of `spec_flows`.
abbrev pub SendsNothingAfterClose : Story → Act → Type 0
SendsNothingAfterClose past (Send seg) = IsTrue (is_closed past) → (seg.octets ≡ []) × (seg.syn ≡ false) × (seg.fin ≡ false) × IsTrue (seg.rst || is_some (in_time_wait_since past))
SendsNothingAfterClose past _ = Unit {0}

-- ---- opening

-- nothing goes out before the host connected
abbrev pub OpensAfterHost : Story → Act → Type 0
OpensAfterHost past (Send seg) = IsTrue (not seg.rst) → IsTrue (has_connected past || is_accepted past)
OpensAfterHost past _ = Unit {0}

-- the first segment is a SYN-ACK or a SYN; each SYN has our number, and acknowledges the guest's where that is known
abbrev pub OpensWithSyn : Story → Act → Type 0
OpensWithSyn past (Send seg) =
    (IsTrue (not seg.rst && not (syn_is_out past)) → seg.syn ≡ true)
    × (IsTrue (seg.syn && not seg.rst) → (seg.number ≡ our_number past) × IfSome (their_number past) (λ f. seg.acknowledgement ≡ next_number f))
OpensWithSyn past _ = Unit {0}

-- our SYN has the MSS option, and the window scale unless it answers a SYN of the guest without one; no other segment has either
abbrev pub our_mss : Settings → Segment → Option ℕ
our_mss s seg = if seg.syn && not seg.rst then Some (s.mru - 40) else None

-- the window scale that a segment of ours has (RFC 7323, 2.2)
abbrev pub our_scale : Settings → Story → Segment → Option ℕ
our_scale s past seg = if s.scales && seg.syn && not seg.rst && (not seg.ack || is_scaled s past) then Some (least_shift s.ring) else None

-- a segment that goes out has these options, and no others
abbrev pub SendsItsOptions : Settings → Story → Act → Type 0
SendsItsOptions s past (Send seg) = (seg.mss ≡ our_mss s seg) × (seg.scale ≡ our_scale s past seg)
SendsItsOptions s past _ = Unit {0}

-- a host is asked whether it has connected until it has, and is read, written to and ended from then on
abbrev pub AsksUntilConnected : Story → Act → Type 0
AsksUntilConnected past AskConnected = is_connecting past ≡ true
AsksUntilConnected past (Write octets) = is_connecting past ≡ false
AsksUntilConnected past EndHost = is_connecting past ≡ false
AsksUntilConnected past Read = is_connecting past ≡ false
AsksUntilConnected past _ = Unit {0}

-- ---- headers (RFC 9293, 3.1, 3.5 and 3.10.7.4)

-- octets and FIN go out once our SYN was acknowledged
abbrev pub SendsOnceAnswered : Story → Segment → Type 0
SendsOnceAnswered past seg = IsTrue (not seg.rst && (seg.fin || not (is_empty seg.octets))) → answered (host past) ≡ true

-- each segment but a SYN or a reset acknowledges, and what doesn't acknowledge has the acknowledgement number 0
abbrev pub AlwaysAcknowledges : Segment → Type 0
AlwaysAcknowledges seg = (IsTrue (not seg.rst && not seg.syn) → seg.ack ≡ true) × (seg.ack ≡ false → seg.acknowledgement ≡ 0)

-- an acknowledgement alone has the number after all that was sent (SND.NXT)
abbrev pub is_ack_alone : Segment → Bool
is_ack_alone seg = not seg.rst && not seg.syn && not seg.fin && is_empty seg.octets

-- so has each acknowledgement alone that goes out (RFC 9293, 3.10.7.4)
abbrev pub AcknowledgesAtNext : Story → Segment → Type 0
AcknowledgesAtNext past seg = IsTrue (is_ack_alone seg) → our_place (host past) seg.number ≡ pos (sent (host past))

-- a reset tells no room
abbrev pub ResetsWithoutRoom : Segment → Type 0
ResetsWithoutRoom seg = IsTrue seg.rst → seg.window ≡ 0

-- the header of a segment is that of the state
pub record HasHeaderOf (past : Story) (seg : Segment) : Type 0 where
  pub carries : SendsOnceAnswered past seg
  pub acknowledges : AlwaysAcknowledges seg
  pub next : AcknowledgesAtNext past seg
  pub window : ResetsWithoutRoom seg

-- of each segment that goes out
abbrev pub SendsItsHeader : Story → Act → Type 0
SendsItsHeader past (Send seg) = HasHeaderOf past seg
SendsItsHeader past _ = Unit {0}

-- ---- all sentences

-- an act on a flow may be done after this past: each sentence holds of it, and none asks what it is answered
pub record May (s : Settings) (past : Story) (now : ℕ) (act : Act) : Type 0 where
  pub writes_what_the_guest_sent : WritesWhatTheGuestSent past act
  pub writes_what_came : WritesWhatCame past act
  pub sends_what_the_host_sent : SendsWhatTheHostSent past act
  pub sends_within_mss : SendsWithinMss s past act
  pub sends_again_with_reason : SendsAgainWithReason past now act
  pub ends_after_all : EndsAfterAll past act
  pub sends_end_after_all : SendsEndAfterAll past act
  pub reads_to_the_end : ReadsToTheEnd past act
  pub acknowledges_what_came : AcknowledgesWhatCame past act
  pub resets_at_what_came : ResetsAtWhatCame past act
  pub closes_with_cause : ClosesWithCause past now act
  pub closes_after_failure : ClosesAfterFailure past act
  pub calls_open_socket : CallsOpenSocket past act
  pub resets_where_owed : ResetsWhereOwed past act
  pub sends_nothing_after_close : SendsNothingAfterClose past act
  pub opens_after_host : OpensAfterHost past act
  pub opens_with_syn : OpensWithSyn past act
  pub asks_until_connected : AsksUntilConnected past act
  pub sends_its_header : SendsItsHeader past act
  pub sends_its_options : SendsItsOptions s past act

-- whatever was done was allowed, and nothing came between a call that failed and the close
abbrev pub MayHappen : Settings → Story → Beat → Type 0
MayHappen s past (At m e) = MatchOption (act_of e) (host_failed past ≡ false) (λ act. May s past m act)

-- every act was one that may be done after what came before it
abbrev pub IsLawful : Settings → Story → Type 0
IsLawful s [] = Unit {0}
IsLawful s (b ∷ past) = MayHappen s past b × IsLawful s past
