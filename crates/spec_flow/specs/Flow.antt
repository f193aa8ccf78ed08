-- The words on one flow, each a function of its story.
use Rattle.std.specs.Prelude.{ℕ, ◌+◌, ◌*◌, ◌^◌, ◌%◌, List, [], ◌∷◌, length, Bool, true, false, not, ◌&&◌, ◌||◌, Option, None, Some, is_some, if◌then◌else◌, nat_le, nat_lt, nat_eq, pos}
use Rattle.std.specs.Prelude.{◌+ℤ◌, int_le, int_lt}
use Rattle.std.specs.Option.{option_or, option_map}
use Rattle.seq_space.specs.Places.{steps_up}
use Rattle.spec_flow.specs.Event.{Segment, Event, Connects, Accepts, Arrives, Departs, Connected, Writes, WriteFails, Reads, ReadsEnd, EndsHost, EndFails, Closes, At, Story}
use Rattle.spec_flow.specs.Guest.{Up, Known, Came, Acked, Wrote, Ended, is_empty}
use Rattle.spec_flow.specs.Host.{Down, Ours, Got, GotEnd, Sent, Confirmed, answered, acked, sent, not_past_sent, is_acceptable, our_place}

-- the number after n (RFC 9293, 3.4)
abbrev pub next_number : ℕ → ℕ
next_number n = (n + 1) % 2 ^ 32

-- ---- the beginning

-- the number of our SYN in a flow that is opened at this moment, in milliseconds, after so many other flows (RFC 9293, 3.4.1: a clock of four microseconds,
-- 250 a millisecond; 64,000 for each flow before it is ours)
abbrev pub first_number : ℕ → ℕ → ℕ
first_number moment flows = (moment * 250 + 64000 * flows) % 2 ^ 32

abbrev pub our_number : Story → ℕ
our_number [] = 0
our_number (At m (Connects ours syn) ∷ past) = ours
our_number (At m (Accepts ours) ∷ past) = ours
our_number (_ ∷ past) = our_number past

abbrev pub is_accepted : Story → Bool
is_accepted [] = false
is_accepted (At m (Accepts ours) ∷ past) = true
is_accepted (_ ∷ past) = is_accepted past

-- the moment at which the flow was opened
abbrev pub opened_at : Story → ℕ
opened_at [] = 0
opened_at (At m (Connects ours syn) ∷ past) = m
opened_at (At m (Accepts ours) ∷ past) = m
opened_at (_ ∷ past) = opened_at past

-- asked, the host had connected
abbrev pub has_connected : Story → Bool
has_connected [] = false
has_connected (At m Connected ∷ past) = true
has_connected (_ ∷ past) = has_connected past

abbrev pub is_closed : Story → Bool
is_closed [] = false
is_closed (At m (Closes directly ended known) ∷ past) = true
is_closed (_ ∷ past) = is_closed past

-- the host is asked to connect, and hasn't yet
abbrev pub is_connecting : Story → Bool
is_connecting past = not (is_accepted past || has_connected past || is_closed past)

-- our SYN or SYN-ACK went out
abbrev pub syn_is_out : Story → Bool
syn_is_out [] = false
syn_is_out (At m (Departs seg) ∷ past) = (seg.syn && not seg.rst) || syn_is_out past
syn_is_out (_ ∷ past) = syn_is_out past

-- the guest's answer to our SYN, or its own SYN, while the flow is open (RFC 9293, 3.10.7.3)
abbrev pub greets : Story → Segment → Bool
greets past seg = seg.syn && not seg.rst && syn_is_out past && not (is_closed past) && (not seg.ack || nat_eq seg.acknowledgement (next_number (our_number past)))

-- the guest's SYN, where it is known
abbrev pub their_syn : Story → Option Segment
their_syn [] = None
their_syn (At m (Connects ours syn) ∷ past) = Some syn
their_syn (At m (Arrives seg) ∷ past) = option_or (their_syn past) (if greets past seg then Some seg else None)
their_syn (_ ∷ past) = their_syn past

-- and its number
abbrev pub their_number : Story → Option ℕ
their_number past = option_map (λ seg. seg.number) (their_syn past)

-- ---- the two streams

-- a segment with octets, FIN or an acknowledgement, and nothing that opens or resets
abbrev pub is_plain : Segment → Bool
is_plain seg = not seg.syn && not seg.rst && (seg.ack || seg.fin || not (is_empty seg.octets))

abbrev pub push : {A : Type 0} → Option A → List A → List A
push None events = events
push (Some e) events = e ∷ events

-- an acknowledgement that counts: by the segment that made the guest's SYN known, or by one without SYN since
abbrev pub confirms : Story → Segment → Bool
confirms past seg = seg.ack && not seg.rst && syn_is_out past && (if is_some (their_number past) then not seg.syn else greets past seg)

-- what an event is to the host's stream
abbrev pub down_of : Story → Event → Option Down
down_of past (Connects ours syn) = Some (Ours ours)
down_of past (Accepts ours) = Some (Ours ours)
down_of past (Arrives seg) = if confirms past seg then Some (Confirmed seg.acknowledgement) else None
down_of past (Departs seg) = if not seg.syn && not seg.rst then Some (Sent seg.number seg.octets seg.fin) else None
down_of past (Reads xs) = Some (Got xs)
down_of past ReadsEnd = Some GotEnd
down_of past _ = None

abbrev pub host : Story → List Down
host [] = []
host (At m e ∷ past) = push (down_of past e) (host past)

-- A segment is heeded where the flow is open and both SYNs are known to the other side: it has ACK, neither SYN nor RST, and
-- acknowledges nothing that wasn't sent (RFC 9293, 3.10.7.4).
abbrev pub is_heeded : Story → Segment → Bool
is_heeded past seg =
    not (is_closed past) && is_some (their_number past) && syn_is_out past && seg.ack && not seg.syn && not seg.rst
    && not_past_sent (host past) seg.acknowledgement
    && (answered (host past) || nat_eq seg.acknowledgement (next_number (our_number past)))

-- a segment that goes out acknowledges the guest's stream, once that has begun
abbrev pub acknowledges : Story → Segment → Bool
acknowledges past seg = seg.ack && not seg.rst && is_some (their_number past)

-- what an event is to the guest's stream; what comes after the close isn't looked at
abbrev pub up_of : Story → Event → Option Up
up_of past (Connects ours syn) = Some (Known syn.number)
up_of past (Arrives seg) =
    if is_closed past then None
    else (if is_some (their_number past) then (if is_plain seg then Some (Came seg.number seg.octets seg.fin (is_heeded past seg)) else None)
    else (if greets past seg then Some (Known seg.number) else None))
up_of past (Departs seg) = if acknowledges past seg then Some (Acked seg.acknowledgement) else None
up_of past (Writes xs n) = Some (Wrote xs n)
up_of past (WriteFails xs) = Some (Wrote xs 0)
up_of past EndsHost = Some Ended
up_of past EndFails = Some Ended
up_of past _ = None

abbrev pub guest : Story → List Up
guest [] = []
guest (At m e ∷ past) = push (up_of past e) (guest past)

-- ---- the moments at which a number of ours went out, the newest first

-- the segment, which has no SYN, holds the place i
abbrev pub holds : Story → Segment → ℕ → Bool
holds past seg i = not seg.syn && not seg.rst && int_le (our_place (host past) seg.number) (pos i) && int_lt (pos i)
    (our_place (host past) seg.number +ℤ pos (length seg.octets + (if seg.fin then 1 else 0)))

abbrev pub add_if : Bool → ℕ → List ℕ → List ℕ
add_if true m ms = m ∷ ms
add_if false m ms = ms

abbrev pub sendings : Story → ℕ → List ℕ
sendings [] i = []
sendings (At m (Departs seg) ∷ past) i = add_if (holds past seg i) m (sendings past i)
sendings (_ ∷ past) i = sendings past i

abbrev pub syn_sendings : Story → List ℕ
syn_sendings [] = []
syn_sendings (At m (Departs seg) ∷ past) = add_if (seg.syn && not seg.rst) m (syn_sendings past)
syn_sendings (_ ∷ past) = syn_sendings past

-- of the oldest number that isn't acknowledged: our SYN, or the first place that isn't
abbrev pub oldest_sendings : Story → List ℕ
oldest_sendings past = if answered (host past) then sendings past (acked (host past)) else syn_sendings past

-- how often the place i went out since the last acceptable acknowledgement
abbrev pub sent_again : Story → ℕ → ℕ
sent_again [] i = 0
sent_again (At m (Arrives seg) ∷ past) i = if confirms past seg && is_acceptable (host past) seg.acknowledgement then 0 else sent_again past i
sent_again (At m (Departs seg) ∷ past) i = (if holds past seg i then 1 else 0) + sent_again past i
sent_again (_ ∷ past) i = sent_again past i

abbrev pub oldest_sent_again : Story → ℕ
oldest_sent_again past = if answered (host past) then sent_again past (acked (host past)) else length (syn_sendings past)

-- the moment at which the last acknowledgement came that moved; 0 where none did
abbrev pub acknowledged_at : Story → ℕ
acknowledged_at [] = 0
acknowledged_at (At m (Arrives seg) ∷ past) =
    if confirms past seg && not_past_sent (host past) seg.acknowledgement && int_lt (pos (acked (host past))) (our_place (host past) seg.acknowledgement) then m else acknowledged_at past
acknowledged_at (_ ∷ past) = acknowledged_at past

-- numbers of ours went out that aren't acknowledged
abbrev pub is_under_way : Story → Bool
is_under_way past = if answered (host past) then nat_lt (acked (host past)) (sent (host past)) else syn_is_out past

-- at least so long ago; never is not
abbrev pub was_long_ago : ℕ → ℕ → List ℕ → Bool
was_long_ago now time [] = false
was_long_ago now time (m ∷ _) = nat_le (m + time) now

abbrev pub newest_of : List ℕ → ℕ
newest_of [] = 0
newest_of (m ∷ ms) = m

abbrev pub oldest : List ℕ → Option ℕ
oldest [] = None
oldest (m ∷ []) = Some m
oldest (_ ∷ ms) = oldest ms
