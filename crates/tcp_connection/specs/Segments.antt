-- What a segment of the guest changes (RFC 9293, 3.10.7).
use Rattle.std.specs.Prelude.{ℕ, ◌+◌, ◌-◌, ◌^◌, Bool, true, false, not, ◌&&◌, ◌||◌, nat_lt, nat_eq, min, length, List, Option, Some, if◌then◌else◌}
use Rattle.cwnd.specs.Congestion.{at_first}
use Rattle.retransmit.specs.Resending.{after_stop}
use Rattle.seq_space.specs.Places.{number_of, shifted_place}
use Rattle.seq_space.specs.declared.Seq.{Seq}
use Rattle.sock_buffers.specs.Downward.{Downward}
use Rattle.sock_buffers.specs.Upward.{Upward}
use Rattle.tcp_receive.specs.Received.{Received, places_taken, received, up_after}
use Rattle.tcp_segment.specs.Tcp.{Tcp, mss_of}
use Rattle.tcp_transmit.specs.Acks.{after_ack, octets_acked, without}
use Rattle.tcp_transmit.specs.Transmission.{Transmission, octets_read}
use Rattle.tcp_transmit.specs.declared.AckSeen.{AckSeen}
use Rattle.tcp_transmit.specs.declared.AckSeen.TheVariants.{Old, Same, Forward, FinToo, TooFar}
use Rattle.tcp_connection.specs.declared.Change.{Change}
use Rattle.tcp_connection.specs.declared.Change.TheVariants.{Nothing, GuestReset, Finished, Unfit}
use Rattle.tcp_connection.specs.declared.Stage.TheVariants as stage
use Rattle.tcp_connection.specs.declared.Verdict.{Verdict}
use Rattle.tcp_connection.specs.declared.Verdict.TheVariants.{Ignored, Resets, Unacceptable, Repeats, Challenged, Greets, Heeded}
use Rattle.tcp_connection.specs.Checks.{is_ack, is_fin, verdict_of}
use Rattle.tcp_connection.specs.Connection.{Connection, closes_first, has_gone_again, is_syn_received, is_synchronized, shift_of}
use Rattle.tcp_connection.specs.Windows.{window_in}

-- ---- opening

-- 3.10.7.3: the guest's SYN came. Our SYN-ACK is owed, and an acknowledgement, which that pays.
abbrev pub greeted : Connection → Tcp → Connection
greeted c seg = record c {
  stage = stage.SynReceived;
  received = received seg.seq 0 false;
  transmission = record c.transmission { mss = min c.transmission.mss (mss_of seg.mss) };
  acknowledged = number_of seg.seq 0;
  scale = shift_of seg.scale;
  syn_owed = true;
  ack_owed = true;
}

-- the sending half with the congestion window of a connection whose SYN went out so often (RFC 5681, 3.1)
abbrev pub congested : Connection → Transmission
congested c = if c.congestion
    then record c.transmission { cwnd = Some (at_first c.transmission.mss (has_gone_again c.sendings)) }
    else c.transmission

-- our SYN is acknowledged, and its timer is cleared
abbrev pub established : Connection → Connection
established c = record c {
  stage = stage.Synchronized;
  transmission = congested c;
  syn = after_stop c.syn;
  syn_owed = false;
}

abbrev pub opened : Connection → Connection
opened c = if is_syn_received c.stage then established c else c

-- ---- acknowledgements

-- What an acknowledgement is to the sending half, by the place that it acknowledges (2^31 more than it), and by what was
-- acknowledged, what was sent, and how many octets the stream has so far.
abbrev pub seen_at : (place acked sent octets : ℕ) → AckSeen
seen_at place acked sent octets =
    if nat_lt place (acked + 2 ^ 31) then Old
    else (if nat_lt (sent + 2 ^ 31) place then TooFar
    else (if nat_eq place (acked + 2 ^ 31) then Same
    else (if nat_lt (octets + 2 ^ 31) place then FinToo (octets - acked) else Forward (place - 2 ^ 31 - acked))))

abbrev pub seen_of : Transmission → Downward → ℕ → AckSeen
seen_of t down ack = seen_at (shifted_place ack t.first t.sent) t.acked t.sent (octets_read down)

abbrev pub is_too_far : AckSeen → Bool
is_too_far Old = false
is_too_far Same = false
is_too_far (Forward n) = false
is_too_far (FinToo n) = false
is_too_far TooFar = true

abbrev pub is_fin_too : AckSeen → Bool
is_fin_too Old = false
is_fin_too Same = false
is_fin_too (Forward n) = false
is_fin_too (FinToo n) = true
is_fin_too TooFar = false

-- the sending half takes the acknowledgement and the window
abbrev pub confirmed : Connection → Downward → Seq → (window : ℕ) → (bare : Bool) → (now : ℕ) → AckSeen → Connection
confirmed c down seq window bare now seen = record c {
  transmission = after_ack c.transmission (without (octets_acked seen) down) seq window bare now seen;
}

-- an acknowledgement of our FIN is remembered, and one of what was never sent is answered (3.10.7.4)
abbrev pub noted : Connection → AckSeen → Connection
noted c seen = record c {
  fin_acked = c.fin_acked || is_fin_too seen;
  ack_owed = c.ack_owed || is_too_far seen;
}

abbrev pub acknowledged_as : Connection → Downward → Tcp → (window : ℕ) → (bare : Bool) → (now : ℕ) → AckSeen → Connection
acknowledged_as c down seg window bare now seen = noted (confirmed c down (record { 0 = seg.seq }) window bare now seen) seen

abbrev pub acknowledged : Connection → Downward → Tcp → (window : ℕ) → (bare : Bool) → (now : ℕ) → Connection
acknowledged c down seg window bare now = acknowledged_as c down seg window bare now (seen_of c.transmission down seg.ack)

-- the segment has neither octets nor FIN
abbrev pub is_bare : Tcp → Bool
is_bare seg = nat_eq (length seg.body) 0 && not (is_fin seg)

-- ---- octets

-- how many octets are taken of a segment, kept ones counted
abbrev pub count_taken : Received → ℕ → List ℕ → Upward → ℕ
count_taken r number octets up = length (up_after r number octets up).held - length up.held

-- its FIN is taken where every octet before it was
abbrev pub is_end_taken : Received → ℕ → List ℕ → Bool → (taken_now : ℕ) → Bool
is_end_taken r number octets fin taken_now =
    fin && not r.ended && nat_eq (shifted_place number r.first r.taken + length octets) (taken_now + 2 ^ 31)

-- it is to be acknowledged where it has octets or FIN, or a number before the next expected one
abbrev pub is_to_acknowledge : Received → ℕ → List ℕ → Bool → Bool
is_to_acknowledge r number octets fin =
    nat_lt 0 (length octets) || fin || nat_lt (shifted_place number r.first r.taken) (places_taken r + 2 ^ 31)

abbrev pub received_after : Received → ℕ → List ℕ → Bool → Upward → Received
received_after r number octets fin up =
    let taken_now = r.taken + count_taken r number octets up in
    record r {
      taken = taken_now;
      ended = r.ended || is_end_taken r number octets fin taken_now;
    }

abbrev pub arrived : Connection → Upward → Tcp → Connection
arrived c up seg = record c {
  received = received_after c.received seg.seq seg.body (is_fin seg) up;
  ack_owed = c.ack_owed || is_to_acknowledge c.received seg.seq seg.body (is_fin seg);
}

-- ---- both ends

-- both ends passed and are acknowledged, and the host was told the guest's
abbrev pub is_done : Connection → Bool
is_done c = is_synchronized c.stage && c.host_ended && c.fin_acked && c.end_acknowledged

-- the connection is finished then: in TIME-WAIT where our end came first (3.6)
abbrev pub settled : Connection → Connection
settled c =
    if is_done c then (if closes_first c then record c { stage = stage.TimeWait } else record c { stage = stage.Closed })
    else c

abbrev pub settling : Connection → Change
settling c = if is_done c then Finished else Nothing

-- ---- a segment

-- one that is heeded: its acknowledgement is taken, then its octets and its FIN; none, where that is of what was never sent
abbrev pub is_past : Connection → Downward → Tcp → Bool
is_past c down seg = is_too_far (seen_of c.transmission down seg.ack)

abbrev pub heard : Connection → Downward → Tcp → (now : ℕ) → Connection
heard c down seg now = acknowledged (opened c) down seg (window_in (opened c) seg) (is_bare seg) now

abbrev pub heeded : Connection → Upward → Downward → Tcp → (now : ℕ) → Connection
heeded c up down seg now =
    if is_past (opened c) down seg then heard c down seg now else settled (arrived (heard c down seg now) up seg)

-- the guest's SYN: with ACK it acknowledges ours, and gives a window that isn't scaled
abbrev pub welcomed : Connection → Downward → Tcp → (now : ℕ) → Connection
welcomed c down seg now =
    if is_ack seg then acknowledged (established (greeted c seg)) down seg seg.window false now else greeted c seg

abbrev pub conn_by : Verdict → Connection → Upward → Downward → Tcp → (now : ℕ) → Connection
conn_by Ignored c up down seg now = c
conn_by Resets c up down seg now = record c { stage = stage.Closed }
conn_by Unacceptable c up down seg now = c
conn_by Repeats c up down seg now = record c { syn_owed = true }
conn_by Challenged c up down seg now = record c { ack_owed = true }
conn_by Greets c up down seg now = welcomed c down seg now
conn_by Heeded c up down seg now = heeded c up down seg now

abbrev pub after_segment : Connection → Upward → Downward → Tcp → (now : ℕ) → Connection
after_segment c up down seg now = conn_by (verdict_of c up seg) c up down seg now

-- the octets of the guest after it
abbrev pub up_heeding : Connection → Upward → Downward → Tcp → Upward
up_heeding c up down seg = if is_past (opened c) down seg then up else up_after c.received seg.seq seg.body up

abbrev pub up_by : Verdict → Connection → Upward → Downward → Tcp → Upward
up_by Ignored c up down seg = up
up_by Resets c up down seg = up
up_by Unacceptable c up down seg = up
up_by Repeats c up down seg = up
up_by Challenged c up down seg = up
up_by Greets c up down seg = up
up_by Heeded c up down seg = up_heeding c up down seg

abbrev pub up_after_segment : Connection → Upward → Downward → Tcp → Upward
up_after_segment c up down seg = up_by (verdict_of c up seg) c up down seg

-- the octets of the host after it
abbrev pub down_welcoming : Connection → Downward → Tcp → Downward
down_welcoming c down seg =
    if is_ack seg then without (octets_acked (seen_of (established (greeted c seg)).transmission down seg.ack)) down else down

abbrev pub down_heeding : Connection → Downward → Tcp → Downward
down_heeding c down seg = without (octets_acked (seen_of (opened c).transmission down seg.ack)) down

abbrev pub down_by : Verdict → Connection → Downward → Tcp → Downward
down_by Ignored c down seg = down
down_by Resets c down seg = down
down_by Unacceptable c down seg = down
down_by Repeats c down seg = down
down_by Challenged c down seg = down
down_by Greets c down seg = down_welcoming c down seg
down_by Heeded c down seg = down_heeding c down seg

abbrev pub down_after_segment : Connection → Upward → Downward → Tcp → Downward
down_after_segment c up down seg = down_by (verdict_of c up seg) c down seg

-- what it makes of the connection
abbrev pub change_heeding : Connection → Upward → Downward → Tcp → (now : ℕ) → Change
change_heeding c up down seg now =
    if is_past (opened c) down seg then Nothing else settling (arrived (heard c down seg now) up seg)

abbrev pub change_by : Verdict → Connection → Upward → Downward → Tcp → (now : ℕ) → Change
change_by Ignored c up down seg now = Nothing
change_by Resets c up down seg now = GuestReset
change_by Unacceptable c up down seg now = Unfit
change_by Repeats c up down seg now = Nothing
change_by Challenged c up down seg now = Nothing
change_by Greets c up down seg now = Nothing
change_by Heeded c up down seg now = change_heeding c up down seg now

abbrev pub change_at : Connection → Upward → Downward → Tcp → (now : ℕ) → Change
change_at c up down seg now = change_by (verdict_of c up seg) c up down seg now
