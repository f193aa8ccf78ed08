-- What an acknowledgement does (RFC 9293, 3.10.7.4; RFC 6298, 5.2 and 5.3; RFC 5681, 3; RFC 6582, 3.2).
use Rattle.std.specs.Prelude.{◌≡◌, ℕ, ◌+◌, ◌-◌, ◌<◌, ◌≤◌, ◌^◌, Bool, true, false, ◌&&◌, ◌||◌, nat_lt, nat_le, nat_eq, Option, None, Some, drop, min, ℤ, pos, ◌<ℤ◌, if◌then◌else◌}
use Rattle.cwnd.specs.Congestion.{Congestion, after_acked, after_duplicate}
use Rattle.retransmit.specs.Resending.{after_answered, after_moved}
use Rattle.seq_space.specs.Places.{place, steps_up}
use Rattle.seq_space.specs.declared.Seq.{Seq}
use Rattle.sock_buffers.specs.Downward.{Downward}
use Rattle.tcp_transmit.specs.Timing.{round_trip, timed_past, watched_over}
use Rattle.tcp_transmit.specs.Transmission.{Transmission, edge_of, flight, octets_read}
use Rattle.tcp_transmit.specs.declared.AckSeen.{AckSeen}
use Rattle.tcp_transmit.specs.declared.AckSeen.TheVariants.{Old, Same, Forward, FinToo, TooFar}
use Rattle.tcp_transmit.specs.declared.Window.{Window}

-- the place that is acknowledged, the one nearest to what was sent
abbrev pub place_acked : Transmission → ℕ → ℤ
place_acked t ack = place ack t.first t.sent

-- What an acknowledgement is. It is acceptable from SND.UNA to SND.NXT; the octets of the stream that it acknowledges
-- are counted, and our FIN comes after all of them.
abbrev pub IsSeenAs : Transmission → Downward → ℤ → AckSeen → Type 0
IsSeenAs t down at Old = at <ℤ pos t.acked
IsSeenAs t down at Same = at ≡ pos t.acked
IsSeenAs t down at (Forward n) = (0 < n) × (at ≡ pos (t.acked + n)) × (t.acked + n ≤ octets_read down) × (t.acked + n ≤ t.sent)
IsSeenAs t down at (FinToo n) = (at ≡ pos t.sent) × (t.acked + n + 1 ≡ t.sent) × (t.acked + n ≡ octets_read down)
IsSeenAs t down at TooFar = pos t.sent <ℤ at

abbrev pub is_acceptable : AckSeen → Bool
is_acceptable Old = false
is_acceptable Same = true
is_acceptable (Forward n) = true
is_acceptable (FinToo n) = true
is_acceptable TooFar = false

-- how many octets it acknowledges that were not acknowledged before
abbrev pub octets_acked : AckSeen → ℕ
octets_acked Old = 0
octets_acked Same = 0
octets_acked (Forward n) = n
octets_acked (FinToo n) = n
octets_acked TooFar = 0

-- the buffer gives these octets up
abbrev pub without : ℕ → Downward → Downward
without n down = record down { octets = drop n down.octets; first = down.first + n }

-- An acknowledgement that moves to a place owes the piece there again, at once, where the place is below what was sent
-- when a loss was noticed last: the acknowledgement is a partial one, and that piece was lost too (RFC 6582, 3.2).
abbrev pub owes_again : Transmission → (place : ℕ) → Bool
owes_again t place = nat_lt place t.recover

-- 5.2 and 5.3: where the acknowledgement moves the timer is set again, or cleared once all is acknowledged; a round trip
-- is taken before; what was owed again is no longer owed, the piece at the new place may be, and duplicates count anew
abbrev pub moved : Transmission → ℕ → ℕ → Transmission
moved t place now = record t {
  acked = place;
  resend = after_moved t.resend (round_trip t.timed place now) (nat_lt place t.sent) now;
  timed = timed_past t.timed place;
  duplicates = 0;
  early = owes_again t place;
  again = false;
  probing = false;
}

abbrev pub acknowledged : Transmission → AckSeen → ℕ → Transmission
acknowledged t Old now = t
acknowledged t Same now = record t { resend = after_answered t.resend }
acknowledged t (Forward n) now = moved t (t.acked + n) now
acknowledged t (FinToo n) now = moved t (t.acked + n + 1) now
acknowledged t TooFar now = t

-- the last window that was taken is so large
abbrev pub is_last_window : Option Window → ℕ → Bool
is_last_window None window = false
is_last_window (Some w) window = nat_eq window (w.edge - w.ack)

abbrev pub is_same : AckSeen → Bool
is_same Old = false
is_same Same = true
is_same (Forward n) = false
is_same (FinToo n) = false
is_same TooFar = false

-- Whether a segment is a duplicate acknowledgement (RFC 5681, 2): numbers are under way, it has no octets, SYN or FIN, its
-- acknowledgement is the last one, and its window is the last one.
abbrev pub is_duplicate : Transmission → (window : ℕ) → (bare : Bool) → AckSeen → Bool
is_duplicate t window bare seen = bare && is_same seen && nat_lt t.acked t.sent && is_last_window t.window window

-- the congestion window after an acknowledgement, with so many numbers under way before: a duplicate, or one of so many
-- octets more; an acknowledgement of FIN alone is no event
abbrev pub cwnd_after : Congestion → (duplicate : Bool) → (flight octets : ℕ) → Congestion
cwnd_after c duplicate flight octets =
    if duplicate then after_duplicate c flight else (if nat_lt 0 octets then after_acked c octets else c)

abbrev pub cwnd_acked : Option Congestion → (duplicate : Bool) → (flight octets : ℕ) → Option Congestion
cwnd_acked None duplicate flight octets = None
cwnd_acked (Some c) duplicate flight octets = Some (cwnd_after c duplicate flight octets)

-- whether it is the third duplicate
abbrev pub is_third : Transmission → (duplicate : Bool) → Bool
is_third t duplicate = duplicate && nat_eq t.duplicates 2

-- What an acknowledgement says of loss and of congestion. The third duplicate tells of a loss (RFC 5681, 3.2): the oldest
-- piece is owed again, and what is sent by now is what is to be acknowledged before the loss is over (RFC 6582, 3.2,
-- step 2). A congestion window takes its step, where there is one.
abbrev pub congested_by : Transmission → (duplicate : Bool) → (octets : ℕ) → Transmission
congested_by t duplicate octets = record t {
  cwnd = cwnd_acked t.cwnd duplicate (flight t) octets;
  recover = if is_third t duplicate then t.sent else t.recover;
  duplicates = if duplicate then min 3 (t.duplicates + 1) else t.duplicates;
  early = t.early || is_third t duplicate;
}

abbrev pub congested : Transmission → (window : ℕ) → (bare : Bool) → AckSeen → Transmission
congested t window bare seen = congested_by t (is_duplicate t window bare seen) (octets_acked seen)

-- the number a is after b (3.4)
abbrev pub is_after : ℕ → ℕ → Bool
is_after a b = nat_lt 0 (steps_up a b) && nat_lt (steps_up a b) (2 ^ 31)

-- The window is taken from a segment where SND.WL1 < SEG.SEQ, or SND.WL1 = SEG.SEQ and SND.WL2 =< SEG.ACK, and from the
-- one that acknowledges our SYN.
abbrev pub is_newer : Option Window → ℕ → ℕ → Bool
is_newer None seq acked = true
is_newer (Some w) seq acked = is_after seq w.seq.0 || (nat_eq seq w.seq.0 && nat_le w.ack acked)

abbrev pub windowed : Transmission → Seq → ℕ → Transmission
windowed t seq window =
    if is_newer t.window seq.0 t.acked
    then record t { window = Some (record { edge = t.acked + window; seq = seq; ack = t.acked }) }
    else t

-- a probe that wasn't taken is owed again once the window has room for it
abbrev pub opened : Transmission → Transmission
opened t = if t.probing && nat_lt t.acked (edge_of t.window) then record t { early = true; probing = false } else t

-- after an acknowledgement: one that isn't acceptable changes nothing; else it is counted, the window is taken, and a
-- window that is closed then is watched
abbrev pub after_ack : Transmission → Downward → Seq → ℕ → Bool → ℕ → AckSeen → Transmission
after_ack t down seq window bare now seen =
    if is_acceptable seen
    then watched_over (opened (windowed (acknowledged (congested t window bare seen) seen now) seq window)) down now
    else t
