-- The timer of pieces (RFC 6298, 5) and of probes (RFC 9293, 3.8.6.1), and the round trip that is measured (RFC 6298, 3).
use Rattle.std.specs.Prelude.{◌≡◌, ℕ, ◌-◌, ◌<◌, ◌^◌, Bool, true, false, ◌&&◌, ◌||◌, ◌⊎◌, not, nat_lt, nat_le, Option, None, Some, min, max, if◌then◌else◌}
use Rattle.cwnd.specs.Congestion.{Congestion, after_expiry}
use Rattle.retransmit.specs.Resending.{after_expired as resend_expired, after_sent as resend_sent, after_start, after_stop, is_expired, is_given_up as is_given_up_by}
use Rattle.sock_buffers.specs.Downward.{Downward}
use Rattle.tcp_transmit.specs.Pieces.{end_of}
use Rattle.tcp_transmit.specs.Transmission.{Transmission, edge_of, flight, places, is_closed}
use Rattle.tcp_transmit.specs.declared.End.TheVariants.{Sent}
use Rattle.tcp_transmit.specs.declared.Piece.{Piece}
use Rattle.tcp_transmit.specs.declared.Timed.{Timed}

-- The timer runs where it has not expired, and numbers are under way, or something waits for a closed window.
abbrev pub Runs : Transmission → Downward → Type 0
Runs t down = (is_expired t.resend.timer ≡ false) × ((t.acked < t.sent) ⊎ ((is_closed t ≡ true) × (t.sent < places t down)))

-- Where nothing is under way the timer is that of the window: it is set where something is unsent and the window is
-- closed, and cleared where that ceases.
abbrev pub watched : Transmission → Bool → ℕ → Transmission
watched t unsent now =
    if nat_lt t.acked t.sent then t
    else record t { resend = if is_closed t && unsent then after_start t.resend now else after_stop t.resend }

-- the same over what the buffer holds
abbrev pub watched_over : Transmission → Downward → ℕ → Transmission
watched_over t down now = watched t (nat_lt t.sent (places t down)) now

-- One piece is measured at a time, and none once a piece was sent again (Karn's algorithm).
abbrev pub timed_after : Option Timed → Bool → ℕ → ℕ → Option Timed
timed_after timed true end now = None
timed_after None false end now = Some (record { end = end; at = now })
timed_after (Some m) false end now = Some m

-- a measured piece that is acknowledged whole gives its round trip, at most 2^40 milliseconds, and is measured no longer
abbrev pub round_trip : Option Timed → (place now : ℕ) → Option ℕ
round_trip None place now = None
round_trip (Some m) place now = if nat_le m.end place then Some (min (now - m.at) (2 ^ 40)) else None

abbrev pub timed_past : Option Timed → ℕ → Option Timed
timed_past None place = None
timed_past (Some m) place = if nat_le m.end place then None else Some m

-- whether a piece goes again: it begins before the greatest end that was sent
abbrev pub goes_again : Transmission → Piece → Bool
goes_again t p = nat_lt p.place t.sent

-- after a piece was sent
abbrev pub after_sent : Transmission → Piece → ℕ → Transmission
after_sent t p now = record t {
  sent = max t.sent (end_of p);
  end = if p.fin then Sent else t.end;
  resend = resend_sent t.resend (goes_again t p) now;
  timed = timed_after t.timed (goes_again t p) (end_of p) now;
  early = false;
  again = t.again || (goes_again t p && is_expired t.resend.timer);
  probing = t.probing || (not (goes_again t p) && nat_le (edge_of t.window) p.place);
}

-- a piece that was sent again eight times is not sent once more
abbrev pub is_given_up : Transmission → Bool
is_given_up t = is_given_up_by t.resend

-- the congestion window after an expiry, where numbers are under way
abbrev pub cwnd_expired : Option Congestion → (flight : ℕ) → Bool → Option Congestion
cwnd_expired None flight again = None
cwnd_expired (Some c) flight again = if nat_lt 0 flight then Some (after_expiry c flight again) else Some c

-- 5.4 to 5.6: the timer expired. What it makes owed waits to be sent, and the wait is doubled; where numbers are under way
-- a loss is noticed with it, and duplicates count anew (RFC 6582, 3.2, step 4).
abbrev pub timed_out : Transmission → Transmission
timed_out t = record t {
  resend = resend_expired t.resend;
  cwnd = cwnd_expired t.cwnd (flight t) t.again;
  recover = if nat_lt t.acked t.sent then t.sent else t.recover;
  duplicates = if nat_lt t.acked t.sent then 0 else t.duplicates;
}

abbrev pub after_expired : Transmission → Transmission
after_expired t = if is_given_up t then t else timed_out t
