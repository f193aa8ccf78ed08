-- What a contract sees of the sending half of a connection (RFC 9293, 3.3.1). It speaks of places in the host's stream:
-- octets have the places from 0 on, and the end of the stream, our FIN, has the place after its last octet.
use Rattle.std.specs.Prelude.{◌≡◌, ℕ, ◌+◌, ◌-◌, ◌<◌, ◌≤◌, ◌^◌, length, Bool, true, false, ◌&&◌, ◌||◌, nat_le, is_some, Option, None, Some, min}
use Rattle.cwnd.specs.Congestion.{Congestion}
use Rattle.retransmit.specs.Resending.{Resending, IsSteady, at_rest, is_expired, is_off}
use Rattle.sock_buffers.specs.Downward.{Downward}
use Rattle.tcp_transmit.specs.declared.End.{End}
use Rattle.tcp_transmit.specs.declared.End.TheVariants.{Open, Unsent, Sent}
use Rattle.tcp_transmit.specs.declared.Timed.{Timed}
use Rattle.tcp_transmit.specs.declared.Window.{Window}

-- The number of our SYN; the most octets of a piece; how many places were acknowledged, and how many sent (the numbers
-- after the SYN and so many places are SND.UNA and SND.NXT); what is known of our end; the guest's window, once our SYN
-- was acknowledged; the timer with the estimate of its timeout, and how often it made the oldest piece go again since the
-- last acceptable acknowledgement; the piece whose round trip is measured; and the congestion window, where there is one.
-- Of a loss: how many places were sent when the last was noticed, at an expiry with numbers under way or at a third
-- duplicate, and 0 at first (`recover` of RFC 6582, as a place); and how many duplicate acknowledgements came since the
-- acknowledgement moved or the timer expired with numbers under way, where 3 stands for more too.
-- Further: whether the oldest piece is owed again before its timer expired; whether it went again since the timer expired
-- and since the acknowledgement moved; and whether what is under way began past the guest's window.
pub record Transmission : Type 0 where
  pub first : ℕ
  pub mss : ℕ
  pub acked : ℕ
  pub sent : ℕ
  pub end : End
  pub window : Option Window
  pub resend : Resending
  pub timed : Option Timed
  pub cwnd : Option Congestion
  pub recover : ℕ
  pub duplicates : ℕ
  pub early : Bool
  pub again : Bool
  pub probing : Bool

-- before anything was sent
abbrev pub unanswered : ℕ → ℕ → Transmission
unanswered first mss = record {
  first = first;
  mss = mss;
  acked = 0;
  sent = 0;
  end = Open;
  window = None;
  resend = at_rest;
  timed = None;
  cwnd = None;
  recover = 0;
  duplicates = 0;
  early = false;
  again = false;
  probing = false;
}

-- how many octets the stream has so far
abbrev pub octets_read : Downward → ℕ
octets_read down = down.first + length down.octets

-- the places of our end: one, once the host ended the stream
abbrev pub end_places : End → ℕ
end_places Open = 0
end_places Unsent = 1
end_places Sent = 1

-- how many places the stream has so far
abbrev pub places : Transmission → Downward → ℕ
places t down = octets_read down + end_places t.end

-- how many numbers are under way
abbrev pub flight : Transmission → ℕ
flight t = t.sent - t.acked

-- the edge of the guest's window, SND.UNA + SND.WND as a place: nothing may be sent before our SYN was acknowledged
abbrev pub edge_of : Option Window → ℕ
edge_of None = 0
edge_of (Some w) = w.edge

-- the first place past both windows: the guest's, and the congestion window after what was acknowledged
abbrev pub reach_by : Option Congestion → (acked edge : ℕ) → ℕ
reach_by None acked edge = edge
reach_by (Some c) acked edge = min edge (acked + c.window)

-- of a sending half
abbrev pub reach : Transmission → ℕ
reach t = reach_by t.cwnd t.acked (edge_of t.window)

abbrev pub is_unsent : End → Bool
is_unsent Open = false
is_unsent Unsent = true
is_unsent Sent = false

abbrev pub is_sent : End → Bool
is_sent Open = false
is_sent Unsent = false
is_sent Sent = true

-- whether something is owed again: the timer expired, or the oldest piece is owed before that
abbrev pub is_owed_again : Transmission → Bool
is_owed_again t = is_expired t.resend.timer || t.early

-- whether the window is closed: it is known, and no number more may be sent
abbrev pub is_closed : Transmission → Bool
is_closed t = is_some t.window && nat_le (edge_of t.window) t.sent

-- the octets that were sent are those of the stream, and our FIN is sent after the last of them
abbrev pub IsSentOf : End → ℕ → ℕ → Type 0
IsSentOf Open sent octets = sent ≤ octets
IsSentOf Unsent sent octets = sent ≤ octets
IsSentOf Sent sent octets = sent ≡ octets + 1

-- a congestion window is of segments of this size, and has room for one at least, also when it falls to the threshold
abbrev pub IsOfSegments : Option Congestion → ℕ → Type 0
IsOfSegments None mss = Unit {0}
IsOfSegments (Some c) mss = (c.mss ≡ mss) × (mss ≤ c.window) × (mss ≤ c.threshold)

-- What holds of every connection. A piece has at most from 64 to 1,460 octets; what was acknowledged was sent; the timer
-- is set while numbers are under way (RFC 6298, 5.1); the oldest piece goes again at most eight times, and the timeout is
-- doubled each time, from a second up to a minute (5.5). What was sent when a loss was noticed is no more than what is
-- sent. Nothing is owed again early, or went past the window, where nothing is under way.
pub record IsSound (t : Transmission) : Type 0 where
  pub least : 64 ≤ t.mss
  pub most : t.mss ≤ 1460
  pub order : t.acked ≤ t.sent
  pub set : t.acked < t.sent → is_off t.resend.timer ≡ false
  pub steady : IsSteady t.resend
  pub begins : t.acked ≡ t.sent → t.resend.resent ≡ 0
  pub segments : IsOfSegments t.cwnd t.mss
  pub recovers : t.recover ≤ t.sent
  pub early : t.early ≡ true → t.acked < t.sent
  pub probes : t.probing ≡ true → t.acked < t.sent

-- The buffer is that of this connection: it holds the stream from the first octet on that isn't acknowledged, all that
-- was sent is of the stream, and the stream has under 2^62 octets. Where nothing is under way, the timer is set exactly
-- where something waits for a closed window.
pub record Feeds (t : Transmission) (down : Downward) : Type 0 where
  pub sound : IsSound t
  pub first : down.first ≡ min t.acked (octets_read down)
  pub all : IsSentOf t.end t.sent (octets_read down)
  pub few : octets_read down < 2 ^ 62
  pub rests : t.acked ≡ t.sent → is_off t.resend.timer ≡ false → (is_closed t ≡ true) × (t.sent < places t down)
  pub waits : t.acked ≡ t.sent → is_closed t ≡ true → t.sent < places t down → is_off t.resend.timer ≡ false
