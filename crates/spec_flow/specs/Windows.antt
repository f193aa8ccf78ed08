-- The windows of the two sides (RFC 9293, 3.8.6; RFC 7323, 2), and how far each may go.
use Rattle.std.specs.Prelude.{ℕ, ◌+◌, ◌-◌, ◌*◌, ◌/◌, ◌^◌, [], ◌∷◌, length, min, Bool, true, false, not, ◌&&◌, ◌||◌, Option, None, Some, is_some, if◌then◌else◌, nat_le, nat_eq, zero, suc}
use Rattle.std.specs.Option.{unwrap_or}
use Rattle.seq_space.specs.Places.{is_ahead}
use Rattle.tcp_segment.specs.Tcp.{mss_of}
use Rattle.spec_flow.specs.Settings.{Settings}
use Rattle.spec_flow.specs.Event.{Segment, Arrives, Departs, At, Story}
use Rattle.spec_flow.specs.Guest.{ackd, written}
use Rattle.spec_flow.specs.Host.{acked, is_acceptable}
use Rattle.spec_flow.specs.Flow.{guest, host, their_syn, acknowledges, confirms}

-- ---- the options of the guest's SYN

abbrev pub their_scale : Story → Option ℕ
their_scale past = elim (their_syn past) [ None ↦ None | Some syn ↦ syn.scale ]

abbrev pub their_mss : Story → Option ℕ
their_mss past = elim (their_syn past) [ None ↦ None | Some syn ↦ syn.mss ]

-- windows are scaled where both SYNs have the option (RFC 7323, 2.2); ours has it where the guest's has, unless the settings are against it
abbrev pub is_scaled : Settings → Story → Bool
is_scaled s past = s.scales && is_some (their_scale past)

-- the most octets of a segment that goes out: what the guest's SYN says, as far as a datagram of ours may carry it
abbrev pub mss : Settings → Story → ℕ
mss s past = min (mss_of (their_mss past)) (s.mtu - 40)

-- ---- our windows

-- the least shift, at most n, by which so much room fits a field of 16 bits, 65,535 octets at most (RFC 7323, 2.2)
abbrev pub shift_within : ℕ → ℕ → ℕ
shift_within zero room = 0
shift_within (suc n) room = if nat_le room 65535 then 0 else 1 + shift_within n (room / 2)

-- 14 at most (RFC 7323, 2.3)
abbrev pub least_shift : ℕ → ℕ
least_shift room = shift_within 14 room

-- the shift of a window: 0 in a SYN, and where windows aren't scaled
abbrev pub our_shift : Settings → Story → Bool → ℕ
our_shift s past syn = if syn || not (is_scaled s past) then 0 else least_shift s.ring

-- the window's field for so much room, and how much of the room it tells
abbrev pub field : ℕ → ℕ → ℕ
field shift room = min 65535 (room / 2 ^ shift)

abbrev pub told : ℕ → ℕ → ℕ
told shift room = field shift room * 2 ^ shift

-- up to which place the guest was told last that there is room
abbrev pub right_edge : Settings → Story → Option ℕ
right_edge s [] = None
right_edge s (At m (Departs seg) ∷ past) =
    if acknowledges past seg then Some (ackd (guest (At m (Departs seg) ∷ past)) + seg.window * 2 ^ our_shift s past seg.syn) else right_edge s past
right_edge s (_ ∷ past) = right_edge s past

-- and up to which place it would be told now
abbrev pub next_edge : Settings → Story → ℕ
next_edge s past = ackd (guest past) + told (our_shift s past false) (length (written (guest past)) + s.ring - ackd (guest past))

-- ---- the guest's window (RFC 9293, 3.10.7.4: SND.WND, SND.WL1, SND.WL2)

-- up to which place the guest takes octets, and the number and the acknowledged place of the segment that said so
pub record Window : Type 0 where
  pub edge : ℕ
  pub number : ℕ
  pub place : ℕ

-- the window of a segment: the field, times 2 to the guest's shift, 14 at most, where windows are scaled and it is no SYN
abbrev pub their_shift : Settings → Story → Bool → ℕ
their_shift s past syn = if syn || not (is_scaled s past) then 0 else min 14 (unwrap_or (their_scale past) 0)

abbrev pub their_window : Settings → Story → Segment → ℕ
their_window s past seg = seg.window * 2 ^ their_shift s past seg.syn

abbrev pub is_no_older : Segment → ℕ → Option Window → Bool
is_no_older seg place None = true
is_no_older seg place (Some w) = is_ahead seg.number w.number || (nat_eq seg.number w.number && nat_le w.place place)

-- the window of a segment that acknowledges all before a place
abbrev pub window_of : Settings → Story → Segment → ℕ → Window
window_of s past seg place = record { edge = place + their_window s past seg; number = seg.number; place = place }

abbrev pub window : Settings → Story → Option Window
window s [] = None
window s (At m (Arrives seg) ∷ past) =
    if confirms past seg && is_acceptable (host past) seg.acknowledgement && is_no_older seg (acked (host (At m (Arrives seg) ∷ past))) (window s past)
    then Some (window_of s past seg (acked (host (At m (Arrives seg) ∷ past)))) else window s past
window s (_ ∷ past) = window s past

abbrev pub edge_of : Option Window → ℕ
edge_of None = 0
edge_of (Some w) = w.edge

-- up to which place octets are to go out: as far as the guest takes them, and with `congestion` at least one segment past what was acknowledged
abbrev pub edge : Settings → Story → ℕ
edge s past = if s.congestion then min (edge_of (window s past)) (acked (host past) + mss s past) else edge_of (window s past)
