-- The windows of the two sides (RFC 9293, 3.8.6; RFC 7323, 2).
use Rattle.std.specs.Prelude.{ℕ, zero, suc, ◌+◌, ◌-◌, ◌*◌, ◌/◌, ◌^◌, min, Bool, false, not, ◌&&◌, nat_le, is_some, Option, None, Some, unwrap_or, if◌then◌else◌}
use Rattle.sock_buffers.specs.Upward.{Upward, room_of}
use Rattle.tcp_receive.specs.Received.{places_taken}
use Rattle.tcp_segment.specs.Tcp.{Tcp}
use Rattle.tcp_connection.specs.Connection.{Connection}

-- the least shift, at most so many, by which so much room fits a field of 16 bits
abbrev pub shift_within : ℕ → ℕ → ℕ
shift_within zero room = 0
shift_within (suc n) room = if nat_le room 65535 then 0 else 1 + shift_within n (room / 2)

-- the shift that our SYN offers
abbrev pub least_shift : ℕ → ℕ
least_shift ring = shift_within 14 ring

-- windows are scaled where both SYNs have the option (RFC 7323, 2.2); ours has it wherever the guest's does
abbrev pub our_shift : Connection → ℕ
our_shift c = if is_some c.scale then least_shift c.ring else 0

-- the window field for so much room
abbrev pub field : (shift room : ℕ) → ℕ
field shift room = min 65535 (room / 2 ^ shift)

-- up to which place a segment with such a field tells that there is room
abbrev pub told_edge : Connection → Upward → (shift : ℕ) → ℕ
told_edge c up shift = places_taken c.received + field shift (room_of up) * 2 ^ shift

-- a window update is owed where the right edge can move by two segments of a link at least (RFC 9293, 3.8.6.2.2)
abbrev pub moves_far : Option ℕ → ℕ → Bool
moves_far None edge = false
moves_far (Some told) edge = nat_le 2920 (edge - told)

abbrev pub is_update_owed : Connection → Upward → Bool
is_update_owed c up = not c.received.ended && moves_far c.told (told_edge c up (our_shift c))

-- the guest's window by a segment without SYN
abbrev pub window_in : Connection → Tcp → ℕ
window_in c seg = seg.window * 2 ^ unwrap_or c.scale 0
