-- The greatest packets.
use Rattle.std.specs.Prelude.{ℕ}

-- a frame that we send: 14 octets before a packet of 1,500 (RFC 894)
abbrev pub most_frame : ℕ
most_frame = 1514

-- what a datagram of IPv4 with a header of 20 octets carries (RFC 791, 3.1)
abbrev pub most_carried : ℕ
most_carried = 65515
