-- Numbers that name protocols (RFC 1700).
use Rattle.std.specs.Prelude.{ℕ}

-- what a frame carries, and for which protocol a hardware address is asked
abbrev pub ipv4_kind : ℕ
ipv4_kind = 2048

abbrev pub arp_kind : ℕ
arp_kind = 2054

-- what an IPv4 datagram carries
abbrev pub icmp_proto : ℕ
icmp_proto = 1

abbrev pub tcp_proto : ℕ
tcp_proto = 6

abbrev pub udp_proto : ℕ
udp_proto = 17
