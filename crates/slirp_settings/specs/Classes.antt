-- Which addresses are of one kind: loopback, of groups, reserved.
use Rattle.std.specs.Prelude.{ℕ, ◌/◌, ◌^◌, ◌==◌, ◌&&◌, ◌||◌, Bool}
use Rattle.net_octets.specs.declared.Endpoint.{Endpoint}
use Rattle.slirp_settings.specs.Addresses.{address}

abbrev pub same_endpoint : Endpoint → Endpoint → Bool
same_endpoint a b = (address a == address b) && (a.port == b.port)

-- the first octet of an address (RFC 791, 3.2)
abbrev pub first_octet : ℕ → ℕ
first_octet a = a / 2 ^ 24

-- 127/8 (RFC 1122, 3.2.1.3)
abbrev pub is_loopback : ℕ → Bool
is_loopback a = first_octet a == 127

-- 224/4, addresses of groups (RFC 1112, 4), and 240/4, reserved
abbrev pub is_group_or_reserved : ℕ → Bool
is_group_or_reserved a = (a / 2 ^ 28 == 14) || (a / 2 ^ 28 == 15)
