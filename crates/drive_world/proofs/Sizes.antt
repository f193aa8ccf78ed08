-- How long a segment is that is written.
use Rattle.std.proofs.Common.{◌≡◌, ℕ, ◌≤◌, ◌<◌, ◌^◌, length, Option, Some, None, refl, arith}
use Rattle.tcp_segment.specs.Tcp.{Tcp, mss_octets, scale_octets, tcp_length}

most_mss : (mss : Option ℕ) → length (mss_octets mss) ≤ 4
most_mss None = omega arith
most_mss (Some mss) = let four : length (mss_octets (Some mss)) ≡ 4 = refl in omega (arith, four)

most_scale : (scale : Option ℕ) → length (scale_octets scale) ≤ 4
most_scale None = omega arith
most_scale (Some scale) = let four : length (scale_octets (Some scale)) ≡ 4 = refl in omega (arith, four)

-- the options have 8 octets at most
pub is_small : (tcp : Tcp) → length tcp.body ≤ 1000 → tcp_length tcp < 2 ^ 16
is_small tcp few = omega (arith, few, most_mss tcp.mss, most_scale tcp.scale)
