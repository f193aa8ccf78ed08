-- The value of an address of version 4 that was made from one.
use Rattle.std.proofs.Common.{◌≡◌, ◌∙◌, ◌<◌, ◌^◌, ℕ, ap}
use Rattle.std.proofs.lemmas.Nat.{from_be_bytes-to_be_bytes_4}
use Rattle.std.specs.Int.{w32, from_be_bytes}
use Rattle.std.specs.Net.Addr.{IsIpv4OfBits, ipv4_bits}
use Rattle.std.specs.declared.net.ipv4_addr.Ipv4Addr.{Ipv4Addr}

pub bits_of : (a : Ipv4Addr) (bits : ℕ) → bits < 2 ^ 32 → IsIpv4OfBits a bits → ipv4_bits a ≡ bits
unfolding ipv4_bits IsIpv4OfBits
bits_of a bits below is = ap (λ octets. from_be_bytes w32 octets) is ∙ from_be_bytes-to_be_bytes_4 bits below
