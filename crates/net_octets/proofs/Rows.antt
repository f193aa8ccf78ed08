-- Octets from outside, with the sums that they have.
use Rattle.std.proofs.Common.{◌≡◌, true, [], ◌∷◌, refl}
use Rattle.net_octets.specs.Octets.{word_sum, checksum, sum_ok}

-- the example of RFC 1071, 3
example_is_summed : checksum (word_sum (0x00 ∷ 0x01 ∷ 0xf2 ∷ 0x03 ∷ 0xf4 ∷ 0xf5 ∷ 0xf6 ∷ 0xf7 ∷ [])) ≡ 0x220d
example_is_summed = refl

-- the header of a datagram of UDP from 10.0.2.15 to 192.0.2.7
header_holds : sum_ok
    (word_sum (0x45 ∷ 0x00 ∷ 0x00 ∷ 0x1e ∷ 0x00 ∷ 0x01 ∷ 0x00 ∷ 0x00 ∷ 0x40 ∷ 0x11 ∷ 0xac ∷ 0xb8 ∷ 0x0a ∷ 0x00 ∷ 0x02 ∷ 0x0f ∷ 0xc0 ∷ 0x00 ∷ 0x02 ∷ 0x07 ∷ []))
    ≡ true
header_holds = refl
