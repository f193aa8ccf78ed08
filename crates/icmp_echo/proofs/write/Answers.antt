use Rattle.std.proofs.Common.{◌≡◌, ◌+◌, length, drop, ap, sym, arith}
use Rattle.net_octets.specs.Octets.{word_sum, checksum}
use Rattle.icmp_echo.specs.Icmp.{icmp_of, icmp_with, icmp_octets}
use Rattle.icmp_echo.proofs.Plain.{encoded, front_is}
use Rattle.icmp_echo.proofs.write.Goals as goal

pub returns-clause-written : goal.returns-clause-written
returns-clause-written c =
    encoded c.parts_of-parts.result (icmp_of c.args.v.now) _ _ _ _ (drop c.write_packet.result c.args.into.now) c.parts_of-parts.ensures.octets c.words_of.ensures.sum
    c.checksum_after-sum.ensures c.head.ensures c.write_packet.ensures.written

pub returns-clause-length : goal.returns-clause-length
returns-clause-length c =
    let parts = c.parts_of-parts.result in
    let icmp = icmp_of c.args.v.now in
    let eight : length c.head.result ≡ 8 = ap length c.head.ensures in
    let all : length parts.body.now + 8 ≡ length (icmp_octets icmp) = omega (arith, ap length (c.parts_of-parts.ensures.octets (checksum (word_sum (icmp_with 0 icmp))))) in
    omega arith

pub returns-clause-packet : goal.returns-clause-packet
returns-clause-packet c =
    front_is (icmp_of c.args.v.now) c.write_packet.result c.write_packet.new.into (drop c.write_packet.result c.args.into.now) c.requires.kind c.parts_of-parts.ensures.fits
    (sym (returns-clause-length c)) (returns-clause-written c)
