use Rattle.std.proofs.Common.{◌≡◌, ◌-◌, take, drop, refl, sym, ap, ◌∙◌, arith}
use Rattle.net_octets.specs.Octets.{two_at, four_at}
use Rattle.ipv4_head.specs.Ip.{head_length}
use Rattle.ipv4_head.proofs.Passing.{no_fault, read_by}
use Rattle.ipv4_head.proofs.Encoding.{encoding_of}
use Rattle.ipv4_head.proofs.decode.Goals as goal

pub returns-clause-fields : goal.returns-clause-fields
returns-clause-fields c =
    let octets = c.args.octets.now in
    let passed = no_fault octets (sym c.in_ok-check.ensures) in
    let head : c.octets_of_head-head.result ≡ head_length octets = c.octets_of_head-head.ensures.length in
    let long = passed.long in
    let total : c.read_u16-total.result ≡ two_at octets 2 = omega arith in
    let ident : c.read_u16.result ≡ two_at octets 4 = omega arith in
    let fragment : c.read_u16-fragment.result ≡ two_at octets 6 = omega arith in
    let from : c.read_u32.result ≡ four_at octets 12 = omega arith in
    let to : c.read_u32-2.result ≡ four_at octets 16 = omega arith in
    read_by octets passed _ c.read_u16-fragment.result _ _ _ _ _ ident fragment refl from to (ap (λ n. take n octets) head)
    (ap (λ n. take (c.read_u16-total.result - n) (drop n octets)) head ∙ ap (λ n. take (n - head_length octets) (drop (head_length octets) octets)) total)

pub returns-clause-packet : goal.returns-clause-packet
returns-clause-packet c =
    encoding_of c.args.octets.now _ (λ i. omega (arith, c.type_inv.octets i)) (returns-clause-fields c)
