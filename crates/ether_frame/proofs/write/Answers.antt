use Rattle.std.proofs.Common.{rules, ◌≡◌, ◌+◌, ◌-◌, ◌^◌, ◌<◌, ◌++◌, length, drop, ap, refl, arith, length-append, lit≤, ◌∙◌}
use Rattle.net_octets.specs.Octets.{two}
use Rattle.net_octets.proofs.Writing.{written, written_front}
use Rattle.ether_frame.proofs.Encoding.{written_is}
use Rattle.ether_frame.proofs.write.Goals as goal

pub returns-clause-written : goal.returns-clause-written
returns-clause-written c =
    let v = c.args.v.now in
    let into = c.args.into.now in
    let six : length v.to.0 ≡ 6 = omega arith in
    let six' : length v.from.0 ≡ 6 = search rules in
    let to = ap (λ xs. xs ++ drop 6 into) c.copy_from_slice.ensures.after in
    let from = written v.to.0 v.from.0 into _ _ 6 6 12 to c.copy_from_slice-2.ensures.after six refl in
    let kind = written_front (v.to.0 ++ v.from.0) (two v.kind) into _ _ 12 2 14 2 from c.write_u16.ensures (length-append v.to.0 v.from.0 ∙ omega (arith, six, six')) refl (lit≤ tt) in
    written (v.to.0 ++ v.from.0 ++ two v.kind) v.body.now into _ _ 14 (14 + length v.body.now - 14) (14 + length v.body.now) kind c.copy_from_slice-3.ensures.after
    (length-append (v.to.0 ++ v.from.0) (two v.kind) ∙ omega (arith, length-append v.to.0 v.from.0, six, six')) (omega arith)

pub returns-clause-packet : goal.returns-clause-packet
returns-clause-packet c =
    let v = c.args.v.now in
    let six : length v.to.0 ≡ 6 = omega arith in
    let six' : length v.from.0 ≡ 6 = omega arith in
    let kind : v.kind < 2 ^ 16 = omega arith in
    written_is v.to.0 v.from.0 v.kind v.body.now _ c.args.into.now six six' kind (returns-clause-written c)
