use Rattle.std.proofs.Common.{◌+◌, length, take, ap, ◌∙◌, arith}
use Rattle.std.proofs.lemmas.List.{length-take}
use Rattle.ipv4_head.specs.Ip.{ip_of}
use Rattle.slirp_core.proofs.Datagramming.{lies_within, quotes}
use Rattle.slirp_core.proofs.datagrams.quote.Goals as goal

pub slice_bounds-result-end : goal.slice_bounds-result-end
slice_bounds-result-end c =
    let octets = c.args.octets.now in
    let packet = c.args.packet.now in
    omega (arith, lies_within octets packet.head.now packet.body.now c.requires, length-take (length packet.head.now + c.min.result) octets)

pub returns-clause-quoted : goal.returns-clause-quoted
returns-clause-quoted c =
    ap (λ n. take (length c.args.packet.now.head.now + n) c.args.octets.now) c.min.ensures ∙ quotes c.args.octets.now (ip_of c.args.packet.now) c.requires

pub returns-clause-few : goal.returns-clause-few
returns-clause-few c = omega (arith, c.requires.few, length-take (length c.args.packet.now.head.now + c.min.result) c.args.octets.now)
