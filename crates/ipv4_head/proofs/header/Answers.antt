use Rattle.std.proofs.Common.{ℕ, List, ap, ◌∙◌}
use Rattle.net_octets.specs.Octets.{word_sum, checksum}
use Rattle.ipv4_head.specs.Ip.{fragment_of, head_with}
use Rattle.ipv4_head.proofs.header.Goals as goal

pub returns-clause-octets : goal.returns-clause-octets
returns-clause-octets c =
    let v = c.args.v.now in
    c.head-2.ensures.octets
    ∙ ap (λ (sum : ℕ). head_with v.ttl sum v.ident (fragment_of v.more v.offset) v.proto v.from.0 v.to.0 c.args.size)
    (c.checksum-sum.ensures ∙ ap (λ (o : List ℕ). checksum (word_sum o)) c.head.ensures.octets)
