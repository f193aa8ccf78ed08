use Rattle.std.proofs.Common.{◌≡◌, ◌+◌, ◌++◌, ℕ, List, length, take, drop, ap, sym, subst, ◌∙◌}
use Rattle.ipv4_head.specs.Ip.{IsDatagram, sent}
use Rattle.ipv4_head.proofs.Plain.{written_is}
use Rattle.ipv4_head.proofs.write.Goals as goal

pub returns-clause-packet : goal.returns-clause-packet
returns-clause-packet c =
    let v = c.args.v.now in
    let now = c.write_packet.new.into in
    let body = v.body.now in
    let head = c.header.result in
    let behind = drop c.write_packet.result c.args.into.now in
    let size : length head + length body ≡ 20 + length body = ap (λ (h : List ℕ). length h + length body) c.header.ensures.octets in
    subst (λ (k : ℕ). IsDatagram (take k now) v.ttl (sent v)) (sym (c.write_packet.ensures.length ∙ size))
    (written_is v.ttl v.ident v.offset v.proto v.from.0 v.to.0 v.more body now behind c.header.ensures.ident c.requires.place c.header.ensures.from c.header.ensures.to c.requires.size
    (c.write_packet.ensures.written ∙ ap (λ (h : List ℕ). h ++ body ++ behind) c.header.ensures.octets))
