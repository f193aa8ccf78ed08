use Rattle.std.proofs.Common.{ap, length}
use Rattle.world_face.specs.Journal.{TcpRead}
use Rattle.taps.proofs.Passing.{passed_as}
use Rattle.taps.proofs.tap.TapWorld.tcp_read.Goals as goal

pub invariant_of-self : goal.invariant_of-self
invariant_of-self g c =
    passed_as c.self.invariant c.tcp_read-answer.ensures c.note.ensures.made
    (ap (λ octets. TcpRead c.args.c (length c.args.into.now) c.tcp_read-answer.result octets) c.octets_read-octets.ensures)
