use Rattle.std.proofs.Common.{ap, length}
use Rattle.world_face.specs.Journal.{UdpRecv}
use Rattle.taps.proofs.Passing.{passed_as}
use Rattle.taps.proofs.tap.TapWorld.udp_recv.Goals as goal

pub invariant_of-self : goal.invariant_of-self
invariant_of-self g c =
    passed_as c.self.invariant c.udp_recv-answer.ensures c.note.ensures.made
    (ap (λ octets. UdpRecv c.args.s (length c.args.into.now) c.udp_recv-answer.result octets) c.octets_got-octets.ensures)
