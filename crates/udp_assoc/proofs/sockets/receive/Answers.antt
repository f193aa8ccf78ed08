use Rattle.std.proofs.Common.{length, refl}
use Rattle.world_face.specs.Journal.{UdpRecv, filled_got}
use Rattle.world_face.specs.declared.Got.TheVariants.{From, NotYet, Failed}
use Rattle.world_face.proofs.Telling.{makes_one}
use Rattle.udp_assoc.proofs.sockets.receive.Goals as goal

pub returns-in-From-clause-receives : goal.returns-in-From-clause-receives
returns-in-From-clause-receives g c =
    let answer = From c.in-From.peer c.in-From.length in
    makes_one _ _ (UdpRecv c.args.socket (length c.args.into.now) answer (filled_got answer c.udp_recv.new.into)) _ c.in-From.ensures (λ allowed. (answer, refl, refl))

pub returns-in-NotYet-clause-receives : goal.returns-in-NotYet-clause-receives
returns-in-NotYet-clause-receives g c =
    makes_one _ _ (UdpRecv c.args.socket (length c.args.into.now) NotYet (filled_got NotYet c.udp_recv.new.into)) _ c.in-NotYet.ensures (λ allowed. (NotYet, refl, refl))

pub returns-in-Failed-clause-receives : goal.returns-in-Failed-clause-receives
returns-in-Failed-clause-receives g c =
    makes_one _ _ (UdpRecv c.args.socket (length c.args.into.now) Failed (filled_got Failed c.udp_recv.new.into)) _ c.in-Failed.ensures (λ allowed. (Failed, refl, refl))
