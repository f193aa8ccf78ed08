use Rattle.std.proofs.Common.{refl}
use Rattle.world_face.specs.Journal.{UdpSend}
use Rattle.world_face.specs.declared.Sent.TheVariants.{Done, NotYet, Failed}
use Rattle.world_face.proofs.Telling.{makes_one}
use Rattle.dns_relay.proofs.relay.send.Goals as goal

pub returns-in-Done : goal.returns-in-Done
returns-in-Done g c = makes_one _ _ (UdpSend c.args.socket c.args.asked.now.to c.args.asked.now.body.now Done) _ c.in-Done.ensures (λ allowed. (Done, refl, refl))

pub returns-in-NotYet : goal.returns-in-NotYet
returns-in-NotYet g c = makes_one _ _ (UdpSend c.args.socket c.args.asked.now.to c.args.asked.now.body.now NotYet) _ c.in-NotYet.ensures (λ allowed. (NotYet, refl, refl))

pub returns-in-Failed : goal.returns-in-Failed
returns-in-Failed g c = makes_one _ _ (UdpSend c.args.socket c.args.asked.now.to c.args.asked.now.body.now Failed) _ c.in-Failed.ensures (λ allowed. (Failed, refl, refl))
