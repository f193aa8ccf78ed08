use Rattle.std.proofs.Common.{refl}
use Rattle.flow_splice.proofs.Calls.{reads_on_yet}
use Rattle.flow_splice.proofs.Events.{goes_none}
use Rattle.world_face.proofs.Telling.{makes_none}
use Rattle.flow_splice.proofs.Spliced.end_after_octets.Goals as goal

pub returns-else-not-owes_octets-clause-makes : goal.returns-else-not-owes_octets-clause-makes
returns-else-not-owes_octets-clause-makes g c = makes_none _ _ (goes_none c.args.self.now _ c.args.now, refl, reads_on_yet c.args.self.now)
