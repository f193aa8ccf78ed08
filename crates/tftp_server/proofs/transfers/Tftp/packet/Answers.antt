-- What holds of the transfers then.
use Rattle.std.proofs.Common.{subst, arith}
use Rattle.std.specs.Option.{option_map}
use Rattle.rules_tftp.specs.Soundness.{AreSound}
use Rattle.tftp_server.specs.Serving.{Serving}
use Rattle.tftp_server.proofs.Waiting.{rows_sound}
use Rattle.tftp_server.proofs.transfers.Tftp.packet.Goals as goal

pub returns-clause-sound : goal.returns-clause-sound
returns-clause-sound g c =
    let folder = option_map (λ f. f.bytes) c.self.inside.folder in
    subst (λ (s : Serving). AreSound s.transfers) c.self.view_is (rows_sound folder c.self.inside.rows.items (omega (arith, c.self.invariant.0, c.self.inside.rows.ok.0)) c.self.invariant.2)
