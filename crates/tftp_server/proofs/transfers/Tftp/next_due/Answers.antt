-- The rows are the transfers.
use Rattle.std.proofs.Common.{List, subst, arith}
use Rattle.std.specs.Option.{option_map}
use Rattle.tftp_server.specs.Serving.{IsNextDue, Serving}
use Rattle.tftp_server.specs.Rows.{transfers_of}
use Rattle.rules_tftp.specs.Soundness.{AreSound}
use Rattle.tftp_server.specs.declared.row.Row.{Row}
use Rattle.tftp_server.proofs.Waiting.{rows_sound}
use Rattle.tftp_server.proofs.transfers.Tftp.next_due.Goals as goal

pub returns-clause-next : goal.returns-clause-next
returns-clause-next c =
    let folder = option_map (λ f. f.bytes) c.self.inside.folder in
    subst (λ (s : Serving). IsNextDue c.args.now s.transfers c.next_due.result) c.self.view_is
    (subst (λ (rows : List Row). IsNextDue c.args.now (transfers_of folder rows) c.next_due.result) c.as_slice.ensures.value (c.next_due.ensures folder))

pub returns-clause-sound : goal.returns-clause-sound
returns-clause-sound c =
    let folder = option_map (λ f. f.bytes) c.self.inside.folder in
    subst (λ (s : Serving). AreSound s.transfers) c.self.view_is (rows_sound folder c.self.inside.rows.items (omega (arith, c.self.invariant.0, c.self.inside.rows.ok.0)) c.self.invariant.2)
