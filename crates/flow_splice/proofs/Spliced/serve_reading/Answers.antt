use Rattle.std.proofs.Common.{refl, sym, ◌∙◌}
use Rattle.flow_splice.proofs.Events.{goes_none}
use Rattle.flow_splice.proofs.Hosting.{full_unread, shut_unread}
use Rattle.flow_splice.proofs.Shaping.{unless_idle}
use Rattle.world_face.proofs.Telling.{makes_as, makes_none}
use Rattle.flow_splice.proofs.Spliced.serve_reading.Goals.{else-ready-via-then-ready+then-is_open+else-may_read, else-ready-via-then-ready+else-is_open, else-ready-via-else-ready}
use Rattle.flow_splice.proofs.Spliced.serve_reading.Goals as goal

pub returns-then-may_read-clause-makes : goal.returns-then-may_read-clause-makes
returns-then-may_read-clause-makes g c = makes_as _ _ _ _ c.read.ensures.makes (λ made goes. (goes.0, goes.1, unless_idle c.args.ready made c.if-ready.true, λ ready waits. goes.2))

pub returns-else-ready-clause-makes : goal.returns-else-ready-clause-makes
returns-else-ready-clause-makes g c =
    makes_none _ _ (
      goes_none c.args.self.now _ c.args.now,
      refl,
      λ none. refl,
      λ ready waits.
          elim c.else-ready.branch [
            | else-ready-via-then-ready+then-is_open+else-may_read w ↦ absurd (full_unread c.args.self.now (sym w.may_read.ensures ∙ w.if-may_read.false) waits)
            | else-ready-via-then-ready+else-is_open w ↦ absurd (shut_unread c.args.self.now (sym w.is_open.ensures ∙ w.if-is_open.false) waits)
            | else-ready-via-else-ready w ↦ let not_it = sym ready ∙ w.if-ready.false in cc
          ],
    )
