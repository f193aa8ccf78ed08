use Rattle.std.proofs.Common.{ap, sym, ◌∙◌}
use Rattle.std.specs.Result.{is_ok}
use Rattle.replay.specs.Text.{joined_text}
use Rattle.world_face.proofs.Putting.{puts_then}
use Rattle.replay.proofs.Putting.{puts_same, joined_more}
use Rattle.replay.proofs.printing.put_items.Goals as goal

pub returns : goal.returns
returns g c = puts_same _ _ _ _ _ _ _ (puts_then _ _ _ _ _ _ _ _ _ _ c.put_want.ensures (ap is_ok c.in_ok-put_want.was) c.put_more_items.ensures)
    (joined_more c.in-Some.first.now c.in-Some.rest.now ∙ ap joined_text (sym c.in-Some.ensures.some))
