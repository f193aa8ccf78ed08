use Rattle.std.proofs.Common.{ap}
use Rattle.std.specs.Result.{is_ok}
use Rattle.world_face.proofs.Putting.{puts_then}
use Rattle.replay.proofs.Putting.{puts_same, digits_append}
use Rattle.replay.proofs.printing.put_place.Goals as goal

pub returns : goal.returns
returns g c = puts_same _ _ _ _ _ _ _ (puts_then _ _ _ _ _ _ _ _ _ _ c.put_digits.ensures (ap is_ok c.in_ok-put_digits.was) c.put_digits-2.ensures) (digits_append c.args.kind.now c.args.place.now)
