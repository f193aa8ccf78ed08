use Rattle.std.proofs.Common.{map, string_bytes, ap}
use Rattle.std.specs.Result.{is_ok}
use Rattle.world_face.proofs.Putting.{puts_then}
use Rattle.replay.proofs.Putting.{puts_same}
use Rattle.app_edges.proofs.Told.{mistake_told}
use Rattle.app_edges.proofs.status.tell_usage.Goals as goal

pub returns : goal.returns
returns g c =
    puts_same _ _ _ _ _ _ _ (puts_then _ _ _ _ _ _ _ _ _ _ c.tell_mistake.ensures (ap is_ok c.in_ok-tell_mistake.was) c.put.ensures)
    (mistake_told (map string_bytes c.args.words.now) c.args.stop)
