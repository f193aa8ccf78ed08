use Rattle.replay.proofs.Putting.{puts_same}
use Rattle.replay.proofs.Scheduling.{used_text}
use Rattle.replay.proofs.world.ScriptWorld.print.Goals as goal

pub returns : goal.returns
returns g c = puts_same _ _ _ _ _ _ _ c.put_rows.ensures (used_text c.args.self.now.used c.args.self.now.lines _ c.used_rows.ensures)
