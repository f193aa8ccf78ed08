use Rattle.replay.proofs.Putting.{puts_same}
use Rattle.app_edges.proofs.help.put_help.Goals as goal

pub returns : goal.returns
returns g c = puts_same _ _ _ _ _ _ _ c.put.ensures c.as_bytes.ensures.value
