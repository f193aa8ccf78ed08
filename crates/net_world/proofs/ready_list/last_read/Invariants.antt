use Rattle.std.proofs.Common.{◌≡◌, drop}
use Rattle.net_world.specs.Tables.{last_read}
use Rattle.net_world.proofs.ready_list.last_read.Given as goal

abbrev pub invariant-loop-want : goal.invariant-loop-want
invariant-loop-want l = last_read l.last (drop l.want-index l.told) ≡ last_read l.fn.last l.fn.told
