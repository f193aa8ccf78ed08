use Rattle.std.proofs.Common.{take}
use Rattle.idle_sockets.specs.Rows.{AreSince}
use Rattle.idle_sockets.proofs.sockets.first_use.Given as goal

abbrev pub invariant-loop-place : goal.invariant-loop-place
invariant-loop-place l = AreSince l.first (take l.place l.rows)
