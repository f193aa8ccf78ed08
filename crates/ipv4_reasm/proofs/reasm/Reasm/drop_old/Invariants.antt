use Rattle.std.proofs.Common.{◌-◌, length}
use Rattle.ipv4_reasm.specs.Areas.{is_recent}
use Rattle.ipv4_reasm.proofs.Lists.{IsDropped}
use Rattle.ipv4_reasm.proofs.reasm.Reasm.drop_old.Given as goal

-- those before this place stay, and of the others those that are recent
abbrev pub invariant-loop-i : goal.invariant-loop-i
invariant-loop-i l = IsDropped (is_recent l.now) l.fn.self l.self l.i

abbrev pub decreases-loop-i : goal.decreases-loop-i
decreases-loop-i l = length l.self - l.i
