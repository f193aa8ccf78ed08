use Rattle.std.proofs.Common.{◌≡◌, ◌+◌, ◌++◌, drop, length}
use Rattle.slirp_core.specs.Pumps.{merged}
use Rattle.slirp_core.proofs.wants.merge.Given as goal

abbrev pub invariant-loop-number : goal.invariant-loop-number
invariant-loop-number g l = record {
  items : l.row.items ++ merged (drop l.number-index l.some) l.left ≡ l.fn.row.items ++ merged l.some l.fn.others;
  room : length l.row.items + length l.left ≡ length l.fn.row.items + l.number-index + length l.fn.others;
}
