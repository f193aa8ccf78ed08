use Rattle.std.proofs.Common.{◌≡◌, ◌+◌, ◌*◌, ◌≤◌, length}
use Rattle.net_octets.specs.Quads.{quad_sum}
use Rattle.net_octets.proofs.sum_of_blocks.Given as goal

abbrev pub invariant-loop-rest : goal.invariant-loop-rest
invariant-loop-rest l = record {
  sums : l.sum + quad_sum l.rest ≡ quad_sum l.fn.octets;
  small : l.sum + 1099511627776 * length l.rest ≤ 1099511627776 * length l.fn.octets;
}

abbrev pub decreases-loop-rest : goal.decreases-loop-rest
decreases-loop-rest l = length l.rest
