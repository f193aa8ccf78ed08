use Rattle.std.proofs.Common.{◌≡◌, ◌+◌, ◌*◌, ◌≤◌, length}
use Rattle.net_octets.specs.Octets.{word_sum}
use Rattle.net_octets.proofs.sum_of_words.Given as goal

abbrev pub invariant-loop-rest : goal.invariant-loop-rest
invariant-loop-rest l = record {
  sums : l.sum + word_sum l.rest ≡ word_sum l.fn.octets;
  small : l.sum + 65536 * length l.rest ≤ 65536 * length l.fn.octets;
}

abbrev pub decreases-loop-rest : goal.decreases-loop-rest
decreases-loop-rest l = length l.rest
