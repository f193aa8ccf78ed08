use Rattle.std.proofs.Common.{◌≡◌, ◌+◌, take, drop, ap, arith}
use Rattle.net_octets.specs.Quads.{quad_sum}
use Rattle.net_octets.proofs.Blocks.{quad_sum-parts}
use Rattle.net_octets.proofs.sum_of_blocks.Goals as goal

pub loop-rest-preserved : goal.loop-rest-preserved
loop-rest-preserved c =
    let rest = c.loop-rest.rest.now in
    let front : quad_sum c.split_at.result.0.now ≡ quad_sum (take 128 rest) = ap quad_sum c.split_at.ensures.front in
    let back : quad_sum c.split_at.result.1.now ≡ quad_sum (drop 128 rest) = ap quad_sum c.split_at.ensures.back in
    let parts : quad_sum (take 128 rest) + quad_sum (drop 128 rest) ≡ quad_sum rest = quad_sum-parts 32 rest in
    record {
      sums = omega (arith, c.loop-rest.invariant.sums, c.sum_of_quads-sum.ensures.sum, front, back, parts);
      small = omega (arith, c.loop-rest.invariant.small, c.sum_of_quads-sum.ensures.small, c.split_at.ensures.front_len, c.split_at.ensures.back_len, c.loop-rest-test.true);
    }
