use Rattle.std.proofs.Common.{◌≡◌, [], refl, rules, arith}
use Rattle.sock_buffers.specs.Downward.{downward}
use Rattle.sock_buffers.specs.Upward.{empty}
use Rattle.flow_splice.proofs.Spliced.open.Goals as goal

pub invariant_of-result : goal.invariant_of-result
invariant_of-result c =
    let up_is : c.in-Ok-Ok.up ≡ empty c.args.ring = search rules in
    let down_is : c.in-Ok-Ok.down ≡ downward [] 0 c.args.ring = search rules in
    let few = c.requires.few in
    let least = c.requires.least in (
      rw (up_is, down_is) (record { buffers = c.to_guest.ensures.buffers c.args.ring; size = refl; room = omega (arith, few); few = omega arith; segments = omega (arith, least) }),
      omega arith,
      refl,
    )
