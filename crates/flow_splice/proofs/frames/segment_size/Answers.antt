use Rattle.std.proofs.Common.{arith}
use Rattle.flow_splice.proofs.frames.segment_size.Goals as goal

pub overflow_add-result : goal.overflow_add-result
overflow_add-result c =
    let few = c.payload.ensures.few c.requires.0 c.requires.1 in
    let head = c.head_size.ensures.few in
    omega (arith, few, head)
