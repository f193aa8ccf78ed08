use Rattle.worked_segments.proofs.owner.Owner.wait.Goals as goal

pub invariant_of-self-2 : goal.invariant_of-self-2
invariant_of-self-2 c = (c.tick-change.ensures.buffers c.self-2.inside.up c.self-2.inside.down c.self-2.invariant.0, c.self-2.invariant.1)
