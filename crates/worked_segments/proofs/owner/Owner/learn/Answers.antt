use Rattle.worked_segments.proofs.owner.Owner.learn.Goals as goal

pub invariant_of-self : goal.invariant_of-self
invariant_of-self c = (c.on_host-change.ensures.buffers c.self.inside.up c.self.inside.down c.self.invariant.0, c.self.invariant.1)
