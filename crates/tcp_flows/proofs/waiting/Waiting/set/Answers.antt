use Rattle.std.proofs.Common.{arith}
use Rattle.std.proofs.lemmas.List.{length-set}
use Rattle.tcp_flows.proofs.waiting.Waiting.set.Goals as goal

pub invariant_of-self : goal.invariant_of-self
invariant_of-self c = (let long = length-set c.self.inside.each.items c.args.slot c.args.waits in omega (arith, long, c.list.ensures.capacity, c.self.invariant.0), c.list.ensures.counted)
