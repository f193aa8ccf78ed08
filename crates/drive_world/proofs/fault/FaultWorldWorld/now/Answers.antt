use Rattle.drive_world.proofs.Faulting.{passes_on}
use Rattle.drive_world.proofs.fault.FaultWorldWorld.now.Goals as goal

pub returns-clause-passes : goal.returns-clause-passes
returns-clause-passes g c = passes_on _ _ _ _ c.self.view_is _ _ _ c.now.ensures c.count-due.ensures.counted
