use Rattle.drive_world.proofs.Faulting.{passes_on}
use Rattle.drive_world.proofs.fault.FaultWorldWorld.close.Goals as goal

pub returns-clause-passes : goal.returns-clause-passes
returns-clause-passes g c = passes_on _ _ _ _ c.self.view_is _ _ _ c.close.ensures c.count-due.ensures.counted
