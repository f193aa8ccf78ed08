use Rattle.drive_world.specs.Runs.{CountsDown}
use Rattle.drive_world.proofs.world.Outside.take_late.Given as goal

abbrev pub invariant-loop : goal.invariant-loop
invariant-loop l = CountsDown l.fn.run l.run
