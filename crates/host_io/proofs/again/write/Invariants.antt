use Rattle.std.specs.Io.KnownBytes.{Keeps}
use Rattle.host_io.proofs.again.write.Given as goal

abbrev pub invariant-tries : goal.invariant-tries
invariant-tries g l = Keeps (g.T.Write.contents l.initial.sink) (g.T.Write.contents l.sink)
