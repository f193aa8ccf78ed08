use Rattle.std.specs.Io.KnownBytes.{Keeps}
use Rattle.host_io.proofs.again.read.Given as goal

abbrev pub invariant-tries : goal.invariant-tries
invariant-tries g l = Keeps (g.T.Read.remaining l.initial.source) (g.T.Read.remaining l.source)
