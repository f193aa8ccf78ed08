-- Counts of faults over some calls.
use Rattle.std.proofs.Common.{List, arith}
use Rattle.world_face.specs.Journal.{Entry}
use Rattle.world_face.specs.Tells.{Counts, Counted}
use Rattle.slirp_core.specs.Counts.{AreGrown}

pub grown : (old new : Counts) (made : List Entry) → Counted old new made → AreGrown old new
grown old new made counted = (omega (arith, counted.link), omega (arith, counted.wait), omega (arith, counted.socket))
