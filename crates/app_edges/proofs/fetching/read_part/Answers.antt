use Rattle.std.proofs.Common.{◌≤◌, length, arith, length-take, subst}
use Rattle.world_face.specs.Journal.{FileRead, filled, count_of}
use Rattle.world_face.specs.Tells.{Answers}
use Rattle.world_face.proofs.Bytes.{length_part, fill}
use Rattle.app_edges.proofs.fetching.read_part.Goals as goal

pub returns-clause-read : goal.returns-clause-read
returns-clause-read g c =
    let answer = c.file_read.result in
    let into = c.file_read.new.into in
    let read = c.file_read.ensures in
    let asked = length_part c.args.octets.now c.args.from c.args.asked c.requires.within in
    let moved : count_of answer ≤ length into = omega (arith, length-take (count_of answer) into, read.allowed.1.0) in (
      filled answer into,
      subst (λ n. Answers (g.W.World.tells c.args.world.now) (g.W.World.tells c.file_read.new.self) (FileRead c.args.name.now c.args.from n answer (filled answer into))) asked read,
      fill c.args.octets.now into _ c.args.from (count_of answer) (omega (arith, c.requires.within)) moved,
    )
