use Rattle.std.proofs.Common.{◌≤◌, length, arith, length-take, subst}
use Rattle.world_face.specs.Journal.{LinkRead, filled, count_of}
use Rattle.world_face.specs.Tells.{Answers}
use Rattle.world_face.proofs.Bytes.{length_part, fill}
use Rattle.stream_netdev.proofs.read_part.Goals as goal

pub returns-clause-read : goal.returns-clause-read
returns-clause-read g c =
    let answer = c.link_read.result in
    let into = c.link_read.new.into in
    let read = c.link_read.ensures in
    let asked = length_part c.args.buffer.now c.args.from c.args.asked c.requires.fits in
    let moved : count_of answer ≤ length into = omega (arith, length-take (count_of answer) into, read.allowed.1) in (
      filled answer into,
      subst (λ n. Answers (g.W.World.tells c.args.world.now) (g.W.World.tells c.link_read.new.self) (LinkRead n answer (filled answer into))) asked read,
      fill c.args.buffer.now into _ c.args.from (count_of answer) (omega (arith, c.requires.fits)) moved,
    )

pub returns-clause-count : goal.returns-clause-count
returns-clause-count g c =
    let answer = c.link_read.result in
    let into = c.link_read.new.into in
    let read = c.link_read.ensures in
    let asked = length_part c.args.buffer.now c.args.from c.args.asked c.requires.fits in
    omega (arith, length-take (count_of answer) into, read.allowed.1, c.link_read.auto.into, asked)
