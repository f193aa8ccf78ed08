use Rattle.std.proofs.Common.{rules, ◌≤◌, length, arith, length-take}
use Rattle.world_face.specs.Journal.{filled, count_of}
use Rattle.world_face.proofs.Bytes.{fill}
use Rattle.control.proofs.line.read_part.Goals as goal

pub returns-clause-read : goal.returns-clause-read
returns-clause-read g c =
    let answer = c.tcp_read.result in
    let into = c.tcp_read.new.into in
    let read = c.tcp_read.ensures in
    let moved : count_of answer ≤ length into = omega (arith, length-take (count_of answer) into, read.allowed.1) in (
      filled answer into,
      search rules,
      fill c.args.buffer.now into _ c.args.from (count_of answer) (omega (arith, c.requires)) moved,
    )
