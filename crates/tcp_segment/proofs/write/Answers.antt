-- What is written is in the grammar.
use Rattle.std.proofs.Common.{drop}
use Rattle.tcp_segment.specs.Tcp.{tcp_of}
use Rattle.tcp_segment.proofs.Writing.{written_is}
use Rattle.tcp_segment.proofs.write.Goals as goal

pub returns-clause-packet : goal.returns-clause-packet
returns-clause-packet c =
    written_is c.args.from.0 c.args.to.0 (tcp_of c.args.v.now) c.length_of-length.result c.fill.new.segment (drop c.length_of-length.result c.args.into.now)
    c.fill.ensures.fits c.fill.ensures.mss c.fill.ensures.written c.length_of-length.ensures
