-- One option more.
use Rattle.std.proofs.Common.{arith}
use Rattle.tftp_server.specs.declared.options.Known.TheVariants.{BlockSize}
use Rattle.tftp_server.specs.declared.options.Answer.{Answer}
use Rattle.tftp_server.proofs.Writing.{all_written, one_more}
use Rattle.tftp_server.proofs.written.options_packet.Goals as goal

pub loop-answer-preserved : goal.loop-answer-preserved
loop-answer-preserved c =
    let d : Answer = record { option = BlockSize; number = 0 } in (
      one_more c.answered-answer-items.result.now c.loop-answer.answer-index d c.loop-answer.packet.items c.put_answer.new.packet.items c.loop-answer-test.true
          c.loop-answer.invariant.0 c.put_answer.ensures.octets,
      omega (arith, c.put_answer.ensures.few),
    )

pub returns : goal.returns
returns c =
    all_written c.answered-answer-items.result.now c.loop-answer.answer-index c.loop-answer.packet.items c.args.agreed.now c.loop-answer-test.false c.loop-answer.invariant.0
    c.answered-answer-items.ensures.answered
