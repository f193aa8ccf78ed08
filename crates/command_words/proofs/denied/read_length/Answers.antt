use Rattle.std.proofs.Common.{arith}
use Rattle.address_text.proofs.Numbers.{number_over}
use Rattle.command_words.proofs.denied.read_length.Goals as goal

pub returns-then-length-gt32-clause-refused : goal.returns-then-length-gt32-clause-refused
returns-then-length-gt32-clause-refused c = λ n few is. number_over c.in_ok-length.length 32 c.args.text.now c.in_ok-length.ensures.number.1 c.in_ok-length.ensures.number.0
    (omega (arith, c.if-length-gt32.true)) n few is
