use Rattle.std.proofs.Common.{arith}
use Rattle.address_text.proofs.Numbers.{number_over}
use Rattle.command_words.proofs.values.read_mask.Goals as goal

pub returns-then-ones-gt32-clause-refused : goal.returns-then-ones-gt32-clause-refused
returns-then-ones-gt32-clause-refused c = λ n is few. number_over c.in_ok-ones.ones 32 c.args.text.now c.in_ok-ones.ensures.number.1 c.in_ok-ones.ensures.number.0
    (omega (arith, c.if-ones-gt32.true)) n few is.0
