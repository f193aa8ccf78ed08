use Rattle.std.proofs.Common.{arith}
use Rattle.address_text.proofs.Numbers.{number_over}
use Rattle.address_text.proofs.read_short.Goals as goal

pub returns-then-n-gt65535-clause-refused : goal.returns-then-n-gt65535-clause-refused
returns-then-n-gt65535-clause-refused c = λ n is. number_over c.in_ok-n.n 65535 c.args.text.now c.in_ok-n.ensures.number.1 c.in_ok-n.ensures.number.0
    (omega (arith, c.if-n-gt65535.true)) n (omega (arith, is.1)) is.0
