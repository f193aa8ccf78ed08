use Rattle.std.proofs.Common.{decimal}
use Rattle.std.proofs.lemmas.Result.{err_from_is_err_and}
use Rattle.replay.proofs.Parting.{decimal_word}
use Rattle.replay.proofs.Refusing.{spaced_parts}
use Rattle.replay.proofs.reading.read_two_numbers.Goals as goal

pub returns-in_err-one-clause-refused : goal.returns-in_err-one-clause-refused
returns-in_err-one-clause-refused c = let p = err_from_is_err_and c.from_residual-in_err-one.result c.from_residual-in_err-one.ensures.1 in rw (p.1)
    (λ one other ho hp is. c.in_err-one.ensures.refused one ho (spaced_parts _ _ _ (decimal one) (decimal other) c.in_ok-first.ensures.parts c.in_ok-first.ensures.first (decimal_word one ho) is).0)

pub returns-in_err-other-clause-refused : goal.returns-in_err-other-clause-refused
returns-in_err-other-clause-refused c = let p = err_from_is_err_and c.from_residual-in_err-other.result c.from_residual-in_err-other.ensures.1 in rw (p.1)
    (λ one other ho hp is. c.in_err-other.ensures.refused other hp (spaced_parts _ _ _
    (decimal one) (decimal other) c.in_ok-first.ensures.parts c.in_ok-first.ensures.first (decimal_word one ho) is).1)
