use Rattle.std.proofs.lemmas.Result.{err_from_is_err_and}
use Rattle.replay.proofs.Refusing.{want_parts, has_who, has_way}
use Rattle.replay.proofs.tokens.read_want.Goals as goal

pub returns-in_err-of-clause-refused : goal.returns-in_err-of-clause-refused
returns-in_err-of-clause-refused c = let p = err_from_is_err_and c.from_residual-in_err-of.result c.from_residual-in_err-of.ensures.1 in rw (p.1)
    (λ want h is. c.in_err-of.ensures.refused want.of (has_who want h) (want_parts _ _ _ c.in_ok-who.ensures.parts c.in_ok-who.ensures.first want h is).0)

pub returns-in_err-read-clause-refused : goal.returns-in_err-read-clause-refused
returns-in_err-read-clause-refused c = let p = err_from_is_err_and c.from_residual-in_err-read.result c.from_residual-in_err-read.ensures.1 in rw (p.1)
    (λ want h is. c.in_err-read.ensures.refused want.read want.write (has_way want h) (want_parts _ _ _ c.in_ok-who.ensures.parts c.in_ok-who.ensures.first want h is).1)
