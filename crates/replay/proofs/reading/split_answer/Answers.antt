use Rattle.std.proofs.lemmas.Result.{err_from_is_err_and}
use Rattle.replay.specs.Rows.{said_answer, said_call}
use Rattle.replay.proofs.Refusing.{answer_parts, encoded_once}
use Rattle.replay.proofs.reading.split_answer.Goals as goal

pub returns-in_err-call-clause-refused : goal.returns-in_err-call-clause-refused
returns-in_err-call-clause-refused c = let p = err_from_is_err_and c.from_residual-in_err-call.result c.from_residual-in_err-call.ensures.1 in rw (p.1)
    (λ row h is. c.in_err-call.ensures.refused (said_call row) (answer_parts _ _ _ c.in_ok-before.ensures.parts c.in_ok-before.ensures.first row h is).0)

pub returns-in_err-answer-clause-refused : goal.returns-in_err-answer-clause-refused
returns-in_err-answer-clause-refused c = let p = err_from_is_err_and c.from_residual-in_err-answer.result c.from_residual-in_err-answer.ensures.1 in rw (p.1)
    (λ row h is. c.in_err-answer.ensures.refused (said_answer row) (answer_parts _ _ _ c.in_ok-before.ensures.parts c.in_ok-before.ensures.first row h is).1)

pub returns-clause-only : goal.returns-clause-only
returns-clause-only c = λ row h is. encoded_once _ _ _ _ row c.in_ok-call.ensures.rest c.in_ok-answer.ensures.rest (answer_parts _ _ _ c.in_ok-before.ensures.parts c.in_ok-before.ensures.first row h is)
