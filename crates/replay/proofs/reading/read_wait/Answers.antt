use Rattle.std.proofs.lemmas.Result.{err_from_is_err_and}
use Rattle.replay.specs.Text.{timeout_text, wants_text}
use Rattle.replay.proofs.Words.{timeout_word}
use Rattle.replay.proofs.Refusing.{same_fault, spaced_parts, says_wait}
use Rattle.replay.proofs.reading.read_wait.Goals as goal

pub returns-in_err-timeout-clause-refused : goal.returns-in_err-timeout-clause-refused
returns-in_err-timeout-clause-refused c = let p = err_from_is_err_and c.from_residual-in_err-timeout.result c.from_residual-in_err-timeout.ensures.1 in rw (p.1, p.2)
    (λ unread. says_wait c.args.args.now c.args.answer.now (λ wants timeout ht hw is. c.in_err-timeout.ensures.refused timeout ht
    (spaced_parts _ _ _ (timeout_text timeout) (wants_text wants) c.in_ok-time.ensures.parts c.in_ok-time.ensures.first (timeout_word timeout ht) is).0))

pub returns-in_err-wants-clause-refused : goal.returns-in_err-wants-clause-refused
returns-in_err-wants-clause-refused c = let p = err_from_is_err_and c.from_residual-in_err-wants.result c.from_residual-in_err-wants.ensures.1 in rw (p.1, p.2)
    (λ unread. says_wait c.args.args.now c.args.answer.now (λ wants timeout ht hw is. c.in_err-wants.ensures.refused (same_fault unread) wants hw
    (spaced_parts _ _ _ (timeout_text timeout) (wants_text wants) c.in_ok-time.ensures.parts c.in_ok-time.ensures.first (timeout_word timeout ht) is).1))
