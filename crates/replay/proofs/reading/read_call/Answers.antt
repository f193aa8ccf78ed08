use Rattle.std.proofs.lemmas.Result.{err_from_is_err_and}
use Rattle.world_face.specs.Journal.{call_of}
use Rattle.replay.specs.Names.{name_of}
use Rattle.replay.proofs.Refusing.{said_word}
use Rattle.replay.proofs.reading.read_call.Goals as goal

pub returns-in_err-name-clause-refused : goal.returns-in_err-name-clause-refused
returns-in_err-name-clause-refused c = let p = err_from_is_err_and c.from_residual-in_err-name.result c.from_residual-in_err-name.ensures.1 in rw (p.1, p.2)
    (λ unread row h written. c.in_err-name.ensures.refused (name_of (call_of row.entry)) (said_word _ _ _ c.in_ok-word.ensures.parts c.in_ok-word.ensures.first row written.0))
