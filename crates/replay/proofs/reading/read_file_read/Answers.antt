use Rattle.std.proofs.Common.{decimal, ◌++◌, ◌∷◌}
use Rattle.std.proofs.lemmas.Result.{err_from_is_err_and}
use Rattle.replay.specs.Text.{hexadecimal}
use Rattle.replay.proofs.Parting.{decimal_word, hexadecimal_word}
use Rattle.address_text.proofs.Parting.{no_part}
use Rattle.replay.proofs.Refusing.{same_fault, spaced_parts, says_file_read}
use Rattle.replay.proofs.reading.read_file_read.Goals as goal

pub returns-in_err-second-clause-refused : goal.returns-in_err-second-clause-refused
returns-in_err-second-clause-refused c = let p = err_from_is_err_and c.from_residual-in_err-second.result c.from_residual-in_err-second.ensures.1 in rw (p.1, p.2)
    (λ unread. says_file_read c.args.args.now c.args.answer.now (λ name place asked hn hp ha is. no_part 32 _ (decimal place) (decimal asked) c.in_err-second.ensures.refused
    (spaced_parts _ _ _ (hexadecimal name) (decimal place ++ 32 ∷ decimal asked) c.in_ok-first.ensures.parts c.in_ok-first.ensures.first (hexadecimal_word name hn) is).1))

pub returns-in_err-name-clause-refused : goal.returns-in_err-name-clause-refused
returns-in_err-name-clause-refused c = let p = err_from_is_err_and c.from_residual-in_err-name.result c.from_residual-in_err-name.ensures.1 in rw (p.1, p.2)
    (λ unread. says_file_read c.args.args.now c.args.answer.now (λ name place asked hn hp ha is. c.in_err-name.ensures.refused (same_fault unread) name hn
    (spaced_parts _ _ _ (hexadecimal name) (decimal place ++ 32 ∷ decimal asked) c.in_ok-first.ensures.parts c.in_ok-first.ensures.first (hexadecimal_word name hn) is).0))

pub returns-in_err-place-clause-refused : goal.returns-in_err-place-clause-refused
returns-in_err-place-clause-refused c = let p = err_from_is_err_and c.from_residual-in_err-place.result c.from_residual-in_err-place.ensures.1 in rw (p.1, p.2)
    (λ unread. says_file_read c.args.args.now c.args.answer.now (λ name place asked hn hp ha is. c.in_err-place.ensures.refused place hp
    (spaced_parts _ _ _ (decimal place) (decimal asked) c.in_ok-second.ensures.parts c.in_ok-second.ensures.first (decimal_word place hp)
    (spaced_parts _ _ _ (hexadecimal name) (decimal place ++ 32 ∷ decimal asked) c.in_ok-first.ensures.parts c.in_ok-first.ensures.first (hexadecimal_word name hn) is).1).0))

pub returns-in_err-asked-clause-refused : goal.returns-in_err-asked-clause-refused
returns-in_err-asked-clause-refused c = let p = err_from_is_err_and c.from_residual-in_err-asked.result c.from_residual-in_err-asked.ensures.1 in rw (p.1, p.2)
    (λ unread. says_file_read c.args.args.now c.args.answer.now (λ name place asked hn hp ha is. c.in_err-asked.ensures.refused asked ha
    (spaced_parts _ _ _ (decimal place) (decimal asked) c.in_ok-second.ensures.parts c.in_ok-second.ensures.first (decimal_word place hp)
    (spaced_parts _ _ _ (hexadecimal name) (decimal place ++ 32 ∷ decimal asked) c.in_ok-first.ensures.parts c.in_ok-first.ensures.first (hexadecimal_word name hn) is).1).1))
