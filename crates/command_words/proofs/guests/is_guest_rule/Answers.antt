use Rattle.command_words.proofs.guests.is_guest_rule.Goals as goal

pub returns-in-Err : goal.returns-in-Err
returns-in-Err c = λ is. c.in-Err.ensures.refused is.0 is.1
