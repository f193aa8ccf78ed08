use Rattle.std.proofs.lemmas.Result.{err_from_is_err_and}
use Rattle.command_words.proofs.Networks.{network_parts}
use Rattle.command_words.proofs.denied.read_denial.Goals as goal

pub returns-in_err-read_address-clause-refused : goal.returns-in_err-read_address-clause-refused
returns-in_err-read_address-clause-refused c = let p = err_from_is_err_and c.from_residual-in_err-read_address.result c.from_residual-in_err-read_address.ensures.1 in rw (p.1)
    (λ d is. c.in_err-read_address.ensures.refused d.0.net.0
    ((network_parts _ _ _ c.in_ok-address.ensures.parts c.in_ok-address.ensures.first d.0.net.0 d.0.length is.1 is.0).0, is.1))

pub returns-in_err-read_length-clause-refused : goal.returns-in_err-read_length-clause-refused
returns-in_err-read_length-clause-refused c = let p = err_from_is_err_and c.from_residual-in_err-read_length.result c.from_residual-in_err-read_length.ensures.1 in rw (p.1)
    (λ d is. c.in_err-read_length.ensures.refused d.0.length is.2
    (network_parts _ _ _ c.in_ok-address.ensures.parts c.in_ok-address.ensures.first d.0.net.0 d.0.length is.1 is.0).1)
