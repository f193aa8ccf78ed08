use Rattle.std.proofs.Common.{arith}
use Rattle.std.proofs.lemmas.Result.{err_from_is_err_and}
use Rattle.command_words.proofs.Networks.{network_parts}
use Rattle.command_words.proofs.values.read_network.Goals as goal

pub returns-in_err-network-clause-refused : goal.returns-in_err-network-clause-refused
returns-in_err-network-clause-refused c = let p = err_from_is_err_and c.from_residual-in_err-network.result c.from_residual-in_err-network.ensures.1 in rw (p.1)
    (λ n mask is. c.in_err-network.ensures.refused n ((network_parts _ _ _ c.in_ok-address.ensures.parts c.in_ok-address.ensures.first n is.0 is.2 is.1).0, is.2))

pub returns-in_err-mask-clause-refused : goal.returns-in_err-mask-clause-refused
returns-in_err-mask-clause-refused c = let p = err_from_is_err_and c.from_residual-in_err-mask.result c.from_residual-in_err-mask.ensures.1 in rw (p.1)
    (λ n mask is. c.in_err-mask.ensures.refused is.0 ((network_parts _ _ _ c.in_ok-address.ensures.parts c.in_ok-address.ensures.first n is.0 is.2 is.1).1, omega (arith, is.3)) is.3)
