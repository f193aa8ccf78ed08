use Rattle.std.proofs.Common.{rules}
use Rattle.replay.proofs.Lower.{hexadecimal_read}
use Rattle.std.proofs.Common.{arith, sym, ◌∙◌}
use Rattle.std.proofs.lemmas.Bool.Decides.{nat_tests}
use Rattle.std.proofs.lemmas.Result.{err_from_is_err_and}
use Rattle.replay.proofs.Refusing.{octets_some, octets_lower, octets_decode, octets_small}
use Rattle.replay.proofs.tokens.read_octets.Goals as goal

pub returns-clause-octets : goal.returns-clause-octets
returns-clause-octets c = hexadecimal_read c.args.text.now c.in_ok-octets.octets.items c.in_ok-octets.ensures.octets (search rules) (search rules)

pub returns-then-is_empty-clause-refused : goal.returns-then-is_empty-clause-refused
returns-then-is_empty-clause-refused c = λ _ octets h is. let some = octets_some c.args.text.now octets is in absurd (grind (arith, nat_tests))

pub returns-then-not-is_lower_case-clause-refused : goal.returns-then-not-is_lower_case-clause-refused
returns-then-not-is_lower_case-clause-refused c = λ _ octets h is. absurd (cc (sym (octets_lower c.args.text.now octets h is)))

pub returns-in_err-octets-clause-refused : goal.returns-in_err-octets-clause-refused
returns-in_err-octets-clause-refused c = let p = err_from_is_err_and c.from_residual.result c.from_residual.ensures.1 in rw (p.1, p.2)
    (λ unread octets h is. c.in_err-octets.ensures.refused unread octets (octets_decode c.args.text.now octets h is (λ dash. absurd (cc (sym (c.same.ensures.1 dash) ∙ c.if-same.false)))))

pub returns-clause-range : goal.returns-clause-range
returns-clause-range c = octets_small c.args.text.now c.in_ok-octets.octets.items c.in_ok-octets.ensures.octets
