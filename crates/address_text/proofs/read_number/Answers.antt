use Rattle.std.proofs.Common.{◌≡◌, ℕ, List, Some, None, decimal, sym, ◌∙◌, subst, rules, arith}
use Rattle.std.proofs.lemmas.Bool.Decides.{nat_tests}
use Rattle.address_text.specs.Texts.{IsReadAs}
use Rattle.address_text.proofs.Numbers.{number_read, number_some, number_unsigned, number_needed, number_utf8, number_parsed}
use Rattle.address_text.proofs.read_number.Goals as goal

pub returns-clause-number : goal.returns-clause-number
returns-clause-number c =
    let read = subst (λ (t : List ℕ). IsReadAs t (Some c.in-Some-parse.n)) c.in-Some.ensures.text c.in-Some-parse.ensures in
    let is : c.args.text.now ≡ decimal c.in-Some-parse.n = number_read c.args.text.now (Some c.in-Some-parse.n) read (search rules) c.if-text-eq43.false
    (sym c.has_needless_zero.ensures ∙ c.if-has_needless_zero.false) in
    (is, omega (arith, read))

pub returns-then-is_empty-clause-refused : goal.returns-then-is_empty-clause-refused
returns-then-is_empty-clause-refused c = λ n is. let some = number_some c.args.text.now n is.1 is.0 in absurd (grind (arith, nat_tests))

pub returns-then-text-eq43-clause-refused : goal.returns-then-text-eq43-clause-refused
returns-then-text-eq43-clause-refused c = λ n is. number_unsigned c.args.text.now n is.1 is.0 c.if-text-eq43.true

pub returns-then-has_needless_zero-clause-refused : goal.returns-then-has_needless_zero-clause-refused
returns-then-has_needless_zero-clause-refused c = λ n is. number_needed c.args.text.now n is.1 is.0 (sym c.has_needless_zero.ensures ∙ c.if-has_needless_zero.true)

pub returns-in_default-clause-refused : goal.returns-in_default-clause-refused
returns-in_default-clause-refused c = λ n is. c.in_default.ensures.none (number_utf8 c.args.text.now n is.1 is.0)

pub returns-in_default-parse-clause-refused : goal.returns-in_default-parse-clause-refused
returns-in_default-parse-clause-refused c = λ n is. number_parsed c.args.text.now n is.1 is.0 (subst (λ (t : List ℕ). IsReadAs t None) c.in-Some.ensures.text c.in_default-parse.ensures)
