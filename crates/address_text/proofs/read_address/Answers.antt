use Rattle.std.proofs.Common.{◌/◌, ◌%◌, ◌^◌, ◌∙◌, arith}
use Rattle.std.proofs.lemmas.Result.{err_from_is_err_and}
use Rattle.address_text.proofs.Parting.{no_part}
use Rattle.address_text.proofs.Addresses.{address_form, address_parts, after_first, after_second, after_third, first_under, part_under}
use Rattle.address_text.proofs.read_address.Goals as goal

pub returns-clause-address : goal.returns-clause-address
returns-clause-address c = (
  address_parts _ _ _ _ _ _ _ c.in_ok-first.first c.in_ok-second.second c.in_ok-third.third c.in_ok-fourth.fourth c.in_ok-one.ensures.parts c.in_ok-two.ensures.parts
      c.in_ok-three.ensures.parts c.in_ok-first.ensures.number.0 c.in_ok-second.ensures.number.0 c.in_ok-third.ensures.number.0 c.in_ok-fourth.ensures.number.0
      c.in_ok-first.ensures.number.1 c.in_ok-second.ensures.number.1 c.in_ok-third.ensures.number.1 c.in_ok-fourth.ensures.number.1,
  omega (arith, c.in_ok-first.ensures.number.1, c.in_ok-second.ensures.number.1, c.in_ok-third.ensures.number.1, c.in_ok-fourth.ensures.number.1),
)

pub returns-in_err-one-clause-refused : goal.returns-in_err-one-clause-refused
returns-in_err-one-clause-refused c = let p = err_from_is_err_and c.from_residual.result c.from_residual.ensures.1 in rw (p.1)
    (λ n is. no_part 46 _ _ _ c.in_err-one.ensures.refused (is.0 ∙ address_form n))

pub returns-in_err-two-clause-refused : goal.returns-in_err-two-clause-refused
returns-in_err-two-clause-refused c = let p = err_from_is_err_and c.from_residual-in_err-two.result c.from_residual-in_err-two.ensures.1 in rw (p.1)
    (λ n is. no_part 46 _ _ _ c.in_err-two.ensures.refused (after_first _ _ _ n is.1 c.in_ok-one.ensures.parts c.in_ok-one.ensures.first is.0).1)

pub returns-in_err-three-clause-refused : goal.returns-in_err-three-clause-refused
returns-in_err-three-clause-refused c = let p = err_from_is_err_and c.from_residual-in_err-three.result c.from_residual-in_err-three.ensures.1 in rw (p.1)
    (λ n is. no_part 46 _ _ _ c.in_err-three.ensures.refused (after_second _ _ _ n c.in_ok-two.ensures.parts c.in_ok-two.ensures.first
    (after_first _ _ _ n is.1 c.in_ok-one.ensures.parts c.in_ok-one.ensures.first is.0).1).1)

pub returns-in_err-first-clause-refused : goal.returns-in_err-first-clause-refused
returns-in_err-first-clause-refused c = let p = err_from_is_err_and c.from_residual-in_err-first.result c.from_residual-in_err-first.ensures.1 in rw (p.1)
    (λ n is. c.in_err-first.ensures.refused (n / 2 ^ 24) ((after_first _ _ _ n is.1 c.in_ok-one.ensures.parts c.in_ok-one.ensures.first is.0).0, first_under n is.1))

pub returns-in_err-second-clause-refused : goal.returns-in_err-second-clause-refused
returns-in_err-second-clause-refused c = let p = err_from_is_err_and c.from_residual-in_err-second.result c.from_residual-in_err-second.ensures.1 in rw (p.1)
    (λ n is. c.in_err-second.ensures.refused (n / 2 ^ 16 % 2 ^ 8)
    ((after_second _ _ _ n c.in_ok-two.ensures.parts c.in_ok-two.ensures.first (after_first _ _ _ n is.1 c.in_ok-one.ensures.parts c.in_ok-one.ensures.first is.0).1).0, part_under (n / 2 ^ 16)))

pub returns-in_err-third-clause-refused : goal.returns-in_err-third-clause-refused
returns-in_err-third-clause-refused c = let p = err_from_is_err_and c.from_residual-in_err-third.result c.from_residual-in_err-third.ensures.1 in rw (p.1)
    (λ n is. c.in_err-third.ensures.refused (n / 2 ^ 8 % 2 ^ 8) (
      (after_third _ _ _ n c.in_ok-three.ensures.parts c.in_ok-three.ensures.first
          (after_second _ _ _ n c.in_ok-two.ensures.parts c.in_ok-two.ensures.first (after_first _ _ _ n is.1 c.in_ok-one.ensures.parts c.in_ok-one.ensures.first is.0).1).1).0,
      part_under (n / 2 ^ 8),
    ))

pub returns-in_err-fourth-clause-refused : goal.returns-in_err-fourth-clause-refused
returns-in_err-fourth-clause-refused c = let p = err_from_is_err_and c.from_residual-in_err-fourth.result c.from_residual-in_err-fourth.ensures.1 in rw (p.1)
    (λ n is. c.in_err-fourth.ensures.refused (n % 2 ^ 8) (
      (after_third _ _ _ n c.in_ok-three.ensures.parts c.in_ok-three.ensures.first
          (after_second _ _ _ n c.in_ok-two.ensures.parts c.in_ok-two.ensures.first (after_first _ _ _ n is.1 c.in_ok-one.ensures.parts c.in_ok-one.ensures.first is.0).1).1).1,
      part_under n,
    ))
