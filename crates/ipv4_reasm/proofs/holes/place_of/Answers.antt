use Rattle.std.proofs.Common.{◌≡◌, ◌+◌, ℕ, inl, inr, None, Some, Bool, true, false, cond, refl, sym, ap, ◌∙◌, arith, subst}
use Rattle.std.specs.Bool.{then_some}
use Rattle.std.proofs.lemmas.Bool.{cases_lt}
use Rattle.ipv4_head.specs.Sets.{part_of}
use Rattle.ipv4_head.specs.Holes.{hole}
use Rattle.ipv4_reasm.proofs.Holing.{Begun, last_begun, none_begun}
use Rattle.ipv4_reasm.proofs.holes.place_of.Goals as goal

then_is : (b : Bool) (n : ℕ) → then_some b n ≡ cond b (Some n) None
then_is true n = refl
then_is false n = refl

pub returns-in_err-last : goal.returns-in_err-last
returns-in_err-last c =
    let p = part_of c.args.v.now in
    let none : c.begun_by.result ≡ 0 = elim (cases_lt 0 c.begun_by.result) [ inl some ↦ absurd (c.in_err-last.ensures some) | inr none ↦ omega arith ] in
    c.from_residual.ensures ∙ sym (none_begun p c.args.holes.now (hole 0 None) (subst (λ n. Begun c.args.holes.now p.place n) none c.begun_by.ensures.point))

pub returns : goal.returns
returns c =
    let p = part_of c.args.v.now in
    let some = c.in_ok-last.ensures.0 in
    let is = c.in_ok-last.ensures.1 in
    let bound = c.begun_by.ensures.bound in
    let next : c.begun_by.result ≡ c.in_ok-last.last + 1 = omega arith in
    c.then_some.ensures
    ∙ then_is c.takes.result c.in_ok-last.last
    ∙ ap (λ b. cond b (Some c.in_ok-last.last) None) c.takes.ensures
    ∙ sym (last_begun p c.args.holes.now c.in_ok-last.last (hole 0 None) c.requires.rise (omega arith) (subst (λ n. Begun c.args.holes.now p.place n) next c.begun_by.ensures.point))
