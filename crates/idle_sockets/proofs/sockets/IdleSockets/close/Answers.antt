use Rattle.std.proofs.Common.{◌<◌, ℕ, List, length, get_or, sym, ◌∙◌, ap, subst}
use Rattle.std.proofs.lemmas.List.{get_or_default}
use Rattle.idle_sockets.specs.Sockets.{number_of}
use Rattle.idle_sockets.specs.Closing.{without}
use Rattle.idle_sockets.specs.Numbers.{times, IsTakenOut}
use Rattle.idle_sockets.specs.Rows.{key_of}
use Rattle.idle_sockets.proofs.Changing.{closed_keeps, closed_without, few_rows, its_key}
use Rattle.idle_sockets.proofs.Keeping.{nobody, none_without}
use Rattle.idle_sockets.proofs.sockets.IdleSockets.close.Goals as goal

pub forget_key-requires-clause-there : goal.forget_key-requires-clause-there
forget_key-requires-clause-there c =
    let i = c.self.inside in
    let place = c.in-Some.place in
    let few = subst (λ (l : List ℕ). place < length l) c.as_slice.ensures.value c.in-Some.ensures.0 in
    let here = sym (ap (λ (l : List ℕ). get_or l place 0) c.as_slice.ensures.value) ∙ c.in-Some.ensures.1 in
    let in_rows = few_rows i.rows.items i.rising.items i.order i.keys.items i.owners.items i.since c.self.invariant.0 c.self.invariant.1 c.args.number place nobody few here in
    let same = c.remove-row.ensures.value ∙ get_or_default i.rows.items place c.remove-row.result nobody in_rows in
    subst (λ k. 0 < times k i.keys.items) (sym (c.key.ensures.number ∙ ap key_of same))
    (its_key i.rows.items i.rising.items i.order i.keys.items i.owners.items i.since c.self.invariant.0 c.self.invariant.1 c.args.number place nobody few here)

pub invariant_of-self : goal.invariant_of-self
invariant_of-self c =
    let i = c.self.inside in
    let place = c.in-Some.place in
    let few = subst (λ (l : List ℕ). place < length l) c.as_slice.ensures.value c.in-Some.ensures.0 in
    let here = sym (ap (λ (l : List ℕ). get_or l place 0) c.as_slice.ensures.value) ∙ c.in-Some.ensures.1 in
    let in_rows = few_rows i.rows.items i.rising.items i.order i.keys.items i.owners.items i.since c.self.invariant.0 c.self.invariant.1 c.args.number place nobody few here in
    let same = c.remove-row.ensures.value ∙ get_or_default i.rows.items place c.remove-row.result nobody in_rows in
    let taken = subst (λ k. IsTakenOut k i.keys.items i.owners.items c.forget_key.new.keys.items c.forget_key.new.owners.items)
    (c.key.ensures.number ∙ ap key_of same) c.forget_key.ensures in
    closed_keeps i.rows.items i.rising.items i.order i.keys.items i.owners.items i.since c.self.invariant.0 c.self.invariant.1 c.args.number place nobody few here
    c.forget_key.new.keys.items c.forget_key.new.owners.items taken c.remove-row.new.self.items c.remove.new.self.items c.forget.new.self c.remove-row.ensures.items
    c.remove.ensures.items c.forget.ensures

pub returns-in-Some : goal.returns-in-Some
returns-in-Some c =
    let i = c.self.inside in
    let place = c.in-Some.place in
    let few = subst (λ (l : List ℕ). place < length l) c.as_slice.ensures.value c.in-Some.ensures.0 in
    let here = sym (ap (λ (l : List ℕ). get_or l place 0) c.as_slice.ensures.value) ∙ c.in-Some.ensures.1 in
    let in_rows = few_rows i.rows.items i.rising.items i.order i.keys.items i.owners.items i.since c.self.invariant.0 c.self.invariant.1 c.args.number place nobody few here in
    let same = c.remove-row.ensures.value ∙ get_or_default i.rows.items place c.remove-row.result nobody in_rows in
    let taken = subst (λ k. IsTakenOut k i.keys.items i.owners.items c.forget_key.new.keys.items c.forget_key.new.owners.items)
    (c.key.ensures.number ∙ ap key_of same) c.forget_key.ensures in
    closed_without i.rows.items i.rising.items i.order i.keys.items i.owners.items i.since c.self.invariant.0 c.self.invariant.1 c.args.number place nobody few here
    c.forget_key.new.keys.items c.forget_key.new.owners.items taken c.remove-row.new.self.items c.forget.new.self c.remove-row.ensures.items c.forget.ensures
    ∙ ap (without number_of c.args.number) c.self.view_is

pub returns-in_default : goal.returns-in_default
returns-in_default c =
    let i = c.self.inside in
    let none = c.self.invariant.0.same c.args.number ∙ ap (times c.args.number) (sym c.as_slice.ensures.value) ∙ c.in_default.ensures in
    sym c.self.view_is ∙ sym (none_without c.args.number i.rows.items i.order none) ∙ ap (without number_of c.args.number) c.self.view_is
