use Rattle.std.proofs.Common.{List, ℕ, sym, ◌∙◌, ap, subst}
use Rattle.std.specs.List.Sorted.{IsPermutation, IsNonDecreasing}
use Rattle.idle_sockets.specs.Sockets.{numbers}
use Rattle.idle_sockets.specs.Numbers.{Rise}
use Rattle.idle_sockets.proofs.Keeping.{numbers_in_order}
use Rattle.idle_sockets.proofs.Ordering.{as_often, never_falls}
use Rattle.idle_sockets.proofs.sockets.IdleSockets.rising.Goals as goal

pub returns-clause-all : goal.returns-clause-all
returns-clause-all c =
    let i = c.self.inside in
    let are = c.self.invariant.0 in
    subst (λ (l : List ℕ). IsPermutation l c.as_slice.result.now) (sym (numbers_in_order i.rows.items i.order) ∙ ap numbers c.self.view_is)
    (subst (λ (l : List ℕ). IsPermutation i.order l) (sym c.as_slice.ensures.value) (as_often i.order i.rising.items are.same))

pub returns-clause-rising : goal.returns-clause-rising
returns-clause-rising c = subst IsNonDecreasing (sym c.as_slice.ensures.value) (never_falls c.self.inside.rising.items c.self.invariant.0.rise)

pub returns-clause-strict : goal.returns-clause-strict
returns-clause-strict c = subst Rise (sym c.as_slice.ensures.value) c.self.invariant.0.rise
