use Rattle.std.proofs.Common.{◌≡◌, ℕ, true, List, slice_get, ap, sym, ◌∙◌, subst, rules}
use Rattle.idle_sockets.specs.Sockets.{number_of}
use Rattle.idle_sockets.specs.Closing.{IsLeast}
use Rattle.idle_sockets.specs.Numbers.{Rise, times}
use Rattle.idle_sockets.specs.declared.IdleSocket.{IdleSocket}
use Rattle.idle_sockets.proofs.Keeping.{first_is_least, first_of_all, least_in_order}
use Rattle.idle_sockets.proofs.sockets.IdleSockets.least.Goals as goal

pub returns : goal.returns
returns c =
    let i = c.self.inside in
    let are = c.self.invariant.0 in
    let rise = subst Rise are.numbers_are are.rise in
    let first : c.copied.result ≡ slice_get c.as_slice.result.now 0 = search rules in
    let is = first ∙ ap (λ (l : List ℕ). slice_get l 0) (c.as_slice.ensures.value ∙ are.numbers_are) ∙ first_of_all i.rows.items in
    subst (λ (list : List IdleSocket). IsLeast number_of (λ s. true) list c.copied.result) c.self.view_is
    (least_in_order (λ (s : IdleSocket). true) i.rows.items i.order c.copied.result (λ n. are.same n ∙ ap (times n) are.numbers_are) rise
    (subst (IsLeast number_of (λ (s : IdleSocket). true) i.rows.items) (sym is) (first_is_least (λ (s : IdleSocket). true) i.rows.items rise)))
