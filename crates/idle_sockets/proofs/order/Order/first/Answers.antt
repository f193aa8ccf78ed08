use Rattle.std.proofs.Common.{◌≡◌, ℕ, List, [], ◌∷◌, slice_get, refl, sym, ◌∙◌, ap}
use Rattle.idle_sockets.specs.Links.{first_of}
use Rattle.idle_sockets.proofs.Tabling.{order_is}
use Rattle.idle_sockets.proofs.order.Order.first.Goals as goal

at_first : (ns : List ℕ) → first_of ns ≡ slice_get ns 0
at_first [] = refl
at_first (n ∷ ns) = refl

pub returns : goal.returns
returns c =
    let i = c.self.inside in
    let are = c.self.invariant in
    are.begins ∙ at_first are.order ∙ ap (λ (l : List ℕ). slice_get l 0) (sym (order_is i.numbers.items i.links.items i.first i.last are) ∙ c.self.view_is)
