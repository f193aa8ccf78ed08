use Rattle.std.proofs.Common.{ℕ, ◌≡◌, List, [], ◌∷◌, ◌++◌, length, Some, Option, sym, ◌∙◌, ap, subst, arith}
use Rattle.idle_sockets.specs.Links.{AreLinks, neighbours_of, walk}
use Rattle.idle_sockets.specs.Numbers.{gone, times}
use Rattle.idle_sockets.proofs.Tabling.{made_last, made_list, order_is}
use Rattle.idle_sockets.proofs.order.Order.make_last.Goals as goal

pub invariant_of-self : goal.invariant_of-self
invariant_of-self c =
    let i = c.self.inside in
    let are = c.self.invariant in
    let m = c.args.number in
    let one_time : times m are.order ≡ 1 = subst (λ (l : List ℕ). times m l ≡ 1) (sym c.self.view_is ∙ order_is i.numbers.items i.links.items i.first i.last are) c.requires in
    subst (λ (f : Option ℕ). AreLinks i.numbers.items c.put_last.new.links.items f (Some m)) (sym c.unless_none-self-inside.ensures)
    (made_last i.numbers.items i.links.items i.first i.last are m
    (omega (arith, one_time)) c.take_out-neighbours.result c.take_out-neighbours.ensures.neighbours c.take_out-neighbours.new.links.items c.take_out-neighbours.ensures.links
    one_time c.put_last.new.links.items (c.put_last.ensures.beside ∙ c.take_out-neighbours.ensures.beside) c.unless_none-first.result c.unless_none-last.result
    c.unless_none-first.ensures c.unless_none-last.ensures c.put_last.ensures.links)

pub returns : goal.returns
returns c =
    let i = c.self.inside in
    let are = c.self.invariant in
    let m = c.args.number in
    let seen = order_is i.numbers.items i.links.items i.first i.last are in
    let one_time : times m are.order ≡ 1 = subst (λ (l : List ℕ). times m l ≡ 1) (sym c.self.view_is ∙ seen) c.requires in
    ap (walk (length i.numbers.items) (neighbours_of i.numbers.items c.put_last.new.links.items)) c.unless_none-self-inside.ensures
    ∙ made_list i.numbers.items i.links.items i.first i.last are m
    (omega (arith, one_time)) c.take_out-neighbours.result c.take_out-neighbours.ensures.neighbours c.take_out-neighbours.new.links.items c.take_out-neighbours.ensures.links
    one_time c.put_last.new.links.items (c.put_last.ensures.beside ∙ c.take_out-neighbours.ensures.beside) c.unless_none-first.result c.unless_none-last.result
    c.unless_none-first.ensures c.unless_none-last.ensures c.put_last.ensures.links
    ∙ ap (λ (l : List ℕ). gone m l ++ (m ∷ [])) (sym seen ∙ c.self.view_is)
