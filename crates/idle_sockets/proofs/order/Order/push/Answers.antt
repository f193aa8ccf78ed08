use Rattle.std.proofs.Common.{ℕ, ◌<◌, All, List, [], ◌∷◌, ◌++◌, length, length-append, Some, Option, sym, ◌∙◌, ap, subst, arith}
use Rattle.std.proofs.lemmas.List.Sorted.{All-permutation}
use Rattle.idle_sockets.specs.Links.{AreLinks, neighbours_of, walk}
use Rattle.idle_sockets.specs.Numbers.{Rise}
use Rattle.idle_sockets.proofs.Ordering.{as_long, as_often, rise_last}
use Rattle.idle_sockets.proofs.Tabling.{came_last, came_list, order_is}
use Rattle.idle_sockets.proofs.order.Order.push.Goals as goal

pub push-requires : goal.push-requires
push-requires c =
    let i = c.self.inside in
    let are = c.self.invariant in
    let long = as_long are.order i.numbers.items are.same in
    let many = ap length (sym c.self.view_is ∙ order_is i.numbers.items i.links.items i.first i.last are) in
    (omega arith, omega (arith, long, many, c.requires.room))

pub push-requires-2 : goal.push-requires-2
push-requires-2 c =
    let i = c.self.inside in
    let are = c.self.invariant in
    let long = as_long are.order i.numbers.items are.same in
    let many = ap length (sym c.self.view_is ∙ order_is i.numbers.items i.links.items i.first i.last are) in
    (omega arith, omega (arith, long, many, are.beside, c.requires.room))

pub put_last-requires-clause-rise : goal.put_last-requires-clause-rise
put_last-requires-clause-rise c =
    let i = c.self.inside in
    let are = c.self.invariant in
    let m = c.args.number in
    let above = subst (λ (l : List ℕ). All (λ n. n < m) l) (sym c.self.view_is ∙ order_is i.numbers.items i.links.items i.first i.last are) c.requires.above in
    subst Rise (sym c.push.ensures.items) (rise_last m i.numbers.items are.rise (All-permutation (λ (n : ℕ). n < m) are.order i.numbers.items (as_often are.order i.numbers.items are.same) above))

pub put_last-requires-clause-beside : goal.put_last-requires-clause-beside
put_last-requires-clause-beside c =
    let i = c.self.inside in
    let are = c.self.invariant in
    let one_link = ap length c.push-2.ensures.items ∙ length-append i.links.items _ in
    let one_number = ap length c.push.ensures.items ∙ length-append i.numbers.items (c.args.number ∷ []) in
    omega (arith, one_link, one_number, are.beside)

pub invariant_of-self : goal.invariant_of-self
invariant_of-self c =
    let i = c.self.inside in
    let are = c.self.invariant in
    let m = c.args.number in
    let above = subst (λ (l : List ℕ). All (λ n. n < m) l) (sym c.self.view_is ∙ order_is i.numbers.items i.links.items i.first i.last are) c.requires.above in
    let one_link = ap length c.push-2.ensures.items ∙ length-append i.links.items _ in
    let one_number = ap length c.push.ensures.items ∙ length-append i.numbers.items (m ∷ []) in
    subst (λ (f : Option ℕ). AreLinks c.push.new.self.items c.put_last.new.links.items f (Some m)) (sym c.unless_none-self-inside.ensures)
    (came_last i.numbers.items i.links.items i.first i.last are m above c.push.new.self.items c.push-2.new.self.items c.put_last.new.links.items c.push.ensures.items _ c.push-2.ensures.items
    (omega (arith, one_link, one_number, are.beside, c.put_last.ensures.beside)) c.put_last.ensures.links)

pub returns : goal.returns
returns c =
    let i = c.self.inside in
    let are = c.self.invariant in
    let m = c.args.number in
    let seen = order_is i.numbers.items i.links.items i.first i.last are in
    let above = subst (λ (l : List ℕ). All (λ n. n < m) l) (sym c.self.view_is ∙ seen) c.requires.above in
    let one_link = ap length c.push-2.ensures.items ∙ length-append i.links.items _ in
    let one_number = ap length c.push.ensures.items ∙ length-append i.numbers.items (m ∷ []) in
    ap (walk (length c.push.new.self.items) (neighbours_of c.push.new.self.items c.put_last.new.links.items)) c.unless_none-self-inside.ensures
    ∙ came_list i.numbers.items i.links.items i.first i.last are m above c.push.new.self.items c.push-2.new.self.items c.put_last.new.links.items c.push.ensures.items _ c.push-2.ensures.items
    (omega (arith, one_link, one_number, are.beside, c.put_last.ensures.beside)) c.put_last.ensures.links
    ∙ ap (λ (l : List ℕ). l ++ (m ∷ [])) (sym seen ∙ c.self.view_is)
