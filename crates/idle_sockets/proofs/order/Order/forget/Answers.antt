use Rattle.std.proofs.Common.{sym, ◌∙◌, ap}
use Rattle.idle_sockets.specs.Numbers.{gone, times}
use Rattle.idle_sockets.proofs.Ordering.{gone_none}
use Rattle.idle_sockets.proofs.Tabling.{goes_out, order_is}
use Rattle.idle_sockets.proofs.order.Order.forget.Goals as goal

pub invariant_of-self : goal.invariant_of-self
invariant_of-self c =
    let i = c.self.inside in
    let out = goes_out i.numbers.items i.links.items i.first i.last c.self.invariant c.args.number c.in-Some.place _ c.as_slice.ensures.value c.in-Some.ensures.0 c.in-Some.ensures.1
    c.take_out-neighbours.result c.take_out-neighbours.ensures.neighbours c.take_out-neighbours.new.links.items c.take_out-neighbours.ensures.links c.take_out-neighbours.ensures.beside
    c.remove.new.self.items c.remove-in-Some.new.self.items c.remove.ensures.items c.remove-in-Some.ensures.items _ _ c.unless_none-self-inside.ensures
    c.unless_none-self-inside-in-Some.ensures in
    out.0

pub returns-in-Some : goal.returns-in-Some
returns-in-Some c =
    let i = c.self.inside in
    let out = goes_out i.numbers.items i.links.items i.first i.last c.self.invariant c.args.number c.in-Some.place _ c.as_slice.ensures.value c.in-Some.ensures.0 c.in-Some.ensures.1
    c.take_out-neighbours.result c.take_out-neighbours.ensures.neighbours c.take_out-neighbours.new.links.items c.take_out-neighbours.ensures.links c.take_out-neighbours.ensures.beside
    c.remove.new.self.items c.remove-in-Some.new.self.items c.remove.ensures.items c.remove-in-Some.ensures.items _ _ c.unless_none-self-inside.ensures
    c.unless_none-self-inside-in-Some.ensures in
    out.1 ∙ ap (gone c.args.number) (sym (order_is i.numbers.items i.links.items i.first i.last c.self.invariant) ∙ c.self.view_is)

pub returns-in_default : goal.returns-in_default
returns-in_default c =
    let i = c.self.inside in
    let are = c.self.invariant in
    let m = c.args.number in
    let none = are.same m ∙ ap (times m) (sym c.as_slice.ensures.value) ∙ c.in_default.ensures in
    let seen = order_is i.numbers.items i.links.items i.first i.last are in
    sym c.self.view_is ∙ seen ∙ sym (gone_none m are.order none) ∙ ap (gone m) (sym seen ∙ c.self.view_is)
