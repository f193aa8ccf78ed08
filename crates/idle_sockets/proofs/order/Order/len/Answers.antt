use Rattle.std.proofs.Common.{length, sym, ◌∙◌, ap}
use Rattle.idle_sockets.proofs.Ordering.{as_long}
use Rattle.idle_sockets.proofs.Tabling.{order_is}
use Rattle.idle_sockets.proofs.order.Order.len.Goals as goal

pub returns-clause-count : goal.returns-clause-count
returns-clause-count c =
    let i = c.self.inside in
    let are = c.self.invariant in
    c.len.ensures.value ∙ sym (as_long are.order i.numbers.items are.same) ∙ ap length (sym (order_is i.numbers.items i.links.items i.first i.last are) ∙ c.self.view_is)
