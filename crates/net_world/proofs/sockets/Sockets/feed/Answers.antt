use Rattle.std.proofs.Common.{◌≡◌, subst}
use Rattle.net_world.specs.Tables.{Table, fed_at, slot_at}
use Rattle.net_world.proofs.Feeding.{none_fed}
use Rattle.net_world.proofs.sockets.Sockets.feed.Goals as goal

pub returns-else-self : goal.returns-else-self
returns-else-self g c = λ key.
    subst (λ (t : Table g.row.S.Denot). slot_at t.slots key ≡ fed_at (slot_at t.slots key)) c.self.view_is (none_fed c.self.inside.slots.slots c.self.inside.starved c.self.invariant.2 c.if-self.false key)

pub returns-then-self : goal.returns-then-self
returns-then-self g c = λ key.
    subst (λ (t : Table g.row.S.Denot). slot_at c.feed_all.new.slots.slots key ≡ fed_at (slot_at t.slots key)) c.self.view_is (c.feed_all.ensures.fed key)
