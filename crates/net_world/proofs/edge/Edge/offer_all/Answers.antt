use Rattle.std.proofs.Common.{ℕ, ◌<◌, sym, subst, ◌∙◌}
use Rattle.net_world.specs.Telling.{link_known}
use Rattle.net_world.proofs.Telling.{ready_by}
use Rattle.net_world.proofs.edge.Edge.offer_all.Goals as goal

pub returns-clause-ready : goal.returns-clause-ready
returns-clause-ready c =
    ready_by c.args.self.now.sockets.slots _ (link_known c.args.self.now.link) _ c.gather.ensures.ready
    (λ reads. sym c.is_readable.ensures ∙ reads) (λ writes. sym c.is_writable.ensures ∙ writes)

pub returns-clause-some : goal.returns-clause-some
returns-clause-some c rise bears = c.gather.ensures.some rise (subst (λ (n : ℕ). 0 < n) (sym c.bears.ensures) bears)
