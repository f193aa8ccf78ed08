use Rattle.std.proofs.Common.{sym, ◌∙◌}
use Rattle.net_world.specs.Telling.{link_known}
use Rattle.net_world.proofs.Telling.{link_ready, or_second, ready_by}
use Rattle.net_world.proofs.edge.Edge.offer_known.Goals as goal

pub returns-then-not-is_empty-clause-ready : goal.returns-then-not-is_empty-clause-ready
returns-then-not-is_empty-clause-ready c =
    ready_by c.args.self.now.sockets.slots _ (link_known c.args.self.now.link) _ (link_ready c.args.self.now.sockets.slots _ _ c.gather_link.ensures.told)
    (λ reads. or_second _ _ (sym c.is_ahead.ensures ∙ c.if-is_ahead.true)) (λ writes. sym c.is_writable.ensures ∙ writes)

pub returns-clause-ready : goal.returns-clause-ready
returns-clause-ready c =
    ready_by c.args.self.now.sockets.slots _ (link_known c.args.self.now.link) _ c.gather.ensures.ready
    (λ reads. absurd (cc)) (λ writes. sym c.is_writable-2.ensures ∙ writes)
