use Rattle.std.proofs.Common.{◌&&◌, sym, ◌∙◌, ap}
use Rattle.poll_list.specs.Listing.{reads}
use Rattle.poll_list.specs.declared.Who.TheVariants.{Listener}
use Rattle.serve_loop.specs.Served.{ServiceState}
use Rattle.serve_loop.proofs.Among.{listeners_among}
use Rattle.serve_loop.proofs.service.Service.waits_for_peers.Goals as goal

pub returns-then-item : goal.returns-then-item
returns-then-item c =
    c.is_among.ensures ∙ ap (reads (Listener c.args.number)) c.of_listeners.ensures.all ∙ listeners_among c.args.number c.self.inside.wants.items
    ∙ ap (λ (s : ServiceState). reads (Listener c.args.number) s.wants) c.self.view_is ∙ sym (ap (λ b. b && reads (Listener c.args.number) c.args.self.now.wants) c.if-item.true)
