use Rattle.std.proofs.Common.{◌&&◌, sym, ◌∙◌, ap}
use Rattle.poll_list.specs.Listing.{reads}
use Rattle.poll_list.specs.declared.Who.TheVariants.{Udp}
use Rattle.serve_loop.specs.Served.{ServiceState}
use Rattle.serve_loop.proofs.Among.{datagrams_among}
use Rattle.serve_loop.proofs.service.Service.waits_for.Goals as goal

pub returns-then-item : goal.returns-then-item
returns-then-item c =
    c.is_among.ensures ∙ ap (reads (Udp c.args.number)) c.of_datagrams.ensures.all ∙ datagrams_among c.args.number c.self.inside.wants.items
    ∙ ap (λ (s : ServiceState). reads (Udp c.args.number) s.wants) c.self.view_is ∙ sym (ap (λ b. b && reads (Udp c.args.number) c.args.self.now.wants) c.if-item.true)
