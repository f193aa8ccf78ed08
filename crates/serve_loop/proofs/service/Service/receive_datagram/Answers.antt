use Rattle.std.proofs.Common.{◌≡◌, ◌∷◌, false, refl, sym, ◌∙◌, ap, subst}
use Rattle.poll_list.specs.declared.Who.TheVariants.{Udp}
use Rattle.spec_duties.specs.Serving.{is_left_to_read}
use Rattle.world_face.specs.Tells.{Brings}
use Rattle.world_face.proofs.Telling.{brings_none}
use Rattle.slirp_core.specs.Holds.{flowing, standing}
use Rattle.slirp_core.specs.Pumps.{is_settled}
use Rattle.slirp_core.proofs.Telling.{from_more}
use Rattle.serve_loop.specs.Served.{ServiceState}
use Rattle.serve_loop.specs.Turns.{HoldsNow}
use Rattle.slirp_core.proofs.Associating.{passes_over}
use Rattle.serve_loop.proofs.Left.{true_false, unless}
use Rattle.serve_loop.proofs.Turning.{settled}
use Rattle.serve_loop.proofs.service.Service.receive_datagram.Goals as goal

pub returns-then-is_settled-clause-makes : goal.returns-then-is_settled-clause-makes
returns-then-is_settled-clause-makes g c config count wants item items reported =
    let slirp = c.self.inside.slirp in
    let link = c.self.inside.link in
    let before = settled slirp link (ap (λ (s : ServiceState). is_settled s.slirp s.link) c.self.view_is ∙ sym c.is_settled.ensures ∙ c.if-is_settled.true) in
    from_more _ _ _ _ _ (λ past now. now.0)
    (subst (λ (s : ServiceState). Brings (g.W.World.tells c.args.world.now) (g.W.World.tells c.receive_datagram.new.world) (HoldsNow config (standing count wants (item ∷ items)) false s.slirp s.link)
    (λ past. HoldsNow config (standing count wants items) false c.receive_datagram.new.self link past × (is_left_to_read config past (Udp c.args.number) ≡ false))) c.self.view_is
    (c.receive_datagram.ensures.makes config count wants item items false link reported before.0))

pub returns-else-is_settled-clause-makes : goal.returns-else-is_settled-clause-makes
returns-else-is_settled-clause-makes g c config count wants item items reported =
    brings_none (λ past now. (
      passes_over config count wants item items c.args.self.now.slirp (flowing false c.args.self.now.slirp.flows) c.args.self.now.link past now.0,
      unless (is_left_to_read config past (Udp c.args.number)) (λ left. true_false (is_settled c.args.self.now.slirp c.args.self.now.link) (now.1 (Udp c.args.number) refl left)
          (sym c.is_settled.ensures ∙ c.if-is_settled.false)),
    ))
