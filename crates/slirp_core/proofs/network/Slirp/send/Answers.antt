use Rattle.std.proofs.Common.{◌≡◌, ℕ, ◌≤◌, ◌+◌, ◌++◌, false, unwrap_or, Option, Some, sym, ◌∙◌, ap, subst}
use Rattle.world_face.specs.Tells.{Brings}
use Rattle.slirp_core.proofs.Telling.{brings_allowed}
use Rattle.slirp_settings.specs.Addresses.{Config}
use Rattle.udp_assoc.specs.Relays.{Relays}
use Rattle.spec_run.specs.Datagrams.{asks_a_name}
use Rattle.slirp_core.specs.Datagrams.{errand_of}
use Rattle.slirp_core.specs.Holds.{asked_by, HoldsAt, Holds, flowing}
use Rattle.slirp_core.specs.Replies.{outbound_of}
use Rattle.slirp_core.specs.State.{SlirpState}
use Rattle.slirp_core.proofs.Associating.{below_relayed, counts_up, draws_up, relayed}
use Rattle.slirp_core.proofs.Drawn.{asked_up, drawn_up}
use Rattle.slirp_core.proofs.Viewed.{state_of}
use Rattle.slirp_core.proofs.network.Slirp.send.Goals as goal

pub returns-clause-makes : goal.returns-clause-makes
returns-clause-makes g c config at aged link =
    let i = c.self.inside in
    let slirp : SlirpState = state_of i in
    let errand = errand_of c.args.datagram.now c.args.to in
    subst (λ (s : SlirpState). Brings (g.W.World.tells c.args.world.now) (g.W.World.tells c.guest-reply.new.world) (HoldsAt config at (asked_by config s (Some errand)) s
    (flowing aged s.flows) link) (Holds config at c.tell.new.self (flowing aged c.tell.new.self.flows) link)) c.self.view_is
    (brings_allowed c.guest-reply.ensures.relays (λ made relays allowed past holds.
    let other : asks_a_name config errand ≡ false = ap (λ (k : Config). asks_a_name k errand) (sym holds.guests.settings ∙ ap (λ (s : SlirpState). s.config) c.self.view_is) ∙ c.requires.other in
    let bind : i.associations.bind ≡ unwrap_or config.outbound 0 = c.self.invariant.2 ∙ ap (λ (k : Config). unwrap_or k.outbound 0) holds.guests.settings in
    subst (λ (s : SlirpState). Holds config at s (flowing aged s.flows) link (made ++ past)) (sym c.tell.ensures)
    (relayed config at (flowing aged i.flows) link slirp past errand other c.guest-reply.new.number c.guest-reply.new.self.list c.guest-reply.result made
    (subst (λ (o : Option ℕ). Relays (unwrap_or config.outbound 0) o (outbound_of errand) i.moment i.number c.guest-reply.new.number i.associations.list c.guest-reply.new.self.list
    c.guest-reply.result made) c.socket_for-forward.ensures
    (subst (λ (b : ℕ). Relays b c.socket_for-forward.result (outbound_of errand) i.moment i.number c.guest-reply.new.number i.associations.list c.guest-reply.new.self.list
    c.guest-reply.result made) bind relays)) allowed holds)))

pub returns-clause-number : goal.returns-clause-number
returns-clause-number g c =
    let i = c.self.inside in
    let errand = errand_of c.args.datagram.now c.args.to in
    let makes = c.guest-reply.ensures.relays in
    let most = counts_up i.associations.bind c.socket_for-forward.result errand i.moment i.number c.guest-reply.new.number i.associations.list c.guest-reply.new.self.list
    c.guest-reply.result makes.made makes.holds in
    subst (λ n. n ≤ c.args.self.now.number + 1) (sym (ap (λ (s : SlirpState). s.number) c.tell.ensures))
    (subst (λ n. c.guest-reply.new.number ≤ n + 1) (ap (λ (s : SlirpState). s.number) c.self.view_is) most)

pub invariant_of-self : goal.invariant_of-self
invariant_of-self g c =
    let i = c.self.inside in
    let errand = errand_of c.args.datagram.now c.args.to in
    let makes = c.guest-reply.ensures.relays in
    let up = draws_up i.associations.bind c.socket_for-forward.result errand i.moment i.number c.guest-reply.new.number i.associations.list c.guest-reply.new.self.list
    c.guest-reply.result makes.made makes.holds in (
      below_relayed i.associations.bind c.socket_for-forward.result errand i.moment i.number c.guest-reply.new.number i.associations.list c.guest-reply.new.self.list
          c.guest-reply.result makes.made makes.holds c.self.invariant.0,
      c.self.invariant.1,
      c.guest-reply.ensures.bind ∙ c.self.invariant.2,
      drawn_up i.number c.guest-reply.new.number i.flows up c.self.invariant.3,
      c.self.invariant.4,
      c.self.invariant.5,
      asked_up i.number c.guest-reply.new.number i.policy i.questions up c.self.invariant.6,
      c.self.invariant.7,
    )
