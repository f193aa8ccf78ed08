use Rattle.std.proofs.Common.{◌≡◌, ℕ, ◌≤◌, ◌+◌, ◌++◌, true, Some, sym, ◌∙◌, ap, subst}
use Rattle.world_face.specs.Tells.{Brings}
use Rattle.slirp_core.proofs.Telling.{brings_allowed}
use Rattle.slirp_settings.specs.Addresses.{Config}
use Rattle.dns_relay.specs.Asking.{bind_for}
use Rattle.dns_relay.specs.Relaying.{Relays}
use Rattle.dns_relay.specs.State.{RelayState}
use Rattle.dns_relay.proofs.Below.{below_relayed}
use Rattle.spec_run.specs.Datagrams.{asks_a_name}
use Rattle.slirp_core.specs.Datagrams.{errand_of}
use Rattle.slirp_core.specs.Holds.{asked_by, HoldsAt, Holds, flowing}
use Rattle.slirp_core.specs.Replies.{asked_of}
use Rattle.slirp_core.specs.State.{SlirpState}
use Rattle.slirp_core.proofs.Asking.{asked, counts_up, draws_up}
use Rattle.slirp_core.proofs.Drawn.{asked_on, below_up, drawn_up}
use Rattle.slirp_core.proofs.Viewed.{state_of}
use Rattle.slirp_core.proofs.network.Slirp.ask.Goals as goal

pub returns-clause-makes : goal.returns-clause-makes
returns-clause-makes g c config at aged link =
    let i = c.self.inside in
    let slirp : SlirpState = state_of i in
    let errand = errand_of c.args.datagram.now c.args.to in
    subst (λ (s : SlirpState). Brings (g.W.World.tells c.args.world.now) (g.W.World.tells c.query-reply.new.world) (HoldsAt config at (asked_by config s (Some errand)) s
    (flowing aged s.flows) link) (Holds config at c.tell.new.self (flowing aged c.tell.new.self.flows) link)) c.self.view_is
    (brings_allowed c.query-reply.ensures.relays (λ made relays allowed past holds.
    let name : asks_a_name config errand ≡ true = ap (λ (k : Config). asks_a_name k errand) (sym holds.guests.settings ∙ ap (λ (s : SlirpState). s.config) c.self.view_is) ∙ c.requires.name in
    let bind : i.questions.bind ≡ bind_for config = ap (λ (r : RelayState). r.bind) c.self.invariant.6.is ∙ ap bind_for holds.guests.settings in
    subst (λ (s : SlirpState). Holds config at s (flowing aged s.flows) link (made ++ past)) (sym c.tell.ensures)
    (asked config at (flowing aged i.flows) link slirp past errand name c.query-reply.new.number c.query-reply.new.self.list c.query-reply.result made
    (subst (λ (b : ℕ). Relays b (asked_of errand) i.moment i.number c.query-reply.new.number i.questions.list c.query-reply.new.self.list c.query-reply.result made) bind relays) allowed holds)))

pub returns-clause-number : goal.returns-clause-number
returns-clause-number g c =
    let i = c.self.inside in
    let errand = errand_of c.args.datagram.now c.args.to in
    let makes = c.query-reply.ensures.relays in
    let most = counts_up i.questions.bind (asked_of errand) i.moment i.number c.query-reply.new.number i.questions.list c.query-reply.new.self.list c.query-reply.result makes.made makes.holds in
    subst (λ n. n ≤ c.args.self.now.number + 1) (sym (ap (λ (s : SlirpState). s.number) c.tell.ensures))
    (subst (λ n. c.query-reply.new.number ≤ n + 1) (ap (λ (s : SlirpState). s.number) c.self.view_is) most)

pub invariant_of-self : goal.invariant_of-self
invariant_of-self g c =
    let i = c.self.inside in
    let errand = errand_of c.args.datagram.now c.args.to in
    let makes = c.query-reply.ensures.relays in
    let up = draws_up i.questions.bind (asked_of errand) i.moment i.number c.query-reply.new.number i.questions.list c.query-reply.new.self.list c.query-reply.result makes.made makes.holds in (
      below_up i.number c.query-reply.new.number _ up c.self.invariant.0,
      c.self.invariant.1,
      c.self.invariant.2,
      drawn_up i.number c.query-reply.new.number i.flows up c.self.invariant.3,
      c.self.invariant.4,
      c.self.invariant.5,
      asked_on c.query-reply.new.number i.policy i.questions c.query-reply.new.self c.query-reply.ensures.rest
          (below_relayed i.questions.bind (asked_of errand) i.moment i.number c.query-reply.new.number i.questions.list c.query-reply.new.self.list c.query-reply.result makes.made
          makes.holds c.self.invariant.6.below) c.self.invariant.6.is,
      c.self.invariant.7,
    )
