use Rattle.std.proofs.Common.{◌≡◌, ◌∷◌, ◌++◌, ◌||◌, true, false, is_some, length, Option, sym, ◌∙◌, ap, subst}
use Rattle.net_octets.specs.declared.Endpoint.{Endpoint}
use Rattle.poll_list.specs.declared.Who.TheVariants.{Udp}
use Rattle.world_face.specs.Tells.{Brings}
use Rattle.world_face.proofs.Telling.{makes_as}
use Rattle.slirp_core.proofs.Telling.{brings_allowed}
use Rattle.rules_dns.specs.Questions.{numbered}
use Rattle.spec_trace.specs.Sockets.{is_among}
use Rattle.rules_udp.specs.Associations.{numbers}
use Rattle.udp_assoc.specs.Relays.{Hears}
use Rattle.spec_duties.specs.Serving.{is_left_to_read}
use Rattle.slirp_core.specs.Forwards.{guest_on}
use Rattle.slirp_core.specs.Hearing.{is_heard}
use Rattle.slirp_core.specs.Holds.{Holds, flowing, standing}
use Rattle.slirp_core.specs.State.{SlirpState}
use Rattle.slirp_core.proofs.Associating.{below_heard, heard, heard_by_peer, receives_on}
use Rattle.slirp_core.proofs.Counted.{grown}
use Rattle.slirp_core.proofs.Served.{datagram_is_read}
use Rattle.slirp_core.proofs.Viewed.{state_of}
use Rattle.slirp_core.proofs.network.Slirp.receive_from_peer.Goals as goal

pub returns-clause-receives : goal.returns-clause-receives
returns-clause-receives g c open_one =
    let i = c.self.inside in
    let slirp : SlirpState = state_of i in
    let open_here : is_heard c.args.number slirp ≡ true = ap (is_heard c.args.number) c.self.view_is ∙ open_one in
    let unasked : is_some (numbered c.args.number i.questions.list) ≡ false = ap (λ (s : SlirpState). is_some (numbered c.args.number s.questions)) c.self.view_is ∙ c.requires.unasked in
    let guest : c.guest_on-guest.result ≡ guest_on i.forwards c.args.number = c.guest_on-guest.ensures ∙ sym (ap (λ (s : SlirpState). guest_on s.forwards c.args.number) c.self.view_is) in
    makes_as _ _ _ _ c.host-reply.ensures.hears
    (λ made hears. receives_on c.guest_on-guest.result i.moment c.args.number (length c.args.into.now) c.host-reply.new.into i.associations.list c.host-reply.new.self.list c.host-reply.result made
    (ap (λ o. is_some o || is_among c.args.number (numbers i.associations.list)) guest ∙ heard_by_peer c.args.number slirp unasked open_here) hears)

pub returns-clause-makes : goal.returns-clause-makes
returns-clause-makes g c config count wants item items aged link reported out =
    let i = c.self.inside in
    let slirp : SlirpState = state_of i in
    let none = ap (λ (s : SlirpState). s.pending) c.self.view_is ∙ c.requires.none in
    let unasked : is_some (numbered c.args.number i.questions.list) ≡ false = ap (λ (s : SlirpState). is_some (numbered c.args.number s.questions)) c.self.view_is ∙ c.requires.unasked in
    let guest : c.guest_on-guest.result ≡ guest_on i.forwards c.args.number = c.guest_on-guest.ensures ∙ sym (ap (λ (s : SlirpState). guest_on s.forwards c.args.number) c.self.view_is) in
    subst (λ (s : SlirpState). Brings (g.W.World.tells c.args.world.now) (g.W.World.tells c.host-reply.new.world) (Holds config (standing count wants (item ∷ items)) s (flowing aged s.flows) link)
    (λ past. Holds config (standing count wants items) c.answer_peer.new.self (flowing aged c.answer_peer.new.self.flows) link past ×
    (is_left_to_read config past (Udp c.args.number) ≡ false))) c.self.view_is
    (brings_allowed c.host-reply.ensures.hears (λ made hears allowed past holds.
    let then_is : Holds config (standing count wants items) c.answer_peer.new.self (flowing aged c.answer_peer.new.self.flows) link (made ++ past) =
    subst (λ (s : SlirpState). Holds config (standing count wants items) s (flowing aged s.flows) link (made ++ past)) (sym c.answer_peer.ensures)
    (heard config count wants item items (flowing aged i.flows) link slirp past c.args.number
    (length c.args.into.now) c.host-reply.new.into c.host-reply.new.self.list c.host-reply.result made reported c.requires.room none out
    (subst (λ (o : Option Endpoint). Hears o i.moment c.args.number
    (length c.args.into.now) c.host-reply.new.into i.associations.list c.host-reply.new.self.list c.host-reply.result made) guest hears) allowed holds) in (
      then_is,
      datagram_is_read config count wants item items slirp c.answer_peer.new.self (flowing aged i.flows) (flowing aged c.answer_peer.new.self.flows) link link past made holds then_is c.args.number
          (λ open_one. receives_on c.guest_on-guest.result i.moment c.args.number (length c.args.into.now) c.host-reply.new.into i.associations.list c.host-reply.new.self.list c.host-reply.result made
          (ap (λ o. is_some o || is_among c.args.number (numbers i.associations.list)) guest ∙ heard_by_peer c.args.number slirp unasked open_one) hears),
    )))

pub returns-clause-counts : goal.returns-clause-counts
returns-clause-counts g c = grown _ _ _ c.host-reply.ensures.hears.counted

pub invariant_of-self : goal.invariant_of-self
invariant_of-self g c =
    let i = c.self.inside in
    let makes = c.host-reply.ensures.hears in (
      below_heard i.number c.guest_on-guest.result i.moment c.args.number
          (length c.args.into.now) c.host-reply.new.into i.associations.list c.host-reply.new.self.list c.host-reply.result makes.made makes.holds c.self.invariant.0,
      c.self.invariant.1,
      c.host-reply.ensures.bind ∙ c.self.invariant.2,
      c.self.invariant.3,
      c.self.invariant.4,
      c.self.invariant.5,
      c.self.invariant.6,
      c.self.invariant.7,
    )
