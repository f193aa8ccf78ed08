use Rattle.std.proofs.Common.{◌≡◌, ℕ, List, ◌∷◌, ◌++◌, true, false, is_some, length, sym, ◌∙◌, ap, subst}
use Rattle.poll_list.specs.declared.Who.TheVariants.{Udp}
use Rattle.world_face.specs.Tells.{Brings}
use Rattle.world_face.proofs.Telling.{makes_as}
use Rattle.slirp_core.proofs.Telling.{brings_allowed}
use Rattle.slirp_settings.specs.Addresses.{Config}
use Rattle.rules_dns.specs.Questions.{numbered}
use Rattle.dns_relay.specs.State.{RelayState}
use Rattle.dns_relay.proofs.Below.{below_heard}
use Rattle.spec_duties.specs.Serving.{is_left_to_read}
use Rattle.slirp_core.specs.Holds.{Holds, flowing, standing}
use Rattle.slirp_core.specs.State.{SlirpState}
use Rattle.slirp_core.proofs.Asking.{heard, receives_on}
use Rattle.slirp_core.proofs.Counted.{grown}
use Rattle.slirp_core.proofs.Drawn.{asked_on}
use Rattle.slirp_core.proofs.Served.{datagram_is_read}
use Rattle.slirp_core.proofs.Viewed.{state_of}
use Rattle.slirp_core.proofs.network.Slirp.receive_answer.Goals as goal

pub returns-clause-receives : goal.returns-clause-receives
returns-clause-receives g c =
    let i = c.self.inside in
    let asked : is_some (numbered c.args.number i.questions.list) ≡ true = ap (λ (s : SlirpState). is_some (numbered c.args.number s.questions)) c.self.view_is ∙ c.requires.asked in
    makes_as _ _ _ _ c.answer-reply.ensures.hears (λ made hears. receives_on i.questions i.moment c.args.number
    (length c.args.into.now) c.answer-reply.new.into c.answer-reply.new.self.list c.answer-reply.result made asked hears)

pub returns-clause-makes : goal.returns-clause-makes
returns-clause-makes g c config count wants item items aged link reported out =
    let i = c.self.inside in
    let slirp : SlirpState = state_of i in
    let then_is : SlirpState = record slirp { questions = c.answer-reply.new.self.list; pending = c.put_reply.new.outgoing } in
    let none = ap (λ (s : SlirpState). s.pending) c.self.view_is ∙ c.requires.none in
    let asked : is_some (numbered c.args.number i.questions.list) ≡ true = ap (λ (s : SlirpState). is_some (numbered c.args.number s.questions)) c.self.view_is ∙ c.requires.asked in
    subst (λ (s : SlirpState). Brings (g.W.World.tells c.args.world.now) (g.W.World.tells c.answer-reply.new.world) (Holds config (standing count wants (item ∷ items)) s (flowing aged s.flows) link)
    (λ past. Holds config (standing count wants items) then_is (flowing aged i.flows) link past × (is_left_to_read config past (Udp c.args.number) ≡ false))) c.self.view_is
    (brings_allowed c.answer-reply.ensures.hears (λ made hears allowed past holds.
    let settings : i.questions ≡ record { bind = i.questions.bind; resolver = config.resolver; name_server = config.vnameserver; list = i.questions.list } =
    ap (λ (r : RelayState). record r { bind = i.questions.bind }) c.self.invariant.6.is
    ∙ ap (λ (k : Config). record { bind = i.questions.bind; resolver = k.resolver; name_server = k.vnameserver; list = i.questions.list }) holds.guests.settings in
    let holds_then : Holds config (standing count wants items) then_is (flowing aged i.flows) link (made ++ past) =
    subst (λ (p : List (List ℕ)). Holds config (standing count wants items) (record then_is { pending = p }) (flowing aged i.flows) link (made ++ past)) (sym c.put_reply.ensures)
    (heard config count wants item items (flowing aged i.flows) link slirp i.questions settings past c.args.number
    (length c.args.into.now) c.answer-reply.new.into c.answer-reply.new.self.list c.answer-reply.result made reported c.requires.room none out hears allowed holds) in (
      holds_then,
      datagram_is_read config count wants item items slirp then_is (flowing aged i.flows) (flowing aged i.flows) link link past made holds holds_then c.args.number
          (λ open_one. receives_on i.questions i.moment c.args.number (length c.args.into.now) c.answer-reply.new.into c.answer-reply.new.self.list c.answer-reply.result made asked hears),
    )))

pub returns-clause-counts : goal.returns-clause-counts
returns-clause-counts g c = grown _ _ _ c.answer-reply.ensures.hears.counted

pub invariant_of-self : goal.invariant_of-self
invariant_of-self g c =
    let i = c.self.inside in
    let makes = c.answer-reply.ensures.hears in (
      c.self.invariant.0,
      c.self.invariant.1,
      c.self.invariant.2,
      c.self.invariant.3,
      c.self.invariant.4,
      c.self.invariant.5,
      asked_on i.number i.policy i.questions c.answer-reply.new.self c.answer-reply.ensures.rest
          (below_heard i.number i.questions i.moment c.args.number (length c.args.into.now) c.answer-reply.new.into c.answer-reply.new.self.list c.answer-reply.result makes.made
          makes.holds c.self.invariant.6.below) c.self.invariant.6.is,
      c.self.invariant.7,
    )
