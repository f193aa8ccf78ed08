use Rattle.std.proofs.Common.{rules, ◌≡◌, false, ◌∷◌, Some, refl, sym, ◌∙◌, ap, subst}
use Rattle.world_face.specs.Frames.{LinkEnded, LinkCut, LongFrame, LinkFailed}
use Rattle.world_face.specs.Tells.{Brings}
use Rattle.poll_list.specs.declared.Who.TheVariants.{Link as TheLink}
use Rattle.world_face.proofs.Telling.{brings_as, brings_none, brings_then}
use Rattle.spec_duties.specs.Serving.{is_left_to_read}
use Rattle.stream_netdev.specs.declared.Arrived.TheVariants.{NotYet, End, Cut, TooLong, Failed}
use Rattle.slirp_core.specs.Holds.{flowing, standing}
use Rattle.serve_loop.specs.Turns.{AfterTurn, HoldsNow}
use Rattle.slirp_core.specs.Pumps.{is_settled}
use Rattle.serve_loop.specs.Served.{ServiceState}
use Rattle.serve_loop.specs.declared.service.Turn.TheVariants.{Again, Ended as TurnEnded}
use Rattle.serve_loop.specs.declared.service.End.TheVariants.{Done, Cut as EndCut, TooLong as EndLong, LinkFault}
use Rattle.slirp_core.proofs.Associating.{passes_over}
use Rattle.slirp_core.proofs.Telling.{brings_allowed, from_more}
use Rattle.slirp_core.proofs.Brought.{came_waits}
use Rattle.serve_loop.proofs.Taking.{nothing_came, read_ended}
use Rattle.serve_loop.proofs.Turning.{ended_as, settled}
use Rattle.serve_loop.proofs.Attending.{frame_was_read, none_came, read_then}
use Rattle.serve_loop.proofs.Left.{true_false, unless}
use Rattle.slirp_core.proofs.Counted.{grown}
use Rattle.serve_loop.proofs.Counted.{grown_then}
use Rattle.serve_loop.proofs.service.Service.receive_frame.Goals as goal

pub returns-then-not-is_settled-clause-makes : goal.returns-then-not-is_settled-clause-makes
returns-then-not-is_settled-clause-makes g c config count wants item items reads_it = brings_none (λ past now. (
  passes_over config count wants item items c.args.self.now.slirp (flowing false c.args.self.now.slirp.flows) c.args.self.now.link past now.0,
  λ again. unless (is_left_to_read config past TheLink) (λ left. true_false (is_settled c.args.self.now.slirp c.args.self.now.link) (now.1 TheLink refl left)
      (sym c.is_settled.ensures ∙ c.if-not-is_settled.true)),
))

pub returns-in-Frame-clause-makes : goal.returns-in-Frame-clause-makes
returns-in-Frame-clause-makes g c config count wants item items reads_it =
    let slirp = c.self.inside.slirp in
    let link = c.self.inside.link in
    let new = c.read_frame.new in
    let before = settled slirp link (ap (λ (s : ServiceState). is_settled s.slirp s.link) c.self.view_is ∙ sym c.is_settled.ensures ∙ c.if-not-is_settled.false) in
    let frame = c.frame.result.now in
    let came = brings_allowed c.in-Frame.ensures.makes (λ made read allowed past holds. (
      record { before = link; past = past; made = made; is = refl; holds = holds; out = before.0; allowed = allowed; reads = read.1; came = ap Some (sym c.frame.ensures) },
      frame_was_read config made past new.self read.0 (read.1 past holds.keeps).1,
    )) in
    let done = subst (λ (s : ServiceState). Brings (g.W.World.tells c.args.world.now) (g.W.World.tells c.input.new.world)
    (HoldsNow config (standing count wants (item ∷ items)) false s.slirp s.link)
    (λ past. AfterTurn Again config (standing count wants items) false c.input.new.self new.self past × (is_left_to_read config past TheLink ≡ false))) c.self.view_is
    (brings_then came (read_then config (c.input.ensures.makes config count wants item items new.self reads_it)
    (λ past made it after. after.clock.counted ∙ sym (came_waits config (standing count wants (item ∷ items)) slirp new.self frame past it)))) in
    from_more _ _ _ _ _ (λ past now. now.0) (brings_as done (λ past now. (now.0, λ again. now.1)))

pub returns-in-NotYet-clause-makes : goal.returns-in-NotYet-clause-makes
returns-in-NotYet-clause-makes g c config count wants item items reads_it =
    let slirp = c.self.inside.slirp in
    let link = c.self.inside.link in
    let new = c.read_frame.new in
    let before = settled slirp link (ap (λ (s : ServiceState). is_settled s.slirp s.link) c.self.view_is ∙ sym c.is_settled.ensures ∙ c.if-not-is_settled.false) in
    from_more _ _ _ _ _ (λ past now. now.0)
    (subst (λ (s : ServiceState). Brings (g.W.World.tells c.args.world.now) (g.W.World.tells new.world) (HoldsNow config (standing count wants (item ∷ items)) false s.slirp s.link)
    (λ past. AfterTurn Again config (standing count wants items) false slirp new.self past × (Again ≡ Again → is_left_to_read config past TheLink ≡ false))) c.self.view_is
    (brings_allowed c.in-NotYet.ensures.makes (λ made read allowed past holds.
    let came = nothing_came config count wants item items reads_it slirp link new.self NotYet before.1 before.0 made past allowed read.1 holds refl refl in
    (came, λ again. none_came config made past read.0 (came.clock.counted ∙ sym holds.clock.counted)))))

pub returns-in-End-clause-makes : goal.returns-in-End-clause-makes
returns-in-End-clause-makes g c config count wants item items reads_it =
    let slirp = c.self.inside.slirp in
    let link = c.self.inside.link in
    let new = c.read_frame.new in
    let before = settled slirp link (ap (λ (s : ServiceState). is_settled s.slirp s.link) c.self.view_is ∙ sym c.is_settled.ensures ∙ c.if-not-is_settled.false) in
    from_more _ _ _ _ _ (λ past now. now.0)
    (subst (λ (s : ServiceState). Brings (g.W.World.tells c.args.world.now) (g.W.World.tells new.world) (HoldsNow config (standing count wants (item ∷ items)) false s.slirp s.link)
    (λ past. AfterTurn (TurnEnded (Done)) config (standing count wants items) false slirp new.self past × ((TurnEnded (Done)) ≡ Again → is_left_to_read config past TheLink ≡ false))) c.self.view_is
    (brings_allowed c.in-End.ensures.makes (λ made read allowed past holds. (
      ended_as config count (LinkEnded) slirp _
          (read_ended config count wants item items reads_it slirp link new.self (End) before.1 before.0 made past allowed read.1 holds (LinkEnded) refl refl),
      λ again. absurd cc,
    ))))

pub returns-in-Cut-clause-makes : goal.returns-in-Cut-clause-makes
returns-in-Cut-clause-makes g c config count wants item items reads_it =
    let slirp = c.self.inside.slirp in
    let link = c.self.inside.link in
    let new = c.read_frame.new in
    let before = settled slirp link (ap (λ (s : ServiceState). is_settled s.slirp s.link) c.self.view_is ∙ sym c.is_settled.ensures ∙ c.if-not-is_settled.false) in
    from_more _ _ _ _ _ (λ past now. now.0)
    (subst (λ (s : ServiceState). Brings (g.W.World.tells c.args.world.now) (g.W.World.tells new.world) (HoldsNow config (standing count wants (item ∷ items)) false s.slirp s.link)
    (λ past. AfterTurn (TurnEnded (EndCut c.in-Cut.n)) config (standing count wants items) false slirp new.self past ×
    ((TurnEnded (EndCut c.in-Cut.n)) ≡ Again → is_left_to_read config past TheLink ≡ false))) c.self.view_is
    (brings_allowed c.in-Cut.ensures.makes (λ made read allowed past holds. (
      ended_as config count (LinkCut c.in-Cut.n) slirp _
          (read_ended config count wants item items reads_it slirp link new.self (Cut c.in-Cut.n) before.1 before.0 made past allowed read.1 holds (LinkCut c.in-Cut.n) refl refl),
      λ again. absurd cc,
    ))))

pub returns-in-TooLong-clause-makes : goal.returns-in-TooLong-clause-makes
returns-in-TooLong-clause-makes g c config count wants item items reads_it =
    let slirp = c.self.inside.slirp in
    let link = c.self.inside.link in
    let new = c.read_frame.new in
    let before = settled slirp link (ap (λ (s : ServiceState). is_settled s.slirp s.link) c.self.view_is ∙ sym c.is_settled.ensures ∙ c.if-not-is_settled.false) in
    from_more _ _ _ _ _ (λ past now. now.0)
    (subst (λ (s : ServiceState). Brings (g.W.World.tells c.args.world.now) (g.W.World.tells new.world) (HoldsNow config (standing count wants (item ∷ items)) false s.slirp s.link)
    (λ past. AfterTurn (TurnEnded (EndLong c.in-TooLong.n)) config (standing count wants items) false slirp new.self past × ((TurnEnded (EndLong c.in-TooLong.n)) ≡ Again →
    is_left_to_read config past TheLink ≡ false))) c.self.view_is
    (brings_allowed c.in-TooLong.ensures.makes (λ made read allowed past holds. (
      ended_as config count (LongFrame c.in-TooLong.n) slirp _
          (read_ended config count wants item items reads_it slirp link new.self (TooLong c.in-TooLong.n) before.1 before.0 made past allowed read.1 holds
          (LongFrame c.in-TooLong.n) refl refl),
      λ again. absurd cc,
    ))))

pub returns-in-Failed-clause-makes : goal.returns-in-Failed-clause-makes
returns-in-Failed-clause-makes g c config count wants item items reads_it =
    let slirp = c.self.inside.slirp in
    let link = c.self.inside.link in
    let new = c.read_frame.new in
    let before = settled slirp link (ap (λ (s : ServiceState). is_settled s.slirp s.link) c.self.view_is ∙ sym c.is_settled.ensures ∙ c.if-not-is_settled.false) in
    from_more _ _ _ _ _ (λ past now. now.0)
    (subst (λ (s : ServiceState). Brings (g.W.World.tells c.args.world.now) (g.W.World.tells new.world) (HoldsNow config (standing count wants (item ∷ items)) false s.slirp s.link)
    (λ past. AfterTurn (TurnEnded (LinkFault)) config (standing count wants items) false slirp new.self past ×
    ((TurnEnded (LinkFault)) ≡ Again → is_left_to_read config past TheLink ≡ false))) c.self.view_is
    (brings_allowed c.in-Failed.ensures.makes (λ made read allowed past holds. (
      ended_as config count (LinkFailed) slirp _
          (read_ended config count wants item items reads_it slirp link new.self (Failed) before.1 before.0 made past allowed read.1 holds (LinkFailed) refl refl),
      λ again. absurd cc,
    ))))

pub returns-in-Failed-clause-step : goal.returns-in-Failed-clause-step
returns-in-Failed-clause-step g c = record { counted = c.in-Failed.ensures.failed refl; on = tt }

pub returns-in-Frame-clause-step : goal.returns-in-Frame-clause-step
returns-in-Frame-clause-step g c =
    record {
      counted = grown_then (g.W.World.tells c.args.world.now).faults (g.W.World.tells c.read_frame.new.world).faults (g.W.World.tells c.input.new.world).faults
          (grown _ _ _ c.in-Frame.ensures.makes.counted) c.input.ensures.counts;
      on = search rules;
    }

pub returns-in-NotYet-clause-step : goal.returns-in-NotYet-clause-step
returns-in-NotYet-clause-step g c = record { counted = grown _ _ _ c.in-NotYet.ensures.makes.counted; on = search rules }
