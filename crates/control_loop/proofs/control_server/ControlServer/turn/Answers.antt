use Rattle.std.proofs.Common.{◌≡◌, ◌+◌, ◌<◌, List, [], ◌++◌, refl, sym, ◌∙◌, ap, subst, append_assoc, arith}
use Rattle.world_face.proofs.Telling.{makes_as, makes_then}
use Rattle.poll_list.specs.declared.Want.{Want}
use Rattle.slirp_settings.specs.Addresses.{Config}
use Rattle.stream_netdev.specs.State.{LinkState, under_way}
use Rattle.slirp_core.specs.State.{SlirpState}
use Rattle.serve_loop.specs.Turns.{IsCalm}
use Rattle.rules_control.specs.Talk.{want_of}
use Rattle.poll_list.specs.Picks.{as_list}
use Rattle.stream_netdev.specs.Keeps.{ReadsOn}
use Rattle.rules_control.specs.Apart.{reported_of, without_control}
use Rattle.spec_control.specs.ControlServer.{control_server}
use Rattle.control_loop.specs.Standing.{Closes, Leads, Stands, with_lists}
use Rattle.control_loop.specs.declared.control_server.ControlServer.{ControlServer}
use Rattle.control_loop.proofs.Added.{has_just}
use Rattle.control_loop.proofs.Ending.{last_is}
use Rattle.control_loop.proofs.Turned.{ends, goes_on}
use Rattle.control_loop.proofs.Waits.{own_want}
use Rattle.control_loop.proofs.control_server.ControlServer.turn.Goals as goal

pub returns-in-Again-clause-makes : goal.returns-in-Again-clause-makes
returns-in-Again-clause-makes g c =
    let old = c.args.self.now in
    let mid = c.take_turn.new.self in
    let new = c.attend.new.self in
    let config = old.service.slirp.config in
    let set = c.requires.set in
    let item = want_of old.session in
    let ready = c.requires.ready.held in
    makes_then _ _ _ _ _ _ c.in-Again.ensures.makes c.attend.ensures.makes (λ made more turned leads read count reading few past stands.
    let seen = turned.0 in
    let d = control_server read config past in
    let went : Stands (c.take_turn.new.world).reported old.session mid.service.slirp mid.service.link read config (count + 1) (made ++ past) =
    subst (λ l. Stands l old.session mid.service.slirp mid.service.link read config (count + 1) (made ++ past)) (sym turned.3)
    (goes_on read config old.at count past set.given set.control ready.listens stands item (own_want old.session ready) refl mid.service.slirp mid.service.link made seen turned.1 turned.2
    (λ settings has. turned.4 settings count (subst (λ n. count < n) (ap (λ (k : Config). k.turns) has.given) few) (without_control past) (stands.agrees.network settings has))
    (omega (arith, c.take_turn.ensures.number, c.requires.fit.1.number, c.requires.fit.2)) (c.in-Again.ensures.forwards refl)) in
    let led = subst (λ (x : ControlServer). Leads x.service.slirp.config (Stands (c.take_turn.new.world).reported x.session mid.service.slirp mid.service.link) (Stands [] new.session new.service.slirp new.service.link) more)
    c.take_turn.ensures.others leads in
    let led_so = subst (λ (k : Config). Leads k (Stands (c.take_turn.new.world).reported old.session mid.service.slirp mid.service.link) (Stands [] new.session new.service.slirp new.service.link) more)
    c.take_turn.ensures.config led in
    subst (Stands [] new.session new.service.slirp new.service.link read config (count + 1)) (sym (append_assoc more made past)) (led_so read (count + 1) reading (omega arith) (made ++ past) went))

pub returns-in-Ended-clause-makes : goal.returns-in-Ended-clause-makes
returns-in-Ended-clause-makes g c =
    let old = c.args.self.now in
    let mid = c.take_turn.new.self in
    let config = old.service.slirp.config in
    let set = c.requires.set in
    let item = want_of old.session in
    let ready = c.requires.ready.held in
    makes_as _ _ _ _ c.in-Ended.ensures.makes (λ made turned read count reading few past stands.
    let d = control_server read config past in
    let just = with_lists config d.added d.removed in
    let before = without_control past in
    let attended = stands.agrees.network just (has_just config d.added d.removed set.given) in
    let ran = turned.4 just count few before attended in
    subst (λ (x : ControlServer). Closes c.in-Ended.end x.session read config (made ++ past)) (sym c.take_turn.ensures.others)
    (ends read config old.at count past set.given set.control ready.listens stands item (own_want old.session ready) refl c.in-Ended.end made turned.0 turned.1 turned.2 ran.0.0.0 ran.1 ran.0.0.1 ran.0.0.2
    (let counted = attended.0.clock.counted in let most = ran.0.1 in omega (arith, counted, most))
    (let drawn = ran.0.2 in omega (arith, drawn, c.take_turn.ensures.number, c.requires.fit.1.number, c.requires.fit.2))))

pub attend-requires-clause-reported : goal.attend-requires-clause-reported
attend-requires-clause-reported g c =
    let makes = c.in-Again.ensures.makes in
    let last = last_is (want_of c.args.self.now.session) makes.made in
    subst (λ (x : ControlServer). (ready : List Want) × ((c.take_turn.new.world).reported ≡ reported_of (as_list (want_of x.session)) ready)) (sym c.take_turn.ensures.others)
    (last.0, makes.holds.3 ∙ last.1)

pub returns-in-Again-clause-fit : goal.returns-in-Again-clause-fit
returns-in-Again-clause-fit g c count fit again =
    let mid = c.in-Again.ensures.fit count fit refl in
    let keeps = c.attend.ensures.keeps in
    let link = keeps.link in
    record {
      on = subst (λ (l : LinkState). ReadsOn (under_way l)) (sym link) mid.on;
      calm = subst (λ (s : SlirpState). IsCalm s (c.attend.new.self).service.link) (sym keeps.slirp) (subst (λ (l : LinkState). IsCalm (c.take_turn.new.self).service.slirp l) (sym link) mid.calm);
      number = omega (arith, keeps.number, c.take_turn.ensures.number, fit.number);
      turns = omega (arith, ap (λ (s : SlirpState). s.flows.turn) keeps.slirp, mid.turns);
    }
