use Rattle.std.proofs.Common.{◌≡◌, ◌+◌, ◌<◌, List, [], ◌++◌, refl, sym, ◌∙◌, ap, subst, append_assoc, arith}
use Rattle.net_octets.specs.declared.Endpoint.{Endpoint}
use Rattle.net_octets.specs.declared.Ip4.{Ip4}
use Rattle.world_face.specs.Journal.{Entry}
use Rattle.world_face.proofs.Telling.{makes_none, makes_then}
use Rattle.slirp_settings.specs.Addresses.{Config}
use Rattle.slirp_core.proofs.Counted.{grown}
use Rattle.serve_loop.proofs.Counted.{end_after, end_before, grown_then}
use Rattle.serve_loop.specs.declared.service.End.TheVariants.{TurnsSpent}
use Rattle.rules_control.specs.Talk.{all_closed, want_of}
use Rattle.control_loop.specs.Runs.{RunsWith}
use Rattle.spec_control.specs.ControlServer.{Reads}
use Rattle.spec_control.specs.Laws.{IsReading}
use Rattle.control_loop.specs.Standing.{Closes, IsSet, Stands}
use Rattle.control_loop.specs.declared.control_server.ControlServer.{ControlServer}
use Rattle.control_loop.proofs.Ending.{spent_all}
use Rattle.control_loop.proofs.Over.{closed_all}
use Rattle.control_loop.proofs.Waits.{own_want}
use Rattle.control_loop.proofs.control_server.ControlServer.turn_on.Goals as goal

set_as : (config its : Config) (at here : Endpoint) (guest first : Ip4) → its ≡ config → here ≡ at → first ≡ guest → IsSet config at guest → IsSet its here first
set_as config its at here guest first same place leased set =
    subst (λ k. IsSet k here first) (sym same) (subst (λ e. IsSet config e first) (sym place) (subst (λ a. IsSet config at a) (sym leased) set))

pub loop-count-init : goal.loop-count-init
loop-count-init g c = record {
  makes = makes_none _ _ (λ read reading past stands. stands);
  ready = c.requires.ready;
  fit = c.requires.fit;
  had = c.requires.had;
  config = refl;
  at = refl;
  guest = refl;
  counts = (omega arith, omega arith, omega arith);
}

pub turn-requires-clause-ready : goal.turn-requires-clause-ready
turn-requires-clause-ready g c = c.loop-count.invariant.ready

pub turn-requires-clause-fit : goal.turn-requires-clause-fit
turn-requires-clause-fit g c = (c.loop-count._count, c.loop-count.invariant.fit, omega (arith, c.loop-count-test.true, c.requires.few), c.loop-count.invariant.had)

pub turn-requires-clause-set : goal.turn-requires-clause-set
turn-requires-clause-set g c =
    let i = c.loop-count.invariant in
    set_as c.args.self.now.service.slirp.config c.loop-count.self.service.slirp.config c.args.self.now.at c.loop-count.self.at c.args.self.now.guest c.loop-count.self.guest i.config i.at i.guest c.requires.set

pub loop-count-preserved : goal.loop-count-preserved
loop-count-preserved g c =
    let old = c.args.self.now in
    let config = old.service.slirp.config in
    let it = c.loop-count.self in
    let new = c.turn.new.self in
    let i = c.loop-count.invariant in
    let n = c.loop-count._count in
    let few : n < config.turns = omega (arith, c.loop-count-test.true, c.requires.turns) in
    record {
      makes = makes_then _ _ _ _ _ _ i.makes c.in-Again.ensures.makes (λ made more so_far turned read reading past stands.
          subst (Stands [] new.session new.service.slirp new.service.link read config (n + 1)) (sym (append_assoc more made past))
          (subst (λ (k : Config). Stands [] new.session new.service.slirp new.service.link read k (n + 1) (more ++ (made ++ past))) i.config
          (turned read n (subst (λ k. IsReading k read) (sym i.config) reading) (subst (λ (k : Config). n < k.turns) (sym i.config) few) (made ++ past)
          (subst (λ (k : Config). Stands [] it.session it.service.slirp it.service.link read k n (made ++ past)) (sym i.config) (so_far read reading past stands)))));
      ready = c.turn.ensures.ready;
      fit = c.in-Again.ensures.fit n i.fit refl;
      had = omega (arith, c.turn.ensures.had, i.had);
      config = c.turn.ensures.config ∙ i.config;
      at = ap (λ (x : ControlServer). x.at) c.turn.ensures.others ∙ i.at;
      guest = ap (λ (x : ControlServer). x.guest) c.turn.ensures.others ∙ i.guest;
      counts = grown_then (g.W.World.tells c.args.world.now.world).faults (g.W.World.tells c.loop-count.world.world).faults (g.W.World.tells c.turn.new.world.world).faults i.counts c.in-Again.ensures.counted;
    }

pub returns-in-Ended-clause-makes : goal.returns-in-Ended-clause-makes
returns-in-Ended-clause-makes g c =
    let old = c.args.self.now in
    let config = old.service.slirp.config in
    let it = c.loop-count.self in
    let new = c.turn.new.self in
    let i = c.loop-count.invariant in
    let n = c.loop-count._count in
    let few : n < config.turns = omega (arith, c.loop-count-test.true, c.requires.turns) in
    let ready = c.turn.ensures.ready.held in
    makes_then _ _ _ _ _ _ (makes_then _ _ _ _ _ (λ made. (read : Reads) → IsReading config read → (past : List Entry) → Stands [] old.session old.service.slirp old.service.link read config 0 past
    → Closes c.in-Ended.end new.session read config (made ++ past)) i.makes c.in-Ended.ensures.makes (λ made more so_far turned read reading past stands.
    subst (Closes c.in-Ended.end new.session read config) (sym (append_assoc more made past))
    (subst (λ k. Closes c.in-Ended.end new.session read k (more ++ (made ++ past))) i.config
    (turned read n (subst (λ k. IsReading k read) (sym i.config) reading) (subst (λ (k : Config). n < k.turns) (sym i.config) few) (made ++ past)
    (subst (λ (k : Config). Stands [] it.session it.service.slirp it.service.link read k n (made ++ past)) (sym i.config) (so_far read reading past stands)))))) c.leave.ensures.makes
    (λ made more so_far is read reading past stands.
    subst (RunsWith read config c.in-Ended.end) (sym (ap (λ l. (l ++ made) ++ past) is ∙ append_assoc (all_closed new.session) made past))
    (closed_all read config (made ++ past) ready.listens ready.above (so_far read reading past stands)))

pub returns-in-Ended-clause-faults : goal.returns-in-Ended-clause-faults
returns-in-Ended-clause-faults g c =
    let start = (g.W.World.tells c.args.world.now.world).faults in
    let now = (g.W.World.tells c.turn.new.world.world).faults in
    let last = (g.W.World.tells c.leave.new.world.world).faults in
    end_before c.in-Ended.end start now last (end_after c.in-Ended.end start (g.W.World.tells c.loop-count.world.world).faults now c.loop-count.invariant.counts c.in-Ended.ensures.counted) (grown _ _ _ c.leave.ensures.makes.counted)

pub returns-clause-makes : goal.returns-clause-makes
returns-clause-makes g c =
    let old = c.args.self.now in
    let config = old.service.slirp.config in
    let it = c.loop-count.self in
    let i = c.loop-count.invariant in
    let n = c.loop-count._count in
    let set = c.requires.set in
    let held = i.ready.held in
    let end = TurnsSpent c.args.turns in
    makes_then _ _ _ _ _ _ (makes_then _ _ _ _ _ (λ made. (read : Reads) → IsReading config read → (past : List Entry) → Stands [] old.session old.service.slirp old.service.link read config 0 past
    → Closes end it.session read config (made ++ past)) i.makes c.close_ports.ensures.makes (λ made more so_far closes read reading past stands.
    subst (Closes end it.session read config) (sym (append_assoc more made past))
    (spent_all it.session it.service read config old.at n (made ++ past) set.given set.control held.listens (so_far read reading past stands) (want_of it.session) (own_want it.session held) refl c.args.turns c.requires.turns
    (omega (arith, c.requires.some, c.requires.turns)) (omega (arith, c.loop-count-test.false, c.requires.turns)) (omega (arith, i.fit.number, c.loop-count.auto._count-end, c.requires.few)) more closes.0 closes.1 closes.2)))
    c.leave-2.ensures.makes
    (λ made more so_far is read reading past stands.
    let same : (c.close_ports.new.self).session ≡ it.session = ap (λ (x : ControlServer). x.session) c.close_ports.ensures.others in
    subst (RunsWith read config end) (sym (ap (λ l. (l ++ made) ++ past) (is ∙ ap all_closed same) ∙ append_assoc (all_closed it.session) made past))
    (closed_all read config (made ++ past) held.listens held.above (so_far read reading past stands)))
