use Rattle.std.proofs.Common.{sym, ◌∙◌, subst}
use Rattle.world_face.proofs.Telling.{makes_from}
use Rattle.stream_netdev.specs.Keeps.{ReadsOn}
use Rattle.stream_netdev.specs.State.{LinkState, under_way}
use Rattle.slirp_core.specs.State.{SlirpState}
use Rattle.slirp_core.proofs.Counted.{grown}
use Rattle.serve_loop.specs.Turns.{IsCalm}
use Rattle.serve_loop.proofs.Counted.{grown_then}
use Rattle.serve_loop.proofs.Turning.{none_is_calm}
use Rattle.serve_loop.proofs.Serving.{reads_new, refuses}
use Rattle.serve_loop.proofs.service.Service.start.Goals as goal

pub returns-in-Some-clause-makes : goal.returns-in-Some-clause-makes
returns-in-Some-clause-makes g c config given =
    let new = c.listen.new.self in
    refuses config c.in-Some.place c.close_all.new.self.slirp.number new.slirp new.link _ _ _ c.close_all.ensures.number (c.in-Some.ensures.makes config given) c.close_all.ensures.makes

pub returns-clause-makes : goal.returns-clause-makes
returns-clause-makes g c config given = makes_from (c.in_default.ensures.makes config given) (c.begin.ensures.makes config)

pub returns-clause-step : goal.returns-clause-step
returns-clause-step g c = record {
  counted = grown_then (g.W.World.tells c.args.world.now).faults (g.W.World.tells c.listen.new.world).faults (g.W.World.tells c.begin.new.world).faults
      (grown _ _ _ (c.in_default.ensures.makes c.args.self.now.slirp.config c.requires.given).counted) c.begin.ensures.counts;
  on = subst (λ (l : LinkState). ReadsOn (under_way l)) (sym (c.begin.ensures.link ∙ c.in_default.ensures.link)) (reads_new c.args.self.now c.requires);
}

pub returns-clause-calm : goal.returns-clause-calm
returns-clause-calm g c again =
    let mid = c.listen.new.self in
    let opens = c.in_default.ensures.makes c.args.self.now.slirp.config c.requires.given in
    subst (λ (s : SlirpState). IsCalm s c.begin.new.self.link) (sym c.begin.ensures.slirp)
    (subst (λ (l : LinkState). IsCalm mid.slirp l) (sym c.begin.ensures.link) (none_is_calm mid.slirp mid.link opens.holds.none))
