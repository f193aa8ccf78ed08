use Rattle.std.proofs.Common.{◌++◌, rules, refl, true, subst, sym}
use Rattle.world_face.specs.Tells.{Brings}
use Rattle.world_face.proofs.Telling.{brings_none, brings_then}
use Rattle.serve_loop.specs.Served.{ServiceState}
use Rattle.slirp_core.specs.State.{SlirpState}
use Rattle.serve_loop.specs.Turns.{AfterTurn, AllSent, AreYoung, HoldsNow, IsCalm, IsInTime, NoneTold}
use Rattle.serve_loop.proofs.Left.{none_told}
use Rattle.serve_loop.proofs.Turning.{still_sent}
use Rattle.serve_loop.specs.declared.service.Turn.TheVariants.{Ended as TurnEnded}
use Rattle.serve_loop.proofs.Counted.{grown_then}
use Rattle.serve_loop.proofs.service.Service.send_all.Goals as goal

pub returns-in-Ended-clause-makes : goal.returns-in-Ended-clause-makes
returns-in-Ended-clause-makes g c config at =
    let new = c.pump.new in
    let link = c.self.inside.link in
    subst (λ (s : ServiceState). Brings (g.W.World.tells c.args.world.now) (g.W.World.tells new.world) (HoldsNow config at true s.slirp s.link)
    (AfterTurn (TurnEnded c.in-Ended.end) config at true new.self.slirp new.self.link)) c.self.view_is
    (brings_then (brings_none (λ past holds. c.send_again.ensures.holds config at link past holds)) (c.in-Ended.ensures.makes config at true))

pub loop-self-init : goal.loop-self-init
loop-self-init g c =
    let new = c.pump.new in
    let link = c.self.inside.link in
    record {
      makes = λ config at. subst (λ (s : ServiceState). Brings (g.W.World.tells c.args.world.now) (g.W.World.tells new.world) (HoldsNow config at true s.slirp s.link)
          (HoldsNow config at true new.self.slirp new.self.link)) c.self.view_is
          (brings_then (brings_none (λ past holds. c.send_again.ensures.holds config at link past holds)) (c.in_default.ensures.makes config at true));
      sent = c.in_default.ensures.sent refl;
      connects = λ config at past holds early.
          let before = subst (λ (s : ServiceState). HoldsNow config at true s.slirp s.link past) (sym c.self.view_is) holds in
          c.in_default.ensures.connects config at true past (c.send_again.ensures.holds config at link past before) refl
          (subst (λ (x : SlirpState). IsInTime x link) (sym c.send_again.ensures.others) (subst (λ (s : ServiceState). IsInTime s.slirp s.link) (sym c.self.view_is) early));
      calm = c.in_default.ensures.calm refl;
      young = λ young. c.in_default.ensures.young (subst AreYoung (sym c.send_again.ensures.others) (subst (λ (s : ServiceState). AreYoung s.slirp) (sym c.self.view_is) young));
      untold = λ none. none_told c.send_again.new.self.number c.send_again.new.self new.self.slirp c.in_default.ensures.marks (subst NoneTold (sym c.send_again.ensures.others)
          (subst (λ (s : ServiceState). NoneTold s.slirp) (sym c.self.view_is) none));
      counts = c.in_default.ensures.step.counted;
      on = c.in_default.ensures.step.on;
      config = search rules;
      forwards = search rules;
      number = search rules;
      turns = search rules;
    }

pub loop-self-preserved : goal.loop-self-preserved
loop-self-preserved g c =
    let new = c.pump-in-loop-self.new in
    let before = c.loop-self in
    let link = c.self-in-loop-self.inside.link in
    record {
      makes = λ config at. brings_then (before.invariant.makes config at)
          (subst (λ (s : ServiceState). Brings (g.W.World.tells before.world) (g.W.World.tells new.world) (HoldsNow config at true s.slirp s.link)
          (HoldsNow config at true new.self.slirp new.self.link)) c.self-in-loop-self.view_is
          (brings_then (brings_none (λ past holds. c.send_again-in-loop-self.ensures.holds config at link past holds)) (c.in-Again.ensures.makes config at true)));
      counts = grown_then (g.W.World.tells c.args.world.now).faults (g.W.World.tells before.world).faults (g.W.World.tells new.world).faults before.invariant.counts c.in-Again.ensures.step.counted;
      sent = c.in-Again.ensures.sent refl;
      connects = λ config at past holds early.
          let made = before.invariant.makes config at in
          let now = subst (λ (s : ServiceState). HoldsNow config at true s.slirp s.link (made.made ++ past)) (sym c.self-in-loop-self.view_is) (made.brings past holds) in
          c.in-Again.ensures.connects config at true (made.made ++ past) (c.send_again-in-loop-self.ensures.holds config at link (made.made ++ past) now) refl
          (subst (λ (x : SlirpState). IsInTime x link) (sym c.send_again-in-loop-self.ensures.others) (subst (λ (s : ServiceState). IsInTime s.slirp s.link)
          (sym c.self-in-loop-self.view_is) (before.invariant.connects config at past holds early)));
      calm = c.in-Again.ensures.calm refl;
      young = λ young. c.in-Again.ensures.young (subst AreYoung (sym c.send_again-in-loop-self.ensures.others) (subst (λ (s : ServiceState). AreYoung s.slirp)
          (sym c.self-in-loop-self.view_is) (before.invariant.young young)));
      untold = λ none. none_told c.send_again-in-loop-self.new.self.number c.send_again-in-loop-self.new.self new.self.slirp c.in-Again.ensures.marks
          (subst NoneTold (sym c.send_again-in-loop-self.ensures.others) (subst (λ (s : ServiceState). NoneTold s.slirp) (sym c.self-in-loop-self.view_is) (before.invariant.untold none)));
      on = c.in-Again.ensures.step.on;
      config = search rules;
      forwards = search rules;
      number = search rules;
      turns = search rules;
    }

pub returns-in-Ended-pump-clause-makes : goal.returns-in-Ended-pump-clause-makes
returns-in-Ended-pump-clause-makes g c config at =
    let new = c.pump-in-loop-self.new in
    let before = c.loop-self in
    let link = c.self-in-loop-self.inside.link in
    brings_then (before.invariant.makes config at)
    (subst (λ (s : ServiceState). Brings (g.W.World.tells before.world) (g.W.World.tells new.world) (HoldsNow config at true s.slirp s.link)
    (AfterTurn (TurnEnded c.in-Ended-pump.end) config at true new.self.slirp new.self.link)) c.self-in-loop-self.view_is
    (brings_then (brings_none (λ past holds. c.send_again-in-loop-self.ensures.holds config at link past holds)) (c.in-Ended-pump.ensures.makes config at true)))

pub returns-clause-makes : goal.returns-clause-makes
returns-clause-makes g c config at =
    let before = c.loop-self in
    let link = c.self-in-loop-self.inside.link in
    let new = c.send_again-in-loop-self.new.self in
    brings_then (before.invariant.makes config at)
    (subst (λ (s : ServiceState). Brings (g.W.World.tells before.world) (g.W.World.tells before.world) (HoldsNow config at true s.slirp s.link)
    (HoldsNow config at true new link)) c.self-in-loop-self.view_is
    (brings_none (λ past holds. c.send_again-in-loop-self.ensures.holds config at link past holds)))

pub returns-clause-sent : goal.returns-clause-sent
returns-clause-sent g c again free =
    let still = c.send_again-in-loop-self.ensures.still c.loop-self-test.false in
    still_sent c.self-in-loop-self.inside.slirp c.send_again-in-loop-self.new.self c.self-in-loop-self.inside.link still
    (subst (λ (s : ServiceState). AllSent s.slirp s.link) (sym c.self-in-loop-self.view_is) c.loop-self.invariant.sent) free

pub returns-clause-young : goal.returns-clause-young
returns-clause-young g c young =
    subst AreYoung (sym c.send_again-in-loop-self.ensures.others) (subst (λ (s : ServiceState). AreYoung s.slirp) (sym c.self-in-loop-self.view_is) (c.loop-self.invariant.young young))

pub returns-clause-connects : goal.returns-clause-connects
returns-clause-connects g c config at past holds again early =
    let link = c.self-in-loop-self.inside.link in
    subst (λ (x : SlirpState). IsInTime x link) (sym c.send_again-in-loop-self.ensures.others) (subst (λ (s : ServiceState). IsInTime s.slirp s.link)
    (sym c.self-in-loop-self.view_is) (c.loop-self.invariant.connects config at past holds early))

pub returns-clause-calm : goal.returns-clause-calm
returns-clause-calm g c again =
    let link = c.self-in-loop-self.inside.link in
    subst (λ (x : SlirpState). IsCalm x link) (sym c.send_again-in-loop-self.ensures.others) (subst (λ (s : ServiceState). IsCalm s.slirp s.link)
    (sym c.self-in-loop-self.view_is) c.loop-self.invariant.calm)

pub returns-in-Ended-clause-young : goal.returns-in-Ended-clause-young
returns-in-Ended-clause-young g c young = c.in-Ended.ensures.young (subst AreYoung (sym c.send_again.ensures.others) (subst (λ (s : ServiceState). AreYoung s.slirp) (sym c.self.view_is) young))

pub returns-in-Ended-pump-clause-young : goal.returns-in-Ended-pump-clause-young
returns-in-Ended-pump-clause-young g c young =
    c.in-Ended-pump.ensures.young (subst AreYoung (sym c.send_again-in-loop-self.ensures.others) (subst (λ (s : ServiceState). AreYoung s.slirp) (sym c.self-in-loop-self.view_is)
    (c.loop-self.invariant.young young)))

pub returns-clause-untold : goal.returns-clause-untold
returns-clause-untold g c none =
    subst NoneTold (sym c.send_again-in-loop-self.ensures.others) (subst (λ (s : ServiceState). NoneTold s.slirp) (sym c.self-in-loop-self.view_is) (c.loop-self.invariant.untold none))

pub returns-in-Ended-clause-untold : goal.returns-in-Ended-clause-untold
returns-in-Ended-clause-untold g c none =
    none_told c.send_again.new.self.number c.send_again.new.self c.pump.new.self.slirp c.in-Ended.ensures.marks (subst NoneTold (sym c.send_again.ensures.others)
    (subst (λ (s : ServiceState). NoneTold s.slirp) (sym c.self.view_is) none))

pub returns-in-Ended-pump-clause-untold : goal.returns-in-Ended-pump-clause-untold
returns-in-Ended-pump-clause-untold g c none =
    none_told c.send_again-in-loop-self.new.self.number c.send_again-in-loop-self.new.self c.pump-in-loop-self.new.self.slirp c.in-Ended-pump.ensures.marks
    (subst NoneTold (sym c.send_again-in-loop-self.ensures.others) (subst (λ (s : ServiceState). NoneTold s.slirp) (sym c.self-in-loop-self.view_is) (c.loop-self.invariant.untold none)))
