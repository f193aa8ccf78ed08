use Rattle.std.proofs.Common.{Bool, [], refl, ◌∙◌, subst}
use Rattle.world_face.specs.Tells.{Makes}
use Rattle.world_face.proofs.Telling.{makes_none, makes_then}
use Rattle.slirp_core.specs.Forwards.{AreCloses, ClosesForward}
use Rattle.slirp_core.specs.Holds.{ClosesNext, holders_of}
use Rattle.slirp_core.proofs.Alone.{all_left, none_left, one_less}
use Rattle.slirp_core.proofs.Closes.{close_then, none_closed}
use Rattle.slirp_core.proofs.Closing.{closes_last, closes_on}
use Rattle.slirp_core.proofs.network.Slirp.close_all.Goals as goal

pub loop-init : goal.loop-init
loop-init g c = record {
  makes = makes_none _ _ (λ config over past closing. closing, none_closed [] refl);
  ports = λ nothing. (nothing, makes_none _ _ (all_left c.args.self.now.forwards));
  config = refl;
  number = refl;
  turn = refl;
}

pub loop-smaller : goal.loop-smaller
loop-smaller g c = c.close_next.ensures.fewer c.loop-test.true

pub loop-preserved : goal.loop-preserved
loop-preserved g c =
    let first = c.args.self.now in
    let old = c.loop.self in
    let new = c.close_next.new in
    record {
      makes = makes_then _ _ _ _ _ _ c.loop.invariant.makes
          (subst (λ (b : Bool). Makes (g.W.World.tells c.loop.world) (g.W.World.tells new.world)
          (λ made. ClosesNext b old.forwards new.self.forwards (holders_of old) (holders_of new.self) made × AreCloses made)) c.loop-test.true c.close_next.ensures.makes)
          (λ made more closes later. (
            closes_on first.forwards old.forwards new.self.forwards (holders_of first) (holders_of old) (holders_of new.self) made more closes.0 later.0,
            close_then more made later.1 closes.1,
          ));
      ports = λ nothing.
          let so_far = c.loop.invariant.ports nothing in
          let next = c.close_next.ensures.ports so_far.0 in (
            next.0 c.loop-test.true,
            makes_then _ _ _ _ _ _ so_far.1
                (subst (λ (b : Bool). Makes (g.W.World.tells c.loop.world) (g.W.World.tells new.world) (ClosesForward b old.forwards new.self.forwards)) c.loop-test.true next.1)
                (λ made more left closes. one_less first.forwards old.forwards new.self.forwards made more left closes),
          );
      config = c.close_next.ensures.config ∙ c.loop.invariant.config;
      number = c.close_next.ensures.number ∙ c.loop.invariant.number;
      turn = c.close_next.ensures.turn ∙ c.loop.invariant.turn;
    }

pub returns-clause-makes : goal.returns-clause-makes
returns-clause-makes g c =
    let first = c.args.self.now in
    let old = c.loop.self in
    let new = c.close_next.new in
    makes_then _ _ _ _ _ _ c.loop.invariant.makes
    (subst (λ (b : Bool). Makes (g.W.World.tells c.loop.world) (g.W.World.tells new.world)
    (λ made. ClosesNext b old.forwards new.self.forwards (holders_of old) (holders_of new.self) made × AreCloses made)) c.loop-test.false c.close_next.ensures.makes)
    (λ made more closes later. (
      closes_last first.forwards old.forwards new.self.forwards (holders_of first) (holders_of old) (holders_of new.self) made more closes.0 later.0,
      close_then more made later.1 closes.1,
    ))

pub returns-clause-ports : goal.returns-clause-ports
returns-clause-ports g c nothing =
    let first = c.args.self.now in
    let old = c.loop.self in
    let new = c.close_next.new in
    let so_far = c.loop.invariant.ports nothing in
    makes_then _ _ _ _ _ _ so_far.1
    (subst (λ (b : Bool). Makes (g.W.World.tells c.loop.world) (g.W.World.tells new.world) (ClosesForward b old.forwards new.self.forwards)) c.loop-test.false
    (c.close_next.ensures.ports so_far.0).1)
    (λ made more left closes. none_left first.forwards old.forwards new.self.forwards made more left closes)

pub returns-clause-config : goal.returns-clause-config
returns-clause-config g c = c.close_next.ensures.config ∙ c.loop.invariant.config

pub returns-clause-number : goal.returns-clause-number
returns-clause-number g c = c.close_next.ensures.number ∙ c.loop.invariant.number

pub returns-clause-turn : goal.returns-clause-turn
returns-clause-turn g c = c.close_next.ensures.turn ∙ c.loop.invariant.turn

pub returns-clause-none : goal.returns-clause-none
returns-clause-none g c = c.close_next.ensures.none c.loop-test.false

pub returns-clause-unasked : goal.returns-clause-unasked
returns-clause-unasked g c = c.close_next.ensures.unasked c.loop-test.false
