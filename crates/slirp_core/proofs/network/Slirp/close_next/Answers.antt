use Rattle.std.proofs.Common.{Bool, sym, ◌∙◌, subst}
use Rattle.world_face.specs.Tells.{Makes}
use Rattle.world_face.proofs.Telling.{makes_as}
use Rattle.sim_flows.proofs.Options.{true_false}
use Rattle.slirp_core.specs.Forwards.{AreCloses, ClosesForward}
use Rattle.slirp_core.specs.Holds.{ClosesNext, HoldsNothingElse, holders_of}
use Rattle.slirp_core.specs.State.{SlirpState}
use Rattle.slirp_core.proofs.Alone.{none_at_all, stays_alone}
use Rattle.slirp_core.proofs.Closes.{of_forward}
use Rattle.slirp_core.proofs.Closing.{next_forward, next_other}
use Rattle.slirp_core.proofs.network.Slirp.close_next.Goals as goal

pub returns-then-forward_is_first-clause-makes : goal.returns-then-forward_is_first-clause-makes
returns-then-forward_is_first-clause-makes g c =
    let old = c.args.self.now in
    let new = c.close_forward.new in
    subst (λ (s : SlirpState). Makes (g.W.World.tells c.args.world.now) (g.W.World.tells new.world)
    (λ made. ClosesNext c.close_forward.result old.forwards new.self.forwards (holders_of old) (holders_of s) made × AreCloses made)) (sym c.close_forward.ensures.others)
    (makes_as _ _ _ _ c.close_forward.ensures.makes (λ made closes. (
      next_forward c.close_forward.result old.forwards new.self.forwards (holders_of old) made (c.forward_is_first.ensures.yes c.if-forward_is_first.true) closes,
      of_forward c.close_forward.result old.forwards new.self.forwards made closes,
    )))

pub returns-else-forward_is_first-clause-makes : goal.returns-else-forward_is_first-clause-makes
returns-else-forward_is_first-clause-makes g c =
    let old = c.args.self.now in
    let new = c.close_other.new.self in
    makes_as _ _ _ _ c.close_other.ensures.makes (λ made closes. (
      next_other c.close_other.result old.forwards new.forwards (holders_of old) (holders_of new) made c.close_other.ensures.forwards
          (c.forward_is_first.ensures.no c.if-forward_is_first.false) closes.0,
      closes.1,
    ))

pub returns-then-forward_is_first-clause-ports : goal.returns-then-forward_is_first-clause-ports
returns-then-forward_is_first-clause-ports g c nothing = (
  λ is. subst HoldsNothingElse (sym c.close_forward.ensures.others) (stays_alone c.args.self.now c.close_forward.new.self.forwards nothing),
  c.close_forward.ensures.makes,
)

pub returns-else-forward_is_first-clause-ports : goal.returns-else-forward_is_first-clause-ports
returns-else-forward_is_first-clause-ports g c nothing =
    let old = c.args.self.now in
    let new = c.close_other.new in
    let other = c.close_other.ensures.ports nothing in
    let none = none_at_all old nothing (c.forward_is_first.ensures.no c.if-forward_is_first.false) in (
      λ is. absurd (true_false (sym is ∙ other.0)),
      subst (λ (b : Bool). Makes (g.W.World.tells c.args.world.now) (g.W.World.tells new.world) (ClosesForward b old.forwards new.self.forwards)) (sym other.0)
          (makes_as _ _ _ _ other.1 (λ made no_call. (none, c.close_other.ensures.forwards ∙ none, no_call))),
    )
