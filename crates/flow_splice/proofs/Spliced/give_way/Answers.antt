use Rattle.std.proofs.Common.{◌∷◌, subst, sym}
use Rattle.spec_flow.specs.Event.{At, Closes}
use Rattle.flow_splice.specs.Follows.{Follows}
use Rattle.flow_splice.specs.Splice.{Splice}
use Rattle.flow_splice.proofs.GivingWay.{way_follows}
use Rattle.flow_splice.proofs.Spliced.give_way.Goals as goal

pub returns-clause-follows : goal.returns-clause-follows
returns-clause-follows g c s past before directly ended known on may calm h =
    let now = c.args.now in
    subst (λ (x : Splice). Follows s x (At now (Closes directly ended known) ∷ past) now) (sym c.fail.ensures.change)
    (way_follows c.args.self.now now c.requires.open_yet s past before directly ended known on may calm h)
