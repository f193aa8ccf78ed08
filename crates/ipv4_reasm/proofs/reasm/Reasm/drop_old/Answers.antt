use Rattle.std.proofs.Common.{List, sym, ◌∙◌, arith, subst}
use Rattle.ipv4_reasm.specs.Areas.{Gathered, is_recent}
use Rattle.ipv4_reasm.proofs.Lists.{IsDropped, front_long, there, keep_on, drop_on}
use Rattle.ipv4_reasm.proofs.reasm.Reasm.drop_old.Goals as goal

pub loop-i-preserved-then-is_recent : goal.loop-i-preserved-then-is_recent
loop-i-preserved-then-is_recent c =
    let fits = front_long c.self.inside.areas.items c.loop-i.self c.self.inside.count c.loop-i.i c.self.view_is
    (let n = c.self.invariant.0 in let m = c.self.invariant.1 in omega arith) c.loop-i-test.true in
    let at = there c.loop-i.self c.loop-i.i fits in
    keep_on (is_recent c.args.now) c.args.self.now c.loop-i.self c.loop-i.i at.0 c.loop-i.invariant at.1 (sym (c.is_recent.ensures at.0 at.1) ∙ c.if-is_recent.true)

pub loop-i-preserved : goal.loop-i-preserved
loop-i-preserved c =
    let fits = front_long c.self.inside.areas.items c.loop-i.self c.self.inside.count c.loop-i.i c.self.view_is
    (let n = c.self.invariant.0 in let m = c.self.invariant.1 in omega arith) c.loop-i-test.true in
    let at = there c.loop-i.self c.loop-i.i fits in
    subst (λ (l : List Gathered). IsDropped (is_recent c.args.now) c.args.self.now l c.loop-i.i) (sym c.release.ensures)
    (drop_on (is_recent c.args.now) c.args.self.now c.loop-i.self c.loop-i.i at.0 c.loop-i.invariant at.1 (sym (c.is_recent.ensures at.0 at.1) ∙ c.if-is_recent.false))
