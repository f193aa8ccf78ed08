use Rattle.std.proofs.Common.{ℕ, ◌+◌, List, Option, map, take, ap, sym, subst, ◌∙◌}
use Rattle.std.proofs.lemmas.List.{take_all}
use Rattle.spec_flows.specs.declared.Tuple.{Tuple}
use Rattle.flow_splice.specs.Splice.{Splice}
use Rattle.sim_flows.proofs.Options.{none_some}
use Rattle.tcp_flows.specs.InUse.{IsNextUse, lesser, use_above}
use Rattle.tcp_flows.specs.Kept.{part_of}
use Rattle.tcp_flows.proofs.InUse.{use_more}
use Rattle.tcp_flows.proofs.Later.{parts_more}
use Rattle.tcp_flows.proofs.in_use.flow_after.Goals as goal

pub loop-part-init : goal.loop-part-init
loop-part-init c k p at above = none_some at.here

pub loop-part-preserved : goal.loop-part-preserved
loop-part-preserved c =
    let parts = c.args.slots.now in
    let part : Splice = c.part-item.result in
    let last = c.args.last in
    let seen = map part_of (take c.loop-part.part-index parts) in
    let both = c.lesser-first.ensures ∙ ap (lesser c.loop-part.first) c.use_above.ensures in
    subst (λ (o : Option (ℕ × Tuple)). IsNextUse last o (map part_of (take (c.loop-part.part-index + 1) parts))) (sym both)
    (subst (λ (s : List (Option Splice)). IsNextUse last (lesser c.loop-part.first (use_above last part)) s)
    (sym (parts_more parts c.loop-part.part-index part c.loop-part-test.true c.part-item.is))
    (use_more last seen part c.loop-part.first c.loop-part.invariant))

pub returns : goal.returns
returns c =
    subst (λ (ps : List Splice). IsNextUse c.args.last c.loop-part.first (map part_of ps)) (take_all c.loop-part.part-index c.args.slots.now c.loop-part-test.false) c.loop-part.invariant
