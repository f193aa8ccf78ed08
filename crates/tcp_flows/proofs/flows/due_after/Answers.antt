use Rattle.std.proofs.Common.{◌+◌, List, Option, map, take, ap, sym, subst, ◌∙◌}
use Rattle.std.proofs.lemmas.List.{take_all}
use Rattle.flow_splice.specs.Splice.{Splice}
use Rattle.tcp_flows.specs.Kept.{part_of}
use Rattle.rules_flow.specs.Choices.{if_after}
use Rattle.tcp_flows.specs.Reading.{IsNextAfter, earlier, blocked_time_of}
use Rattle.tcp_flows.proofs.Later.{next_more, parts_more}
use Rattle.tcp_flows.proofs.flows.due_after.Goals as goal

pub loop-part-preserved : goal.loop-part-preserved
loop-part-preserved c =
    let parts = c.args.slots.now in
    let part : Splice = c.part-item.result in
    let seen = map part_of (take c.loop-part.part-index parts) in
    subst (IsNextAfter c.args.now (map part_of (take (c.loop-part.part-index + 1) parts))) (sym (c.earlier-first.ensures ∙ ap (earlier c.loop-part.first) (c.if_after.ensures ∙ ap (if_after c.args.now) c.blocked_time_of.ensures)))
    (subst (λ (s : List (Option Splice)). IsNextAfter c.args.now s (earlier c.loop-part.first (if_after c.args.now (blocked_time_of part))))
    (sym (parts_more parts c.loop-part.part-index part c.loop-part-test.true c.part-item.is))
    (next_more c.args.now seen part c.loop-part.first c.loop-part.invariant))

pub returns : goal.returns
returns c = subst (λ (ps : List Splice). IsNextAfter c.args.now (map part_of ps) c.loop-part.first) (take_all c.loop-part.part-index c.args.slots.now c.loop-part-test.false) c.loop-part.invariant
