use Rattle.std.proofs.Common.{◌≡◌, ◌+◌, ◌++◌, ◌∷◌, [], ℕ, List, length, take, ap, arith, sym, subst, ◌∙◌}
use Rattle.std.proofs.lemmas.List.{length-take-le, take_all}
use Rattle.flow_splice.specs.Splice.{Splice}
use Rattle.rules_flow.specs.Choices.{earlier_quiet}
use Rattle.tcp_flows.specs.Way.{AreFirst, quiet_at}
use Rattle.tcp_flows.proofs.Quietest.{first_more, seen_more}
use Rattle.tcp_flows.proofs.giving.quietest.Goals as goal

pub loop-slot-init : goal.loop-slot-init
loop-slot-init c = λ j r at. absurd cc

pub loop-slot-preserved : goal.loop-slot-preserved
loop-slot-preserved c =
    let parts = c.args.slots.now in
    let part : Splice = c.index-slots-slot.result in
    let seen = take c.loop-slot.slot parts in
    let size : length seen ≡ c.loop-slot.slot = length-take-le c.loop-slot.slot parts (let low = c.loop-slot-test.true in omega (arith, low)) in
    subst (AreFirst c.args.now (take (c.loop-slot.slot + 1) parts)) (sym (c.earlier_quiet-first.ensures ∙ ap (earlier_quiet c.loop-slot.first) c.quiet_at.ensures))
    (subst (λ (s : List Splice). AreFirst c.args.now s (earlier_quiet c.loop-slot.first (quiet_at c.args.now c.loop-slot.slot part)))
    (sym (seen_more parts c.loop-slot.slot part c.loop-slot-test.true c.index-slots-slot.is))
    (subst (λ (n : ℕ). AreFirst c.args.now (seen ++ (part ∷ [])) (earlier_quiet c.loop-slot.first (quiet_at c.args.now n part))) size
    (first_more c.args.now seen part c.loop-slot.first c.loop-slot.invariant)))

pub returns : goal.returns
returns c = subst (λ (ps : List Splice). AreFirst c.args.now ps c.loop-slot.first) (take_all c.loop-slot.slot c.args.slots.now c.loop-slot-test.false) c.loop-slot.invariant
