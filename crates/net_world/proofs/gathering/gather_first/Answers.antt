use Rattle.std.proofs.Common.{◌≡◌, ◌-◌, ◌<◌, ◌∙◌, List, length, take, drop, sym, subst, arith}
use Rattle.std.specs.List.{Contains}
use Rattle.poll_list.specs.declared.Want.{Want}
use Rattle.std.proofs.lemmas.List.{take_rest}
use Rattle.poll_list.proofs.Picking.{goes_on_after}
use Rattle.net_world.proofs.Telling.{drop_contains, no_link_after, no_link_in}
use Rattle.net_world.proofs.gathering.gather_first.Goals as goal

pub returns-clause-goes_on : goal.returns-clause-goes_on
returns-clause-goes_on c all goes =
    let wants = c.args.wants.now in
    let whole : take (length wants - 1) (drop 1 wants) ≡ drop 1 wants = take_rest wants 1 in
    let below : 0 < length wants = omega (arith, c.in-len1-up.len_at_least) in
    rw whole (goes_on_after all wants c.args.ready.now.items c.add_part.new.ready.items 0 _ below goes c.add_part.ensures.adds)

pub returns-then-not-is_link-clause-others : goal.returns-then-not-is_link-clause-others
returns-then-not-is_link-clause-others c rise want h is =
    no_link_in c.args.wants.now _ want (omega (arith, c.in-len1-up.len_at_least)) (sym c.is_link.ensures ∙ c.if-not-is_link.true) rise h is

pub returns-clause-only : goal.returns-clause-only
returns-clause-only c want h =
    let whole : take (length c.args.wants.now - 1) (drop 1 c.args.wants.now) ≡ drop 1 c.args.wants.now = take_rest c.args.wants.now 1 in
    drop_contains 1 c.args.wants.now want (subst (λ (l : List Want). Contains l want) whole h)

pub returns-clause-others : goal.returns-clause-others
returns-clause-others c rise want h is =
    let whole : take (length c.args.wants.now - 1) (drop 1 c.args.wants.now) ≡ drop 1 c.args.wants.now = take_rest c.args.wants.now 1 in
    no_link_after c.args.wants.now want rise (subst (λ (l : List Want). Contains l want) whole h) is
