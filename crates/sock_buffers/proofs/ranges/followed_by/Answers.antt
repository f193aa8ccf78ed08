use Rattle.std.proofs.Common.{◌≡◌, ◌+◌, ◌∷◌, List, length, take, arith, ap, ◌∙◌, length-append, length-take}
use Rattle.sock_buffers.specs.declared.ranges.KeptRange.{KeptRange}
use Rattle.sock_buffers.proofs.ranges.followed_by.Goals as goal

pub returns-clause-none : goal.returns-clause-none
returns-clause-none c =
    let whole : length c.loop-range.all.items ≡ length c.args.all.items + (1 + length c.args.rest.now) =
    ap (λ (l : List KeptRange). length l) c.loop-range.invariant.same ∙ length-append c.args.all.items (c.args.new ∷ take c.loop-range.range-index c.args.rest.now)
    ∙ omega (arith, length-take c.loop-range.range-index c.args.rest.now) in
    let few = c.loop-range.invariant.few in
    ((λ e. cc), (λ more. absurd (omega arith)))
