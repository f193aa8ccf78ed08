use Rattle.std.proofs.Common.{◌+◌, ap, ◌∙◌}
use Rattle.net_octets.specs.Octets.{with_carries}
use Rattle.net_octets.proofs.Folds.{with_carries-quad}
use Rattle.net_octets.proofs.sum_after.Goals as goal

pub returns : goal.returns
returns c =
    c.fold.ensures ∙ ap (λ sum. with_carries (c.args.start + sum)) c.sum_of_blocks.ensures.sum ∙ with_carries-quad c.args.start c.args.octets.now
