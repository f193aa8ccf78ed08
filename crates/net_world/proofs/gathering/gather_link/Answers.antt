use Rattle.std.proofs.Common.{◌∙◌}
use Rattle.poll_list.proofs.Picking.{goes_on_from, goes_on_last}
use Rattle.net_world.proofs.gathering.gather_link.Goals as goal

pub returns-clause-picked : goal.returns-clause-picked
returns-clause-picked c =
    goes_on_last _ _ _ (goes_on_from _ _ _ _ _ c.items.ensures c.clear.ensures.items c.gather_first.ensures.goes_on)

pub returns-clause-link : goal.returns-clause-link
returns-clause-link c want others is = c.gather_first.ensures.link c.clear.ensures.items want others (c.items.ensures ∙ is)
