use Rattle.app_edges.specs.Texts.{Got}
use Rattle.slirp_app.proofs.Attended.{plain_done, tapped_done}
use Rattle.slirp_app.proofs.laws.a_link_that_is_served_untroubled_is_served_to_its_end.Goals as goal

pub returns-clause-plain : goal.returns-clause-plain
returns-clause-plain c = λ words forwards config at status live live_new old new said said_new told told_new serves.
    plain_done config at status live live_new old new (Got words forwards said said_new told told_new) serves

pub returns-clause-tapped : goal.returns-clause-tapped
returns-clause-tapped c = λ words forwards config at tap status live live_new old new said said_new told told_new serves.
    tapped_done config at status live live_new old new (Got words forwards said said_new told told_new) tap serves
