use Rattle.std.proofs.Common.{subst}
use Rattle.rules_dhcp.specs.History.{HasReason}
use Rattle.rules_dhcp.proofs.Holding.{has_reason, refused_always}
use Rattle.rules_dhcp.proofs.history.a_refusal_is_sent_where_the_rules_have_one.Goals as goal

pub returns-clause-only : goal.returns-clause-only
returns-clause-only c = λ config before r m says is. subst (HasReason config before r.at m) is (has_reason config before r m says)

pub returns-clause-always : goal.returns-clause-always
returns-clause-always c = refused_always
