use Rattle.std.proofs.Common.{subst}
use Rattle.rules_dhcp.specs.History.{HasReason}
use Rattle.rules_dhcp.proofs.Holding.{has_reason}
use Rattle.rules_dhcp.proofs.history.each_answer_has_its_reason.Goals as goal

pub returns-clause-offers : goal.returns-clause-offers
returns-clause-offers c = λ config before r m place says is. subst (HasReason config before r.at m) is (has_reason config before r m says)

pub returns-clause-lends : goal.returns-clause-lends
returns-clause-lends c = λ config before r m place says is. subst (HasReason config before r.at m) is (has_reason config before r m says)

pub returns-clause-informs : goal.returns-clause-informs
returns-clause-informs c = λ config before r m says is. subst (HasReason config before r.at m) is (has_reason config before r m says)

pub returns-clause-all : goal.returns-clause-all
returns-clause-all c = has_reason
