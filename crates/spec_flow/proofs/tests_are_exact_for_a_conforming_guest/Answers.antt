use Rattle.spec_flow.proofs.Exact.{may_holds}
use Rattle.spec_flow.proofs.Refuted.{lawful_holds}
use Rattle.spec_flow.proofs.ExactDuty.{must_holds}
use Rattle.spec_flow.proofs.tests_are_exact_for_a_conforming_guest.Goals as goal

pub returns-clause-act : goal.returns-clause-act
returns-clause-act c = may_holds

pub returns-clause-duty : goal.returns-clause-duty
returns-clause-duty c = must_holds

pub returns-clause-lawful : goal.returns-clause-lawful
returns-clause-lawful c = lawful_holds
