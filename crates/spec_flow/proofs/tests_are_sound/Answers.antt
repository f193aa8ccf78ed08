use Rattle.spec_flow.proofs.Sound.{may_is, lawful}
use Rattle.spec_flow.proofs.Duties.{must_is, dutiful, may_wait_to_write_is}
use Rattle.spec_flow.proofs.Conformance.{conforming}
use Rattle.spec_flow.proofs.Settled.{settled, waits}
use Rattle.spec_flow.proofs.tests_are_sound.Goals as goal

pub returns-clause-act : goal.returns-clause-act
returns-clause-act c = may_is

pub returns-clause-duty : goal.returns-clause-duty
returns-clause-duty c = must_is

pub returns-clause-lawful : goal.returns-clause-lawful
returns-clause-lawful c = lawful

pub returns-clause-dutiful : goal.returns-clause-dutiful
returns-clause-dutiful c = dutiful

pub returns-clause-conforming : goal.returns-clause-conforming
returns-clause-conforming c = conforming

pub returns-clause-settled : goal.returns-clause-settled
returns-clause-settled c = settled

pub returns-clause-writing : goal.returns-clause-writing
returns-clause-writing c = may_wait_to_write_is

pub returns-clause-wait : goal.returns-clause-wait
returns-clause-wait c = waits
