use Rattle.flow_splice.proofs.Promises.{lawful_is}
use Rattle.flow_splice.proofs.laws.what_a_flow_did_was_lawful.Goals as goal

pub returns-clause-lawful : goal.returns-clause-lawful
returns-clause-lawful c s f past now h = (lawful_is s f past now h).0

pub returns-clause-dutiful : goal.returns-clause-dutiful
returns-clause-dutiful c s f past now h = (lawful_is s f past now h).1
