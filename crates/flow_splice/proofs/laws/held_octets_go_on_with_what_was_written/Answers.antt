use Rattle.flow_splice.proofs.Promises.{held_all, held_begins}
use Rattle.flow_splice.proofs.Opened.{open_is}
use Rattle.flow_splice.proofs.laws.held_octets_go_on_with_what_was_written.Goals as goal

pub returns-clause-begins : goal.returns-clause-begins
returns-clause-begins c s f past now h open_yet conforming = held_begins s f past now (open_is s f past now open_yet h) conforming

pub returns-clause-acknowledged : goal.returns-clause-acknowledged
returns-clause-acknowledged c s f past now a h open_yet conforming acknowledged = held_all s f past now (open_is s f past now open_yet h) conforming a acknowledged
