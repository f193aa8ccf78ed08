use Rattle.std.proofs.Common.{ap}
use Rattle.rules_dhcp.specs.Messages.{read_message}
use Rattle.rules_dhcp.specs.Serving.{served}
use Rattle.spec_run.proofs.Histories.{in_order, of_messages}
use Rattle.spec_run.proofs.leases_are_those_of_the_messages_that_came.Goals as goal

pub returns-clause-leases : goal.returns-clause-leases
returns-clause-leases c = of_messages

pub returns-clause-answers : goal.returns-clause-answers
returns-clause-answers c = λ config past now octets. ap (λ leased. (served config now leased (read_message octets)).answer) (of_messages config past)

pub returns-clause-in_order : goal.returns-clause-in_order
returns-clause-in_order c = in_order
