use Rattle.spec_run.proofs.Resolving.{asks_of_names, goes_to_resolver}
use Rattle.spec_run.proofs.names.questions_go_to_the_resolver_alone.Goals as goal

pub returns-clause-to : goal.returns-clause-to
returns-clause-to c = λ config past socket to octets answer lawful one. goes_to_resolver config past socket to octets lawful.1 lawful.0 one

pub returns-clause-asks : goal.returns-clause-asks
returns-clause-asks c = λ config past socket to octets answer lawful one. asks_of_names config past socket to octets lawful.1 lawful.0 one
