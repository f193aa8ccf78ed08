use Rattle.spec_run.proofs.OpenPorts.{closes_given_after_the_end, listens_where_given, opens_where_given}
use Rattle.spec_run.proofs.ports_are_opened_where_the_settings_say.Goals as goal

pub returns-clause-listens : goal.returns-clause-listens
returns-clause-listens c = λ config past socket at answer lawful. listens_where_given config past socket at lawful.0

pub returns-clause-opens : goal.returns-clause-opens
returns-clause-opens c = λ config past socket at answer early lawful. opens_where_given config past socket at lawful.1 early lawful.0

pub returns-clause-closes : goal.returns-clause-closes
returns-clause-closes c = λ config past socket none lawful given. closes_given_after_the_end config past socket none lawful.1 lawful.0 given
