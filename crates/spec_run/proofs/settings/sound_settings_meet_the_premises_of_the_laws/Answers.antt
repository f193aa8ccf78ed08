use Rattle.spec_run.proofs.Premises.{header, syn, host, name_server, has_name_server, ports}
use Rattle.spec_run.proofs.settings.sound_settings_meet_the_premises_of_the_laws.Goals as goal

pub returns-clause-header : goal.returns-clause-header
returns-clause-header c = header

pub returns-clause-syn : goal.returns-clause-syn
returns-clause-syn c = syn

pub returns-clause-host : goal.returns-clause-host
returns-clause-host c = host

pub returns-clause-name_server : goal.returns-clause-name_server
returns-clause-name_server c = name_server

pub returns-clause-has_name_server : goal.returns-clause-has_name_server
returns-clause-has_name_server c = has_name_server

pub returns-clause-ports : goal.returns-clause-ports
returns-clause-ports c = ports
