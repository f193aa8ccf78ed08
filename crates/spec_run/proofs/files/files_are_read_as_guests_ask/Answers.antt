use Rattle.spec_run.proofs.FileLaws.{length_asked, octets_asked}
use Rattle.spec_run.proofs.files.files_are_read_as_guests_ask.Goals as goal

pub returns-clause-lengths : goal.returns-clause-lengths
returns-clause-lengths c = λ config past name answer lawful. length_asked config past name lawful.1 lawful.0

pub returns-clause-octets : goal.returns-clause-octets
returns-clause-octets c = λ config past name place asked answer octets lawful. octets_asked config past name place asked lawful.1 lawful.0
