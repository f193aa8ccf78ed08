use Rattle.spec_run.proofs.FileFrames.{from_port_of_files}
use Rattle.spec_run.proofs.files.the_server_of_files_answers_or_goes_again.Goals as goal

pub returns : goal.returns
returns c = λ config e past frame ip udp room lawful allowed ours names ports out carries unbroken proto read from port. from_port_of_files config e past frame ip udp room lawful
    allowed ours names ports out carries unbroken proto read port
