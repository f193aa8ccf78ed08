use Rattle.rules_tftp.specs.Packets.{packet_in}
use Rattle.rules_tftp.proofs.Staying.{files_stay, parts_below}
use Rattle.rules_tftp.proofs.laws.names_stay_in_the_folder.Goals as goal

pub returns-clause-parts : goal.returns-clause-parts
returns-clause-parts c = parts_below

pub returns-clause-files : goal.returns-clause-files
returns-clause-files c folder now mac guest octets old s is = files_stay mac guest s folder now (packet_in octets) old is
