use Rattle.rules_tftp.proofs.Bringing.{is_read}
use Rattle.rules_tftp.proofs.laws.the_octets_of_a_block_are_those_read_at_its_place.Goals as goal

pub returns : goal.returns
returns c = is_read
