use Rattle.rules_tftp.proofs.Following.{follows}
use Rattle.rules_tftp.proofs.laws.a_block_is_told_after_the_acknowledgement_of_the_one_before.Goals as goal

pub returns : goal.returns
returns c folder now mac guest octets old new told made served = follows now old guest octets folder mac new told made served
