use Rattle.spec_flow.proofs.GuestLaws.{written_is_a_prefix}
use Rattle.spec_flow.proofs.written_octets_begin_what_the_guest_sent.Goals as goal

pub returns : goal.returns
returns c = written_is_a_prefix
