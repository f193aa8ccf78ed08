use Rattle.rules_tftp.proofs.Repeating.{apart, five, only}
use Rattle.rules_tftp.proofs.laws.a_packet_goes_again_five_times.Goals as goal

pub returns-clause-five : goal.returns-clause-five
returns-clause-five c = five

pub returns-clause-apart : goal.returns-clause-apart
returns-clause-apart c = apart

pub returns-clause-only : goal.returns-clause-only
returns-clause-only c = only
