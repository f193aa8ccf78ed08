-- The octets, and then zeros.
use Rattle.dhcp_server.proofs.Adding.{then}
use Rattle.dhcp_server.proofs.reply.add_filled.Goals as goal

pub returns-clause-written : goal.returns-clause-written
returns-clause-written c = then _ _ _ _ _ _ _ _ c.add-at.ensures.written c.add_zeros.ensures.written
