-- The parts one after another.
use Rattle.dhcp_server.proofs.Adding.{then}
use Rattle.dhcp_server.proofs.reply.put_front.Goals as goal

pub returns-clause-written : goal.returns-clause-written
returns-clause-written c =
    then _ _ _ _ _ _ _ _ (then _ _ _ _ _ _ _ _ (then _ _ _ _ _ _ _ _ c.add-at.ensures.written c.add-at-2.ensures.written) c.add-at-3.ensures.written) c.add.ensures.written
