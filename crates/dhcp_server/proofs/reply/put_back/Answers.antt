-- The parts one after another.
use Rattle.std.proofs.Common.{subst}
use Rattle.rules_dhcp.specs.Replies.{filled}
use Rattle.dhcp_server.specs.Writing.{Adds}
use Rattle.dhcp_server.proofs.Adding.{then}
use Rattle.dhcp_server.proofs.reply.put_back.Goals as goal

pub returns-clause-written : goal.returns-clause-written
returns-clause-written c =
    let file = subst (λ xs. Adds c.add_zeros-at.new.into c.add_zeros-at.result c.add_filled.new.into c.add_filled.result (filled 128 xs)) c.file.ensures.file c.add_filled.ensures.written in
    then _ _ _ _ _ _ _ _ (then _ _ _ _ _ _ _ _ c.add_filled-at.ensures.written c.add_zeros-at.ensures.written) file
