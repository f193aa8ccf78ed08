-- The octets are copied into their part.
use Rattle.std.proofs.Common.{◌+◌, length, refl, arith}
use Rattle.dhcp_server.proofs.Adding.{adds_part}
use Rattle.dhcp_server.proofs.reply.add.Goals as goal

pub returns-clause-written : goal.returns-clause-written
returns-clause-written c = adds_part c.args.into.now _ c.args.octets.now c.args.at _ (c.args.at + length c.args.octets.now) refl (omega arith) c.requires c.copy_from_slice.ensures.after
