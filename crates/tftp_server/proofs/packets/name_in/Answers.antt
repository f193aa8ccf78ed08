-- Printable octets are a text.
use Rattle.std.proofs.Common.{sym}
use Rattle.rules_tftp.proofs.Naming.{name_is_text}
use Rattle.tftp_server.proofs.packets.name_in.Goals as goal

pub unreachable-requires : goal.unreachable-requires
unreachable-requires c = c.in-Err.ensures.cases.0 (name_is_text c.args.octets.now (sym c.if-not-is_name.ensures))
