use Rattle.std.proofs.Common.{◌≡◌, [], length}
use Rattle.std.specs.List.{list_all}
use Rattle.rules_tftp.specs.Packets.{is_part, parts_from}
use Rattle.tftp_server.proofs.packets.are_parts.Given as goal

abbrev pub invariant-loop-part : goal.invariant-loop-part
invariant-loop-part l = list_all is_part (parts_from [] l.rest) ≡ list_all is_part (parts_from [] l.fn.octets)

abbrev pub decreases-loop-part : goal.decreases-loop-part
decreases-loop-part l = length l.rest
