use Rattle.std.proofs.Common.{◌≡◌, length}
use Rattle.tftp_server.specs.Reading.{are_pairs}
use Rattle.tftp_server.proofs.packets.are_pairs.Given as goal

abbrev pub invariant-loop-pair : goal.invariant-loop-pair
invariant-loop-pair l = are_pairs l.rest ≡ are_pairs l.fn.octets

abbrev pub decreases-loop-pair : goal.decreases-loop-pair
decreases-loop-pair l = length l.rest
