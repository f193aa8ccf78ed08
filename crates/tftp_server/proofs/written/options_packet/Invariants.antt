use Rattle.std.proofs.Common.{◌≡◌, ◌+◌, ◌*◌, ◌≤◌, ◌++◌, length, map, take}
use Rattle.net_octets.specs.Octets.{two}
use Rattle.rules_tftp.specs.Packets.{answered_octets}
use Rattle.tftp_server.specs.Options.{answered_pair}
use Rattle.tftp_server.proofs.written.options_packet.Given as goal

abbrev pub invariant-loop-answer : goal.invariant-loop-answer
invariant-loop-answer l = (l.packet.items ≡ two 6 ++ answered_octets (map answered_pair (take l.answer-index l.answer-items))) × (length l.packet.items ≤ 2 + 40 * l.answer-index)
