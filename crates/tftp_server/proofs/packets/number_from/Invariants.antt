use Rattle.std.proofs.Common.{◌≡◌, ◌≤◌, min, drop}
use Rattle.rules_tftp.specs.Packets.{number_from}
use Rattle.tftp_server.proofs.packets.number_from.Given as goal

abbrev pub invariant-loop-x : goal.invariant-loop-x
invariant-loop-x l = (l.n ≤ 100000) × (min 100000 (number_from l.n (drop l.x-index l.digits)) ≡ min 100000 (number_from 0 l.digits))
