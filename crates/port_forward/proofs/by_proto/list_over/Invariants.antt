use Rattle.std.proofs.Common.{◌≡◌, take}
use Rattle.rules_forward.specs.Opened.{sockets_over}
use Rattle.port_forward.proofs.by_proto.list_over.Given as goal

abbrev pub invariant-loop-place : goal.invariant-loop-place
invariant-loop-place l = l.numbers.items ≡ sockets_over l.proto (take l.place l.forwards)
