use Rattle.std.proofs.Common.{◌≡◌, length}
use Rattle.ipv4_reasm.proofs.reasm.Reasm.open.Given as goal

-- as many areas as rounds
abbrev pub invariant-loop : goal.invariant-loop
invariant-loop l = length l.areas.items ≡ l.counter
