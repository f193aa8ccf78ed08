use Rattle.ipv4_reasm.proofs.Dues.{IsFound}
use Rattle.ipv4_reasm.proofs.reasm.first_due.Given as goal

-- the least moment of the areas so far
abbrev pub invariant-loop-area : goal.invariant-loop-area
invariant-loop-area l = IsFound l.areas l.area-index l.found
