use Rattle.std.proofs.Common.{◌≡◌, true, take}
use Rattle.slirp_core.proofs.wants.are_same.Given as goal

abbrev pub invariant-loop-place : goal.invariant-loop-place
invariant-loop-place l = l.same ≡ true → take l.place l.some ≡ take l.place l.others
