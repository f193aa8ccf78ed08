use Rattle.std.proofs.Common.{◌≡◌, ℕ, ◌+◌, ◌++◌, List, drop, length}
use Rattle.slirp_core.specs.Pumps.{into}
use Rattle.slirp_core.proofs.wants.put_up_to.Given as goal

abbrev pub invariant-loop-place : goal.invariant-loop-place
invariant-loop-place g l = record {
  items : (rest : List ℕ → List ℕ) → l.row.items ++ into l.number rest (drop l.place l.others) ≡ l.fn.row.items ++ into l.number rest l.others;
  room : length l.row.items ≡ length l.fn.row.items + l.place;
}
