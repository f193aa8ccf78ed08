use Rattle.std.proofs.Common.{◌≡◌, ◌-◌, ◌≤◌, List, length}
use Rattle.tlv_table.specs.Reading.{Found, Agrees, read_on, reading}
use Rattle.tlv_table.proofs.check.Given as goal

-- what was found so far, of which the marks say the codes; and reading on gives what reading gives
abbrev pub invariant-loop-rest : goal.invariant-loop-rest
invariant-loop-rest l = record {
  found : List Found;
  agrees : Agrees l.rows l.marks found;
  within : length l.rest ≤ length l.octets;
  goes_on : read_on l.form l.rows found (length l.octets - length l.rest) 0 l.rest ≡ reading l.form l.rows l.octets;
}

abbrev pub decreases-loop-rest : goal.decreases-loop-rest
decreases-loop-rest l = length l.rest
