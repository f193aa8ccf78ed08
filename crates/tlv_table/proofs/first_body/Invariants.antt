use Rattle.std.proofs.Common.{◌≡◌, ℕ, false, List, length}
use Rattle.tlv_table.specs.Reading.{Found, has_code, read_on, reading}
use Rattle.tlv_table.proofs.first_body.Given as goal

-- what was found so far hasn't the code, and reading on gives what reading gives
abbrev pub invariant-loop-rest : goal.invariant-loop-rest
invariant-loop-rest l = record {
  found : List Found;
  place : ℕ;
  none : has_code l.code found ≡ false;
  goes_on : read_on l.form l.rows found place 0 l.rest ≡ reading l.form l.rows l.octets;
}

abbrev pub decreases-loop-rest : goal.decreases-loop-rest
decreases-loop-rest l = length l.rest
