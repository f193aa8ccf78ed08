-- What contracts see of the sockets of associations.
use Rattle.std.specs.Prelude.{ℕ, List}
use Rattle.rules_udp.specs.declared.Association.{Association}

-- the address of the host at which sockets are opened, 0 for every address, and the associations, the longest unused first
pub record AssocsState : Type 0 where
  pub bind : ℕ
  pub list : List Association
