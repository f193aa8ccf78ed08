-- What contracts see of the leases: the settings, and the entry of each address that is leased.
use Rattle.std.specs.Prelude.{List}
use Rattle.slirp_settings.specs.Addresses.{Config}
use Rattle.rules_dhcp.specs.declared.Lease.{Lease}

pub record Lending : Type 0 where
  pub config : Config
  pub leases : List Lease
