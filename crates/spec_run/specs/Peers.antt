-- Connections that peers open at ports of the host.
use Rattle.std.specs.Prelude.{◌≡◌, ℕ, false, Some}
use Rattle.net_octets.specs.declared.Endpoint.{Endpoint}
use Rattle.slirp_settings.specs.Addresses.{Config, forward_on}
use Rattle.host_policy.specs.Targets.{is_hidden, shown}
use Rattle.slirp_settings.specs.declared.Forward.{Forward}
use Rattle.slirp_settings.specs.declared.Proto.TheVariants.{Tcp}
use Rattle.spec_flows.specs.declared.Tuple.{Tuple}

-- The two ends are the guest to which a port of the host is given for connections, and a peer as the policy shows it, which doesn't pass for another
-- address of the network.
pub record IsForPeer (config : Config) (ends : Tuple) : Type 0 where
  pub place : ℕ
  pub forward : Forward
  pub given : forward_on config place ≡ Some forward
  pub proto : forward.proto ≡ Tcp
  pub guest : ends.guest ≡ forward.guest
  pub peer : Endpoint
  pub seen : is_hidden config peer ≡ false
  pub other : ends.other ≡ shown config peer
