-- What the type of the settings says, and their check doesn't.
use Rattle.std.specs.Prelude.{◌<◌, ◌^◌, All}
use Rattle.slirp_settings.specs.Addresses.{Config}

-- each port of a guest to which a port of the host leads has 16 bits
abbrev pub HasNumbersForPorts : Config → Type 0
HasNumbersForPorts config = All (λ f. f.guest.port < 2 ^ 16) config.forwards
