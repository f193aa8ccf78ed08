-- A network that has served nothing, with a control or without one.
use Rattle.std.specs.Prelude.{◌≡◌, ◌≤◌, Option, None, Some}
use Rattle.world_face.specs.Limits.{most_ready, most_wants}
use Rattle.slirp_settings.specs.Addresses.{Config}
use Rattle.rules_control.specs.Talk.{silent}
use Rattle.control_loop.specs.declared.network.Control.{Control}

-- There is one exactly where the settings have it: nobody listens yet, and the lists have room.
abbrev pub IsControl : Config → Option Control → Type 0
IsControl config None = config.control ≡ None
IsControl config (Some c) =
    (config.control ≡ Some c.at) × (c.session ≡ silent) × (c.guest.0 ≡ config.dhcp_start) × (c.turns ≡ config.turns) × (most_wants ≤ c.wants.capacity) × (most_ready ≤ c.ready.capacity)
