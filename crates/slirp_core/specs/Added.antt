-- Ports of the host that are given to guests while a run goes on, and taken back.
use Rattle.std.specs.Prelude.{◌≡◌, ℕ, ◌+◌, Bool, true, false, List, [], ◌∷◌, Option, Some, None, if◌then◌else◌}
use Rattle.net_octets.specs.declared.Endpoint.{Endpoint}
use Rattle.world_face.specs.Journal.{Close, Entry}
use Rattle.slirp_settings.specs.Addresses.{Config, forward_on}
use Rattle.slirp_settings.specs.declared.Forward.{Forward}
use Rattle.slirp_settings.specs.declared.Proto.{Proto}
use Rattle.rules_forward.specs.Adding.{fault_of}
use Rattle.rules_forward.specs.Opened.{socket_at}
use Rattle.rules_forward.specs.declared.FwdFault.{FwdFault}
use Rattle.rules_forward.specs.declared.FwdFault.TheVariants.{Taken, BadGuest, Full, Refused}
use Rattle.spec_trace.specs.Sockets.{is_among}
use Rattle.slirp_core.specs.State.{SlirpState}

-- A forward against which nothing speaks is the one that the settings have for the number of its socket.
abbrev pub MayAdd : Config → SlirpState → Forward → Type 0
MayAdd config slirp forward = fault_of slirp.config forward slirp.forwards ≡ None → forward_on config slirp.number ≡ Some forward

-- The one that is taken back is so by the settings: by the number of its socket.
abbrev pub MayRemove : Config → SlirpState → Proto → Endpoint → Type 0
MayRemove config slirp proto host = (socket : ℕ) → socket_at proto host slirp.forwards ≡ Some socket → is_among socket config.removed ≡ true

-- the host was asked: where it refused the socket, too
abbrev pub was_asked : Option FwdFault → Bool
was_asked None = true
was_asked (Some Refused) = true
was_asked (Some Taken) = false
was_asked (Some BadGuest) = false
was_asked (Some Full) = false

-- the next number is used up where it was
abbrev pub number_after : Option FwdFault → ℕ → ℕ
number_after fault number = if was_asked fault then number + 1 else number

-- the socket of a forward that was there is closed
abbrev pub closed_at : Option ℕ → List Entry
closed_at None = []
closed_at (Some socket) = Close socket ∷ []
