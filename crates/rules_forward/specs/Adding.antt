-- What adding a forward does: why none is added, the call that opens its socket, and the list afterwards.
use Rattle.std.specs.Prelude.{◌≡◌, ℕ, not, nat_le, List, [], ◌∷◌, ◌++◌, length, Option, Some, None, if◌then◌else◌}
use Rattle.net_octets.specs.declared.Endpoint.{Endpoint}
use Rattle.world_face.specs.Journal.{Entry, Listen, UdpOpen}
use Rattle.world_face.specs.declared.Made.{Made}
use Rattle.world_face.specs.declared.Made.TheVariants.{Done, Failed}
use Rattle.slirp_settings.specs.declared.Forward.{Forward}
use Rattle.slirp_settings.specs.declared.Proto.{Proto}
use Rattle.slirp_settings.specs.declared.Proto.TheVariants.{Tcp, Udp}
use Rattle.slirp_settings.specs.Addresses.{Config, address, is_guest}
use Rattle.rules_forward.specs.Opened.{Opened, is_taken, most_forwards}
use Rattle.rules_forward.specs.declared.FwdFault.{FwdFault}
use Rattle.rules_forward.specs.declared.FwdFault.TheVariants.{Taken, BadGuest, Full, Refused}

-- the first cause for which the host isn't asked at all
abbrev pub fault_of : Config → Forward → List Opened → Option FwdFault
fault_of config forward list =
    if is_taken forward.proto forward.host list then Some Taken
    else (if not (is_guest config (address forward.guest)) then Some BadGuest
    else (if nat_le most_forwards (length list) then Some Full else None))

-- a listener for connections, or a socket for datagrams, at the port of the host
abbrev pub opening_of : Proto → ℕ → Endpoint → Made → Entry
opening_of Tcp number host answer = Listen number host answer
opening_of Udp number host answer = UdpOpen number host answer

-- where the socket is open the forward is the last of the list; where the host refuses it the list stays
abbrev pub AddsBy : Made → Forward → ℕ → List Opened → List Opened → Option FwdFault → Type 0
AddsBy Done forward number old new fault = (fault ≡ None) × (new ≡ old ++ (forward, number) ∷ [])
AddsBy Failed forward number old new fault = (fault ≡ Some Refused) × (new ≡ old)

-- with a cause no call is made and the list stays; without one the only call is the one that opens the socket
abbrev pub Adds : Option FwdFault → Forward → ℕ → List Opened → List Opened → Option FwdFault → List Entry → Type 0
Adds (Some cause) forward number old new fault made = (fault ≡ Some cause) × (new ≡ old) × (made ≡ [])
Adds None forward number old new fault made = (answer : Made) × (made ≡ opening_of forward.proto number forward.host answer ∷ []) × AddsBy answer forward number old new fault
