-- What becomes of a peer whose connection was accepted for a guest.
use Rattle.std.specs.Prelude.{◌≡◌, ℕ, ◌++◌, ◌&&◌, Bool, true, false, List, [], ◌∷◌, if◌then◌else◌}
use Rattle.std.specs.Option.{option_map_or}
use Rattle.net_octets.specs.declared.Endpoint.{Endpoint}
use Rattle.arp_table.specs.Table.{mac_of as learnt_for}
use Rattle.world_face.specs.Journal.{Accept, Close, Entry}
use Rattle.world_face.specs.declared.Accepted.{Accepted}
use Rattle.slirp_settings.specs.declared.Proto.TheVariants.{Tcp}
use Rattle.slirp_settings.specs.declared.Forward.{Forward}
use Rattle.slirp_settings.specs.Ranges.{same_proto}
use Rattle.rules_forward.specs.Opened.{forward_with}
use Rattle.sim_flows.specs.Peers.{fits_peer}
use Rattle.spec_flows.specs.Book.{tuple_for}
use Rattle.tcp_flows.specs.Runs.{Welcomes}
use Rattle.slirp_core.specs.State.{SlirpState}

-- Its flow begins with the number of its socket; or it is refused, and that is closed at once.
abbrev pub Treats : (refused : Bool) → (guest peer : Endpoint) → (old new : SlirpState) → List Entry → Type 0
Treats false guest peer old new made = (made ≡ []) × Welcomes old.moment old.number old.flows new.flows (tuple_for old.config guest peer) (learnt_for guest.addr old.known)
Treats true guest peer old new made = (made ≡ Close old.number ∷ []) × (new.flows ≡ old.flows)

-- the socket of the peer with this number was closed, or no call was made
abbrev pub ClosesOne : ℕ → List Entry → Type 0
ClosesOne number made = (closed : Bool) × (made ≡ (if closed then Close number ∷ [] else []))

-- there is room for the flow of a peer more, and peers come to the port of the host with this socket
abbrev pub is_awaited : ℕ → SlirpState → Bool
is_awaited socket slirp = fits_peer slirp.flows.flows && option_map_or (λ (f : Forward). same_proto Tcp f.proto) (forward_with socket slirp.forwards) false

-- a peer is asked for there as this socket, once; it is closed at once where the peer may not come in
abbrev pub AsksForPeer : (listener number : ℕ) → List Entry → Type 0
AsksForPeer listener number made = (answer : Accepted) × (closed : Bool) × (made ≡ (if closed then Close number ∷ [] else []) ++ (Accept listener number answer ∷ []))
