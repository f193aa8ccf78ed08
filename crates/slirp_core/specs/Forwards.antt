-- Ports of the host that are given to guests: which forwards are in force by the trace. Those of the settings have the first numbers, since they are opened before all other sockets.
use Rattle.std.specs.Prelude.{◌≡◌, ℕ, ◌+◌, ◌||◌, Bool, true, false, List, [], ◌∷◌, ◌++◌, All, slice_get, Option, Some}
use Rattle.std.specs.Option.{option_and_then}
use Rattle.net_octets.specs.declared.Endpoint.{Endpoint}
use Rattle.world_face.specs.Journal.{Close, Entry}
use Rattle.world_face.specs.declared.Made.TheVariants.{Done, Failed}
use Rattle.slirp_settings.specs.Addresses.{Config, forward_on}
use Rattle.slirp_settings.specs.declared.Forward.{Forward}
use Rattle.slirp_settings.specs.declared.Proto.{Proto}
use Rattle.slirp_settings.specs.declared.Proto.TheVariants.{Tcp, Udp}
use Rattle.rules_forward.specs.Adding.{opening_of}
use Rattle.rules_forward.specs.Opened.{Opened, forward_sockets, forward_with, socket_of}
use Rattle.spec_trace.specs.Sockets.{Kind, Forward as OfForward, Listener, is_among, is_forward, is_listener, kind_of, next_number, open_sockets}
use Rattle.spec_run.specs.Ports.{given_by}
use Rattle.slirp_core.specs.Sockets.{IsRising}

-- these forwards with the numbers from this one on
abbrev pub with_numbers : ℕ → List Forward → List Opened
with_numbers n [] = []
with_numbers n (forward ∷ forwards) = (forward, n) ∷ with_numbers (n + 1) forwards

-- the port of a guest to which the port for datagrams with this socket is given
abbrev pub guest_on : List Opened → ℕ → Option Endpoint
guest_on forwards socket = option_and_then (λ (f : Forward). given_by f.proto f.guest) (forward_with socket forwards)

-- to the socket of a port of the host peers come, or datagrams
abbrev pub given_kind : Proto → Kind
given_kind Tcp = Listener
given_kind Udp = OfForward

abbrev pub is_given : Option Kind → Bool
is_given kind = is_listener kind || is_forward kind

-- A forward is in force while its socket is open: that is of its kind, and it is the forward that was asked for with the number.
pub record IsInForce (config : Config) (past : List Entry) (opened : Opened) : Type 0 where
  pub open_yet : is_among (socket_of opened) (open_sockets past) ≡ true
  pub kind : kind_of (socket_of opened) past ≡ Some (given_kind opened.0.proto)
  pub is : forward_on config (socket_of opened) ≡ Some opened.0

-- the forwards in force are these, by rising number of their sockets: no other open socket is that of a port of the host which is given to a guest
pub record AreInForce (config : Config) (forwards : List Opened) (past : List Entry) : Type 0 where
  pub each : (k : ℕ) (opened : Opened) → slice_get forwards k ≡ Some opened → IsInForce config past opened
  pub all : (n : ℕ) → is_among n (open_sockets past) ≡ true → is_given (kind_of n past) ≡ true → is_among n (forward_sockets forwards) ≡ true
  pub rising : IsRising (next_number past) (forward_sockets forwards)

-- a port of the host is open, and its forward is the last of the list; or the host refused it
abbrev pub Listens : Bool → Forward → ℕ → (old new : List Opened) → List Entry → Type 0
Listens true forward number old new made = (new ≡ old ++ (forward, number) ∷ []) × (made ≡ opening_of forward.proto number forward.host Done ∷ [])
Listens false forward number old new made = (new ≡ old) × (made ≡ opening_of forward.proto number forward.host Failed ∷ [])

-- the socket of the first was closed, if there was one
abbrev pub ClosesForward : Bool → (old new : List Opened) → List Entry → Type 0
ClosesForward true old new made = (forward : Forward) × (number : ℕ) × (old ≡ (forward, number) ∷ new) × (made ≡ Close number ∷ [])
ClosesForward false old new made = (old ≡ []) × (new ≡ []) × (made ≡ [])

-- no call is made but closes
abbrev pub IsClose : Entry → Type 0
IsClose e = (n : ℕ) × (e ≡ Close n)

abbrev pub AreCloses : List Entry → Type 0
AreCloses made = All IsClose made
