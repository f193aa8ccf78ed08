-- The virtual network, and whose its addresses are.
use Rattle.std.specs.Prelude.{ℕ, ◌+◌, ◌-◌, ◌/◌, ◌^◌, ◌==◌, ◌&&◌, ◌||◌, not, Bool, List, [], ◌∷◌, Option, find, map, option_map, slice_get}
use Rattle.std.specs.List.{list_any}
use Rattle.std.specs.Option.{option_or}
use Rattle.net_octets.specs.declared.Endpoint.{Endpoint}
use Rattle.slirp_settings.specs.declared.Denial.{Denial}
use Rattle.slirp_settings.specs.declared.Forward.{Forward}
use Rattle.slirp_settings.specs.declared.GuestFwd.{GuestFwd}

-- what the laws read of the settings: addresses and the mask as numbers, texts as octets, the ports of the host that are given to guests, and the most turns of a run
pub record Config : Type 0 where
  pub version : ℕ
  pub in_enabled : Bool
  pub restricted : Bool
  pub no_loopback : Bool
  pub mask : ℕ
  pub network : ℕ
  pub vhost : ℕ
  pub vnameserver : ℕ
  pub dhcp_start : ℕ
  pub hostname : List ℕ
  pub domainname : List ℕ
  pub tftp_server_name : List ℕ
  pub bootfile : List ℕ
  pub tftp_path : Option (List ℕ)
  pub mtu : ℕ
  pub mru : ℕ
  pub flows : ℕ
  pub ring : ℕ
  pub resolver : Option Endpoint
  pub turns : ℕ
  pub forwards : List Forward
  pub outbound : Option ℕ
  pub no_dns : Bool
  pub no_dhcp : Bool
  pub guest_forwards : List GuestFwd
  pub control : Option Endpoint
  pub denied : List Denial
  pub congestion : Bool
  -- ports of the host that are given to guests while the run goes on, each with the number of its socket; the settings of a command have none
  pub added : List (ℕ × Forward)
  -- and the sockets of those that are taken back while it goes on
  pub removed : List ℕ

-- the forward that a socket is for: those of the settings have the first numbers, in their order
abbrev pub forward_on : Config → ℕ → Option Forward
forward_on config socket = option_or (slice_get config.forwards socket) (option_map (λ a. a.1) (find (λ a. a.0 == socket) config.added))

abbrev pub endpoint : ℕ → ℕ → Endpoint
endpoint addr port = record { addr = record { 0 = addr }; port = port }

abbrev pub address : Endpoint → ℕ
address e = e.addr.0

-- a mask is ones and then zeros, so this is how many addresses differ in the zeros alone (RFC 950)
abbrev pub network_size : Config → ℕ
network_size config = 2 ^ 32 - config.mask

abbrev pub in_network : Config → ℕ → Bool
in_network config a = a / network_size config == config.network / network_size config

-- the network's last address, to which all its hosts listen (RFC 922)
abbrev pub last_address : Config → ℕ
last_address config = config.network + network_size config - 1

-- in the network, and neither its first nor its last address: one host can have it
abbrev pub is_of_one_host : Config → ℕ → Bool
is_of_one_host config a = in_network config a && not (a == config.network) && not (a == last_address config)

abbrev pub is_ours : Config → ℕ → Bool
is_ours config a = (a == config.vhost) || (a == config.vnameserver)

-- the addresses at which the network answers: its own two, and those of forwards of guests
abbrev pub is_answered_for : Config → ℕ → Bool
is_answered_for config a = is_ours config a || list_any (λ f. address f.guest == a) config.guest_forwards

-- an address of one host that is neither the virtual host's nor the name server's
abbrev pub is_guest : Config → ℕ → Bool
is_guest config a = is_of_one_host config a && not (is_ours config a)

-- the 16 addresses that are leased to guests
abbrev pub pool : Config → List ℕ
pool config = map (λ k. config.dhcp_start + k) (0 ∷ 1 ∷ 2 ∷ 3 ∷ 4 ∷ 5 ∷ 6 ∷ 7 ∷ 8 ∷ 9 ∷ 10 ∷ 11 ∷ 12 ∷ 13 ∷ 14 ∷ 15 ∷ [])
