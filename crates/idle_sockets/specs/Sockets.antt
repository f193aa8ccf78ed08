-- Open sockets, each for one port of a guest and one identifier, the longest unused first.
use Rattle.std.specs.Prelude.{ℕ, ◌==◌, ◌&&◌, Bool, List, [], ◌∷◌, ◌++◌, map, find, Option, option_map, if◌then◌else◌}
use Rattle.net_octets.specs.declared.Endpoint.{Endpoint}
use Rattle.net_octets.specs.declared.Mac.{Mac}
use Rattle.slirp_settings.specs.Classes.{same_endpoint}
use Rattle.rules_udp.specs.Lives.{is_life_over}
use Rattle.idle_sockets.specs.declared.IdleSocket.{IdleSocket}

-- so many are open at once
abbrev pub most_sockets : ℕ
most_sockets = 512

-- what stands where there is none: socket 0, for no guest, never used
abbrev pub no_socket : IdleSocket
no_socket = record { number = 0; guest = record { addr = record { 0 = 0 }; port = 0 }; ident = 0; mac = record { 0 = 0 ∷ 0 ∷ 0 ∷ 0 ∷ 0 ∷ 0 ∷ [] }; used = 0 }

abbrev pub number_of : IdleSocket → ℕ
number_of s = s.number

abbrev pub is_numbered : ℕ → IdleSocket → Bool
is_numbered number s = s.number == number

-- it is of this port, with this identifier
abbrev pub is_of : Endpoint → ℕ → IdleSocket → Bool
is_of guest ident s = same_endpoint s.guest guest && (s.ident == ident)

abbrev pub numbers : List IdleSocket → List ℕ
numbers sockets = map number_of sockets

-- the socket with this number; the number of the one of this port with this identifier
abbrev pub numbered : ℕ → List IdleSocket → Option IdleSocket
numbered number sockets = find (is_numbered number) sockets

abbrev pub socket_of : Endpoint → ℕ → List IdleSocket → Option ℕ
socket_of guest ident sockets = option_map number_of (find (is_of guest ident) sockets)

-- it was used, so it is the last of all
abbrev pub moved_last : (IdleSocket → IdleSocket) → ℕ → List IdleSocket → List IdleSocket
moved_last change number [] = []
moved_last change number (s ∷ sockets) = if is_numbered number s then sockets ++ (change s ∷ []) else s ∷ moved_last change number sockets

-- by a datagram that the guest sent from this hardware address
abbrev pub sent_from : Mac → ℕ → IdleSocket → IdleSocket
sent_from mac now s = record { number = s.number; guest = s.guest; ident = s.ident; mac = mac; used = now }

-- by a datagram that came from a peer
abbrev pub heard_at : ℕ → IdleSocket → IdleSocket
heard_at now s = record { number = s.number; guest = s.guest; ident = s.ident; mac = s.mac; used = now }

-- its idle life, so many milliseconds, is over
abbrev pub is_over : ℕ → ℕ → IdleSocket → Bool
is_over life now s = is_life_over life s.used now
