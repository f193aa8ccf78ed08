-- The list of open forwards: in the order in which they were added, each with the number of the socket that was opened for it.
use Rattle.std.specs.Prelude.{ℕ, ◌==◌, ◌&&◌, not, Bool, List, filter, find, map, Option, option_map}
use Rattle.std.specs.List.{list_any}
use Rattle.net_octets.specs.declared.Endpoint.{Endpoint}
use Rattle.slirp_settings.specs.declared.Forward.{Forward}
use Rattle.slirp_settings.specs.declared.Proto.{Proto}
use Rattle.slirp_settings.specs.declared.Proto.TheVariants.{Udp}
use Rattle.slirp_settings.specs.Ranges.{same_proto}
use Rattle.slirp_settings.specs.Classes.{same_endpoint}

-- so many are open at once at most; ours
abbrev pub most_forwards : ℕ
most_forwards = 32

-- a forward, and the number of its socket
abbrev pub Opened : Type 0
Opened = Forward × ℕ

abbrev pub socket_of : Opened → ℕ
socket_of opened = opened.1

-- its port of the host is this one, with this protocol
abbrev pub is_at : Proto → Endpoint → Opened → Bool
is_at proto host opened = same_proto proto opened.0.proto && same_endpoint host opened.0.host

abbrev pub is_taken : Proto → Endpoint → List Opened → Bool
is_taken proto host list = list_any (is_at proto host) list

abbrev pub without : Proto → Endpoint → List Opened → List Opened
without proto host list = filter (λ opened. not (is_at proto host opened)) list

abbrev pub socket_at : Proto → Endpoint → List Opened → Option ℕ
socket_at proto host list = option_map socket_of (find (is_at proto host) list)

-- it is for datagrams, and leads to this port of a guest
abbrev pub leads_to : Endpoint → Opened → Bool
leads_to guest opened = same_proto opened.0.proto Udp && same_endpoint opened.0.guest guest

-- the socket of the first that does
abbrev pub socket_for : Endpoint → List Opened → Option ℕ
socket_for guest list = option_map socket_of (find (leads_to guest) list)

-- its socket has this number
abbrev pub is_on : ℕ → Opened → Bool
is_on socket opened = socket_of opened == socket

-- the forward whose socket has this number
abbrev pub forward_with : ℕ → List Opened → Option Forward
forward_with socket list = option_map (λ opened. opened.0) (find (is_on socket) list)

-- the numbers of their sockets
abbrev pub forward_sockets : List Opened → List ℕ
forward_sockets forwards = map socket_of forwards

-- of those that are for connections, or for datagrams
abbrev pub is_over : Proto → Opened → Bool
is_over proto opened = same_proto proto opened.0.proto

abbrev pub sockets_over : Proto → List Opened → List ℕ
sockets_over proto forwards = forward_sockets (filter (is_over proto) forwards)
