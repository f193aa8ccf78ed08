-- What the trace of calls says of the guests' ports, of the sockets that were opened for them, and of when each was used.
use Rattle.std.specs.Prelude.{ℕ, ◌==◌, ◌&&◌, nat_lt, Bool, false, List, [], ◌∷◌, length, filter, find, Option, Some, None, option_and_then, option_map, if◌then◌else◌}
use Rattle.std.specs.Option.{option_or}
use Rattle.world_face.specs.Journal.{Entry, UdpOpen, UdpSend, UdpRecv}
use Rattle.world_face.specs.declared.Got.TheVariants.{From}
use Rattle.net_octets.specs.declared.Endpoint.{Endpoint}
use Rattle.net_octets.specs.declared.Mac.{Mac}
use Rattle.slirp_settings.specs.declared.Forward.{Forward}
use Rattle.slirp_settings.specs.declared.Proto.{Proto}
use Rattle.slirp_settings.specs.declared.Proto.TheVariants.{Tcp, Udp}
use Rattle.slirp_settings.specs.Addresses.{Config, forward_on}
use Rattle.slirp_settings.specs.Classes.{same_endpoint}
use Rattle.arp_table.specs.Table.{mac_of as learnt_for}
use Rattle.spec_trace.specs.Guests.{known}
use Rattle.spec_trace.specs.Happenings.{happens, datagram_came}
use Rattle.spec_trace.specs.Moments.{moment, waits}
use Rattle.spec_trace.specs.Packets.{Datagram}
use Rattle.spec_trace.specs.Sockets.{is_among, is_association, is_forward, kind_of, open_sockets}
use Rattle.spec_run.specs.Names.{kind_for}

-- the datagram of a guest that came last (RFC 768)
abbrev pub last_datagram : Config → List Entry → Option Datagram
last_datagram config [] = None
last_datagram config (e ∷ past) = option_or (datagram_came (happens config past e).came) (last_datagram config past)

-- the port from which it came, and the hardware address
abbrev pub last_port : Config → List Entry → Option Endpoint
last_port config past = option_map (λ (d : Datagram). d.from) (last_datagram config past)

abbrev pub last_mac : Config → List Entry → Option (List ℕ)
last_mac config past = option_map (λ (d : Datagram). d.mac) (last_datagram config past)

-- The port of a guest to which the host's port for datagrams on a socket is given.
abbrev pub given_by : Proto → Endpoint → Option Endpoint
given_by Udp guest = Some guest
given_by Tcp guest = None

abbrev pub given_port : Config → ℕ → Option Endpoint
given_port config socket = option_and_then (λ (f : Forward). given_by f.proto f.guest) (forward_on config socket)

-- The port of a guest for which a socket is opened next at this port of the host: where that is the host's choice, and after the first wait, it is that of the
-- datagram that came last; else that to which the port of the host is given.
abbrev pub port_for : Config → (port socket : ℕ) → List Entry → Option Endpoint
port_for config port socket past = if (port == 0) && nat_lt 0 (waits past) then last_port config past else given_port config socket

-- The port of a guest for which a socket was opened.
abbrev pub opened_by : ℕ → Entry → (ℕ → Option Endpoint) → Option Endpoint → Option Endpoint
opened_by socket (UdpOpen s at answer) for before = if s == socket then for at.port else before
opened_by socket _ for before = before

abbrev pub opened_for : Config → ℕ → List Entry → Option Endpoint
opened_for config socket [] = None
opened_for config socket (e ∷ past) = opened_by socket e (λ port. port_for config port socket past) (opened_for config socket past)

-- The hardware address at which its guest hears: that of the datagram for which it was opened, or that was sent on it last.
abbrev pub mac_by : ℕ → Entry → Option (List ℕ) → Option (List ℕ) → Option (List ℕ)
mac_by socket (UdpOpen s at answer) mac before = if s == socket then mac else before
mac_by socket (UdpSend s to octets answer) mac before = if s == socket then mac else before
mac_by socket _ mac before = before

abbrev pub mac_of : Config → ℕ → List Entry → Option (List ℕ)
mac_of config socket [] = None
mac_of config socket (e ∷ past) = mac_by socket e (last_mac config past) (mac_of config socket past)

-- To which hardware address what a peer sends on a socket goes: on a guest's own to that one, on a port of the host that is given to a guest to the one
-- learnt last for that guest, where it is known.
abbrev pub mac_known : Config → List Entry → Option Endpoint → Option (List ℕ)
mac_known config past None = None
mac_known config past (Some guest) = option_map (λ (m : Mac). m.0) (learnt_for guest.addr (known config past))

abbrev pub mac_for : Config → ℕ → List Entry → Option (List ℕ)
mac_for config socket past = if is_forward (kind_of socket past) then mac_known config past (opened_for config socket past) else mac_of config socket past

-- A socket is used when it is opened, when a datagram is sent on it, and when one is received (RFC 4787, 4.3).
abbrev pub is_used_by : ℕ → Entry → Bool
is_used_by socket (UdpOpen s at answer) = s == socket
is_used_by socket (UdpSend s to octets answer) = s == socket
is_used_by socket (UdpRecv s asked (From peer n) octets) = s == socket
is_used_by socket _ = false

-- the place of its last use in the trace, and the moment in force there
abbrev pub last_use : ℕ → List Entry → ℕ
last_use socket [] = 0
last_use socket (e ∷ past) = if is_used_by socket e then length past else last_use socket past

abbrev pub used_at : ℕ → List Entry → ℕ
used_at socket [] = 0
used_at socket (e ∷ past) = if is_used_by socket e then moment past else used_at socket past

-- an open socket of a guest's port
abbrev pub serves_port : Config → List Entry → ℕ → Bool
serves_port config past socket = is_among socket (open_sockets past) && is_association (kind_for config socket past)

-- the open sockets of guests' ports, but for those of questions to the name server, by rising number
abbrev pub associations_open : Config → List Entry → List ℕ
associations_open config past = filter (λ s. is_association (kind_for config s past)) (open_sockets past)

-- the one that was opened for this port of a guest
abbrev pub is_port : Endpoint → Option Endpoint → Bool
is_port guest None = false
is_port guest (Some port) = same_endpoint port guest

abbrev pub socket_for : Config → Endpoint → List Entry → Option ℕ
socket_for config guest past = find (λ s. is_port guest (opened_for config s past)) (associations_open config past)

-- the open ports of the host for datagrams that are given to guests, by rising number; the first of them that is given to this port of a guest
abbrev pub forwards_open : List Entry → List ℕ
forwards_open past = filter (λ s. is_forward (kind_of s past)) (open_sockets past)

abbrev pub forward_for : Config → Endpoint → List Entry → Option ℕ
forward_for config guest past = find (λ s. is_port guest (opened_for config s past)) (forwards_open past)

-- the one whose last use is the longest ago
abbrev pub earlier : List Entry → ℕ → Option ℕ → Option ℕ
earlier past socket None = Some socket
earlier past socket (Some other) = if nat_lt (last_use other past) (last_use socket past) then Some other else Some socket

abbrev pub longest_unused_of : List Entry → List ℕ → Option ℕ
longest_unused_of past [] = None
longest_unused_of past (socket ∷ sockets) = earlier past socket (longest_unused_of past sockets)

abbrev pub longest_unused : Config → List Entry → Option ℕ
longest_unused config past = longest_unused_of past (associations_open config past)
