-- The octets of a reply, and where it goes (RFC 2131, 2 and 4.1; RFC 2132).
use Rattle.std.specs.Prelude.{ℕ, ◌-◌, ◌<◌, ◌==◌, ◌&&◌, ◌||◌, not, Bool, true, false, ⊤, List, [], ◌∷◌, ◌++◌, length, replicate, Option, Some, None, if◌then◌else◌}
use Rattle.std.specs.Option.{is_some}
use Rattle.net_octets.specs.Octets.{four}
use Rattle.net_octets.specs.declared.Mac.{Mac}
use Rattle.tlv_table.specs.declared.Row.{Row}
use Rattle.tlv_table.specs.Putting.{put_octets}
use Rattle.slirp_settings.specs.Addresses.{Config, endpoint}
use Rattle.rules_udp.specs.declared.Reply.{Reply}
use Rattle.rules_udp.specs.declared.Reply.TheVariants.{Nothing, Datagram}
use Rattle.rules_dhcp.specs.declared.Answer.{Answer}
use Rattle.rules_dhcp.specs.declared.Answer.TheVariants.{Silence, Offers, Lends, Informs, Refuses}
use Rattle.rules_dhcp.specs.declared.Lease.{Lease}
use Rattle.rules_dhcp.specs.declared.Message.{Message}
use Rattle.rules_dhcp.specs.Leases.{address_of}
use Rattle.rules_dhcp.specs.Messages.{row, form}
use Rattle.rules_dhcp.specs.Serving.{served}
use Rattle.slirp_settings.specs.Ports.{client_port, leases_port}

-- what is written: mask, router, name server, names, lease, kind, server, TFTP server and file
abbrev pub rows_written : List Row
rows_written =
    row 1 4 4 false ∷ row 3 4 4 false ∷ row 6 4 4 false ∷ row 12 1 127 false ∷ row 15 1 127 false
    ∷ row 51 4 4 false ∷ row 53 1 1 false ∷ row 54 4 4 false ∷ row 66 1 127 false ∷ row 67 1 127 false ∷ []

-- OFFER, ACK or NAK (RFC 2132, 9.6)
abbrev pub kind_of : Answer → ℕ
kind_of Silence = 0
kind_of (Offers place) = 2
kind_of (Lends place) = 5
kind_of Informs = 5
kind_of Refuses = 6

abbrev pub is_silence : Answer → Bool
is_silence Silence = true
is_silence _ = false

abbrev pub is_refusal : Answer → Bool
is_refusal Refuses = true
is_refusal _ = false

abbrev pub is_ack : Answer → Bool
is_ack answer = kind_of answer == 5

-- an address that is given has its place among the 16
abbrev pub IsPlaced : Answer → Type 0
IsPlaced Silence = ⊤
IsPlaced (Offers place) = place < 16
IsPlaced (Lends place) = place < 16
IsPlaced Informs = ⊤
IsPlaced Refuses = ⊤

-- the address that is given
abbrev pub given : Config → Answer → ℕ
given config (Offers place) = address_of config place
given config (Lends place) = address_of config place
given config _ = 0

abbrev pub zeros : ℕ → List ℕ
zeros count = replicate count 0

-- octets with zeros behind them, so many in all
abbrev pub filled : ℕ → List ℕ → List ℕ
filled count octets = octets ++ zeros (count - length octets)

-- The 236 octets before the options (RFC 2131, 2) in three parts: a reply over Ethernet, with the client's number and flags;
abbrev pub front : Message → List ℕ
front m = (2 ∷ 1 ∷ 6 ∷ 0 ∷ []) ++ m.ident ++ (0 ∷ 0 ∷ []) ++ m.flags

-- the client's own address in an ACK, the address given, the next server's, and no relay's;
abbrev pub addresses : Config → Message → Answer → List ℕ
addresses config m answer =
    four (if is_ack answer then m.client.0 else 0)
    ++ four (given config answer)
    ++ four (if is_refusal answer then 0 else config.vhost)
    ++ (0 ∷ 0 ∷ 0 ∷ 0 ∷ [])

-- and the client's hardware address in 16 octets, no server's name in 64, and the file in 128.
abbrev pub back : Config → Message → Answer → List ℕ
back config m answer = filled 16 m.mac.0 ++ zeros 64 ++ filled 128 (if is_refusal answer then [] else config.bootfile)

abbrev pub head : Config → Message → Answer → List ℕ
head config m answer = front m ++ addresses config m answer ++ back config m answer

-- an option with a text, none where the text is empty
abbrev pub text_option : ℕ → List ℕ → List (ℕ × List ℕ)
text_option code [] = []
text_option code (octet ∷ octets) = (code, octet ∷ octets) ∷ []

-- the router is the virtual host, where guests aren't restricted
abbrev pub router : Config → List (ℕ × List ℕ)
router config = if config.restricted then [] else (3, four config.vhost) ∷ []

-- the name server, where names are served
abbrev pub name_server : Config → List (ℕ × List ℕ)
name_server config = if is_some config.resolver && not config.restricted && not config.no_dns then (6, four config.vnameserver) ∷ [] else []

-- what a guest is told of the network
abbrev pub network_options : Config → List (ℕ × List ℕ)
network_options config =
    ((1, four config.mask) ∷ [])
    ++ router config
    ++ name_server config
    ++ text_option 12 config.hostname
    ++ text_option 15 config.domainname
    ++ text_option 66 config.tftp_server_name
    ++ text_option 67 config.bootfile

-- how long the address is leased, in seconds: 86,400, as `lease_time`
abbrev pub lease_option : List (ℕ × List ℕ)
lease_option = (51, four 86400) ∷ []

abbrev pub further_options : Config → Answer → List (ℕ × List ℕ)
further_options config (Offers place) = lease_option ++ network_options config
further_options config (Lends place) = lease_option ++ network_options config
further_options config Informs = network_options config
further_options config _ = []

abbrev pub options : Config → Answer → List (ℕ × List ℕ)
options config answer = ((53, kind_of answer ∷ []) ∷ []) ++ ((54, four config.vhost) ∷ []) ++ further_options config answer

-- a reply, with zeros up to 300 octets (RFC 1542, 2.1)
abbrev pub reply_octets : Config → Message → Answer → List ℕ
reply_octets config m answer = filled 300 (head config m answer ++ (99 ∷ 130 ∷ 83 ∷ 99 ∷ []) ++ put_octets form (options config answer) ++ 255 ∷ [])

abbrev pub everybody : Mac
everybody = record { 0 = 255 ∷ 255 ∷ 255 ∷ 255 ∷ 255 ∷ 255 ∷ [] }

-- to all, unless the client has an address already and isn't refused
abbrev pub goes_to_all : Message → Answer → Bool
goes_to_all m answer = is_refusal answer || (m.client.0 == 0)

abbrev pub datagram_of : Config → Message → Answer → ℕ → Reply
datagram_of config m answer count =
    if goes_to_all m answer then Datagram count (endpoint config.vhost leases_port) (endpoint 0xffffffff client_port) (Some everybody)
    else Datagram count (endpoint config.vhost leases_port) (endpoint m.client.0 client_port) (Some m.mac)

abbrev pub reply_of : Config → Message → Answer → Reply
reply_of config m answer = if is_silence answer then Nothing else datagram_of config m answer (length (reply_octets config m answer))

abbrev pub octets_of_reply : Config → Message → Answer → List ℕ
octets_of_reply config m answer = if is_silence answer then [] else reply_octets config m answer

-- what a message is answered at a moment, and in which octets
abbrev pub reply_to : Config → ℕ → List Lease → Option Message → Reply
reply_to config now leases None = Nothing
reply_to config now leases (Some m) = reply_of config m (served config now leases (Some m)).answer

abbrev pub replied_octets : Config → ℕ → List Lease → Option Message → List ℕ
replied_octets config now leases None = []
replied_octets config now leases (Some m) = octets_of_reply config m (served config now leases (Some m)).answer
