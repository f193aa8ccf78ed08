-- The range of each field of the settings, and the order in which they are checked.
use Rattle.std.specs.Prelude.{ℕ, ◌+◌, ◌-◌, ◌*◌, ◌%◌, ◌^◌, ◌==◌, ◌&&◌, ◌||◌, not, nat_le, nat_lt, Bool, true, false, IsTrue, List, [], ◌∷◌, length, Option, find}
use Rattle.std.specs.List.{list_any, list_all}
use Rattle.std.specs.Option.{option_map_or}
use Rattle.net_octets.specs.declared.Endpoint.{Endpoint}
use Rattle.net_octets.specs.declared.Prefix.{Prefix}
use Rattle.slirp_settings.specs.declared.Denial.{Denial}
use Rattle.slirp_settings.specs.declared.Forward.{Forward}
use Rattle.slirp_settings.specs.declared.GuestFwd.{GuestFwd}
use Rattle.slirp_settings.specs.declared.Proto.{Proto}
use Rattle.slirp_settings.specs.declared.Proto.TheVariants.{Tcp, Udp}
use Rattle.slirp_settings.specs.declared.fields.Field.{Field}
use Rattle.slirp_settings.specs.declared.fields.Field.TheVariants.{Version, InEnabled, Vnetmask, Vnetwork, Vhost, Vnameserver, VdhcpStart, Vhostname, Vdomainname, TftpServerName, Bootfile}
use Rattle.slirp_settings.specs.declared.fields.Field.TheVariants.{TftpPath, IfMtu, IfMru, Flows, Ring, Resolver, Turns, Forwards, Outbound, DisableDns, DisableDhcp, Guestfwds, Control, Denied}
use Rattle.slirp_settings.specs.Addresses.{Config, address, network_size, is_of_one_host, is_guest, pool}
use Rattle.slirp_settings.specs.Classes.{same_endpoint, first_octet, is_loopback, is_group_or_reserved}

-- the first number, the middle one and the last, in this order
abbrev pub is_between : (least n most : ℕ) → Bool
is_between least n most = nat_le least n && nat_le n most

-- a network's prefix has 8 to 27 bits
abbrev pub prefix_lengths : List ℕ
prefix_lengths = 8 ∷ 9 ∷ 10 ∷ 11 ∷ 12 ∷ 13 ∷ 14 ∷ 15 ∷ 16 ∷ 17 ∷ 18 ∷ 19 ∷ 20 ∷ 21 ∷ 22 ∷ 23 ∷ 24 ∷ 25 ∷ 26 ∷ 27 ∷ []

-- so many ones, then zeros (RFC 950)
abbrev pub mask_of : ℕ → ℕ
mask_of ones = 2 ^ 32 - 2 ^ (32 - ones)

abbrev pub is_mask : ℕ → Bool
is_mask mask = list_any (λ ones. mask == mask_of ones) prefix_lengths

-- neither in 0/8, this network (RFC 1122, 3.2.1.3), nor of a group nor reserved: one host of the outside may have it
abbrev pub is_of_one : ℕ → Bool
is_of_one a = not ((first_octet a == 0) || is_group_or_reserved a)

-- letters, digits and signs, 0x21 to 0x7E: no blank and no control (RFC 20)
abbrev pub is_word : List ℕ → Bool
is_word octets = list_all (λ octet. is_between 33 octet 126) octets

-- no two of a list are alike
module _ {X : Type 0} (alike : X → X → Bool) where
  abbrev pub none_twice : List X → Bool
  none_twice [] = true
  none_twice (x ∷ xs) = not (list_any (alike x) xs) && none_twice xs

abbrev pub same_proto : Proto → Proto → Bool
same_proto Tcp Tcp = true
same_proto Udp Udp = true
same_proto Tcp Udp = false
same_proto Udp Tcp = false

-- two forwards of one port of the host
abbrev pub same_host_port : Forward → Forward → Bool
same_host_port f g = same_proto f.proto g.proto && same_endpoint f.host g.host

abbrev pub is_forward : Config → Forward → Bool
is_forward config f = not (f.host.port == 0) && not (f.guest.port == 0) && is_guest config (address f.guest)

abbrev pub are_forwards : Config → List Forward → Bool
are_forwards config list = nat_le (length list) 32 && list_all (is_forward config) list && none_twice same_host_port list

abbrev pub same_guest_port : GuestFwd → GuestFwd → Bool
same_guest_port f g = same_endpoint f.guest g.guest

-- guests reach a port of the host at an address of the network that no guest is leased
abbrev pub is_guest_forward : Config → GuestFwd → Bool
is_guest_forward config f =
    not (f.guest.port == 0) && not (f.host.port == 0)
    && is_guest config (address f.guest) && not (list_any (λ a. a == address f.guest) (pool config))
    && is_of_one (address f.host)

abbrev pub are_guest_forwards : Config → List GuestFwd → Bool
are_guest_forwards config list = nat_le (length list) 16 && list_all (is_guest_forward config) list && none_twice same_guest_port list

-- a forward of TCP has this port of the host
abbrev pub is_taken : Config → Endpoint → Bool
is_taken config at = list_any (λ f. same_proto f.proto Tcp && same_endpoint f.host at) config.forwards

abbrev pub is_control : Config → Endpoint → Bool
is_control config at = not (at.port == 0) && not (is_taken config at)

-- a network by its first address: no bit is set behind its prefix of at most 32 (RFC 4632, 3.1)
abbrev pub is_network : Prefix → Bool
is_network prefix = nat_le prefix.length 32 && (prefix.net.0 % 2 ^ (32 - prefix.length) == 0)

abbrev pub are_denied : List Denial → Bool
are_denied list = nat_le (length list) 8 && list_all (λ d. is_network d.0) list

-- only version 2 has the fields from outbound on
abbrev pub is_second : Config → Bool
is_second config = config.version == 2

-- What each field may be. Datagrams to the guest have from 576 octets (RFC 791, 3.1) to 1,500 (RFC 894), those from it up to 9,216; there are 1 to 4,096
-- flows, a ring has 65,535 octets to 1 MiB, and all rings have 256 MiB in each direction; a run makes 2^44 waits at most. Where no RFC is named the bounds
-- are ours.
abbrev pub in_range : Config → Field → Bool
in_range config Version = (config.version == 1) || (config.version == 2)
in_range config InEnabled = config.in_enabled
in_range config Vnetmask = is_mask config.mask
in_range config Vnetwork = (config.network % network_size config == 0) && is_of_one config.network && not (is_loopback config.network)
in_range config Vhost = is_of_one_host config config.vhost
in_range config Vnameserver = is_of_one_host config config.vnameserver && not (config.vnameserver == config.vhost)
in_range config VdhcpStart = nat_lt (config.dhcp_start + 15) (2 ^ 32) && list_all (is_guest config) (pool config)
in_range config Vhostname = is_word config.hostname
in_range config Vdomainname = is_word config.domainname
in_range config TftpServerName = is_word config.tftp_server_name
in_range config Bootfile = is_word config.bootfile
in_range config TftpPath = option_map_or (λ path. list_all (λ octet. not (octet == 0)) path) config.tftp_path true
in_range config IfMtu = is_between 576 config.mtu 1500
in_range config IfMru = is_between 576 config.mru 9216
in_range config Flows = is_between 1 config.flows 4096
in_range config Ring = is_between 65535 config.ring 1048576 && nat_le (config.flows * config.ring) 268435456
in_range config Resolver = option_map_or (λ to. not (to.port == 0) && is_of_one (address to)) config.resolver true
in_range config Turns = is_between 1 config.turns 17592186044416
in_range config Forwards = are_forwards config config.forwards
in_range config Outbound = option_map_or (λ a. is_second config && is_of_one a) config.outbound true
in_range config DisableDns = not config.no_dns || is_second config
in_range config DisableDhcp = not config.no_dhcp || is_second config
in_range config Guestfwds = (length config.guest_forwards == 0) || (is_second config && are_guest_forwards config config.guest_forwards)
in_range config Control = option_map_or (λ at. is_second config && is_control config at) config.control true
in_range config Denied = (length config.denied == 0) || (is_second config && are_denied config.denied)

-- the fields of the settings, in the order in which they are checked; the octets of a drill are no field
abbrev pub fields : List Field
fields =
    Version ∷ InEnabled ∷ Vnetmask ∷ Vnetwork ∷ Vhost ∷ Vnameserver ∷ VdhcpStart ∷ Vhostname ∷ Vdomainname ∷ TftpServerName ∷ Bootfile ∷ TftpPath
    ∷ IfMtu ∷ IfMru ∷ Flows ∷ Ring ∷ Resolver ∷ Turns ∷ Forwards ∷ Outbound ∷ DisableDns ∷ DisableDhcp ∷ Guestfwds ∷ Control ∷ Denied ∷ []

-- the first field that breaks its range
abbrev pub first_broken : Config → Option Field
first_broken config = find (λ field. not (in_range config field)) fields

-- each field is in its range
pub record IsSound (config : Config) : Type 0 where
  pub each : (field : Field) → IsTrue (in_range config field)
