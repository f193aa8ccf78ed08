-- How fields are printed.
use Rattle.std.specs.Prelude.{ℕ, List, codes}
use Rattle.slirp_settings.specs.declared.fields.Field.{Field}
use Rattle.slirp_settings.specs.declared.fields.Field.TheVariants.{Version, InEnabled, Vnetmask, Vnetwork, Vhost, Vnameserver, VdhcpStart, Vhostname, Vdomainname, TftpServerName, Bootfile}
use Rattle.slirp_settings.specs.declared.fields.Field.TheVariants.{TftpPath, IfMtu, IfMru, Flows, Ring, Resolver, Turns, Forwards, Outbound, DisableDns, DisableDhcp, Guestfwds, Control, Denied}

abbrev pub field_name : Field → List ℕ
field_name Version = codes "version"
field_name InEnabled = codes "in_enabled"
field_name Vnetmask = codes "vnetmask"
field_name Vnetwork = codes "vnetwork"
field_name Vhost = codes "vhost"
field_name Vnameserver = codes "vnameserver"
field_name VdhcpStart = codes "vdhcp_start"
field_name Vhostname = codes "vhostname"
field_name Vdomainname = codes "vdomainname"
field_name TftpServerName = codes "tftp_server_name"
field_name Bootfile = codes "bootfile"
field_name TftpPath = codes "tftp_path"
field_name IfMtu = codes "if_mtu"
field_name IfMru = codes "if_mru"
field_name Flows = codes "flows"
field_name Ring = codes "ring"
field_name Resolver = codes "resolver"
field_name Turns = codes "turns"
field_name Forwards = codes "forwards"
field_name Outbound = codes "outbound"
field_name DisableDns = codes "disable_dns"
field_name DisableDhcp = codes "disable_dhcp"
field_name Guestfwds = codes "guestfwds"
field_name Control = codes "control"
field_name Denied = codes "denied"
