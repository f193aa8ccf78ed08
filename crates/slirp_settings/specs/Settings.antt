-- The settings as the laws read them.
use Rattle.std.specs.Prelude.{[], true, false, None}
use Rattle.std.specs.Option.{option_map}
use Rattle.slirp_settings.specs.Addresses.{Config}
use Rattle.slirp_settings.specs.declared.config.SlirpConfig.{SlirpConfig}

abbrev pub settings : SlirpConfig → Config
settings c = record {
  version = c.version;
  in_enabled = c.in_enabled;
  restricted = c.restricted;
  no_loopback = c.disable_host_loopback;
  mask = c.vnetmask.0;
  network = c.vnetwork.0;
  vhost = c.vhost.0;
  vnameserver = c.vnameserver.0;
  dhcp_start = c.vdhcp_start.0;
  hostname = c.vhostname.items;
  domainname = c.vdomainname.items;
  tftp_server_name = c.tftp_server_name.items;
  bootfile = c.bootfile.items;
  tftp_path = option_map (λ path. path.bytes) c.tftp_path;
  mtu = c.if_mtu;
  mru = c.if_mru;
  flows = c.flows;
  ring = c.ring;
  resolver = c.resolver;
  turns = c.turns;
  forwards = c.forwards.items;
  outbound = option_map (λ address. address.0) c.outbound;
  no_dns = c.disable_dns;
  no_dhcp = c.disable_dhcp;
  guest_forwards = c.guestfwds.items;
  control = c.control;
  denied = c.denied.items;
  congestion = c.congestion;
  added = [];
  removed = [];
}

-- the settings of a command without options: 10.0.2.0/24, the host at 10.0.2.2, the name server at 10.0.2.3, guests from 10.0.2.15 on; 256 flows, 2^44 turns
abbrev pub usual : Config
usual = record {
  version = 1;
  in_enabled = true;
  restricted = false;
  no_loopback = false;
  mask = 0xffffff00;
  network = 0x0a000200;
  vhost = 0x0a000202;
  vnameserver = 0x0a000203;
  dhcp_start = 0x0a00020f;
  hostname = [];
  domainname = [];
  tftp_server_name = [];
  bootfile = [];
  tftp_path = None;
  mtu = 1500;
  mru = 1500;
  flows = 256;
  ring = 65535;
  resolver = None;
  turns = 17592186044416;
  forwards = [];
  outbound = None;
  no_dns = false;
  no_dhcp = false;
  guest_forwards = [];
  control = None;
  denied = [];
  congestion = false;
  added = [];
  removed = [];
}
