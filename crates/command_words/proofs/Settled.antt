-- Settings that options give, field by field.
use Rattle.std.proofs.Common.{◌≡◌, ℕ, Bool, List, Option, refl, sym, ◌∙◌, ap, arith}
use Rattle.net_octets.specs.declared.Endpoint.{Endpoint}
use Rattle.slirp_settings.specs.Addresses.{Config}
use Rattle.slirp_settings.specs.declared.Denial.{Denial}
use Rattle.slirp_settings.specs.declared.Forward.{Forward}
use Rattle.slirp_settings.specs.declared.GuestFwd.{GuestFwd}
use Rattle.std.proofs.lemmas.List.{length-take, take_all}
use Rattle.command_words.specs.Meaning.{AreSettings, version_of}
use Rattle.command_words.specs.Narrowing.{held_denials, held_guests}
use Rattle.command_words.specs.Options.{Word}
use Rattle.command_words.proofs.Denying.{held_version}

abbrev pub made : Config → (network mask vhost vnameserver dhcp_start : ℕ) (restricted no_loopback : Bool) (hostname domainname tftp_server_name bootfile : List ℕ)
    (tftp_path : Option (List ℕ)) (mtu mru flows ring : ℕ) (resolver : Option Endpoint) (turns : ℕ) (outbound : Option ℕ) (control : Option Endpoint) (no_dns no_dhcp congestion : Bool) (version : ℕ)
    (forwards : List Forward) (guest_forwards : List GuestFwd) (denied : List Denial) → Config
made base network mask vhost vnameserver dhcp_start restricted no_loopback hostname domainname tftp_server_name bootfile tftp_path mtu mru flows ring resolver turns outbound control no_dns
    no_dhcp congestion version forwards guest_forwards denied = record base {
      network = network;
      mask = mask;
      vhost = vhost;
      vnameserver = vnameserver;
      dhcp_start = dhcp_start;
      restricted = restricted;
      no_loopback = no_loopback;
      hostname = hostname;
      domainname = domainname;
      tftp_server_name = tftp_server_name;
      bootfile = bootfile;
      tftp_path = tftp_path;
      mtu = mtu;
      mru = mru;
      flows = flows;
      ring = ring;
      resolver = resolver;
      turns = turns;
      outbound = outbound;
      control = control;
      no_dns = no_dns;
      no_dhcp = no_dhcp;
      congestion = congestion;
      version = version;
      forwards = forwards;
      guest_forwards = guest_forwards;
      denied = denied;
    }

-- forwards, forwards of guests and denied networks are given by no option of their own
abbrev pub with_lists : Config → List Forward → List GuestFwd → List Denial → Config
with_lists config forwards guests denied = record config { forwards = forwards; guest_forwards = guests; denied = denied }

lists_are : (given : Word → Option Word) (config : Config) (forwards : List Forward) (guests : List GuestFwd) (denied : List Denial) →
    version_of given config.guest_forwards config.denied ≡ version_of given guests denied → AreSettings given config
    → AreSettings given (with_lists config forwards guests denied)
lists_are given config forwards guests denied same are = record {
  net = are.net;
  host = are.host;
  dns = are.dns;
  dhcp_start = are.dhcp_start;
  restricted = are.restricted;
  no_loopback = are.no_loopback;
  hostname = are.hostname;
  domainname = are.domainname;
  tftp_server_name = are.tftp_server_name;
  bootfile = are.bootfile;
  tftp_path = are.tftp_path;
  mtu = are.mtu;
  mru = are.mru;
  flows = are.flows;
  ring = are.ring;
  resolver = are.resolver;
  turns = are.turns;
  outbound = are.outbound;
  control = are.control;
  no_dns = are.no_dns;
  no_dhcp = are.no_dhcp;
  congestion = are.congestion;
  version = are.version ∙ same;
  rest = ap (λ (c : Config). record c { forwards = forwards; guest_forwards = guests; denied = denied }) are.rest;
}

-- forwards alone
pub with_forwards : (given : Word → Option Word) (config : Config) (forwards : List Forward) → AreSettings given config → AreSettings given (record config { forwards = forwards })
with_forwards given config forwards are = lists_are given config forwards config.guest_forwards config.denied refl are

-- with those that are held, and with those of which as much is held
pub with_both : (given : Word → Option Word) (config : Config) (forwards : List Forward) (guests : List GuestFwd) → held_guests config.guest_forwards ≡ held_guests guests → AreSettings given config
    → AreSettings given (with_lists config forwards guests (held_denials config.denied))
with_both given config forwards guests same are =
    let again : held_denials (held_denials config.denied) ≡ held_denials config.denied = take_all 9 (held_denials config.denied) (omega (arith, length-take 9 config.denied)) in
    lists_are given config forwards guests (held_denials config.denied)
    (sym (held_version given config.guest_forwards config.denied) ∙ ap (λ (gs : List GuestFwd). version_of given gs (held_denials config.denied)) same
    ∙ ap (λ (ds : List Denial). version_of given (held_guests guests) ds) (sym again) ∙ held_version given guests (held_denials config.denied)) are

pub with_all : (given : Word → Option Word) (config : Config) (forwards : List Forward) (guests : List GuestFwd) (denied : List Denial) → held_guests config.guest_forwards ≡ held_guests guests
    → held_denials config.denied ≡ held_denials denied → AreSettings given config → AreSettings given (with_lists config forwards guests denied)
with_all given config forwards guests denied led same are =
    lists_are given config forwards guests denied
    (sym (held_version given config.guest_forwards config.denied) ∙ ap (λ (gs : List GuestFwd). version_of given gs (held_denials config.denied)) led
    ∙ ap (version_of given (held_guests guests)) same ∙ held_version given guests denied) are
