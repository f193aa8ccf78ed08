-- What some command lines mean.
use Rattle.std.proofs.Common.{◌≡◌, ℕ, ◌+◌, ◌%◌, ◌^◌, refl, List, [], ◌∷◌, codes, Option, None, Some, MatchOption, inl, inr, arith}
use Rattle.net_octets.specs.declared.Endpoint.{Endpoint}
use Rattle.slirp_settings.specs.Addresses.{endpoint}
use Rattle.slirp_settings.specs.Settings.{usual}
use Rattle.host_policy.specs.Targets.{loopback}
use Rattle.slirp_settings.specs.declared.Forward.{Forward}
use Rattle.slirp_settings.specs.declared.Proto.TheVariants.{Tcp, Udp}
use Rattle.std.specs.Fmt.{digits}
use Rattle.command_words.specs.declared.Tap.TheVariants.{Off}
use Rattle.command_words.specs.Options.{Apart, Joined, Plain, Word}
use Rattle.address_text.specs.Texts.{IsAddress, IsEndpointText, address_text, endpoint_text}
use Rattle.command_words.specs.Texts.{IsNetwork}
use Rattle.command_words.specs.Meaning.{AreSettings, Means, Drives, Replays, Serves, version_of}
use Rattle.world_face.specs.Journal.{AtPath}

-- no option is given but for the network, its addresses, who is asked for names, from where datagrams go out, and the control
abbrev IsPlain : (given : Word → Option Word) → Type 0
IsPlain given =
    (given (codes "--restrict") ≡ None) × (given (codes "--no-loopback") ≡ None) × (given (codes "--hostname") ≡ None) × (given (codes "--domainname") ≡ None) ×
    (given (codes "--tftp-server-name") ≡ None)
    × (given (codes "--bootfile") ≡ None) × (given (codes "--tftp") ≡ None) × (given (codes "--mtu") ≡ None) × (given (codes "--mru") ≡ None) × (given (codes "--flows") ≡ None)
    × (given (codes "--ring") ≡ None) × (given (codes "--turns") ≡ None) × (given (codes "--no-dns") ≡ None) × (given (codes "--no-dhcp") ≡ None) × (given (codes "--congestion") ≡ None)

-- so all else is usual
plain : (given : Word → Option Word) (network mask vhost vnameserver dhcp_start : ℕ) (resolver : Option Endpoint) (outbound : Option ℕ) (control : Option Endpoint) (version : ℕ) (forwards : List Forward) → IsPlain given
    → MatchOption (given (codes "--net")) ((network ≡ usual.network) × (mask ≡ usual.mask)) (λ text. IsNetwork text network mask)
    → MatchOption (given (codes "--host")) (vhost ≡ (network + 2) % 2 ^ 32) (λ text. IsAddress text vhost)
    → MatchOption (given (codes "--dns")) (vnameserver ≡ (network + 3) % 2 ^ 32) (λ text. IsAddress text vnameserver)
    → MatchOption (given (codes "--dhcpstart")) (dhcp_start ≡ (network + 15) % 2 ^ 32) (λ text. IsAddress text dhcp_start)
    → MatchOption (given (codes "--resolver")) (resolver ≡ None) (λ text. (at : Endpoint) × (resolver ≡ Some at) × IsEndpointText text at)
    → MatchOption (given (codes "--outbound")) (outbound ≡ None) (λ text. (a : ℕ) × (outbound ≡ Some a) × IsAddress text a)
    → MatchOption (given (codes "--control")) (control ≡ None) (λ text. (at : Endpoint) × (control ≡ Some at) × IsEndpointText text at)
    → version ≡ version_of given [] []
    → AreSettings given (record usual {
      network = network;
      mask = mask;
      vhost = vhost;
      vnameserver = vnameserver;
      dhcp_start = dhcp_start;
      resolver = resolver;
      outbound = outbound;
      control = control;
      version = version;
      forwards = forwards;
    })
plain given network mask vhost vnameserver dhcp_start resolver outbound control version forwards none net host dns start asked out at of = record {
  net = net;
  host = host;
  dns = dns;
  dhcp_start = start;
  restricted = rw none.0 refl;
  no_loopback = rw none.1 refl;
  hostname = rw none.2 refl;
  domainname = rw none.3 refl;
  tftp_server_name = rw none.4 refl;
  bootfile = rw none.5 refl;
  tftp_path = rw none.6 refl;
  mtu = rw none.7 refl;
  mru = rw none.8 refl;
  flows = rw none.9 refl;
  ring = rw none.10 refl;
  resolver = asked;
  turns = rw none.11 refl;
  outbound = out;
  control = at;
  no_dns = rw none.12 refl;
  no_dhcp = rw none.13 refl;
  congestion = rw none.14 refl;
  version = of;
  rest = refl;
}

-- another network: what isn't given lies behind its first address
another_network : Means
    (codes "replay" ∷ codes "F" ∷ codes "--net=10.1.0.0/16" ∷ codes "--host" ∷ codes "10.1.0.9" ∷ [])
    (Replays (codes "F") (record usual { network = 0x0a010000; mask = 0xffff0000; vhost = 0x0a010009; vnameserver = 0x0a010003; dhcp_start = 0x0a01000f }))
unfolding address_text digits
another_network = (
  codes "F" ∷ codes "--net=10.1.0.0/16" ∷ codes "--host" ∷ codes "10.1.0.9" ∷ [],
  refl,
  (
    record { pieces = Plain (codes "F") ∷ Joined (codes "--net") (codes "10.1.0.0/16") ∷ Apart (codes "--host") (codes "10.1.0.9") ∷ []; behind = None },
    [],
    refl,
    ((refl, ((refl, omega arith), ((refl, omega arith, refl), tt))), refl),
    refl,
    omega arith,
    omega arith,
    (tt, tt),
    plain _ _ _ _ _ _ _ _ _ _ _ (refl, refl, refl, refl, refl, refl, refl, refl, refl, refl, refl, refl, refl, refl, refl)
        (16, refl, omega arith, omega arith, refl) (refl, omega arith) refl refl refl refl refl refl,
    tt,
  ),
)

-- a RULE without an address of a guest leads to the first that is leased, also where `--dhcpstart` stands behind it
first_guest : Means
    (codes "serve" ∷ codes "--link=unix:s" ∷ codes "hostfwd=tcp:127.0.0.1:2222-:22" ∷ codes "--dhcpstart=10.0.2.100" ∷ [])
    (Serves (record usual { dhcp_start = 0x0a000264; forwards = record { proto = Tcp; host = endpoint loopback 2222; guest = endpoint 0x0a000264 22 } ∷ [] }) (AtPath (codes "s")) Off)
unfolding address_text digits
first_guest = (
  codes "--link=unix:s" ∷ codes "hostfwd=tcp:127.0.0.1:2222-:22" ∷ codes "--dhcpstart=10.0.2.100" ∷ [],
  refl,
  (
    record { pieces = Joined (codes "--link") (codes "unix:s") ∷ Plain (codes "hostfwd=tcp:127.0.0.1:2222-:22") ∷ Joined (codes "--dhcpstart") (codes "10.0.2.100") ∷ []; behind = None },
    refl,
    (((refl, omega arith), (refl, ((refl, omega arith), tt))), refl),
    (refl, (omega arith, omega arith)),
    (refl, refl),
    (
      (
        inr (
          codes "tcp:127.0.0.1:2222-:22",
          refl,
          record {
            kind = codes "tcp";
            outside = codes "127.0.0.1:2222";
            inside = codes ":22";
            encoded = refl;
            type = inr refl;
            host = record { before = codes "127.0.0.1"; behind = codes "2222"; encoded = refl; address = (refl, omega arith); port = (refl, omega arith) };
            guest = record { before = []; behind = codes "22"; encoded = refl; address = refl; port = (refl, omega arith) };
          },
        ),
        tt,
      ),
      tt,
    ),
    plain _ _ _ _ _ _ _ _ _ _ _ (refl, refl, refl, refl, refl, refl, refl, refl, refl, refl, refl, refl, refl, refl, refl)
        (refl, refl) refl refl (refl, omega arith) refl refl refl refl,
    tt,
  ),
)

-- a RULE for datagrams, the address from which datagrams go out, and who is asked for names: such settings are of version 2
datagrams : Means
    (codes "replay" ∷ codes "F" ∷ codes "udp::53-:53" ∷ codes "--resolver=192.0.2.1:53" ∷ codes "--outbound" ∷ codes "192.0.2.9" ∷ [])
    (Replays (codes "F") (record usual {
      version = 2;
      resolver = Some (endpoint 0xc0000201 53);
      outbound = Some 0xc0000209;
      forwards = record { proto = Udp; host = endpoint 0 53; guest = endpoint 0x0a00020f 53 } ∷ [];
    }))
unfolding address_text endpoint_text digits
datagrams = (
  codes "F" ∷ codes "udp::53-:53" ∷ codes "--resolver=192.0.2.1:53" ∷ codes "--outbound" ∷ codes "192.0.2.9" ∷ [],
  refl,
  (
    record { pieces = Plain (codes "F") ∷ Plain (codes "udp::53-:53") ∷ Joined (codes "--resolver") (codes "192.0.2.1:53") ∷ Apart (codes "--outbound") (codes "192.0.2.9") ∷ []; behind = None },
    codes "udp::53-:53" ∷ [],
    refl,
    ((refl, (refl, ((refl, omega arith), ((refl, omega arith, refl), tt)))), refl),
    refl,
    omega arith,
    omega arith,
    (
      (
        inl (record {
          kind = codes "udp";
          outside = codes ":53";
          inside = codes ":53";
          encoded = refl;
          type = refl;
          host = record { before = []; behind = codes "53"; encoded = refl; address = refl; port = (refl, omega arith) };
          guest = record { before = []; behind = codes "53"; encoded = refl; address = refl; port = (refl, omega arith) };
        }),
        tt,
      ),
      tt,
    ),
    plain _ _ _ _ _ _ _ _ _ _ _ (refl, refl, refl, refl, refl, refl, refl, refl, refl, refl, refl, refl, refl, refl, refl)
        (refl, refl) refl refl refl (endpoint 0xc0000201 53, refl, (refl, (omega arith, omega arith))) (0xc0000209, refl, (refl, omega arith)) refl refl,
    tt,
  ),
)

-- where commands are taken: such settings are of version 2
commanded : Means
    (codes "serve" ∷ codes "--control" ∷ codes "127.0.0.1:5556" ∷ codes "--link=unix:s" ∷ [])
    (Serves (record usual { version = 2; control = Some (endpoint loopback 5556) }) (AtPath (codes "s")) Off)
unfolding address_text endpoint_text digits
commanded = (
  codes "--control" ∷ codes "127.0.0.1:5556" ∷ codes "--link=unix:s" ∷ [],
  refl,
  (
    record { pieces = Apart (codes "--control") (codes "127.0.0.1:5556") ∷ Joined (codes "--link") (codes "unix:s") ∷ []; behind = None },
    refl,
    (((refl, omega arith, refl), ((refl, omega arith), tt)), refl),
    (refl, (omega arith, omega arith)),
    (refl, refl),
    (tt, tt),
    plain _ _ _ _ _ _ _ _ _ _ _ (refl, refl, refl, refl, refl, refl, refl, refl, refl, refl, refl, refl, refl, refl, refl)
        (refl, refl) refl refl refl refl refl (endpoint loopback 5556, refl, (refl, (omega arith, omega arith))) refl,
    tt,
  ),
)

-- a drill of a million octets from the number 7
a_drill : Means (codes "drive" ∷ codes "7" ∷ codes "1000000" ∷ []) (Drives 7 1000000)
unfolding digits
a_drill = (codes "7" ∷ codes "1000000" ∷ [], refl, (codes "7", codes "1000000", refl, (refl, omega arith), (refl, omega arith)))
