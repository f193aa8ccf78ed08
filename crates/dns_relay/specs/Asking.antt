-- At which address of the host the sockets of questions are opened, and a question that goes out.
use Rattle.std.specs.Prelude.{◌≡◌, ℕ, false, List, [], ◌∷◌, unwrap_or, if◌then◌else◌}
use Rattle.std.specs.Option.{option_map_or}
use Rattle.slirp_settings.specs.Addresses.{Config, address}
use Rattle.slirp_settings.specs.Classes.{is_loopback}
use Rattle.rules_udp.specs.declared.Reply.{Reply}
use Rattle.world_face.specs.Journal.{Entry, UdpSend}
use Rattle.world_face.specs.declared.Sent.{Sent}
use Rattle.dns_relay.specs.Relaying.{Asked, told}
use Rattle.dns_relay.specs.declared.relay.AskedView.{AskedView}

-- that from which datagrams are to go out, if one is set; but for a resolver of the host itself, whichever it takes
abbrev pub bind_for : Config → ℕ
bind_for config = if option_map_or (λ to. is_loopback (address to)) config.resolver false then 0 else unwrap_or config.outbound 0

-- a question as contracts see it
abbrev pub asked_of : AskedView → Asked
asked_of d = record { from = d.from; mac = d.mac; to = d.to; body = d.body.now }

-- it was sent on a socket
abbrev pub SendsOn : ℕ → Asked → Reply → List Entry → Type 0
SendsOn socket d reply made = (answer : Sent) × (made ≡ UdpSend socket d.to d.body answer ∷ []) × (reply ≡ told answer)
