-- What the guests' UDP datagrams ask for.
use Rattle.std.specs.Prelude.{ℕ, ◌==◌, ◌&&◌, ◌||◌, not, Bool, Option, Some, None, unwrap_or, if◌then◌else◌}
use Rattle.world_face.specs.Journal.{Call, CallClose, CallUdpOpen, CallUdpSend}
use Rattle.net_octets.specs.declared.Endpoint.{Endpoint}
use Rattle.slirp_settings.specs.declared.Proto.TheVariants.{Udp as ByUdp}
use Rattle.host_policy.specs.declared.Verdict.{Verdict}
use Rattle.host_policy.specs.declared.Verdict.TheVariants.{Go, Denied}
use Rattle.slirp_settings.specs.Addresses.{Config, address, endpoint}
use Rattle.host_policy.specs.Targets.{target}
use Rattle.slirp_settings.specs.Classes.{is_loopback}
use Rattle.rules_dns.specs.Questions.{is_question}
use Rattle.spec_trace.specs.Packets.{Packet, Datagram, DatagramPacket}
use Rattle.slirp_settings.specs.Ports.{files_port, leases_port}

-- what becomes of a datagram: nothing, an unreachable, it is the server of leases' or that of files, or it goes out to an endpoint
pub data DatagramVerdict : Type 0 where
  Ignored : DatagramVerdict
  Refused : DatagramVerdict
  ForLeases : DatagramVerdict
  ForFiles : DatagramVerdict
  GoesTo : (to : Endpoint) → DatagramVerdict

-- to the name server questions go alone (RFC 1035, 4.1.1)
abbrev pub is_to_names : Config → Datagram → Bool
is_to_names config d = address d.to == config.vnameserver

abbrev pub datagram_verdict_by : Config → Datagram → Verdict → DatagramVerdict
datagram_verdict_by config d (Go to) = if is_to_names config d && not (is_question d.body) then Ignored else GoesTo to
datagram_verdict_by config d (Denied rule) = Refused

-- port 0 has no answer (RFC 768)
abbrev pub datagram_verdict : Config → Datagram → DatagramVerdict
datagram_verdict config d =
    if d.from.port == 0 then Ignored
    else (if (d.to.port == leases_port) && ((address d.to == config.vhost) || (address d.to == 0xffffffff)) then (if config.no_dhcp then Ignored else ForLeases)
    else (if (d.to.port == files_port) && (address d.to == config.vhost) then ForFiles
    else datagram_verdict_by config d (target config ByUdp d.to)))

-- a datagram that goes out, and where
pub record Errand : Type 0 where
  pub datagram : Datagram
  pub to : Endpoint

abbrev pub errand_by : Datagram → DatagramVerdict → Option Errand
errand_by d (GoesTo to) = Some (record { datagram = d; to = to })
errand_by d _ = None

abbrev pub errand_of : Config → Datagram → Option Errand
errand_of config d = errand_by d (datagram_verdict config d)

-- the errand of what came
abbrev pub errand_by_packet : Config → Packet → Option Errand
errand_by_packet config (DatagramPacket d) = errand_of config d
errand_by_packet config _ = None

-- it is a question to the name server
abbrev pub asks_a_name : Config → Errand → Bool
asks_a_name config errand = is_to_names config errand.datagram

-- At which address of the host its socket is opened: at that from which datagrams are to go out, if one is set; but a question to a resolver of the host itself
-- from whichever it takes. The port is the host's choice.
abbrev pub opened_at : Config → Errand → Endpoint
opened_at config errand =
    endpoint (if asks_a_name config errand && is_loopback (address errand.to) then 0 else unwrap_or config.outbound 0) 0

-- what the datagram that came last still asks for: the longest unused socket to be closed, then a socket to be opened, then to be sent on it
pub data Step : Type 0 where
  NeedsNothing : Step
  NeedsRoom : (longest_unused : ℕ) (errand : Errand) → Step
  NeedsSocket : (errand : Errand) → Step
  NeedsSending : (socket : ℕ) (errand : Errand) → Step

-- the call that must come next for it
abbrev pub due_for : Config → Step → ℕ → Option Call
due_for config NeedsNothing number = None
due_for config (NeedsRoom oldest errand) number = Some (CallClose oldest)
due_for config (NeedsSocket errand) number = Some (CallUdpOpen number (opened_at config errand))
due_for config (NeedsSending socket errand) number = Some (CallUdpSend socket errand.to errand.datagram.body)
