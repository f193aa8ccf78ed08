-- Where sockets are opened, and where datagrams go.
use Rattle.std.proofs.Common.{◌≡◌, ℕ, ◌<◌, ◌&&◌, ◌⊎◌, Bool, true, false, List, Option, Some, None, is_some, option_and_then, unwrap_or, if◌then◌else◌, inl, inr, refl, sym, ◌∙◌, ap, subst, arith}
use Rattle.world_face.specs.Journal.{Entry, CallUdpOpen, CallUdpSend}
use Rattle.net_octets.specs.declared.Endpoint.{Endpoint}
use Rattle.slirp_settings.specs.declared.Forward.{Forward}
use Rattle.slirp_settings.specs.declared.Proto.{Proto}
use Rattle.slirp_settings.specs.declared.Proto.TheVariants.{Tcp as ByTcp, Udp as ByUdp}
use Rattle.host_policy.specs.declared.Verdict.TheVariants.{Go}
use Rattle.slirp_settings.specs.Addresses.{Config, address, endpoint, forward_on}
use Rattle.host_policy.specs.Targets.{target}
use Rattle.slirp_settings.specs.Classes.{is_loopback}
use Rattle.spec_trace.specs.Moments.{waits}
use Rattle.spec_trace.specs.Shape.{GivesNone}
use Rattle.spec_trace.specs.Packets.{Datagram}
use Rattle.spec_run.specs.Datagrams.{Errand, NeedsSending, asks_a_name, opened_at}
use Rattle.spec_run.specs.Asking.{step}
use Rattle.rules_dns.specs.Questions.{ident_in}
use Rattle.spec_run.specs.Laws.{May, Lawful}
use Rattle.spec_run.specs.Ports.{given_by, given_port, last_datagram, opened_for}
use Rattle.spec_run.specs.Said.{IsForAdded, IsFromHost, SendsWhatCame}
use Rattle.spec_run.proofs.Asked.{asked_for}
use Rattle.spec_run.proofs.Longest.{found_for, given_for}
use Rattle.spec_run.proofs.Phases.{given_forward, given_none, opens, opens_none, sends}
use Rattle.spec_run.proofs.Steps.{Asks, errand_asks, errand_is, goes_to_target, opened_for_it, opened_for_question}

of_host : (config : Config) (errand : Errand) (at : Endpoint) → at ≡ opened_at config errand → IsFromHost config at
of_host config errand at is = subst (IsFromHost config) (sym is) (by (asks_a_name config errand && is_loopback (address errand.to)))
  where
    bound : (o : Option ℕ) → config.outbound ≡ o → (unwrap_or config.outbound 0 ≡ 0) ⊎ (config.outbound ≡ Some (unwrap_or config.outbound 0))
    bound None set = inl (ap (λ o. unwrap_or o 0) set)
    bound (Some address) set = inr (set ∙ ap Some (sym (ap (λ o. unwrap_or o 0) set)))

    by : (b : Bool) → IsFromHost config (endpoint (if b then 0 else unwrap_or config.outbound 0) 0)
    by true = (refl, inl refl)
    by false = (refl, bound config.outbound refl)

pub opens_anywhere : (config : Config) (past : List Entry) (socket : ℕ) (at : Endpoint) → GivesNone config → May config past (CallUdpOpen socket at) → IsFromHost config at
opens_anywhere config past socket at none may = elim (opens config past socket at may) [
  | inl early ↦ absurd (early.1 (opens_none config past none.0))
  | inr later ↦ elim later [
    | inl o ↦ of_host config o.errand at o.at_address
    | inr given ↦ absurd (given_none config past socket at (given_port config socket) none given.is)
  ]
]

-- the forward of the port of a guest that hears datagrams is for datagrams
pub for_datagrams : (o : Option Forward) (f : Forward) → o ≡ Some f → is_some (option_and_then (λ (f : Forward). given_by f.proto f.guest) o) ≡ true → f.proto ≡ ByUdp
for_datagrams o f on some = by f.proto (ap (λ (o : Option Forward). is_some (option_and_then (λ (f : Forward). given_by f.proto f.guest) o)) (sym on) ∙ some)
  where
    by : (p : Proto) → is_some (given_by p f.guest) ≡ true → p ≡ ByUdp
    by ByUdp is = refl
    by ByTcp is = cc

pub opens_later : (config : Config) (past : List Entry) (socket : ℕ) (at : Endpoint) → 0 < waits past → May config past (CallUdpOpen socket at)
    → IsFromHost config at ⊎ IsForAdded config ByUdp socket at
opens_later config past socket at waited may = elim (opens config past socket at may) [
  | inl early ↦ (let none = early.0 in absurd (omega (arith, waited, none)))
  | inr later ↦ elim later [
    | inl o ↦ inl (of_host config o.errand at o.at_address)
    | inr given ↦ (let g = given_forward config past socket at (given_port config socket) given.is in
        inr (g.forward, g.on, for_datagrams (forward_on config socket) g.forward g.on g.leads, g.host))
  ]
]

-- the socket on which an errand is sent was opened for its port
port_of : (config : Config) (past : List Entry) (socket : ℕ) (errand : Errand) → Lawful config past → step config past ≡ NeedsSending socket errand →
    opened_for config socket past ≡ Some errand.datagram.from
port_of config past socket errand lawful asked = by (asks_a_name config errand) refl
  where
    by : (b : Bool) → asks_a_name config errand ≡ b → opened_for config socket past ≡ Some errand.datagram.from
    by true name = asked_for config past errand.datagram.from (ident_in errand.datagram.body) socket lawful (opened_for_question config past socket errand name asked)
    by false other = elim (opened_for_it config past socket errand other asked) [
      | inl given ↦ given_for config past errand.datagram.from socket given
      | inr own ↦ found_for config past errand.datagram.from socket own
    ]

pub sends_what_came : (config : Config) (past : List Entry) (socket : ℕ) (to : Endpoint) (octets : List ℕ) → Lawful config past → May config past (CallUdpSend socket to octets) →
    SendsWhatCame config past socket to octets
sends_what_came config past socket to octets lawful may =
    let s = sends config past socket to octets may in
    let asks : Asks config (last_datagram config past) s.errand = errand_asks config past s.errand (errand_is config past (NeedsSending socket s.errand) s.asked) in
    record {
      datagram = s.errand.datagram;
      last = asks.datagram;
      port = port_of config past socket s.errand lawful s.asked;
      goes = goes_to_target config s.errand.datagram s.errand.to asks.goes ∙ ap Go (sym s.target);
      whole = s.whole;
    }

pub sends_to_target : (config : Config) (past : List Entry) (socket : ℕ) (to : Endpoint) (octets : List ℕ) → May config past (CallUdpSend socket to octets)
    → (d : Datagram) × (last_datagram config past ≡ Some d) × (target config ByUdp d.to ≡ Go to)
sends_to_target config past socket to octets may =
    let s = sends config past socket to octets may in
    let asks : Asks config (last_datagram config past) s.errand = errand_asks config past s.errand (errand_is config past (NeedsSending socket s.errand) s.asked) in
    (s.errand.datagram, asks.datagram, goes_to_target config s.errand.datagram s.errand.to asks.goes ∙ ap Go (sym s.target))
