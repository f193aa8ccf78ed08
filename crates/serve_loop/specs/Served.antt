-- A service, and one that has served nothing.
use Rattle.std.specs.Prelude.{◌≡◌, ◌^◌, ◌≤◌, List, [], replicate, false}
use Rattle.slirp_settings.specs.Addresses.{Config}
use Rattle.rules_dhcp.specs.declared.Lease.TheVariants.{Free}
use Rattle.poll_list.specs.declared.Want.{Want}
use Rattle.stream_netdev.specs.State.{LinkState, under_way}
use Rattle.slirp_settings.specs.Ranges.{IsSound}
use Rattle.slirp_core.specs.Holds.{as_given}
use Rattle.slirp_core.specs.Numbers.{flows_for}
use Rattle.slirp_core.specs.State.{SlirpState}

-- what contracts see of a service: its network, its link, and what the last wait wanted and reported
pub record ServiceState : Type 0 where
  pub slirp : SlirpState
  pub link : LinkState
  pub wants : List Want
  pub ready : List Want

-- what a step within a turn leaves as it was: the settings, the open forwards, how many turns there were, and what the last wait wanted and reported
pub record Stays (old new : ServiceState) : Type 0 where
  pub config : new.slirp.config ≡ old.slirp.config
  pub forwards : new.slirp.forwards ≡ old.slirp.forwards
  pub turn : new.slirp.flows.turn ≡ old.slirp.flows.turn
  pub wants : new.wants ≡ old.wants
  pub ready : new.ready ≡ old.ready

-- nothing was read or written, no datagram was sent, no guest is known, no socket is open, no moment was told, nothing is owed, no fragment waits, no address
-- is leased and no guest gets a file; no forward is added or taken back; there is room for as many flows as the settings say, and none of them was used; no port of the host is open yet, and no
-- question waits; a frame has room for a header and a unit of 8 octets, and there are at most 2^44 turns, one at least
pub record IsNew (service : ServiceState) : Type 0 where
  pub sound : IsSound service.slirp.config
  pub given : service.slirp.config ≡ as_given service.slirp.config
  pub forwards : service.slirp.forwards ≡ []
  pub flows : service.slirp.flows ≡ flows_for service.slirp.config
  pub unit : 28 ≤ service.slirp.config.mtu
  pub turns : service.slirp.config.turns ≤ 2 ^ 44
  pub some_turns : 1 ≤ service.slirp.config.turns
  pub known : service.slirp.known ≡ []
  pub sent : service.slirp.sent ≡ 0
  pub pending : service.slirp.pending ≡ []
  pub moment : service.slirp.moment ≡ 0
  pub number : service.slirp.number ≡ 0
  pub associations : service.slirp.associations ≡ []
  pub questions : service.slirp.questions ≡ []
  pub fragments : service.slirp.fragments ≡ []
  pub leases : service.slirp.leases ≡ replicate 16 Free
  pub transfers : service.slirp.transfers ≡ []
  pub input : under_way service.link ≡ []
  pub output : service.link.tail ≡ []
  pub free : service.link.blocked ≡ false
