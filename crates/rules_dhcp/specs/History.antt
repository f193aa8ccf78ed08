-- DHCP over a history of messages, as a reader of RFC 2131 has it: which message each answer answers, and whose an address is, and for how long.
use Rattle.std.specs.Prelude.{◌≡◌, ◌≢◌, ◌⊎◌, ℕ, ◌+◌, ◌<◌, ◌≤◌, ⊤, true, List, [], ◌∷◌, ◌++◌, map, replicate, MatchOption, Some}
use Rattle.net_octets.specs.declared.Mac.{Mac}
use Rattle.slirp_settings.specs.Addresses.{Config}
use Rattle.rules_dhcp.specs.declared.Lease.{Lease}
use Rattle.rules_dhcp.specs.declared.Lease.TheVariants.{Free, Reserved, Bound, Declined}
use Rattle.rules_dhcp.specs.declared.Message.{Message}
use Rattle.rules_dhcp.specs.declared.Answer.{Answer}
use Rattle.rules_dhcp.specs.declared.Answer.TheVariants.{Silence, Offers, Lends, Informs, Refuses}
use Rattle.rules_dhcp.specs.Leases.{at_moment, lease_at, lease_time, address_of, is_of}
use Rattle.rules_dhcp.specs.Messages.{read_message}
use Rattle.rules_dhcp.specs.Serving.{discover, request, decline, release, inform, leases_after, served, wanted}

-- what reached the server: at which moment, in milliseconds, and its octets
pub record Received : Type 0 where
  pub at : ℕ
  pub octets : List ℕ

-- these octets are this message
abbrev pub Says : Received → Message → Type 0
Says r m = read_message r.octets ≡ Some m

-- What the server keeps after a history, newest first: of each of the 16 addresses, in their order, whose it is. Before the first message all are free.
abbrev pub leases_over : Config → List Received → List Lease
leases_over config [] = replicate 16 Free
leases_over config (r ∷ before) = leases_after config r.at r.octets (leases_over config before)

-- whose an address is at a moment after a history: what is over by then is free
abbrev pub entry_over : Config → List Received → ℕ → ℕ → Lease
entry_over config before at place = lease_at (map (at_moment at) (leases_over config before)) place

-- how a message is answered after a history
abbrev pub answer_over : Config → List Received → Received → Answer
answer_over config before r = (served config r.at (leases_over config before) (read_message r.octets)).answer

-- Which server a REQUEST is for. It names this one, as a client does that chose its offer, or none, as one that reboots, renews or binds anew (RFC 2131, 4.3.2).
abbrev pub IsForUs : Config → Message → Type 0
IsForUs config m = MatchOption m.server ⊤ (λ a. a.0 ≡ config.vhost)

-- the address isn't one of the 16
abbrev pub IsOutside : Config → ℕ → Type 0
IsOutside config address = (address < config.dhcp_start) ⊎ (config.dhcp_start + 16 ≤ address)

-- the address is the one at this place of the 16
pub record IsAt (config : Config) (address place : ℕ) : Type 0 where
  pub is : address ≡ address_of config place
  pub among : place < 16

-- a client can't have it: it was offered or is leased to another, or a client found it in use
abbrev pub IsTaken : Mac → Lease → Type 0
IsTaken mac Free = ⊥
IsTaken mac (Reserved owner until) = owner ≢ mac
IsTaken mac (Bound owner until) = owner ≢ mac
IsTaken mac (Declined until) = ⊤

-- a client can have it: nobody has it, or it was offered or is leased to itself
abbrev pub IsOpen : Mac → Lease → Type 0
IsOpen mac Free = ⊤
IsOpen mac (Reserved owner until) = owner ≡ mac
IsOpen mac (Bound owner until) = owner ≡ mac
IsOpen mac (Declined until) = ⊥

-- An OFFER answers a DISCOVER (RFC 2131, 4.3.1), by an address that the client can have; a client that has one already is offered that one.
pub record IsOffer (config : Config) (before : List Received) (at : ℕ) (m : Message) (place : ℕ) : Type 0 where
  pub kind : m.kind ≡ discover
  pub among : place < 16
  pub open_to : IsOpen m.mac (entry_over config before at place)
  pub its_own : (other : ℕ) → is_of m.mac (entry_over config before at other) ≡ true → other ≡ place

-- An ACK with an address answers a REQUEST for this server that wants it, where the client can have it (4.3.2).
pub record IsLease (config : Config) (before : List Received) (at : ℕ) (m : Message) (place : ℕ) : Type 0 where
  pub kind : m.kind ≡ request
  pub for_us : IsForUs config m
  pub wants : IsAt config (wanted m) place
  pub open_to : IsOpen m.mac (entry_over config before at place)

-- A NAK answers a REQUEST for this server whose address isn't one of the 16, or which the client can't have (3.1, step 4, and 4.3.2).
pub record IsRefusal (config : Config) (before : List Received) (at : ℕ) (m : Message) : Type 0 where
  pub kind : m.kind ≡ request
  pub for_us : IsForUs config m
  pub wrong : IsOutside config (wanted m) ⊎ ((place : ℕ) × IsAt config (wanted m) place × IsTaken m.mac (entry_over config before at place))

-- what there has to be for each answer
abbrev pub HasReason : Config → List Received → ℕ → Message → Answer → Type 0
HasReason config before at m Silence = ⊤
HasReason config before at m (Offers place) = IsOffer config before at m place
HasReason config before at m (Lends place) = IsLease config before at m place
HasReason config before at m Informs = m.kind ≡ inform
HasReason config before at m Refuses = IsRefusal config before at m

-- A moment within the day for which an address was leased at another: 86,400 s from then on, without the very end (RFC 2131, 3.1, and RFC 2132, 9.2).
pub record IsInDay (from at : ℕ) : Type 0 where
  pub since : from ≤ at
  pub before : at < from + lease_time

-- A client gives an address up where it releases it (RFC 2131, 4.3.4), where it declines it (4.3.3), and where it is leased another in its place.
abbrev pub GivesUp : Config → List Received → Received → Message → ℕ → Type 0
GivesUp config before r m place =
    ((m.kind ≡ release) × IsAt config m.client.0 place)
    ⊎ (((m.kind ≡ decline) × MatchOption m.asked ⊥ (λ a. IsAt config a.0 place))
    ⊎ ((other : ℕ) × (answer_over config before r ≡ Lends other) × (other ≢ place)))

-- Of what came later each is within the day, and the client gives the address up by none of it.
abbrev pub KeepsIt : Config → Mac → ℕ → ℕ → List Received → List Received → Type 0
KeepsIt config mac place from [] before = ⊤
KeepsIt config mac place from (r ∷ later) before =
    KeepsIt config mac place from later before
    × IsInDay from r.at
    × ((m : Message) → Says r m → m.mac ≡ mac → ¬ GivesUp config (later ++ before) r m place)

-- An address was leased to a client by the answer to this message, and the client kept it through what came later.
pub record IsLeased (config : Config) (before : List Received) (r : Received) (later : List Received) (m : Message) (place : ℕ) : Type 0 where
  pub says : Says r m
  pub leased : answer_over config before r ≡ Lends place
  pub kept : KeepsIt config m.mac place r.at later (r ∷ before)

-- the address is leased to this client
abbrev pub IsLeasedTo : Mac → Lease → Type 0
IsLeasedTo mac Free = ⊥
IsLeasedTo mac (Reserved owner until) = ⊥
IsLeasedTo mac (Bound owner until) = owner ≡ mac
IsLeasedTo mac (Declined until) = ⊥

-- the answer gives this address, by an offer or by a lease
abbrev pub Gives : ℕ → Answer → Type 0
Gives place Silence = ⊥
Gives place (Offers given) = given ≡ place
Gives place (Lends given) = given ≡ place
Gives place Informs = ⊥
Gives place Refuses = ⊥
