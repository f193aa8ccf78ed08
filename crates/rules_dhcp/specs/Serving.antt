-- What becomes of the leases by a message, and what is answered (RFC 2131, 4.3).
use Rattle.std.specs.Prelude.{ℕ, ◌+◌, ◌==◌, not, Bool, false, List, map, Option, Some, None, if◌then◌else◌}
use Rattle.std.specs.Option.{option_and_then, option_map_or}
use Rattle.net_octets.specs.declared.Mac.{Mac}
use Rattle.slirp_settings.specs.Addresses.{Config}
use Rattle.rules_dhcp.specs.declared.Answer.{Answer}
use Rattle.rules_dhcp.specs.declared.Answer.TheVariants.{Silence, Offers, Lends, Informs, Refuses}
use Rattle.rules_dhcp.specs.declared.Lease.{Lease}
use Rattle.rules_dhcp.specs.declared.Lease.TheVariants.{Free, Declined}
use Rattle.rules_dhcp.specs.declared.Message.{Message}
use Rattle.rules_dhcp.specs.declared.Outcome.{Outcome}
use Rattle.rules_dhcp.specs.Leases.{at_moment, declined_time, lease_at, place_of, offered, reserve, not_reserved, can_have, lend, replaced}
use Rattle.rules_dhcp.specs.Messages.{read_message}

-- the kinds of a client's messages (RFC 2132, 9.6)
abbrev pub discover : ℕ
discover = 1

abbrev pub request : ℕ
request = 3

abbrev pub decline : ℕ
decline = 4

abbrev pub release : ℕ
release = 7

abbrev pub inform : ℕ
inform = 8

abbrev pub leaves : List Lease → Answer → Outcome
leaves leases answer = record { leases = leases; answer = answer }

-- the place of the address that is asked for by option 50
abbrev pub asked_place : Config → Message → Option ℕ
asked_place config m = option_and_then (λ a. place_of config a.0) m.asked

abbrev pub offers : ℕ → Mac → List Lease → Option ℕ → Outcome
offers now mac leases None = leaves leases Silence
offers now mac leases (Some place) = leaves (reserve now mac place leases) (Offers place)

abbrev pub discovered : Config → ℕ → Message → List Lease → Outcome
discovered config now m leases = offers now m.mac leases (offered m.mac (asked_place config m) leases)

-- it chose another server
abbrev pub is_for_another : Config → Message → Bool
is_for_another config m = option_map_or (λ a. not (a.0 == config.vhost)) m.server false

-- the address that a client wants: that of option 50, else its own
abbrev pub wanted : Message → ℕ
wanted m = option_map_or (λ a. a.0) m.asked m.client.0

abbrev pub lends : ℕ → Mac → List Lease → Option ℕ → Outcome
lends now mac leases None = leaves leases Refuses
lends now mac leases (Some place) =
    if can_have mac (lease_at leases place) then leaves (lend now mac place leases) (Lends place)
    else leaves leases Refuses

abbrev pub requested : Config → ℕ → Message → List Lease → Outcome
requested config now m leases =
    if is_for_another config m then leaves (map (not_reserved m.mac) leases) Silence
    else lends now m.mac leases (place_of config (wanted m))

-- an address of the client becomes this, where it is one
abbrev pub given_up : Mac → Lease → List Lease → Option ℕ → Outcome
given_up mac lease leases None = leaves leases Silence
given_up mac lease leases (Some place) = leaves (replaced mac place lease leases) Silence

-- by the kind of the message
abbrev pub outcome_of : Config → ℕ → Message → List Lease → Outcome
outcome_of config now m leases =
    if m.kind == discover then discovered config now m leases
    else (if m.kind == request then requested config now m leases
    else (if m.kind == decline then given_up m.mac (Declined (now + declined_time)) leases (asked_place config m)
    else (if m.kind == release then given_up m.mac Free leases (place_of config m.client.0)
    else (if m.kind == inform then leaves leases Informs
    else leaves leases Silence))))

-- the leases whose time is over are free before a message is looked at
abbrev pub served : Config → ℕ → List Lease → Option Message → Outcome
served config now leases None = leaves leases Silence
served config now leases (Some m) = outcome_of config now m (map (at_moment now) leases)

abbrev pub leases_after : Config → ℕ → List ℕ → List Lease → List Lease
leases_after config now octets leases = (served config now leases (read_message octets)).leases
