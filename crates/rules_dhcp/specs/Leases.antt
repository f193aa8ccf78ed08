-- The list of leases: one entry for each address that is leased, in their order (RFC 2131, 2.2).
use Rattle.std.specs.Prelude.{◌≡◌, ℕ, ◌+◌, ◌-◌, nat_eq, nat_lt, nat_le, ◌&&◌, ◌||◌, Bool, true, false, List, map, position, slice_index_or, slice_set, Option, Some, None, if◌then◌else◌}
use Rattle.std.specs.Option.{option_and_then, option_or}
use Rattle.std.specs.Cmp.Lexicographic.{pointwise}
use Rattle.net_octets.specs.declared.Mac.{Mac}
use Rattle.slirp_settings.specs.Addresses.{Config}
use Rattle.rules_dhcp.specs.declared.Lease.{Lease}
use Rattle.rules_dhcp.specs.declared.Lease.TheVariants.{Free, Reserved, Bound, Declined}

-- how many milliseconds an address is kept for a hardware address to which it was offered: a minute, ours (RFC 2131, 3.1 leaves it)
abbrev pub offer_time : ℕ
offer_time = 60000

-- how many milliseconds an address is leased: a day, ours (RFC 2131, 4.3.1 leaves it)
abbrev pub lease_time : ℕ
lease_time = 86400000

-- how many milliseconds an address that a client declined is kept from use: an hour, ours (RFC 2131, 4.3.3 leaves it)
abbrev pub declined_time : ℕ
declined_time = 3600000

abbrev pub same_mac : Mac → Mac → Bool
same_mac a b = pointwise nat_eq a.0 b.0

-- whose time is over at this very moment is free
abbrev pub at_moment : ℕ → Lease → Lease
at_moment now Free = Free
at_moment now (Reserved mac until) = if nat_lt now until then Reserved mac until else Free
at_moment now (Bound mac until) = if nat_lt now until then Bound mac until else Free
at_moment now (Declined until) = if nat_lt now until then Declined until else Free

abbrev pub is_free : Lease → Bool
is_free Free = true
is_free _ = false

-- bound or reserved to this hardware address
abbrev pub is_of : Mac → Lease → Bool
is_of mac (Reserved owner until) = same_mac owner mac
is_of mac (Bound owner until) = same_mac owner mac
is_of mac _ = false

abbrev pub is_reserved_for : Mac → Lease → Bool
is_reserved_for mac (Reserved owner until) = same_mac owner mac
is_reserved_for mac _ = false

abbrev pub lease_at : List Lease → ℕ → Lease
lease_at leases place = slice_index_or leases place Free

-- the place of an address in the list; an address that isn't leased has none
abbrev pub place_of : Config → ℕ → Option ℕ
place_of config address = if nat_le config.dhcp_start address && nat_lt address (config.dhcp_start + 16) then Some (address - config.dhcp_start) else None

-- the address of a place
abbrev pub address_of : Config → ℕ → ℕ
address_of config place = config.dhcp_start + place

-- the place whose address is offered: that of the hardware address, else the one asked for where it is free, else the lowest free one
abbrev pub free_asked : List Lease → ℕ → Option ℕ
free_asked leases place = if is_free (lease_at leases place) then Some place else None

abbrev pub offered : Mac → Option ℕ → List Lease → Option ℕ
offered mac asked leases =
    option_or (position (is_of mac) leases)
    (option_or (option_and_then (free_asked leases) asked) (position is_free leases))

-- an offer reserves the address from now on, but a lease stays as it is
abbrev pub reserved : ℕ → Mac → Lease → Lease
reserved now mac (Bound owner until) = Bound owner until
reserved now mac _ = Reserved mac (now + offer_time)

abbrev pub reserve : ℕ → Mac → ℕ → List Lease → List Lease
reserve now mac place leases = slice_set leases place (reserved now mac (lease_at leases place))

-- what was a hardware address's is free
abbrev pub freed : Mac → Lease → Lease
freed mac lease = if is_of mac lease then Free else lease

-- what was offered to a hardware address is free
abbrev pub not_reserved : Mac → Lease → Lease
not_reserved mac lease = if is_reserved_for mac lease then Free else lease

-- whether a place's address can be leased to a hardware address
abbrev pub can_have : Mac → Lease → Bool
can_have mac lease = is_free lease || is_of mac lease

-- an address is leased, and any other of the hardware address is free
abbrev pub lend : ℕ → Mac → ℕ → List Lease → List Lease
lend now mac place leases = slice_set (map (freed mac) leases) place (Bound mac (now + lease_time))

-- where an address is the hardware address's, it becomes this
abbrev pub replaced : Mac → ℕ → Lease → List Lease → List Lease
replaced mac place lease leases = if is_of mac (lease_at leases place) then slice_set leases place lease else leases

-- no hardware address has two addresses; no address stands twice, since each place has its own
abbrev pub IsOneToOne : List Lease → Type 0
IsOneToOne leases = (mac : Mac) (i j : ℕ) → is_of mac (lease_at leases i) ≡ true → is_of mac (lease_at leases j) ≡ true → i ≡ j
