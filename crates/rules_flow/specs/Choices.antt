-- How many flows may be those of peers, which gives way, how often a guest's hardware address is asked for, and what a socket that can be written is for.
use Rattle.std.specs.Prelude.{ℕ, ◌-◌, ◌/◌, ◌==◌, ◌&&◌, ◌||◌, nat_lt, Bool, true, false, Option, Some, None, if◌then◌else◌}
use Rattle.rules_flow.specs.declared.Quiet.{Quiet}
use Rattle.rules_flow.specs.declared.Waits.{Waits}
use Rattle.rules_flow.specs.declared.HostWork.{HostWork}
use Rattle.rules_flow.specs.declared.HostWork.TheVariants.{Join, Octets, End, Nothing}

-- of so many flows a quarter, rounded down, is kept for those that guests open
abbrev pub most_for_peers : ℕ → ℕ
most_for_peers flows = flows - flows / 4

-- so many requests for a guest's hardware address are made at most; ours
abbrev pub most_requests : ℕ
most_requests = 9

-- a moment, if it is after this one
abbrev pub if_after : ℕ → Option ℕ → Option ℕ
if_after now None = None
if_after now (Some at) = if nat_lt now at then Some at else None

-- octets of the guest go before the guest's end
abbrev pub host_work : (connects owes_octets owes_end : Bool) → HostWork
host_work true owes_octets owes_end = Join
host_work false true owes_end = Octets
host_work false false true = End
host_work false false false = Nothing

-- the earlier last sign of life goes before, of the same moment the lesser number
abbrev pub is_before : Quiet → Quiet → Bool
is_before a b = nat_lt a.last b.last || ((a.last == b.last) && nat_lt a.number b.number)

abbrev pub earlier_quiet : Option Quiet → Option Quiet → Option Quiet
earlier_quiet (Some a) (Some b) = if is_before b a then Some b else Some a
earlier_quiet (Some a) None = Some a
earlier_quiet None o = o

-- the same is waited for on a socket
abbrev pub same_way : Bool → Bool → Bool
same_way true b = b
same_way false true = false
same_way false false = true

abbrev pub same_ways : Waits → Waits → Bool
same_ways one other = same_way one.read other.read && same_way one.write other.write
