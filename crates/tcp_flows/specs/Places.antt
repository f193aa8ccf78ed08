-- Where the want on a socket stands among those that stand.
use Rattle.std.specs.Prelude.{◌≡◌, ℕ, ◌==◌, Bool, false, true, List, nat_lt, slice_get, Option, Some, None}
use Rattle.std.specs.List.Sorted.{IsPartitionPoint}
use Rattle.poll_list.specs.declared.Want.{Want}
use Rattle.tcp_flows.specs.Standing.{number_in}

-- so many have a number below this one, and they stand first
abbrev pub IsPlaceOf : ℕ → List Want → ℕ → Type 0
IsPlaceOf n wants place = IsPartitionPoint (λ (w : Want). nat_lt (number_in w) n ≡ true) (λ (w : Want). nat_lt (number_in w) n ≡ false) wants place

-- the one at a place has this number
abbrev pub has_number : ℕ → Option Want → Bool
has_number n None = false
has_number n (Some w) = number_in w == n

abbrev pub has_at : (place n : ℕ) → List Want → Bool
has_at place n wants = has_number n (slice_get wants place)
