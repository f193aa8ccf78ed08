-- How long a wait of the system lasts.
use Rattle.std.specs.Prelude.{ℕ, ◌+◌, ◌-◌, ◌*◌, Bool, true, false, ◌&&◌, nat_le, min, List, [], ◌∷◌, Option, None, Some}
use Rattle.poll_list.specs.declared.Want.{Want}
use Rattle.poll_list.specs.declared.Who.TheVariants.{Link}
use Rattle.poll_list.specs.Listing.{same_who}

-- the moment, in milliseconds, at which a wait is over that begins now, if it ends; at most 2^64 - 1
abbrev pub end_of : (now : ℕ) (timeout : Option ℕ) → Option ℕ
end_of now None = None
end_of now (Some timeout) = Some (min (now + timeout) 18446744073709551615)

-- for how many nanoseconds the system is asked at most: for none where something is known to be ready, else up to that moment, if there is one
abbrev pub time_left : (now : ℕ) (until : Option ℕ) (is_some_ready : Bool) → Option ℕ
time_left now until true = Some 0
time_left now None false = None
time_left now (Some until) false = Some ((until - now) * 1000000)

-- that moment has come
abbrev pub is_over : (now : ℕ) (until : Option ℕ) → Bool
is_over now None = false
is_over now (Some until) = nat_le until now

-- the link, which stands first where it is wanted, is wanted for reading
abbrev pub is_link_read : List Want → Bool
is_link_read [] = false
is_link_read (want ∷ wants) = same_who Link want.of && want.read
