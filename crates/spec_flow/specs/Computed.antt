-- Tests that compute: of numbers and lists, of the guest's stream, and of the host's.
use Rattle.std.specs.Prelude.{ℕ, zero, suc, ◌+◌, ◌^◌, List, [], ◌∷◌, length, drop, min, Option, None, Some, slice_get, Bool, true, false, not, ◌&&◌, ◌||◌, if◌then◌else◌, ℤ, pos, negsuc}
use Rattle.std.specs.Prelude.{◌+ℤ◌, nat_le, nat_lt, nat_eq}
use Rattle.std.specs.List.{list_any}
use Rattle.seq_space.specs.Places.{number_of, steps_up}
use Rattle.spec_flow.specs.Event.{Segment, Story}
use Rattle.spec_flow.specs.Guest.{Up, Came, is_empty, octet_at, first_of, front, begins, ends, top, ackd}
use Rattle.spec_flow.specs.Host.{got, sent, our_place}
use Rattle.spec_flow.specs.Flow.{host, push}

-- ---- of numbers and lists

abbrev pub same_bool : Bool → Bool → Bool
same_bool true b = b
same_bool false b = not b

abbrev pub is_at : ℤ → ℕ → Bool
is_at (pos n) m = nat_eq n m
is_at (negsuc n) m = false

-- a place is at most m
abbrev pub is_under : ℤ → ℕ → Bool
is_under (pos n) m = nat_le n m
is_under (negsuc n) m = true

-- and below m
abbrev pub is_before : ℤ → ℕ → Bool
is_before (pos n) m = nat_lt n m
is_before (negsuc n) m = true

-- a number or none, and the same
abbrev pub is_number : Option ℕ → Option ℕ → Bool
is_number None None = true
is_number None (Some n) = false
is_number (Some m) None = false
is_number (Some m) (Some n) = nat_eq m n

abbrev pub begins_with : List ℕ → List ℕ → Bool
begins_with [] ys = true
begins_with (x ∷ xs) [] = false
begins_with (x ∷ xs) (y ∷ ys) = nat_eq x y && begins_with xs ys

abbrev pub all_are : ℕ → List ℕ → Bool
all_are x [] = true
all_are x (y ∷ ys) = nat_eq x y && all_are x ys

abbrev pub are_same : List ℕ → Bool
are_same [] = true
are_same (x ∷ xs) = all_are x xs

abbrev pub every_below : ℕ → (ℕ → Bool) → Bool
every_below zero f = true
every_below (suc n) f = f n && every_below n f

-- ---- of the guest's stream

-- the octet x came at the number that stands for the place i
abbrev pub is_octet : Option ℕ → ℕ → Bool
is_octet None x = false
is_octet (Some y) x = nat_eq y x

abbrev pub brings : List Up → ℕ → ℕ → Bool
brings [] i x = false
brings (Came n xs fin heeded ∷ past) i x = (nat_lt n (2 ^ 32) && is_octet (slice_get xs (steps_up (number_of (first_of past) i) n)) x) || brings past i x
brings (_ ∷ past) i x = brings past i x

-- each octet from the place o on
abbrev pub brings_all : List Up → ℕ → List ℕ → Bool
brings_all past o [] = true
brings_all past o (x ∷ xs) = brings past o x && brings_all past (suc o) xs

-- all octets that the place i carries
abbrev pub octets_of : List Up → ℕ → List ℕ
octets_of [] i = []
octets_of (Came n xs fin heeded ∷ past) i = push (if nat_le (ackd past) i then octet_at (begins past n) xs i else None) (octets_of past i)
octets_of (_ ∷ past) i = octets_of past i

-- all ends
abbrev pub end_if : Bool → ℕ → ℤ → Option ℕ
end_if true a (pos e) = if nat_le a e then Some e else None
end_if true a (negsuc n) = None
end_if false a z = None

abbrev pub all_ends : List Up → List ℕ
all_ends [] = []
all_ends (Came n xs fin heeded ∷ past) = push (end_if fin (ackd past) (ends past n xs)) (all_ends past)
all_ends (_ ∷ past) = all_ends past

abbrev pub ends_at : List Up → ℕ → Bool
ends_at past i = list_any (nat_eq i) (all_ends past)

abbrev pub has_come : List Up → ℕ → Bool
has_come past n = nat_le n (length (front past)) || (ends_at past (length (front past)) && nat_eq n (length (front past) + 1))

-- the acknowledged octets: the smaller of what was acknowledged and the end
abbrev pub least_end : ℕ → List ℕ → ℕ
least_end a [] = a
least_end a (e ∷ es) = min a e

abbrev pub acknowledged : List Up → ℕ
acknowledged past = least_end (ackd past) (all_ends past)

-- ---- a conforming guest

abbrev pub none_past : ℕ → List ℕ → List ℕ → Bool
none_past i es [] = true
none_past i [] (x ∷ xs) = true
none_past i (e ∷ es) (x ∷ xs) = nat_lt i e && none_past i es (x ∷ xs)

abbrev pub is_near : List Up → Bool
is_near [] = true
is_near (Came n xs fin heeded ∷ past) = is_under (begins past n +ℤ pos (length xs + (if fin then 1 else 0))) (ackd past + 2 ^ 31) && is_near past
is_near (_ ∷ past) = is_near past

-- each place carries one octet, there is one end and no octet at or past it, and no segment is far ahead
abbrev pub is_conforming : List Up → Bool
is_conforming past =
    every_below (top past) (λ i. are_same (octets_of past i) && none_past i (all_ends past) (octets_of past i))
    && (are_same (all_ends past) && is_near past)

-- each segment has a number of 32 bits, and no more octets than there are numbers
abbrev pub are_sized : List Up → Bool
are_sized [] = true
are_sized (Came n xs fin heeded ∷ past) = (nat_lt n (2 ^ 32) && nat_le (length xs) (2 ^ 32)) && are_sized past
are_sized (_ ∷ past) = are_sized past

-- ---- of the host's stream

-- the octets were read at this place, and leave no gap
abbrev pub stands_at : ℤ → Story → List ℕ → Bool
stands_at (pos o) past xs = nat_le o (sent (host past)) && begins_with xs (drop o (got (host past)))
stands_at (negsuc n) past xs = false

abbrev pub sends_read : Bool → Story → Segment → Bool
sends_read true past seg = is_empty seg.octets && not seg.fin
sends_read false past seg = stands_at (our_place (host past) seg.number) past seg.octets
