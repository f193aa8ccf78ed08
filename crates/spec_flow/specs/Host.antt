-- The host's stream: what was read from it, what of it went out, and what the guest acknowledged. The newest comes first.
use Rattle.std.specs.Prelude.{◌≡◌, ℕ, ◌+◌, List, [], ◌∷◌, ◌++◌, length, max, Bool, true, false, Some, slice_get, if◌then◌else◌, ◌&&◌, ◌||◌, ◌⊎◌, ℤ, pos, ◌+ℤ◌, int_le}
use Rattle.seq_space.specs.Places.{place}
use Rattle.spec_flow.specs.Guest.{from_zero, octet_at}

-- what matters to the host's stream
pub data Down : Type 0 where
  -- our SYN has this number
  Ours : (first : ℕ) → Down
  -- these octets were read from the host
  Got : (octets : List ℕ) → Down
  -- the host's end was read
  GotEnd : Down
  -- a segment without SYN went out
  Sent : (number : ℕ) (octets : List ℕ) (fin : Bool) → Down
  -- the guest acknowledged all numbers before this one
  Confirmed : (number : ℕ) → Down

-- the number of our SYN
abbrev pub our_first : List Down → ℕ
our_first [] = 0
our_first (Ours s ∷ past) = s
our_first (_ ∷ past) = our_first past

-- the octets that were read
abbrev pub got : List Down → List ℕ
got [] = []
got (Got xs ∷ past) = got past ++ xs
got (_ ∷ past) = got past

abbrev pub got_end : List Down → Bool
got_end [] = false
got_end (GotEnd ∷ past) = true
got_end (_ ∷ past) = got_end past

-- how many numbers there are to send: the octets that were read, and the end
abbrev pub owned : List Down → ℕ
owned past = length (got past) + (if got_end past then 1 else 0)

-- how far the stream went out, the end counted as one
abbrev pub sent : List Down → ℕ
sent [] = 0
sent (Sent n xs fin ∷ past) = max (sent past) (from_zero (place n (our_first past) (sent past) +ℤ pos (length xs + (if fin then 1 else 0))))
sent (_ ∷ past) = sent past

-- the place of a number of ours, whether a segment begins there or an acknowledgement names it
abbrev pub our_place : List Down → ℕ → ℤ
our_place past number = place number (our_first past) (sent past)

-- an acknowledgement of something that was sent (RFC 9293, 3.10.7.4, without the lower bound)
abbrev pub not_past_sent : List Down → ℕ → Bool
not_past_sent past number = int_le (our_place past number) (pos (sent past))

-- how far the guest acknowledged it
abbrev pub acked : List Down → ℕ
acked [] = 0
acked (Confirmed n ∷ past) = if not_past_sent past n then max (acked past) (from_zero (our_place past n)) else acked past
acked (_ ∷ past) = acked past

-- an acceptable acknowledgement: from what was acknowledged to what was sent
abbrev pub is_acceptable : List Down → ℕ → Bool
is_acceptable past number = int_le (pos (acked past)) (our_place past number) && not_past_sent past number

-- our SYN was acknowledged
abbrev pub answered : List Down → Bool
answered [] = false
answered (Confirmed n ∷ past) = is_acceptable past n || answered past
answered (_ ∷ past) = answered past

-- the octets stand in the stream from the place o on
abbrev pub StandAt : List ℕ → ℕ → List ℕ → Type 0
StandAt stream o octets = (k x : ℕ) → slice_get octets k ≡ Some x → slice_get stream (o + k) ≡ Some x

-- the octet x went out at the place i
abbrev pub Gave : List Down → ℕ → ℕ → Type 0
Gave [] i x = ⊥
Gave (Sent n xs fin ∷ past) i x = (octet_at (our_place past n) xs i ≡ Some x) ⊎ Gave past i x
Gave (_ ∷ past) i x = Gave past i x

-- a segment with FIN went out
abbrev pub end_is_out : List Down → Bool
end_is_out [] = false
end_is_out (Sent n xs fin ∷ past) = fin || end_is_out past
end_is_out (_ ∷ past) = end_is_out past
