-- The congestion window of RFC 5681, in octets; divisions round down.
use Rattle.std.specs.Prelude.{ℕ, ◌+◌, ◌*◌, ◌/◌, ◌^◌, Bool, List, [], ◌∷◌, min, max, if◌then◌else◌, nat_lt, nat_le, nat_eq}

-- SMSS, the most octets of a segment; cwnd, the congestion window; ssthresh, the threshold; and how many duplicate
-- acknowledgements came since the last that acknowledged octets, where 3 stands for more too
pub record Congestion : Type 0 where
  pub mss : ℕ
  pub window : ℕ
  pub threshold : ℕ
  pub duplicates : ℕ

abbrev pub congestion : (mss window threshold duplicates : ℕ) → Congestion
congestion mss window threshold duplicates = record {
  mss = mss;
  window = window;
  threshold = threshold;
  duplicates = duplicates;
}

-- the greatest window that RFC 7323 can say: no congestion window is greater
abbrev pub cut : ℕ → ℕ
cut window = min (2 ^ 30) window

-- 3.1: four segments at first, three of over 1,095 octets, two of over 2,190; one where the SYN went out again
abbrev pub initial_window : ℕ → Bool → ℕ
initial_window mss syn_again =
    if syn_again then mss else (if nat_le mss 1095 then 4 * mss else (if nat_le mss 2190 then 3 * mss else 2 * mss))

abbrev pub at_first : ℕ → Bool → Congestion
at_first mss syn_again = congestion mss (initial_window mss syn_again) (2 ^ 30) 0

-- 3.1: in slow start, under the threshold, the window grows by the octets acknowledged, a segment at most (2); in
-- congestion avoidance by SMSS * SMSS / cwnd, an octet at least (3)
abbrev pub growth : Congestion → ℕ → ℕ
growth c octets =
    if nat_lt c.window c.threshold then min octets c.mss else max 1 (c.mss * c.mss / c.window)

-- so many octets were acknowledged for the first time; where duplicates had made a segment go again, the window is the
-- threshold then (3.2, step 6)
abbrev pub after_acked : Congestion → ℕ → Congestion
after_acked c octets = record c {
  window = cut (if nat_lt c.duplicates 3 then c.window + growth c octets else c.threshold);
  duplicates = 0;
}

-- half of what is under way, two segments at least (4)
abbrev pub half_of : Congestion → ℕ → ℕ
half_of c flight = max (flight / 2) (2 * c.mss)

-- a duplicate acknowledgement came while so many numbers were under way: at the third the threshold is half of them, and
-- the window three segments more (3.2, steps 2 and 3); past it the window grows by a segment (step 4)
abbrev pub after_duplicate : Congestion → ℕ → Congestion
after_duplicate c flight =
    if nat_lt c.duplicates 2 then record c { duplicates = c.duplicates + 1 }
    else (if nat_eq c.duplicates 2 then congestion c.mss (cut (half_of c flight + 3 * c.mss)) (half_of c flight) 3
    else record c { window = cut (c.window + c.mss) })

-- the timer of what is under way expired: the window is one segment, and the threshold half of what is under way, unless
-- the timer had made it go again before (3.1)
abbrev pub after_expiry : Congestion → ℕ → Bool → Congestion
after_expiry c flight again = record c {
  window = c.mss;
  threshold = if again then c.threshold else half_of c flight;
  duplicates = 0;
}

-- what can happen: so many octets are acknowledged for the first time; a duplicate acknowledgement comes, or the timer
-- expires, while so many numbers are under way, and the timer for what had gone again at an expiry before
pub data Event : Type 0 where
  Acked : ℕ → Event
  Duplicate : ℕ → Event
  Expired : ℕ → Bool → Event

-- the congestion window after these events, the latest first
abbrev pub congestion_after : ℕ → Bool → List Event → Congestion
congestion_after mss syn_again [] = at_first mss syn_again
congestion_after mss syn_again (Acked octets ∷ past) = after_acked (congestion_after mss syn_again past) octets
congestion_after mss syn_again (Duplicate flight ∷ past) = after_duplicate (congestion_after mss syn_again past) flight
congestion_after mss syn_again (Expired flight again ∷ past) = after_expiry (congestion_after mss syn_again past) flight again
