-- The retransmission timeout of RFC 6298, in whole milliseconds; divisions round down.
use Rattle.std.specs.Prelude.{ℕ, ◌+◌, ◌*◌, ◌/◌, ◌^◌, ◌≤◌, List, [], ◌∷◌, Option, None, Some, min, max}
use Rattle.std.specs.Int.{abs_diff}
use Rattle.retransmit.specs.declared.RoundTrips.{RoundTrips}

-- what is known of round trips, if one was measured, and RTO, how long to wait for an acknowledgement
pub record Estimate : Type 0 where
  pub round_trips : Option RoundTrips
  pub wait : ℕ

abbrev pub estimate : Option RoundTrips → ℕ → Estimate
estimate round_trips wait = record { round_trips = round_trips; wait = wait }

-- 2.1: before a round trip was measured, RTO is 1 second
abbrev pub at_first : Estimate
at_first = estimate None 1000

-- 2.2: the first measurement; 2.3: a later one, with alpha 1/8 and beta 1/4, RTTVAR by the SRTT before
abbrev pub round_trips_after : Option RoundTrips → ℕ → RoundTrips
round_trips_after None r = record { smoothed = r; variation = r / 2 }
round_trips_after (Some t) r = record {
  smoothed = (7 * t.smoothed + r) / 8;
  variation = (3 * t.variation + abs_diff t.smoothed r) / 4;
}

-- 2.3: RTO is SRTT + max (G, 4 RTTVAR), for a clock of G = 1 millisecond; 2.4 and 2.5: it is from 1 second to
-- 60 seconds
abbrev pub wait_of : RoundTrips → ℕ
wait_of t = min 60000 (max 1000 (t.smoothed + max 1 (4 * t.variation)))

-- after the measurement of a round trip of r milliseconds
abbrev pub after_sample : Estimate → ℕ → Estimate
after_sample e r =
    let t : RoundTrips = round_trips_after e.round_trips r in
    estimate (Some t) (wait_of t)

-- 5.5: where the timer expires RTO is doubled, up to 60 seconds
abbrev pub after_expiry : Estimate → Estimate
after_expiry e = estimate e.round_trips (min 60000 (2 * e.wait))

-- what can happen: a round trip of so many milliseconds was measured, or the timer expired
pub data Event : Type 0 where
  Sampled : ℕ → Event
  Expired : Event

-- the estimate after these events, the latest first
abbrev pub estimate_after : List Event → Estimate
estimate_after [] = at_first
estimate_after (Sampled r ∷ past) = after_sample (estimate_after past) r
estimate_after (Expired ∷ past) = after_expiry (estimate_after past)

-- round trips are at most 2^40 milliseconds
abbrev pub AreBounded : Option RoundTrips → Type 0
AreBounded None = Unit {0}
AreBounded (Some t) = (t.smoothed ≤ 2 ^ 40) × (t.variation ≤ 2 ^ 40)
