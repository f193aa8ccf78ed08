-- What a timer knows of the times at which something went out, step by step.
use Rattle.std.proofs.Common.{refl, ◌≡◌, ℕ, zero, suc, ◌+◌, ◌*◌, ◌^◌, ◌<◌, ◌≤◌, List, [], ◌∷◌, length, min, arith, pow-suc}
use native.Mathlib.Nat.{one-le-pow}
use Rattle.sim_halves.specs.Resends.{least_wait, least_waits, first_time, IsRunning, IsOverdue}

-- a wait is a second at least, and a minute at most
pub wait_low : (k : ℕ) → 1000 ≤ least_wait k
wait_low k = let some : 1 ≤ 2 ^ k = one-le-pow k 2 (omega arith) in omega (arith, some)

-- and never less after one resending more
pub wait_grows : (k : ℕ) → least_wait 1 ≤ least_wait (suc k)
wait_grows k = let twice = pow-suc 2 k in let some : 1 ≤ 2 ^ k = one-le-pow k 2 (omega arith) in omega (arith, twice, some)

pub wait_high : (k : ℕ) → least_wait k ≤ 60000
wait_high k = omega arith

-- after an expiry it is doubled
pub wait_doubled : (k w : ℕ) → least_wait k ≤ w → least_wait (suc k) ≤ min 60000 (2 * w)
wait_doubled k w low = let twice = pow-suc 2 k in omega (arith, twice, low)

-- eight waits, and nine
waits_eight : least_waits 8 ≡ 183000
waits_eight = refl

pub waits_nine : least_waits 8 + least_wait 8 ≡ 243000
waits_nine = refl

-- one time more doesn't change the first
pub first_stays : (m : ℕ) (times : List ℕ) → 0 < length times → first_time (m ∷ times) ≡ first_time times
first_stays m [] some = absurd (omega arith)
first_stays m (t ∷ times) some = refl

-- something goes out for the first time, and the timer is set
pub starts : (again now w : ℕ) → 1000 ≤ w → w ≤ 60000 → IsRunning (now ∷ []) again now 0 (now + w)
starts again now w low high = record { many = omega arith; recent = omega arith; low = omega arith; from = omega (arith, low); until = omega (arith, high) }

-- the timer expires, and what it waits for is owed again
pub expires : (times : List ℕ) (again since k at now : ℕ) → IsRunning times again since k at → at ≤ now → IsOverdue times again now (suc k)
expires times again since k at now r due = record { many = omega (arith, r.many); recent = omega (arith, r.recent); low = omega (arith, r.low, r.from, due) }

-- it is owed again before the timer expires, for another cause
pub owed_early : (times : List ℕ) (again since k at now : ℕ) → IsRunning times again since k at → since ≤ now → IsOverdue times again now k
owed_early times again since k at now r on = record { many = omega (arith, r.many); recent = omega (arith, r.recent); low = omega (arith, r.low, on) }

-- time passes while it is owed
pub passes : (times : List ℕ) (again now later k : ℕ) → now ≤ later → IsOverdue times again now k → IsOverdue times again later k
passes times again now later k on o = record { many = o.many; recent = o.recent; low = omega (arith, o.low, on) }

overdue_low : (m : ℕ) (times : List ℕ) (k : ℕ) → k ≤ length times → first_time times + least_waits k ≤ m → first_time (m ∷ times) + least_waits k ≤ m
overdue_low m [] zero few low = omega arith
overdue_low m [] (suc k) few low = absurd (omega (arith, few))
overdue_low m (t ∷ times) k few low = low

-- it goes again, and the timer is set
pub goes_again : (times : List ℕ) (again next now k m w : ℕ) → again + 1 ≤ next → least_wait k ≤ w → w ≤ 60000 → now ≤ m → IsOverdue times again now k → IsRunning (m ∷ times) next m k (m + w)
goes_again times again next now k m w more low high on o = record {
  many = omega (arith, o.many);
  recent = omega (arith, o.recent, more);
  low = overdue_low m times k o.many (omega (arith, o.low, on));
  from = omega (arith, low);
  until = omega (arith, high);
}

-- it goes again for another cause while the timer runs, and the timer is set anew
pub goes_anyway : (times : List ℕ) (again next since k at m w : ℕ) → again + 1 ≤ next → least_wait k ≤ w → w ≤ 60000 → since ≤ m → IsRunning times again since k at → IsRunning
    (m ∷ times) next m k (m + w)
goes_anyway times again next since k at m w more low high on r = record {
  many = omega (arith, r.many);
  recent = omega (arith, r.recent, more);
  low = overdue_low m times k (omega (arith, r.many)) (omega (arith, r.low, on));
  from = omega (arith, low);
  until = omega (arith, high);
}

-- the same acknowledgement came again: the count begins anew, and the timer runs on
pub counts_anew : (times : List ℕ) (again since k at : ℕ) → IsRunning times again since k at → IsRunning times 0 since 0 at
counts_anew times again since k at r =
    let some = wait_low k in
    record { many = omega (arith, r.many); recent = omega arith; low = omega (arith, r.low); from = omega (arith, r.from, some); until = r.until }

pub overdue_anew : (times : List ℕ) (again now k : ℕ) → IsOverdue times again now k → IsOverdue times 0 now 0
overdue_anew times again now k o = record { many = omega arith; recent = omega arith; low = omega (arith, o.low) }

-- where it is owed by an expiry, and counted when it goes, that sending is the first that is counted
pub overdue_first : (times : List ℕ) (again now k : ℕ) → IsOverdue times again now (suc k) → IsOverdue times 0 now 1
overdue_first times again now k o =
    let some = waits_grow k in
    record { many = omega (arith, o.many); recent = omega arith; low = omega (arith, o.low, some) }
  where
    waits_grow : (k : ℕ) → least_waits 1 ≤ least_waits (suc k)
    waits_grow zero = omega arith
    waits_grow (suc k) = let before = waits_grow k in let more = wait_low (suc k) in omega (arith, before, more)

-- the acknowledgement moves to a place that went out before: the timer is set anew for it
pub moves : (times : List ℕ) (now w : ℕ) → 0 < length times → first_time times ≤ now → 1000 ≤ w → w ≤ 60000 → IsRunning times 0 now 0 (now + w)
moves times now w some first low high = record { many = omega (arith, some); recent = omega arith; low = omega (arith, first); from = omega (arith, low); until = omega (arith, high) }

-- the ninth expiry: it went out nine times, eight of them since the last acceptable acknowledgement, first 243,000 ms ago
pub gives_up_at : (times : List ℕ) (again since at now : ℕ) → IsRunning times again since 8 at → at ≤ now
    → (9 ≤ length times) × (8 ≤ again) × (first_time times + 243000 ≤ now)
gives_up_at times again since at now r due = (omega (arith, r.many), r.recent, omega (arith, r.low, r.from, due))

-- and before the timer expires a minute hasn't passed; it doesn't expire in a second
pub in_time : (times : List ℕ) (again since k at now : ℕ) → IsRunning times again since k at → now < at → now < since + 60000
in_time times again since k at now r before = omega (arith, r.until, before)

pub not_early : (times : List ℕ) (again since k at : ℕ) → IsRunning times again since k at → since + 1000 ≤ at
not_early times again since k at r = let some = wait_low k in omega (arith, r.from, some)
