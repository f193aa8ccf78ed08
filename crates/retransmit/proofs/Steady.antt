-- What holds of the timer stays so.
use Rattle.std.proofs.Common.{◌≡◌, ℕ, ◌+◌, ◌*◌, ◌^◌, ◌<◌, ◌≤◌, Bool, true, false, Option, None, Some, min, if◌then◌else◌, arith, rules, add-one, refl}
use Rattle.std.proofs.lemmas.Bool.Decides.{nat_tests}
use Rattle.retransmit.specs.Estimate.{Estimate}
use Rattle.retransmit.specs.Resending.{IsSteady, Resending, after_answered, after_expired, after_measured, after_moved, after_sent, after_start, after_stop, begun, counted, doublings}
use Rattle.retransmit.specs.Resending.{expired_by, is_given_up, least_wait, resending, set_unless_running}
use Rattle.retransmit.specs.declared.Timer.{Timer}
use Rattle.retransmit.specs.declared.Timer.TheVariants.{Off, Since, Expired}
use Rattle.retransmit.proofs.Waiting.{doubled_less, fewer}

a_second : (k wait : ℕ) → least_wait k ≤ wait → 1000 ≤ wait
a_second k wait doubled = let some : 0 < 2 ^ k = search rules in omega arith

pub steady_second : (r : Resending) → IsSteady r → 1000 ≤ r.estimate.wait
steady_second r steady = a_second (doublings r.timer r.resent) r.estimate.wait steady.doubled

pub steady_answered : (r : Resending) → IsSteady r → IsSteady (after_answered r)
steady_answered r steady = record {
  few = fewer r.timer r.resent steady.few;
  rests = λ _. refl;
  doubled = doubled_less r.timer r.resent r.estimate.wait steady.doubled;
  longest = steady.longest;
  range = steady.range;
}

pub steady_stop : (r : Resending) → IsSteady r → IsSteady (after_stop r)
steady_stop r steady = let second = steady_second r steady in record {
  few = omega arith;
  rests = λ _. refl;
  doubled = omega arith;
  longest = steady.longest;
  range = tt;
}

start_by : (e : Estimate) (timer : Timer) (resent now : ℕ) → now ≤ 2 ^ 62 → IsSteady (resending e timer resent) → IsSteady (resending e (begun timer now) resent)
start_by e Off resent now few steady = record { few = steady.few; rests = λ on. cc; doubled = steady.doubled; longest = steady.longest; range = few }
start_by e (Since base) resent now few steady = steady
start_by e (Expired at) resent now few steady = steady

pub steady_start : (r : Resending) (now : ℕ) → now ≤ 2 ^ 62 → IsSteady r → IsSteady (after_start r now)
steady_start r now few steady = start_by r.estimate r.timer r.resent now few steady

again_by : (e : Estimate) (timer : Timer) (resent now : ℕ) → now ≤ 2 ^ 62 → IsSteady (resending e timer resent) → IsSteady (resending e (Since now) (counted timer resent))
again_by e Off resent now few steady = record { few = steady.few; rests = λ on. cc; doubled = steady.doubled; longest = steady.longest; range = few }
again_by e (Since base) resent now few steady = record { few = steady.few; rests = λ on. cc; doubled = steady.doubled; longest = steady.longest; range = few }
again_by e (Expired at) resent now few steady = record { few = steady.few; rests = λ on. cc; doubled = steady.doubled; longest = steady.longest; range = few }

less_doubled : (k wait : ℕ) → least_wait (k + 1) ≤ wait → least_wait k ≤ wait
less_doubled k wait doubled = let twice : 2 ^ (k + 1) ≡ 2 * 2 ^ k = rw add-one (omega arith) in omega arith

new_by : (e : Estimate) (timer : Timer) (resent now : ℕ) → now ≤ 2 ^ 62 → IsSteady (resending e timer resent) → IsSteady (resending e (set_unless_running timer now) resent)
new_by e Off resent now few steady = record { few = steady.few; rests = λ on. cc; doubled = steady.doubled; longest = steady.longest; range = few }
new_by e (Since base) resent now few steady = steady
new_by e (Expired at) resent now few steady = record { few = omega (arith, steady.few); rests = λ on. cc; doubled = less_doubled resent e.wait steady.doubled; longest = steady.longest; range = few }

pub steady_sent : (r : Resending) (again : Bool) (now : ℕ) → now ≤ 2 ^ 62 → IsSteady r → IsSteady (after_sent r again now)
steady_sent r true now few steady = again_by r.estimate r.timer r.resent now few steady
steady_sent r false now few steady = new_by r.estimate r.timer r.resent now few steady

moved_wait : (r : Resending) (measured : Option ℕ) → IsSteady r → (1000 ≤ (after_measured r.estimate measured).wait) × ((after_measured r.estimate measured).wait ≤ 60000)
moved_wait r None steady = (steady_second r steady, steady.longest)
moved_wait r (Some ms) steady = (omega arith, omega arith)

pub steady_moved : (r : Resending) (measured : Option ℕ) (under_way : Bool) (now : ℕ) → now ≤ 2 ^ 62 → IsSteady r → IsSteady (after_moved r measured under_way now)
steady_moved r measured true now few steady = let w = moved_wait r measured steady in record {
  few = omega arith;
  rests = λ on. cc;
  doubled = omega (arith, w.0);
  longest = w.1;
  range = few;
}
steady_moved r measured false now few steady = let w = moved_wait r measured steady in record {
  few = omega arith;
  rests = λ _. refl;
  doubled = omega (arith, w.0);
  longest = w.1;
  range = tt;
}

expired_now : (e : Estimate) (timer : Timer) (resent : ℕ) → is_given_up (resending e timer resent) ≡ false → IsSteady (resending e timer resent)
    → IsSteady (resending (record e { wait = min 60000 (2 * e.wait) }) (expired_by timer e.wait) resent)
expired_now e Off resent on steady = let none : resent ≡ 0 = steady.rests refl in record {
  few = steady.few;
  rests = steady.rests;
  doubled = omega
      (arith, steady.doubled, steady.longest);
  longest = omega arith;
  range = tt;
}
expired_now e (Since base) resent on steady =
    let below : resent < 8 = grind (arith, nat_tests) in
    let twice : 2 ^ (resent + 1) ≡ 2 * 2 ^ resent = rw add-one (omega arith) in
    record {
      few = omega arith;
      rests = λ off. cc;
      doubled = omega (arith, steady.doubled, twice);
      longest = omega arith;
      range = omega (arith, steady.range, steady.longest);
    }
expired_now e (Expired at) resent on steady = record { few = steady.few; rests = steady.rests; doubled = omega (arith, steady.doubled, steady.longest); longest = omega arith; range = steady.range }

pub steady_expired : (r : Resending) → IsSteady r → IsSteady (after_expired r)
steady_expired r steady = by_test (is_given_up r) refl
  where
    by_test : (b : Bool) → is_given_up r ≡ b → IsSteady (if b then r else record r {
      estimate = record r.estimate { wait = min 60000 (2 * r.estimate.wait) };
      timer = expired_by r.timer r.estimate.wait;
    })
    by_test true is = steady
    by_test false is = expired_now r.estimate r.timer r.resent is steady
