-- What lies between the first sending and the base of the timer.
use Rattle.std.proofs.Common.{◌≡◌, ℕ, ◌+◌, ◌*◌, ◌^◌, ◌<◌, ◌≤◌, true, min, arith, rules, add-one, refl}
use Rattle.retransmit.specs.Resending.{IsNotBefore, WaitsSince, counted, doublings, is_off, least_wait, least_waits, set_unless_running}
use Rattle.retransmit.specs.declared.Timer.{Timer}
use Rattle.retransmit.specs.declared.Timer.TheVariants.{Off, Since, Expired}

one_more : (k : ℕ) → least_waits (k + 1) ≡ least_waits k + least_wait k
one_more k = rw add-one refl

pub sent_again : (first now : ℕ) (timer : Timer) (resent : ℕ) → (is_off timer ≡ true → resent ≡ 0) → first ≤ now → IsNotBefore timer now
    → WaitsSince first timer resent → WaitsSince first (Since now) (counted timer resent)
sent_again first now Off resent rests early after waits = let none : resent ≡ 0 = rests refl in rw none (omega arith)
sent_again first now (Since base) resent rests early after waits = omega arith
sent_again first now (Expired at) resent rests early after waits = omega arith

pub sent_new : (first now : ℕ) (timer : Timer) (resent : ℕ) → (is_off timer ≡ true → resent ≡ 0) → first ≤ now → IsNotBefore timer now
    → WaitsSince first timer resent → WaitsSince first (set_unless_running timer now) resent
sent_new first now Off resent rests early after waits = let none : resent ≡ 0 = rests refl in rw none (omega arith)
sent_new first now (Since base) resent rests early after waits = waits
sent_new first now (Expired at) resent rests early after waits = let more = one_more resent in omega arith

two_seconds : (k wait : ℕ) → min 60000 (1000 * 2 ^ (k + 1)) ≤ wait → 2000 ≤ wait
two_seconds k wait doubled = let some : 0 < 2 ^ k = search rules in let twice : 2 ^ (k + 1) ≡ 2 * 2 ^ k = rw add-one (omega arith) in omega arith

-- fewer doublings ask for no more
pub doubled_less : (timer : Timer) (resent wait : ℕ) → least_wait (doublings timer resent) ≤ wait → least_wait (doublings timer 0) ≤ wait
doubled_less Off resent wait doubled = let some : 0 < 2 ^ resent = search rules in omega arith
doubled_less (Since base) resent wait doubled = let some : 0 < 2 ^ resent = search rules in omega arith
doubled_less (Expired at) resent wait doubled = let some = two_seconds resent wait doubled in omega arith

pub fewer : (timer : Timer) (resent : ℕ) → doublings timer resent ≤ 8 → doublings timer 0 ≤ 8
fewer Off resent few = omega arith
fewer (Since base) resent few = omega arith
fewer (Expired at) resent few = omega arith
