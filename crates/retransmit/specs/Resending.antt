-- When what wasn't acknowledged goes again, and how often (RFC 6298, 5; RFC 9293, 3.8.3).
use Rattle.std.specs.Prelude.{◌≡◌, ℕ, zero, suc, ◌+◌, ◌*◌, ◌^◌, ◌≤◌, Bool, true, false, nat_le, Option, None, Some, min, if◌then◌else◌}
use Rattle.retransmit.specs.Estimate.{Estimate, at_first, after_sample, after_expiry}
use Rattle.retransmit.specs.declared.Timer.{Timer}
use Rattle.retransmit.specs.declared.Timer.TheVariants.{Off, Since, Expired}

-- the estimate of the timeout, the timer, and how often the timer made something go again since the last acceptable
-- acknowledgement
pub record Resending : Type 0 where
  pub estimate : Estimate
  pub timer : Timer
  pub resent : ℕ

abbrev pub resending : Estimate → Timer → ℕ → Resending
resending estimate timer resent = record { estimate = estimate; timer = timer; resent = resent }

-- before anything was sent
abbrev pub at_rest : Resending
at_rest = resending at_first Off 0

abbrev pub is_off : Timer → Bool
is_off Off = true
is_off (Since base) = false
is_off (Expired at) = false

abbrev pub is_expired : Timer → Bool
is_expired Off = false
is_expired (Since base) = false
is_expired (Expired at) = true

-- a timer that runs expires one timeout after its base
abbrev pub due_by : Timer → ℕ → Option ℕ
due_by Off wait = None
due_by (Since base) wait = Some (base + wait)
due_by (Expired at) wait = None

abbrev pub due_of : Resending → Option ℕ
due_of r = due_by r.timer r.estimate.wait

-- 5.1: a timer that doesn't run is set
abbrev pub set_unless_running : Timer → ℕ → Timer
set_unless_running Off now = Since now
set_unless_running (Since base) now = Since base
set_unless_running (Expired at) now = Since now

-- what goes again since the timer expired is counted
abbrev pub counted : Timer → ℕ → ℕ
counted Off resent = resent
counted (Since base) resent = resent
counted (Expired at) resent = resent + 1

-- Something was sent. The timer is set where it doesn't run, and set anew with what goes again.
abbrev pub after_sent : Resending → Bool → ℕ → Resending
after_sent r again now = record r {
  timer = if again then Since now else set_unless_running r.timer now;
  resent = if again then counted r.timer r.resent else r.resent;
}

-- what went again eight times doesn't go again once more
abbrev pub is_given_up : Resending → Bool
is_given_up r = nat_le 8 r.resent

abbrev pub expired_by : Timer → ℕ → Timer
expired_by Off wait = Off
expired_by (Since base) wait = Expired (base + wait)
expired_by (Expired at) wait = Expired at

-- 5.5: the timer expired, and the timeout is doubled
abbrev pub after_expired : Resending → Resending
after_expired r = if is_given_up r then r else record r {
  estimate = after_expiry r.estimate;
  timer = expired_by r.timer r.estimate.wait;
}

-- a measured round trip
abbrev pub after_measured : Estimate → Option ℕ → Estimate
after_measured e None = e
after_measured e (Some ms) = after_sample e ms

-- 5.2 and 5.3: something was acknowledged for the first time: the timer is set anew where more is under way, and else
-- cleared; what was owed again no longer is
abbrev pub after_moved : Resending → Option ℕ → Bool → ℕ → Resending
after_moved r measured under_way now = record {
  estimate = after_measured r.estimate measured;
  timer = if under_way then Since now else Off;
  resent = 0;
}

-- an acceptable acknowledgement moved nothing
abbrev pub after_answered : Resending → Resending
after_answered r = record r { resent = 0 }

-- an unset timer is set
abbrev pub begun : Timer → ℕ → Timer
begun Off now = Since now
begun (Since base) now = Since base
begun (Expired at) now = Expired at

abbrev pub after_start : Resending → ℕ → Resending
after_start r now = record r { timer = begun r.timer now }

-- the timer is cleared
abbrev pub after_stop : Resending → Resending
after_stop r = record r { timer = Off; resent = 0 }

-- the least timeout after so many doublings of a second, and the sum of the first least timeouts
abbrev pub least_wait : ℕ → ℕ
least_wait k = min 60000 (1000 * 2 ^ k)

abbrev pub least_waits : ℕ → ℕ
least_waits zero = 0
least_waits (suc k) = least_waits k + least_wait k

-- the base of a timer is a moment
abbrev pub IsInRange : Timer → Type 0
IsInRange Off = Unit {0}
IsInRange (Since base) = base ≤ 2 ^ 62
IsInRange (Expired at) = at ≤ 2 ^ 62 + 60000

-- how often the timeout was doubled at least: once with each time that something went again, and once for what is owed
-- again
abbrev pub doublings : Timer → ℕ → ℕ
doublings Off resent = resent
doublings (Since base) resent = resent
doublings (Expired at) resent = resent + 1

-- what holds always
pub record IsSteady (r : Resending) : Type 0 where
  pub few : doublings r.timer r.resent ≤ 8
  pub rests : is_off r.timer ≡ true → r.resent ≡ 0
  pub doubled : least_wait (doublings r.timer r.resent) ≤ r.estimate.wait
  pub longest : r.estimate.wait ≤ 60000
  pub range : IsInRange r.timer

-- The timer waits for what was first sent, or last acknowledged in part, at this moment: the least timeouts of all
-- times that it went again since lie between that moment and the base; with what is owed again, its timeout too.
abbrev pub WaitsSince : ℕ → Timer → ℕ → Type 0
WaitsSince first Off resent = Unit {0}
WaitsSince first (Since base) resent = first + least_waits resent ≤ base
WaitsSince first (Expired at) resent = first + least_waits (resent + 1) ≤ at

-- so it stands with the timer of a sending half
abbrev pub HasWaitedSince : ℕ → Resending → Type 0
HasWaitedSince first r = WaitsSince first r.timer r.resent

-- this moment isn't before the timer's
abbrev pub IsNotBefore : Timer → ℕ → Type 0
IsNotBefore Off now = Unit {0}
IsNotBefore (Since base) now = base ≤ now
IsNotBefore (Expired at) now = at ≤ now
