-- When what is under way goes again: how often it went, and how long it was waited for (RFC 6298, 5).
use Rattle.std.specs.Prelude.{◌≡◌, ℕ, zero, suc, ◌+◌, ◌*◌, ◌^◌, ◌≤◌, List, length, min, true, false, IsTrue, ◌⊎◌}
use Rattle.std.specs.Option.{unwrap_or}
use Rattle.spec_flow.specs.Event.{Story, newest_moment}
use Rattle.spec_flow.specs.Flow.{oldest, oldest_sendings, oldest_sent_again, is_under_way, opened_at, newest_of}
use Rattle.spec_flow.specs.Close.{asked_at, times_asked}
use Rattle.spec_flow.specs.Dutiful.{waits_since}
use Rattle.spec_flow.specs.Lawful.{is_prompted}

-- the least wait after so many resendings, and the sum of those before it
abbrev pub least_wait : ℕ → ℕ
least_wait k = min 60000 (1000 * 2 ^ k)

abbrev pub least_waits : ℕ → ℕ
least_waits zero = 0
least_waits (suc k) = least_waits k + least_wait k

-- the first of the moments at which something went out
abbrev pub first_time : List ℕ → ℕ
first_time times = unwrap_or (oldest times) 0

-- The timer runs until a moment. What went out at these times, so often since the last acceptable acknowledgement, is waited for since a moment, and
-- the timer made it go again k times.
pub record IsRunning (times : List ℕ) (again since k at : ℕ) : Type 0 where
  pub many : k + 1 ≤ length times
  pub recent : k ≤ again
  pub low : first_time times + least_waits k ≤ since
  pub from : since + least_wait k ≤ at
  pub until : at ≤ since + 60000

-- The timer expired, and what it made owed hasn't gone yet: it will be the k-th time. (So a program that counts as it sends has counted one less.)
pub record IsOverdue (times : List ℕ) (again now k : ℕ) : Type 0 where
  pub many : k ≤ length times
  pub recent : k ≤ again + 1
  pub low : first_time times + least_waits k ≤ now

-- a timer: off, running until a moment, or expired
pub data Timer : Type 0 where
  Off : Timer
  Until : (at : ℕ) → Timer
  Expired : Timer

-- A flow's timer, its count of resendings and its wait, against the flow's story, at a moment.
pub record Resends (past : Story) (now : ℕ) (timer : Timer) (k w : ℕ) : Type 0 where
  pub moment : newest_moment past ≤ now
  pub wait : least_wait k ≤ w
  pub longest : w ≤ 60000
  pub idle : is_under_way past ≡ false → k ≡ 0
  pub set : is_under_way past ≡ true → timer ≡ Off → ⊥
  pub running : (at : ℕ) → is_under_way past ≡ true → timer ≡ Until at → IsRunning (oldest_sendings past) (oldest_sent_again past) (waits_since past) k at
  pub overdue : is_under_way past ≡ true → timer ≡ Expired → IsOverdue (oldest_sendings past) (oldest_sent_again past) now k

-- An accepted flow asks for the guest's address, in place of its SYN: it asked so often, and waits for the answer until a moment, a
-- minute at most after it was asked for last.
pub record Resolves (past : Story) (count at : ℕ) : Type 0 where
  pub many : count ≤ times_asked past
  pub from : opened_at past + least_waits count ≤ at
  pub soon : at ≤ asked_at past + 60000

-- What is owed again has a reason: it last went out a second ago, or a segment came since one went out.
abbrev pub HasReason : Story → ℕ → Type 0
HasReason past now = (newest_of (oldest_sendings past) + 1000 ≤ now) ⊎ IsTrue (is_prompted past)
