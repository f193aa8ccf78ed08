-- When a flow's connection is to be looked at.
use Rattle.std.specs.Prelude.{◌≡◌, ℕ, ◌<◌, false, true, Some}
use Rattle.tcp_connection.specs.Connection.{Connection, is_opening}
use Rattle.tcp_connection.specs.Timing.{due_of}
use Rattle.flow_splice.specs.Splice.{Splice, is_open}
use Rattle.flow_splice.specs.Wants.{resolves}

-- its timer isn't due at this moment
abbrev pub IsAhead : Connection → (now : ℕ) → Type 0
IsAhead c now = (at : ℕ) → due_of c ≡ Some at → now < at

-- where it is open and no request is owed, the wait for an answer of the guest isn't over
abbrev pub HasPatience : Splice → (now : ℕ) → Type 0
HasPatience f now = is_open f ≡ true → resolves f ≡ true → f.asks ≡ false → now < f.ask_at

-- no timer of the flow is due
abbrev pub IsTimely : Splice → (now : ℕ) → Type 0
IsTimely f now = IsAhead f.conn now × HasPatience f now

-- the timer of our SYN waits for some time
abbrev pub Waits : Connection → Type 0
Waits c = is_opening c.stage ≡ true → 0 < c.syn.estimate.wait

-- both
abbrev pub IsEarly : ℕ → Connection → Type 0
IsEarly now c = IsAhead c now × Waits c
