-- When a flow is to be looked at.
use Rattle.std.proofs.Common.{refl, ◌≡◌, ℕ, ◌<◌, ◌&&◌, not, Bool, true, false, Some, None, Option, ap, sym, ◌∙◌, subst, arith, if◌then◌else◌}
use Rattle.sim_connection.specs.Holding.{is_at_connecting}
use Rattle.tcp_connection.specs.Timing.{due_of as conn_due}
use Rattle.tcp_connection.specs.Connection.{is_opening}
use Rattle.tcp_connection.specs.Hosts.{is_open as host_is_open}
use Rattle.flow_splice.specs.Splice.{Splice, is_open}
use Rattle.flow_splice.specs.Wants.{HasTime, ask_due, connect_end, due_else, due_of, is_deserted, left_at, reads_none, resolves, sooner}

some_same : {m n : ℕ} → ◌≡◌ {A = Option ℕ} (Some m) (Some n) → m ≡ n
some_same is = cc

pub shut_due : (p : Splice) → is_open p ≡ false → due_of p ≡ None
shut_due p shut = ap (λ b. if b then (if is_deserted p then Some (sooner (left_at p) (due_else p)) else due_else p) else None) shut

pub open_due : (p : Splice) (b : Bool) → is_open p ≡ true → is_deserted p ≡ b → due_of p ≡ (if b then Some (sooner (left_at p) (due_else p)) else due_else p)
open_due p b open_yet deserted =
    ap (λ o. if o then (if is_deserted p then Some (sooner (left_at p) (due_else p)) else due_else p) else None) open_yet
    ∙ ap (λ d. if d then Some (sooner (left_at p) (due_else p)) else due_else p) deserted

-- a flow that connects has its peer
pub connects_stays : (p : Splice) → is_at_connecting p.conn.stage ≡ true → is_deserted p ≡ false
connects_stays p connects =
    ap (λ c. p.accepted && not c && is_opening p.conn.stage && not (host_is_open p.conn.transmission.end) && reads_none p.down && not p.conn.ack_owed) connects
    ∙ none p.accepted (is_opening p.conn.stage) (not (host_is_open p.conn.transmission.end)) (reads_none p.down) (not p.conn.ack_owed)
  where
    none : (a x y z w : Bool) → (a && not true && x && y && z && w) ≡ false
    none true x y z w = refl
    none false x y z w = refl

-- the moment isn't before this one
abbrev pub IsLate : ℕ → Option ℕ → Type 0
IsLate now due = (at : ℕ) → due ≡ Some at → now < at

both_late : (now m : ℕ) (o : Option ℕ) → now < sooner m o → (now < m) × IsLate now o
both_late now m None low = (low, λ at is. absurd cc)
both_late now m (Some n) low = (omega (arith, low), λ at is. let same : n ≡ at = some_same is in omega (arith, low, same))

late_both : (now m : ℕ) (o : Option ℕ) → now < m → IsLate now o → now < sooner m o
late_both now m None low late = low
late_both now m (Some n) low late = let other = late n refl in omega (arith, low, other)

-- where a flow isn't due its other moment isn't
pub else_late : (p : Splice) (now : ℕ) → is_open p ≡ true → IsLate now (due_of p) → IsLate now (due_else p)
else_late p now open_yet late = by (is_deserted p) refl
  where
    by : (b : Bool) → is_deserted p ≡ b → IsLate now (due_else p)
    by true deserted at is = (both_late now (left_at p) (due_else p) (late (sooner (left_at p) (due_else p)) (open_due p true open_yet deserted))).1 at is
    by false here at is = late at (open_due p false open_yet here ∙ is)

-- and time doesn't close it
pub has_time : (p : Splice) (now : ℕ) → is_open p ≡ true → IsLate now (due_of p) → HasTime p now
has_time p now open_yet late = record {
  connects = λ o connects. else_late p now open_yet late (connect_end p)
      (ap (λ b. if b then Some (connect_end p) else (if resolves p then ask_due p else conn_due p.conn)) connects);
  deserted = λ o deserted. (both_late now (left_at p) (due_else p) (late (sooner (left_at p) (due_else p)) (open_due p true open_yet deserted))).0;
}

-- one that has time, and whose other moment isn't due, isn't due
pub due_late : (p : Splice) (now : ℕ) → is_open p ≡ true → HasTime p now → IsLate now (due_else p) → IsLate now (due_of p)
due_late p now open_yet has late = by (is_deserted p) refl
  where
    by : (b : Bool) → is_deserted p ≡ b → IsLate now (due_of p)
    by true deserted at is =
        let same : sooner (left_at p) (due_else p) ≡ at = some_same (sym (open_due p true open_yet deserted) ∙ is) in
        subst (λ m. now < m) same (late_both now (left_at p) (due_else p) (has.deserted open_yet deserted) late)
    by false here at is = late at (sym (open_due p false open_yet here) ∙ is)
