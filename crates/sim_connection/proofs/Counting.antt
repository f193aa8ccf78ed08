-- Since when the timer of pieces and probes counts: step by step it isn't before the flow was opened, nor before something was acknowledged last.
use Rattle.std.proofs.Common.{refl, ◌≡◌, ℕ, ◌≤◌, [], ◌∷◌, Bool, true, false, ◌&&◌, if◌then◌else◌, int_lt, pos, arith}
use Rattle.retransmit.specs.Resending.{Resending, after_sent, after_start, after_stop, begun, expired_by, set_unless_running}
use Rattle.retransmit.specs.declared.Timer.{Timer}
use Rattle.retransmit.specs.declared.Timer.TheVariants.{Expired, Off, Since}
use Rattle.spec_flow.specs.Event.{Accepts, Arrives, At, Connects, Departs, Event, Segment, Story, newest_moment}
use Rattle.spec_flow.specs.Host.{acked, is_acceptable, not_past_sent, our_place}
use Rattle.spec_flow.specs.Flow.{acknowledged_at, confirms, host, opened_at}
use Rattle.sim_halves.proofs.Heard.{old_moves}
use Rattle.sim_halves.proofs.Resent.{IsQuiet}
use Rattle.sim_halves.proofs.Sendings.{Rises, acknowledged_by}
use Rattle.sim_connection.specs.Holding.{CountsSince}

since_same : (a b : ℕ) → Since a ≡ Since b → a ≡ b
since_same a b is = cc

-- ---- the story

-- a flow was opened before all that happened to it
opened_by : (past : Story) → Rises past → opened_at past ≤ newest_moment past
opened_by [] r = omega arith
opened_by (At m (Connects ours syn) ∷ past) r = omega arith
opened_by (At m (Accepts ours) ∷ past) r = omega arith
opened_by (At m _ ∷ past) r = let before = opened_by past r.1 in omega (arith, before, r.0)

-- the story went on, and nothing of ours was acknowledged
pub counts_on : (past next : Story) (t : Timer) → opened_at next ≡ opened_at past → acknowledged_at next ≡ acknowledged_at past → newest_moment past ≤ newest_moment next
    → CountsSince past t → CountsSince next t
counts_on past next t opened acknowledged on counts = λ base is.
    let since = counts base is in
    record { opened = omega (arith, since.opened, opened); acknowledged = omega (arith, since.acknowledged, acknowledged); newest = omega (arith, since.newest, on) }

-- an event that isn't a segment opens nothing, and acknowledges nothing
pub quiet_same : (past : Story) (m : ℕ) (e : Event) → IsQuiet e → (opened_at (At m e ∷ past) ≡ opened_at past) × (acknowledged_at (At m e ∷ past) ≡ acknowledged_at past)
quiet_same past m (Connects ours syn) q = absurd q
quiet_same past m (Accepts ours) q = absurd q
quiet_same past m (Arrives seg) q = absurd q
quiet_same past m (Departs seg) q = absurd q
quiet_same past m e q = (refl, refl)

-- nor does a segment that isn't acceptable
and_right : (a b : Bool) → (a && b) ≡ false → a ≡ true → b ≡ false
and_right true b is so = is
and_right false b is so = absurd cc

pub unmoved_at : (past : Story) (m : ℕ) (seg : Segment) → (confirms past seg && is_acceptable (host past) seg.acknowledgement) ≡ false → acknowledged_at
    (At m (Arrives seg) ∷ past) ≡ acknowledged_at past
unmoved_at past m seg none =
    if_moved (confirms past seg) (not_past_sent (host past) seg.acknowledgement) (int_lt (pos (acked (host past))) (our_place (host past) seg.acknowledgement))
    (λ it. old_moves (host past) seg.acknowledgement (and_right (confirms past seg) (is_acceptable (host past) seg.acknowledgement) none it))
  where
    if_moved : (a b d : Bool) → (a ≡ true → (b && d) ≡ false) → (if a && b && d then m else acknowledged_at past) ≡ acknowledged_at past
    if_moved true b d still = rw (still refl) refl
    if_moved false b d still = refl

-- ---- the timer

pub off_counts : (past : Story) → CountsSince past Off
off_counts past = λ base is. absurd cc

-- it is set now
pub now_counts : (past : Story) (now : ℕ) → Rises past → newest_moment past ≡ now → CountsSince past (Since now)
now_counts past now rises newest = λ base is.
    let same = since_same now base is in
    let opened = opened_by past rises in
    let acknowledged = acknowledged_by past rises in
    record { opened = omega (arith, same, opened, newest); acknowledged = omega (arith, same, acknowledged, newest); newest = omega (arith, same, newest) }

-- it is set unless it runs, or is counted as expired
pub begun_counts : (past : Story) (t : Timer) (now : ℕ) → CountsSince past (Since now) → CountsSince past t → CountsSince past (begun t now)
begun_counts past Off now new counts = new
begun_counts past (Since base) now new counts = counts
begun_counts past (Expired at) now new counts = counts

unless_counts : (past : Story) (t : Timer) (now : ℕ) → CountsSince past (Since now) → CountsSince past t → CountsSince past (set_unless_running t now)
unless_counts past Off now new counts = new
unless_counts past (Since base) now new counts = counts
unless_counts past (Expired at) now new counts = new

-- something went out
pub sent_counts : (past : Story) (r : Resending) (again : Bool) (now : ℕ) → CountsSince past (Since now) → CountsSince past r.timer → CountsSince past (after_sent r again now).timer
sent_counts past r true now new counts = new
sent_counts past r false now new counts = unless_counts past r.timer now new counts

-- the window is watched
pub watched_counts : (past : Story) (r : Resending) (waits : Bool) (now : ℕ) → CountsSince past (Since now) → CountsSince past r.timer → CountsSince past
    (if waits then after_start r now else after_stop r).timer
watched_counts past r true now new counts = begun_counts past r.timer now new counts
watched_counts past r false now new counts = off_counts past

-- it expired
pub expired_counts : (past : Story) (t : Timer) (wait : ℕ) → CountsSince past (expired_by t wait)
expired_counts past Off wait = λ base is. absurd cc
expired_counts past (Since at) wait = λ base is. absurd cc
expired_counts past (Expired at) wait = λ base is. absurd cc

-- it is set anew, or cleared
pub moved_counts : (past : Story) (under_way : Bool) (now : ℕ) → CountsSince past (Since now) → CountsSince past (if under_way then Since now else Off)
moved_counts past true now new = new
moved_counts past false now new = off_counts past
