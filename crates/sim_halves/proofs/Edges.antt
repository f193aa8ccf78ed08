-- The guest's window, event by event: the edge, and the numbers of the segment that told it.
use Rattle.std.proofs.Common.{refl, ◌≡◌, ℕ, ◌+◌, ◌≤◌, [], ◌∷◌, length, min, arith, Bool, true, false, not, ◌&&◌, ◌||◌, if◌then◌else◌, Option, None, Some, is_some, ap, sym, ◌∙◌, length-drop}
use Rattle.spec_flow.specs.Settings.{Settings}
use Rattle.spec_flow.specs.Event.{Segment, Event, Accepts, Arrives, Connects, Departs, Reads, ReadsEnd, At, Story}
use Rattle.spec_flow.specs.Host.{Confirmed, Sent, acked, answered, sent, got, got_end, owned, is_acceptable}
use Rattle.spec_flow.specs.Flow.{host, confirms, push}
use Rattle.spec_flow.specs.Windows.{Window, window, window_of, is_no_older, edge, edge_of, mss}
use Rattle.sim_halves.specs.Sends.{Outward, Keeps}

-- an acknowledgement that isn't acceptable tells none
pub no_window : (s : Settings) (past : Story) (m : ℕ) (seg : Segment) → (confirms past seg && is_acceptable (host past) seg.acknowledgement) ≡ false → window s
    (At m (Arrives seg) ∷ past) ≡ window s past
no_window s past m seg none = by (confirms past seg) (is_acceptable (host past) seg.acknowledgement) (is_no_older seg (acked (host (At m (Arrives seg) ∷ past))) (window s past)) none
  where
    by : (a b c : Bool) → (a && b) ≡ false → (if a && b && c then Some (window_of s past seg (acked (host (At m (Arrives seg) ∷ past)))) else window s past) ≡ window s past
    by true true c is = absurd cc
    by true false c is = refl
    by false b c is = refl

-- one that is tells its own, where it isn't older
pub next_window : (s : Settings) (past : Story) (m a : ℕ) (seg : Segment) (w : Option Window) → confirms past seg ≡ true → is_acceptable (host past) seg.acknowledgement ≡ true →
    acked (host (At m (Arrives seg) ∷ past)) ≡ a → window s past ≡ w
    → window s (At m (Arrives seg) ∷ past) ≡ (if is_no_older seg a w then Some (window_of s past seg a) else w)
next_window s past m a seg w it fits is same = by (confirms past seg) (is_acceptable (host past) seg.acknowledgement) (acked (host (At m (Arrives seg) ∷ past))) (window s past) it fits is same
  where
    by : (b c : Bool) (k : ℕ) (o : Option Window) → b ≡ true → c ≡ true → k ≡ a → o ≡ w → (if b && c && is_no_older seg k o then Some (window_of s past seg k) else o) ≡
        (if is_no_older seg a w then Some (window_of s past seg a) else w)
    by b c k o x y z u = rw (x, y, z, u) refl

abbrev pub IsOther : Event → Type 0
IsOther (Arrives seg) = ⊥
IsOther _ = Unit {0}

pub same_window : (s : Settings) (past : Story) (m : ℕ) (e : Event) → IsOther e → window s (At m e ∷ past) ≡ window s past
same_window s past m (Arrives seg) other = absurd other
same_window s past m e other = refl

-- how many numbers there are to send, by the counts of the sending half
pub owned_is : (o : Outward) (past : Story) → Keeps o (host past) → owned (host past) ≡ o.before + length o.held + (if o.ended then 1 else 0)
owned_is o past k =
    let long = ap length k.held ∙ length-drop o.before (got (host past)) in
    by o.ended (got_end (host past)) k.ended (omega (arith, long, k.before))
  where
    by : (a b : Bool) → a ≡ b → length (got (host past)) ≡ o.before + length o.held → length (got (host past)) + (if b then 1 else 0) ≡ o.before + length o.held + (if a then 1 else 0)
    by a b is all = rw (is, all) refl

-- all that the guest takes is out, where it is by these counts
pub octets_out : (s : Settings) (o : Outward) (past : Story) (e : ℕ) → Keeps o (host past) → edge s past ≡ e → min e
    (o.before + length o.held + (if o.ended then 1 else 0)) ≤ o.sent → min (edge s past) (owned (host past)) ≤ sent (host past)
octets_out s o past e k is out = let all = owned_is o past k in omega (arith, all, is, out, k.sent)

-- the edge, by the window and, with congestion, by what was acknowledged
pub edge_is : (s : Settings) (o : Outward) (past : Story) (w : Option Window) → Keeps o (host past) → window s past ≡ w → edge s past ≡
    (if s.congestion then min (edge_of w) (o.acked + mss s past) else edge_of w)
edge_is s o past w k is = by (window s past) (acked (host past)) is (sym k.acked)
  where
    by : (v : Option Window) (a : ℕ) → v ≡ w → a ≡ o.acked → (if s.congestion then min (edge_of v) (a + mss s past) else edge_of v) ≡
        (if s.congestion then min (edge_of w) (o.acked + mss s past) else edge_of w)
    by v a x y = rw (x, y) refl

-- once our SYN was acknowledged the guest's window is known
pub window_known : (s : Settings) (past : Story) → answered (host past) ≡ true → is_some (window s past) ≡ true
window_known s [] is = absurd cc
window_known s (At m (Arrives seg) ∷ past) is = arrived (confirms past seg) is (window_known s past)
  where
    either : (b : Bool) (v w : Window) → is_some (if b then Some v else Some w) ≡ true
    either true v w = refl
    either false v w = refl

    accepted : (a d : Bool) (k : ℕ) (v : Window) (w : Option Window) → (a || d) ≡ true → (d ≡ true → is_some w ≡ true)
        → is_some (if true && a && is_no_older seg k w then Some v else w) ≡ true
    accepted true d k v None is before = refl
    accepted true d k v (Some w) is before = either (is_no_older seg k (Some w)) v w
    accepted false d k v w is before = before is

    arrived : (b : Bool) → answered (push (if b then Some (Confirmed seg.acknowledgement) else None) (host past)) ≡ true
        → (answered (host past) ≡ true → is_some (window s past) ≡ true)
        → is_some (if b && is_acceptable (host past) seg.acknowledgement && is_no_older seg (acked (host (At m (Arrives seg) ∷ past))) (window s past)
        then Some (window_of s past seg (acked (host (At m (Arrives seg) ∷ past)))) else window s past) ≡ true
    arrived false is before = before is
    arrived true is before = accepted (is_acceptable (host past) seg.acknowledgement) (answered (host past)) (acked (host (At m (Arrives seg) ∷ past)))
        (window_of s past seg (acked (host (At m (Arrives seg) ∷ past)))) (window s past) is before
window_known s (At m (Departs seg) ∷ past) is = window_known s past (went (not seg.syn && not seg.rst) is)
  where
    went : (b : Bool) → answered (push (if b then Some (Sent seg.number seg.octets seg.fin) else None) (host past)) ≡ true → answered (host past) ≡ true
    went true is = is
    went false is = is
window_known s (At m (Connects ours syn) ∷ past) is = window_known s past is
window_known s (At m (Accepts ours) ∷ past) is = window_known s past is
window_known s (At m (Reads xs) ∷ past) is = window_known s past is
window_known s (At m ReadsEnd ∷ past) is = window_known s past is
window_known s (At m _ ∷ past) is = window_known s past is
