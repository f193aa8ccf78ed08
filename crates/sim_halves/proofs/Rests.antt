-- What a flow knows of the two ends: the first condition of a close, and TIME-WAITs.
use Rattle.std.proofs.Common.{refl, ◌≡◌, ℕ, ◌+◌, [], ◌∷◌, length, arith, Option, Some, None, Bool, true, false, not, ◌&&◌, if◌then◌else◌, IsTrue, nat_eq, ap, sym, ◌∙◌, length-drop}
use Rattle.std.specs.Option.{unwrap_or}
use Rattle.seq_space.specs.Places.{number_of}
use Rattle.spec_flow.specs.Event.{Segment, Event, Connects, Accepts, Arrives, Departs, Closes, At, Story}
use Rattle.spec_flow.specs.Guest.{Conforming, first_of, ackd}
use Rattle.spec_flow.specs.Host.{acked, got}
use Rattle.spec_flow.specs.Flow.{guest, host, their_number}
use Rattle.spec_flow.specs.Close.{fin_was_acknowledged, ended_first, host_was_ended, our_fin_is_acked, is_done, follows_reset, in_time_wait_since, ends_time_wait, renews, renewed}
use Rattle.spec_flow.proofs.GuestLaws.{conforming_before}
use Rattle.sim_halves.specs.Received.{Received}
use Rattle.sim_halves.specs.Part.{Part}
use Rattle.sim_halves.specs.Sends.{Outward, Keeps}
use Rattle.sim_halves.specs.Ends.{Ends}
use Rattle.sim_halves.proofs.EndAcks.{all_true}

-- ---- events that aren't segments

abbrev pub IsQuiet : Event → Type 0
IsQuiet (Connects ours syn) = ⊥
IsQuiet (Accepts ours) = ⊥
IsQuiet (Arrives seg) = ⊥
IsQuiet (Departs seg) = ⊥
IsQuiet _ = Unit {0}

-- what was taken and what is kept are the same
pub quiet_ends : (past : Story) (p q : Part) (sure ours_first : Bool) (last m : ℕ) (e : Event) → IsQuiet e → q.received ≡ p.received → ((i x : ℕ) → q.kept i ≡ Some x → p.kept i ≡ Some x)
    → Ends past p sure ours_first last → Ends (At m e ∷ past) q sure ours_first last
quiet_ends past p q sure ours_first last m (Connects ours syn) calm r k e = absurd calm
quiet_ends past p q sure ours_first last m (Accepts ours) calm r k e = absurd calm
quiet_ends past p q sure ours_first last m (Arrives seg) calm r k e = absurd calm
quiet_ends past p q sure ours_first last m (Departs seg) calm r k e = absurd calm
quiet_ends past p q sure ours_first last m any calm r k e = record {
  low = rw r e.low;
  kept_low = λ i x is. e.kept_low i x (k i x is);
  fin = λ is. rw r (e.fin (sym (ap (λ (x : Received). x.ended) r) ∙ is));
  was_sure = e.was_sure;
  is_sure = λ conforming is. e.is_sure (conforming_before (At m any) past conforming) is;
  at = e.at;
  order = e.order;
}

-- ---- the first condition of a close

-- our FIN is acknowledged, by the counts of the sending half
pub our_fin : (o : Outward) (past : Story) → Keeps o (host past) → our_fin_is_acked past ≡ nat_eq o.acked (o.before + length o.held + 1)
our_fin o past k =
    let long = ap length k.held ∙ length-drop o.before (got (host past)) in
    same (acked (host past)) o.acked (length (got (host past)) + 1) (o.before + length o.held + 1) (sym k.acked) (omega (arith, long, k.before))
  where
    same : (a b c d : ℕ) → a ≡ b → c ≡ d → nat_eq a c ≡ nat_eq b d
    same a b c d x y = rw (x, y) refl

three : (a b c : Bool) → (a && b && c) ≡ true → (a ≡ true) × (b ≡ true) × (c ≡ true)
three true true true is = (refl, refl, refl)
three true true false is = absurd cc
three true false c is = absurd cc
three false b c is = absurd cc

-- a flow that takes itself for done is done
pub done_is : (past : Story) (p : Part) (sure ours_first : Bool) (last : ℕ) → Ends past p sure ours_first last → host_was_ended past ≡ true → our_fin_is_acked past ≡ true →
    sure ≡ true → IsTrue (is_done past)
done_is past p sure ours_first last e ended ours it = all_true (host_was_ended past) (our_fin_is_acked past) (fin_was_acknowledged past) ended ours (e.was_sure it)

-- and with a conforming guest one that is done takes itself for it
pub is_done_then : (past : Story) (p : Part) (sure ours_first : Bool) (last : ℕ) → Ends past p sure ours_first last → Conforming (guest past) → IsTrue (is_done past)
    → (host_was_ended past ≡ true) × (our_fin_is_acked past ≡ true) × (sure ≡ true)
is_done_then past p sure ours_first last e conforming is =
    let t = three (host_was_ended past) (our_fin_is_acked past) (fin_was_acknowledged past) is in (t.0, t.1, e.is_sure conforming t.2)

-- ---- TIME-WAITs

-- a flow that is closed when it is done is in TIME-WAIT where we ended first
pub closes_to_time_wait : (past : Story) (p : Part) (sure ours_first : Bool) (last m : ℕ) (directly ended known : Bool) → Ends past p sure ours_first last
    → is_done past ≡ true → follows_reset directly past ≡ false → in_time_wait_since (At m (Closes directly ended known) ∷ past) ≡ (if ours_first then Some m else None)
closes_to_time_wait past p sure ours_first last m directly ended known e done plain = by (is_done past) (follows_reset directly past) (ended_first past) done plain e.order
  where
    by : (a b c : Bool) → a ≡ true → b ≡ false → c ≡ ours_first → (if a && not b && c then Some m else None) ≡ (if ours_first then Some m else None)
    by a b c x y z = rw (x, y, z) refl

-- any other close makes no TIME-WAIT
pub closes_for_good : (past : Story) (m : ℕ) (directly ended known : Bool) → (is_done past && not (follows_reset directly past)) ≡ false → in_time_wait_since
    (At m (Closes directly ended known) ∷ past) ≡ None
closes_for_good past m directly ended known none = by (is_done past) (not (follows_reset directly past)) (ended_first past) none
  where
    by : (a b c : Bool) → (a && b) ≡ false → (if a && b && c then Some m else None) ≡ None
    by true true c is = absurd cc
    by true false c is = refl
    by false b c is = refl

-- the next number of a TIME-WAIT is the one that was acknowledged last
pub rest_next : (past : Story) (p : Part) (sure ours_first : Bool) (last f : ℕ) → Ends past p sure ours_first last → their_number past ≡ Some f → first_of (guest past) ≡ f
    → number_of (unwrap_or (their_number past) 0) (ackd (guest past)) ≡ last
rest_next past p sure ours_first last f e known same = by (their_number past) known
  where
    by : (o : Option ℕ) → o ≡ Some f → number_of (unwrap_or o 0) (ackd (guest past)) ≡ last
    by o is = rw is (ap (λ (n : ℕ). number_of n (ackd (guest past))) (sym same) ∙ e.at)

-- a TIME-WAIT goes on, begins anew or ends by what arrives
pub rest_goes_on : (past : Story) (m since : ℕ) (seg : Segment) → in_time_wait_since past ≡ Some since → in_time_wait_since (At m (Arrives seg) ∷ past) ≡
    (if ends_time_wait past seg then None else Some (if renews seg then m else since))
rest_goes_on past m since seg is = by (ends_time_wait past seg) (renews seg) (in_time_wait_since past) is
  where
    by : (a b : Bool) (o : Option ℕ) → o ≡ Some since → (if a then None else renewed b m o) ≡ (if a then None else Some (if b then m else since))
    by true b o is = refl
    by false true o is = rw is refl
    by false false o is = rw is refl

-- ---- a flow that is opened

pub opens_ends : (m ours : ℕ) (syn : Segment) (p : Part) → p.received.taken ≡ 0 → p.received.ended ≡ false → ((i x : ℕ) → p.kept i ≡ Some x → ⊥) → Ends
    (At m (Connects ours syn) ∷ []) p false false (number_of syn.number 0)
opens_ends m ours syn p none open_yet no_kept = record {
  low = omega (arith, none);
  kept_low = λ i x is. absurd (no_kept i x is);
  fin = λ is. let not_it = sym is ∙ open_yet in absurd cc;
  was_sure = λ is. absurd cc;
  is_sure = λ conforming is. absurd cc;
  at = refl;
  order = refl;
}
