-- From what a flow keeps to what holds whenever the program waits.
use Rattle.std.proofs.Common.{refl, ◌≡◌, ℕ, ◌+◌, ◌-◌, ◌<◌, ◌≤◌, length, min, Option, Some, is_some, Bool, true, false, not, ◌&&◌, ◌||◌, if◌then◌else◌, IsTrue, nat_lt}
use Rattle.spec_flow.specs.Settings.{Settings}
use Rattle.spec_flow.specs.Event.{Story, newest_moment}
use Rattle.spec_flow.specs.Guest.{AckIsDue, was_acked, Conforming}
use Rattle.spec_flow.specs.Host.{answered}
use Rattle.spec_flow.specs.Flow.{guest, host, their_number, is_accepted, is_closed, has_connected, syn_is_out, is_under_way}
use Rattle.spec_flow.specs.Close.{owes_reset, times_asked, our_fin_is_acked, host_was_ended}
use Rattle.spec_flow.specs.Windows.{edge, right_edge, our_shift, told}
use Rattle.spec_flow.specs.Dutiful.{HasAcknowledged, fin_is_answered, IsSettled, ClosesWhenDone, waits_for_window}
use Rattle.sim_halves.specs.Part.{Part}
use Rattle.sim_halves.specs.Follows.{Follows}
use Rattle.sim_halves.specs.Ends.{Ends}
use Rattle.sim_halves.specs.Resends.{Timer, Until, Expired, Resends}
use Rattle.sim_halves.specs.Sends.{Outward, Keeps}
use Rattle.sim_halves.specs.Settled.{IsSettledIf}
use Rattle.sim_halves.proofs.Steps.{answered as all_answered}
use Rattle.sim_halves.proofs.Edges.{octets_out}
use Rattle.sim_halves.proofs.InTime.{all_in_time, HasCalled}
use Rattle.sim_halves.proofs.Rests.{is_done_then}
use Rattle.sim_halves.proofs.Windows.{told_of}

-- where no acknowledgement is owed, the flow has acknowledged
pub acknowledged_is : (s : Settings) (past : Story) (p : Part) (time_waits : Bool) → Follows s.ring p (guest past) → p.ack_owed ≡ false → (AckIsDue (guest past) → ⊥)
    → (IsTrue (is_accepted past && is_some (their_number past) && not (is_closed past)) → IsTrue (was_acked (guest past))) → (IsTrue time_waits → IsTrue (fin_is_answered past)) →
    HasAcknowledged s past time_waits
acknowledged_is s past p time_waits f none due opening in_time_wait = record {
  opening = opening;
  each = λ open_yet is. due is;
  all = λ open_yet conforming a asks. all_answered s.ring p (guest past) f none conforming a asks;
  in_time_wait = in_time_wait;
}

-- where a flow that takes itself for done is closed, it closes when it is done
pub closes_when_done : (past : Story) (p : Part) (sure ours_first : Bool) (last : ℕ) → Ends past p sure ours_first last
    → (host_was_ended past ≡ true → our_fin_is_acked past ≡ true → sure ≡ true → is_closed past ≡ true) → ClosesWhenDone past
closes_when_done past p sure ours_first last e closed conforming done = let d = is_done_then past p sure ours_first last e conforming done in closed d.0 d.1 d.2

-- a flow in time is settled
pub settled_in_time : (in_time : Type 0) (s : Settings) (past : Story) (known time_waits : Bool) (now : ℕ) → IsSettledIf in_time s past known time_waits now → in_time → IsSettled s past known time_waits now
settled_in_time in_time s past known time_waits now all soon = record { sends = all.sends; acknowledges = all.acknowledges; window = all.window; resends = all.resends soon }

-- one that is settled if one thing holds is settled if another does that brings it
pub settled_if : (one other : Type 0) (s : Settings) (past : Story) (known time_waits : Bool) (now : ℕ) → (other → one) → IsSettledIf one s past known time_waits now
    → IsSettledIf other s past known time_waits now
settled_if one other s past known time_waits now brings all =
    record { sends = all.sends; acknowledges = all.acknowledges; window = all.window; resends = λ is. all.resends (brings is) }

-- all together: nothing is owed, and all that may go out is out; if the flow is in time, the timer runs on
pub settled_is : (in_time : Type 0) (s : Settings) (past : Story) (p : Part) (o : Outward) (known time_waits : Bool) (now : ℕ) (timer : Timer) (k w e : ℕ) (told_edge : Option ℕ)
    → Follows s.ring p (guest past) → Keeps o (host past) → Resends past now timer k w → (Conforming (guest past) → right_edge s past ≡ told_edge)
    → p.ack_owed ≡ false → (AckIsDue (guest past) → ⊥)
    → (IsTrue (is_accepted past && is_some (their_number past) && not (is_closed past)) → IsTrue (was_acked (guest past))) → (IsTrue time_waits → IsTrue (fin_is_answered past))
    → owes_reset past ≡ false
    → (IsTrue (has_connected past && not (is_closed past)) → IsTrue (syn_is_out past))
    → HasCalled past
    → edge s past ≡ e → (IsTrue (answered (host past) && not (is_closed past)) → min e (o.before + length o.held + (if o.ended then 1 else 0)) ≤ o.sent)
    → (p.received.ended ≡ false → (r : ℕ) → told_edge ≡ Some r → p.received.taken + told (our_shift s past false) (s.ring - length p.up.held) < r + 2920)
    → (is_under_way past ≡ true → timer ≡ Expired → ⊥) → (in_time → (at : ℕ) → timer ≡ Until at → now < at) → (in_time → waits_for_window past ≡ true → now < newest_moment past + 60000)
    → IsSettledIf in_time s past known time_waits now
settled_is in_time s past p o known time_waits now timer k w e told_edge f keeps r same none due opening in_time_wait reset syn_ack called is out few sent_all before watched = record {
  sends = record { reset = reset; syn_ack = syn_ack; syn = λ accepted. called_or known (called accepted); octets = λ open_yet. octets_out s o past e keeps is (out open_yet) };
  acknowledges = acknowledged_is s past p time_waits f none due opening in_time_wait;
  window = told_of s past p now told_edge f none same few;
  resends = λ soon. all_in_time past now timer k w r sent_all (before soon) (watched soon) called;
}
  where
    called_or : (b : Bool) → IsTrue (syn_is_out past) → IsTrue (syn_is_out past || (not b && nat_lt 0 (times_asked past)))
    called_or b is = rw is refl
