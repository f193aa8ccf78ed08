-- Where the test of what has to be done holds, the program may wait.
use Rattle.std.proofs.Common.{◌≡◌, ℕ, ◌+◌, ◌-◌, ◌<◌, List, [], ◌∷◌, Option, None, Some, inl, inr, arith, subst, Bool, not, ◌&&◌, ◌||◌, IsTrue, nat_lt}
use Rattle.spec_flow.specs.Settings.{Settings}
use Rattle.spec_flow.specs.Event.{Story}
use Rattle.spec_flow.specs.Guest.{ackd}
use Rattle.spec_flow.specs.Host.{answered}
use Rattle.spec_flow.specs.Flow.{guest, host, is_closed}
use Rattle.spec_flow.specs.Windows.{right_edge, next_edge}
use Rattle.spec_flow.specs.Close.{is_done}
use Rattle.spec_flow.specs.Dutiful.{ToldRoom, AreAhead, resend_deadline, close_deadline, is_called_enough, IsSettled, MayWait}
use Rattle.spec_flow.specs.Computed.{ends_at}
use Rattle.spec_flow.specs.CheckDuty.{has_sent, has_acknowledged, is_told, told_room, all_ahead, is_settled, may_wait}
use Rattle.spec_flow.proofs.Computing.{both, either, imply}
use Rattle.spec_flow.proofs.Ends.{ends_at_is}
use Rattle.spec_flow.proofs.Answering.{acknowledged_is, nat_less, sent_is}

-- ---- the window

told_is : (o : Option ℕ) (n e : ℕ) → IsTrue (is_told o n) → o ≡ Some e → n < e + 2920
told_is None n e is same = absurd cc
told_is (Some d) n e is same = let it : d ≡ e = cc in subst (λ (k : ℕ). n < k + 2920) it (nat_less n (d + 2920) is)

room_is : (s : Settings) (past : Story) → IsTrue (told_room s past) → ToldRoom s past
room_is s past is conforming of no_end e at =
    elim (either (nat_lt 0 (ackd (guest past)) && ends_at (guest past) (ackd (guest past) - 1)) (is_told (right_edge s past) (next_edge s past))
    (imply (answered (host past) && not (is_closed past)) _ is of)) [
      | inl over ↦ let p = both (nat_lt 0 (ackd (guest past))) (ends_at (guest past) (ackd (guest past) - 1)) over in
          let some = nat_less 0 (ackd (guest past)) p.0 in
          let few = no_end (ackd (guest past) - 1) (ends_at_is (guest past) (ackd (guest past) - 1) p.1) in
          absurd (omega (arith, some, few))
      | inr told ↦ told_is (right_edge s past) (next_edge s past) e told at
    ]

-- ---- times

ahead_is : (now : ℕ) (ms : List ℕ) → IsTrue (all_ahead now ms) → AreAhead now ms
ahead_is now [] is = tt
ahead_is now (m ∷ ms) is = let p = both (nat_lt now m) (all_ahead now ms) is in (nat_less now m p.0, ahead_is now ms p.1)

-- ---- all

-- Where the test holds, nothing is owed.
pub settled : (s : Settings) (past : Story) (known time_waits : Bool) (now : ℕ) → IsTrue (is_settled s past known time_waits now) → IsSettled s past known time_waits now
settled s past known time_waits now is =
    let halves = both (has_sent s past known && has_acknowledged s past time_waits) (told_room s past && all_ahead now (resend_deadline past)) is in
    let p = both (has_sent s past known) (has_acknowledged s past time_waits) halves.0 in
    let q = both (told_room s past) (all_ahead now (resend_deadline past)) halves.1 in
    record { sends = sent_is s past known p.0; acknowledges = acknowledged_is s past time_waits p.1; window = room_is s past q.0; resends = ahead_is now (resend_deadline past) q.1 }

pub waits : (past : Story) (now : ℕ) → IsTrue (may_wait past now) → MayWait past now
waits past now is =
    let p = both ((not (is_done past) || is_closed past) && all_ahead now (close_deadline past)) (is_called_enough past) is in
    let q = both (not (is_done past) || is_closed past) (all_ahead now (close_deadline past)) p.0 in
    record { closes = λ conforming done. imply (is_done past) (is_closed past) q.0 done; connects = ahead_is now (close_deadline past) q.1; calls = p.1 }
