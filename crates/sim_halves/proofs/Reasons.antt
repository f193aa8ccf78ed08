-- What goes again has a reason.
use Rattle.std.proofs.Common.{refl, ◌≡◌, ℕ, ◌+◌, ◌<◌, ◌≤◌, List, [], ◌∷◌, length, arith, Bool, true, false, not, ◌&&◌, ◌||◌, if◌then◌else◌, IsTrue, pos, nat_le, nat_lt, subst, ◌⊎◌, inl, inr}
use Rattle.std.proofs.lemmas.Bool.Decides.{nat_tests}
use Rattle.spec_flow.specs.Event.{Segment, Event, Connects, Accepts, Arrives, Departs, Writes, At, Story}
use Rattle.spec_flow.specs.Guest.{is_empty}
use Rattle.spec_flow.specs.Host.{acked, answered, our_place}
use Rattle.spec_flow.specs.Flow.{host, sendings, syn_sendings, oldest_sendings, is_under_way, was_long_ago, newest_of}
use Rattle.spec_flow.specs.Lawful.{SendsAgainWithReason, Send, repeats, is_prompted, is_overdue}
use Rattle.spec_flow.specs.Dutiful.{waits_since}
use Rattle.sim_halves.specs.Resends.{Until, Resends, HasReason}
use Rattle.sim_halves.proofs.Timers.{not_early}
use Rattle.sim_halves.proofs.Resent.{IsQuiet}

-- an expiry is one, and so is an arrival
pub by_expiry : (past : Story) (now at k w : ℕ) → Resends past now (Until at) k w → at ≤ now → is_under_way past ≡ true → HasReason past now
by_expiry past now at k w r due under =
    let late = not_early (oldest_sendings past) _ (waits_since past) k at (r.running at under refl) in
    inl (omega (arith, late, due))

pub by_arrival : (past : Story) (m now : ℕ) (seg : Segment) → HasReason (At m (Arrives seg) ∷ past) now
by_arrival past m now seg = inr refl

or_right : (a b : Bool) → IsTrue b → IsTrue (a || b)
or_right true b y = refl
or_right false b y = y

-- it stays one
pub reason_later : (past : Story) (now later : ℕ) → now ≤ later → HasReason past now → HasReason past later
reason_later past now later on (inl late) = inl (omega (arith, late, on))
reason_later past now later on (inr came) = inr came

pub reason_stays : (past : Story) (m now : ℕ) (e : Event) → IsQuiet e → HasReason past now → HasReason (At m e ∷ past) now
reason_stays past m now (Connects ours syn) calm r = absurd calm
reason_stays past m now (Accepts ours) calm r = absurd calm
reason_stays past m now (Arrives seg) calm r = absurd calm
reason_stays past m now (Departs seg) calm r = absurd calm
reason_stays past m now (Writes xs n) calm (inl late) = inl late
reason_stays past m now (Writes xs n) calm (inr came) = inr (or_right (nat_lt 0 n && not (is_empty xs)) (is_prompted past) came)
reason_stays past m now e calm r = r

long_ago : (now : ℕ) (ms : List ℕ) → 0 < length ms → newest_of ms + 1000 ≤ now → was_long_ago now 1000 ms ≡ true
long_ago now [] some late = absurd (omega (arith, some))
long_ago now (m ∷ ms) some late = yes_it (m + 1000) now late
  where
    yes_it : (a b : ℕ) → a ≤ b → nat_le a b ≡ true
    yes_it a b low = grind (arith, nat_tests)

all_true : (a b c : Bool) → IsTrue (a || b || c || true)
all_true true b c = refl
all_true false true c = refl
all_true false false true = refl
all_true false false false = refl

three_true : (a b d : Bool) → IsTrue (a || b || true || d)
three_true true b d = refl
three_true false true d = refl
three_true false false d = refl

-- what a reason is in the law: the oldest place is overdue, or the guest prompted it
goes_again : (past : Story) (m : ℕ) (seg : Segment) (prompted overdue : Bool) → (newest_of (oldest_sendings past) + 1000 ≤ m) ⊎ IsTrue prompted →
    (newest_of (oldest_sendings past) + 1000 ≤ m → overdue ≡ true)
    → IsTrue (seg.rst || not (repeats past seg) || prompted || overdue)
goes_again past m seg prompted overdue (inl old) late = rw (late old) (all_true seg.rst (not (repeats past seg)) prompted)
goes_again past m seg prompted overdue (inr came) late = rw came (three_true seg.rst (not (repeats past seg)) overdue)

-- where there is a reason our SYN may go again
pub syn_may_go : (past : Story) (m : ℕ) (seg : Segment) → seg.syn ≡ true → answered (host past) ≡ false → 0 < length (syn_sendings past) → HasReason past m → SendsAgainWithReason past m (Send seg)
syn_may_go past m seg syn unanswered some reason = goes_again past m seg (is_prompted past) (is_overdue m past seg) reason late
  where
    times : oldest_sendings past ≡ syn_sendings past
    times = pick (answered (host past)) unanswered
      where
        pick : (b : Bool) → b ≡ false → (if b then sendings past (acked (host past)) else syn_sendings past) ≡ syn_sendings past
        pick b is = rw is refl

    late : newest_of (oldest_sendings past) + 1000 ≤ m → is_overdue m past seg ≡ true
    late old = rw syn (long_ago m (syn_sendings past) some (subst (λ (l : List ℕ). newest_of l + 1000 ≤ m) times old))

-- where there is a reason the oldest place may go again
pub oldest_may_go : (past : Story) (m : ℕ) (seg : Segment) → seg.syn ≡ false → (is_empty seg.octets && not seg.fin) ≡ false → answered (host past) ≡ true → our_place
    (host past) seg.number ≡ pos (acked (host past))
    → 0 < length (sendings past (acked (host past))) → HasReason past m → SendsAgainWithReason past m (Send seg)
oldest_may_go past m seg syn full ans place some reason = goes_again past m seg (is_prompted past) (is_overdue m past seg) reason late
  where
    times : oldest_sendings past ≡ sendings past (acked (host past))
    times = pick (answered (host past)) ans
      where
        pick : (b : Bool) → b ≡ true → (if b then sendings past (acked (host past)) else syn_sendings past) ≡ sendings past (acked (host past))
        pick b is = rw is refl

    late : newest_of (oldest_sendings past) + 1000 ≤ m → is_overdue m past seg ≡ true
    late old = rw (syn, full, place) (long_ago m (sendings past (acked (host past))) some (subst (λ (l : List ℕ). newest_of l + 1000 ≤ m) times old))
