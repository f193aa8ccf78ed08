-- How often the oldest number that isn't acknowledged went out since a segment of the guest came, event by event.
use Rattle.std.proofs.Common.{refl, ◌≡◌, ℕ, ◌+◌, ◌-◌, ◌^◌, ◌<◌, ◌≤◌, ◌⊎◌, inl, inr, ℤ, pos, ◌+ℤ◌, int_le, int_lt, nat_lt, List, [], ◌∷◌, length, arith, pow-suc, Bool, true, false, not, ◌&&◌, ◌||◌, if◌then◌else◌, IsTrue, nat_le, ap, ◌∙◌, suc, zero}
use native.Mathlib.Nat.{one-le-pow}
use Rattle.std.proofs.lemmas.Bool.Decides.{nat_tests}
use Rattle.spec_flow.specs.Event.{Segment, Event, Connects, Accepts, Arrives, Departs, At, Story}
use Rattle.spec_flow.specs.Host.{Sent, acked, answered, our_place, sent}
use Rattle.spec_flow.specs.Flow.{add_if, host, holds, is_closed, sendings, syn_is_out, syn_sendings}
use Rattle.spec_flow.specs.Dutiful.{back_off, is_called_enough, oldest_unheard, syn_unheard, unheard}
use Rattle.spec_flow.proofs.Sides.{host_opened, host_sent}
use Rattle.sim_halves.specs.Resends.{least_wait}
use Rattle.sim_halves.proofs.Resent.{IsQuiet}
use Rattle.sim_halves.proofs.Sendings.{nothing_past, syn_unsent}

-- ---- no more often than it went out at all

one_more : (b : Bool) (m n : ℕ) (ms : List ℕ) → n ≤ length ms → (if b then 1 else 0) + n ≤ length (add_if b m ms)
one_more true m n ms few = omega (arith, few)
one_more false m n ms few = omega (arith, few)

unheard_few : (past : Story) (i : ℕ) → unheard past i ≤ length (sendings past i)
unheard_few [] i = omega arith
unheard_few (At m (Arrives seg) ∷ past) i = omega arith
unheard_few (At m (Departs seg) ∷ past) i = one_more (holds past seg i) m (unheard past i) (sendings past i) (unheard_few past i)
unheard_few (At m _ ∷ past) i = unheard_few past i

syn_unheard_few : (past : Story) → syn_unheard past ≤ length (syn_sendings past)
syn_unheard_few [] = omega arith
syn_unheard_few (At m (Arrives seg) ∷ past) = omega arith
syn_unheard_few (At m (Departs seg) ∷ past) = one_more (seg.syn && not seg.rst) m (syn_unheard past) (syn_sendings past) (syn_unheard_few past)
syn_unheard_few (At m _ ∷ past) = syn_unheard_few past

if_true : (b : Bool) (x y : ℕ) → b ≡ true → (if b then x else y) ≡ x
if_true b x y is = rw is refl

if_false : (b : Bool) (x y : ℕ) → b ≡ false → (if b then x else y) ≡ y
if_false b x y is = rw is refl

-- what wasn't sent didn't go out
pub unsent_unheard : (past : Story) → answered (host past) ≡ true → sent (host past) ≤ acked (host past) → oldest_unheard past ≡ 0
unsent_unheard past known none =
    let few = unheard_few past (acked (host past)) in
    let nothing = ap (λ (ms : List ℕ). length ms) (nothing_past past (acked (host past)) none) in
    if_true (answered (host past)) (unheard past (acked (host past))) (syn_unheard past) known ∙ omega (arith, few, nothing)

pub uncalled_unheard : (past : Story) → answered (host past) ≡ false → syn_is_out past ≡ false → oldest_unheard past ≡ 0
uncalled_unheard past unknown none =
    let few = syn_unheard_few past in
    let nothing = ap (λ (ms : List ℕ). length ms) (syn_unsent past none) in
    if_false (answered (host past)) (unheard past (acked (host past))) (syn_unheard past) unknown ∙ omega (arith, few, nothing)

-- ---- event by event

-- a segment of the guest came
pub heard_now : (past : Story) (m : ℕ) (seg : Segment) → oldest_unheard (At m (Arrives seg) ∷ past) ≡ 0
heard_now past m seg = either (answered (host (At m (Arrives seg) ∷ past))) 0 0 refl refl
  where
    either : (b : Bool) (x y : ℕ) → x ≡ 0 → y ≡ 0 → (if b then x else y) ≡ 0
    either true x y first second = first
    either false x y first second = second

-- an event that is no segment
pub quiet_unheard : (past : Story) (m : ℕ) (e : Event) → IsQuiet e → oldest_unheard (At m e ∷ past) ≡ oldest_unheard past
quiet_unheard past m (Connects ours syn) q = absurd q
quiet_unheard past m (Accepts ours) q = absurd q
quiet_unheard past m (Arrives seg) q = absurd q
quiet_unheard past m (Departs seg) q = absurd q
quiet_unheard past m e q = refl

-- a segment without SYN went out, which holds the oldest number or not
pub piece_unheard : (past : Story) (seg : Segment) (m : ℕ) → seg.syn ≡ false → seg.rst ≡ false → oldest_unheard (At m (Departs seg) ∷ past) ≤ 1 + oldest_unheard past
piece_unheard past seg m syn rst =
    by (answered (host (At m (Departs seg) ∷ past))) (acked (host (At m (Departs seg) ∷ past))) (ap answered went) (ap acked went)
  where
    went : host (At m (Departs seg) ∷ past) ≡ Sent seg.number seg.octets seg.fin ∷ host past
    went = host_sent m past seg syn rst

    one_at_most : (b : Bool) (n : ℕ) → (if b then 1 else 0) + n ≤ 1 + n
    one_at_most true n = omega arith
    one_at_most false n = omega arith

    none_here : (b r : Bool) (n : ℕ) → b ≡ false → (if b && not r then 1 else 0) + n ≤ 1 + n
    none_here b r n is = rw is (omega arith)

    by_known : (known : Bool) → (if known then unheard (At m (Departs seg) ∷ past) (acked (host past)) else syn_unheard (At m (Departs seg) ∷ past))
        ≤ 1 + (if known then unheard past (acked (host past)) else syn_unheard past)
    by_known true = one_at_most (holds past seg (acked (host past))) (unheard past (acked (host past)))
    by_known false = none_here seg.syn seg.rst (syn_unheard past) syn

    by : (b : Bool) (x : ℕ) → b ≡ answered (host past) → x ≡ acked (host past)
        → (if b then unheard (At m (Departs seg) ∷ past) x else syn_unheard (At m (Departs seg) ∷ past)) ≤ 1 + oldest_unheard past
    by b x is xs = rw (is, xs) (by_known (answered (host past)))

-- it doesn't
apart_unheard : (past : Story) (seg : Segment) (m : ℕ) → seg.syn ≡ false → seg.rst ≡ false → holds past seg (acked (host past)) ≡ false
    → oldest_unheard (At m (Departs seg) ∷ past) ≡ oldest_unheard past
apart_unheard past seg m syn rst apart =
    by (answered (host (At m (Departs seg) ∷ past))) (acked (host (At m (Departs seg) ∷ past))) (ap answered went) (ap acked went)
  where
    went : host (At m (Departs seg) ∷ past) ≡ Sent seg.number seg.octets seg.fin ∷ host past
    went = host_sent m past seg syn rst

    none : (b : Bool) (n : ℕ) → b ≡ false → (if b then 1 else 0) + n ≡ n
    none b n is = rw is (omega arith)

    none_here : (b r : Bool) (n : ℕ) → b ≡ false → (if b && not r then 1 else 0) + n ≡ n
    none_here b r n is = rw is (omega arith)

    by_known : (known : Bool) → (if known then unheard (At m (Departs seg) ∷ past) (acked (host past)) else syn_unheard (At m (Departs seg) ∷ past))
        ≡ (if known then unheard past (acked (host past)) else syn_unheard past)
    by_known true = none (holds past seg (acked (host past))) (unheard past (acked (host past))) apart
    by_known false = none_here seg.syn seg.rst (syn_unheard past) syn

    by : (b : Bool) (x : ℕ) → b ≡ answered (host past) → x ≡ acked (host past)
        → (if b then unheard (At m (Departs seg) ∷ past) x else syn_unheard (At m (Departs seg) ∷ past)) ≡ oldest_unheard past
    by b x is xs = rw (is, xs) (by_known (answered (host past)))

-- one at a place does only where the oldest number is among its own
holds_apart : (past : Story) (seg : Segment) (i o e : ℕ) → our_place (host past) seg.number ≡ pos o → length seg.octets + (if seg.fin then 1 else 0) ≡ e → (e ≡ 0) ⊎ (i < o)
    → holds past seg i ≡ false
holds_apart past seg i o e place long apart = by seg.syn seg.rst (our_place (host past) seg.number) (length seg.octets + (if seg.fin then 1 else 0)) place long apart
  where
    none : (o i e : ℕ) → (e ≡ 0) ⊎ (i < o) → (nat_le o i && nat_lt i (o + e)) ≡ false
    none o i e (inl is) = grind (arith, nat_tests)
    none o i e (inr is) = grind (arith, nat_tests)

    by : (b r : Bool) (z : ℤ) (n : ℕ) → z ≡ pos o → n ≡ e → (e ≡ 0) ⊎ (i < o) → (not b && not r && int_le z (pos i) && int_lt (pos i) (z +ℤ pos n)) ≡ false
    by true r z n is ns apart = refl
    by false true z n is ns apart = refl
    by false false z n is ns apart = rw (is, ns) (none o i e apart)

pub bare_unheard : (past : Story) (seg : Segment) (m : ℕ) → seg.syn ≡ false → seg.rst ≡ false → (o : ℕ) → our_place (host past) seg.number ≡ pos o
    → length seg.octets + (if seg.fin then 1 else 0) ≡ 0 → oldest_unheard (At m (Departs seg) ∷ past) ≡ oldest_unheard past
bare_unheard past seg m syn rst o place long = apart_unheard past seg m syn rst (holds_apart past seg (acked (host past)) o 0 place long (inl refl))

pub further_unheard : (past : Story) (seg : Segment) (m : ℕ) → seg.syn ≡ false → seg.rst ≡ false → (o : ℕ) → our_place (host past) seg.number ≡ pos o → acked (host past) < o
    → oldest_unheard (At m (Departs seg) ∷ past) ≡ oldest_unheard past
further_unheard past seg m syn rst o place further =
    apart_unheard past seg m syn rst (holds_apart past seg (acked (host past)) o (length seg.octets + (if seg.fin then 1 else 0)) place refl (inr further))

-- our SYN went out
pub syn_gone_unheard : (past : Story) (seg : Segment) (m : ℕ) → seg.syn ≡ true → answered (host past) ≡ false → oldest_unheard (At m (Departs seg) ∷ past) ≤ 1 + oldest_unheard past
syn_gone_unheard past seg m syn unknown =
    by (answered (host (At m (Departs seg) ∷ past))) (ap answered (host_opened m past seg syn) ∙ unknown) (answered (host past)) unknown
  where
    one_at_most : (b : Bool) (n : ℕ) → (if b then 1 else 0) + n ≤ 1 + n
    one_at_most true n = omega arith
    one_at_most false n = omega arith

    by : (b : Bool) → b ≡ false → (d : Bool) → d ≡ false
        → (if b then unheard (At m (Departs seg) ∷ past) (acked (host (At m (Departs seg) ∷ past))) else syn_unheard (At m (Departs seg) ∷ past))
        ≤ 1 + (if d then unheard past (acked (host past)) else syn_unheard past)
    by b is d at = rw (is, at) (one_at_most (seg.syn && not seg.rst) (syn_unheard past))

-- ---- what follows

-- where it went out at most nine times, that is enough
pub called_enough : (past : Story) → oldest_unheard past ≤ 9 → IsTrue (is_called_enough past)
called_enough past few = by (is_closed past) (yes_it (oldest_unheard past) 9 few)
  where
    yes_it : (a b : ℕ) → a ≤ b → nat_le a b ≡ true
    yes_it a b low = grind (arith, nat_tests)

    by : (b : Bool) → nat_le (oldest_unheard past) 9 ≡ true → IsTrue (b || nat_le (oldest_unheard past) 9)
    by true is = refl
    by false is = is

-- what a timer waits that made it go again so often is what so many times ask for
pub backs_off : (times k : ℕ) → times ≤ k + 1 → back_off times ≤ least_wait k
backs_off times k few = let more = rises (times - 1) k (omega (arith, few)) in omega (arith, more)
  where
    rises : (i k : ℕ) → i ≤ k → 2 ^ i ≤ 2 ^ k
    rises zero k low = let one = one-le-pow k 2 (omega arith) in omega (arith, one)
    rises (suc i) zero low = absurd (omega (arith, low))
    rises (suc i) (suc k) low = let before = rises i k (omega (arith, low)) in let a = pow-suc 2 i in let b = pow-suc 2 k in omega (arith, before, a, b)
