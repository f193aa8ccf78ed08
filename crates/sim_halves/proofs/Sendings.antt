-- The moments at which places of the host's stream went out.
use Rattle.std.proofs.Common.{refl, ◌≡◌, ℕ, ◌+◌, ◌<◌, ◌≤◌, List, [], ◌∷◌, length, arith, Bool, true, false, not, ◌&&◌, ◌||◌, if◌then◌else◌, IsTrue, MatchBool, ℤ, pos, negsuc, ◌+ℤ◌, int_le}
use Rattle.std.proofs.Common.{int_lt, nat_le, nat_lt, inl, inr, None, Some, max}
use Rattle.std.proofs.lemmas.Bool.{cases_lt}
use Rattle.std.proofs.lemmas.Bool.Decides.{nat_tests}
use Rattle.spec_flow.specs.Settings.{Settings}
use Rattle.spec_flow.specs.Event.{Segment, Connects, Accepts, Arrives, Departs, Reads, ReadsEnd, At, Story, IsStory, newest_moment}
use Rattle.spec_flow.specs.Guest.{from_zero}
use Rattle.spec_flow.specs.Host.{Down, Sent, Confirmed, sent, our_place, answered, acked}
use Rattle.spec_flow.specs.Flow.{host, push, confirms, holds, add_if, sendings, syn_sendings, syn_is_out, acknowledged_at, newest_of}
use Rattle.spec_flow.specs.Dutiful.{waits_since}
use Rattle.spec_flow.specs.Lawful.{IsPiece, IsLawful}
use Rattle.sim_halves.specs.Resends.{first_time}

-- ---- a story's moments rise

abbrev pub Rises : Story → Type 0
Rises [] = Unit {0}
Rises (At m e ∷ past) = (newest_moment past ≤ m) × Rises past

pub rises : (past : Story) → IsStory past → Rises past
rises [] is = absurd is
rises (At m e ∷ []) is = (omega arith, tt)
rises (At m e ∷ b ∷ past) is = (is.1, rises (b ∷ past) is.2)

-- ---- what a segment holds

-- it holds the places from its own to its end
pub holds_here : (z : ℤ) (o n i : ℕ) → z ≡ pos o → o ≤ i → i < o + n → IsTrue (int_le z (pos i) && int_lt (pos i) (z +ℤ pos n))
holds_here z o n i is low high = rw is (here o n i low high)
  where
    here : (o n i : ℕ) → o ≤ i → i < o + n → IsTrue (int_le (pos o) (pos i) && int_lt (pos i) (pos o +ℤ pos n))
    here o n i low high =
        let a : nat_le o i ≡ true = grind (arith, nat_tests) in
        let b : nat_lt i (o + n) ≡ true = grind (arith, nat_tests) in
        rw (a, b) refl

no_lt : (z : ℤ) (i : ℕ) → from_zero z ≤ i → int_lt (pos i) z ≡ false
no_lt (pos n) i low = grind (arith, nat_tests)
no_lt (negsuc n) i low = refl

and_false : (a b : Bool) → b ≡ false → (a && b) ≡ false
and_false true b is = is
and_false false b is = refl

-- ---- places that weren't sent never went out

nothing_here : (s r : Bool) (past : Story) (seg : Segment) (m i : ℕ) → sent (push (if not s && not r then Some (Sent seg.number seg.octets seg.fin) else None) (host past)) ≤ i
    → (sent (host past) ≤ i → sendings past i ≡ [])
    → add_if (not s && not r && int_le (our_place (host past) seg.number) (pos i) && int_lt (pos i)
    (our_place (host past) seg.number +ℤ pos (length seg.octets + (if seg.fin then 1 else 0)))) m (sendings past i) ≡ []
nothing_here true r past seg m i low before = before low
nothing_here false true past seg m i low before = before low
nothing_here false false past seg m i low before =
    let e : ℤ = our_place (host past) seg.number +ℤ pos (length seg.octets + (if seg.fin then 1 else 0)) in
    let far : from_zero e ≤ i = omega (arith, low) in
    let none = and_false (int_le (our_place (host past) seg.number) (pos i)) (int_lt (pos i) e) (no_lt e i far) in
    rw none (before (omega (arith, low)))

sent_passed : (past : List Down) (n : ℕ) (b : Bool) → sent (push (if b then Some (Confirmed n) else None) past) ≡ sent past
sent_passed past n true = refl
sent_passed past n false = refl

pub nothing_past : (past : Story) (i : ℕ) → sent (host past) ≤ i → sendings past i ≡ []
nothing_past [] i low = refl
nothing_past (At m (Departs seg) ∷ past) i low = nothing_here seg.syn seg.rst past seg m i low (nothing_past past i)
nothing_past (At m (Arrives seg) ∷ past) i low = nothing_past past i (omega (arith, low, sent_passed (host past) seg.acknowledgement (confirms past seg)))
nothing_past (At m (Connects ours syn) ∷ past) i low = nothing_past past i low
nothing_past (At m (Accepts ours) ∷ past) i low = nothing_past past i low
nothing_past (At m (Reads xs) ∷ past) i low = nothing_past past i low
nothing_past (At m ReadsEnd ∷ past) i low = nothing_past past i low
nothing_past (At m _ ∷ past) i low = nothing_past past i low

-- ---- those that were sent went out

some_more : (b : Bool) (m : ℕ) (ms : List ℕ) → 0 < length ms → 0 < length (add_if b m ms)
some_more true m ms some = omega arith
some_more false m ms some = some

one_here : (b : Bool) (m : ℕ) (ms : List ℕ) → IsTrue b → 0 < length (add_if b m ms)
one_here true m ms is = omega arith
one_here false m ms is = absurd cc

end_of : (z : ℤ) (o n : ℕ) → z ≡ pos o → from_zero (z +ℤ pos n) ≡ o + n
end_of z o n is = rw is refl

went_here : (s r : Bool) (past : Story) (seg : Segment) (m i : ℕ) → MatchBool (s || r) ((seg.octets ≡ []) × (seg.fin ≡ false)) (IsPiece past seg)
    → i < sent (push (if not s && not r then Some (Sent seg.number seg.octets seg.fin) else None) (host past))
    → (i < sent (host past) → 0 < length (sendings past i))
    → 0 < length (add_if (not s && not r && int_le (our_place (host past) seg.number) (pos i) && int_lt (pos i)
    (our_place (host past) seg.number +ℤ pos (length seg.octets + (if seg.fin then 1 else 0)))) m (sendings past i))
went_here true r past seg m i may high before = before high
went_here false true past seg m i may high before = before high
went_here false false past seg m i may high before =
    let n : ℕ = length seg.octets + (if seg.fin then 1 else 0) in
    let z : ℤ = our_place (host past) seg.number in
    let o : ℕ = may.0 in
    let e = end_of z o n may.1 in
    elim (cases_lt i (sent (host past))) [
      | inl old ↦ some_more (int_le z (pos i) && int_lt (pos i) (z +ℤ pos n)) m (sendings past i) (before old)
      | inr new ↦ one_here (int_le z (pos i) && int_lt (pos i) (z +ℤ pos n)) m (sendings past i) (holds_here z o n i may.1 (omega (arith, new, may.2)) (omega (arith, high, new, e)))
    ]

pub sent_once : (s : Settings) (past : Story) → IsLawful s past → (i : ℕ) → i < sent (host past) → 0 < length (sendings past i)
sent_once s [] l i high = absurd (omega arith)
sent_once s (At m (Departs seg) ∷ past) l i high = went_here seg.syn seg.rst past seg m i l.0.sends_what_the_host_sent high (sent_once s past l.1 i)
sent_once s (At m (Arrives seg) ∷ past) l i high = sent_once s past l.1 i (omega (arith, high, sent_passed (host past) seg.acknowledgement (confirms past seg)))
sent_once s (At m (Connects ours syn) ∷ past) l i high = sent_once s past l.1 i high
sent_once s (At m (Accepts ours) ∷ past) l i high = sent_once s past l.1 i high
sent_once s (At m (Reads xs) ∷ past) l i high = sent_once s past l.1 i high
sent_once s (At m ReadsEnd ∷ past) l i high = sent_once s past l.1 i high
sent_once s (At m _ ∷ past) l i high = sent_once s past l.1 i high

-- ---- all of them by the newest moment

abbrev pub AllBy : ℕ → List ℕ → Type 0
AllBy now [] = Unit {0}
AllBy now (m ∷ ms) = (m ≤ now) × AllBy now ms

later_by : (now later : ℕ) (ms : List ℕ) → now ≤ later → AllBy now ms → AllBy later ms
later_by now later [] on all = tt
later_by now later (m ∷ ms) on all = (omega (arith, on, all.0), later_by now later ms on all.1)

add_by : (b : Bool) (m now : ℕ) (ms : List ℕ) → now ≤ m → AllBy now ms → AllBy m (add_if b m ms)
add_by true m now ms on all = (omega arith, later_by now m ms on all)
add_by false m now ms on all = later_by now m ms on all

pub sendings_by : (past : Story) → Rises past → (i : ℕ) → AllBy (newest_moment past) (sendings past i)
sendings_by [] r i = tt
sendings_by (At m (Departs seg) ∷ past) r i = add_by (holds past seg i) m (newest_moment past) (sendings past i) r.0 (sendings_by past r.1 i)
sendings_by (At m _ ∷ past) r i = later_by (newest_moment past) m (sendings past i) r.0 (sendings_by past r.1 i)

pub syn_sendings_by : (past : Story) → Rises past → AllBy (newest_moment past) (syn_sendings past)
syn_sendings_by [] r = tt
syn_sendings_by (At m (Departs seg) ∷ past) r = add_by (seg.syn && not seg.rst) m (newest_moment past) (syn_sendings past) r.0 (syn_sendings_by past r.1)
syn_sendings_by (At m _ ∷ past) r = later_by (newest_moment past) m (syn_sendings past) r.0 (syn_sendings_by past r.1)

pub first_by : (now : ℕ) (ms : List ℕ) → AllBy now ms → first_time ms ≤ now
first_by now [] all = omega arith
first_by now (m ∷ []) all = all.0
first_by now (m ∷ n ∷ ms) all = first_by now (n ∷ ms) all.1

if_by : (b : Bool) (m a : ℕ) → a ≤ m → (if b then m else a) ≤ m
if_by true m a low = omega arith
if_by false m a low = low

pub acknowledged_by : (past : Story) → Rises past → acknowledged_at past ≤ newest_moment past
acknowledged_by [] r = omega arith
acknowledged_by (At m (Arrives seg) ∷ past) r = let before = acknowledged_by past r.1 in if_by _ m (acknowledged_at past) (omega (arith, before, r.0))
acknowledged_by (At m _ ∷ past) r = let before = acknowledged_by past r.1 in omega (arith, before, r.0)

-- the SYN went out where a moment of it is known
or_true : (b : Bool) → IsTrue b → (b || true) ≡ true
or_true b is = rw is refl

pub syn_unsent : (past : Story) → syn_is_out past ≡ false → syn_sendings past ≡ []
syn_unsent [] is = refl
syn_unsent (At m (Departs seg) ∷ past) is = by (seg.syn && not seg.rst) is (syn_unsent past)
  where
    by : (b : Bool) → (b || syn_is_out past) ≡ false → (syn_is_out past ≡ false → syn_sendings past ≡ []) → add_if b m (syn_sendings past) ≡ []
    by true is before = absurd cc
    by false is before = before is
syn_unsent (At m _ ∷ past) is = syn_unsent past is

-- ---- nothing is waited for since a later moment

newest_by : (now : ℕ) (ms : List ℕ) → AllBy now ms → newest_of ms ≤ now
newest_by now [] all = omega arith
newest_by now (m ∷ ms) all = all.0

pub since_by : (past : Story) → Rises past → waits_since past ≤ newest_moment past
since_by past r = by (answered (host past)) (acked (host past))
  where
    by : (b : Bool) (i : ℕ) → max (newest_of (if b then sendings past i else syn_sendings past)) (acknowledged_at past) ≤ newest_moment past
    by true i = let a = newest_by (newest_moment past) (sendings past i) (sendings_by past r i) in let b = acknowledged_by past r in omega (arith, a, b)
    by false i = let a = newest_by (newest_moment past) (syn_sendings past) (syn_sendings_by past r) in let b = acknowledged_by past r in omega (arith, a, b)
