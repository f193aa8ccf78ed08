-- What the timer of what is under way is for: when a flow is given up, and that nothing waits longer than a minute, or goes again in a second.
use Rattle.std.proofs.Common.{refl, ◌≡◌, ℕ, zero, suc, ◌+◌, ◌<◌, ◌≤◌, List, [], ◌∷◌, ◌++◌, length, max, arith, Bool, true, false, not, ◌&&◌, if◌then◌else◌, nat_le, nat_lt, IsTrue}
use Rattle.std.proofs.lemmas.Bool.Decides.{nat_tests}
use Rattle.std.specs.Option.{unwrap_or}
use Rattle.spec_flow.specs.Event.{Segment, AsksAddress, Connects, Accepts, Departs, At, Story, IsStory, newest_moment}
use Rattle.spec_flow.specs.Host.{answered, acked}
use Rattle.spec_flow.specs.Flow.{host, add_if, holds, sendings, syn_sendings, acknowledged_at, oldest, oldest_sendings, oldest_sent_again, is_under_way, is_closed, opened_at, is_accepted, syn_is_out, newest_of}
use Rattle.spec_flow.specs.Close.{asked_at, gives_up, times_asked, finds_no_guest}
use Rattle.spec_flow.specs.Dutiful.{waits_since, moment_if, oldest_unheard, back_off, resend_deadline, resolves_guest, waits_for_window, AreAhead}
use Rattle.sim_halves.specs.Resends.{Resolves, least_wait, Timer, Off, Until, Expired, Resends, first_time}
use Rattle.sim_halves.proofs.Moments.{both_ahead}
use Rattle.sim_halves.proofs.Resent.{rests_now}
use Rattle.sim_halves.proofs.Timers.{wait_low, gives_up_at, in_time}
use Rattle.sim_halves.proofs.Unheard.{backs_off}

by_cases : {A : Type 0} (b : Bool) → (b ≡ true → A) → (b ≡ false → A) → A
by_cases true f g = f refl
by_cases false f g = g refl

some_oldest : (now t : ℕ) (ts : List ℕ) → unwrap_or (oldest (t ∷ ts)) now ≡ first_time (t ∷ ts)
some_oldest now t [] = refl
some_oldest now t (u ∷ ts) = some_oldest now u ts

given_up : (times : List ℕ) (again now : ℕ) → 9 ≤ length times → 8 ≤ again → first_time times + 243000 ≤ now → (nat_le 9 (length times) && nat_le 8 again && nat_le
    (unwrap_or (oldest times) now + 243000) now) ≡ true
given_up [] again now many more low = absurd (omega (arith, many))
given_up (t ∷ ts) again now many more low = rw (some_oldest now t ts) (yes_all 9 (length (t ∷ ts)) 8 again (first_time (t ∷ ts) + 243000) now many more low)
  where
    yes_it : (m n : ℕ) → m ≤ n → nat_le m n ≡ true
    yes_it m n low = grind (arith, nat_tests)

    yes_all : (a b c d e f : ℕ) → a ≤ b → c ≤ d → e ≤ f → (nat_le a b && nat_le c d && nat_le e f) ≡ true
    yes_all a b c d e f p q r = rw (yes_it a b p, yes_it c d q, yes_it e f r) refl

-- the ninth expiry gives the flow up
pub gives_up_now : (past : Story) (now at w : ℕ) → Resends past now (Until at) 8 w → at ≤ now → IsTrue (gives_up now past)
gives_up_now past now at w r due = by_cases (is_under_way past)
    (λ under. let p = gives_up_at (oldest_sendings past) (oldest_sent_again past) (waits_since past) at now (r.running at under refl) due in given_up (oldest_sendings past)
    (oldest_sent_again past) now p.0 p.1 p.2)
    (λ none. absurd (let zero_k = r.idle none in omega (arith, zero_k)))

-- a flow that was accepted has called its guest
abbrev pub HasCalled : Story → Type 0
HasCalled past = IsTrue (is_accepted past && not (is_closed past)) → IsTrue (syn_is_out past)

-- so its guest's address isn't asked for
pub resolves_none : (past : Story) → HasCalled past → resolves_guest past ≡ false
resolves_none past called = by (is_accepted past) (syn_is_out past) (is_closed past) called
  where
    by : (a b c : Bool) → (IsTrue (a && not c) → IsTrue b) → (a && not b && not c) ≡ false
    by false b c f = refl
    by true true c f = refl
    by true false true f = refl
    by true false false f = let not_it = f refl in cc

pub none_asked : (past : Story) (now : ℕ) → resolves_guest past ≡ false → AreAhead now (moment_if (resolves_guest past && nat_lt 0 (times_asked past)) (asked_at past + 60000))
none_asked past now none = rw none tt

-- where a closed window is waited for within a minute since the newest event, that is ahead
pub window_ahead : (past : Story) (now : ℕ) → (waits_for_window past ≡ true → now < newest_moment past + 60000) → AreAhead now (moment_if (waits_for_window past) (newest_moment past + 60000))
window_ahead past now soon = by (waits_for_window past) soon
  where
    by : (b : Bool) → (b ≡ true → now < newest_moment past + 60000) → AreAhead now (moment_if b (newest_moment past + 60000))
    by true f = (f refl, tt)
    by false f = tt

-- nothing waits longer than a minute: where nothing is owed again, the timer hasn't expired, and no guest's address is asked for
pub all_in_time : (past : Story) (now : ℕ) (timer : Timer) (k w : ℕ) → Resends past now timer k w → (is_under_way past ≡ true → timer ≡ Expired → ⊥) →
    ((at : ℕ) → timer ≡ Until at → now < at) → (waits_for_window past ≡ true → now < newest_moment past + 60000) → HasCalled past → AreAhead now (resend_deadline past)
all_in_time past now timer k w r sent_all before watched called =
    both_ahead now (moment_if (is_under_way past && not (is_closed past)) (waits_since past + 60000) ++ moment_if (resolves_guest past && nat_lt 0 (times_asked past)) (asked_at past + 60000)) _
    (both_ahead now (moment_if (is_under_way past && not (is_closed past)) (waits_since past + 60000)) _
    (by (is_under_way past) (is_closed past) (λ under. by_timer timer refl under)) (none_asked past now (resolves_none past called)))
    (window_ahead past now watched)
  where
    by_timer : (t : Timer) → timer ≡ t → is_under_way past ≡ true → now < waits_since past + 60000
    by_timer Off is under = absurd (r.set under is)
    by_timer (Until at) is under = in_time (oldest_sendings past) (oldest_sent_again past) (waits_since past) k at now (r.running at under is) (before at is)
    by_timer Expired is under = absurd (sent_all under is)

    by : (b c : Bool) → (b ≡ true → now < waits_since past + 60000) → AreAhead now (moment_if (b && not c) (waits_since past + 60000))
    by true true f = tt
    by true false f = (f refl, tt)
    by false c f = tt

-- nor is a wait cut short before so many that nothing answered ask for
pub not_woken : (past : Story) (now at k w : ℕ) → Resends past now (Until at) k w → is_under_way past ≡ true → oldest_unheard past ≤ k + 1 → opened_at past ≤ waits_since past
    → max (opened_at past) (waits_since past) + back_off (oldest_unheard past) ≤ at
not_woken past now at k w r under few low =
    let late = (r.running at under refl).from in
    let waits = backs_off (oldest_unheard past) k few in
    omega (arith, late, waits, low)

-- ---- nothing goes out before the flow is opened

abbrev pub AllFrom : ℕ → List ℕ → Type 0
AllFrom from [] = Unit {0}
AllFrom from (m ∷ ms) = (from ≤ m) × AllFrom from ms

add_from : (b : Bool) (m from : ℕ) (ms : List ℕ) → from ≤ m → AllFrom from ms → AllFrom from (add_if b m ms)
add_from true m from ms low all = (low, all)
add_from false m from ms low all = all

pub opened_first : (past : Story) → IsStory past → opened_at past ≤ newest_moment past
opened_first [] is = absurd is
opened_first (At m (Connects ours syn) ∷ []) is = omega arith
opened_first (At m (Accepts ours) ∷ []) is = omega arith
opened_first (At m _ ∷ []) is = omega arith
opened_first (At m (Connects ours syn) ∷ b ∷ past) is = omega arith
opened_first (At m (Accepts ours) ∷ b ∷ past) is = omega arith
opened_first (At m _ ∷ b ∷ past) is = let before = opened_first (b ∷ past) is.2 in omega (arith, before, is.1)

pub sendings_from : (past : Story) → IsStory past → (i : ℕ) → AllFrom (opened_at past) (sendings past i)
sendings_from [] is i = absurd is
sendings_from (At m (Departs seg) ∷ []) is i = absurd is
sendings_from (At m _ ∷ []) is i = tt
sendings_from (At m (Connects ours syn) ∷ b ∷ past) is i = absurd (is.0 tt)
sendings_from (At m (Accepts ours) ∷ b ∷ past) is i = absurd (is.0 tt)
sendings_from (At m (Departs seg) ∷ b ∷ past) is i =
    let before = opened_first (b ∷ past) is.2 in
    add_from (holds (b ∷ past) seg i) m (opened_at (b ∷ past)) (sendings (b ∷ past) i) (omega (arith, before, is.1)) (sendings_from (b ∷ past) is.2 i)
sendings_from (At m _ ∷ b ∷ past) is i = sendings_from (b ∷ past) is.2 i

pub syn_sendings_from : (past : Story) → IsStory past → AllFrom (opened_at past) (syn_sendings past)
syn_sendings_from [] is = absurd is
syn_sendings_from (At m (Departs seg) ∷ []) is = absurd is
syn_sendings_from (At m _ ∷ []) is = tt
syn_sendings_from (At m (Connects ours syn) ∷ b ∷ past) is = absurd (is.0 tt)
syn_sendings_from (At m (Accepts ours) ∷ b ∷ past) is = absurd (is.0 tt)
syn_sendings_from (At m (Departs seg) ∷ b ∷ past) is =
    let before = opened_first (b ∷ past) is.2 in
    add_from (seg.syn && not seg.rst) m (opened_at (b ∷ past)) (syn_sendings (b ∷ past)) (omega (arith, before, is.1)) (syn_sendings_from (b ∷ past) is.2)
syn_sendings_from (At m _ ∷ b ∷ past) is = syn_sendings_from (b ∷ past) is.2

-- so a timer that runs is one of a flow that was opened before
pub opened_by : (past : Story) (now at k w : ℕ) → IsStory past → Resends past now (Until at) k w → is_under_way past ≡ true → opened_at past ≤ waits_since past
opened_by past now at k w is r under =
    let many = (r.running at under refl).many in
    newest_from (opened_at past) (oldest_sendings past) (acknowledged_at past) (omega (arith, many)) (all (answered (host past)) (acked (host past)))
  where
    newest_from : (from : ℕ) (ms : List ℕ) (a : ℕ) → 0 < length ms → AllFrom from ms → from ≤ max (newest_of ms) a
    newest_from from [] a some all = absurd (omega (arith, some))
    newest_from from (m ∷ ms) a some all = omega (arith, all.0)

    all : (b : Bool) (i : ℕ) → AllFrom (opened_at past) (if b then sendings past i else syn_sendings past)
    all true i = sendings_from past is i
    all false i = syn_sendings_from past is

-- ---- a flow that is opened

pub opens : (m ours : ℕ) (syn : Segment) → Resends (At m (Connects ours syn) ∷ []) m Off 0 1000
opens m ours syn = rests_now (At m (Connects ours syn) ∷ []) m 1000 Off (omega arith) refl (omega arith) (omega arith)

pub accepts : (m ours : ℕ) → Resends (At m (Accepts ours) ∷ []) m Off 0 1000
accepts m ours = rests_now (At m (Accepts ours) ∷ []) m 1000 Off (omega arith) refl (omega arith) (omega arith)

-- ---- requests for the guest's address

pub asks_first : (past : Story) (m w : ℕ) → opened_at past ≤ m → 1000 ≤ w → w ≤ 60000 → Resolves (At m AsksAddress ∷ past) 1 (m + w)
asks_first past m w on low high = record { many = omega arith; from = omega (arith, on, low); soon = omega (arith, high) }

-- at its moment it is asked again, after a longer wait
pub asks_again : (past : Story) (count at m w : ℕ) → at ≤ m → least_wait count ≤ w → w ≤ 60000 → Resolves past count at → Resolves (At m AsksAddress ∷ past) (suc count) (m + w)
asks_again past count at m w due low high a = record { many = omega (arith, a.many); from = omega (arith, a.from, due, low); soon = omega (arith, high) }

-- nine requests and the last wait: the guest isn't found
pub not_found : (past : Story) (at now : ℕ) → Resolves past 9 at → at ≤ now → is_accepted past ≡ true → syn_is_out past ≡ false → IsTrue (finds_no_guest false now past)
not_found past at now a due accepted unsent = by (is_accepted past) (syn_is_out past) accepted unsent
  where
    yes_it : (m n : ℕ) → m ≤ n → nat_le m n ≡ true
    yes_it m n low = grind (arith, nat_tests)

    many : nat_le 9 (times_asked past) ≡ true
    many = yes_it 9 (times_asked past) a.many

    late : nat_le (opened_at past + 243000) now ≡ true
    late = yes_it (opened_at past + 243000) now (omega (arith, a.from, due))

    by : (b c : Bool) → b ≡ true → c ≡ false → (b && not c && not false && nat_le 9 (times_asked past) && nat_le (opened_at past + 243000) now) ≡ true
    by b c is no_it = rw (is, no_it, many, late) refl

-- and no wait is cut short in its first second
pub not_before : (past : Story) (count at : ℕ) → 0 < count → Resolves past count at → opened_at past + 1000 ≤ at
not_before past zero at some a = absurd (omega (arith, some))
not_before past (suc k) at some a = let more = wait_low k in omega (arith, a.from, more)
