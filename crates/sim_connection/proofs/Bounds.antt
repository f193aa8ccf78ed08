-- How long it may be waited for an open connection: its timer against the moments of its story.
use Rattle.std.proofs.Common.{refl, ◌≡◌, ℕ, ◌+◌, ◌<◌, ◌≤◌, List, [], ◌∷◌, ◌++◌, Bool, true, false, not, ◌&&◌, ◌||◌, Option, Some, nat_lt, if◌then◌else◌, max, arith, ap, subst, sym, ◌∙◌, inl, inr}
use Rattle.std.proofs.lemmas.Bool.Decides.{nat_tests}
use Rattle.retransmit.specs.Resending.{Resending, doublings, due_by, due_of as resend_due, is_expired, is_off}
use Rattle.retransmit.specs.declared.Timer.{Timer}
use Rattle.retransmit.specs.declared.Timer.TheVariants as timer
use Rattle.retransmit.proofs.Steady.{steady_second}
use Rattle.sock_buffers.specs.Downward.{Downward}
use Rattle.sock_buffers.specs.Upward.{Upward}
use Rattle.tcp_transmit.specs.Transmission.{Transmission}
use Rattle.tcp_connection.specs.Connection.{Connection, has_gone, is_opening, is_synchronized}
use Rattle.spec_flow.specs.Settings.{Settings}
use Rattle.spec_flow.specs.Event.{IsStory, Story, newest_moment}
use Rattle.spec_flow.specs.Host.{acked, answered, owned, sent}
use Rattle.spec_flow.specs.Flow.{acknowledged_at, host, is_accepted, is_closed, is_under_way, oldest_sendings, opened_at, sendings, syn_is_out, syn_sendings, newest_of}
use Rattle.spec_flow.specs.Close.{asked_at, times_asked}
use Rattle.spec_flow.specs.Dutiful.{back_off, closing_moments, moment_if, oldest_unheard, resend_deadline, resolves_guest, waits_for_window, waits_since, wakes}
use Rattle.spec_flow.specs.Bounds.{IsBy, IsFrom}
use Rattle.sim_halves.specs.Resends.{Resends}
use Rattle.sim_halves.proofs.Edges.{owned_is}
use Rattle.sim_halves.proofs.InTime.{not_woken, opened_by, resolves_none}
use Rattle.sim_halves.proofs.Moments.{by_both}
use Rattle.sim_halves.proofs.Sendings.{nothing_past}
use Rattle.sim_connection.specs.Holding.{Holds}
use Rattle.sim_connection.specs.Seen.{count_of, outward_of, resending_of, timer_by, timer_of}
use Rattle.sim_connection.proofs.Settling.{end_is, no_window}
use Rattle.sim_connection.proofs.Unanswered.{idle_unheard}
use Rattle.sim_connection.proofs.Watching.{opening_is, syn_under_way, under_way_is}

-- ---- lists of moments

pub from_if : (at m : ℕ) (b : Bool) → b ≡ true → m ≤ at → IsFrom (Some at) (moment_if b m)
from_if at m true is low = inl low
from_if at m false is low = absurd cc

pub from_first : (at : ℕ) (ms ns : List ℕ) → IsFrom (Some at) ms → IsFrom (Some at) (ms ++ ns)
from_first at [] ns f = absurd f
from_first at (m ∷ ms) ns (inl low) = inl low
from_first at (m ∷ ms) ns (inr f) = inr (from_first at ms ns f)

pub from_second : (at : ℕ) (ms ns : List ℕ) → IsFrom (Some at) ns → IsFrom (Some at) (ms ++ ns)
from_second at [] ns f = f
from_second at (m ∷ ms) ns f = inr (from_second at ms ns f)

-- no guest's address is asked for
by_none : (due : Option ℕ) (past : Story) → resolves_guest past ≡ false → IsBy due (moment_if (resolves_guest past && nat_lt 0 (times_asked past)) (asked_at past + 60000))
by_none due past none = rw none tt

-- ---- a timer

-- nothing waits for a window, or the timer of what does expires within a minute since the newest event
abbrev pub Watches : Story → Option ℕ → Type 0
Watches past due = waits_for_window past ≡ true → (at : ℕ) × (due ≡ Some at) × (at ≤ newest_moment past + 60000)

pub by_window : (past : Story) (due : Option ℕ) → Watches past due → IsBy due (moment_if (waits_for_window past) (newest_moment past + 60000))
by_window past due watched = by (waits_for_window past) watched
  where
    by : (b : Bool) → (b ≡ true → (at : ℕ) × (due ≡ Some at) × (at ≤ newest_moment past + 60000)) → IsBy due (moment_if b (newest_moment past + 60000))
    by true f = let w = f refl in subst (λ (d : Option ℕ). IsBy d ((newest_moment past + 60000) ∷ [])) (sym w.1) (w.2, tt)
    by false f = tt

-- it expires within a minute since what is under way went out
within : (past : Story) (now k w : ℕ) (tm : Timer) → Resends past now (timer_by tm w) k w → (is_under_way past ≡ true → is_expired tm ≡ true → ⊥) → resolves_guest past ≡ false
    → Watches past (due_by tm w) → IsBy (due_by tm w) (resend_deadline past)
within past now k w tm r unexpired called watched =
    by_both (due_by tm w) (moment_if (is_under_way past && not (is_closed past)) (waits_since past + 60000) ++ moment_if (resolves_guest past && nat_lt 0 (times_asked past)) (asked_at past + 60000)) _
    (by_both (due_by tm w) (moment_if (is_under_way past && not (is_closed past)) (waits_since past + 60000)) _ (by (is_under_way past) (is_closed past) refl)
    (by_none (due_by tm w) past called)) (by_window past (due_by tm w) watched)
  where
    by_timer : is_under_way past ≡ true → (t : Timer) → tm ≡ t → IsBy (due_by t w) ((waits_since past + 60000) ∷ [])
    by_timer under timer.Off is = absurd (r.set under (ap (λ (t : Timer). timer_by t w) is))
    by_timer under (timer.Since base) is = ((r.running (base + w) under (ap (λ (t : Timer). timer_by t w) is)).until, tt)
    by_timer under (timer.Expired at) is = absurd (unexpired under (ap (λ (t : Timer). is_expired t) is))

    by : (b d : Bool) → is_under_way past ≡ b → IsBy (due_by tm w) (moment_if (b && not d) (waits_since past + 60000))
    by true true is = tt
    by true false is = by_timer is tm refl
    by false d is = tt

-- and not before so many that nothing answered ask for
not_in_a_second : (past : Story) (now k w : ℕ) (tm : Timer) → IsStory past → syn_is_out past ≡ true → is_closed past ≡ false → Resends past now (timer_by tm w) k w
    → (is_under_way past ≡ true → is_expired tm ≡ false → oldest_unheard past ≤ k + 1)
    → (is_under_way past ≡ false → (base : ℕ) → tm ≡ timer.Since base → (nat_lt (sent (host past)) (owned (host past)) ≡ true) × (max (opened_at past) (waits_since past) + 1000 ≤ base + w))
    → IsFrom (due_by tm w) (wakes past)
not_in_a_second past now k w tm story out open_yet r called idle = by_timer tm refl
  where
    way : (a b u x : Bool) → a ≡ true → b ≡ false → (u || x) ≡ true → (a && not b && (u || x)) ≡ true
    way a b u x out_is yet so = rw (out_is, yet, so) refl

    since : (base : ℕ) → tm ≡ timer.Since base → (u : Bool) → is_under_way past ≡ u → ((is_under_way past || nat_lt (sent (host past)) (owned (host past))) ≡ true) ×
        (max (opened_at past) (waits_since past) + back_off (oldest_unheard past) ≤ base + w)
    since base is true under =
        let run = subst (λ (t : Timer). Resends past now (timer_by t w) k w) is r in
        (rw under refl, not_woken past now (base + w) k w run under (called under (ap (λ (t : Timer). is_expired t) is)) (opened_by past now (base + w) k w story run under))
    since base is false under =
        let two = idle under base is in
        let none = idle_unheard past under in
        let least : back_off (oldest_unheard past) ≡ 1000 = ap (λ (n : ℕ). back_off n) none ∙ refl in
        (rw (under, two.0) refl, omega (arith, two.1, least))

    by_timer : (t : Timer) → tm ≡ t → IsFrom (due_by t w) (wakes past)
    by_timer timer.Off is = tt
    by_timer (timer.Expired at) is = tt
    by_timer (timer.Since base) is =
        let two = since base is (is_under_way past) refl in
        from_second (base + w) (closing_moments past ++ moment_if (is_accepted past && not (syn_is_out past) && not (is_closed past)) (opened_at past + 1000)) _
        (from_if (base + w) (max (opened_at past) (waits_since past) + back_off (oldest_unheard past)) (syn_is_out past && not (is_closed past) && (is_under_way past || nat_lt (sent (host past)) (owned (host past))))
        (way (syn_is_out past) (is_closed past) (is_under_way past) (nat_lt (sent (host past)) (owned (host past))) out open_yet two.0) two.1)

-- while it runs it counts what it made go again
counted_is : (past : Story) (r : Resending) → is_under_way past ≡ true → is_expired r.timer ≡ false → count_of (is_under_way past) r ≡ r.resent
counted_is past r under runs = ap (λ (b : Bool). count_of b r) under ∙ by r.timer r.resent runs
  where
    by : (tm : Timer) (k : ℕ) → is_expired tm ≡ false → doublings tm k ≡ k
    by timer.Off k is = refl
    by (timer.Since base) k is = refl
    by (timer.Expired at) k is = absurd cc

-- one that is off expires at no moment
off_due : (tm : Timer) (w : ℕ) (ms : List ℕ) → is_off tm ≡ true → IsFrom (due_by tm w) ms
off_due timer.Off w ms is = tt
off_due (timer.Since base) w ms is = absurd cc
off_due (timer.Expired at) w ms is = absurd cc

module _ (s : Settings) (c : Connection) (up : Upward) (down : Downward) (past : Story) (now : ℕ) (h : Holds s c up down past now) where
  ran : (r : Resending) → resending_of c ≡ r → Resends past now (timer_of r) (count_of (is_under_way past) r) r.estimate.wait
  ran r is = subst (λ (q : Resending). Resends past now (timer_of q) (count_of (is_under_way past) q) q.estimate.wait) is h.gives.resends

  -- ---- the timer of our SYN

  module _ (opening : is_opening c.stage ≡ true) where
    syn_ran : Resends past now (timer_of c.syn) (count_of (is_under_way past) c.syn) c.syn.estimate.wait
    syn_ran = ran c.syn (ap (λ (b : Bool). if b then c.syn else c.transmission.resend) opening)

    pub opening_by : (has_gone c.sendings ≡ true → c.syn_owed ≡ false) → resolves_guest past ≡ false → IsBy (resend_due c.syn) (resend_deadline past)
    opening_by none called = within past now (count_of (is_under_way past) c.syn) c.syn.estimate.wait c.syn.timer syn_ran
        (λ under over. let not_it = sym (h.gives.owes_syn opening over) ∙ none (sym (syn_under_way s c past h.opened opening) ∙ under) in absurd cc) called (λ waits. absurd (no_window past (h.opened.answered ∙ opening_is c.stage h.opened.live opening) waits))

    syn_called : is_under_way past ≡ true → is_expired c.syn.timer ≡ false → oldest_unheard past ≤ count_of (is_under_way past) c.syn + 1
    syn_called under runs =
        let few = subst (λ (b : Bool). oldest_unheard past ≤ (if b then c.syn else c.transmission.resend).resent + 1) opening h.gives.calls.counted in
        let same = counted_is past c.syn under runs in
        omega (arith, few, same)

    pub opening_from : IsFrom (resend_due c.syn) (wakes past)
    opening_from = by (has_gone c.sendings) refl
      where
        by : (b : Bool) → has_gone c.sendings ≡ b → IsFrom (resend_due c.syn) (wakes past)
        by false gone = off_due c.syn.timer c.syn.estimate.wait (wakes past) (h.gives.unset gone)
        by true gone = not_in_a_second past now (count_of (is_under_way past) c.syn) c.syn.estimate.wait c.syn.timer h.goes.story (h.opened.out ∙ gone) h.goes.open_yet syn_ran syn_called
            (λ idle base is. absurd (let not_it = sym (syn_under_way s c past h.opened opening ∙ gone) ∙ idle in cc))

  -- ---- the timer of pieces, and of a closed window

  module _ (opening : is_opening c.stage ≡ false) (synchronized : is_synchronized c.stage ≡ true) where
    abbrev t : Transmission
    t = c.transmission

    piece_ran : Resends past now (timer_of t.resend) (count_of (is_under_way past) t.resend) t.resend.estimate.wait
    piece_ran = ran t.resend (ap (λ (b : Bool). if b then c.syn else t.resend) opening)

    pub synchronized_by : is_expired t.resend.timer ≡ false → Watches past (resend_due t.resend) → IsBy (resend_due t.resend) (resend_deadline past)
    synchronized_by none watched = within past now (count_of (is_under_way past) t.resend) t.resend.estimate.wait t.resend.timer piece_ran (λ under over. let not_it = sym over ∙ none in absurd cc)
        (resolves_none past (λ accepted. h.opened.out ∙ h.opened.sent synchronized)) watched

    -- where nothing is under way, what waits for the window is unsent, and waits since the opening and the last acknowledgement at least
    waits : is_under_way past ≡ false → (base : ℕ) → t.resend.timer ≡ timer.Since base
        → (nat_lt (sent (host past)) (owned (host past)) ≡ true) × (max (opened_at past) (waits_since past) + 1000 ≤ base + t.resend.estimate.wait)
    waits idle base is =
        let k = h.gives.keeps in
        let tested : nat_lt t.acked t.sent ≡ false = sym (under_way_is s c down past h.opened k opening) ∙ idle in
        let order = h.buffers.feeds.sound.order in
        let even : t.acked ≡ t.sent = grind (arith, nat_tests) in
        let rests = h.buffers.feeds.rests even (ap (λ (tm : Timer). is_off tm) is) in
        let all = owned_is (outward_of t down) past k in
        let less : sent (host past) < owned (host past) = omega (arith, rests.1, all, end_is t.end, k.sent) in
        let low : 1000 ≤ t.resend.estimate.wait = steady_second t.resend h.buffers.feeds.sound.steady in
        let two = h.gives.counts base is in
        let none : oldest_sendings past ≡ [] = by (answered (host past)) (h.opened.answered ∙ synchronized) (nothing_past past (acked (host past)) (omega (arith, even, k.acked, k.sent))) in
        let since : waits_since past ≡ acknowledged_at past = ap (λ (l : List ℕ). max (newest_of l) (acknowledged_at past)) none ∙ omega arith in
        (yes (sent (host past)) (owned (host past)) less, omega (arith, two.opened, two.acknowledged, since, low))
      where
        yes : (i n : ℕ) → i < n → nat_lt i n ≡ true
        yes i n less = grind (arith, nat_tests)

        by : (b : Bool) → b ≡ true → sendings past (acked (host past)) ≡ [] → (if b then sendings past (acked (host past)) else syn_sendings past) ≡ []
        by b yes_ none = rw yes_ none

    piece_called : is_under_way past ≡ true → is_expired t.resend.timer ≡ false → oldest_unheard past ≤ count_of (is_under_way past) t.resend + 1
    piece_called under runs =
        let few = subst (λ (b : Bool). oldest_unheard past ≤ (if b then c.syn else t.resend).resent + 1) opening h.gives.calls.counted in
        let same = counted_is past t.resend under runs in
        omega (arith, few, same)

    pub synchronized_from : IsFrom (resend_due t.resend) (wakes past)
    synchronized_from = not_in_a_second past now (count_of (is_under_way past) t.resend) t.resend.estimate.wait t.resend.timer h.goes.story
        (h.opened.out ∙ h.opened.sent synchronized) h.goes.open_yet piece_ran piece_called waits
