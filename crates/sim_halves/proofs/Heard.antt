-- The timer of what is under way, where an acknowledgement comes.
use Rattle.std.proofs.Common.{refl, ◌≡◌, ℕ, suc, ◌+◌, ◌<◌, ◌≤◌, List, [], ◌∷◌, length, max, arith, Bool, true, false, ◌&&◌, if◌then◌else◌, ℤ, pos, negsuc, int_le, int_lt, nat_le, nat_lt}
use Rattle.std.proofs.Common.{ap, sym, ◌∙◌, subst}
use Rattle.std.proofs.lemmas.Bool.Decides.{nat_tests}
use Rattle.spec_flow.specs.Settings.{Settings}
use Rattle.spec_flow.specs.Event.{Segment, Arrives, At, Story, newest_moment}
use Rattle.spec_flow.specs.Guest.{from_zero}
use Rattle.spec_flow.specs.Host.{Down, Confirmed, sent, acked, answered, our_place, is_acceptable, not_past_sent}
use Rattle.spec_flow.specs.Flow.{host, confirms, sendings, syn_sendings, syn_is_out, oldest_sendings, oldest_sent_again, sent_again, acknowledged_at, is_under_way, newest_of}
use Rattle.spec_flow.specs.Lawful.{IsLawful}
use Rattle.spec_flow.specs.Dutiful.{waits_since}
use Rattle.spec_flow.proofs.Sides.{host_confirmed}
use Rattle.sim_halves.specs.Resends.{Timer, Until, Expired, Resends}
use Rattle.sim_halves.proofs.Timers.{passes, counts_anew, overdue_anew, overdue_first, moves, wait_low, wait_grows}
use Rattle.sim_halves.proofs.Sendings.{Rises, AllBy, sent_once, sendings_by, first_by}
use Rattle.sim_halves.proofs.Resent.{unchanged, set_anew, rests_now, same_running, same_overdue}

-- ---- what an acknowledgement is to the numbers

before_is : (a : ℕ) (z : ℤ) → int_le (pos a) z ≡ false → (from_zero z ≤ a) × (int_lt (pos a) z ≡ false)
before_is a (pos n) is = let low : n < a = grind (arith, nat_tests) in (omega (arith, low), after a n (omega (arith, low)))
  where
    after : (a n : ℕ) → n ≤ a → nat_lt a n ≡ false
    after a n low = grind (arith, nat_tests)
before_is a (negsuc n) is = (omega arith, refl)

-- one that isn't acceptable moves nothing
pub old_acked : (past : List Down) (n : ℕ) → is_acceptable past n ≡ false → acked (Confirmed n ∷ past) ≡ acked past
old_acked past n is = by (not_past_sent past n) (int_le (pos (acked past)) (our_place past n)) refl is
  where
    by : (f l : Bool) → int_le (pos (acked past)) (our_place past n) ≡ l → (l && f) ≡ false → (if f then max (acked past) (from_zero (our_place past n)) else acked past) ≡ acked past
    by false l same is = refl
    by true true same is = absurd cc
    by true false same is = let low = (before_is (acked past) (our_place past n) same).0 in omega (arith, low)

pub old_moves : (past : List Down) (n : ℕ) → is_acceptable past n ≡ false → (not_past_sent past n && int_lt (pos (acked past)) (our_place past n)) ≡ false
old_moves past n is = by (not_past_sent past n) (int_le (pos (acked past)) (our_place past n)) refl is
  where
    by : (f l : Bool) → int_le (pos (acked past)) (our_place past n) ≡ l → (l && f) ≡ false → (f && int_lt (pos (acked past)) (our_place past n)) ≡ false
    by false l same is = refl
    by true true same is = absurd cc
    by true false same is = (before_is (acked past) (our_place past n) same).1

and_first : (a b : Bool) → a ≡ false → (a && b) ≡ false
and_first a b is = rw is refl

module _ (past : Story) (seg : Segment) (m : ℕ) where
  -- ---- an arrival that acknowledges nothing

  pub unheard : (now : ℕ) (timer : Timer) (k w : ℕ) → confirms past seg ≡ false → now ≤ m → Resends past now timer k w → Resends (At m (Arrives seg) ∷ past) m timer k w
  unheard now timer k w not_it on r =
      unchanged past (At m (Arrives seg) ∷ past) now m timer k w (rw not_it refl) (rw not_it refl) (rw not_it refl) (rw not_it refl) (omega arith) on r

  -- ---- one that isn't acceptable

  module _ (it : confirms past seg ≡ true) (old : is_acceptable (host past) seg.acknowledgement ≡ false) where
    old_under : is_under_way (At m (Arrives seg) ∷ past) ≡ is_under_way past
    old_under = rw (it, old, old_acked (host past) seg.acknowledgement old) refl

    old_sendings : oldest_sendings (At m (Arrives seg) ∷ past) ≡ oldest_sendings past
    old_sendings = rw (it, old, old_acked (host past) seg.acknowledgement old) refl

    old_again : oldest_sent_again (At m (Arrives seg) ∷ past) ≡ oldest_sent_again past
    old_again = rw (it, old, old_acked (host past) seg.acknowledgement old) refl

    old_at : acknowledged_at (At m (Arrives seg) ∷ past) ≡ acknowledged_at past
    old_at = rw (it, old_moves (host past) seg.acknowledgement old) refl

    old_since : waits_since (At m (Arrives seg) ∷ past) ≡ waits_since past
    old_since = ap (λ (l : List ℕ). max (newest_of l) (acknowledged_at (At m (Arrives seg) ∷ past))) old_sendings ∙ ap (λ (a : ℕ). max (newest_of (oldest_sendings past)) a) old_at

    pub not_acceptable : (now : ℕ) (timer : Timer) (k w : ℕ) → now ≤ m → Resends past now timer k w → Resends (At m (Arrives seg) ∷ past) m timer k w
    not_acceptable now timer k w on r = unchanged past (At m (Arrives seg) ∷ past) now m timer k w old_under old_sendings old_again old_since (omega arith) on r

  -- ---- one that is acceptable

  module _ (it : confirms past seg ≡ true) (fits : is_acceptable (host past) seg.acknowledgement ≡ true) where
    now_host : host (At m (Arrives seg) ∷ past) ≡ Confirmed seg.acknowledgement ∷ host past
    now_host = host_confirmed m past seg it

    now_sent : sent (host (At m (Arrives seg) ∷ past)) ≡ sent (host past)
    now_sent = ap sent now_host

    now_answered : answered (host (At m (Arrives seg) ∷ past)) ≡ true
    now_answered = ap answered now_host ∙ rw fits refl

    now_again : oldest_sent_again (At m (Arrives seg) ∷ past) ≡ 0
    now_again = when (answered (host (At m (Arrives seg) ∷ past))) (sent_again (At m (Arrives seg) ∷ past) (acked (host (At m (Arrives seg) ∷ past)))) (length (syn_sendings past)) now_answered
        ∙ when (confirms past seg && is_acceptable (host past) seg.acknowledgement) 0 (sent_again past (acked (host (At m (Arrives seg) ∷ past)))) (rw (it, fits) refl)
      where
        when : (b : Bool) (x y : ℕ) → b ≡ true → (if b then x else y) ≡ x
        when b x y is = rw is refl

    module _ (a : ℕ) (place : our_place (host past) seg.acknowledgement ≡ pos a) where
      low : (acked (host past) ≤ a) × (a ≤ sent (host past))
      low = by (acked (host past)) a (sent (host past)) (our_place (host past) seg.acknowledgement) place fits
        where
          in_nats : (k a n : ℕ) → (nat_le k a && nat_le a n) ≡ true → (k ≤ a) × (a ≤ n)
          in_nats k a n is = grind (arith, nat_tests)

          by : (k a n : ℕ) (z : ℤ) → z ≡ pos a → (int_le (pos k) z && int_le z (pos n)) ≡ true → (k ≤ a) × (a ≤ n)
          by k a n z same is = in_nats k a n (subst (λ (y : ℤ). (int_le (pos k) y && int_le y (pos n)) ≡ true) same is)

      not_past : not_past_sent (host past) seg.acknowledgement ≡ true
      not_past = rw place (nat_yes a (sent (host past)) low.1)
        where
          nat_yes : (a n : ℕ) → a ≤ n → nat_le a n ≡ true
          nat_yes a n is = grind (arith, nat_tests)

      now_acked : acked (host (At m (Arrives seg) ∷ past)) ≡ a
      now_acked = ap acked now_host ∙ by (not_past_sent (host past) seg.acknowledgement) (our_place (host past) seg.acknowledgement) not_past place
        where
          by : (b : Bool) (z : ℤ) → b ≡ true → z ≡ pos a → (if b then max (acked (host past)) (from_zero z) else acked (host past)) ≡ a
          by b z is at = rw (is, at) (omega (arith, low))

      now_under : is_under_way (At m (Arrives seg) ∷ past) ≡ nat_lt a (sent (host past))
      now_under = by (answered (host (At m (Arrives seg) ∷ past))) (acked (host (At m (Arrives seg) ∷ past))) (sent (host (At m (Arrives seg) ∷ past))) now_answered now_acked now_sent
        where
          by : (b : Bool) (x n : ℕ) → b ≡ true → x ≡ a → n ≡ sent (host past) → (if b then nat_lt x n else syn_is_out past) ≡ nat_lt a (sent (host past))
          by b x n is xs ns = rw (is, xs, ns) refl

      now_sendings : oldest_sendings (At m (Arrives seg) ∷ past) ≡ sendings past a
      now_sendings = by (answered (host (At m (Arrives seg) ∷ past))) (acked (host (At m (Arrives seg) ∷ past))) now_answered now_acked
        where
          by : (b : Bool) (x : ℕ) → b ≡ true → x ≡ a → (if b then sendings past x else syn_sendings past) ≡ sendings past a
          by b x is xs = rw (is, xs) refl

      now_at : acknowledged_at (At m (Arrives seg) ∷ past) ≡ (if nat_lt (acked (host past)) a then m else acknowledged_at past)
      now_at = by (confirms past seg) (not_past_sent (host past) seg.acknowledgement) (our_place (host past) seg.acknowledgement) it not_past place
        where
          by : (b c : Bool) (z : ℤ) → b ≡ true → c ≡ true → z ≡ pos a → (if b && c && int_lt (pos (acked (host past))) z then m else acknowledged_at past) ≡
              (if nat_lt (acked (host past)) a then m else acknowledged_at past)
          by b c z is ok at = rw (is, ok, at) refl

      -- the same place isn't acknowledged anew
      pub same_at : a ≡ acked (host past) → acknowledged_at (At m (Arrives seg) ∷ past) ≡ acknowledged_at past
      same_at same = now_at ∙ stays (acked (host past)) a same
        where
          nat_not : (k n : ℕ) → n ≡ k → nat_lt k n ≡ false
          nat_not k n is = grind (arith, nat_tests)

          stays : (k n : ℕ) → n ≡ k → (if nat_lt k n then m else acknowledged_at past) ≡ acknowledged_at past
          stays k n is = rw (nat_not k n is) refl

      -- what is sent isn't all acknowledged: the timer is set anew for what is the oldest then
      pub moves_on : (s : Settings) (w : ℕ) → IsLawful s past → Rises past → newest_moment past ≤ m → acked (host past) < a → a < sent (host past) → 1000 ≤ w → w ≤ 60000
          → Resends (At m (Arrives seg) ∷ past) m (Until (m + w)) 0 w
      moves_on s w l rises on more left short long =
          let by_now = sendings_by past rises a in
          let newest = newest_by (newest_moment past) (sendings past a) by_now in
          let first = first_by (newest_moment past) (sendings past a) by_now in
          let moved : acknowledged_at (At m (Arrives seg) ∷ past) ≡ m = now_at ∙ when (nat_lt (acked (host past)) a) m (acknowledged_at past) (nat_less (acked (host past)) a more) in
          let since : waits_since (At m (Arrives seg) ∷ past) ≡ m = ap (λ (l : List ℕ). max (newest_of l) (acknowledged_at (At m (Arrives seg) ∷ past))) now_sendings ∙ ap
          (λ (k : ℕ). max (newest_of (sendings past a)) k) moved ∙ omega (arith, newest, on) in
          set_anew (At m (Arrives seg) ∷ past) m (m + w) 0 w (omega arith) (now_under ∙ nat_less a (sent (host past)) left) (omega (arith, short)) long
          (same_running (sendings past a) (oldest_sendings (At m (Arrives seg) ∷ past)) 0 (oldest_sent_again (At m (Arrives seg) ∷ past)) m (waits_since (At m (Arrives seg) ∷ past)) 0 (m + w)
          now_sendings now_again since (moves (sendings past a) m w (sent_once s past l a left) (omega (arith, first, on)) short long))
        where
          newest_by : (now : ℕ) (ms : List ℕ) → AllBy now ms → newest_of ms ≤ now
          newest_by now [] all = omega arith
          newest_by now (t ∷ ms) all = all.0

          nat_less : (i n : ℕ) → i < n → nat_lt i n ≡ true
          nat_less i n is = grind (arith, nat_tests)

          when : (b : Bool) (x y : ℕ) → b ≡ true → (if b then x else y) ≡ x
          when b x y is = rw is refl

      -- all that was sent is acknowledged
      pub all_acked : (w : ℕ) (timer : Timer) → a ≡ sent (host past) → 1000 ≤ w → w ≤ 60000 → Resends (At m (Arrives seg) ∷ past) m timer 0 w
      all_acked w timer all short long = rests_now (At m (Arrives seg) ∷ past) m w timer (omega arith) (now_under ∙ same a (sent (host past)) all) short long
        where
          same : (i n : ℕ) → i ≡ n → nat_lt i n ≡ false
          same i n is = grind (arith, nat_tests)

      -- ---- the same acknowledgement came again

      module _ (ans : answered (host past) ≡ true) (same : a ≡ acked (host past)) where
        again_under : is_under_way (At m (Arrives seg) ∷ past) ≡ is_under_way past
        again_under = now_under ∙ ap (λ (x : ℕ). nat_lt x (sent (host past))) same ∙ sym (pick (answered (host past)) (nat_lt (acked (host past)) (sent (host past))) (syn_is_out past) ans)
          where
            pick : (b x y : Bool) → b ≡ true → (if b then x else y) ≡ x
            pick b x y is = rw is refl

        again_times : oldest_sendings (At m (Arrives seg) ∷ past) ≡ oldest_sendings past
        again_times = now_sendings ∙ ap (λ (x : ℕ). sendings past x) same ∙ sym (pick (answered (host past)) (sendings past (acked (host past))) (syn_sendings past) ans)
          where
            pick : (b : Bool) (x y : List ℕ) → b ≡ true → (if b then x else y) ≡ x
            pick b x y is = rw is refl

        again_since : waits_since (At m (Arrives seg) ∷ past) ≡ waits_since past
        again_since = ap (λ (l : List ℕ). max (newest_of l) (acknowledged_at (At m (Arrives seg) ∷ past))) again_times ∙ ap (λ (x : ℕ). max (newest_of (oldest_sendings past)) x) (same_at same)

        -- the count begins anew, and the timer runs on
        pub comes_again : (now : ℕ) (timer : Timer) (k w : ℕ) → now ≤ m → Resends past now timer k w → Resends (At m (Arrives seg) ∷ past) m timer 0 w
        comes_again now timer k w on r =
            let some = wait_low k in
            record {
              moment = omega arith;
              wait = omega (arith, r.wait, some);
              longest = r.longest;
              idle = λ is. refl;
              set = λ is off. r.set (sym again_under ∙ is) off;
              running = λ at is to. same_running (oldest_sendings past) (oldest_sendings (At m (Arrives seg) ∷ past)) 0 (oldest_sent_again (At m (Arrives seg) ∷ past))
                  (waits_since past) (waits_since (At m (Arrives seg) ∷ past)) 0 at
                  again_times now_again again_since (counts_anew (oldest_sendings past) (oldest_sent_again past) (waits_since past) k at (r.running at (sym again_under ∙ is) to));
              overdue = λ is over. same_overdue (oldest_sendings past) (oldest_sendings (At m (Arrives seg) ∷ past)) 0 (oldest_sent_again (At m (Arrives seg) ∷ past)) m 0 again_times now_again
                  (passes (oldest_sendings past) 0 now m 0 on (overdue_anew (oldest_sendings past) (oldest_sent_again past) now k (r.overdue (sym again_under ∙ is) over)));
            }

        -- and where the timer had expired, what is owed is the first that is counted
        pub comes_overdue : (now k w : ℕ) → now ≤ m → is_under_way past ≡ true → Resends past now Expired (suc k) w → Resends (At m (Arrives seg) ∷ past) m Expired 1 w
        comes_overdue now k w on under r = record {
          moment = omega arith;
          wait = omega (arith, r.wait, wait_grows k);
          longest = r.longest;
          idle = λ is. absurd (let not_it = sym (again_under ∙ under) ∙ is in cc);
          set = λ is off. absurd cc;
          running = λ at is to. absurd cc;
          overdue = λ is over. same_overdue (oldest_sendings past) (oldest_sendings (At m (Arrives seg) ∷ past)) 0 (oldest_sent_again (At m (Arrives seg) ∷ past)) m 1 again_times now_again
              (passes (oldest_sendings past) 0 now m 1 on (overdue_first (oldest_sendings past) (oldest_sent_again past) now k (r.overdue under refl)));
        }

    -- our SYN is acknowledged, before anything else went out
    pub answers_syn : (w : ℕ) (timer : Timer) → sent (host past) ≡ 0 → 1000 ≤ w → w ≤ 60000 → Resends (At m (Arrives seg) ∷ past) m timer 0 w
    answers_syn w timer none short long =
        rests_now (At m (Arrives seg) ∷ past) m w timer (omega arith) (by (answered (host (At m (Arrives seg) ∷ past))) (acked (host (At m (Arrives seg) ∷ past)))
        (sent (host (At m (Arrives seg) ∷ past))) now_answered (now_sent ∙ none)) short long
      where
        nat_not : (k : ℕ) → nat_lt k 0 ≡ false
        nat_not k = grind (arith, nat_tests)

        by : (b : Bool) (x n : ℕ) → b ≡ true → n ≡ 0 → (if b then nat_lt x n else syn_is_out past) ≡ false
        by b x n is ns = rw (is, ns) (nat_not x)
