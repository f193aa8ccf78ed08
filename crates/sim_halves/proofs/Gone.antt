-- The timer of what is under way, where a segment goes out.
use Rattle.std.proofs.Common.{refl, ◌≡◌, ℕ, ◌+◌, ◌<◌, ◌≤◌, List, ◌∷◌, length, max, arith, Bool, true, false, not, ◌&&◌, ◌||◌, if◌then◌else◌, ℤ, pos, ◌+ℤ◌, int_le, int_lt, nat_le, nat_lt}
use Rattle.std.proofs.Common.{ap, sym, ◌∙◌, subst}
use Rattle.std.proofs.lemmas.Bool.Decides.{nat_tests}
use Rattle.spec_flow.specs.Event.{Segment, Departs, At, Story, newest_moment}
use Rattle.spec_flow.specs.Guest.{from_zero}
use Rattle.spec_flow.specs.Host.{Sent, sent, acked, answered, our_place}
use Rattle.spec_flow.specs.Flow.{host, holds, add_if, sendings, syn_sendings, syn_is_out, oldest_sendings, oldest_sent_again, sent_again, acknowledged_at, is_under_way, newest_of}
use Rattle.spec_flow.specs.Dutiful.{waits_since}
use Rattle.spec_flow.proofs.Sides.{host_sent}
use Rattle.sim_halves.specs.Resends.{Timer, Until, Expired, Resends, IsRunning, least_wait}
use Rattle.sim_halves.proofs.Timers.{starts, goes_again, goes_anyway, wait_low}
use Rattle.sim_halves.proofs.Sendings.{Rises, nothing_past, acknowledged_by, since_by}
use Rattle.sim_halves.proofs.Resent.{unchanged, set_anew, same_running, same_overdue}

nat_no : (i n : ℕ) → n ≤ i → nat_lt i n ≡ false
nat_no i n low = grind (arith, nat_tests)

nat_yes : (i n : ℕ) → i < n → nat_lt i n ≡ true
nat_yes i n low = grind (arith, nat_tests)

nat_low : (i n : ℕ) → i ≤ n → nat_le i n ≡ true
nat_low i n low = grind (arith, nat_tests)

nat_high : (i n : ℕ) → n < i → nat_le i n ≡ false
nat_high i n low = grind (arith, nat_tests)

pick : (b x y : Bool) → b ≡ true → (if b then x else y) ≡ x
pick b x y is = rw is refl

pick_list : (b : Bool) (x y : List ℕ) → b ≡ true → (if b then x else y) ≡ x
pick_list b x y is = rw is refl

pick_count : (b : Bool) (x y : ℕ) → b ≡ true → (if b then x else y) ≡ x
pick_count b x y is = rw is refl

module _ (past : Story) (seg : Segment) (m : ℕ) where
  -- ---- a reset changes nothing

  pub reset_goes : (now : ℕ) (timer : Timer) (k w : ℕ) → seg.rst ≡ true → seg.syn ≡ false → now ≤ m → Resends past now timer k w → Resends (At m (Departs seg) ∷ past) m timer k w
  reset_goes now timer k w rst syn on r = unchanged past (At m (Departs seg) ∷ past) now m timer k w (rw (syn, rst) refl) (rw (syn, rst) refl)
      (rw (syn, rst) (ap (λ (x : ℕ). if answered (host past) then x else length (syn_sendings past)) (none_more (sent_again past (acked (host past)))))) (rw (syn, rst) refl) (omega arith) on r
    where
      none_more : (n : ℕ) → 0 + n ≡ n
      none_more n = omega arith

  -- ---- a segment without SYN, at a place

  module _ (syn : seg.syn ≡ false) (rst : seg.rst ≡ false) (o e : ℕ) (place : our_place (host past) seg.number ≡ pos o) (long : length seg.octets + (if seg.fin then 1 else 0) ≡ e) where
    went : host (At m (Departs seg) ∷ past) ≡ Sent seg.number seg.octets seg.fin ∷ host past
    went = host_sent m past seg syn rst

    went_sent : sent (host (At m (Departs seg) ∷ past)) ≡ max (sent (host past)) (o + e)
    went_sent = ap sent went ∙ by (our_place (host past) seg.number) (length seg.octets + (if seg.fin then 1 else 0)) place long
      where
        by : (z : ℤ) (n : ℕ) → z ≡ pos o → n ≡ e → max (sent (host past)) (from_zero (z +ℤ pos n)) ≡ max (sent (host past)) (o + e)
        by z n is ns = rw (is, ns) refl

    it_holds : (i : ℕ) → holds past seg i ≡ (nat_le o i && nat_lt i (o + e))
    it_holds i = by seg.syn seg.rst (our_place (host past) seg.number) (length seg.octets + (if seg.fin then 1 else 0)) syn rst place long
      where
        by : (b r : Bool) (z : ℤ) (n : ℕ) → b ≡ false → r ≡ false → z ≡ pos o → n ≡ e → (not b && not r && int_le z (pos i) && int_lt (pos i) (z +ℤ pos n)) ≡ (nat_le o i && nat_lt i (o + e))
        by b r z n bs rs is ns = rw (bs, rs, is, ns) refl

    went_out : syn_is_out (At m (Departs seg) ∷ past) ≡ syn_is_out past
    went_out = by seg.syn syn
      where
        by : (b : Bool) → b ≡ false → ((b && not seg.rst) || syn_is_out past) ≡ syn_is_out past
        by b is = rw is refl

    went_syns : syn_sendings (At m (Departs seg) ∷ past) ≡ syn_sendings past
    went_syns = by seg.syn syn
      where
        by : (b : Bool) → b ≡ false → add_if (b && not seg.rst) m (syn_sendings past) ≡ syn_sendings past
        by b is = rw is refl

    -- it holds not the oldest number: the times are the same
    module _ (apart : (nat_le o (acked (host past)) && nat_lt (acked (host past)) (o + e)) ≡ false) (same : is_under_way (At m (Departs seg) ∷ past) ≡ is_under_way past) where
      apart_sendings : oldest_sendings (At m (Departs seg) ∷ past) ≡ oldest_sendings past
      apart_sendings = by (answered (host (At m (Departs seg) ∷ past))) (acked (host (At m (Departs seg) ∷ past))) (syn_sendings (At m (Departs seg) ∷ past)) (ap answered went)
          (ap acked went) went_syns
        where
          none : (b : Bool) → b ≡ false → add_if b m (sendings past (acked (host past))) ≡ sendings past (acked (host past))
          none b is = rw is refl

          by : (b : Bool) (x : ℕ) (ms : List ℕ) → b ≡ answered (host past) → x ≡ acked (host past) → ms ≡ syn_sendings past
              → (if b then sendings (At m (Departs seg) ∷ past) x else ms) ≡ (if answered (host past) then sendings past (acked (host past)) else syn_sendings past)
          by b x ms bs xs is = rw (bs, xs, is) (ap (λ (l : List ℕ). if answered (host past) then l else syn_sendings past)
              (none (holds past seg (acked (host past))) (it_holds (acked (host past)) ∙ apart)))

      apart_again : oldest_sent_again (At m (Departs seg) ∷ past) ≡ oldest_sent_again past
      apart_again = by (answered (host (At m (Departs seg) ∷ past))) (acked (host (At m (Departs seg) ∷ past))) (syn_sendings (At m (Departs seg) ∷ past)) (ap answered went) (ap acked went) went_syns
        where
          none : (b : Bool) → b ≡ false → (if b then 1 else 0) + sent_again past (acked (host past)) ≡ sent_again past (acked (host past))
          none b is = rw is (omega arith)

          by : (b : Bool) (x : ℕ) (ms : List ℕ) → b ≡ answered (host past) → x ≡ acked (host past) → ms ≡ syn_sendings past
              → (if b then sent_again (At m (Departs seg) ∷ past) x else length ms) ≡ (if answered (host past) then sent_again past (acked (host past)) else length (syn_sendings past))
          by b x ms bs xs is = rw (bs, xs, is) (ap (λ (l : ℕ). if answered (host past) then l else length (syn_sendings past))
              (none (holds past seg (acked (host past))) (it_holds (acked (host past)) ∙ apart)))

      pub apart_goes : (now : ℕ) (timer : Timer) (k w : ℕ) → now ≤ m → Resends past now timer k w → Resends (At m (Departs seg) ∷ past) m timer k w
      apart_goes now timer k w on r = unchanged past (At m (Departs seg) ∷ past) now m timer k w same apart_sendings apart_again
          (ap (λ (l : List ℕ). max (newest_of l) (acknowledged_at past)) apart_sendings) (omega arith) on r

    -- nothing but an acknowledgement goes out
    pub bare_goes : (now : ℕ) (timer : Timer) (k w : ℕ) → e ≡ 0 → o ≤ sent (host past) → now ≤ m → Resends past now timer k w → Resends (At m (Departs seg) ∷ past) m timer k w
    bare_goes now timer k w none low on r = apart_goes (apart o (acked (host past)) e none) same now timer k w on r
      where
        apart : (o i e : ℕ) → e ≡ 0 → (nat_le o i && nat_lt i (o + e)) ≡ false
        apart o i e none = grind (arith, nat_tests)

        by : (b : Bool) (x n : ℕ) (out : Bool) → b ≡ answered (host past) → x ≡ acked (host past) → n ≡ sent (host past) → out ≡ syn_is_out past → (if b then nat_lt x n else out) ≡ is_under_way past
        by b x n out bs xs ns is = rw (bs, xs, ns, is) refl

        same : is_under_way (At m (Departs seg) ∷ past) ≡ is_under_way past
        same = by (answered (host (At m (Departs seg) ∷ past))) (acked (host (At m (Departs seg) ∷ past))) (sent (host (At m (Departs seg) ∷ past))) (syn_is_out (At m (Departs seg) ∷ past))
            (ap answered went) (ap acked went) (went_sent ∙ omega (arith, none, low)) went_out

    module _ (ans : answered (host past) ≡ true) where
      was_under : is_under_way past ≡ nat_lt (acked (host past)) (sent (host past))
      was_under = pick (answered (host past)) (nat_lt (acked (host past)) (sent (host past))) (syn_is_out past) ans

      now_under : is_under_way (At m (Departs seg) ∷ past) ≡ nat_lt (acked (host past)) (max (sent (host past)) (o + e))
      now_under = by (answered (host (At m (Departs seg) ∷ past))) (acked (host (At m (Departs seg) ∷ past))) (sent (host (At m (Departs seg) ∷ past))) (ap answered went ∙ ans)
          (ap acked went) went_sent
        where
          by : (b : Bool) (x n : ℕ) → b ≡ true → x ≡ acked (host past) → n ≡ max (sent (host past)) (o + e)
              → (if b then nat_lt x n else syn_is_out (At m (Departs seg) ∷ past)) ≡ nat_lt (acked (host past)) (max (sent (host past)) (o + e))
          by b x n is xs ns = rw (is, xs, ns) refl

      -- octets or an end go for the first time, after others that are under way: the timer runs on
      pub next_goes : (now : ℕ) (timer : Timer) (k w : ℕ) → acked (host past) < o → o ≤ sent (host past) → now ≤ m → Resends past now timer k w → Resends (At m (Departs seg) ∷ past) m timer k w
      next_goes now timer k w more low on r =
          apart_goes (apart o (acked (host past)) e more)
          (now_under ∙ nat_yes (acked (host past)) (max (sent (host past)) (o + e)) (omega (arith, more, low)) ∙ sym (was_under ∙ nat_yes (acked (host past)) (sent (host past))
          (omega (arith, more, low))))
          now timer k w on r
        where
          apart : (o i e : ℕ) → i < o → (nat_le o i && nat_lt i (o + e)) ≡ false
          apart o i e more = grind (arith, nat_tests)

      -- ---- it holds the oldest number

      module _ (within : o ≤ acked (host past)) (inside : acked (host past) < o + e) where
        oldest_held : holds past seg (acked (host past)) ≡ true
        oldest_held = it_holds (acked (host past)) ∙ yes_both o (acked (host past)) (o + e) within inside
          where
            yes_both : (o i n : ℕ) → o ≤ i → i < n → (nat_le o i && nat_lt i n) ≡ true
            yes_both o i n low high = grind (arith, nat_tests)

        held_under : is_under_way (At m (Departs seg) ∷ past) ≡ true
        held_under = now_under ∙ nat_yes (acked (host past)) (max (sent (host past)) (o + e)) (omega (arith, inside))

        held_sendings : oldest_sendings (At m (Departs seg) ∷ past) ≡ m ∷ sendings past (acked (host past))
        held_sendings = by (answered (host (At m (Departs seg) ∷ past))) (acked (host (At m (Departs seg) ∷ past))) (ap answered went ∙ ans) (ap acked went)
          where
            one : (b : Bool) → b ≡ true → add_if b m (sendings past (acked (host past))) ≡ m ∷ sendings past (acked (host past))
            one b is = rw is refl

            by : (b : Bool) (x : ℕ) → b ≡ true → x ≡ acked (host past) → (if b then sendings (At m (Departs seg) ∷ past) x else syn_sendings (At m (Departs seg) ∷ past)) ≡ m
                ∷ sendings past (acked (host past))
            by b x is xs = rw (is, xs) (one (holds past seg (acked (host past))) oldest_held)

        held_again : oldest_sent_again (At m (Departs seg) ∷ past) ≡ 1 + sent_again past (acked (host past))
        held_again = by (answered (host (At m (Departs seg) ∷ past))) (acked (host (At m (Departs seg) ∷ past))) (ap answered went ∙ ans) (ap acked went)
          where
            one : (b : Bool) → b ≡ true → (if b then 1 else 0) + sent_again past (acked (host past)) ≡ 1 + sent_again past (acked (host past))
            one b is = rw is refl

            by : (b : Bool) (x : ℕ) → b ≡ true → x ≡ acked (host past) → (if b then sent_again (At m (Departs seg) ∷ past) x else length
                (syn_sendings (At m (Departs seg) ∷ past))) ≡ 1 + sent_again past (acked (host past))
            by b x is xs = rw (is, xs) (one (holds past seg (acked (host past))) oldest_held)

        held_since : Rises past → newest_moment past ≤ m → waits_since (At m (Departs seg) ∷ past) ≡ m
        held_since rises on = let old = acknowledged_by past rises in ap (λ (l : List ℕ). max (newest_of l) (acknowledged_at past)) held_sendings ∙ omega (arith, old, on)

        held : (at k w : ℕ) → Rises past → newest_moment past ≤ m → least_wait k ≤ w → w ≤ 60000
            → IsRunning (m ∷ sendings past (acked (host past))) (1 + sent_again past (acked (host past))) m k at → Resends (At m (Departs seg) ∷ past) m (Until at) k w
        held at k w rises on low high r =
            set_anew (At m (Departs seg) ∷ past) m at k w (omega arith) held_under low high
            (same_running (m ∷ sendings past (acked (host past))) (oldest_sendings (At m (Departs seg) ∷ past)) (1 + sent_again past (acked (host past)))
            (oldest_sent_again (At m (Departs seg) ∷ past)) m (waits_since (At m (Departs seg) ∷ past)) k at
            held_sendings held_again (held_since rises on) r)

        -- octets or an end go where nothing is under way: the timer is set
        pub first_goes : (now : ℕ) (timer : Timer) (k w : ℕ) → acked (host past) ≡ sent (host past) → Rises past → newest_moment past ≤ m → Resends past now timer k w → Resends
            (At m (Departs seg) ∷ past) m (Until (m + w)) 0 w
        first_goes now timer k w none rises on r =
            let zero_k : k ≡ 0 = r.idle (was_under ∙ nat_no (acked (host past)) (sent (host past)) (omega (arith, none))) in
            let low : 1000 ≤ w = omega (arith, r.wait, zero_k, wait_low k) in
            held (m + w) 0 w rises on (omega (arith, low)) r.longest
            (subst (λ (l : List ℕ). IsRunning (m ∷ l) (1 + sent_again past (acked (host past))) m 0 (m + w)) (sym (nothing_past past (acked (host past)) (omega (arith, none))))
            (starts (1 + sent_again past (acked (host past))) m w low r.longest))

        -- the oldest goes again after an expiry: the timer is set
        pub oldest_goes : (now k w : ℕ) → acked (host past) < sent (host past) → Rises past → newest_moment past ≤ m → now ≤ m → Resends past now Expired k w → Resends
            (At m (Departs seg) ∷ past) m (Until (m + w)) k w
        oldest_goes now k w some rises new on r =
            let o_is = r.overdue (was_under ∙ nat_yes (acked (host past)) (sent (host past)) some) refl in
            held (m + w) k w rises new r.wait r.longest
            (goes_again (sendings past (acked (host past))) (sent_again past (acked (host past))) (1 + sent_again past (acked (host past))) now k m w (omega arith) r.wait r.longest on
            (same_overdue (oldest_sendings past) (sendings past (acked (host past))) (oldest_sent_again past) (sent_again past (acked (host past))) now k
            (sym (pick_list (answered (host past)) (sendings past (acked (host past))) (syn_sendings past) ans))
            (sym (pick_count (answered (host past)) (sent_again past (acked (host past))) (length (syn_sendings past)) ans)) o_is))

        -- and while the timer runs, for another cause: it is set anew, and the count stays
        pub oldest_goes_anyway : (now at k w : ℕ) → acked (host past) < sent (host past) → Rises past → newest_moment past ≤ m → Resends past now (Until at) k w → Resends
            (At m (Departs seg) ∷ past) m (Until (m + w)) k w
        oldest_goes_anyway now at k w some rises new r =
            let by_now = since_by past rises in
            held (m + w) k w rises new r.wait r.longest
            (goes_anyway (sendings past (acked (host past))) (sent_again past (acked (host past))) (1 + sent_again past (acked (host past))) (waits_since past) k at m w
            (omega arith) r.wait r.longest (omega (arith, new, by_now))
            (same_running (oldest_sendings past) (sendings past (acked (host past))) (oldest_sent_again past) (sent_again past (acked (host past))) (waits_since past) (waits_since past) k at
            (sym (pick_list (answered (host past)) (sendings past (acked (host past))) (syn_sendings past) ans))
            (sym (pick_count (answered (host past)) (sent_again past (acked (host past))) (length (syn_sendings past)) ans)) refl
            (r.running at (was_under ∙ nat_yes (acked (host past)) (sent (host past)) some) refl)))
