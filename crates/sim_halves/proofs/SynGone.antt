-- The timer of our SYN, where it goes out.
use Rattle.std.proofs.Common.{refl, ◌≡◌, ℕ, ◌+◌, ◌≤◌, List, ◌∷◌, length, max, arith, Bool, true, false, not, ◌&&◌, ◌||◌, if◌then◌else◌, nat_lt, ap, sym, ◌∙◌, subst}
use Rattle.spec_flow.specs.Event.{Segment, Departs, At, Story, newest_moment}
use Rattle.spec_flow.specs.Host.{sent, acked, answered}
use Rattle.spec_flow.specs.Flow.{host, add_if, sendings, syn_sendings, syn_is_out, oldest_sendings, oldest_sent_again, sent_again, acknowledged_at, is_under_way, newest_of}
use Rattle.spec_flow.specs.Dutiful.{waits_since}
use Rattle.spec_flow.proofs.Sides.{host_opened}
use Rattle.sim_halves.specs.Resends.{Until, Expired, Resends, IsRunning, least_wait}
use Rattle.sim_halves.proofs.Timers.{starts, goes_again, goes_anyway}
use Rattle.sim_halves.proofs.Sendings.{since_by, Rises, syn_unsent, acknowledged_by}
use Rattle.sim_halves.proofs.Resent.{set_anew, same_running, same_overdue}

pick : (b x y : Bool) → b ≡ false → (if b then x else y) ≡ y
pick b x y is = rw is refl

pick_list : (b : Bool) (x y : List ℕ) → b ≡ false → (if b then x else y) ≡ y
pick_list b x y is = rw is refl

pick_count : (b : Bool) (x y : ℕ) → b ≡ false → (if b then x else y) ≡ y
pick_count b x y is = rw is refl

module _ (past : Story) (seg : Segment) (m : ℕ) (syn : seg.syn ≡ true) (rst : seg.rst ≡ false) (unanswered : answered (host past) ≡ false) where
  now_unanswered : answered (host (At m (Departs seg) ∷ past)) ≡ false
  now_unanswered = ap answered (host_opened m past seg syn) ∙ unanswered

  is_syn : (seg.syn && not seg.rst) ≡ true
  is_syn = rw (syn, rst) refl

  out_now : is_under_way (At m (Departs seg) ∷ past) ≡ true
  out_now = by (answered (host (At m (Departs seg) ∷ past))) (seg.syn && not seg.rst) now_unanswered is_syn
    where
      by : (b c : Bool) → b ≡ false → c ≡ true → (if b then nat_lt (acked (host (At m (Departs seg) ∷ past))) (sent (host (At m (Departs seg) ∷ past))) else (c || syn_is_out past)) ≡ true
      by b c is so = rw (is, so) refl

  times_now : oldest_sendings (At m (Departs seg) ∷ past) ≡ m ∷ syn_sendings past
  times_now = pick_list (answered (host (At m (Departs seg) ∷ past))) (sendings (At m (Departs seg) ∷ past) (acked (host (At m (Departs seg) ∷ past))))
      (syn_sendings (At m (Departs seg) ∷ past)) now_unanswered ∙ one (seg.syn && not seg.rst) is_syn
    where
      one : (b : Bool) → b ≡ true → add_if b m (syn_sendings past) ≡ m ∷ syn_sendings past
      one b is = rw is refl

  count_now : oldest_sent_again (At m (Departs seg) ∷ past) ≡ length (m ∷ syn_sendings past)
  count_now = pick_count (answered (host (At m (Departs seg) ∷ past))) (sent_again (At m (Departs seg) ∷ past) (acked (host (At m (Departs seg) ∷ past))))
      (length (syn_sendings (At m (Departs seg) ∷ past))) now_unanswered
      ∙ one (seg.syn && not seg.rst) is_syn
    where
      one : (b : Bool) → b ≡ true → length (add_if b m (syn_sendings past)) ≡ length (m ∷ syn_sendings past)
      one b is = rw is refl

  since_now : Rises past → newest_moment past ≤ m → waits_since (At m (Departs seg) ∷ past) ≡ m
  since_now rises on = let old = acknowledged_by past rises in ap (λ (l : List ℕ). max (newest_of l) (acknowledged_at past)) times_now ∙ omega (arith, old, on)

  set_now : (at k w : ℕ) → Rises past → newest_moment past ≤ m → least_wait k ≤ w → w ≤ 60000 → IsRunning (m ∷ syn_sendings past) (length (m ∷ syn_sendings past)) m k at
      → Resends (At m (Departs seg) ∷ past) m (Until at) k w
  set_now at k w rises on low high r =
      set_anew (At m (Departs seg) ∷ past) m at k w (omega arith) out_now low high
      (same_running (m ∷ syn_sendings past) (oldest_sendings (At m (Departs seg) ∷ past)) (length (m ∷ syn_sendings past)) (oldest_sent_again (At m (Departs seg) ∷ past)) m
      (waits_since (At m (Departs seg) ∷ past)) k at times_now count_now (since_now rises on) r)

  was_under : is_under_way past ≡ syn_is_out past
  was_under = pick (answered (host past)) (nat_lt (acked (host past)) (sent (host past))) (syn_is_out past) unanswered

  -- our SYN goes for the first time: the timer is set
  pub syn_goes : (w : ℕ) → syn_is_out past ≡ false → Rises past → newest_moment past ≤ m → 1000 ≤ w → w ≤ 60000 → Resends (At m (Departs seg) ∷ past) m (Until (m + w)) 0 w
  syn_goes w none rises on low high =
      set_now (m + w) 0 w rises on (omega (arith, low)) high
      (subst (λ (l : List ℕ). IsRunning (m ∷ l) (length (m ∷ l)) m 0 (m + w)) (sym (syn_unsent past none)) (starts 1 m w low high))

  -- it goes again after an expiry
  pub syn_again : (now k w : ℕ) → syn_is_out past ≡ true → Rises past → newest_moment past ≤ m → now ≤ m → Resends past now Expired k w → Resends (At m (Departs seg) ∷ past) m (Until (m + w)) k w
  syn_again now k w some rises new on r =
      set_now (m + w) k w rises new r.wait r.longest
      (goes_again (syn_sendings past) (length (syn_sendings past)) (length (m ∷ syn_sendings past)) now k m w (omega arith) r.wait r.longest on
      (same_overdue (oldest_sendings past) (syn_sendings past) (oldest_sent_again past) (length (syn_sendings past)) now k
      (sym (pick_list (answered (host past)) (sendings past (acked (host past))) (syn_sendings past) unanswered))
      (sym (pick_count (answered (host past)) (sent_again past (acked (host past))) (length (syn_sendings past)) unanswered))
      (r.overdue (was_under ∙ some) refl)))

  -- and while the timer runs, since the guest's SYN came again
  pub syn_anyway : (now at k w : ℕ) → syn_is_out past ≡ true → Rises past → newest_moment past ≤ m → Resends past now (Until at) k w → Resends (At m (Departs seg) ∷ past) m (Until (m + w)) k w
  syn_anyway now at k w some rises new r =
      let by_now = since_by past rises in
      set_now (m + w) k w rises new r.wait r.longest
      (goes_anyway (syn_sendings past) (length (syn_sendings past)) (length (m ∷ syn_sendings past)) (waits_since past) k at m w (omega arith) r.wait r.longest (omega (arith, new, by_now))
      (same_running (oldest_sendings past) (syn_sendings past) (oldest_sent_again past) (length (syn_sendings past)) (waits_since past) (waits_since past) k at
      (sym (pick_list (answered (host past)) (sendings past (acked (host past))) (syn_sendings past) unanswered))
      (sym (pick_count (answered (host past)) (sent_again past (acked (host past))) (length (syn_sendings past)) unanswered)) refl
      (r.running at (was_under ∙ some) refl)))
