-- The timer of what is under way, event by event.
use Rattle.std.proofs.Common.{refl, ◌≡◌, ℕ, suc, ◌*◌, ◌≤◌, List, ◌∷◌, min, arith, Bool, true, false, sym, ◌∙◌, subst}
use Rattle.spec_flow.specs.Event.{Event, Connects, Accepts, Arrives, Departs, At, Story, newest_moment}
use Rattle.spec_flow.specs.Flow.{oldest_sendings, oldest_sent_again, is_under_way}
use Rattle.spec_flow.specs.Dutiful.{waits_since}
use Rattle.sim_halves.specs.Resends.{Timer, Until, Expired, Resends, IsRunning, IsOverdue, least_wait}
use Rattle.sim_halves.proofs.Timers.{passes, expires, wait_doubled, owed_early, wait_low}
use Rattle.sim_halves.proofs.Sendings.{Rises, since_by}

-- ---- from one story to another

pub same_running : (times now_times : List ℕ) (again now_again since now_since k at : ℕ) → now_times ≡ times → now_again ≡ again → now_since ≡ since →
    IsRunning times again since k at → IsRunning now_times now_again now_since k at
same_running times now_times again now_again since now_since k at t a s r = rw (t, a, s) r

pub same_overdue : (times now_times : List ℕ) (again now_again now k : ℕ) → now_times ≡ times → now_again ≡ again → IsOverdue times again now k → IsOverdue now_times now_again now k
same_overdue times now_times again now_again now k t a o = rw (t, a) o

pub not_both : {A : Type 0} (b : Bool) → b ≡ true → b ≡ false → A
not_both b yes_it no_it = let is : true ≡ false = sym yes_it ∙ no_it in absurd cc

-- nothing that matters changed
pub unchanged : (past next : Story) (now later : ℕ) (timer : Timer) (k w : ℕ)
    → is_under_way next ≡ is_under_way past → oldest_sendings next ≡ oldest_sendings past → oldest_sent_again next ≡ oldest_sent_again past → waits_since next ≡ waits_since past
    → newest_moment next ≤ later → now ≤ later → Resends past now timer k w → Resends next later timer k w
unchanged past next now later timer k w u o a s new on r = record {
  moment = new;
  wait = r.wait;
  longest = r.longest;
  idle = λ is. r.idle (sym u ∙ is);
  set = λ is off. r.set (sym u ∙ is) off;
  running = λ at is to. same_running (oldest_sendings past) (oldest_sendings next) (oldest_sent_again past) (oldest_sent_again next) (waits_since past)
      (waits_since next) k at o a s (r.running at (sym u ∙ is) to);
  overdue = λ is over. passes (oldest_sendings next) (oldest_sent_again next) now later k on
      (same_overdue (oldest_sendings past) (oldest_sendings next) (oldest_sent_again past) (oldest_sent_again next) now k o a (r.overdue (sym u ∙ is) over));
}

pub until_same : (m n : ℕ) → Until m ≡ Until n → m ≡ n
until_same m n is = cc

-- the timer is set anew for what is under way
pub set_anew : (next : Story) (now at k w : ℕ) → newest_moment next ≤ now → is_under_way next ≡ true → least_wait k ≤ w → w ≤ 60000
    → IsRunning (oldest_sendings next) (oldest_sent_again next) (waits_since next) k at → Resends next now (Until at) k w
set_anew next now at k w new under low high r = record {
  moment = new;
  wait = low;
  longest = high;
  idle = λ is. not_both (is_under_way next) under is;
  set = λ is off. absurd cc;
  running = λ to is same. subst (λ (t : ℕ). IsRunning (oldest_sendings next) (oldest_sent_again next) (waits_since next) k t) (until_same at to same) r;
  overdue = λ is over. absurd cc;
}

-- nothing is under way
pub rests_now : (next : Story) (now w : ℕ) (timer : Timer) → newest_moment next ≤ now → is_under_way next ≡ false → 1000 ≤ w → w ≤ 60000 → Resends next now timer 0 w
rests_now next now w timer new idle low high = record {
  moment = new;
  wait = omega (arith, low);
  longest = high;
  idle = λ is. refl;
  set = λ is off. not_both (is_under_way next) is idle;
  running = λ at is to. not_both (is_under_way next) is idle;
  overdue = λ is over. not_both (is_under_way next) is idle;
}

-- ---- time passes, and the timer expires

pub later : (past : Story) (now then_ : ℕ) (timer : Timer) (k w : ℕ) → now ≤ then_ → Resends past now timer k w → Resends past then_ timer k w
later past now then_ timer k w on r = unchanged past past now then_ timer k w refl refl refl refl (omega (arith, r.moment, on)) on r

-- one resending more is counted where something is under way
abbrev pub counted : Bool → ℕ → ℕ
counted true k = suc k
counted false k = k

pub expires_now : (past : Story) (now at k w : ℕ) → at ≤ now → Resends past now (Until at) k w → Resends past now Expired (counted (is_under_way past) k) (min 60000 (2 * w))
expires_now past now at k w due r = by (is_under_way past) refl
  where
    by : (b : Bool) → is_under_way past ≡ b → Resends past now Expired (counted b k) (min 60000 (2 * w))
    by true under = record {
      moment = r.moment;
      wait = wait_doubled k w r.wait;
      longest = omega arith;
      idle = λ is. not_both (is_under_way past) under is;
      set = λ is off. absurd cc;
      running = λ to is same. absurd cc;
      overdue = λ is over. expires (oldest_sendings past) (oldest_sent_again past) (waits_since past) k at now (r.running at under refl) due;
    }
    by false idle =
        let none = r.idle idle in
        let low : 1000 ≤ w = omega (arith, r.wait, none, wait_low k) in
        subst (λ (j : ℕ). Resends past now Expired j (min 60000 (2 * w))) (sym none) (rests_now past now (min 60000 (2 * w)) Expired r.moment idle (omega (arith, low)) (omega arith))

-- what is under way is owed again before the timer expires, as where the guest asks for it by the same acknowledgement three times: it isn't counted
pub owed_again : (past : Story) (now at k w : ℕ) → Rises past → Resends past now (Until at) k w → Resends past now Expired k w
owed_again past now at k w rises r =
    let late = since_by past rises in
    record {
      moment = r.moment;
      wait = r.wait;
      longest = r.longest;
      idle = r.idle;
      set = λ is off. absurd cc;
      running = λ to is same. absurd cc;
      overdue = λ is over. owed_early (oldest_sendings past) (oldest_sent_again past) (waits_since past) k at now (r.running at is refl) (omega (arith, late, r.moment));
    }

-- ---- events that aren't segments

abbrev pub IsQuiet : Event → Type 0
IsQuiet (Connects ours syn) = ⊥
IsQuiet (Accepts ours) = ⊥
IsQuiet (Arrives seg) = ⊥
IsQuiet (Departs seg) = ⊥
IsQuiet _ = Unit {0}

pub quiet : (past : Story) (m : ℕ) (e : Event) (now : ℕ) (timer : Timer) (k w : ℕ) → IsQuiet e → now ≤ m → Resends past now timer k w → Resends (At m e ∷ past) m timer k w
quiet past m (Connects ours syn) now timer k w q on r = absurd q
quiet past m (Accepts ours) now timer k w q on r = absurd q
quiet past m (Arrives seg) now timer k w q on r = absurd q
quiet past m (Departs seg) now timer k w q on r = absurd q
quiet past m e now timer k w q on r = unchanged past (At m e ∷ past) now m timer k w refl refl refl refl (omega arith) on r
