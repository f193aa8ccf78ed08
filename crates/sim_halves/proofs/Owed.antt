-- The reset that a flow owes.
use Rattle.std.proofs.Common.{refl, ◌≡◌, ℕ, ◌∷◌, arith, Option, Some, Bool, true, false, not, ◌&&◌, ◌||◌, if◌then◌else◌, IsTrue, nat_eq, ap, ◌∙◌}
use Rattle.std.proofs.lemmas.Bool.Decides.{nat_tests}
use Rattle.std.specs.Option.{unwrap_or}
use Rattle.seq_space.specs.Places.{number_of}
use Rattle.spec_flow.specs.Event.{Segment, Event, Departs, Closes, At, Story}
use Rattle.spec_flow.specs.Host.{sent}
use Rattle.spec_flow.specs.Flow.{host, their_number, our_number, next_number, is_accepted, syn_is_out}
use Rattle.spec_flow.specs.Close.{is_done, follows_reset, host_failed, gives_up, may_give_way, must_part, waits_too_long, owes_reset, is_owed_reset}
use Rattle.spec_flow.specs.Lawful.{ResetsWhereOwed, Send}
use Rattle.spec_flow.proofs.Sides.{our_first_is}
use Rattle.sim_halves.specs.Sends.{Outward, Keeps}
use Rattle.sim_halves.proofs.Owing.{failed_no_reset, no_reset}

-- ---- what a close owes

module _ (past : Story) (m : ℕ) (directly ended known : Bool) where
  owes_by : (d f h g c a : Bool) → is_done past ≡ d → follows_reset directly past ≡ f → must_part m past ≡ h → gives_up m past ≡ g → waits_too_long m past ≡ c →
      (is_accepted past && not (syn_is_out past)) ≡ a
      → owes_reset (At m (Closes directly ended known) ∷ past) ≡ (not d && not f && (h || (not ended && (g || c))) && not a)
  owes_by d f h g c a ds fs hs gs cs ts = by (is_done past) (follows_reset directly past) (must_part m past) (gives_up m past) (waits_too_long m past)
      (is_accepted past && not (syn_is_out past)) ds fs hs gs cs ts
    where
      by : (x y z u v w : Bool) → x ≡ d → y ≡ f → z ≡ h → u ≡ g → v ≡ c → w ≡ a → (not x && not y && (z || (not ended && (u || v))) && not w) ≡
          (not d && not f && (h || (not ended && (g || c))) && not a)
      by x y z u v w xs ys zs us vs ws = rw (xs, ys, zs, us, vs, ws) refl

  -- after a call that failed
  pub failed_owes : host_failed past ≡ true → is_done past ≡ false → (is_accepted past && not (syn_is_out past)) ≡ false → owes_reset (At m (Closes directly ended known) ∷ past) ≡ true
  failed_owes failed not_done sent_any = owes_by false false true (gives_up m past) (waits_too_long m past) false not_done
      (no_reset past directly (failed_no_reset past failed)) (ap (λ b. b || may_give_way m past) failed) refl refl sent_any

  -- after it gave way
  pub way_owes : IsTrue (may_give_way m past) → follows_reset directly past ≡ false → is_done past ≡ false → (is_accepted past && not (syn_is_out past)) ≡ false
      → owes_reset (At m (Closes directly ended known) ∷ past) ≡ true
  way_owes gives no_reset not_done sent_any =
      owes_by false false true (gives_up m past) (waits_too_long m past) false not_done no_reset (by (host_failed past) (may_give_way m past) gives) refl refl sent_any
    where
      by : (h g : Bool) → g ≡ true → (h || g) ≡ true
      by true g gs = refl
      by false g gs = gs

  -- after it was given up, or waited for too long
  pub late_owes : (IsTrue (gives_up m past || waits_too_long m past)) → follows_reset directly past ≡ false → ended ≡ false → is_done past ≡ false →
      (is_accepted past && not (syn_is_out past)) ≡ false
      → owes_reset (At m (Closes directly ended known) ∷ past) ≡ true
  late_owes late no_reset on not_done sent_any =
      owes_by false false (must_part m past) (gives_up m past) (waits_too_long m past) false not_done no_reset refl refl refl sent_any ∙ by (must_part m past) ended
      (gives_up m past || waits_too_long m past) on late
    where
      by : (h e g : Bool) → e ≡ false → g ≡ true → (not false && not false && (h || (not e && g)) && not false) ≡ true
      by true e g es gs = refl
      by false e g es gs = rw (es, gs) refl

  -- none after both ends passed, after the guest's reset, or where nothing of ours went out
  pub done_owes_none : is_done past ≡ true → owes_reset (At m (Closes directly ended known) ∷ past) ≡ false
  done_owes_none done = owes_by true (follows_reset directly past) (must_part m past) (gives_up m past) (waits_too_long m past)
      (is_accepted past && not (syn_is_out past)) done refl refl refl refl refl

  pub reset_owes_none : follows_reset directly past ≡ true → owes_reset (At m (Closes directly ended known) ∷ past) ≡ false
  reset_owes_none after = owes_by (is_done past) true (must_part m past) (gives_up m past) (waits_too_long m past) (is_accepted past && not (syn_is_out past)) refl after refl refl refl refl
      ∙ by (not (is_done past)) (must_part m past || (not ended && (gives_up m past || waits_too_long m past))) (not (is_accepted past && not (syn_is_out past)))
    where
      by : (d x y : Bool) → (d && not true && x && y) ≡ false
      by true x y = refl
      by false x y = refl

  pub unsent_owes_none : (is_accepted past && not (syn_is_out past)) ≡ true → owes_reset (At m (Closes directly ended known) ∷ past) ≡ false
  unsent_owes_none none =
      owes_by (is_done past) (follows_reset directly past) (must_part m past) (gives_up m past) (waits_too_long m past) true refl refl refl refl refl none
      ∙ by (not (is_done past)) (not (follows_reset directly past)) (must_part m past || (not ended && (gives_up m past || waits_too_long m past)))
    where
      by : (d f g : Bool) → (d && f && g && false) ≡ false
      by true true true = refl
      by true true false = refl
      by true false g = refl
      by false f g = refl

-- ---- until the reset went out

abbrev pub IsOther : Event → Type 0
IsOther (Closes directly ended known) = ⊥
IsOther (Departs seg) = ⊥
IsOther _ = Unit {0}

pub still_owes : (past : Story) (m : ℕ) (e : Event) → IsOther e → owes_reset (At m e ∷ past) ≡ owes_reset past
still_owes past m (Closes directly ended known) other = absurd other
still_owes past m (Departs seg) other = absurd other
still_owes past m e other = refl

pub plain_owes : (past : Story) (m : ℕ) (seg : Segment) → seg.rst ≡ false → owes_reset (At m (Departs seg) ∷ past) ≡ owes_reset past
plain_owes past m seg plain = by seg.rst (owes_reset past) plain
  where
    by : (r o : Bool) → r ≡ false → (o && not (r && seg.ack && not seg.syn && not seg.fin && (
        if syn_is_out past || is_accepted past then nat_eq seg.number (number_of (our_number past) (sent (host past)))
        else (nat_eq seg.number 0 && nat_eq seg.acknowledgement (next_number (unwrap_or (their_number past) 0)))))) ≡ o
    by r true is = rw is refl
    by r false is = refl

-- the reset, by the counts of the sending half, or where the guest's SYN wasn't answered
module _ (past : Story) (m : ℕ) (seg : Segment) (rst : seg.rst ≡ true) (ack : seg.ack ≡ true) (syn : seg.syn ≡ false) (fin : seg.fin ≡ false) where
  form : (n : Bool) → (if syn_is_out past || is_accepted past then nat_eq seg.number (number_of (our_number past) (sent (host past)))
      else (nat_eq seg.number 0 && nat_eq seg.acknowledgement (next_number (unwrap_or (their_number past) 0)))) ≡ n → is_owed_reset past seg ≡ n
  form n is = by seg.rst seg.ack seg.syn seg.fin _ rst ack syn fin is
    where
      by : (r a s f x : Bool) → r ≡ true → a ≡ true → s ≡ false → f ≡ false → x ≡ n → (r && a && not s && not f && x) ≡ n
      by r a s f x rs ts ss fs xs = rw (rs, ts, ss, fs, xs) refl

  nat_same : (a b : ℕ) → a ≡ b → nat_eq a b ≡ true
  nat_same a b is = grind (arith, nat_tests)

  pub next_is_owed : (o : Outward) → Keeps o (host past) → (syn_is_out past || is_accepted past) ≡ true → seg.number ≡ number_of o.first o.sent → is_owed_reset past seg ≡ true
  next_is_owed o k out is = form true (by (syn_is_out past || is_accepted past) (nat_eq seg.number (number_of (our_number past) (sent (host past))))
      (nat_eq seg.number 0 && nat_eq seg.acknowledgement (next_number (unwrap_or (their_number past) 0))) out (nat_same seg.number (number_of (our_number past) (sent (host past)))
      (is ∙ ap (λ (f : ℕ). number_of f o.sent) (k.first ∙ our_first_is past) ∙ ap (λ (n : ℕ). number_of (our_number past) n) k.sent)))
    where
      by : (b x y : Bool) → b ≡ true → x ≡ true → (if b then x else y) ≡ true
      by b x y is xs = rw (is, xs) refl

  pub first_is_owed : (f : ℕ) → their_number past ≡ Some f → (syn_is_out past || is_accepted past) ≡ false → seg.number ≡ 0 → seg.acknowledgement ≡ next_number f → is_owed_reset past seg ≡ true
  first_is_owed f known none zero_it is = form true (by (syn_is_out past || is_accepted past) (nat_eq seg.number (number_of (our_number past) (sent (host past))))
      (nat_eq seg.number 0) (nat_eq seg.acknowledgement (next_number (unwrap_or (their_number past) 0))) none (nat_same seg.number 0 zero_it) (at (their_number past) known))
    where
      at : (o : Option ℕ) → o ≡ Some f → nat_eq seg.acknowledgement (next_number (unwrap_or o 0)) ≡ true
      at o same = rw same (nat_same seg.acknowledgement (next_number f) is)

      by : (b x y z : Bool) → b ≡ false → y ≡ true → z ≡ true → (if b then x else (y && z)) ≡ true
      by b x y z is ys zs = rw (is, ys, zs) refl

  -- it may go out, and then nothing is owed
  pub reset_may_go : owes_reset past ≡ true → is_owed_reset past seg ≡ true → ResetsWhereOwed past (Send seg)
  reset_may_go owes is it = by (owes_reset past) (is_owed_reset past seg) owes is
    where
      by : (a b : Bool) → a ≡ true → b ≡ true → IsTrue (a && b)
      by a b x y = rw (x, y) refl

  pub reset_pays : is_owed_reset past seg ≡ true → owes_reset (At m (Departs seg) ∷ past) ≡ false
  reset_pays is = by (owes_reset past) (is_owed_reset past seg) is
    where
      by : (a b : Bool) → b ≡ true → (a && not b) ≡ false
      by true b x = rw x refl
      by false b x = refl
