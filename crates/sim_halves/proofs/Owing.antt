-- Whether a flow is done, or closed after a reset.
use Rattle.std.proofs.Common.{refl, ◌≡◌, ℕ, ◌+◌, ◌<◌, ◌≤◌, List, [], ◌∷◌, length, arith, Option, Some, None, Bool, true, false, ◌&&◌, ◌||◌, if◌then◌else◌, IsTrue, nat_le, nat_eq, ap, ◌∙◌}
use Rattle.std.proofs.Common.{inl, inr, ◌⊎◌}
use Rattle.std.specs.Option.{option_map_or}
use Rattle.std.proofs.lemmas.Bool.{cases_lt}
use Rattle.std.proofs.lemmas.Bool.Decides.{nat_tests}
use Rattle.seq_space.specs.Places.{number_of}
use Rattle.spec_flow.specs.Settings.{Settings}
use Rattle.spec_flow.specs.Event.{Segment, Arrives, At, Story}
use Rattle.spec_flow.specs.Guest.{ack_is_due, ackd}
use Rattle.spec_flow.specs.Host.{Down, Ours, Got, GotEnd, Sent, Confirmed, sent, acked, got, got_end, owned, answered, is_acceptable}
use Rattle.spec_flow.specs.Flow.{guest, host, their_number, our_number, next_number, oldest_sendings, sendings, syn_sendings}
use Rattle.spec_flow.specs.Close.{is_done, host_was_ended, our_fin_is_acked, fin_was_acknowledged, newest_rst, before, is_fatal, follows_reset, host_failed, gives_up}
use Rattle.spec_flow.specs.Lawful.{IsLawful}
use Rattle.spec_flow.proofs.HostLaws.{sent_is_read}
use Rattle.sim_halves.proofs.Heard.{old_acked}
use Rattle.sim_halves.proofs.Sendings.{nothing_past}

-- ---- a close that isn't after a fatal reset

no_and : (d : Bool) → (d && false) ≡ false
no_and true = refl
no_and false = refl

-- the newest event isn't a reset
pub no_reset : (past : Story) (directly : Bool) → newest_rst past ≡ None → follows_reset directly past ≡ false
no_reset past directly none = by (newest_rst past) none
  where
    by : (o : Option Segment) → o ≡ None → (directly && option_map_or (is_fatal (before past)) o false) ≡ false
    by o is = rw is (no_and directly)

pub failed_no_reset : (past : Story) → host_failed past ≡ true → newest_rst past ≡ None
failed_no_reset [] is = refl
failed_no_reset (At m (Arrives seg) ∷ past) is = absurd cc
failed_no_reset (At m _ ∷ past) is = refl

-- or it is one that isn't at the next number, with nothing due
pub not_fatal : (past : Story) (m : ℕ) (seg : Segment) (directly : Bool) (f last : ℕ) → their_number past ≡ Some f → number_of f (ackd (guest past)) ≡ last →
    nat_eq seg.number last ≡ false → ack_is_due (guest past) ≡ false
    → follows_reset directly (At m (Arrives seg) ∷ past) ≡ false
not_fatal past m seg directly f last known same apart none = ap (λ (b : Bool). directly && b) (by seg.rst) ∙ no_and directly
  where
    here : (o : Option ℕ) → o ≡ Some f
        → (elim o [ None ↦ seg.ack && nat_eq seg.acknowledgement (next_number (our_number past)) | Some g ↦ nat_eq seg.number (number_of g (ackd (guest past))) || ack_is_due (guest past) ]) ≡ false
    here o is = rw is (at (number_of f (ackd (guest past))) same)
      where
        at : (n : ℕ) → n ≡ last → (nat_eq seg.number n || ack_is_due (guest past)) ≡ false
        at n is = rw (is, apart) none

    by : (r : Bool) → option_map_or (is_fatal past) (if r then Some seg else None) false ≡ false
    by true = here (their_number past) known
    by false = refl

-- ---- a flow that isn't done

pub unended_not_done : (past : Story) → host_was_ended past ≡ false → is_done past ≡ false
unended_not_done past is = by (host_was_ended past) is
  where
    by : (b : Bool) → b ≡ false → (b && our_fin_is_acked past && fin_was_acknowledged past) ≡ false
    by b is = rw is refl

pub unacked_not_done : (past : Story) → our_fin_is_acked past ≡ false → is_done past ≡ false
unacked_not_done past is = by (host_was_ended past) (our_fin_is_acked past) (fin_was_acknowledged past) is
  where
    by : (a b c : Bool) → b ≡ false → (a && b && c) ≡ false
    by true true c is = absurd cc
    by true false c is = refl
    by false b c is = refl

nat_apart : (m n : ℕ) → m < n → nat_eq m n ≡ false
nat_apart m n low = grind (arith, nat_tests)

end_one : (e : Bool) → (if e then 1 else 0) ≤ 1
end_one true = omega arith
end_one false = omega arith

-- nothing of ours is acknowledged before our SYN is
unanswered_acked : (past : List Down) → answered past ≡ false → acked past ≡ 0
unanswered_acked [] is = refl
unanswered_acked (Confirmed n ∷ past) is = by (is_acceptable past n) refl is (unanswered_acked past)
  where
    by : (b : Bool) → is_acceptable past n ≡ b → (b || answered past) ≡ false → (answered past ≡ false → acked past ≡ 0) → acked (Confirmed n ∷ past) ≡ 0
    by true same is before = absurd cc
    by false same is before = old_acked past n same ∙ before is
unanswered_acked (Ours f ∷ past) is = unanswered_acked past is
unanswered_acked (Got xs ∷ past) is = unanswered_acked past is
unanswered_acked (GotEnd ∷ past) is = unanswered_acked past is
unanswered_acked (Sent n xs fin ∷ past) is = unanswered_acked past is

pub unanswered_not_done : (past : Story) → answered (host past) ≡ false → is_done past ≡ false
unanswered_not_done past is = let none = unanswered_acked (host past) is in unacked_not_done past (nat_apart (acked (host past)) (length (got (host past)) + 1) (omega (arith, none)))

first_of_three : (a b c : Bool) → IsTrue (a && b && c) → IsTrue a
first_of_three true b c is = refl
first_of_three false b c is = absurd cc

-- nor is one that is given up
pub given_up_not_done : (s : Settings) (past : Story) (now : ℕ) → IsLawful s past → IsTrue (gives_up now past) → is_done past ≡ false
given_up_not_done s past now l is = by (answered (host past)) refl
  where
    many : 9 ≤ length (oldest_sendings past)
    many = at_least (length (oldest_sendings past)) (first_of_three (nat_le 9 (length (oldest_sendings past))) _ _ is)
      where
        at_least : (n : ℕ) → IsTrue (nat_le 9 n) → 9 ≤ n
        at_least n is = grind (arith, nat_tests)

    by : (b : Bool) → answered (host past) ≡ b → is_done past ≡ false
    by false none = unanswered_not_done past none
    by true some = unacked_not_done past (nat_apart (acked (host past)) (length (got (host past)) + 1) (by_sent (cases_lt (acked (host past)) (sent (host past)))))
      where
        times : oldest_sendings past ≡ sendings past (acked (host past))
        times = pick (answered (host past)) some
          where
            pick : (b : Bool) → b ≡ true → (if b then sendings past (acked (host past)) else syn_sendings past) ≡ sendings past (acked (host past))
            pick b is = rw is refl

        all : sent (host past) ≤ owned (host past)
        all = sent_is_read s past l

        by_sent : (acked (host past) < sent (host past)) ⊎ (sent (host past) ≤ acked (host past)) → acked (host past) < length (got (host past)) + 1
        by_sent (inl more) = let e = end_one (got_end (host past)) in omega (arith, more, all, e)
        by_sent (inr low) = let none = nothing_past past (acked (host past)) low in let long = ap (λ (ms : List ℕ). length ms) (times ∙ none) in absurd (omega (arith, many, long))
