-- Laws of one flow, in the words of both streams.
use Rattle.std.proofs.Common.{refl, ◌≡◌, ℕ, ◌+◌, ◌<◌, List, [], ◌∷◌, length, ◌⊎◌, inl, inr, arith, Bool, true, false, not, ◌&&◌, ◌||◌, if◌then◌else◌, IsTrue, nat_lt}
use Rattle.spec_flow.specs.Settings.{Settings}
use Rattle.spec_flow.specs.Event.{Story}
use Rattle.spec_flow.specs.Guest.{Up, EndsAt, front, written, has_ended, ackd, HasCome}
use Rattle.spec_flow.specs.Host.{end_is_out, Down, Ours, Got, GotEnd, Sent, Confirmed, Gave, got, got_end, sent, our_place}
use Rattle.spec_flow.specs.Dutiful.{must_wait_to_write, MayWaitToWrite}
use Rattle.std.proofs.lemmas.Bool.Decides.{nat_tests}
use Rattle.spec_flow.specs.Flow.{guest, host, is_connecting, is_closed}
use Rattle.spec_flow.specs.Lawful.{IsPrefixOf, IsLawful}
use Rattle.spec_flow.proofs.GuestLaws.{acknowledged_came, written_is_a_prefix}
use Rattle.spec_flow.proofs.HostLaws.{InOrder, end_of, end_place, in_order, nothing_is_left_out, sent_within}

-- ---- what must be waited for may be waited for

pub must_parts : (c k l e : Bool) → IsTrue (not c && (k || (l && not e))) → (c ≡ false) × (IsTrue k ⊎ (IsTrue l × (e ≡ false)))
must_parts false true l e is = (refl, inl refl)
must_parts false false true false is = (refl, inr (refl, refl))
must_parts false false true true is = absurd cc
must_parts false false false e is = absurd cc
must_parts true k l e is = absurd cc

nat_less : (m n : ℕ) → IsTrue (nat_lt m n) → m < n
nat_less m n is = grind (arith, nat_tests)

more_to_write : (past : List Up) → HasCome past (ackd past) → length (written past) < ackd past → has_ended past ≡ false → IsPrefixOf (written past) (front past)
    → (length (written past) < length (front past)) ⊎ (EndsAt past (length (front past)) × (has_ended past ≡ false))
more_to_write past (inl within) more not_ended p = inl (omega (arith, within, more))
more_to_write past (inr (end, is)) more not_ended p = inr (end, not_ended)

pub must_is_may : (s : Settings) (story : Story) → IsLawful s story → must_wait_to_write story ≡ true → MayWaitToWrite story
must_is_may s story l is =
    let parts = must_parts (is_closed story) (is_connecting story) (nat_lt (length (written (guest story))) (ackd (guest story))) (has_ended (guest story)) is in (
      parts.0,
      λ h. elim parts.1 [
        | inl connecting ↦ inl connecting
        | inr (more, not_ended) ↦ inr (more_to_write (guest story) (acknowledged_came s story l h) (nat_less (length (written (guest story))) (ackd (guest story)) more) not_ended
            (written_is_a_prefix s story l h))
      ],
    )

-- ---- our end comes after all octets

or_cases : (a b : Bool) → (a || b) ≡ true → (a ≡ true) ⊎ (b ≡ true)
or_cases true b is = inl refl
or_cases false b is = inr is

one_more : (e : Bool) (g : ℕ) → e ≡ true → g + (if e then 1 else 0) ≡ g + 1
one_more true g is = refl
one_more false g is = absurd cc

with_fin : (fin : Bool) (n : ℕ) → fin ≡ true → n + (if fin then 1 else 0) ≡ n + 1
with_fin true n is = refl
with_fin false n is = absurd cc

all_sent : (past : List Down) → InOrder past → end_is_out past ≡ true → (got_end past ≡ true) × (sent past ≡ length (got past) + 1)
all_sent [] l is = absurd cc
all_sent (Sent n xs fin ∷ past) l is =
    elim (or_cases fin (end_is_out past) is) [
      | inl here ↦
          let f = l.1 here in
          let place_end = end_of (our_place past n) l.0.0 (length xs + (if fin then 1 else 0)) l.0.1 in
          let last = end_place (our_place past n) l.0.0 (length xs) (length (got past)) l.0.1 f.1 in
          let before = sent_within past l.2 in
          let all = one_more (got_end past) (length (got past)) f.0 in
          let more = with_fin fin (length xs) here in
          (f.0, omega (arith, place_end, last, before, all, more))
      | inr there ↦
          let old = all_sent past l.2 there in
          let now = sent_within (Sent n xs fin ∷ past) l in
          let all = one_more (got_end past) (length (got past)) old.0 in
          (old.0, omega (arith, old.1, now, all))
    ]
all_sent (Got xs ∷ past) l is = let old = all_sent past l.1 is in let not_yet = l.0 in absurd cc
all_sent (GotEnd ∷ past) l is = let old = all_sent past l is in (refl, old.1)
all_sent (Ours f ∷ past) l is = all_sent past l is
all_sent (Confirmed n ∷ past) l is = all_sent past l is

-- Where our FIN is out, the host's end was read, and every octet that was read went out.
pub our_end_comes_after_all : (s : Settings) (story : Story) → IsLawful s story → end_is_out (host story) ≡ true
    → (got_end (host story) ≡ true) × ((i : ℕ) → i < length (got (host story)) → (x : ℕ) × Gave (host story) i x)
our_end_comes_after_all s story l is =
    let all = all_sent (host story) (in_order s story l) is in
    (all.0, λ i low. nothing_is_left_out s story l i (omega (arith, all.1, low)) low)
