-- What a flow knows of the two ends, event by event.
use Rattle.std.proofs.Common.{refl, ◌≡◌, ℕ, ◌+◌, ◌%◌, ◌^◌, ◌<◌, ◌≤◌, List, ◌∷◌, length, max, arith, Some, is_some, slice_get, Bool, true, false, not, ◌&&◌, ◌||◌, if◌then◌else◌, IsTrue, ℤ}
use Rattle.std.proofs.Common.{pos, negsuc, ◌+ℤ◌, ◌≤ℤ◌, int_le, nat_eq, inl, inr, ap, sym, ◌∙◌, subst, ◌⊎◌}
use Rattle.std.specs.List.{list_any}
use Rattle.std.proofs.lemmas.Int.{ints}
use Rattle.std.proofs.lemmas.Bool.Decides.{nat_tests}
use Rattle.seq_space.specs.Places.{number_of, place}
use Rattle.spec_flow.specs.Event.{Segment, Arrives, At, Story}
use Rattle.spec_flow.specs.Guest.{Came, top, first_of, ackd, ends, from_zero}
use Rattle.spec_flow.specs.Flow.{guest, their_number, is_closed, is_heeded}
use Rattle.spec_flow.specs.Close.{after_fins}
use Rattle.spec_flow.proofs.GuestLaws.{conforming_before}
use Rattle.sim_halves.specs.Received.{Has}
use Rattle.sim_halves.specs.Part.{Part}
use Rattle.sim_halves.specs.Ends.{Ends}
use Rattle.sim_halves.proofs.Reach.{octet_reaches, taken_reaches, fin_reaches, fin_number}

-- ---- the list of FINs only grows

more_of : (b : Bool) (n k : ℕ) (ks : List ℕ) → IsTrue (list_any (nat_eq n) ks) → IsTrue (list_any (nat_eq n) (if b then k ∷ ks else ks))
more_of true n k ks is = or_later (nat_eq n k) (list_any (nat_eq n) ks) is
  where
    or_later : (a b : Bool) → IsTrue b → IsTrue (a || b)
    or_later true b is = refl
    or_later false b is = is
more_of false n k ks is = is

pub fins_stay : (m : ℕ) (past : Story) (seg : Segment) (n : ℕ) → IsTrue (list_any (nat_eq n) (after_fins past)) → IsTrue (list_any (nat_eq n) (after_fins (At m (Arrives seg) ∷ past)))
fins_stay m past seg n is = more_of _ n ((seg.number + length seg.octets + 1) % 2 ^ 32) (after_fins past) is

int_yes : (a : ℕ) (z : ℤ) → pos a ≤ℤ z → int_le (pos a) z ≡ true
int_yes a (pos n) low = let is : a ≤ n = omega (arith, ints) in grind (arith, nat_tests)
int_yes a (negsuc n) low = absurd (omega (arith, ints))

one_of : (b : Bool) (n k : ℕ) (ks : List ℕ) → b ≡ true → k ≡ n → IsTrue (list_any (nat_eq n) (if b then k ∷ ks else ks))
one_of b n k ks is same = rw (is, same) (first n (list_any (nat_eq n) ks))
  where
    first : (n : ℕ) (b : Bool) → IsTrue (nat_eq n n || b)
    first n b = let same : nat_eq n n ≡ true = grind (arith, nat_tests) in rw same refl

-- ---- where no FIN and no acknowledgement is concerned

module _ (past : Story) (p : Part) (sure ours_first : Bool) (last m : ℕ) (seg : Segment) where
  -- a segment that is no part of the stream
  pub no_part : guest (At m (Arrives seg) ∷ past) ≡ guest past → Ends past p sure ours_first last → Ends (At m (Arrives seg) ∷ past) p sure ours_first last
  no_part same e = record {
    low = rw same e.low;
    kept_low = λ i x is. rw same (e.kept_low i x is);
    fin = λ is. fins_stay m past seg _ (e.fin is);
    was_sure = e.was_sure;
    is_sure = λ conforming is. e.is_sure (conforming_before (At m (Arrives seg)) past conforming) is;
    at = rw same e.at;
    order = e.order;
  }

  -- a segment that isn't heeded
  pub no_heed : guest (At m (Arrives seg) ∷ past) ≡ Came seg.number seg.octets seg.fin (is_heeded past seg) ∷ guest past → Ends past p sure ours_first last → Ends
      (At m (Arrives seg) ∷ past) p sure ours_first last
  no_heed same e = record {
    low = rw same (omega (arith, e.low));
    kept_low = λ i x is. let below = e.kept_low i x is in rw same (omega (arith, below));
    fin = λ is. fins_stay m past seg _ (e.fin is);
    was_sure = e.was_sure;
    is_sure = λ conforming is. e.is_sure (conforming_before (At m (Arrives seg)) past conforming) is;
    at = rw same e.at;
    order = e.order;
  }

or_cases : (a b : Bool) → (a || b) ≡ true → (a ≡ true) ⊎ (b ≡ true)
or_cases true b is = inl refl
or_cases false b is = inr is

not_both : {A : Type 0} (b : Bool) → b ≡ true → b ≡ false → A
not_both b yes_it no_it = let is : true ≡ false = sym yes_it ∙ no_it in absurd cc

-- ---- a segment that is heeded, of which the receiver takes the octets ys, and the end or not

module _ (past : Story) (p q : Part) (sure ours_first : Bool) (last m : ℕ) (seg : Segment) (ys : List ℕ) (took : Bool)
    (same : guest (At m (Arrives seg) ∷ past) ≡ Came seg.number seg.octets seg.fin (is_heeded past seg) ∷ guest past)
    (first : first_of (guest past) ≡ p.received.first) (q_first : q.received.first ≡ p.received.first) (q_taken : q.received.taken ≡ p.received.taken + length ys)
    (q_ended : q.received.ended ≡ (p.received.ended || took))
    (fits : seg.number < 2 ^ 32) (few : length seg.octets ≤ 2 ^ 31) (e : Ends past p sure ours_first last) where
  top_next : top (guest (At m (Arrives seg) ∷ past)) ≡ max (top (guest past)) (from_zero (place seg.number p.received.first (top (guest past)) +ℤ pos (length seg.octets)))
  top_next = ap top same ∙ ap (λ (f : ℕ). max (top (guest past)) (from_zero (place seg.number f (top (guest past)) +ℤ pos (length seg.octets)))) first

  has_low : (i x : ℕ) → Has p.kept (place seg.number p.received.first p.received.taken) seg.octets p.received.taken i x → i < top (guest (At m (Arrives seg) ∷ past))
  has_low i x (inl is) = let below = e.kept_low i x is in rw top_next (omega (arith, below))
  has_low i x (inr (low, at)) = rw top_next (octet_reaches seg.number p.received.first p.received.taken (top (guest past)) seg.octets i x fits e.low few at)

  low_next : ((k x : ℕ) → slice_get ys k ≡ Some x → Has p.kept (place seg.number p.received.first p.received.taken) seg.octets p.received.taken (p.received.taken + k) x)
      → q.received.taken ≤ top (guest (At m (Arrives seg) ∷ past))
  low_next new =
      let old = e.low in
      let before : p.received.taken ≤ top (guest (At m (Arrives seg) ∷ past)) = rw top_next (omega (arith, old)) in
      let all = taken_reaches ys p.received.taken (top (guest (At m (Arrives seg) ∷ past))) before (λ k x at. has_low (p.received.taken + k) x (new k x at)) in
      omega (arith, all, q_taken)

  fin_next : (not seg.syn && not seg.rst && is_some (their_number past) && not (is_closed past)) ≡ true → (p.received.ended ≡ true → length ys ≡ 0) →
      (p.received.ended ≡ false → ackd (guest past) ≤ p.received.taken)
      → (took ≡ true → IsTrue seg.fin × (p.received.ended ≡ false) × (place seg.number p.received.first p.received.taken +ℤ pos (length seg.octets) ≡ pos (p.received.taken + length ys)))
      → q.received.ended ≡ true → IsTrue (list_any (nat_eq (number_of q.received.first (q.received.taken + 1))) (after_fins (At m (Arrives seg) ∷ past)))
  fin_next counts none acked takes over =
      elim (or_cases p.received.ended took (sym q_ended ∙ over)) [
        | inl before ↦
            let still : number_of p.received.first (p.received.taken + 1) ≡ number_of q.received.first (q.received.taken + 1) = by_parts before in
            subst (λ (n : ℕ). IsTrue (list_any (nat_eq n) (after_fins (At m (Arrives seg) ∷ past)))) still (fins_stay m past seg (number_of p.received.first (p.received.taken + 1)) (e.fin before))
        | inr now ↦
            let t = takes now in
            let number : (seg.number + length seg.octets + 1) % 2 ^ 32 ≡ number_of q.received.first (q.received.taken + 1) =
            fin_number seg.number p.received.first p.received.taken (length seg.octets) (p.received.taken + length ys) fits t.2 ∙ same_number in
            let a = acked t.1 in
            let reaches = fin_reaches seg.number p.received.first p.received.taken (top (guest past)) (ackd (guest past)) (length seg.octets)
            (p.received.taken + length ys) fits e.low (omega (arith, a)) t.2 in
            one_of _ (number_of q.received.first (q.received.taken + 1)) ((seg.number + length seg.octets + 1) % 2 ^ 32) (after_fins past)
            (all_of seg.fin (not seg.syn) (not seg.rst) (is_some (their_number past)) (not (is_closed past)) (int_le (pos (ackd (guest past))) (ends (guest past) seg.number seg.octets)) t.0 counts
            (int_yes (ackd (guest past)) (ends (guest past) seg.number seg.octets) (rw first reaches))) number
      ]
    where
      all_of : (f a b c d g : Bool) → f ≡ true → (a && b && c && d) ≡ true → g ≡ true → (f && a && b && c && d && g) ≡ true
      all_of true true true true true true fs is gs = refl
      all_of f true true true true false fs is gs = absurd cc
      all_of f true true true false g fs is gs = absurd cc
      all_of f true true false d g fs is gs = absurd cc
      all_of f true false c d g fs is gs = absurd cc
      all_of f false b c d g fs is gs = absurd cc
      all_of false a b c d g fs is gs = absurd cc

      by_parts : p.received.ended ≡ true → number_of p.received.first (p.received.taken + 1) ≡ number_of q.received.first (q.received.taken + 1)
      by_parts before = let nothing = none before in rw (q_first, q_taken) (omega (arith, nothing))

      same_number : number_of p.received.first (p.received.taken + length ys + 1) ≡ number_of q.received.first (q.received.taken + 1)
      same_number = rw (q_first, q_taken) refl

  pub heeds : (not seg.syn && not seg.rst && is_some (their_number past) && not (is_closed past)) ≡ true
      → ((k x : ℕ) → slice_get ys k ≡ Some x → Has p.kept (place seg.number p.received.first p.received.taken) seg.octets p.received.taken (p.received.taken + k) x)
      → ((i x : ℕ) → q.kept i ≡ Some x → Has p.kept (place seg.number p.received.first p.received.taken) seg.octets p.received.taken i x)
      → (p.received.ended ≡ true → length ys ≡ 0) → (p.received.ended ≡ false → ackd (guest past) ≤ p.received.taken)
      → (took ≡ true → IsTrue seg.fin × (p.received.ended ≡ false) × (place seg.number p.received.first p.received.taken +ℤ pos (length seg.octets) ≡ pos (p.received.taken + length ys)))
      → Ends (At m (Arrives seg) ∷ past) q sure ours_first last
  heeds counts new is_kept none acked takes = record {
    low = low_next new;
    kept_low = λ i x is. has_low i x (is_kept i x is);
    fin = fin_next counts none acked takes;
    was_sure = e.was_sure;
    is_sure = λ conforming is. e.is_sure (conforming_before (At m (Arrives seg)) past conforming) is;
    at = rw same e.at;
    order = e.order;
  }
