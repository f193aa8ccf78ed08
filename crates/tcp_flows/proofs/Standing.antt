-- The wants that stand for the flows, where the flow of one slot changes.
use Rattle.std.proofs.Common.{refl, ◌≡◌, ℕ, ◌+◌, ◌&&◌, ◌||◌, Bool, true, false, List, [], ◌∷◌, length, set, Some, slice_get, inl, inr, ap, sym, ◌∙◌, subst, arith}
use Rattle.std.specs.Prelude.{Contains}
use Rattle.sim_flows.specs.Only.{one_if}
use Rattle.sim_flows.proofs.Seats.{differ, same_or_not}
use Rattle.sim_flows.proofs.Tables.{get_set_at, get_set_other, get_set_same}
use Rattle.poll_list.specs.declared.Want.{Want}
use Rattle.poll_list.specs.declared.Who.TheVariants.{Tcp as OnTcp}
use Rattle.flow_splice.specs.Splice.{Splice, is_open}
use Rattle.flow_splice.specs.Wants.{may_read, may_write, reads, writes}
use Rattle.sim_flows.specs.Core.{number_of}
use Rattle.sim_flows.proofs.Options.{some_same, true_false}
use Rattle.tcp_flows.specs.Reading.{is_wanted, want_of}
use Rattle.tcp_flows.specs.Rows.{AreStanding, count, waits_of}
use Rattle.rules_flow.specs.Choices.{same_way, same_ways}
use Rattle.tcp_flows.specs.Standing.{listed, number_in, wants_after, with_wants}
use Rattle.tcp_flows.proofs.Following.{count_set}
use Rattle.tcp_flows.proofs.Placing.{after_other, after_same, first_has, has_only, has_these, has_yet, listed_for, listed_none, listed_some, long_none, long_one, none_has, only_one, order_then}

-- ---- one flow

-- a flow for which something is waited is open
pub wanted_open : (p : Splice) → is_wanted p ≡ true → is_open p ≡ true
wanted_open p is = by (is_open p) refl
  where
    by : (b : Bool) → is_open p ≡ b → is_open p ≡ true
    by true here = here
    by false shut = absurd (true_false (sym is ∙ ap (λ b. (b && may_read p) || (b && may_write p)) shut))

-- for one whose socket isn't open nothing is
pub shut_unwanted : (p : Splice) → is_open p ≡ false → is_wanted p ≡ false
shut_unwanted p shut = ap (λ b. (b && may_read p) || (b && may_write p)) shut

-- and so for two of them the same
pub shut_same : (p q : Splice) → is_open p ≡ false → is_open q ≡ false → same_ways (waits_of p) (waits_of q) ≡ true
shut_same p q was is =
    ap (λ b. same_way (b && may_read p) (reads q) && same_way (b && may_write p) (writes q)) was
    ∙ ap (λ b. same_way false (b && may_read q) && same_way false (b && may_write q)) is

same_bit : (a b : Bool) → same_way a b ≡ true → b ≡ a
same_bit true b is = is
same_bit false true is = absurd (true_false (sym is))
same_bit false false is = refl

both : (a b : Bool) → (a && b) ≡ true → (a ≡ true) × (b ≡ true)
both true b is = (refl, is)
both false b is = absurd (true_false (sym is))

module _ (p q : Splice) (same : same_ways (waits_of p) (waits_of q) ≡ true) where
  reads_same : reads q ≡ reads p
  reads_same = same_bit (reads p) (reads q) (both (same_way (reads p) (reads q)) (same_way (writes p) (writes q)) same).0

  writes_same : writes q ≡ writes p
  writes_same = same_bit (writes p) (writes q) (both (same_way (reads p) (reads q)) (same_way (writes p) (writes q)) same).1

  wanted_same : is_wanted q ≡ is_wanted p
  wanted_same = ap (λ b. b || writes q) reads_same ∙ ap (λ b. reads p || b) writes_same

  want_same : number_of p ≡ number_of q → want_of q ≡ want_of p
  want_same number = ap (λ n. want n (reads q) (writes q)) (sym number) ∙ ap (λ b. want (number_of p) b (writes q)) reads_same ∙ ap (λ b. want (number_of p) (reads p) b) writes_same
    where
      want : ℕ → Bool → Bool → Want
      want n read write = record { of = OnTcp n; read = read; write = write }

-- ---- the flow of a slot is another

module _ (parts : List Splice) (wants : List Want) (are : AreStanding parts wants) (k : ℕ) (p q : Splice) (at : slice_get parts k ≡ Some p)
    (number : is_wanted p ≡ true → number_of p ≡ number_of q) where
  abbrev after : List Splice
  after = set parts k q

  here_then : (j : ℕ) (r : Splice) → j ≡ k → slice_get after j ≡ Some r → r ≡ q
  here_then j r at_k here = get_set_same parts k p q r at (subst (λ i. slice_get after i ≡ Some r) at_k here)

  there_then : (j : ℕ) (r : Splice) → (j ≡ k → ⊥) → slice_get parts j ≡ Some r → slice_get after j ≡ Some r
  there_then j r other here = get_set_other parts k j q other ∙ here

  was_here : (j : ℕ) (r : Splice) → j ≡ k → slice_get parts j ≡ Some r → r ≡ p
  was_here j r at_k here = some_same r p (sym here ∙ ap (slice_get parts) at_k ∙ at)

  -- the same is waited for: they stand as they stood
  stands_so : same_ways (waits_of p) (waits_of q) ≡ true → AreStanding after wants
  stands_so same = record {
    all = λ j r here is. elim (same_or_not j k) [
      | inl at_k ↦
          let one = here_then j r at_k here in
          let was = sym (wanted_same p q same) ∙ sym (ap is_wanted one) ∙ is in
          subst (Contains wants) (sym (ap want_of one ∙ want_same p q same (number was))) (are.all k p at was)
      | inr other ↦ are.all j r (sym (get_set_other parts k j q (differ j k other)) ∙ here) is
    ];
    only = λ w has.
        let had = are.only w has in
        elim (same_or_not had.0 k) [
          | inl at_k ↦
              let one = was_here had.0 had.1 at_k had.2 in
              let was = sym (ap is_wanted one) ∙ had.3 in
              (k, q, get_set_at parts k p q at, wanted_same p q same ∙ was, had.4 ∙ ap want_of one ∙ sym (want_same p q same (number was)))
          | inr other ↦ (had.0, had.1, there_then had.0 had.1 (differ had.0 k other) had.2, had.3, had.4)
        ];
    order = are.order;
    counted = as_many (one_if (is_wanted q)) (one_if (is_wanted p)) (ap one_if (wanted_same p q same)) are.counted (count_set is_wanted parts k p q at);
  }
    where
      as_many : (a b : ℕ) → a ≡ b → length wants ≡ count is_wanted parts → count is_wanted (set parts k q) + b ≡ count is_wanted parts + a → length wants ≡ count is_wanted (set parts k q)
      as_many a b same long is_then = omega (arith, same, long, is_then)

  -- something else is: what stands for the number is its want
  module _ (apart : (j : ℕ) (r : Splice) → slice_get parts j ≡ Some r → is_wanted r ≡ true → number_of r ≡ number_of q → j ≡ k) where
    abbrev n : ℕ
    n = number_of q

    abbrev these : List Want
    these = listed n (waits_of q)

    its_want : is_wanted q ≡ true → these ≡ want_of q ∷ []
    its_want is = listed_some n (waits_of q) is

    its_number : (w : Want) (r : Splice) → w ≡ want_of r → number_in w ≡ n → number_of r ≡ n
    its_number w r is same = sym (ap number_in is) ∙ same

    has_its : (w : Want) → Contains these w → (is_wanted q ≡ true) × (w ≡ want_of q)
    has_its w has = by (is_wanted q) refl
      where
        by : (b : Bool) → is_wanted q ≡ b → (is_wanted q ≡ true) × (w ≡ want_of q)
        by true is = (is, only_one (want_of q) w (subst (λ l. Contains l w) (its_want is) has))
        by false none = absurd (none_has w (subst (λ l. Contains l w) (listed_none n (waits_of q) none) has))

    long_these : length these ≡ one_if (is_wanted q)
    long_these = by (is_wanted q) refl
      where
        by : (b : Bool) → is_wanted q ≡ b → length these ≡ one_if (is_wanted q)
        by true is = ap length (its_want is) ∙ sym (ap one_if is)
        by false none = ap length (listed_none n (waits_of q) none) ∙ sym (ap one_if none)

    stands_other : AreStanding after (with_wants n these wants)
    stands_other = record {
      all = λ j r here is. elim (same_or_not j k) [
        | inl at_k ↦
            let one = here_then j r at_k here in
            let now = sym (ap is_wanted one) ∙ is in
            subst (Contains (with_wants n these wants)) (sym (ap want_of one))
            (has_these n these wants (want_of q) (subst (λ l. Contains l (want_of q)) (sym (its_want now)) (first_has (want_of q) [])))
        | inr other ↦
            let was = sym (get_set_other parts k j q (differ j k other)) ∙ here in
            has_yet n these wants (want_of r) (λ same. differ j k other (apart j r was is same)) (are.all j r was is)
      ];
      only = λ w has. elim (has_only n these wants w are.order has) [
        | inl one ↦ let its = has_its w one in (k, q, get_set_at parts k p q at, its.0, its.1)
        | inr more ↦
            let had = are.only w more.0 in
            let other : had.0 ≡ k → ⊥ = λ at_k.
            (let one = was_here had.0 had.1 at_k had.2 in
            more.1 (ap number_in had.4 ∙ ap number_of one ∙ number (sym (ap is_wanted one) ∙ had.3))) in
            (had.0, had.1, there_then had.0 had.1 other had.2, had.3, had.4)
      ];
      order = order_then n these wants (listed_for n (waits_of q)) are.order;
      counted = counted_then;
    }
      where
        stood : is_wanted p ≡ true → length (with_wants n these wants) + 1 ≡ length wants + length these
        stood is = long_one n these wants (want_of p) are.order (are.all k p at is) (number is)

        none_stood : is_wanted p ≡ false → length (with_wants n these wants) ≡ length wants + length these
        none_stood none = long_none n these wants (λ w has same.
            (let had = are.only w has in
            true_false (sym had.3 ∙ ap is_wanted (was_here had.0 had.1 (apart had.0 had.1 had.2 had.3 (its_number w had.1 had.4 same)) had.2) ∙ none)))

        as_many : (a b c d e f : ℕ) → a + b ≡ c + d → c ≡ e → f + b ≡ e + d → a ≡ f
        as_many a b c d e f long was is_then = omega (arith, long, was, is_then)

        zero_more : (a b : ℕ) → a ≡ b → a + 0 ≡ b
        zero_more a b is = omega (arith, is)

        counted_then : length (with_wants n these wants) ≡ count is_wanted after
        counted_then = as_many (length (with_wants n these wants)) (one_if (is_wanted p)) (length wants) (one_if (is_wanted q)) (count is_wanted parts) (count is_wanted after)
            (by (is_wanted p) refl ∙ ap (λ m. length wants + m) long_these) are.counted (count_set is_wanted parts k p q at)
          where
            by : (b : Bool) → is_wanted p ≡ b → length (with_wants n these wants) + one_if (is_wanted p) ≡ length wants + length these
            by true is = ap (λ b. length (with_wants n these wants) + one_if b) is ∙ stood is
            by false none = ap (λ b. length (with_wants n these wants) + one_if b) none ∙ zero_more (length (with_wants n these wants)) (length wants + length these) (none_stood none)

  -- in both cases they are those of the flows then
  pub stands_then : (same_ways (waits_of p) (waits_of q) ≡ false → (j : ℕ) (r : Splice) → slice_get parts j ≡ Some r → is_wanted r ≡ true → number_of r ≡ number_of q → j ≡ k)
      → AreStanding after (wants_after (waits_of p) (number_of q) (waits_of q) wants)
  stands_then apart = by (same_ways (waits_of p) (waits_of q)) refl
    where
      by : (b : Bool) → same_ways (waits_of p) (waits_of q) ≡ b → AreStanding after (wants_after (waits_of p) (number_of q) (waits_of q) wants)
      by true same = subst (AreStanding after) (sym (after_same (waits_of p) (number_of q) (waits_of q) wants same)) (stands_so same)
      by false other = subst (AreStanding after) (sym (after_other (waits_of p) (number_of q) (waits_of q) wants other)) (stands_other (apart other))

-- ---- before the first flow

-- where no flow is wanted none stands
pub stands_none : (parts : List Splice) → ((k : ℕ) (p : Splice) → slice_get parts k ≡ Some p → is_wanted p ≡ false) → count is_wanted parts ≡ 0 → AreStanding parts []
stands_none parts none counted = record {
  all = λ k p here is. absurd (true_false (sym is ∙ none k p here));
  only = λ w has. absurd (none_has w has);
  order = tt;
  counted = sym counted;
}
