-- Items of which no two have one number: in another order, and in rising order.
use Rattle.std.proofs.Common.{◌≡◌, ◌≢◌, ◌↔◌, ℕ, ◌<◌, ◌⊎◌, ◌==◌, ◌&&◌, ◌||◌, not, List, [], ◌∷◌, length, get_or, Bool, true, false, IsTrue, Option, Some, None, IsPermutation, swap, inl}
use Rattle.std.proofs.Common.{inr, refl, sym, ap, ◌∙◌, arith, eqb}
use Rattle.std.specs.List.{AllPairs, AllByRecursion, IsDistinct, list_any}
use Rattle.std.specs.List.Sorted.{IsNonDecreasing, IsStrictlyIncreasing}
use Rattle.std.proofs.lemmas.Bool.{cases_eq}
use Rattle.std.proofs.lemmas.Bool.Decides.{Decides-eqb, nat_tests}
use Rattle.std.proofs.lemmas.List.Edits.{Swapped, swapped_from_swap, length-swap}
use Rattle.std.proofs.lemmas.List.Kept.{AllPairs-from_increasing}
use Rattle.std.proofs.lemmas.List.Sorted.{IsPermutation-keeps, IsPermutation-sym}
use Rattle.std.proofs.lemmas.Map.Keys.{IsStrictlyIncreasing-from_distinct}
use Rattle.std.proofs.lemmas.Map.Made.{AllPairs-from_IsDistinct, IsDistinct-from_AllPairs}
use Rattle.poll_list.specs.declared.Want.{Want}
use Rattle.poll_list.specs.Listing.{differ, number_of, same_number}
use Rattle.replay.specs.Reporting.{key_of, key_of_number, keys_of}

abbrev AreDistinct : List ℕ → Type 0
AreDistinct ks = AllPairs (λ (a b : ℕ). a ≢ b) ks

either_way : (ks : List ℕ) → AreDistinct ks → (i j d : ℕ) → i < length ks → j < length ks → get_or ks i d ≡ get_or ks j d → i ≡ j
either_way ks h i j d p q e =
    let not_below : i < j → ⊥ = λ less. h i j d less q e in
    let not_above : j < i → ⊥ = λ less. h j i d less p (sym e) in
    omega arith

-- where a swap of a and b took the number at m from
abbrev From : ℕ → ℕ → ℕ → ℕ → Type 0
From a b m k = ((m ≡ a) × (k ≡ b)) ⊎ (((m ≡ b) × (k ≡ a)) ⊎ ((m ≢ a) × (m ≢ b) × (k ≡ m)))

origin : (f g : ℕ → ℕ) (a b m : ℕ) → Swapped f g a b → (m ≡ a) ⊎ (m ≢ a) → (m ≡ b) ⊎ (m ≢ b) → (k : ℕ) × From a b m k × (g m ≡ f k)
origin f g a b m s (inl e) y = (b, inl (e, refl), ap g e ∙ s.0)
origin f g a b m s (inr n) (inl e) = (a, inr (inl (e, refl)), ap g e ∙ s.1)
origin f g a b m s (inr n) (inr o) = (m, inr (inr (n, o, refl)), s.2 m n o)

distinct_swap : (ks : List ℕ) (a b : ℕ) → a < length ks → b < length ks → AreDistinct ks → AreDistinct (swap ks a b)
distinct_swap ks a b p q h i j d less within e =
    let len = length-swap ks a b in
    let s = swapped_from_swap ks (swap ks a b) a b d p q refl in
    let x = origin _ _ a b i s (cases_eq i a) (cases_eq i b) in
    let y = origin _ _ a b j s (cases_eq j a) (cases_eq j b) in
    let same = either_way ks h x.0 y.0 d (omega (arith, x.1)) (omega (arith, y.1)) (sym x.2 ∙ e ∙ y.2) in
    omega (arith, x.1, y.1)

distinct_moved : (old new : List ℕ) → IsPermutation old new → AreDistinct old → AreDistinct new
distinct_moved old new moved h = IsPermutation-keeps old AreDistinct h distinct_swap new moved

-- two sockets have one number where they have one key
same_key : (a b : Option ℕ) → same_number a b ≡ (key_of_number a == key_of_number b)
same_key None None = refl
same_key None (Some b) = grind (arith, nat_tests)
same_key (Some a) None = grind (arith, nat_tests)
same_key (Some a) (Some b) = grind (arith, nat_tests)

or_parts : (a b : Bool) → (a || b) ≡ false → (a ≡ false) × (b ≡ false)
or_parts true b h = cc
or_parts false b h = (refl, h)

and_parts : (a b : Bool) → (a && b) ≡ true → (a ≡ true) × (b ≡ true)
and_parts true b h = (refl, h)
and_parts false b h = cc

was_false : (a : Bool) → not a ≡ true → a ≡ false
was_false true h = cc
was_false false h = refl

none_of : (w : Want) (ws : List Want) → list_any (λ (v : Want). same_number (number_of w.of) (number_of v.of)) ws ≡ false → AllByRecursion (λ y. eqb (key_of w.of) y ≡ false) (keys_of ws)
none_of w [] h = tt
none_of w (v ∷ ws) h = let p = or_parts _ _ h in (sym (same_key (number_of w.of) (number_of v.of)) ∙ p.0, none_of w ws p.1)

none_back : (w : Want) (ws : List Want) → AllByRecursion (λ y. eqb (key_of w.of) y ≡ false) (keys_of ws) → list_any (λ (v : Want). same_number (number_of w.of) (number_of v.of)) ws ≡ false
none_back w [] h = refl
none_back w (v ∷ ws) h = rw (same_key (number_of w.of) (number_of v.of) ∙ h.0) (none_back w ws h.1)

distinct_from_differ : (ws : List Want) → differ ws ≡ true → IsDistinct eqb (keys_of ws)
unfolding IsDistinct
distinct_from_differ [] h = tt
distinct_from_differ (w ∷ ws) h = let p = and_parts _ _ h in (none_of w ws (was_false _ p.0), distinct_from_differ ws p.1)

differ_from_distinct : (ws : List Want) → IsDistinct eqb (keys_of ws) → differ ws ≡ true
unfolding IsDistinct
differ_from_distinct [] h = refl
differ_from_distinct (w ∷ ws) h = rw (none_back w ws h.0) (differ_from_distinct ws h.1)

same_truth : (a b : Bool) → (a ≡ true → b ≡ true) → (b ≡ true → a ≡ true) → a ≡ b
same_truth true b f g = sym (f refl)
same_truth false true f g = g refl
same_truth false false f g = refl

pub apart_is : (wants : List Want) (sorted : List ℕ) (apart : Bool) → IsPermutation (keys_of wants) sorted → IsNonDecreasing sorted → (IsTrue apart ↔ IsStrictlyIncreasing sorted) →
    apart ≡ differ wants
apart_is wants sorted apart moved order is =
    same_truth apart (differ wants)
    (λ yes. let rising = AllPairs-from_increasing sorted (is.0 yes) in
    let other : AreDistinct sorted = λ i j d less within e. let below = rising i j d less within in omega (arith, below, e) in
    differ_from_distinct wants (IsDistinct-from_AllPairs Decides-eqb (keys_of wants) (distinct_moved sorted (keys_of wants) (IsPermutation-sym _ _ moved) other)))
    (λ yes. let other = distinct_moved (keys_of wants) sorted moved (AllPairs-from_IsDistinct Decides-eqb (keys_of wants) (distinct_from_differ wants yes)) in
    is.1 (IsStrictlyIncreasing-from_distinct sorted order (IsDistinct-from_AllPairs Decides-eqb sorted other)))
