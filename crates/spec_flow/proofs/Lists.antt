-- Reads of lists that are made of others, and runs of a partial function.
use Rattle.std.proofs.Common.{refl, ◌≡◌, ℕ, zero, suc, ◌+◌, ◌≤◌, List, [], ◌∷◌, ◌++◌, length, take, drop, Option, None, Some, slice_get, ◌⊎◌, inl, inr, arith, ap}
use Rattle.spec_flow.specs.Guest.{run_from}
use Rattle.spec_flow.specs.Lawful.{IsPrefixOf}

pub slice_get_append : (xs ys : List ℕ) (i x : ℕ) → slice_get (xs ++ ys) i ≡ Some x → (slice_get xs i ≡ Some x) ⊎ ((j : ℕ) × (i ≡ length xs + j) × (slice_get ys j ≡ Some x))
slice_get_append [] ys i x e = inr (i, omega arith, e)
slice_get_append (a ∷ xs) ys zero x e = inl e
slice_get_append (a ∷ xs) ys (suc i) x e =
    elim (slice_get_append xs ys i x e) [ inl h ↦ inl h | inr (j, is, at) ↦ inr (j, omega arith, at) ]

pub slice_get_front : (xs ys : List ℕ) (i x : ℕ) → slice_get xs i ≡ Some x → slice_get (xs ++ ys) i ≡ Some x
slice_get_front [] ys i x e = absurd cc
slice_get_front (a ∷ xs) ys zero x e = e
slice_get_front (a ∷ xs) ys (suc i) x e = slice_get_front xs ys i x e

pub slice_get_take : (n : ℕ) (xs : List ℕ) (i x : ℕ) → slice_get (take n xs) i ≡ Some x → slice_get xs i ≡ Some x
slice_get_take zero xs i x e = cc
slice_get_take (suc n) [] i x e = e
slice_get_take (suc n) (a ∷ xs) zero x e = e
slice_get_take (suc n) (a ∷ xs) (suc i) x e = slice_get_take n xs i x e

pub slice_get_drop : (n : ℕ) (xs : List ℕ) (k i x : ℕ) → i ≡ n + k → slice_get (drop n xs) k ≡ Some x → slice_get xs i ≡ Some x
slice_get_drop zero xs k i x is e = let same : i ≡ k = omega arith in rw same e
slice_get_drop (suc n) [] k i x is e = e
slice_get_drop (suc n) (a ∷ xs) k zero x is e = absurd (omega arith)
slice_get_drop (suc n) (a ∷ xs) k (suc i) x is e = slice_get_drop n xs k i x (omega arith) e

-- a list of what the function has at these places begins the run
pub run_prefix : (octet : ℕ → Option ℕ) (xs : List ℕ) (n i : ℕ) → length xs ≤ n → ((k j x : ℕ) → j ≡ i + k → slice_get xs k ≡ Some x → octet j ≡ Some x) → IsPrefixOf xs (run_from octet n i)
run_prefix octet [] n i within at = (run_from octet n i, refl)
run_prefix octet (a ∷ xs) zero i within at = absurd (omega arith)
run_prefix octet (a ∷ xs) (suc n) i within at =
    let here : octet i ≡ Some a = at 0 i a (omega arith) refl in
    let rest = run_prefix octet xs n (suc i) (omega arith) (λ k j x is e. at (suc k) j x (omega arith) e) in
    rw (here, run_from) (rest.0, ap (λ (l : List ℕ). a ∷ l) rest.1)

run_reads_next : (octet : ℕ → Option ℕ) (n i j x : ℕ)
    → ((k j x : ℕ) → j ≡ suc i + k → slice_get (run_from octet n (suc i)) k ≡ Some x → octet j ≡ Some x)
    → (o : Option ℕ) → octet i ≡ o → (k : ℕ) → j ≡ i + k
    → slice_get (elim o [ None ↦ [] | Some y ↦ y ∷ run_from octet n (suc i) ]) k ≡ Some x → octet j ≡ Some x
run_reads_next octet n i j x later None here k is e = cc
run_reads_next octet n i j x later (Some y) here zero is e = let same : j ≡ i = omega arith in rw same cc
run_reads_next octet n i j x later (Some y) here (suc k) is e = later k j x (omega arith) e

-- what is in the run, the function has there
pub run_reads : (octet : ℕ → Option ℕ) (n i k j x : ℕ) → j ≡ i + k → slice_get (run_from octet n i) k ≡ Some x → octet j ≡ Some x
run_reads octet zero i k j x is e = cc
run_reads octet (suc n) i k j x is e = run_reads_next octet n i j x (run_reads octet n (suc i)) (octet i) refl k is e
