-- Sockets whose numbers rise, with one more behind them, and without one of them.
use Rattle.std.proofs.Common.{◌≡◌, ℕ, zero, suc, ◌<◌, ◌≤◌, Bool, cond, true, false, List, [], ◌∷◌, ◌++◌, length, get_or, Some, subst, arith}
use Rattle.std.specs.Prelude.{slice_get}
use Rattle.std.specs.List.Sorted.{IsNonDecreasingBy}
use Rattle.std.proofs.lemmas.Option.{get_or_from_slice_get, slice_get_within}
use Rattle.tcp_flows.specs.declared.sockets.Numbered.{Numbered}
use Rattle.tcp_flows.specs.Sockets.{AreAbove, AreBelow, Rise, is_other, without}

-- the number of each is at most that of a later one
above_at : (n : ℕ) (rows : List Numbered) (i : ℕ) (d : Numbered) → AreAbove n rows → i < length rows → n < (get_or rows i d).number
above_at n [] i d above few = absurd (omega (arith, few))
above_at n (r ∷ rows) zero d above few = above.0
above_at n (r ∷ rows) (suc i) d above few = above_at n rows i d above.1 (omega (arith, few))

pub above_there : (n : ℕ) (rows : List Numbered) (i : ℕ) (r : Numbered) → AreAbove n rows → slice_get rows i ≡ Some r → n < r.number
above_there n rows i r above here = subst (λ (x : Numbered). n < x.number) (get_or_from_slice_get rows i r r here) (above_at n rows i r above (slice_get_within rows i r here))

pub never_fall : (rows : List Numbered) → Rise rows → IsNonDecreasingBy (λ (r : Numbered). r.number) rows
never_fall [] rise i j d up few = absurd (omega (arith, few))
never_fall (r ∷ rows) rise zero zero d up few = omega arith
never_fall (r ∷ rows) rise zero (suc j) d up few = let less = above_at r.number rows j d rise.0 (omega (arith, few)) in omega (arith, less)
never_fall (r ∷ rows) rise (suc i) zero d up few = absurd (omega (arith, up))
never_fall (r ∷ rows) rise (suc i) (suc j) d up few = never_fall rows rise.1 i j d (omega (arith, up)) (omega (arith, few))

-- one more behind them
above_last : (n : ℕ) (rows : List Numbered) (last : Numbered) → AreAbove n rows → n < last.number → AreAbove n (rows ++ last ∷ [])
above_last n [] last above less = (less, tt)
above_last n (r ∷ rows) last above less = (above.0, above_last n rows last above.1 less)

pub rise_last : (rows : List Numbered) (last : Numbered) → Rise rows → AreBelow last.number rows → Rise (rows ++ last ∷ [])
rise_last [] last rise below = (tt, tt)
rise_last (r ∷ rows) last rise below = (above_last r.number rows last rise.0 below.0, rise_last rows last rise.1 below.1)

-- without one of them
above_without : (m n : ℕ) (rows : List Numbered) → AreAbove m rows → AreAbove m (without n rows)
above_without m n [] above = tt
above_without m n (r ∷ rows) above = by (is_other n r) (above_without m n rows above.1)
  where
    by : (other : Bool) → AreAbove m (without n rows) → AreAbove m (cond other (r ∷ without n rows) (without n rows))
    by true rest = (above.0, rest)
    by false rest = rest

pub rise_without : (n : ℕ) (rows : List Numbered) → Rise rows → Rise (without n rows)
rise_without n [] rise = tt
rise_without n (r ∷ rows) rise = by (is_other n r) (rise_without n rows rise.1)
  where
    by : (other : Bool) → Rise (without n rows) → Rise (cond other (r ∷ without n rows) (without n rows))
    by true rest = (above_without r.number n rows rise.0, rest)
    by false rest = rest

pub fewer_without : (n : ℕ) (rows : List Numbered) → length (without n rows) ≤ length rows
fewer_without n [] = omega arith
fewer_without n (r ∷ rows) = by (is_other n r) (fewer_without n rows)
  where
    by : (other : Bool) → length (without n rows) ≤ length rows → length (cond other (r ∷ without n rows) (without n rows)) ≤ length (r ∷ rows)
    by true rest = omega (arith, rest)
    by false rest = omega (arith, rest)
