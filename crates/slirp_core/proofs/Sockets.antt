-- Open sockets and their associations.
use Rattle.std.proofs.Common.{◌≡◌, ℕ, ◌+◌, ◌<◌, ◌==◌, ◌&&◌, ◌||◌, not, Bool, true, false, cond, List, [], ◌∷◌, ◌++◌, filter, Some, None, is_some, refl, sym, ◌∙◌, ap, arith}
use Rattle.std.proofs.lemmas.List.Elements.{All-head}
use Rattle.std.specs.List.{list_any}
use Rattle.rules_udp.specs.Associations.{IsLeast, is_numbered, is_over, is_idle, numbers, numbered}
use Rattle.rules_udp.specs.declared.Association.{Association}
use Rattle.spec_trace.specs.Sockets.{is_among}
use Rattle.spec_run.proofs.Bools.{among_last, or_second, same, turned}
use Rattle.spec_run.proofs.Joining.{numbers_last}
use Rattle.slirp_core.specs.Sockets.{AllAbove, IsRising}

-- the one with a number is among them
pub numbered_among : (n : ℕ) (list : List Association) (a : Association) → numbered n list ≡ Some a → is_among n (numbers list) ≡ true
numbered_among n [] a is = cc
numbered_among n (x ∷ list) a is = by_test (is_numbered n x) refl (λ more. numbered_among n list a more) is
  where
    by_test : (t : Bool) → (x.number == n) ≡ t → (numbered n list ≡ Some a → is_among n (numbers list) ≡ true) → cond t (Some x) (numbered n list) ≡ Some a →
        ((n == x.number) || is_among n (numbers list)) ≡ true
    by_test true one more is = ap (λ b. b || is_among n (numbers list)) (turned x.number n true one)
    by_test false other more is = or_second (n == x.number) (is_among n (numbers list)) (more is)

pub among_numbered : (n : ℕ) (list : List Association) → is_among n (numbers list) ≡ true → is_some (numbered n list) ≡ true
among_numbered n [] is = cc
among_numbered n (x ∷ list) is = by_test (x.number == n) refl (λ more. among_numbered n list more) is
  where
    by_test : (t : Bool) → (x.number == n) ≡ t → (is_among n (numbers list) ≡ true → is_some (numbered n list) ≡ true) → ((n == x.number) || is_among n (numbers list)) ≡ true →
        is_some (cond t (Some x) (numbered n list)) ≡ true
    by_test true one more is = refl
    by_test false other more is = more (sym (ap (λ b. b || is_among n (numbers list)) (turned x.number n false other)) ∙ is)

-- one more at the end
pub last_among : (list : List Association) (a : Association) → is_among a.number (numbers (list ++ (a ∷ []))) ≡ true
last_among list a = ap (is_among a.number) (numbers_last list a) ∙ among_last a.number a.number (numbers list) ∙ or_second (is_among a.number (numbers list)) (a.number == a.number) (same a.number)

-- one that passes a test is open
any_among : (n : ℕ) (test : Association → Bool) (list : List Association) → list_any (λ a. is_numbered n a && test a) list ≡ true → is_among n (numbers list) ≡ true
any_among n test [] is = cc
any_among n test (x ∷ list) is = by_test (x.number == n) (test x) refl (λ more. any_among n test list more) is
  where
    by_test : (t u : Bool) → (x.number == n) ≡ t → (list_any (λ a. is_numbered n a && test a) list ≡ true → is_among n (numbers list) ≡ true)
        → ((t && u) || list_any (λ a. is_numbered n a && test a) list) ≡ true → ((n == x.number) || is_among n (numbers list)) ≡ true
    by_test true u one more is = ap (λ b. b || is_among n (numbers list)) (turned x.number n true one)
    by_test false u other more is = or_second (n == x.number) (is_among n (numbers list)) (more is)

pub idle_among : (n now : ℕ) (list : List Association) → is_idle n now list ≡ true → is_among n (numbers list) ≡ true
idle_among n now list is = any_among n (is_over now) list is

pub least_among : (n : ℕ) (list : List Association) → IsLeast (λ a. true) list (Some n) → is_among n (numbers list) ≡ true
least_among n list is = any_among n (λ a. true) list is.0

-- numbers that rise
above_more : (n m : ℕ) (ns : List ℕ) → AllAbove n ns → n < m → AllAbove n (ns ++ (m ∷ []))
above_more n m [] above less = (less, tt)
above_more n m (x ∷ ns) above less = (above.0, above_more n m ns above.1 less)

pub rising_last : (bound : ℕ) (ns : List ℕ) → IsRising bound ns → IsRising (bound + 1) (ns ++ (bound ∷ []))
rising_last bound [] rising = (omega arith, tt, tt)
rising_last bound (n ∷ ns) rising = (omega (arith, rising.0), above_more n bound ns rising.1 rising.0, rising_last bound ns rising.2)

pub rising_up : (bound : ℕ) (ns : List ℕ) → IsRising bound ns → IsRising (bound + 1) ns
rising_up bound [] rising = tt
rising_up bound (n ∷ ns) rising = (omega (arith, rising.0), rising.1, rising_up bound ns rising.2)

above_without : (n m : ℕ) (ns : List ℕ) → AllAbove n ns → AllAbove n (filter (λ s. not (s == m)) ns)
above_without n m [] above = tt
above_without n m (x ∷ ns) above = by_test (x == m) (above_without n m ns above.1)
  where
    by_test : (t : Bool) → AllAbove n (filter (λ s. not (s == m)) ns) → AllAbove n (cond (not t) (x ∷ filter (λ s. not (s == m)) ns) (filter (λ s. not (s == m)) ns))
    by_test true rest = rest
    by_test false rest = (above.0, rest)

pub rising_without : (bound m : ℕ) (ns : List ℕ) → IsRising bound ns → IsRising bound (filter (λ s. not (s == m)) ns)
rising_without bound m [] rising = tt
rising_without bound m (x ∷ ns) rising = by_test (x == m) (rising_without bound m ns rising.2)
  where
    by_test : (t : Bool) → IsRising bound (filter (λ s. not (s == m)) ns) → IsRising bound (cond (not t) (x ∷ filter (λ s. not (s == m)) ns) (filter (λ s. not (s == m)) ns))
    by_test true rest = rest
    by_test false rest = (rising.0, above_without x m ns rising.1, rest)

-- where none is the least there is none
pub no_association : (list : List Association) → IsLeast (λ a. true) list None → list ≡ []
no_association [] none = refl
no_association (x ∷ list) none = let never = All-head (λ (a : Association). true ≡ false) x list none in cc
