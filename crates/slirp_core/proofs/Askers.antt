-- Open sockets and their questions.
use Rattle.std.proofs.Common.{◌≡◌, ℕ, ◌≤◌, ◌==◌, ◌&&◌, ◌||◌, Bool, true, false, All, List, [], ◌∷◌, ◌++◌, Some, None, refl, ◌∙◌, ap, arith}
use Rattle.std.proofs.lemmas.List.Elements.{All-cons, All-head, All-nil, All-tail}
use Rattle.std.specs.List.{list_any}
use Rattle.rules_dns.specs.Questions.{is_numbered, numbers}
use Rattle.dns_relay.specs.Relaying.{IsLeast}
use Rattle.rules_dns.specs.declared.Question.{Question}
use Rattle.spec_trace.specs.Sockets.{is_among}
use Rattle.spec_run.proofs.Bools.{equal, or_second, same, turned}
use Rattle.slirp_core.proofs.Names.{among_both}

-- ---- numbers of two kinds

pub among_first : (m : ℕ) (ns ms : List ℕ) → is_among m ns ≡ true → is_among m (ns ++ ms) ≡ true
among_first m ns ms is = among_both m ns ms ∙ ap (λ b. b || is_among m ms) is

pub among_second : (m : ℕ) (ns ms : List ℕ) → is_among m ms ≡ true → is_among m (ns ++ ms) ≡ true
among_second m ns ms is = among_both m ns ms ∙ or_second (is_among m ns) (is_among m ms) is

-- ---- those of questions

-- the least is one of them, and no other is less
pub least_asked : (n : ℕ) (list : List Question) → IsLeast (λ q. true) list (Some n) → is_among n (numbers list) ≡ true
least_asked n list is = any_asked n list is.0
  where
    any_asked : (n : ℕ) (list : List Question) → list_any (λ q. is_numbered n q && true) list ≡ true → is_among n (numbers list) ≡ true
    any_asked n [] is = cc
    any_asked n (x ∷ list) is = by_test (x.number == n) refl (λ more. any_asked n list more) is
      where
        by_test : (t : Bool) → (x.number == n) ≡ t → (list_any (λ q. is_numbered n q && true) list ≡ true → is_among n (numbers list) ≡ true)
            → ((t && true) || list_any (λ q. is_numbered n q && true) list) ≡ true → ((n == x.number) || is_among n (numbers list)) ≡ true
        by_test true one more is = ap (λ b. b || is_among n (numbers list)) (turned x.number n true one)
        by_test false other more is = or_second (n == x.number) (is_among n (numbers list)) (more is)

pub asked_at_most : (n x : ℕ) (list : List Question) → All (λ (q : Question). true ≡ true → n ≤ q.number) list → is_among x (numbers list) ≡ true → n ≤ x
asked_at_most n x [] all is = cc
asked_at_most n x (y ∷ list) all is = by_one (x == y.number) refl (λ more. asked_at_most n x list (All-tail (λ (q : Question). true ≡ true → n ≤ q.number) y list all) more) is
  where
    by_one : (t : Bool) → (x == y.number) ≡ t → (is_among x (numbers list) ≡ true → n ≤ x) → (t || is_among x (numbers list)) ≡ true → n ≤ x
    by_one true one more is = let here = equal x y.number one in omega (arith, here, All-head (λ (q : Question). true ≡ true → n ≤ q.number) y list all refl)
    by_one false other more is = more is

-- and the other way round
pub asked_least : (n : ℕ) (list : List Question) → is_among n (numbers list) ≡ true → ((m : ℕ) → is_among m (numbers list) ≡ true → n ≤ m) → IsLeast (λ q. true) list (Some n)
asked_least n list among least = (is_any n list among, are_above n list least)
  where
    is_any : (n : ℕ) (list : List Question) → is_among n (numbers list) ≡ true → list_any (λ q. is_numbered n q && true) list ≡ true
    is_any n [] is = cc
    is_any n (x ∷ list) is = by_test (n == x.number) refl (λ more. is_any n list more) is
      where
        by_test : (t : Bool) → (n == x.number) ≡ t → (is_among n (numbers list) ≡ true → list_any (λ q. is_numbered n q && true) list ≡ true)
            → (t || is_among n (numbers list)) ≡ true → (((x.number == n) && true) || list_any (λ q. is_numbered n q && true) list) ≡ true
        by_test true one more is = ap (λ b. (b && true) || list_any (λ q. is_numbered n q && true) list) (turned n x.number true one)
        by_test false other more is = or_second ((x.number == n) && true) (list_any (λ q. is_numbered n q && true) list) (more is)

    are_above : (n : ℕ) (list : List Question) → ((m : ℕ) → is_among m (numbers list) ≡ true → n ≤ m) → All (λ (q : Question). true ≡ true → n ≤ q.number) list
    are_above n [] least = All-nil (λ (q : Question). true ≡ true → n ≤ q.number)
    are_above n (x ∷ list) least =
        All-cons (λ (q : Question). true ≡ true → n ≤ q.number) x list (λ is. least x.number (ap (λ b. b || is_among x.number (numbers list)) (same x.number)))
        (are_above n list (λ m among. least m (or_second (m == x.number) (is_among m (numbers list)) among)))

-- where none is the least, or has a number, there is none
pub no_question : (list : List Question) → IsLeast (λ q. true) list None → list ≡ []
no_question [] none = refl
no_question (x ∷ list) none = let never = All-head (λ (q : Question). true ≡ false) x list none in cc

pub none_asked : (list : List Question) → ((m : ℕ) → is_among m (numbers list) ≡ true → ⊥) → list ≡ []
none_asked [] none = refl
none_asked (x ∷ list) none = absurd (none x.number (ap (λ b. b || is_among x.number (numbers list)) (same x.number)))
