-- The longest unused one gives way, and fewer are left where one is closed, each of which was there.
use Rattle.std.proofs.Common.{◌≡◌, ℕ, ◌<◌, ◌≤◌, ◌==◌, ◌&&◌, ◌||◌, not, Bool, true, false, cond, nat_le, All, List, [], ◌∷◌, length, slice_get, Some, None, if◌then◌else◌, ◌∙◌, ap, arith}
use Rattle.std.specs.List.{list_any}
use Rattle.std.proofs.lemmas.List.Elements.{All-cons, All-head, All-tail}
use Rattle.world_face.specs.Journal.{Close}
use Rattle.idle_sockets.specs.Sockets.{most_sockets}
use Rattle.idle_sockets.specs.Closing.{calls_for_room, with_room, without}
use Rattle.idle_sockets.proofs.Ordering.{same}

module _ {A : Type 0} (number : A → ℕ) where
  no_more : (n : ℕ) (list : List A) → length (without number n list) ≤ length list
  no_more n [] = omega arith
  no_more n (x ∷ list) = by_test (number x == n) (no_more n list)
    where
      by_test : (t : Bool) → length (without number n list) ≤ length list → length (cond (not t) (x ∷ without number n list) (without number n list)) ≤ length (x ∷ list)
      by_test true less = omega (arith, less)
      by_test false less = omega (arith, less)

  pub fewer : (n : ℕ) (test : A → Bool) (list : List A) → list_any (λ a. (number a == n) && test a) list ≡ true → length (without number n list) < length list
  fewer n test [] is = cc
  fewer n test (x ∷ list) is = by_test (number x == n) (test x) is (λ more. fewer n test list more)
    where
      by_test : (t held : Bool) → ((t && held) || list_any (λ a. (number a == n) && test a) list) ≡ true →
          (list_any (λ a. (number a == n) && test a) list ≡ true → length (without number n list) < length list)
          → length (cond (not t) (x ∷ without number n list) (without number n list)) < length (x ∷ list)
      by_test true held is more = let less = no_more n list in omega (arith, less)
      by_test false held is more = let less = more is in omega (arith, less)

  -- each that is left was there
  pub all_without : (P : A → Type 0) (n : ℕ) (list : List A) → All P list → All P (without number n list)
  all_without P n [] all = all
  all_without P n (x ∷ list) all = by (number x == n) (all_without P n list (All-tail P x list all))
    where
      by : (t : Bool) → All P (without number n list) → All P (cond (not t) (x ∷ without number n list) (without number n list))
      by true rest = rest
      by false rest = All-cons P x (without number n list) (All-head P x list all) rest

  -- where as many are open as may be
  pub gives_way : (list : List A) (oldest : A) → Some oldest ≡ slice_get list 0 → nat_le most_sockets (length list) ≡ true
      → (others : List A) × (list ≡ oldest ∷ others) × (calls_for_room number list ≡ Close (number oldest) ∷ []) × (with_room number list ≡ without number (number oldest) list)
  gives_way [] oldest is full = cc
  gives_way (x ∷ others) oldest is full =
      let this : x ≡ oldest = cc in (
        others,
        ap (λ a. a ∷ others) this,
        ap (λ b. if b then Close (number x) ∷ [] else []) full ∙ ap (λ a. Close (number a) ∷ []) this,
        ap (λ b. if b then without number (number x) (x ∷ others) else x ∷ others) full ∙ ap (λ a. without number (number a) (x ∷ others)) this,
      )

  pub fewer_left : (list others : List A) (oldest : A) → list ≡ oldest ∷ others → length list ≤ most_sockets → length (without number (number oldest) list) < most_sockets
  fewer_left list others oldest is most =
      let less = fewer (number oldest) (λ a. true) (oldest ∷ others) (ap (λ b. (b && true) || list_any (λ a. (number a == number oldest) && true) others) (same (number oldest))) in
      let same_length = ap (λ l. length (without number (number oldest) l)) is in
      omega (arith, less, most, ap length is, same_length)

  -- where there is room
  pub stays : (list : List A) → nat_le most_sockets (length list) ≡ false → (calls_for_room number list ≡ []) × (with_room number list ≡ list)
  stays [] few = (refl_of [], refl_of [])
    where
      refl_of : {B : Type 0} (b : B) → b ≡ b
      refl_of b = cc
  stays (x ∷ list) few = (
    ap (λ b. if b then Close (number x) ∷ [] else []) few,
    ap (λ b. if b then without number (number x) (x ∷ list) else x ∷ list) few,
  )

  -- what is so of a list, and of it without any of its sockets, is so where room was made
  pub of_room : (P : List A → Type 0) (list : List A) → P list → ((n : ℕ) → P (without number n list)) → P (with_room number list)
  of_room P [] here less = here
  of_room P (oldest ∷ list) here less = by (nat_le most_sockets (length (oldest ∷ list)))
    where
      by : (b : Bool) → P (if b then without number (number oldest) (oldest ∷ list) else oldest ∷ list)
      by true = less (number oldest)
      by false = here

pub few_of_none : {A : Type 0} (list : List A) → None ≡ slice_get list 0 → length list < 512
few_of_none [] none = omega arith
few_of_none (a ∷ list) none = cc
