-- What is closed of some sockets is closed of them as another type of rows sees them.
use Rattle.std.proofs.Common.{◌≡◌, ℕ, ◌≤◌, ◌==◌, ◌&&◌, ◌||◌, not, nat_le, Bool, true, false, cond, All, List, [], ◌∷◌, length, map, find, slice_get, Option, Some, None, option_map, if◌then◌else◌}
use Rattle.std.proofs.Common.{suc, refl, sym, ◌∙◌, ap, subst}
use Rattle.std.specs.List.{list_any}
use Rattle.std.proofs.lemmas.List.Elements.{All-cons, All-head, All-nil, All-tail}
use Rattle.world_face.specs.Journal.{Entry, Close}
use Rattle.idle_sockets.specs.Sockets.{most_sockets}
use Rattle.idle_sockets.specs.Closing.{calls_for_room, with_room, without, ClosesAll, ClosesLeast, IsLeast}

pub length_mapped : {A B : Type 0} (f : A → B) (list : List A) → length (map f list) ≡ length list
length_mapped f [] = refl
length_mapped f (a ∷ list) = ap (λ n. suc n) (length_mapped f list)

pub at_mapped : {A B : Type 0} (f : A → B) (list : List A) → slice_get (map f list) 0 ≡ option_map f (slice_get list 0)
at_mapped f [] = refl
at_mapped f (a ∷ list) = refl

pub first_mapped : {A B C : Type 0} (f : A → B) (g : B → C) (h : A → C) → ((a : A) → g (f a) ≡ h a) → (list : List A) → option_map g (slice_get (map f list) 0) ≡ option_map h (slice_get list 0)
first_mapped f g h alike [] = refl
first_mapped f g h alike (a ∷ list) = ap (λ c. Some c) (alike a)

pub find_mapped : {A B : Type 0} (f : A → B) (p : A → Bool) (q : B → Bool) → ((a : A) → q (f a) ≡ p a) → (list : List A) → find q (map f list) ≡ option_map f (find p list)
find_mapped f p q alike [] = refl
find_mapped f p q alike (a ∷ list) = ap (λ t. cond t (Some (f a)) (find q (map f list))) (alike a) ∙ by (p a) (find_mapped f p q alike list)
  where
    by : (t : Bool) → find q (map f list) ≡ option_map f (find p list) → cond t (Some (f a)) (find q (map f list)) ≡ option_map f (cond t (Some a) (find p list))
    by true rest = refl
    by false rest = rest

pub all_mapped : {A B : Type 0} (f : A → B) (P : B → Type 0) (list : List A) → All (λ a. P (f a)) list → All P (map f list)
all_mapped f P [] all = All-nil P
all_mapped f P (a ∷ list) all = All-cons P (f a) (map f list) (All-head (λ x. P (f x)) a list all) (all_mapped f P list (All-tail (λ x. P (f x)) a list all))

pub mapped_all : {A B : Type 0} (f : A → B) (P : B → Type 0) (list : List A) → All P (map f list) → All (λ a. P (f a)) list
mapped_all f P [] all = All-nil (λ a. P (f a))
mapped_all f P (a ∷ list) all = All-cons (λ x. P (f x)) a list (All-head P (f a) (map f list) all) (mapped_all f P list (All-tail P (f a) (map f list) all))

any_mapped : {A B : Type 0} (f : A → B) (q : B → Bool) (list : List A) → list_any q (map f list) ≡ list_any (λ a. q (f a)) list
any_mapped f q [] = refl
any_mapped f q (a ∷ list) = ap (λ t. q (f a) || t) (any_mapped f q list)

module _ {A B : Type 0} (f : A → B) (number : A → ℕ) (of : B → ℕ) (same : (a : A) → of (f a) ≡ number a) where
  pub without_mapped : (n : ℕ) (list : List A) → map f (without number n list) ≡ without of n (map f list)
  without_mapped n [] = refl
  without_mapped n (a ∷ list) =
      by (number a == n) (without_mapped n list) ∙ sym (ap (λ k. cond (not (k == n)) (f a ∷ without of n (map f list)) (without of n (map f list))) (same a))
    where
      by : (t : Bool) → map f (without number n list) ≡ without of n (map f list)
          → map f (cond (not t) (a ∷ without number n list) (without number n list)) ≡ cond (not t) (f a ∷ without of n (map f list)) (without of n (map f list))
      by true rest = rest
      by false rest = ap (λ l. f a ∷ l) rest

  pub calls_mapped : (list : List A) → calls_for_room number list ≡ calls_for_room of (map f list)
  calls_mapped [] = refl
  calls_mapped (a ∷ list) =
      ap (λ k. if nat_le most_sockets (length (a ∷ list)) then Close k ∷ [] else []) (sym (same a))
      ∙ ap (λ k. if nat_le most_sockets k then Close (of (f a)) ∷ [] else []) (sym (length_mapped f (a ∷ list)))

  pub room_mapped : (list : List A) → map f (with_room number list) ≡ with_room of (map f list)
  room_mapped [] = refl
  room_mapped (a ∷ list) =
      by (nat_le most_sockets (length (a ∷ list)))
      ∙ ap (λ k. if nat_le most_sockets k then without of (of (f a)) (map f (a ∷ list)) else map f (a ∷ list)) (sym (length_mapped f (a ∷ list)))
    where
      by : (t : Bool) → map f (if t then without number (number a) (a ∷ list) else a ∷ list) ≡ (if t then without of (of (f a)) (map f (a ∷ list)) else map f (a ∷ list))
      by true = without_mapped (number a) (a ∷ list) ∙ ap (λ n. without of n (map f (a ∷ list))) (sym (same a))
      by false = refl

  module _ (p : A → Bool) (q : B → Bool) (alike : (a : A) → q (f a) ≡ p a) where
    any_alike : (n : ℕ) (list : List A) → list_any (λ b. (of b == n) && q b) (map f list) ≡ list_any (λ a. (number a == n) && p a) list
    any_alike n [] = refl
    any_alike n (a ∷ list) =
        ap (λ t. ((of (f a) == n) && q (f a)) || t) (any_alike n list)
        ∙ ap (λ k. ((k == n) && q (f a)) || list_any (λ x. (number x == n) && p x) list) (same a)
        ∙ ap (λ t. ((number a == n) && t) || list_any (λ x. (number x == n) && p x) list) (alike a)

    none_alike : (list : List A) → All (λ a. p a ≡ false) list → All (λ b. q b ≡ false) (map f list)
    none_alike [] all = All-nil (λ b. q b ≡ false)
    none_alike (a ∷ list) all =
        All-cons (λ b. q b ≡ false) (f a) (map f list) (alike a ∙ All-head (λ x. p x ≡ false) a list all) (none_alike list (All-tail (λ x. p x ≡ false) a list all))

    least_alike : (n : ℕ) (list : List A) → All (λ a. p a ≡ true → n ≤ number a) list → All (λ b. q b ≡ true → n ≤ of b) (map f list)
    least_alike n [] all = All-nil (λ b. q b ≡ true → n ≤ of b)
    least_alike n (a ∷ list) all =
        All-cons (λ b. q b ≡ true → n ≤ of b) (f a) (map f list)
        (λ is. subst (λ k. n ≤ k) (sym (same a)) (All-head (λ x. p x ≡ true → n ≤ number x) a list all (sym (alike a) ∙ is)))
        (least_alike n list (All-tail (λ x. p x ≡ true → n ≤ number x) a list all))

    pub least_mapped : (list : List A) (found : Option ℕ) → IsLeast number p list found → IsLeast of q (map f list) found
    least_mapped list None least = none_alike list least
    least_mapped list (Some n) least = (any_alike n list ∙ least.0, least_alike n list least.1)

    pub closes_mapped : (result : Bool) (old new : List A) (made : List Entry) → ClosesLeast number p result old new made → ClosesLeast of q result (map f old) (map f new) made
    closes_mapped true old new made closes =
        (closes.0, closes.1, least_mapped old (Some closes.0) closes.2, ap (map f) closes.3 ∙ without_mapped closes.0 old)
    closes_mapped false old new made closes = (closes.0, least_mapped old None closes.1, ap (map f) closes.2)

    pub all_closed_mapped : (old new : List A) (made : List Entry) → ClosesAll number p old new made → ClosesAll of q (map f old) (map f new) made
    all_closed_mapped old new [] closes = ap (map f) closes
    all_closed_mapped old new (Close n ∷ made) closes = (
      map f closes.0,
      all_closed_mapped old closes.0 made closes.1,
      least_mapped closes.0 (Some n) closes.2,
      ap (map f) closes.3 ∙ without_mapped n closes.0,
    )
    all_closed_mapped old new (_ ∷ made) closes = absurd closes
