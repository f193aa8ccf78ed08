-- Lists of transfers of which no two are for one port of a guest.
use Rattle.std.proofs.Common.{◌≡◌, ℕ, zero, suc, ◌<◌, ◌&&◌, nat_eq, ltb, not, Bool, true, false, cond, List, [], ◌∷◌, ◌++◌, length, map, filter, find, position, take, drop, get_or, set}
use Rattle.std.proofs.Common.{slice_get, Some, None, option_map, refl, sym, ◌∙◌, ap, subst, arith}
use Rattle.std.specs.List.{position_or_len}
use Rattle.std.proofs.lemmas.Bool.Decides.{nat_tests}
use Rattle.std.proofs.lemmas.List.Folds.{find_at}
use Rattle.std.proofs.lemmas.Option.{slice_get_past, slice_get_read}
use Rattle.net_octets.specs.declared.Endpoint.{Endpoint}
use Rattle.slirp_settings.specs.Addresses.{address, endpoint}
use Rattle.slirp_settings.specs.Classes.{same_endpoint}
use Rattle.rules_tftp.specs.Transfers.{Transfer, is_for, sent_again, with_again, without}
use Rattle.rules_tftp.specs.Soundness.{AreApart}
use Rattle.rules_tftp.proofs.Naming.{both}

-- ---- endpoints

same_number : (n m : ℕ) → nat_eq n m ≡ true → n ≡ m
same_number n m is = grind (arith, nat_tests)

number_is : (n : ℕ) → nat_eq n n ≡ true
number_is n = grind (arith, nat_tests)

swap_number : (n m : ℕ) → nat_eq n m ≡ nat_eq m n
swap_number n m = grind (arith, nat_tests)

pub same_is : (a b : Endpoint) → same_endpoint a b ≡ true → a ≡ b
same_is a b is =
    let parts = both (nat_eq (address a) (address b)) (nat_eq a.port b.port) is in
    ap (λ n. endpoint n a.port) (same_number (address a) (address b) parts.0) ∙ ap (λ n. endpoint (address b) n) (same_number a.port b.port parts.1)

pub same_refl : (a : Endpoint) → same_endpoint a a ≡ true
same_refl a = ap (λ t. t && nat_eq a.port a.port) (number_is (address a)) ∙ number_is a.port

pub same_swap : (a b : Endpoint) → same_endpoint a b ≡ same_endpoint b a
same_swap a b = ap (λ t. t && nat_eq a.port b.port) (swap_number (address a) (address b)) ∙ ap (λ t. nat_eq (address b) (address a) && t) (swap_number a.port b.port)

-- ---- lists

module _ {X : Type 0} where
  -- the first that passes, where nothing stands before
  pub found_not : (p : X → Bool) (x : X) (xs : List X) → find p (x ∷ xs) ≡ None → (p x ≡ false) × (find p xs ≡ None)
  found_not p x xs is = by (p x) refl is
    where
      by : (b : Bool) → p x ≡ b → cond b (Some x) (find p xs) ≡ None → (p x ≡ false) × (find p xs ≡ None)
      by true e is = cc
      by false e is = (e, is)

  pub none_at : (p : X → Bool) (xs : List X) (i : ℕ) (d : X) → find p xs ≡ None → i < length xs → p (get_or xs i d) ≡ false
  none_at p [] i d none within = absurd (omega (arith, within))
  none_at p (x ∷ xs) zero d none within = (found_not p x xs none).0
  none_at p (x ∷ xs) (suc i) d none within = none_at p xs i d (found_not p x xs none).1 (omega (arith, within))

  pub find_filter_none : (p q : X → Bool) (xs : List X) → find p xs ≡ None → find p (filter q xs) ≡ None
  find_filter_none p q [] none = refl
  find_filter_none p q (x ∷ xs) none = let is = found_not p x xs none in by (q x) is.0 (find_filter_none p q xs is.1)
    where
      by : (b : Bool) → p x ≡ false → find p (filter q xs) ≡ None → find p (cond b (x ∷ filter q xs) (filter q xs)) ≡ None
      by true is rest = ap (λ t. cond t (Some x) (find p (filter q xs))) is ∙ rest
      by false is rest = rest

  -- of those that are left the first is the same, where each that passes is left
  pub find_left : (p q : X → Bool) → ((x : X) → p x ≡ true → q x ≡ true) → (xs : List X) → find p (filter q xs) ≡ find p xs
  find_left p q stays [] = refl
  find_left p q stays (x ∷ xs) = by (p x) refl (q x) refl (find_left p q stays xs)
    where
      by : (b : Bool) → p x ≡ b → (t : Bool) → q x ≡ t → find p (filter q xs) ≡ find p xs → find p (cond t (x ∷ filter q xs) (filter q xs)) ≡ cond b (Some x) (find p xs)
      by true e true s rest = ap (λ t. cond t (Some x) (find p (filter q xs))) e
      by true e false s rest = let left : q x ≡ true = stays x e in cc
      by false e true s rest = ap (λ t. cond t (Some x) (find p (filter q xs))) e ∙ rest
      by false e false s rest = rest

  pub find_push : (p : X → Bool) (xs : List X) (y : X) → find p xs ≡ None → p y ≡ false → find p (xs ++ (y ∷ [])) ≡ None
  find_push p [] y none other = ap (λ t. cond t (Some y) None) other
  find_push p (x ∷ xs) y none other = let is = found_not p x xs none in ap (λ t. cond t (Some x) (find p (xs ++ (y ∷ [])))) is.0 ∙ find_push p xs y is.1 other

  -- at a place
  pub position_none : (p : X → Bool) (xs : List X) → position p xs ≡ None → find p xs ≡ None
  position_none p xs is = find_at p xs ∙ by (ltb (position_or_len p xs) (length xs)) refl is
    where
      by : (b : Bool) → ltb (position_or_len p xs) (length xs) ≡ b → cond b (Some (position_or_len p xs)) None ≡ None → slice_get xs (position_or_len p xs) ≡ None
      by true e is = cc
      by false e is = slice_get_past xs (position_or_len p xs) (grind (arith, nat_tests, e))

  -- whatever stands where there is none
  pub any_past : (xs : List X) (i : ℕ) (d e : X) → i < length xs → get_or xs i d ≡ get_or xs i e
  any_past [] i d e within = absurd (omega (arith, within))
  any_past (x ∷ xs) zero d e within = refl
  any_past (x ∷ xs) (suc i) d e within = any_past xs i d e (omega (arith, within))

  any_default : (xs : List X) (i : ℕ) (d : X) → i < length xs → get_or xs i d ≡ get_or xs i (get_or xs i d)
  any_default xs i d within = any_past xs i d (get_or xs i d) within

  pub record IsPlaceOf (p : X → Bool) (xs : List X) (i : ℕ) : Type 0 where
    pub within : i < length xs
    pub first : (d : X) → find p xs ≡ Some (get_or xs i d)

  pub position_some : (p : X → Bool) (xs : List X) (i : ℕ) → position p xs ≡ Some i → IsPlaceOf p xs i
  position_some p xs i is = by (ltb (position_or_len p xs) (length xs)) refl is
    where
      by : (b : Bool) → ltb (position_or_len p xs) (length xs) ≡ b → cond b (Some (position_or_len p xs)) None ≡ Some i → IsPlaceOf p xs i
      by true e is =
          let same : position_or_len p xs ≡ i = cc in
          let here : position_or_len p xs < length xs = grind (arith, nat_tests, e) in
          let low : i < length xs = subst (λ n. n < length xs) same here in
          record { within = low; first = λ d. find_at p xs ∙ ap (slice_get xs) same ∙ slice_get_read xs (length xs) i (get_or xs i d) refl low (any_default xs i d low) }
      by false e is = cc

module _ {X Y : Type 0} (f : X → Y) where
  pub find_map : (p : Y → Bool) (xs : List X) → find p (map f xs) ≡ option_map f (find (λ x. p (f x)) xs)
  find_map p [] = refl
  find_map p (x ∷ xs) = by (p (f x)) (find_map p xs)
    where
      by : (b : Bool) → find p (map f xs) ≡ option_map f (find (λ x. p (f x)) xs) → cond b (Some (f x)) (find p (map f xs)) ≡ option_map f (cond b (Some x) (find (λ x. p (f x)) xs))
      by true is = refl
      by false is = is

  pub filter_map_is : (p : Y → Bool) (xs : List X) → filter p (map f xs) ≡ map f (filter (λ x. p (f x)) xs)
  filter_map_is p [] = refl
  filter_map_is p (x ∷ xs) = by (p (f x)) (filter_map_is p xs)
    where
      by : (b : Bool) → filter p (map f xs) ≡ map f (filter (λ x. p (f x)) xs) → cond b (f x ∷ filter p (map f xs)) (filter p (map f xs)) ≡ map f
          (cond b (x ∷ filter (λ x. p (f x)) xs) (filter (λ x. p (f x)) xs))
      by true is = ap (λ (ys : List Y). f x ∷ ys) is
      by false is = is

-- ---- transfers

pub none_without : (guest : Endpoint) (ts : List Transfer) → find (is_for guest) (without guest ts) ≡ None
none_without guest [] = refl
none_without guest (t ∷ ts) = by (is_for guest t) refl (none_without guest ts)
  where
    by : (b : Bool) → is_for guest t ≡ b → find (is_for guest) (without guest ts) ≡ None → find (is_for guest) (cond (not b) (t ∷ without guest ts) (without guest ts)) ≡ None
    by true e rest = rest
    by false e rest = ap (λ s. cond s (Some t) (find (is_for guest) (without guest ts))) e ∙ rest

pub without_none : (guest : Endpoint) (ts : List Transfer) → find (is_for guest) ts ≡ None → without guest ts ≡ ts
without_none guest [] none = refl
without_none guest (t ∷ ts) none =
    let is = found_not (is_for guest) t ts none in
    ap (λ s. cond (not s) (t ∷ without guest ts) (without guest ts)) is.0 ∙ ap (λ (rest : List Transfer). t ∷ rest) (without_none guest ts is.1)

pub apart_filter : (q : Transfer → Bool) (ts : List Transfer) → AreApart ts → AreApart (filter q ts)
apart_filter q [] apart = tt
apart_filter q (t ∷ ts) apart = by (q t) (find_filter_none (is_for t.guest) q ts apart.0) (apart_filter q ts apart.1)
  where
    by : (b : Bool) → find (is_for t.guest) (filter q ts) ≡ None → AreApart (filter q ts) → AreApart (cond b (t ∷ filter q ts) (filter q ts))
    by true none rest = (none, rest)
    by false none rest = rest

pub apart_push : (ts : List Transfer) (u : Transfer) → AreApart ts → find (is_for u.guest) ts ≡ None → AreApart (ts ++ (u ∷ []))
apart_push [] u apart none = (refl, tt)
apart_push (t ∷ ts) u apart none =
    let is = found_not (is_for u.guest) t ts none in
    (find_push (is_for t.guest) ts u apart.0 (same_swap u.guest t.guest ∙ is.0), apart_push ts u apart.1 is.1)

-- changes that leave the guests
find_kept : (f : Transfer → Transfer) → ((t : Transfer) → (f t).guest ≡ t.guest) → (guest : Endpoint) (ts : List Transfer) → find (is_for guest) ts ≡ None → find (is_for guest) (map f ts) ≡ None
find_kept f keeps guest [] none = refl
find_kept f keeps guest (t ∷ ts) none =
    let is = found_not (is_for guest) t ts none in
    ap (λ s. cond s (Some (f t)) (find (is_for guest) (map f ts))) (ap (λ e. same_endpoint e guest) (keeps t) ∙ is.0) ∙ find_kept f keeps guest ts is.1

apart_kept : (f : Transfer → Transfer) → ((t : Transfer) → (f t).guest ≡ t.guest) → (ts : List Transfer) → AreApart ts → AreApart (map f ts)
apart_kept f keeps [] apart = tt
apart_kept f keeps (t ∷ ts) apart =
    (subst (λ (e : Endpoint). find (is_for e) (map f ts) ≡ None) (sym (keeps t)) (find_kept f keeps t.guest ts apart.0), apart_kept f keeps ts apart.1)

pub apart_again : (now : ℕ) (guest : Endpoint) (ts : List Transfer) → AreApart ts → AreApart (with_again now guest ts)
apart_again now guest ts apart = apart_kept (λ t. cond (is_for guest t) (sent_again now t) t) (λ t. by t (is_for guest t)) ts apart
  where
    by : (t : Transfer) (b : Bool) → (cond b (sent_again now t) t).guest ≡ t.guest
    by t true = refl
    by t false = refl

-- none is for the port of a later one
other_head : (t : Transfer) (ts : List Transfer) (guest : Endpoint) (i : ℕ) (d : Transfer) → AreApart (t ∷ ts) → i < length ts → is_for guest (get_or ts i d) ≡ true → is_for guest t ≡ false
other_head t ts guest i d apart within here = by (is_for guest t) refl
  where
    by : (b : Bool) → is_for guest t ≡ b → b ≡ false
    by false e = refl
    by true e =
        let same : t.guest ≡ guest = same_is t.guest guest e in
        let none : is_for guest (get_or ts i d) ≡ false = none_at (is_for guest) ts i d (subst (λ (g : Endpoint). find (is_for g) ts ≡ None) same apart.0) within in
        cc

pub removed : (guest : Endpoint) (ts : List Transfer) (i : ℕ) (d : Transfer) → i < length ts → is_for guest (get_or ts i d) ≡ true → AreApart ts → take i ts ++ drop (suc i) ts ≡ without guest ts
removed guest [] i d within here apart = absurd (omega (arith, within))
removed guest (t ∷ ts) zero d within here apart =
    let same : t.guest ≡ guest = same_is t.guest guest here in
    sym (ap (λ s. cond (not s) (t ∷ without guest ts) (without guest ts)) here ∙ without_none guest ts (subst (λ (g : Endpoint). find (is_for g) ts ≡ None) same apart.0))
removed guest (t ∷ ts) (suc i) d within here apart =
    let low : i < length ts = omega (arith, within) in
    ap (λ (rest : List Transfer). t ∷ rest) (removed guest ts i d low here apart.1)
    ∙ sym (ap (λ s. cond (not s) (t ∷ without guest ts) (without guest ts)) (other_head t ts guest i d apart low here))

again_none : (now : ℕ) (guest : Endpoint) (ts : List Transfer) → find (is_for guest) ts ≡ None → with_again now guest ts ≡ ts
again_none now guest [] none = refl
again_none now guest (t ∷ ts) none =
    let is = found_not (is_for guest) t ts none in
    ap (λ s. cond s (sent_again now t) t ∷ with_again now guest ts) is.0 ∙ ap (λ (rest : List Transfer). t ∷ rest) (again_none now guest ts is.1)

pub again_at : (now : ℕ) (ts : List Transfer) (i : ℕ) (d : Transfer) → i < length ts → AreApart ts → set ts i (sent_again now (get_or ts i d)) ≡ with_again now (get_or ts i d).guest ts
again_at now [] i d within apart = absurd (omega (arith, within))
again_at now (t ∷ ts) zero d within apart =
    sym (ap (λ s. cond s (sent_again now t) t ∷ with_again now t.guest ts) (same_refl t.guest) ∙ ap (λ (rest : List Transfer). sent_again now t ∷ rest) (again_none now t.guest ts apart.0))
again_at now (t ∷ ts) (suc i) d within apart =
    let low : i < length ts = omega (arith, within) in
    let u = get_or ts i d in
    ap (λ (rest : List Transfer). t ∷ rest) (again_at now ts i d low apart.1)
    ∙ sym (ap (λ s. cond s (sent_again now t) t ∷ with_again now u.guest ts) (other_head t ts u.guest i d apart low (same_refl u.guest)))
