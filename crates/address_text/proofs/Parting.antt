-- Texts that come apart in one way only: octets of a kind, and the first octet that is of another.
use Rattle.std.proofs.Common.{◌≡◌, ℕ, suc, ◌+◌, ◌-◌, ◌^◌, ◌<◌, ◌≤◌, Bool, true, false, cond, ◌&&◌, eqb, ltb, leb, List, [], ◌∷◌, ◌++◌, length, take, drop, get_or, position, decimal, Some}
use Rattle.std.proofs.Common.{None, refl, sym, ◌∙◌, ap, subst, arith, length-drop, drop-cons, add-one}
use Rattle.std.specs.List.{list_all, position_or_len, prefix_len}
use Rattle.std.specs.Str.Parse.{AllDigits}
use Rattle.std.specs.Char.{digit_value}
use Rattle.std.proofs.lemmas.Bool.Decides.{nat_tests}
use Rattle.std.proofs.lemmas.Fmt.{decimal_is_IsNumeral}
use Rattle.std.proofs.lemmas.List.{take-append-drop, take_all}
use Rattle.std.proofs.lemmas.List.Quantifiers.{position-Some}
use Rattle.address_text.specs.Texts.{is_other}

abbrev pub is_digit : ℕ → Bool
is_digit c = leb 48 c && leb c 57

pub both : (x y : Bool) → x && y ≡ true → (x ≡ true) × (y ≡ true)
both true y h = (refl, h)
both false y h = absurd (cc h)

pub pair : (x y : Bool) → x ≡ true → y ≡ true → x && y ≡ true
pair true y hx hy = hy
pair false y hx hy = absurd (cc hx)

pub fit_append : (p : ℕ → Bool) (xs ys : List ℕ) → list_all p xs ≡ true → list_all p ys ≡ true → list_all p (xs ++ ys) ≡ true
fit_append p [] ys hx hy = hy
fit_append p (x ∷ xs) ys hx hy = let h = both (p x) (list_all p xs) hx in pair (p x) (list_all p (xs ++ ys)) h.0 (fit_append p xs ys h.1 hy)

pub fit_weaker : (p q : ℕ → Bool) → ((x : ℕ) → p x ≡ true → q x ≡ true) → (xs : List ℕ) → list_all p xs ≡ true → list_all q xs ≡ true
fit_weaker p q w [] h = refl
fit_weaker p q w (x ∷ xs) h = let e = both (p x) (list_all p xs) h in pair (q x) (list_all q xs) (w x e.0) (fit_weaker p q w xs e.1)

-- the first octet that isn't of the kind parts a text in one way
pub parts_once : (octet : ℕ) (p : ℕ → Bool) → p octet ≡ false → (a b r s : List ℕ) → list_all p a ≡ true → list_all p b ≡ true → a ++ octet ∷ r ≡ b ++ octet ∷ s → (a ≡ b) × (r ≡ s)
parts_once octet p out [] [] r s ha hb is = (refl, cc)
parts_once octet p out [] (y ∷ b) r s ha hb is =
    let here : octet ≡ y = cc in
    let yes : p y ≡ true = (both (p y) (list_all p b) hb).0 in
    let no_y : p y ≡ false = subst (λ (z : ℕ). p z ≡ false) here out in
    absurd (cc (sym yes ∙ no_y))
parts_once octet p out (x ∷ a) [] r s ha hb is =
    let here : octet ≡ x = cc in
    let yes : p x ≡ true = (both (p x) (list_all p a) ha).0 in
    let no_x : p x ≡ false = subst (λ (z : ℕ). p z ≡ false) here out in
    absurd (cc (sym yes ∙ no_x))
parts_once octet p out (x ∷ a) (y ∷ b) r s ha hb is =
    let head : x ≡ y = cc in
    let tail : a ++ octet ∷ r ≡ b ++ octet ∷ s = cc in
    let rest = parts_once octet p out a b r s (both (p x) (list_all p a) ha).1 (both (p y) (list_all p b) hb).1 tail in
    let same : x ∷ a ≡ y ∷ b = cc in
    (same, rest.1)

-- digits of a number
digit_from : (c : ℕ) → digit_value c < 10 → is_digit c ≡ true
digit_from c h = grind (arith, nat_tests)

digits_from : (xs : List ℕ) → AllDigits 10 xs → list_all is_digit xs ≡ true
digits_from [] h = refl
digits_from (x ∷ xs) h = pair (is_digit x) (list_all is_digit xs) (digit_from x h.0) (digits_from xs h.1)

pub decimal_digits : (n : ℕ) → n < 2 ^ 64 → list_all is_digit (decimal n) ≡ true
decimal_digits n small = digits_from (decimal n) (decimal_is_IsNumeral n small).0.1

pub digit_is_no_dot : (c : ℕ) → is_digit c ≡ true → is_other 46 c ≡ true
digit_is_no_dot c h = grind (arith, nat_tests)

pub digit_is_no_colon : (c : ℕ) → is_digit c ≡ true → is_other 58 c ≡ true
digit_is_no_colon c h = grind (arith, nat_tests)

pub digit_is_no_dash : (c : ℕ) → is_digit c ≡ true → is_other 45 c ≡ true
digit_is_no_dash c h = grind (arith, nat_tests)

pub digit_is_no_slash : (c : ℕ) → is_digit c ≡ true → is_other 47 c ≡ true
digit_is_no_slash c h = grind (arith, nat_tests)

-- the first such octet parts a text in two
pub split_place : (text : List ℕ) (octet at : ℕ) → position (λ x. eqb x octet) text ≡ Some at → text ≡ take at text ++ octet ∷ take (length text - (at + 1)) (drop (at + 1) text)
split_place text octet at is =
    let found = position-Some (λ x. eqb x octet) text at 0 is in
    let here : get_or text at 0 ≡ octet = grind (arith, nat_tests, found.1) in
    let tail : take (length text - (at + 1)) (drop (at + 1) text) ≡ drop (at + 1) text = take_all (length text - (at + 1)) (drop (at + 1) text) (omega (arith, length-drop (at + 1) text)) in
    rw tail
    (sym (take-append-drop at text) ∙ ap (λ t. take at text ++ t) (drop-cons text at 0 found.0 ∙ ap (λ x. x ∷ drop (suc at) text) here ∙ ap (λ n. octet ∷ drop n text) (sym (add-one at))))

own_octet : (octet : ℕ) → is_other octet octet ≡ false
own_octet octet = grind (arith, nat_tests)

-- where an octet stands nowhere, no part ends with it
pub no_part : (octet : ℕ) (text a r : List ℕ) → list_all (is_other octet) text ≡ true → text ≡ a ++ octet ∷ r → ⊥
no_part octet [] [] r h is = cc is
no_part octet [] (y ∷ a) r h is = cc is
no_part octet (x ∷ text) [] r h is =
    let here : x ≡ octet = cc in
    let no : is_other octet x ≡ false = subst (λ (c : ℕ). is_other octet c ≡ false) (sym here) (own_octet octet) in
    absurd (cc (sym (both (is_other octet x) (list_all (is_other octet) text) h).0 ∙ no))
no_part octet (x ∷ text) (y ∷ a) r h is =
    let tail : text ≡ a ++ octet ∷ r = cc in
    no_part octet text a r (both (is_other octet x) (list_all (is_other octet) text) h).1 tail

front_fits : (p : ℕ → Bool) (text : List ℕ) → list_all p (take (prefix_len p text) text) ≡ true
front_fits p [] = refl
front_fits p (x ∷ xs) = elim (p x) as (λ b. p x ≡ b → list_all p (take (cond b (1 + prefix_len p xs) 0) (x ∷ xs)) ≡ true) [
  | true ↦ λ is. let one : 1 + prefix_len p xs ≡ suc (prefix_len p xs) = omega arith in rw one (pair (p x) (list_all p (take (prefix_len p xs) xs)) is (front_fits p xs))
  | false ↦ λ is. refl
] refl

before_place : (octet : ℕ) (text : List ℕ) → list_all (is_other octet) (take (position_or_len (λ x. eqb x octet) text) text) ≡ true
before_place octet text = front_fits (is_other octet) text

some_place : (n m at : ℕ) → cond (ltb n m) (Some n) None ≡ Some at → n ≡ at
some_place n m at is = grind arith

no_place : (n m : ℕ) → cond (ltb n m) (Some n) None ≡ None → m ≤ n
no_place n m is = grind (arith, nat_tests)

pub first_lacks : (octet at : ℕ) (text : List ℕ) → position (λ x. eqb x octet) text ≡ Some at → list_all (is_other octet) (take at text) ≡ true
first_lacks octet at text is = subst (λ (n : ℕ). list_all (is_other octet) (take n text) ≡ true) (some_place (position_or_len (λ x. eqb x octet) text) (length text) at is) (before_place octet text)

pub text_lacks : (octet : ℕ) (text : List ℕ) → position (λ x. eqb x octet) text ≡ None → list_all (is_other octet) text ≡ true
text_lacks octet text is =
    subst (λ (t : List ℕ). list_all (is_other octet) t ≡ true) (take_all (position_or_len (λ x. eqb x octet) text) text (no_place (position_or_len (λ x. eqb x octet) text)
    (length text) is)) (before_place octet text)
