-- Texts that are cut off one after another.
use Rattle.std.proofs.Common.{◌≡◌, ℕ, suc, ◌+◌, ◌==◌, not, Bool, true, false, cond, ltb, List, [], ◌∷◌, ◌++◌, length, take, drop, position, Option, Some, None, is_some, unwrap_or}
use Rattle.std.proofs.Common.{option_map, refl, sym, ◌∙◌, ap, arith, append_assoc, append-nil}
use Rattle.std.specs.List.{position_or_len}
use Rattle.std.specs.Option.{option_and_then}
use Rattle.std.proofs.lemmas.Bool.Decides.{nat_tests}
use Rattle.rules_tftp.specs.Packets.{Request, pairs_of, parts_from, request_in, request_of, texts_from, texts_in}
use Rattle.tftp_server.specs.Reading.{are_pairs, cut, first_pair, options_of, pair_with, pairs_in, with_front}

-- the parts at a place
abbrev pub parts_at : List ℕ → ℕ → List ℕ × List ℕ
parts_at xs i = (take i xs, drop (i + 1) xs)

-- an octet more before the place
shift : (x : ℕ) (xs : List ℕ) (n : ℕ) (t : Bool)
    → option_map (with_front x) (cond t (Some (parts_at xs n)) None) ≡ cond t (Some (with_front x (parts_at xs n))) None
shift x xs n true = refl
shift x xs n false = refl

-- the cut is at the first place that has the octet
pub cut_by : (octet : ℕ) (xs : List ℕ) → cut octet xs ≡ option_map (parts_at xs) (position (λ x. x == octet) xs)
cut_by octet xs = at_place xs ∙ mapped xs (position_or_len (λ x. x == octet) xs) (ltb (position_or_len (λ x. x == octet) xs) (length xs))
  where
    mapped : (xs : List ℕ) (n : ℕ) (t : Bool) → cond t (Some (parts_at xs n)) None ≡ option_map (parts_at xs) (cond t (Some n) None)
    mapped xs n true = refl
    mapped xs n false = refl

    at_place : (xs : List ℕ)
        → cut octet xs ≡ cond (ltb (position_or_len (λ x. x == octet) xs) (length xs)) (Some (parts_at xs (position_or_len (λ x. x == octet) xs))) None
    at_place [] = refl
    at_place (x ∷ xs) = by (x == octet) (position_or_len (λ x. x == octet) xs) (at_place xs)
      where
        by : (b : Bool) (n : ℕ) → cut octet xs ≡ cond (ltb n (length xs)) (Some (parts_at xs n)) None
            → cond b (Some ([], xs)) (option_map (with_front x) (cut octet xs))
            ≡ cond (ltb (cond (not b) (1 + n) 0) (length (x ∷ xs))) (Some (parts_at (x ∷ xs) (cond (not b) (1 + n) 0))) None
        by true n is =
            let some : ltb 0 (length (x ∷ xs)) ≡ true = grind (arith, nat_tests) in
            rw some refl
        by false n is =
            let one : 1 + n ≡ suc n = omega arith in
            let two : suc n + 1 ≡ suc (n + 1) = omega arith in
            let less : ltb (suc n) (length (x ∷ xs)) ≡ ltb n (length xs) = grind (arith, nat_tests) in
            rw (one, two, less) (ap (option_map (with_front x)) is ∙ shift x xs n (ltb n (length xs)))

-- ---- texts

-- what texts are left where there is no 0 any more
abbrev pub last_text : List ℕ → List ℕ → Option (List (List ℕ))
last_text [] [] = Some []
last_text [] (x ∷ xs) = None
last_text (y ∷ text) [] = None
last_text (y ∷ text) (x ∷ xs) = None

abbrev pub texts_after : List ℕ → List ℕ → Option (List ℕ × List ℕ) → Option (List (List ℕ))
texts_after text xs None = last_text text xs
texts_after text xs (Some parts) = option_map (λ texts. (text ++ parts.0) ∷ texts) (texts_in parts.1)

texts_more : (text : List ℕ) (x : ℕ) (xs : List ℕ)
    → texts_from text (x ∷ xs) ≡ cond (x == 0) (option_map (λ texts. text ∷ texts) (texts_from [] xs)) (texts_from (text ++ (x ∷ [])) xs)
texts_more [] x xs = refl
texts_more (y ∷ text) x xs = refl

pub texts_by : (text xs : List ℕ) → texts_from text xs ≡ texts_after text xs (cut 0 xs)
texts_by [] [] = refl
texts_by (y ∷ text) [] = refl
texts_by text (x ∷ xs) = texts_more text x xs ∙ by (x == 0) (cut 0 xs) (texts_by (text ++ (x ∷ [])) xs)
  where
    unended : (text : List ℕ) (xs : List ℕ) → last_text (text ++ (x ∷ [])) xs ≡ last_text text (x ∷ xs)
    unended [] [] = refl
    unended [] (z ∷ xs) = refl
    unended (y ∷ text) [] = refl
    unended (y ∷ text) (z ∷ xs) = refl

    by : (b : Bool) (c : Option (List ℕ × List ℕ)) → texts_from (text ++ (x ∷ [])) xs ≡ texts_after (text ++ (x ∷ [])) xs c
        → cond b (option_map (λ texts. text ∷ texts) (texts_from [] xs)) (texts_from (text ++ (x ∷ [])) xs)
        ≡ texts_after text (x ∷ xs) (cond b (Some ([], xs)) (option_map (with_front x) c))
    by true c is = ap (λ (t : List ℕ). option_map (λ texts. t ∷ texts) (texts_in xs)) (sym (append-nil text))
    by false None is = is ∙ unended text xs
    by false (Some parts) is = is ∙ ap (λ (t : List ℕ). option_map (λ texts. t ∷ texts) (texts_in parts.1)) (append_assoc text (x ∷ []) parts.0)

-- ---- pairs

abbrev pub no_pairs : List ℕ → Option (List (List ℕ × List ℕ))
no_pairs [] = Some []
no_pairs (x ∷ xs) = None

abbrev pub pairs_after : List ℕ → Option (List ℕ × List ℕ × List ℕ) → Option (List (List ℕ × List ℕ))
pairs_after xs None = no_pairs xs
pairs_after xs (Some p) = option_map (λ (pairs : List (List ℕ × List ℕ)). (p.0, p.1) ∷ pairs) (pairs_in p.2)

pub pairs_by : (xs : List ℕ) → pairs_in xs ≡ pairs_after xs (first_pair xs)
pairs_by xs = ap (option_and_then pairs_of) (texts_by [] xs) ∙ by xs (cut 0 xs) refl
  where
    paired : (a b : List ℕ) (t : Option (List (List ℕ))) → option_and_then pairs_of (option_map (λ texts. a ∷ texts) (option_map (λ texts. b ∷ texts) t)) ≡ option_map
        (λ (pairs : List (List ℕ × List ℕ)). (a, b) ∷ pairs) (option_and_then pairs_of t)
    paired a b None = refl
    paired a b (Some texts) = refl

    alone : (a xs : List ℕ) → option_and_then pairs_of (option_map (λ texts. a ∷ texts) (last_text [] xs)) ≡ None
    alone a [] = refl
    alone a (x ∷ xs) = refl

    second : (y : ℕ) (ys a rest : List ℕ) (d : Option (List ℕ × List ℕ))
        → option_and_then pairs_of (option_map (λ texts. a ∷ texts) (texts_after [] rest d)) ≡ pairs_after (y ∷ ys) (option_map (pair_with a) d)
    second y ys a rest None = alone a rest
    second y ys a rest (Some value) = paired a value.0 (texts_in value.1)

    by : (xs : List ℕ) (c : Option (List ℕ × List ℕ)) → cut 0 xs ≡ c
        → option_and_then pairs_of (texts_after [] xs c)
        ≡ pairs_after xs (option_and_then (λ (parts : List ℕ × List ℕ). option_map (pair_with parts.0) (cut 0 parts.1)) c)
    by [] None is = refl
    by (y ∷ ys) None is = refl
    by [] (Some parts) is = cc
    by (y ∷ ys) (Some parts) is =
        ap (λ (t : Option (List (List ℕ))). option_and_then pairs_of (option_map (λ texts. parts.0 ∷ texts) t)) (texts_by [] parts.1) ∙ second y ys parts.0 parts.1 (cut 0 parts.1)

pub pairs_more : (xs : List ℕ) (p : List ℕ × List ℕ × List ℕ) → first_pair xs ≡ Some p → are_pairs xs ≡ are_pairs p.2
pairs_more xs p is = ap is_some (pairs_by xs ∙ ap (pairs_after xs) is) ∙ same (pairs_in p.2)
  where
    same : (pairs : Option (List (List ℕ × List ℕ))) → is_some (option_map (λ (pairs : List (List ℕ × List ℕ)). (p.0, p.1) ∷ pairs) pairs) ≡ is_some pairs
    same None = refl
    same (Some pairs) = refl

pub pairs_end : (xs : List ℕ) → first_pair xs ≡ None → are_pairs xs ≡ (length xs == 0)
pairs_end xs is = ap is_some (pairs_by xs ∙ ap (pairs_after xs) is) ∙ empty xs
  where
    empty : (xs : List ℕ) → is_some (no_pairs xs) ≡ (length xs == 0)
    empty [] = refl
    empty (x ∷ xs) = sym (grind (arith, nat_tests))

-- the options that are left
pub options_more : (xs : List ℕ) (p : List ℕ × List ℕ × List ℕ) → first_pair xs ≡ Some p → are_pairs xs ≡ true → options_of xs ≡ (p.0, p.1) ∷ options_of p.2
options_more xs p is there = by (pairs_in p.2) (pairs_in xs) (pairs_by xs ∙ ap (pairs_after xs) is) there
  where
    by : (rest all : Option (List (List ℕ × List ℕ))) → all ≡ option_map (λ (pairs : List (List ℕ × List ℕ)). (p.0, p.1) ∷ pairs) rest → is_some all ≡ true
        → unwrap_or all [] ≡ (p.0, p.1) ∷ unwrap_or rest []
    by None all is there = let none : is_some all ≡ false = ap is_some is in cc
    by (Some pairs) all is there = ap (λ o. unwrap_or o []) is

pub options_end : (xs : List ℕ) → first_pair xs ≡ None → are_pairs xs ≡ true → options_of xs ≡ []
options_end xs is there = by (pairs_in xs) xs (pairs_by xs ∙ ap (pairs_after xs) is) there
  where
    by : (all : Option (List (List ℕ × List ℕ))) (xs : List ℕ) → all ≡ no_pairs xs → is_some all ≡ true → unwrap_or all [] ≡ []
    by all [] is there = ap (λ o. unwrap_or o []) is
    by all (x ∷ xs) is there = let none : is_some all ≡ false = ap is_some is in cc

-- ---- a request

abbrev pub made : List ℕ → List ℕ → List (List ℕ × List ℕ) → Request
made name mode options = record { name = name; mode = mode; options = options }

abbrev pub request_with : List ℕ → Option (List ℕ × List ℕ) → Option Request
request_with name c = option_and_then (λ (b : List ℕ × List ℕ). option_map (made name b.0) (pairs_in b.1)) c

abbrev pub request_by_parts : Option (List ℕ × List ℕ) → Option Request
request_by_parts c = option_and_then (λ (a : List ℕ × List ℕ). request_with a.0 (cut 0 a.1)) c

pub request_by : (xs : List ℕ) → request_in xs ≡ request_by_parts (cut 0 xs)
request_by xs = ap (option_and_then request_of) (texts_by [] xs) ∙ by (cut 0 xs)
  where
    none : (xs : List ℕ) → option_and_then request_of (last_text [] xs) ≡ None
    none [] = refl
    none (x ∷ xs) = refl

    alone : (a xs : List ℕ) → option_and_then request_of (option_map (λ texts. a ∷ texts) (last_text [] xs)) ≡ None
    alone a [] = refl
    alone a (x ∷ xs) = refl

    whole : (a b : List ℕ) (t : Option (List (List ℕ)))
        → option_and_then request_of (option_map (λ texts. a ∷ texts) (option_map (λ texts. b ∷ texts) t)) ≡ option_map (made a b) (option_and_then pairs_of t)
    whole a b None = refl
    whole a b (Some texts) = refl

    second : (a rest : List ℕ) (d : Option (List ℕ × List ℕ)) → option_and_then request_of (option_map (λ texts. a ∷ texts) (texts_after [] rest d)) ≡ request_with a d
    second a rest None = alone a rest
    second a rest (Some b) = whole a b.0 (texts_in b.1)

    by : (c : Option (List ℕ × List ℕ)) → option_and_then request_of (texts_after [] xs c) ≡ request_by_parts c
    by None = none xs
    by (Some a) = ap (λ (t : Option (List (List ℕ))). option_and_then request_of (option_map (λ texts. a.0 ∷ texts) t)) (texts_by [] a.1) ∙ second a.0 a.1 (cut 0 a.1)

-- with its options, where they are pairs
pub request_whole : (name mode options : List ℕ) → are_pairs options ≡ true → Some (made name mode (options_of options)) ≡ request_with name (Some (mode, options))
request_whole name mode options there = by (pairs_in options) there
  where
    by : (pairs : Option (List (List ℕ × List ℕ))) → is_some pairs ≡ true
        → Some (made name mode (unwrap_or pairs [])) ≡ option_map (made name mode) pairs
    by None is = cc
    by (Some pairs) is = refl

pub request_none : (name mode options : List ℕ) → are_pairs options ≡ false → None ≡ request_with name (Some (mode, options))
request_none name mode options there = by (pairs_in options) there
  where
    by : (pairs : Option (List (List ℕ × List ℕ))) → is_some pairs ≡ false → None ≡ option_map (made name mode) pairs
    by None is = refl
    by (Some pairs) is = cc

-- ---- parts of a name

abbrev pub parts_after : List ℕ → List ℕ → Option (List ℕ × List ℕ) → List (List ℕ)
parts_after part xs None = (part ++ xs) ∷ []
parts_after part xs (Some parts) = (part ++ parts.0) ∷ parts_from [] parts.1

pub parts_by : (part xs : List ℕ) → parts_from part xs ≡ parts_after part xs (cut 47 xs)
parts_by part [] = ap (λ (p : List ℕ). p ∷ []) (sym (append-nil part))
parts_by part (x ∷ xs) = by (x == 47) (cut 47 xs) (parts_by (part ++ (x ∷ [])) xs)
  where
    by : (b : Bool) (c : Option (List ℕ × List ℕ)) → parts_from (part ++ (x ∷ [])) xs ≡ parts_after (part ++ (x ∷ [])) xs c
        → cond b (part ∷ parts_from [] xs) (parts_from (part ++ (x ∷ [])) xs)
        ≡ parts_after part (x ∷ xs) (cond b (Some ([], xs)) (option_map (with_front x) c))
    by true c is = ap (λ (p : List ℕ). p ∷ parts_from [] xs) (sym (append-nil part))
    by false None is = is ∙ ap (λ (p : List ℕ). p ∷ []) (append_assoc part (x ∷ []) xs)
    by false (Some parts) is = is ∙ ap (λ (p : List ℕ). p ∷ parts_from [] parts.1) (append_assoc part (x ∷ []) parts.0)
