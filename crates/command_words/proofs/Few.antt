-- Options of which none stands twice: there are no more than names, and one more may stand where its name isn't there.
use Rattle.std.proofs.Common.{◌≡◌, suc, ◌≤◌, Bool, true, false, cond, not, ◌||◌, List, [], ◌∷◌, ◌++◌, length, bytes_eq, Some, find, is_some, refl, sym, ap, subst, arith}
use Rattle.std.specs.List.{list_any, list_all}
use Rattle.std.specs.Option.{option_map}
use Rattle.slirp_settings.specs.Ranges.{none_twice}
use Rattle.command_words.specs.Options.{Word, Given, same_name, value_in}
use Rattle.command_words.proofs.Names.{same_text}
use Rattle.address_text.proofs.Parting.{both, pair}

pub neither : (x y : Bool) → x || y ≡ false → (x ≡ false) × (y ≡ false)
neither true y h = absurd (cc h)
neither false y h = (refl, h)

pub none_of : (x y : Bool) → x ≡ false → y ≡ false → x || y ≡ false
none_of true y hx hy = absurd (cc hx)
none_of false y hx hy = hy

pub refuted : (x : Bool) → not x ≡ true → x ≡ false
refuted true h = absurd (cc h)
refuted false h = refl

pub shown_not : (x : Bool) → x ≡ false → not x ≡ true
shown_not true h = absurd (cc h)
shown_not false h = refl

module _ {X : Type 0} (p : X → Bool) where
  pub absent_at : (xs : List X) (y : X) (ys : List X) → list_any p (xs ++ y ∷ ys) ≡ false → p y ≡ false
  absent_at [] y ys h = (neither (p y) (list_any p ys) h).0
  absent_at (x ∷ xs) y ys h = absent_at xs y ys (neither (p x) (list_any p (xs ++ y ∷ ys)) h).1

  pub absent_end : (xs : List X) (y : X) → list_any p xs ≡ false → p y ≡ false → list_any p (xs ++ y ∷ []) ≡ false
  absent_end [] y h hy = none_of (p y) false hy refl
  absent_end (x ∷ xs) y h hy = let e = neither (p x) (list_any p xs) h in none_of (p x) (list_any p (xs ++ y ∷ [])) e.0 (absent_end xs y e.1 hy)

-- where none stands twice, none before it has its name
pub fresh_there : (o : List Given) (g : Given) (rest : List Given) → none_twice same_name (o ++ g ∷ rest) ≡ true → is_some (value_in o g.name) ≡ false
fresh_there [] g rest once = refl
fresh_there (x ∷ xs) g rest once =
    let parts = both (not (list_any (same_name x) (xs ++ g ∷ rest))) (none_twice same_name (xs ++ g ∷ rest)) once in
    let other : bytes_eq x.name g.name ≡ false = absent_at (same_name x) xs g rest (refuted (list_any (same_name x) (xs ++ g ∷ rest)) parts.0) in
    rw other (fresh_there xs g rest parts.1)

-- one whose name isn't there stands once too
pub once_more : (o : List Given) (g : Given) → none_twice same_name o ≡ true → is_some (value_in o g.name) ≡ false → none_twice same_name (o ++ g ∷ []) ≡ true
once_more [] g once free = refl
once_more (x ∷ xs) g once free =
    let parts = both (not (list_any (same_name x) xs)) (none_twice same_name xs) once in
    let by_test : (t : Bool) → bytes_eq x.name g.name ≡ t → is_some (option_map (λ (given : Given). given.value) (cond t (Some x) (find (λ given. bytes_eq given.name g.name) xs)))
    ≡ false → none_twice same_name (x ∷ xs ++ g ∷ []) ≡ true = λ t.
    (elim t as (λ b. bytes_eq x.name g.name ≡ b → is_some (option_map (λ (given : Given). given.value) (cond b (Some x) (find (λ given. bytes_eq given.name g.name) xs))) ≡ false →
    none_twice same_name (x ∷ xs ++ g ∷ []) ≡ true) [
      | true ↦ λ yes h. absurd (cc h)
      | false ↦ λ no h.
          pair (not (list_any (same_name x) (xs ++ g ∷ []))) (none_twice same_name (xs ++ g ∷ []))
          (shown_not (list_any (same_name x) (xs ++ g ∷ [])) (absent_end (same_name x) xs g (refuted (list_any (same_name x) xs) parts.0) no))
          (once_more xs g parts.1 h)
    ]) in
    by_test (bytes_eq x.name g.name) refl free

-- the options of other names
abbrev without : Word → List Given → List Given
without n [] = []
without n (g ∷ gs) = cond (bytes_eq n g.name) (without n gs) (g ∷ without n gs)

abbrev known_in : List Word → Given → Bool
known_in names g = list_any (λ n. bytes_eq n g.name) names

unnamed : (n : Word) (gs : List Given) → list_any (λ (g : Given). bytes_eq n g.name) gs ≡ false → without n gs ≡ gs
unnamed n [] h = refl
unnamed n (g ∷ gs) h = let e = neither (bytes_eq n g.name) (list_any (λ (g : Given). bytes_eq n g.name) gs) h in rw e.0 (ap (λ t. g ∷ t) (unnamed n gs e.1))

-- one at most has the name
shorter : (n : Word) (gs : List Given) → none_twice same_name gs ≡ true → length gs ≤ suc (length (without n gs))
shorter n [] once = omega arith
shorter n (g ∷ gs) once =
    let parts = both (not (list_any (same_name g) gs)) (none_twice same_name gs) once in
    let by_test : (t : Bool) → bytes_eq n g.name ≡ t → suc (length gs) ≤ suc (length (cond t (without n gs) (g ∷ without n gs))) = λ t.
    (elim t as (λ b. bytes_eq n g.name ≡ b → suc (length gs) ≤ suc (length (cond b (without n gs) (g ∷ without n gs)))) [
      | true ↦ λ yes.
          let absent : list_any (λ (h : Given). bytes_eq n h.name) gs ≡ false = subst (λ (w : Word). list_any (λ (h : Given). bytes_eq w h.name) gs ≡ false)
          (sym (same_text n g.name yes)) (refuted (list_any (same_name g) gs) parts.0) in
          rw (unnamed n gs absent) (omega arith)
      | false ↦ λ no. let rest = shorter n gs parts.1 in omega (arith, rest)
    ]) in
    by_test (bytes_eq n g.name) refl

still_absent : (n : Word) (p : Given → Bool) (gs : List Given) → list_any p gs ≡ false → list_any p (without n gs) ≡ false
still_absent n p [] h = refl
still_absent n p (g ∷ gs) h =
    let e = neither (p g) (list_any p gs) h in
    elim (bytes_eq n g.name) as (λ b. list_any p (cond b (without n gs) (g ∷ without n gs)) ≡ false) [
      | true ↦ still_absent n p gs e.1
      | false ↦ none_of (p g) (list_any p (without n gs)) e.0 (still_absent n p gs e.1)
    ]

still_once : (n : Word) (gs : List Given) → none_twice same_name gs ≡ true → none_twice same_name (without n gs) ≡ true
still_once n [] once = refl
still_once n (g ∷ gs) once =
    let parts = both (not (list_any (same_name g) gs)) (none_twice same_name gs) once in
    elim (bytes_eq n g.name) as (λ b. none_twice same_name (cond b (without n gs) (g ∷ without n gs)) ≡ true) [
      | true ↦ still_once n gs parts.1
      | false ↦
          pair (not (list_any (same_name g) (without n gs))) (none_twice same_name (without n gs))
          (shown_not (list_any (same_name g) (without n gs)) (still_absent n (same_name g) gs (refuted (list_any (same_name g) gs) parts.0)))
          (still_once n gs parts.1)
    ]

left_known : (n : Word) (names : List Word) (gs : List Given) → list_all (known_in (n ∷ names)) gs ≡ true → list_all (known_in names) (without n gs) ≡ true
left_known n names [] h = refl
left_known n names (g ∷ gs) h =
    let parts = both (known_in (n ∷ names) g) (list_all (known_in (n ∷ names)) gs) h in
    let by_test : (t : Bool) → t || known_in names g ≡ true → list_all (known_in names) (cond t (without n gs) (g ∷ without n gs)) ≡ true = λ t.
    (elim t as (λ b. b || known_in names g ≡ true → list_all (known_in names) (cond b (without n gs) (g ∷ without n gs)) ≡ true) [
      | true ↦ λ k. left_known n names gs parts.1
      | false ↦ λ k. pair (known_in names g) (list_all (known_in names) (without n gs)) k (left_known n names gs parts.1)
    ]) in
    by_test (bytes_eq n g.name) parts.0

pub few : (names : List Word) (gs : List Given) → none_twice same_name gs ≡ true → list_all (known_in names) gs ≡ true → length gs ≤ length names
few [] [] once known = omega arith
few [] (g ∷ gs) once known = absurd (cc known)
few (n ∷ names) gs once known =
    let fewer = few names (without n gs) (still_once n gs once) (left_known n names gs known) in
    let one = shorter n gs once in
    omega (arith, fewer, one)
