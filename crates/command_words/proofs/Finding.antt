-- The first of a list that passes a test, through a map; facts by cases that are weakened.
use Rattle.std.proofs.Common.{◌≡◌, Bool, true, false, cond, List, [], ◌∷◌, map, Option, Some, None, MatchOption, Result, Ok, Err, OnErr, find, bytes_eq, refl, sym, ◌∙◌, ap, subst}
use Rattle.std.specs.Option.{option_map}
use Rattle.command_words.specs.declared.line.Given.{Given as GivenHere}
use Rattle.command_words.specs.Options.{Word, value_in}
use Rattle.command_words.specs.Walking.{given_of}

module _ {X Y Z : Type 0} where
  pub first_mapped : (f : X → Y) (g : Y → Z) (p : Y → Bool) (xs : List X) → option_map g (find p (map f xs)) ≡ option_map (λ x. g (f x)) (find (λ x. p (f x)) xs)
  first_mapped f g p [] = refl
  first_mapped f g p (x ∷ xs) = elim (p (f x)) as (λ b. option_map g (cond b (Some (f x)) (find p (map f xs))) ≡ option_map (λ y. g (f y)) (cond b (Some x) (find (λ y. p (f y)) xs))) [
    | true ↦ refl
    | false ↦ first_mapped f g p xs
  ]

pub value_is : (items : List GivenHere) (name : Word) (found : Option GivenHere) → found ≡ find (λ given. bytes_eq given.name.now name) items → option_map
    (λ (given : GivenHere). given.value.now) found ≡ value_in (map given_of items) name
value_is items name found is = ap (option_map (λ (given : GivenHere). given.value.now)) is ∙ sym (first_mapped given_of (λ given. given.value) (λ given. bytes_eq given.name name) items)

module _ {X : Type 0} where
  pub match_default : (o : Option X) (D E : Type 0) (P : X → Type 0) → (D → E) → MatchOption o D P → MatchOption o E P
  match_default None D E P f m = f m
  match_default (Some x) D E P f m = m

  -- where there is a value the fact is that of the value
  pub match_some : (o : Option X) (x : X) (D : Type 0) (P : X → Type 0) → o ≡ Some x → MatchOption o D P → P x
  match_some None x D P is m = absurd (cc is)
  match_some (Some y) x D P is m = subst P (let same : y ≡ x = cc in same) m

module _ {T E : Type 0} where
  pub on_err : (r : Result T E) (P Q : Type 0) → (P → Q) → OnErr r P → OnErr r Q
  on_err (Ok t) P Q f h = tt
  on_err (Err e) P Q f h = f h
