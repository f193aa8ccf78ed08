-- Options that are given: the one that is put last, and those that each name has.
use Rattle.std.proofs.Common.{◌≡◌, Bool, true, false, cond, ◌||◌, List, [], ◌∷◌, ◌++◌, bytes_eq, Some, None, is_some, find, refl}
use Rattle.std.specs.Option.{option_map}
use Rattle.command_words.specs.Options.{Word, Given, value_in}
use Rattle.command_words.proofs.Names.{own_text}

-- a name that is given with one option more
pub more_given : (o : List Given) (g : Given) (name : Word) → is_some (value_in (o ++ g ∷ []) name) ≡ is_some (value_in o name) || bytes_eq g.name name
more_given [] g name = elim (bytes_eq g.name name) as (λ b. is_some (option_map (λ (given : Given). given.value) (cond b (Some g) None)) ≡ b) [
  | true ↦ refl
  | false ↦ refl
]
more_given (x ∷ xs) g name = elim (bytes_eq x.name name) as (λ b.
    is_some (option_map (λ (given : Given). given.value) (cond b (Some x) (find (λ given. bytes_eq given.name name) (xs ++ g ∷ []))))
    ≡ is_some (option_map (λ (given : Given). given.value) (cond b (Some x) (find (λ given. bytes_eq given.name name) xs))) || bytes_eq g.name name) [
      | true ↦ refl
      | false ↦ more_given xs g name
    ]

-- the one that is found by its name, behind others of which none has it
pub value_there : (front : List Given) (g : Given) (rest : List Given) → is_some (value_in front g.name) ≡ false → value_in (front ++ g ∷ rest) g.name ≡ Some g.value
value_there [] g rest free = rw (own_text g.name) refl
value_there (x ∷ xs) g rest free = by_test (value_there xs g rest) (bytes_eq x.name g.name) refl free
  where
    by_test : (is_some (value_in xs g.name) ≡ false → value_in (xs ++ g ∷ rest) g.name ≡ Some g.value) → (t : Bool) → bytes_eq x.name g.name ≡ t → is_some
        (option_map (λ (given : Given). given.value) (cond t (Some x) (find (λ given. bytes_eq given.name g.name) xs))) ≡ false → value_in (x ∷ xs ++ g ∷ rest) g.name ≡ Some g.value
    by_test behind true e h = absurd (cc h)
    by_test behind false e h = rw e (behind h)
