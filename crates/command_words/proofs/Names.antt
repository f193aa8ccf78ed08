-- Names of options: what they look like.
use Rattle.std.proofs.Common.{◌≡◌, Bool, true, false, not, ◌&&◌, List, [], ◌∷◌, bytes_eq, codes, Option, Some, find, refl, sym, ◌∙◌, ap, subst}
use Rattle.std.specs.List.{list_any, list_all}
use Rattle.std.specs.Option.{option_map}
use Rattle.std.proofs.lemmas.Slice.Eq.{bytes_eq-Decides}
use Rattle.command_words.specs.declared.options.Verb.{Verb}
use Rattle.command_words.specs.Options.{Word, Row, rows, has_value, is_row, takes_value, is_dashed}
use Rattle.address_text.specs.Texts.{is_other}
use Rattle.address_text.proofs.Parting.{both}

pub same_text : (a b : Word) → bytes_eq a b ≡ true → a ≡ b
same_text a b is = (bytes_eq-Decides a b).0 is

pub own_text : (a : Word) → bytes_eq a a ≡ true
own_text a = (bytes_eq-Decides a a).1 refl

-- a name begins with a dash, isn't `--` itself, and has no sign of equality
abbrev pub is_name : Word → Bool
is_name name = is_dashed name && not (bytes_eq name (codes "--")) && list_all (is_other 61) name

names_good : list_all (λ row. is_name row.name) rows ≡ true
names_good = refl

module _ (verb : Verb) (name : Word) where
  found : (rs : List Row) (b : Bool) → list_all (λ row. is_name row.name) rs ≡ true → option_map has_value (option_map (λ row. row.kind) (find (is_row verb name) rs)) ≡ Some b →
      (is_name name ≡ true) × (list_any (λ row. bytes_eq row.name name) rs ≡ true)
  found [] b good is = absurd (cc is)
  found (r ∷ rs) b good is =
      let parts = both (is_name r.name) (list_all (λ row. is_name row.name) rs) good in
      let tested : (t : Bool) → bytes_eq r.name name ≡ t → (is_name name ≡ true) × (list_any (λ row. bytes_eq row.name name) (r ∷ rs) ≡ true) = λ t e.
      (elim t as (λ x. bytes_eq r.name name ≡ x → (is_name name ≡ true) × (list_any (λ row. bytes_eq row.name name) (r ∷ rs) ≡ true)) [
        | true ↦ λ yes. (subst (λ (n : Word). is_name n ≡ true) (same_text r.name name yes) parts.0, rw yes refl)
        | false ↦ λ no.
            let skipped : find (is_row verb name) (r ∷ rs) ≡ find (is_row verb name) rs = rw no refl in
            let rest = found rs b parts.1 (sym (ap (λ (o : Option Row). option_map has_value (option_map (λ (row : Row). row.kind) o)) skipped) ∙ is) in
            (rest.0, rw no rest.1)
      ]) e in
      tested (bytes_eq r.name name) refl

  pub name_is : (b : Bool) → takes_value verb name ≡ Some b → is_name name ≡ true
  name_is b is = (found rows b names_good is).0

  pub name_known : (b : Bool) → takes_value verb name ≡ Some b → list_any (λ row. bytes_eq row.name name) rows ≡ true
  name_known b is = (found rows b names_good is).1

  pub dashed_name : (b : Bool) → takes_value verb name ≡ Some b → is_dashed name ≡ true
  dashed_name b is =
      let parts = both (is_dashed name && not (bytes_eq name (codes "--"))) (list_all (is_other 61) name) (name_is b is) in
      (both (is_dashed name) (not (bytes_eq name (codes "--"))) parts.0).0
