-- What one word adds: by the form of the word, and back.
use Rattle.std.proofs.Common.{◌≡◌, suc, ◌+◌, ◌<◌, Bool, true, false, not, ◌&&◌, ltb, List, [], ◌∷◌, ◌++◌, length, bytes_eq, codes, Some, None, refl, sym, ◌∙◌, ap, arith, length-append}
use Rattle.std.specs.List.{list_all, position_or_len, before_first, after_first}
use Rattle.std.proofs.lemmas.Bool.Decides.{nat_tests}
use Rattle.std.proofs.Math.Seq.{take-append_seam, drop-append-add}
use Rattle.command_words.specs.declared.options.Verb.{Verb}
use Rattle.command_words.specs.Options.{Word, Given, takes_value, is_dashed}
use Rattle.address_text.specs.Texts.{is_other}
use Rattle.address_text.proofs.Parting.{both, no_part}
use Rattle.command_words.specs.Walking.{Walk, add_all, may_stand, put_option, put_joined, put_name, step, is_sign}
use Rattle.command_words.proofs.Names.{is_name, name_is, same_text}
use Rattle.command_words.proofs.Few.{refuted}

-- the walk between two pieces
abbrev pub at : Verb → List Given → List Word → Walk
at verb options alone = record { verb = verb; options = options; alone = alone; waits = None; ended = false }

abbrev pub waiting : Verb → List Given → List Word → Word → Walk
waiting verb options alone name = record { verb = verb; options = options; alone = alone; waits = Some name; ended = false }

abbrev pub behind_end : Verb → List Given → List Word → Walk
behind_end verb options alone = record { verb = verb; options = options; alone = alone; waits = None; ended = true }

abbrev pub given : Word → Word → Given
given name value = record { name = name; value = value }

-- the sign of equality
pub no_sign : (name : Word) → list_all (is_other 61) name ≡ true → position_or_len is_sign name ≡ length name
no_sign [] h = refl
no_sign (x ∷ xs) h = let e = both (is_other 61 x) (list_all (is_other 61) xs) h in rw e.0 (let rest = no_sign xs e.1 in omega (arith, rest))

pub at_sign : (name value : Word) → list_all (is_other 61) name ≡ true → position_or_len is_sign (name ++ 61 ∷ value) ≡ length name
at_sign [] value h = refl
at_sign (x ∷ xs) value h = let e = both (is_other 61 x) (list_all (is_other 61) xs) h in rw e.0 (let rest = at_sign xs value e.1 in omega (arith, rest))

-- a name's parts
record NameIs (name : Word) : Type 0 where
  dashed : is_dashed name ≡ true
  other : bytes_eq name (codes "--") ≡ false
  plain : list_all (is_other 61) name ≡ true

name_parts : (name : Word) → is_name name ≡ true → NameIs name
name_parts name is =
    let a = both (is_dashed name && not (bytes_eq name (codes "--"))) (list_all (is_other 61) name) is in
    let b = both (is_dashed name) (not (bytes_eq name (codes "--"))) a.0 in
    record { dashed = b.0; other = refuted (bytes_eq name (codes "--")) b.1; plain = a.1 }

module _ (verb : Verb) (o : List Given) (a : List Word) where
  begins_name : (name : Word) → NameIs name → step (at verb o a) name ≡ put_name add_all (at verb o a) name
  begins_name name n =
      let none : ltb (position_or_len is_sign name) (length name) ≡ false = rw (no_sign name n.plain) (grind (arith, nat_tests)) in
      rw (n.other, n.dashed, none) refl

  pub flag_step : (name : Word) → takes_value verb name ≡ Some false → step (at verb o a) name ≡ put_option add_all (at verb o a) name []
  flag_step name is = begins_name name (name_parts name (name_is verb name false is)) ∙ rw is refl

  pub waits_step : (name : Word) → takes_value verb name ≡ Some true → may_stand o name ≡ true → step (at verb o a) name ≡ Some (waiting verb o a name)
  waits_step name is free = begins_name name (name_parts name (name_is verb name true is)) ∙ rw (is, free) refl

  pub apart_step : (name value : Word) → 0 < length value → is_dashed value ≡ false → step (waiting verb o a name) value ≡ put_option add_all (at verb o a) name value
  apart_step name value some plain = let is : ltb 0 (length value) ≡ true = grind (arith, nat_tests, some) in rw (is, plain) refl

  pub plain_step : (word : Word) → is_dashed word ≡ false → step (at verb o a) word ≡ Some (at verb o (a ++ word ∷ []))
  plain_step word plain =
      let by_test : (t : Bool) → bytes_eq word (codes "--") ≡ t → t ≡ false = λ t.
      (elim t as (λ b. bytes_eq word (codes "--") ≡ b → b ≡ false) [
        | true ↦ λ yes. ap is_dashed (sym (same_text word (codes "--") yes)) ∙ plain
        | false ↦ λ no. refl
      ]) in
      let other : bytes_eq word (codes "--") ≡ false = by_test (bytes_eq word (codes "--")) refl in
      rw (other, plain) refl

  pub dashed_joined : (name value : Word) → is_dashed name ≡ true → is_dashed (name ++ 61 ∷ value) ≡ true
  dashed_joined [] value h = absurd (cc h)
  dashed_joined (x ∷ xs) value h = h

  pub joined_step : (name value : Word) → takes_value verb name ≡ Some true → 0 < length value → step (at verb o a) (name ++ 61 ∷ value) ≡ put_option add_all (at verb o a) name value
  joined_step name value is some =
      let n = name_parts name (name_is verb name true is) in
      let word = name ++ 61 ∷ value in
      let by_test : (t : Bool) → bytes_eq word (codes "--") ≡ t → t ≡ false = λ t.
      (elim t as (λ b. bytes_eq word (codes "--") ≡ b → b ≡ false) [
        | true ↦ λ yes. absurd (no_part 61 (codes "--") name value refl (sym (same_text word (codes "--") yes)))
        | false ↦ λ no. refl
      ]) in
      let other : bytes_eq word (codes "--") ≡ false = by_test (bytes_eq word (codes "--")) refl in
      let place = at_sign name value n.plain in
      let long : length word ≡ length name + suc (length value) = length-append name (61 ∷ value) in
      let there : ltb (position_or_len is_sign word) (length word) ≡ true = rw (place, long) (grind (arith, nat_tests)) in
      let front : before_first is_sign word ≡ name = rw place (take-append_seam name (61 ∷ value)) in
      let back : after_first is_sign word ≡ value = rw place (drop-append-add name (61 ∷ value) 1) in
      let full : ltb 0 (length value) ≡ true = grind (arith, nat_tests, some) in
      let begun : step (at verb o a) word ≡ put_joined add_all (at verb o a) (before_first is_sign word) (after_first is_sign word) = rw (other, dashed_joined name value n.dashed, there) refl in
      begun ∙ ap (λ (w : Word). put_joined add_all (at verb o a) w (after_first is_sign word)) front ∙ ap (λ (w : Word). put_joined add_all (at verb o a) name w) back ∙ rw (is, full) refl

  -- an option that may stand is put
  pub put_fresh : (name value : Word) → may_stand o name ≡ true → put_option add_all (at verb o a) name value ≡ Some (at verb (o ++ given name value ∷ []) a)
  put_fresh name value free = rw free refl
