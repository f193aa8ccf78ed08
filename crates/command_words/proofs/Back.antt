-- Of what form the word is that was taken.
use Rattle.std.proofs.Common.{◌≡◌, ◌+◌, ◌-◌, ◌<◌, Bool, true, false, cond, not, ◌&&◌, ltb, List, [], ◌∷◌, ◌++◌, length, take, drop, bytes_eq, codes, position, Option, Some, None}
use Rattle.std.proofs.Common.{if◌then◌else◌, refl, sym, ◌∙◌, ap, arith, length-drop}
use Rattle.std.specs.List.{position_or_len, before_first, after_first}
use Rattle.std.proofs.lemmas.List.{take_all}
use Rattle.std.proofs.lemmas.Bool.Decides.{nat_tests}
use Rattle.command_words.specs.declared.options.Verb.{Verb}
use Rattle.command_words.specs.Options.{Word, Given, takes_value, is_dashed}
use Rattle.command_words.specs.Walking.{Walk, add_all, may_stand, put_option, put_joined, put_name, put_dashed, step, is_sign}
use Rattle.command_words.proofs.Names.{same_text}
use Rattle.command_words.proofs.Few.{refuted}
use Rattle.address_text.proofs.Parting.{both, split_place}
use Rattle.command_words.proofs.Steps.{at, waiting, behind_end, given}

pub chosen : (t : Bool) (x : Option Walk) (w : Walk) → cond t x None ≡ Some w → (t ≡ true) × (x ≡ Some w)
chosen true x w h = (refl, h)
chosen false x w h = absurd (cc h)

pub same_walk : (v w : Walk) → ◌≡◌ {A = Option Walk} (Some v) (Some w) → v ≡ w
same_walk v w h = cc

sign_parts : (word : Word) → ltb (position_or_len is_sign word) (length word) ≡ true → word ≡ before_first is_sign word ++ 61 ∷ after_first is_sign word
sign_parts word there =
    let n = position_or_len is_sign word in
    let place : position is_sign word ≡ Some n = rw there refl in
    let tail : take (length word - (n + 1)) (drop (n + 1) word) ≡ drop (n + 1) word = take_all (length word - (n + 1)) (drop (n + 1) word) (omega (arith, length-drop (n + 1) word)) in
    split_place word 61 n place ∙ ap (λ (t : Word). take n word ++ 61 ∷ t) tail

module _ (verb : Verb) (o : List Given) (a : List Word) where
  pub put_back : (name value : Word) (w : Walk) → put_option add_all (at verb o a) name value ≡ Some w → (may_stand o name ≡ true) × (w ≡ at verb (o ++ given name value ∷ []) a)
  put_back name value w is =
      let c = chosen (may_stand o name) (Some (at verb (o ++ given name value ∷ []) a)) w is in
      (c.0, sym (same_walk (at verb (o ++ given name value ∷ []) a) w c.1))

  pub record ValuePut (name value : Word) (w : Walk) : Type 0 where
    pub some : 0 < length value
    pub plain : is_dashed value ≡ false
    pub free : may_stand o name ≡ true
    pub after : w ≡ at verb (o ++ given name value ∷ []) a

  pub value_back : (name value : Word) (w : Walk) → step (waiting verb o a name) value ≡ Some w → ValuePut name value w
  value_back name value w is =
      let c = chosen (ltb 0 (length value) && not (is_dashed value)) (put_option add_all (at verb o a) name value) w is in
      let b = both (ltb 0 (length value)) (not (is_dashed value)) c.0 in
      let p = put_back name value w c.1 in
      record { some = grind (arith, nat_tests, b.0); plain = refuted (is_dashed value) b.1; free = p.0; after = p.1 }

  pub data Stepped (word : Word) (w : Walk) : Type 0 where
    Ends : (is : word ≡ codes "--") (after : w ≡ behind_end verb o a) → Stepped word w
    Alone : (plain : is_dashed word ≡ false) (after : w ≡ at verb o (a ++ word ∷ [])) → Stepped word w
    Joins : (name value : Word) (is : word ≡ name ++ 61 ∷ value) (takes : takes_value verb name ≡ Some true) (some : 0 < length value) (free : may_stand o name ≡ true)
        (after : w ≡ at verb (o ++ given name value ∷ []) a) → Stepped word w
    Waits : (takes : takes_value verb word ≡ Some true) (free : may_stand o word ≡ true) (after : w ≡ waiting verb o a word) → Stepped word w
    Flags : (takes : takes_value verb word ≡ Some false) (free : may_stand o word ≡ true) (after : w ≡ at verb (o ++ given word [] ∷ []) a) → Stepped word w

  joined_back : (word name value : Word) (w : Walk) → word ≡ name ++ 61 ∷ value → (t : Option Bool) → takes_value verb name ≡ t
      → (elim t [ None ↦ None | Some takes ↦ if takes && ltb 0 (length value) then put_option add_all (at verb o a) name value else None ]) ≡ Some w → Stepped word w
  joined_back word name value w is None e h = absurd (cc h)
  joined_back word name value w is (Some takes) e h =
      let c = chosen (takes && ltb 0 (length value)) (put_option add_all (at verb o a) name value) w h in
      let b = both takes (ltb 0 (length value)) c.0 in
      let p = put_back name value w c.1 in
      Joins name value is (e ∙ ap (λ (t : Bool). Some t) b.0) (grind (arith, nat_tests, b.1)) p.0 p.1

  name_back : (word : Word) (w : Walk) (t : Option Bool) → takes_value verb word ≡ t
      → (elim t [ None ↦ None | Some takes ↦ if takes then (if may_stand o word then Some (waiting verb o a word) else None) else put_option add_all (at verb o a) word [] ])
      ≡ Some w → Stepped word w
  name_back word w None e h = absurd (cc h)
  name_back word w (Some true) e h =
      let c = chosen (may_stand o word) (Some (waiting verb o a word)) w h in
      Waits e c.0 (sym (same_walk (waiting verb o a word) w c.1))
  name_back word w (Some false) e h = let p = put_back word [] w h in Flags e p.0 p.1

  dashed_back : (word : Word) (w : Walk) (t : Bool) → ltb (position_or_len is_sign word) (length word) ≡ t
      → (if t then put_joined add_all (at verb o a) (before_first is_sign word) (after_first is_sign word) else put_name add_all (at verb o a) word) ≡ Some w → Stepped word w
  dashed_back word w true e h = joined_back word (before_first is_sign word) (after_first is_sign word) w (sign_parts word e) (takes_value verb (before_first is_sign word)) refl h
  dashed_back word w false e h = name_back word w (takes_value verb word) refl h

  word_back : (word : Word) (w : Walk) (t : Bool) → is_dashed word ≡ t
      → (if t then put_dashed add_all (at verb o a) word else Some (at verb o (a ++ word ∷ []))) ≡ Some w → Stepped word w
  word_back word w true e h = dashed_back word w (ltb (position_or_len is_sign word) (length word)) refl h
  word_back word w false e h = Alone e (sym (same_walk (at verb o (a ++ word ∷ [])) w h))

  begin_back : (word : Word) (w : Walk) (t : Bool) → bytes_eq word (codes "--") ≡ t
      → (if t then Some (behind_end verb o a) else (if is_dashed word then put_dashed add_all (at verb o a) word else Some (at verb o (a ++ word ∷ [])))) ≡ Some w → Stepped word w
  begin_back word w true e h = Ends (same_text word (codes "--") e) (sym (same_walk (behind_end verb o a) w h))
  begin_back word w false e h = word_back word w (is_dashed word) refl h

  pub stepped : (word : Word) (w : Walk) → step (at verb o a) word ≡ Some w → Stepped word w
  stepped word w is = begin_back word w (bytes_eq word (codes "--")) refl is
