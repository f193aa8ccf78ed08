-- What every walk keeps: no option stands twice, each is one of the command's, and one that waits for its value wasn't given.
use Rattle.std.proofs.Common.{◌≡◌, ◌<◌, ◌≤◌, Bool, true, false, List, [], ◌∷◌, ◌++◌, length, bytes_eq, Option, Some, None, MatchOption, refl, sym, ap, subst, arith, length-append}
use Rattle.std.specs.List.{list_any, list_all}
use Rattle.slirp_settings.specs.Ranges.{none_twice}
use Rattle.command_words.specs.declared.options.Verb.{Verb}
use Rattle.command_words.specs.Options.{Word, Given, is_repeated, same_name, single, takes_value}
use Rattle.command_words.specs.Walking.{IsProper, Walk, fresh, may_stand, option_names, step}
use Rattle.address_text.proofs.Parting.{both, pair}
use Rattle.command_words.proofs.Back.{same_walk, stepped, Stepped, Ends, Alone, Joins, Waits, Flags, value_back}
use Rattle.command_words.proofs.Few.{few}
use Rattle.command_words.proofs.Single.{once_again, one_repeated, one_single}
use Rattle.command_words.proofs.Names.{name_known}
use Rattle.command_words.proofs.Steps.{given}

abbrev is_known : Given → Bool
is_known g = list_any (λ n. bytes_eq n g.name) option_names

known_more : (o : List Given) (g : Given) → list_all is_known o ≡ true → is_known g ≡ true → list_all is_known (o ++ g ∷ []) ≡ true
known_more [] g all is = pair (is_known g) true is refl
known_more (x ∷ xs) g all is =
    let parts = both (is_known x) (list_all is_known xs) all in
    pair (is_known x) (list_all is_known (xs ++ g ∷ [])) parts.0 (known_more xs g parts.1 is)

known_again : (o : List Given) (g : Given) → list_all is_known (single o) ≡ true → is_known g ≡ true → list_all is_known (single (o ++ g ∷ [])) ≡ true
known_again o g all is = by_test (is_repeated g.name) refl
  where
    by_test : (t : Bool) → is_repeated g.name ≡ t → list_all is_known (single (o ++ g ∷ [])) ≡ true
    by_test true e = subst (λ (l : List Given). list_all is_known l ≡ true) (sym (one_repeated o g e)) all
    by_test false e = subst (λ (l : List Given). list_all is_known l ≡ true) (sym (one_single o g [] e)) (known_more (single o) g all is)

pub fresh_proper : (verb : Verb) → IsProper (fresh verb)
fresh_proper verb = record { once = refl; known = refl; waiting = tt; quiet = λ ended. absurd (cc ended) }

-- there is room for one that may stand, and once alone
pub has_room : (verb : Verb) (o : List Given) (name value : Word) (b : Bool) → none_twice same_name (single o) ≡ true → list_all is_known (single o) ≡ true → takes_value verb name ≡ Some b
    → is_repeated name ≡ false → may_stand o name ≡ true → length (single o) < 26
has_room verb o name value b once known takes other free =
    let g = given name value in
    let more : length (single (o ++ g ∷ [])) ≤ 26 = few option_names (single (o ++ g ∷ [])) (once_again o g once free) (known_again o g known (name_known verb name b takes)) in
    omega (arith, more, ap length (one_single o g [] other), length-append (single o) (g ∷ []))

module _ (verb : Verb) (o : List Given) (a : List Word) (once : none_twice same_name (single o) ≡ true) (known : list_all is_known (single o) ≡ true) where
  -- between two pieces
  same_proper : (v : Walk) → v.options ≡ o → v.waits ≡ None → IsProper v
  same_proper v options waits = record {
    once = subst (λ (l : List Given). none_twice same_name (single l) ≡ true) (sym options) once;
    known = subst (λ (l : List Given). list_all is_known (single l) ≡ true) (sym options) known;
    waiting = subst (λ (t : Option Word). MatchOption t (Unit {0}) (λ name. (takes_value v.verb name ≡ Some true) × (may_stand v.options name ≡ true))) (sym waits) tt;
    quiet = λ ended. waits;
  }

  put_proper : (name value : Word) (b : Bool) → takes_value verb name ≡ Some b → may_stand o name ≡ true → (v : Walk) → v.options ≡ o ++ given name value ∷ [] → v.waits ≡ None → IsProper v
  put_proper name value b takes free v options waits = record {
    once = subst (λ (l : List Given). none_twice same_name (single l) ≡ true) (sym options) (once_again o (given name value) once free);
    known = subst (λ (l : List Given). list_all is_known (single l) ≡ true) (sym options) (known_again o (given name value) known (name_known verb name b takes));
    waiting = subst (λ (t : Option Word). MatchOption t (Unit {0}) (λ n. (takes_value v.verb n ≡ Some true) × (may_stand v.options n ≡ true))) (sym waits) tt;
    quiet = λ ended. waits;
  }

  by_form : (word : Word) (v : Walk) → Stepped verb o a word v → IsProper v
  by_form word v (Ends is after) = same_proper v (ap (λ (w : Walk). w.options) after) (ap (λ (w : Walk). w.waits) after)
  by_form word v (Alone plain after) = same_proper v (ap (λ (w : Walk). w.options) after) (ap (λ (w : Walk). w.waits) after)
  by_form word v (Joins name value is takes some free after) = put_proper name value true takes free v (ap (λ (w : Walk). w.options) after) (ap (λ (w : Walk). w.waits) after)
  by_form word v (Waits takes free after) = subst IsProper (sym after) (record { once = once; known = known; waiting = (takes, free); quiet = λ ended. absurd (cc ended) })
  by_form word v (Flags takes free after) = put_proper word [] false takes free v (ap (λ (w : Walk). w.options) after) (ap (λ (w : Walk). w.waits) after)

  by_state : (waits : Option Word) (ended : Bool) → IsProper (record { verb = verb; options = o; alone = a; waits = waits; ended = ended }) → (word : Word) (v : Walk)
      → step (record { verb = verb; options = o; alone = a; waits = waits; ended = ended }) word ≡ Some v → IsProper v
  by_state waits true is word v h =
      let same = same_walk (record { verb = verb; options = o; alone = a ++ word ∷ []; waits = waits; ended = true }) v h in
      subst IsProper same (record { once = is.once; known = is.known; waiting = is.waiting; quiet = is.quiet })
  by_state None false is word v h = by_form word v (stepped verb o a word v h)
  by_state (Some name) false is word v h =
      let put = value_back verb o a name word v h in
      put_proper name word true is.waiting.0 put.free v (ap (λ (w : Walk). w.options) put.after) (ap (λ (w : Walk). w.waits) put.after)

pub still_proper : (walk next : Walk) (word : Word) → step walk word ≡ Some next → IsProper walk → IsProper next
still_proper walk next word is proper = by_state walk.verb walk.options walk.alone proper.once proper.known walk.waits walk.ended proper word next is
