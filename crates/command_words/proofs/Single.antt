-- Options that stand once, and the values of the one that may stand several times.
use Rattle.std.proofs.Common.{◌≡◌, Bool, true, false, cond, not, ◌&&◌, ◌||◌, List, [], ◌∷◌, ◌++◌, bytes_eq, codes, Option, Some, find, is_some, refl, sym, ◌∙◌, ap, subst, append-nil}
use Rattle.std.specs.Option.{option_map}
use Rattle.slirp_settings.specs.Ranges.{none_twice}
use Rattle.command_words.specs.declared.options.Verb.{Verb}
use Rattle.command_words.specs.Options.{Word, Given, is_repeated, repeated, same_name, single, value_in}
use Rattle.command_words.specs.Walking.{AreGiven, has_link, is_both, is_replay, may_stand}
use Rattle.command_words.proofs.Few.{fresh_there, once_more, refuted}
use Rattle.command_words.proofs.Given.{more_given}
use Rattle.command_words.proofs.Names.{same_text}

pub single_append : (a b : List Given) → single (a ++ b) ≡ single a ++ single b
single_append [] b = refl
single_append (x ∷ xs) b = elim (is_repeated x.name) as (λ t. cond t (single (xs ++ b)) (x ∷ single (xs ++ b)) ≡ cond t (single xs) (x ∷ single xs) ++ single b) [
  | true ↦ single_append xs b
  | false ↦ ap (λ (l : List Given). x ∷ l) (single_append xs b)
]

pub repeated_append : (a b : List Given) → repeated (a ++ b) ≡ repeated a ++ repeated b
repeated_append [] b = refl
repeated_append (x ∷ xs) b = elim (is_repeated x.name) as (λ t. cond t (x.value ∷ repeated (xs ++ b)) (repeated (xs ++ b)) ≡ cond t (x.value ∷ repeated xs) (repeated xs) ++ repeated b) [
  | true ↦ ap (λ (l : List Word). x.value ∷ l) (repeated_append xs b)
  | false ↦ repeated_append xs b
]

-- one more option
pub one_repeated : (o : List Given) (g : Given) → is_repeated g.name ≡ true → single (o ++ g ∷ []) ≡ single o
one_repeated o g is = single_append o (g ∷ []) ∙ ap (λ (t : Bool). single o ++ cond t [] (g ∷ [])) is ∙ append-nil (single o)

pub one_single : (o : List Given) (g : Given) (rest : List Given) → is_repeated g.name ≡ false → single (o ++ g ∷ rest) ≡ single o ++ g ∷ single rest
one_single o g rest is = single_append o (g ∷ rest) ∙ ap (λ (t : Bool). single o ++ cond t (single rest) (g ∷ single rest)) is

-- a name that may stand several times is another than one that may not
unlike : (a b : Word) → is_repeated a ≡ true → is_repeated b ≡ false → bytes_eq a b ≡ false
unlike a b is other = by_test (bytes_eq a b) refl
  where
    by_test : (t : Bool) → bytes_eq a b ≡ t → t ≡ false
    by_test true e = absurd (let clash : true ≡ false = sym is ∙ ap is_repeated (same_text a b e) ∙ other in cc clash)
    by_test false e = refl

pub single_value : (o : List Given) (name : Word) → is_repeated name ≡ false → value_in (single o) name ≡ value_in o name
single_value [] name other = refl
single_value (x ∷ xs) name other = by_test (single_value xs name other) (is_repeated x.name) refl
  where
    by_name : value_in (single xs) name ≡ value_in xs name → (t : Bool)
        → option_map (λ (given : Given). given.value) (cond t (Some x) (find (λ given. bytes_eq given.name name) (single xs)))
        ≡ option_map (λ (given : Given). given.value) (cond t (Some x) (find (λ given. bytes_eq given.name name) xs))
    by_name rest true = refl
    by_name rest false = rest

    by_test : value_in (single xs) name ≡ value_in xs name → (t : Bool) → is_repeated x.name ≡ t → value_in (cond t (single xs) (x ∷ single xs)) name ≡ value_in (x ∷ xs) name
    by_test rest true e = rest ∙ sym (ap (λ (t : Bool). option_map (λ (given : Given). given.value) (cond t (Some x) (find (λ given. bytes_eq given.name name) xs))) (unlike x.name name e other))
    by_test rest false e = by_name rest (bytes_eq x.name name)

-- where none stands twice one may stand, and with one that may stand none does
pub free_single : (o : List Given) (name : Word) → is_repeated name ≡ false → may_stand o name ≡ true → is_some (value_in (single o) name) ≡ false
free_single o name other may = ap (λ (t : Option Word). is_some t) (single_value o name other)
    ∙ refuted (is_some (value_in o name)) (sym (ap (λ (b : Bool). b || not (is_some (value_in o name))) other) ∙ may)

pub fresh_single : (o : List Given) (g : Given) (rest : List Given) → none_twice same_name (single (o ++ g ∷ rest)) ≡ true → may_stand o g.name ≡ true
fresh_single o g rest once = by_test (is_repeated g.name) refl
  where
    by_test : (t : Bool) → is_repeated g.name ≡ t → may_stand o g.name ≡ true
    by_test true e = ap (λ (b : Bool). b || not (is_some (value_in o g.name))) e
    by_test false e =
        let alone = fresh_there (single o) g (single rest) (subst (λ (l : List Given). none_twice same_name l ≡ true) (one_single o g rest e) once) in
        let free : is_some (value_in o g.name) ≡ false = sym (ap (λ (t : Option Word). is_some t) (single_value o g.name e)) ∙ alone in
        ap (λ (b : Bool). b || not (is_some (value_in o g.name))) e ∙ ap not free

pub once_again : (o : List Given) (g : Given) → none_twice same_name (single o) ≡ true → may_stand o g.name ≡ true → none_twice same_name (single (o ++ g ∷ [])) ≡ true
once_again o g once may = by_test (is_repeated g.name) refl
  where
    by_test : (t : Bool) → is_repeated g.name ≡ t → none_twice same_name (single (o ++ g ∷ [])) ≡ true
    by_test true e = subst (λ (l : List Given). none_twice same_name l ≡ true) (sym (one_repeated o g e)) once
    by_test false e = subst (λ (l : List Given). none_twice same_name l ≡ true) (sym (one_single o g [] e)) (once_more (single o) g once (free_single o g.name e may))

pub may_single : (o : List Given) (name : Word) → may_stand (single o) name ≡ may_stand o name
may_single o name = by_test (is_repeated name) refl
  where
    by_test : (t : Bool) → is_repeated name ≡ t → may_stand (single o) name ≡ may_stand o name
    by_test true e = ap (λ (b : Bool). b || not (is_some (value_in (single o) name))) e ∙ sym (ap (λ (b : Bool). b || not (is_some (value_in o name))) e)
    by_test false e = ap (λ (t : Option Word). is_repeated name || not (is_some t)) (single_value o name e)

-- what is asked of single ones alone
pub both_single : (o : List Given) → is_both (single o) ≡ is_both o
both_single o =
    ap (λ (t : Option Word). is_some t && is_some (value_in (single o) (codes "--capture"))) (single_value o (codes "--record") refl)
    ∙ ap (λ (t : Option Word). is_some (value_in o (codes "--record")) && is_some t) (single_value o (codes "--capture") refl)

pub link_single : (verb : Verb) (o : List Given) → has_link verb (single o) ≡ has_link verb o
link_single verb o = ap (λ (t : Option Word). is_replay verb || is_some t) (single_value o (codes "--link") refl)

same_more : (o : List Given) (g : Given) (name : Word) → is_repeated name ≡ false → is_some (value_in (single o ++ g ∷ []) name) ≡ is_some (value_in (o ++ g ∷ []) name)
same_more o g name other = more_given (single o) g name ∙ ap (λ (t : Option Word). is_some t || bytes_eq g.name name) (single_value o name other) ∙ sym (more_given o g name)

pub both_more : (o : List Given) (g : Given) → is_both (single o ++ g ∷ []) ≡ is_both (o ++ g ∷ [])
both_more o g =
    ap (λ (b : Bool). b && is_some (value_in (single o ++ g ∷ []) (codes "--capture"))) (same_more o g (codes "--record") refl)
    ∙ ap (λ (b : Bool). is_some (value_in (o ++ g ∷ []) (codes "--record")) && b) (same_more o g (codes "--capture") refl)

pub single_given : (verb : Verb) (o : List Given) → AreGiven verb o → AreGiven verb (single o)
single_given verb [] are = tt
single_given verb (x ∷ xs) are = by_test (single_given verb xs are.1) (is_repeated x.name)
  where
    by_test : AreGiven verb (single xs) → (t : Bool) → AreGiven verb (cond t (single xs) (x ∷ single xs))
    by_test rest true = rest
    by_test rest false = (are.0, rest)

pub none_repeated : (o : List Given) → is_some (value_in (single o) (codes "--deny")) ≡ false
none_repeated [] = refl
none_repeated (x ∷ xs) = by_test (none_repeated xs) (is_repeated x.name) refl
  where
    by_test : is_some (value_in (single xs) (codes "--deny")) ≡ false → (t : Bool) → is_repeated x.name ≡ t → is_some (value_in (cond t (single xs) (x ∷ single xs)) (codes "--deny")) ≡ false
    by_test rest true e = rest
    by_test rest false e = ap (λ (t : Bool). is_some (option_map (λ (given : Given). given.value) (cond t (Some x) (find (λ given. bytes_eq given.name (codes "--deny")) (single xs))))) e ∙ rest
