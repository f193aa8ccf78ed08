-- A line keeps the first words that stand by themselves, and takes the steps of the walk that keeps all.
use Rattle.std.proofs.Common.{◌≡◌, ◌<◌, ◌≤◌, Bool, true, false, cond, not, ◌&&◌, ◌||◌, ltb, List, [], ◌∷◌, ◌++◌, length, map, bytes_eq, codes, Option, Some, None, MatchBool}
use Rattle.std.proofs.Common.{MatchOption, inl, inr}
use Rattle.std.proofs.Common.{refl, sym, ◌∙◌, ap, subst, arith, length-append}
use denote.Ref.{Bor}
use Rattle.std.specs.List.{list_all, list_any, position_or_len, before_first, after_first}
use Rattle.std.specs.Option.{option_map}
use Rattle.std.proofs.lemmas.Bool.{cases_lt}
use Rattle.std.proofs.lemmas.List.{length-map, length-take, map-append, take_all, take-append-le}
use Rattle.std.proofs.lemmas.Bool.Decides.{nat_tests}
use Rattle.slirp_settings.specs.Ranges.{none_twice}
use Rattle.command_words.specs.declared.options.Verb.{Verb}
use Rattle.command_words.specs.Options.{Word, Given, takes_value, is_dashed, is_repeated, same_name, single}
use Rattle.command_words.specs.Walking.{Walk, Fits, IsGiven, IsProper, IsWanted, add_all, can_end, completed, ends, hold, is_both, wants_file, stands_alone, is_sign, keep_all, keep_own}
use Rattle.command_words.specs.Walking.{kept, kept_of, may_stand, own_words}
use Rattle.command_words.specs.Walking.{option_names, put_option, put_alone, put_apart, put_joined, put_name, put_dashed, begin, step_with, step}
use Rattle.address_text.specs.Rules.{is_guest_word}
use Rattle.command_words.proofs.Sorted.{own_more, wants_own}
use Rattle.command_words.proofs.Proper.{has_room}
use Rattle.command_words.proofs.Single.{both_more, link_single, may_single, one_repeated, one_single}
use Rattle.command_words.proofs.Steps.{given}

pub kept_again : (a : List Word) (word : Word) → kept (kept a ++ word ∷ []) ≡ kept (a ++ word ∷ [])
kept_again a word = elim (cases_lt (length a) 34) [
  | inl few ↦ ap (λ (x : List Word). kept (x ++ word ∷ [])) (take_all 34 a (omega (arith, few)))
  | inr many ↦
      let full : 34 ≤ length (kept a) = omega (arith, many, length-take 34 a) in
      let whole : length (kept a) ≤ 34 = omega (arith, length-take 34 a) in
      take-append-le 34 (kept a) (word ∷ []) full ∙ take_all 34 (kept a) whole ∙ sym (take-append-le 34 a (word ∷ []) many)
]

pub wants_kept : (walk : Walk) → wants_file (kept_of walk) ≡ wants_file walk
wants_kept walk = wants_own walk.verb walk.alone

-- of one word more
kept_own : (walk : Walk) (word : Word) → keep_own (kept_of walk) word ≡ kept (own_words walk.verb (walk.alone ++ word ∷ []))
kept_own walk word =
    ap (λ (b : Bool). cond (not b && is_guest_word word) (kept (own_words walk.verb walk.alone)) (kept (kept (own_words walk.verb walk.alone) ++ word ∷ []))) (wants_kept walk)
    ∙ by_test (not (wants_file walk) && is_guest_word word) refl
  where
    by_test : (t : Bool) → (not (wants_file walk) && is_guest_word word) ≡ t → cond (not (wants_file walk) && is_guest_word word) (kept (own_words walk.verb walk.alone))
        (kept (kept (own_words walk.verb walk.alone) ++ word ∷ [])) ≡ kept (own_words walk.verb (walk.alone ++ word ∷ []))
    by_test true e =
        ap (λ (b : Bool). cond b (kept (own_words walk.verb walk.alone)) (kept (kept (own_words walk.verb walk.alone) ++ word ∷ []))) e
        ∙ ap kept (sym (own_more walk.verb walk.alone word ∙ ap (λ (b : Bool). cond b (own_words walk.verb walk.alone) (own_words walk.verb walk.alone ++ word ∷ [])) e))
    by_test false e =
        ap (λ (b : Bool). cond b (kept (own_words walk.verb walk.alone)) (kept (kept (own_words walk.verb walk.alone) ++ word ∷ []))) e
        ∙ kept_again (own_words walk.verb walk.alone) word
        ∙ ap kept (sym (own_more walk.verb walk.alone word ∙ ap (λ (b : Bool). cond b (own_words walk.verb walk.alone) (own_words walk.verb walk.alone ++ word ∷ [])) e))

option_kept : (verb : Verb) (o : List Given) (t : Option Given)
    → MatchOption t (Unit {0}) (λ given. IsGiven verb given × (is_both (single o ++ given ∷ []) ≡ false)) → MatchOption t (Unit {0}) (λ given. IsGiven verb given × (is_both (o ++ given ∷ []) ≡ false))
option_kept verb o None h = tt
option_kept verb o (Some g) h = (h.0, sym (both_more o g) ∙ h.1)

kept_option_fits : (verb : Verb) (o : List Given) (t : Option Given)
    → MatchOption t (Unit {0}) (λ given. IsGiven verb given × (is_both (o ++ given ∷ []) ≡ false)) → MatchOption t (Unit {0}) (λ given. IsGiven verb given × (is_both (single o ++ given ∷ []) ≡ false))
kept_option_fits verb o None h = tt
kept_option_fits verb o (Some g) h = (h.0, both_more o g ∙ h.1)

end_kept : (walk : Walk) (word : Word) → can_end (kept_of walk) word ≡ can_end walk word
end_kept walk word = ap (λ (b : Bool). not (ends walk word) || b) (link_single walk.verb walk.options)

pub fits_kept : (walk : Walk) (word : Word) → Fits (kept_of walk) word → Fits walk word
fits_kept walk word h = (
  subst (λ (b : Bool). MatchBool (stands_alone walk word) (IsWanted b word) (Unit {0})) (wants_kept walk) h.0,
  option_kept walk.verb walk.options (completed walk word) h.1,
  sym (end_kept walk word) ∙ h.2,
)

pub kept_fits : (walk : Walk) (word : Word) → Fits walk word → Fits (kept_of walk) word
kept_fits walk word h = (
  subst (λ (b : Bool). MatchBool (stands_alone walk word) (IsWanted b word) (Unit {0})) (sym (wants_kept walk)) h.0,
  kept_option_fits walk.verb walk.options (completed walk word) h.1,
  end_kept walk word ∙ h.2,
)

-- what is held of one option more, for which there is room
held_more : (o : List Given) (g : Given) → (is_repeated g.name ≡ false → length (single o) < 26) → hold (single o) g ≡ Some (single (o ++ g ∷ []))
held_more o g room = by_test (is_repeated g.name) refl
  where
    by_test : (t : Bool) → is_repeated g.name ≡ t → hold (single o) g ≡ Some (single (o ++ g ∷ []))
    by_test true e = ap (λ (t : Bool). cond t (Some (single o)) (cond (ltb (length (single o)) 26) (Some (single o ++ g ∷ [])) None)) e ∙ ap (λ (l : List Given). Some l) (sym (one_repeated o g e))
    by_test false e =
        let fits = room e in
        let is : ltb (length (single o)) 26 ≡ true = grind (arith, nat_tests, fits) in
        ap (λ (t : Bool). cond t (Some (single o)) (cond (ltb (length (single o)) 26) (Some (single o ++ g ∷ [])) None)) e
        ∙ ap (λ (t : Bool). cond t (Some (single o ++ g ∷ [])) None) is ∙ ap (λ (l : List Given). Some l) (sym (one_single o g [] e))

abbrev put_kept : Walk → Option (List Given) → Option Walk
put_kept walk o = option_map (λ options. record (kept_of walk) { options = options }) o

module _ (walk : Walk) (once : none_twice same_name (single walk.options) ≡ true) (known : list_all (λ (given : Given). list_any (λ name. bytes_eq name given.name) option_names)
    (single walk.options) ≡ true) where
  kept_option : (name value : Word) (b : Bool) → takes_value walk.verb name ≡ Some b → put_option hold (kept_of walk) name value ≡ option_map kept_of (put_option add_all walk name value)
  kept_option name value b takes = by_test (may_stand walk.options name) refl
    where
      by_test : (t : Bool) → may_stand walk.options name ≡ t → cond (may_stand (single walk.options) name) (put_kept walk (hold (single walk.options) (given name value))) None ≡ option_map kept_of
          (cond (may_stand walk.options name) (Some (record walk { options = walk.options ++ given name value ∷ [] })) None)
      by_test true e =
          let room : is_repeated name ≡ false → length (single walk.options) < 26 = λ other. has_room walk.verb walk.options name value b once known takes other e in
          ap (λ (t : Bool). cond t (put_kept walk (hold (single walk.options) (given name value))) None) (may_single walk.options name ∙ e)
          ∙ ap (put_kept walk) (held_more walk.options (given name value) room)
          ∙ sym (ap (λ (t : Bool). option_map kept_of (cond t (Some (record walk { options = walk.options ++ given name value ∷ [] })) None)) e)
      by_test false e =
          ap (λ (t : Bool). cond t (put_kept walk (hold (single walk.options) (given name value))) None) (may_single walk.options name ∙ e)
          ∙ sym (ap (λ (t : Bool). option_map kept_of (cond t (Some (record walk { options = walk.options ++ given name value ∷ [] })) None)) e)

  kept_alone : (word : Word) → put_alone keep_own (kept_of walk) word ≡ option_map kept_of (put_alone keep_all walk word)
  kept_alone word = ap (λ (x : List Word). Some (record (kept_of walk) { alone = x })) (kept_own walk word)

  kept_joined : (name value : Word) → put_joined hold (kept_of walk) name value ≡ option_map kept_of (put_joined add_all walk name value)
  kept_joined name value = by_kind (takes_value walk.verb name) refl
    where
      by_kind : (t : Option Bool) → takes_value walk.verb name ≡ t →
          elim t [ None ↦ None | Some takes ↦ cond (takes && ltb 0 (length value)) (put_option hold (kept_of walk) name value) None ]
          ≡ option_map kept_of (elim t [ None ↦ None | Some takes ↦ cond (takes && ltb 0 (length value)) (put_option add_all walk name value) None ])
      by_kind None e = refl
      by_kind (Some takes) e = elim (takes && ltb 0 (length value)) as (λ b. cond b (put_option hold (kept_of walk) name value) None ≡ option_map kept_of
          (cond b (put_option add_all walk name value) None)) [
            | true ↦ kept_option name value takes e
            | false ↦ refl
          ]

  kept_waits : (name : Word) (b : Bool) → cond b (Some (record (kept_of walk) { waits = Some name })) None ≡ option_map kept_of (cond b (Some (record walk { waits = Some name })) None)
  kept_waits name true = refl
  kept_waits name false = refl

  kept_name : (name : Word) → put_name hold (kept_of walk) name ≡ option_map kept_of (put_name add_all walk name)
  kept_name name = by_kind (takes_value walk.verb name) refl
    where
      by_kind : (t : Option Bool) → takes_value walk.verb name ≡ t →
          elim t [
            | None ↦ None
            | Some takes ↦ cond takes (cond (may_stand (single walk.options) name) (Some (record (kept_of walk) { waits = Some name })) None)
                (put_option hold (kept_of walk) name [])
          ]
          ≡ option_map kept_of (elim t [ None ↦ None | Some takes ↦ cond takes (cond (may_stand walk.options name) (Some (record walk { waits = Some name })) None) (put_option add_all walk name []) ])
      by_kind None e = refl
      by_kind (Some true) e = ap (λ (b : Bool). cond b (Some (record (kept_of walk) { waits = Some name })) None) (may_single walk.options name) ∙ kept_waits name (may_stand walk.options name)
      by_kind (Some false) e = kept_option name [] false e

  kept_dashed : (word : Word) → put_dashed hold (kept_of walk) word ≡ option_map kept_of (put_dashed add_all walk word)
  kept_dashed word = elim (ltb (position_or_len is_sign word) (length word)) as (λ b.
      cond b (put_joined hold (kept_of walk) (before_first is_sign word) (after_first is_sign word)) (put_name hold (kept_of walk) word)
      ≡ option_map kept_of (cond b (put_joined add_all walk (before_first is_sign word) (after_first is_sign word)) (put_name add_all walk word))) [
        | true ↦ kept_joined (before_first is_sign word) (after_first is_sign word)
        | false ↦ kept_name word
      ]

  kept_begin : (word : Word) → begin keep_own hold (kept_of walk) word ≡ option_map kept_of (begin keep_all add_all walk word)
  kept_begin word = elim (bytes_eq word (codes "--")) as (λ b.
      cond b (Some (record (kept_of walk) { ended = true })) (cond (is_dashed word) (put_dashed hold (kept_of walk) word) (put_alone keep_own (kept_of walk) word))
      ≡ option_map kept_of (cond b (Some (record walk { ended = true })) (cond (is_dashed word) (put_dashed add_all walk word) (put_alone keep_all walk word)))) [
        | true ↦ refl
        | false ↦ elim (is_dashed word) as (λ b.
            cond b (put_dashed hold (kept_of walk) word) (put_alone keep_own (kept_of walk) word)
            ≡ option_map kept_of (cond b (put_dashed add_all walk word) (put_alone keep_all walk word))) [
              | true ↦ kept_dashed word
              | false ↦ kept_alone word
            ]
      ]

kept_apart : (walk : Walk) → IsProper walk → (name value : Word) → takes_value walk.verb name ≡ Some true
    → put_apart hold (kept_of walk) name value ≡ option_map kept_of (put_apart add_all walk name value)
kept_apart walk proper name value takes =
    let on : Walk = record walk { waits = None } in
    elim (ltb 0 (length value) && not (is_dashed value)) as (λ b. cond b (put_option hold (kept_of on) name value) None ≡ option_map kept_of (cond b (put_option add_all on name value) None)) [
      | true ↦ kept_option on proper.once proper.known name value true takes
      | false ↦ refl
    ]

pub kept_step : (walk : Walk) (word : Word) → IsProper walk → step_with keep_own hold (kept_of walk) word ≡ option_map kept_of (step walk word)
kept_step walk word proper = elim walk.ended as (λ b.
    cond b (put_alone keep_own (kept_of walk) word) (elim walk.waits [ None ↦ begin keep_own hold (kept_of walk) word | Some name ↦ put_apart hold (kept_of walk) name word ])
    ≡ option_map kept_of (cond b (put_alone keep_all walk word)
    (elim walk.waits [ None ↦ begin keep_all add_all walk word | Some name ↦ put_apart add_all walk name word ]))) [
      | true ↦ kept_alone walk proper.once proper.known word
      | false ↦ by_waits walk.waits proper.waiting
    ]
  where
    by_waits : (t : Option Word) → MatchOption t (Unit {0}) (λ name. (takes_value walk.verb name ≡ Some true) × (may_stand walk.options name ≡ true)) →
        elim t [ None ↦ begin keep_own hold (kept_of walk) word | Some name ↦ put_apart hold (kept_of walk) name word ]
        ≡ option_map kept_of (elim t [ None ↦ begin keep_all add_all walk word | Some name ↦ put_apart add_all walk name word ])
    by_waits None h = kept_begin walk proper.once proper.known word
    by_waits (Some name) h = kept_apart walk proper name word h.0

-- a step that is taken, and one that isn't
pub step_taken : (walk on : Walk) (word : Word) → IsProper walk → step_with keep_own hold (kept_of walk) word ≡ Some on → (next : Walk) × (step walk word ≡ Some next) × (kept_of next ≡ on)
step_taken walk on word proper is = by_step (step walk word) refl (sym (kept_step walk word proper) ∙ is)
  where
    by_step : (o : Option Walk) → step walk word ≡ o → option_map kept_of o ≡ Some on → (next : Walk) × (step walk word ≡ Some next) × (kept_of next ≡ on)
    by_step None e h = absurd (cc h)
    by_step (Some next) e h = (next, e, cc)

pub step_refused : (walk on : Walk) (word : Word) → IsProper walk → step_with keep_own hold (kept_of walk) word ≡ None → step walk word ≡ Some on → ⊥
step_refused walk on word proper none is =
    let clash : ◌≡◌ {A = Option Walk} None (Some (kept_of on)) = sym none ∙ kept_step walk word proper ∙ ap (option_map kept_of) is in cc clash

-- a word that is kept, and one for which there is no room
pub keep_more : (items : List (Bor Word)) (word : Bor Word) → length items < 34 → kept (map (λ w. w.now) items ++ word.now ∷ []) ≡ map (λ w. w.now) (items ++ word ∷ [])
keep_more items word room =
    let all = map (λ (w : Bor Word). w.now) items in
    let few : length (all ++ word.now ∷ []) ≤ 34 = omega (arith, room, length-map items (λ (w : Bor Word). w.now), length-append all (word.now ∷ [])) in
    take_all 34 (all ++ word.now ∷ []) few ∙ sym (map-append (λ (w : Bor Word). w.now) items (word ∷ []))

pub keep_none : (items : List (Bor Word)) (word : Bor Word) → length items ≡ 34 → kept (map (λ w. w.now) items ++ word.now ∷ []) ≡ map (λ w. w.now) items
keep_none items word full =
    let all = map (λ (w : Bor Word). w.now) items in
    let many : 34 ≤ length all = omega (arith, full, length-map items (λ (w : Bor Word). w.now)) in
    let few : length all ≤ 34 = omega (arith, full, length-map items (λ (w : Bor Word). w.now)) in
    take-append-le 34 all (word.now ∷ []) many ∙ take_all 34 all few
