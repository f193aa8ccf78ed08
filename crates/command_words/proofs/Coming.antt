-- The loop over the words: what was walked so far, and how a line keeps it.
use Rattle.std.proofs.Common.{◌≡◌, ◌⊎◌, inl, inr, ℕ, ◌+◌, ◌<◌, List, [], ◌∷◌, ◌++◌, length, map, take, drop, get_or, Result, Ok, Err, OnOk, OnErr, is_err, true, false, Option, Some, None}
use Rattle.std.proofs.Common.{option_copied, is_some, cond, not, ◌&&◌, Bool, refl, sym, ◌∙◌, ap, subst, append_assoc, append-nil}
use Rattle.std.proofs.lemmas.List.{map-append, take-append-drop, take_more}
use Rattle.command_words.specs.declared.options.Verb.{Verb}
use Rattle.command_words.specs.declared.options.Verb.TheVariants.{Replay, Serve}
use Rattle.command_words.specs.declared.line.Line.{Line as LineHere}
use Rattle.command_words.specs.Options.{Word, Given, repeated}
use Rattle.command_words.specs.Walking.{stands_alone, Walk, AreWanted, Fits, HasWalked, IsGood, IsProper, Walks, completed, finished, fresh, guest_rule, guests_of, hold, keep_own}
use Rattle.command_words.specs.Walking.{kept_denied, kept_guests, kept_of, listed, next, step, step_with, walk_of, walk_on, walked}
use Rattle.command_words.proofs.Kept.{fits_kept, kept_fits, step_refused, step_taken, wants_kept}
use Rattle.address_text.specs.Rules.{is_guest_word}
use Rattle.command_words.proofs.Sorted.{guests_step}
use Rattle.command_words.proofs.Wanted.{after_step}
use Rattle.command_words.proofs.Good.{still_good, was_good}
use Rattle.command_words.proofs.Proper.{fresh_proper, still_proper}
use Rattle.command_words.proofs.Single.{repeated_append}
use Rattle.command_words.proofs.Walks.{next_some, ended}

-- These words were read: whatever stands behind them goes on from a walk as all do from an empty one, and a line keeps it, and beside it denied networks are kept.
pub record HasCome (verb : Verb) (words : List Word) (line : LineHere) (guests denied : List Word) : Type 0 where
  pub walk : Walk
  pub goes : (more : List Word) → walk_on more walk ≡ walk_on (words ++ more) (fresh verb)
  pub verb_is : walk.verb ≡ verb
  pub good : IsGood walk
  pub proper : IsProper walk
  pub keeps : kept_of walk ≡ walk_of line
  pub leads : guests ≡ kept_guests (guests_of walk.verb walk.alone)
  pub denies : denied ≡ kept_denied (repeated walk.options)

no_word : (verb : Verb) → AreWanted verb []
no_word Replay = tt
no_word Serve = tt

fresh_good : (verb : Verb) → IsGood (fresh verb)
fresh_good verb = record { wanted = no_word verb; given = tt; one = refl; linked = λ ended. absurd (cc ended) }

fresh_kept : (verb : Verb) → kept_of (fresh verb) ≡ fresh verb
fresh_kept Replay = refl
fresh_kept Serve = refl

no_guest : (verb : Verb) → guests_of verb [] ≡ []
no_guest Replay = refl
no_guest Serve = refl

pub begun : (verb : Verb) (line : LineHere) (guests denied : List Word) → fresh verb ≡ walk_of line → guests ≡ [] → denied ≡ [] → HasCome verb [] line guests denied
begun verb line guests denied is alone none = record {
  walk = fresh verb;
  goes = λ more. refl;
  verb_is = refl;
  good = fresh_good verb;
  proper = fresh_proper verb;
  keeps = fresh_kept verb ∙ is;
  leads = alone ∙ ap kept_guests (sym (no_guest verb));
  denies = none;
}

-- what all words come to where they have a walk
good_from : (words : List Word) (w v : Walk) → walk_on words w ≡ Some v → IsGood v → IsGood w
good_from [] w v is good = subst IsGood (let same : v ≡ w = cc in same) good
good_from (word ∷ words) w v is good =
    let n = next_some (walk_on words) (step w word) v is in
    (was_good w n.0 word n.1 (good_from words n.0 v n.2 good)).0

module _ (verb : Verb) (words : List Word) (word : Word) (old : LineHere) (guests denied : List Word) (come : HasCome verb words old guests denied) where
  -- one more was taken
  pub come_on : (new : LineHere) (led more : List Word) → step_with keep_own hold (walk_of old) word ≡ Some (walk_of new) → Fits (walk_of old) word
      → ((all : List Word) → denied ≡ kept_denied all → more ≡ kept_denied (all ++ repeated (listed (completed (walk_of old) word)))) →
      ((all : List Word) → guests ≡ kept_guests all → led ≡ kept_guests (all ++ guest_rule (walk_of old) word)) → HasCome verb (words ++ word ∷ []) new led more
  come_on new led more is fits put put_led =
      let on = step_taken come.walk (walk_of new) word come.proper (ap (λ (w : Walk). step_with keep_own hold w word) come.keeps ∙ is) in
      let fit = fits_kept come.walk word (subst (λ (w : Walk). Fits w word) (sym come.keeps) fits) in
      record {
        walk = on.0;
        goes = λ more. sym (ap (next (walk_on more)) on.1) ∙ come.goes (word ∷ more) ∙ ap (λ (w : List Word). walk_on w (fresh verb)) (sym (append_assoc words (word ∷ []) more));
        verb_is = (after_step come.walk on.0 word on.1).verb ∙ come.verb_is;
        good = still_good come.walk on.0 word on.1 come.good fit;
        proper = still_proper come.walk on.0 word on.1 come.proper;
        keeps = on.2;
        leads =
            put_led (guests_of come.walk.verb come.walk.alone) come.leads
            ∙ ap (λ (w : Walk). kept_guests (guests_of come.walk.verb come.walk.alone ++ guest_rule w word)) (sym come.keeps)
            ∙ ap (λ (b : Bool). kept_guests (guests_of come.walk.verb come.walk.alone ++ cond (stands_alone come.walk word && not b && is_guest_word word) (word ∷ []) [])) (wants_kept come.walk)
            ∙ ap kept_guests (sym (guests_step come.walk.verb come.walk.alone word (stands_alone come.walk word)))
            ∙ ap (λ (a : List Word). kept_guests (guests_of come.walk.verb a)) (sym (after_step come.walk on.0 word on.1).alone)
            ∙ ap (λ (v : Verb). kept_guests (guests_of v on.0.alone)) (sym (after_step come.walk on.0 word on.1).verb);
        denies =
            put (repeated come.walk.options) come.denies
            ∙ ap (λ (w : Walk). kept_denied (repeated come.walk.options ++ repeated (listed (completed w word)))) (sym come.keeps)
            ∙ ap kept_denied (sym (repeated_append come.walk.options (listed (completed come.walk word))))
            ∙ ap (λ (o : List Given). kept_denied (repeated o)) (sym (after_step come.walk on.0 word on.1).options);
      }

  cause_none : (step_with keep_own hold (walk_of old) word ≡ None) ⊎ ¬ Fits (walk_of old) word → (on : Walk) → step come.walk word ≡ Some on → Fits come.walk word → ⊥
  cause_none (inl none) on is fit = step_refused come.walk on word come.proper (ap (λ (w : Walk). step_with keep_own hold w word) come.keeps ∙ none) is
  cause_none (inr unfit) on is fit = unfit (subst (λ (w : Walk). Fits w word) come.keeps (kept_fits come.walk word fit))

  -- one isn't taken, whatever stands behind it
  pub come_none : (step_with keep_own hold (walk_of old) word ≡ None) ⊎ ¬ Fits (walk_of old) word → (more : List Word) (w : Walk) → walked verb ((words ++ word ∷ []) ++ more) ≡ Some w → ¬ IsGood w
  come_none why more w is good =
      let f = next_some finished (walk_on ((words ++ word ∷ []) ++ more) (fresh verb)) w is in
      let e = ended f.0 w f.2 in
      let came : walk_on (word ∷ more) come.walk ≡ Some w = come.goes (word ∷ more) ∙ ap (λ (x : List Word). walk_on x (fresh verb)) (sym (append_assoc words (word ∷ []) more))
      ∙ f.1 ∙ ap (λ (x : Walk). Some x) e.0 in
      let n = next_some (walk_on more) (step come.walk word) w came in
      cause_none why n.0 n.1 (was_good come.walk n.0 word n.1 (good_from more n.0 w n.2 good)).1

-- all words were taken; an option that waits for its value ends it
module _ (verb : Verb) (words : List Word) (line : LineHere) (guests denied : List Word) (come : HasCome verb words line guests denied) where
  waits_is : come.walk.waits ≡ option_copied line.waits
  waits_is = ap (λ (w : Walk). w.waits) come.keeps

  walks_to : walk_on words (fresh verb) ≡ Some come.walk
  walks_to = sym (come.goes [] ∙ ap (λ (w : List Word). walk_on w (fresh verb)) (append-nil words))

  pub come_far : Walks verb words
  come_far = record { walk = come.walk; walks = walks_to; verb_is = come.verb_is; good = come.good; proper = come.proper }

  pub come_all : option_copied line.waits ≡ None → HasWalked verb words line guests denied
  come_all none =
      let done : finished come.walk ≡ Some come.walk = ap (λ (o : Option Word). cond (is_some o) None (Some come.walk)) (waits_is ∙ none) in
      record {
        walk = come.walk;
        walks = ap (next finished) walks_to ∙ done;
        verb_is = come.verb_is;
        good = come.good;
        far = come_far;
        keeps = come.keeps;
        leads = sym come.leads;
        denies = sym come.denies;
      }

  pub come_waiting : (name : Word) → option_copied line.waits ≡ Some name → (w : Walk) → walked verb words ≡ Some w → ⊥
  come_waiting name some w is =
      let not : finished come.walk ≡ None = ap (λ (o : Option Word). cond (is_some o) None (Some come.walk)) (waits_is ∙ some) in
      let clash : ◌≡◌ {A = Option Walk} None (Some w) = sym not ∙ ap (next finished) (sym walks_to) ∙ is in
      cc clash

-- the words up to a place
pub next_word : {X : Type 0} (f : X → Word) (words : List X) (i : ℕ) (d : X) → i < length words → map f (take (i + 1) words) ≡ map f (take i words) ++ f (get_or words i d) ∷ []
next_word f words i d within = ap (map f) (take_more words i d within) ∙ map-append f (take i words) (get_or words i d ∷ [])

-- the words up to a place, that one, and those behind it
pub all_words : {X : Type 0} (f : X → Word) (words : List X) (i : ℕ) (d : X) → i < length words → map f (take i words) ++ f (get_or words i d) ∷ map f (drop (i + 1) words) ≡ map f words
all_words f words i d within =
    sym (append_assoc (map f (take i words)) (f (get_or words i d) ∷ []) (map f (drop (i + 1) words)))
    ∙ ap (λ (w : List Word). w ++ map f (drop (i + 1) words)) (sym (next_word f words i d within))
    ∙ sym (map-append f (take (i + 1) words) (drop (i + 1) words))
    ∙ ap (map f) (take-append-drop (i + 1) words)

-- a fact for an answer, by the test of it
module _ {T E : Type 0} (r : Result T E) (P : Type 0) where
  pub on_err_is : is_err r ≡ true → OnErr r P → P
  on_err_is is h = (elim r as (λ x. is_err x ≡ true → OnErr x P → P) [ Ok t ↦ λ is h. absurd (cc is) | Err e ↦ λ is h. h ]) is h

  pub on_ok_is : is_err r ≡ false → OnOk r P → P
  on_ok_is is h = (elim r as (λ x. is_err x ≡ false → OnOk x P → P) [ Ok t ↦ λ is h. h | Err e ↦ λ is h. absurd (cc is) ]) is h
