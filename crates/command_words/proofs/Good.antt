-- What can go on to a reading, step by step.
use Rattle.std.proofs.Common.{◌≡◌, Bool, true, false, cond, not, ◌&&◌, ◌||◌, List, [], ◌∷◌, ◌++◌, bytes_eq, codes, Option, Some, None, is_some, MatchOption, refl, sym, ◌∙◌, ap, subst, append-nil}
use Rattle.command_words.specs.declared.options.Verb.{Verb}
use Rattle.command_words.specs.declared.options.Verb.TheVariants.{Replay, Serve}
use Rattle.command_words.specs.Options.{Word, Given, is_dashed, value_in}
use Rattle.command_words.specs.Walking.{Walk, AreGiven, AreWanted, Fits, FitsAlone, IsGiven, IsGood, completed, ends, has_link, is_both, listed, named, step}
use Rattle.command_words.proofs.Given.{more_given}
use Rattle.command_words.proofs.Names.{same_text}
use Rattle.command_words.proofs.Wanted.{After, after_step, no_option, still_wanted, was_wanted}

-- one option more
given_more : (verb : Verb) (o : List Given) (g : Given) → AreGiven verb o → IsGiven verb g → AreGiven verb (o ++ g ∷ [])
given_more verb [] g are is = (is, tt)
given_more verb (x ∷ xs) g are is = (are.0, given_more verb xs g are.1 is)

given_before : (verb : Verb) (o : List Given) (g : Given) → AreGiven verb (o ++ g ∷ []) → AreGiven verb o × IsGiven verb g
given_before verb [] g are = (tt, are.0)
given_before verb (x ∷ xs) g are = let rest = given_before verb xs g are.1 in ((are.0, rest.0), rest.1)

either : (b c : Bool) → b ≡ true → b || c ≡ true
either true c h = refl
either false c h = absurd (cc h)

second : (b c : Bool) → c ≡ true → b || c ≡ true
second true c h = refl
second false c h = h

neither_both : (x y p q : Bool) → (x || p) && (y || q) ≡ false → x && y ≡ false
neither_both true true p q h = h
neither_both true false p q h = refl
neither_both false y p q h = refl

both_before : (o : List Given) (g : Given) → is_both (o ++ g ∷ []) ≡ false → is_both o ≡ false
both_before o g h = neither_both (is_some (value_in o (codes "--record"))) (is_some (value_in o (codes "--capture"))) (bytes_eq g.name (codes "--record")) (bytes_eq g.name (codes "--capture"))
    (ap (λ (b : Bool). b && (is_some (value_in o (codes "--capture")) || bytes_eq g.name (codes "--capture"))) (sym (more_given o g (codes "--record")))
    ∙ ap (λ (b : Bool). is_some (value_in (o ++ g ∷ []) (codes "--record")) && b) (sym (more_given o g (codes "--capture"))) ∙ h)

link_more : (verb : Verb) (o : List Given) (t : Option Given) → has_link verb o ≡ true → has_link verb (o ++ listed t) ≡ true
link_more Replay o t h = refl
link_more Serve o None h = ap (λ (x : List Given). is_some (value_in x (codes "--link"))) (append-nil o) ∙ h
link_more Serve o (Some g) h = more_given o g (codes "--link") ∙ either (is_some (value_in o (codes "--link"))) (bytes_eq g.name (codes "--link")) h

-- a word that ends the options, or stands behind such a one, completes none
none_ended : (walk : Walk) (word : Word) → walk.ended ≡ true → completed walk word ≡ None
none_ended walk word is = rw is refl

none_completed : (walk : Walk) (word : Word) → ends walk word ≡ true → completed walk word ≡ None
none_completed walk word is = by_cases walk.ended walk.waits is
  where
    by_cases : (ended : Bool) (waits : Option Word) → not ended && not (is_some waits) && bytes_eq word (codes "--") ≡ true
        → cond {A = Option Given} ended None (elim waits [ None ↦ cond (is_dashed word) (named walk.verb word) None | Some name ↦ Some (record { name = name; value = word }) ]) ≡ None
    by_cases true waits h = refl
    by_cases false (Some name) h = absurd (cc h)
    by_cases false None h = no_option walk.verb word (same_text word (codes "--") h)

module _ (walk next : Walk) (word : Word) (is : step walk word ≡ Some next) where
  after : After walk word next
  after = after_step walk next word is

  -- what is put, and what isn't
  same_options : completed walk word ≡ None → next.options ≡ walk.options
  same_options none = after.options ∙ ap (λ (t : Option Given). walk.options ++ listed t) none ∙ append-nil walk.options

  same_link : completed walk word ≡ None → has_link next.verb next.options ≡ has_link walk.verb walk.options
  same_link none = ap (λ (v : Verb). has_link v next.options) after.verb ∙ ap (has_link walk.verb) (same_options none)

  pub still_good : IsGood walk → Fits walk word → IsGood next
  still_good good fits = record {
    wanted = still_wanted walk next word is good.wanted fits.0;
    given = subst (λ (v : Verb). AreGiven v next.options) (sym after.verb) (subst (AreGiven walk.verb) (sym after.options) (given_by (completed walk word) fits.1));
    one = ap is_both after.options ∙ one_by (completed walk word) fits.1;
    linked = λ ended. ap (λ (v : Verb). has_link v next.options) after.verb ∙ ap (has_link walk.verb) after.options ∙ link_more walk.verb walk.options (completed walk word)
        (linked_by walk.ended (ends walk word) refl refl (sym after.ended ∙ ended));
  }
    where
      given_by : (t : Option Given) → MatchOption t (Unit {0}) (λ given. IsGiven walk.verb given × (is_both (walk.options ++ given ∷ []) ≡ false)) → AreGiven walk.verb (walk.options ++ listed t)
      given_by None h = subst (AreGiven walk.verb) (sym (append-nil walk.options)) good.given
      given_by (Some g) h = given_more walk.verb walk.options g good.given h.0

      one_by : (t : Option Given) → MatchOption t (Unit {0}) (λ given. IsGiven walk.verb given × (is_both (walk.options ++ given ∷ []) ≡ false)) → is_both (walk.options ++ listed t) ≡ false
      one_by None h = ap is_both (append-nil walk.options) ∙ good.one
      one_by (Some g) h = h.1

      linked_by : (a b : Bool) → walk.ended ≡ a → ends walk word ≡ b → a || b ≡ true → has_link walk.verb walk.options ≡ true
      linked_by true b ended e h = good.linked ended
      linked_by false true ended e h = sym (ap (λ (x : Bool). not x || has_link walk.verb walk.options) e) ∙ fits.2
      linked_by false false ended e h = absurd (cc h)

  pub was_good : IsGood next → IsGood walk × Fits walk word
  was_good good = (
    record { wanted = wanted.0; given = (given_by (completed walk word) given).0; one = one_by (completed walk word) both_next; linked = linked },
    (wanted.1, option_by (completed walk word) given both_next, can_by (ends walk word) refl),
  )
    where
      wanted : AreWanted walk.verb walk.alone × FitsAlone walk word
      wanted = was_wanted walk next word is good.wanted

      given : AreGiven walk.verb (walk.options ++ listed (completed walk word))
      given = subst (AreGiven walk.verb) after.options (subst (λ (v : Verb). AreGiven v next.options) after.verb good.given)

      both_next : is_both (walk.options ++ listed (completed walk word)) ≡ false
      both_next = sym (ap is_both after.options) ∙ good.one

      given_by : (t : Option Given) → AreGiven walk.verb (walk.options ++ listed t) → AreGiven walk.verb walk.options × Unit {0}
      given_by None h = (subst (AreGiven walk.verb) (append-nil walk.options) h, tt)
      given_by (Some g) h = ((given_before walk.verb walk.options g h).0, tt)

      one_by : (t : Option Given) → is_both (walk.options ++ listed t) ≡ false → is_both walk.options ≡ false
      one_by None h = sym (ap is_both (append-nil walk.options)) ∙ h
      one_by (Some g) h = both_before walk.options g h

      linked : walk.ended ≡ true → has_link walk.verb walk.options ≡ true
      linked ended = sym (same_link (none_ended walk word ended)) ∙ good.linked (after.ended ∙ either walk.ended (ends walk word) ended)

      option_by : (t : Option Given) → AreGiven walk.verb (walk.options ++ listed t) → is_both (walk.options ++ listed t) ≡ false
          → MatchOption t (Unit {0}) (λ given. IsGiven walk.verb given × (is_both (walk.options ++ given ∷ []) ≡ false))
      option_by None h k = tt
      option_by (Some g) h k = ((given_before walk.verb walk.options g h).1, k)

      can_by : (b : Bool) → ends walk word ≡ b → not b || has_link walk.verb walk.options ≡ true
      can_by true e = sym (same_link (none_completed walk word e)) ∙ good.linked (after.ended ∙ second walk.ended (ends walk word) e)
      can_by false e = refl
