-- What a step changes; the words that stand by themselves, of which each is what its place wants.
use Rattle.std.proofs.Common.{◌≡◌, Bool, true, false, cond, not, ◌&&◌, ◌||◌, ltb, List, [], ◌∷◌, ◌++◌, length, bytes_eq, codes, Option, Some, None, MatchBool, refl, sym, ◌∙◌, ap}
use Rattle.std.proofs.Common.{subst, append-nil}
use Rattle.std.specs.List.{position_or_len, before_first, after_first}
use Rattle.command_words.specs.declared.options.Verb.{Verb}
use Rattle.command_words.specs.declared.options.Verb.TheVariants.{Replay, Serve}
use Rattle.command_words.specs.Options.{Word, Given, takes_value, is_dashed}
use Rattle.address_text.specs.Rules.{AreRuleWords, IsRuleWord}
use Rattle.command_words.specs.Walking.{Walk, AreWanted, FitsAlone, IsWanted, add_all, completed, ends, flag_of, has_none, is_replay, is_sign, listed, may_stand, named, put_dashed}
use Rattle.command_words.specs.Walking.{put_joined, put_name, put_option}
use Rattle.command_words.specs.Walking.{stands_alone, step, wants_file}
use Rattle.command_words.proofs.Back.{chosen, put_back, same_walk, stepped, Stepped, Ends, Alone, Joins, Waits, Flags, value_back}
use Rattle.command_words.proofs.Names.{dashed_name, same_text}
use Rattle.command_words.proofs.Steps.{at, behind_end, dashed_joined, given, waiting}

-- what a step changes
pub record After (walk : Walk) (word : Word) (next : Walk) : Type 0 where
  pub verb : next.verb ≡ walk.verb
  pub alone : next.alone ≡ cond (stands_alone walk word) (walk.alone ++ word ∷ []) walk.alone
  pub options : next.options ≡ walk.options ++ listed (completed walk word)
  pub ended : next.ended ≡ walk.ended || ends walk word

-- `--` is no option
pub no_option : (verb : Verb) (word : Word) → word ≡ codes "--" → cond (is_dashed word) (named verb word) None ≡ None
no_option verb word is = ap (λ (w : Word). cond (is_dashed w) (named verb w) None) is

module _ (verb : Verb) (o : List Given) (a : List Word) where
  abbrev within : Option Word → Bool → Walk
  within waits ended = record { verb = verb; options = o; alone = a; waits = waits; ended = ended }

  -- a word that begins with a dash, between two pieces
  abbrev Stands : Word → Walk → Type 0
  Stands word v = (v.verb ≡ verb) × (v.alone ≡ cond (not (is_dashed word)) (a ++ word ∷ []) a)

  dashed_after : (word : Word) (v : Walk) → is_dashed word ≡ true → v.verb ≡ verb → v.alone ≡ a → Stands word v
  dashed_after word v dashed same kept = (same, rw dashed kept)

  by_form : (word : Word) (v : Walk) → Stepped verb o a word v → Stands word v
  by_form word v (Ends is after) = dashed_after word v (ap is_dashed is) (ap (λ (w : Walk). w.verb) after) (ap (λ (w : Walk). w.alone) after)
  by_form word v (Alone plain after) = (ap (λ (w : Walk). w.verb) after, rw plain (ap (λ (w : Walk). w.alone) after))
  by_form word v (Joins name value is takes some free after) =
      dashed_after word v (ap is_dashed is ∙ dashed_joined verb o a name value (dashed_name verb name true takes)) (ap (λ (w : Walk). w.verb) after) (ap (λ (w : Walk). w.alone) after)
  by_form word v (Waits takes free after) = dashed_after word v (dashed_name verb word true takes) (ap (λ (w : Walk). w.verb) after) (ap (λ (w : Walk). w.alone) after)
  by_form word v (Flags takes free after) = dashed_after word v (dashed_name verb word false takes) (ap (λ (w : Walk). w.verb) after) (ap (λ (w : Walk). w.alone) after)

  -- its options, and that it goes on
  abbrev Puts : Walk → List Given → Type 0
  Puts v given = (v.options ≡ o ++ given) × (v.ended ≡ false)

  by_option : (name value : Word) (v : Walk) → put_option add_all (at verb o a) name value ≡ Some v → Puts v (given name value ∷ [])
  by_option name value v h = let same = (put_back verb o a name value v h).1 in (ap (λ (w : Walk). w.options) same, ap (λ (w : Walk). w.ended) same)

  by_joined : (name value : Word) (t : Option Bool) (v : Walk) →
      (elim t [ None ↦ None | Some takes ↦ cond (takes && ltb 0 (length value)) (put_option add_all (at verb o a) name value) None ]) ≡ Some v → Puts v (given name value ∷ [])
  by_joined name value None v h = absurd (cc h)
  by_joined name value (Some takes) v h = let c = chosen (takes && ltb 0 (length value)) (put_option add_all (at verb o a) name value) v h in by_option name value v c.1

  by_name : (word : Word) (t : Option Bool) (v : Walk)
      → (elim t [ None ↦ None | Some takes ↦ cond takes (cond (may_stand o word) (Some (waiting verb o a word)) None) (put_option add_all (at verb o a) word []) ]) ≡ Some v
      → Puts v (listed (elim t [ None ↦ None | Some takes ↦ cond takes None (Some (given word [])) ]))
  by_name word None v h = absurd (cc h)
  by_name word (Some true) v h =
      let c = chosen (may_stand o word) (Some (waiting verb o a word)) v h in
      let same = same_walk (waiting verb o a word) v c.1 in
      (sym (ap (λ (w : Walk). w.options) same) ∙ sym (append-nil o), sym (ap (λ (w : Walk). w.ended) same))
  by_name word (Some false) v h = by_option word [] v h

  by_dashed : (word : Word) (t : Bool) (v : Walk) → cond t (put_joined add_all (at verb o a) (before_first is_sign word) (after_first is_sign word)) (put_name add_all (at verb o a) word) ≡ Some v
      → Puts v (listed (cond t (Some (given (before_first is_sign word) (after_first is_sign word))) (flag_of verb word)))
  by_dashed word true v h = by_joined (before_first is_sign word) (after_first is_sign word) (takes_value verb (before_first is_sign word)) v h
  by_dashed word false v h = by_name word (takes_value verb word) v h

  by_word : (word : Word) (d : Bool) (v : Walk) → cond d (put_dashed add_all (at verb o a) word) (Some (at verb o (a ++ word ∷ []))) ≡ Some v → Puts v (listed (cond d (named verb word) None))
  by_word word true v h = by_dashed word (ltb (position_or_len is_sign word) (length word)) v h
  by_word word false v h =
      let same = same_walk (at verb o (a ++ word ∷ [])) v h in
      (sym (ap (λ (w : Walk). w.options) same) ∙ sym (append-nil o), sym (ap (λ (w : Walk). w.ended) same))

  by_begin : (word : Word) (e : Bool) → bytes_eq word (codes "--") ≡ e → (v : Walk)
      → cond e (Some (behind_end verb o a)) (cond (is_dashed word) (put_dashed add_all (at verb o a) word) (Some (at verb o (a ++ word ∷ [])))) ≡ Some v
      → (v.options ≡ o ++ listed (cond (is_dashed word) (named verb word) None)) × (v.ended ≡ e)
  by_begin word true is v h =
      let same = same_walk (behind_end verb o a) v h in
      let none = no_option verb word (same_text word (codes "--") is) in
      (sym (ap (λ (w : Walk). w.options) same) ∙ sym (append-nil o) ∙ ap (λ (t : Option Given). o ++ listed t) (sym none), sym (ap (λ (w : Walk). w.ended) same))
  by_begin word false is v h = by_word word (is_dashed word) v h

  after_of : (waits : Option Word) (ended : Bool) (word : Word) (v : Walk) → step (within waits ended) word ≡ Some v → After (within waits ended) word v
  after_of waits true word v is =
      let same = same_walk (record (within waits true) { alone = a ++ word ∷ [] }) v is in
      record {
        verb = sym (ap (λ (w : Walk). w.verb) same);
        alone = sym (ap (λ (w : Walk). w.alone) same);
        options = sym (ap (λ (w : Walk). w.options) same) ∙ sym (append-nil o);
        ended = sym (ap (λ (w : Walk). w.ended) same);
      }
  after_of None false word v is =
      let stands = by_form word v (stepped verb o a word v is) in
      let puts = by_begin word (bytes_eq word (codes "--")) refl v is in
      record { verb = stands.0; alone = stands.1; options = puts.0; ended = puts.1 }
  after_of (Some name) false word v is =
      let put = value_back verb o a name word v is in
      record {
        verb = ap (λ (w : Walk). w.verb) put.after;
        alone = ap (λ (w : Walk). w.alone) put.after;
        options = ap (λ (w : Walk). w.options) put.after;
        ended = ap (λ (w : Walk). w.ended) put.after;
      }

pub after_step : (walk next : Walk) (word : Word) → step walk word ≡ Some next → After walk word next
after_step walk next word is = after_of walk.verb walk.options walk.alone walk.waits walk.ended word next is

-- one more RULE
rules_more : (rules : List Word) (word : Word) → AreRuleWords rules → IsRuleWord word → AreRuleWords (rules ++ word ∷ [])
rules_more [] word are is = (is, tt)
rules_more (rule ∷ rules) word are is = (are.0, rules_more rules word are.1 is)

rules_before : (rules : List Word) (word : Word) → AreRuleWords (rules ++ word ∷ []) → AreRuleWords rules × IsRuleWord word
rules_before [] word are = (tt, are.0)
rules_before (rule ∷ rules) word are = let rest = rules_before rules word are.1 in ((are.0, rest.0), rest.1)

-- one more word that is wanted
wanted_more : (verb : Verb) (a : List Word) (word : Word) → AreWanted verb a → IsWanted (is_replay verb && has_none a) word → AreWanted verb (a ++ word ∷ [])
wanted_more Replay [] word are is = (is, tt)
wanted_more Replay (file ∷ rules) word are is = (are.0, rules_more rules word are.1 is)
wanted_more Serve a word are is = rules_more a word are is

wanted_before : (verb : Verb) (a : List Word) (word : Word) → AreWanted verb (a ++ word ∷ []) → AreWanted verb a × IsWanted (is_replay verb && has_none a) word
wanted_before Replay [] word are = (tt, are.0)
wanted_before Replay (file ∷ rules) word are = let rest = rules_before rules word are.1 in ((are.0, rest.0), rest.1)
wanted_before Serve a word are = rules_before a word are

abbrev alone_after : Bool → Walk → Word → List Word
alone_after stands walk word = cond stands (walk.alone ++ word ∷ []) walk.alone

module _ (walk next : Walk) (word : Word) (is : step walk word ≡ Some next) where
  pub still_wanted : AreWanted walk.verb walk.alone → FitsAlone walk word → AreWanted next.verb next.alone
  still_wanted are fits =
      let after = after_step walk next word is in
      let by_test : (t : Bool) → MatchBool t (IsWanted (wants_file walk) word) (Unit {0}) → AreWanted walk.verb (alone_after t walk word) = λ t.
      (elim t as (λ b. MatchBool b (IsWanted (wants_file walk) word) (Unit {0}) → AreWanted walk.verb (alone_after b walk word)) [
        | true ↦ λ h. wanted_more walk.verb walk.alone word are h
        | false ↦ λ h. are
      ]) in
      let kept = by_test (stands_alone walk word) fits in
      subst (λ (v : Verb). AreWanted v next.alone) (sym after.verb) (subst (λ (a : List Word). AreWanted walk.verb a) (sym after.alone) kept)

  pub was_wanted : AreWanted next.verb next.alone → AreWanted walk.verb walk.alone × FitsAlone walk word
  was_wanted are =
      let after = after_step walk next word is in
      let kept : AreWanted walk.verb (alone_after (stands_alone walk word) walk word) = subst (λ (a : List Word). AreWanted walk.verb a) after.alone
      (subst (λ (v : Verb). AreWanted v next.alone) after.verb are) in
      let by_test : (t : Bool) → AreWanted walk.verb (alone_after t walk word) → AreWanted walk.verb walk.alone × MatchBool t (IsWanted (wants_file walk) word) (Unit {0}) = λ t.
      (elim t as (λ b. AreWanted walk.verb (alone_after b walk word) → AreWanted walk.verb walk.alone × MatchBool b (IsWanted (wants_file walk) word) (Unit {0})) [
        | true ↦ λ h. wanted_before walk.verb walk.alone word h
        | false ↦ λ h. (h, tt)
      ]) in
      by_test (stands_alone walk word) kept
