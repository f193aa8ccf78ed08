use Rattle.std.proofs.Common.{◌≡◌, ◌⊎◌, Some, None, option_copied, ◌≤◌, ◌++◌, List, length, map, take, drop, ◌+◌, sym, ◌∙◌, ap, subst, arith}
use Rattle.std.proofs.lemmas.List.{length-map, length-take, take_all}
use Rattle.std.specs.String.{string_bytes}
use Rattle.command_words.specs.Options.{Word, Given, repeated}
use Rattle.command_words.specs.Walking.{Fits, completed, fresh, given_of, guest_rule, hold, keep_own, kept_denied, kept_guests, listed, step_with, walk_of}
use Rattle.command_words.proofs.Coming.{HasCome, all_words, begun, come_all, come_far, come_none, come_on, come_waiting, next_word, on_err_is, on_ok_is}
use Rattle.command_words.proofs.Ruled.{rule_words}
use Rattle.command_words.proofs.line.Line.read.Goals as goal

pub loop-place-init : goal.loop-place-init
loop-place-init c = begun c.args.verb _ _ _ (
    ap (λ (o : List Given). record (fresh c.args.verb) { options = o }) (ap (map given_of) (sym c.new.ensures))
    ∙ ap (λ (a : List Word). record (fresh c.args.verb) { options = map given_of c.new.result.items; alone = a }) (ap rule_words (sym c.new-2.ensures)))
    (ap rule_words c.new-guests.ensures) (ap rule_words c.new-denied.ensures)

pub loop-place-preserved : goal.loop-place-preserved
loop-place-preserved c =
    let read = map string_bytes (take c.loop-place.place c.args.words.now) in
    let text = c.as_str-word.ensures.value ∙ ap string_bytes c.index-words-place.is in
    let ok = sym c.is_err.ensures.value ∙ c.if-is_err.false in
    subst (λ (w : List Word). HasCome c.args.verb w c.take.new.self (rule_words c.lead.new.guests.items) (rule_words c.deny.new.denied.items))
    (sym (next_word string_bytes c.args.words.now c.loop-place.place c.index-words-place.result c.loop-place-test.true))
    (come_on c.args.verb read _ c.loop-place.line (rule_words c.loop-place.guests.items) (rule_words c.loop-place.denied.items) c.loop-place.invariant c.take.new.self
    (rule_words c.lead.new.guests.items) (rule_words c.deny.new.denied.items)
    (subst (λ (w : Word). step_with keep_own hold (walk_of c.loop-place.line) w ≡ Some (walk_of c.take.new.self)) text (on_ok_is c.take.result _ ok c.take.ensures.taken))
    (subst (λ (w : Word). Fits (walk_of c.loop-place.line) w) text (on_ok_is c.take.result _ ok c.take.ensures.fits))
    (subst (λ (w : Word). (all : List Word) → rule_words c.loop-place.denied.items ≡ kept_denied all
    → rule_words c.deny.new.denied.items ≡ kept_denied (all ++ repeated (listed (completed (walk_of c.loop-place.line) w)))) text c.deny.ensures)
    (subst (λ (w : Word). (all : List Word) → rule_words c.loop-place.guests.items ≡ kept_guests all
    → rule_words c.lead.new.guests.items ≡ kept_guests (all ++ guest_rule (walk_of c.loop-place.line) w)) text c.lead.ensures))

pub returns-then-is_err-clause-refused : goal.returns-then-is_err-clause-refused
returns-then-is_err-clause-refused c =
    let place = c.loop-place.place in
    let read = map string_bytes (take place c.args.words.now) in
    let text = c.as_str-word.ensures.value ∙ ap string_bytes c.index-words-place.is in
    let err = sym c.is_err.ensures.value ∙ c.if-is_err.true in
    let why = subst (λ (w : Word). (step_with keep_own hold (walk_of c.loop-place.line) w ≡ None) ⊎ ¬ Fits (walk_of c.loop-place.line) w) text (on_err_is c.take.result _ err c.take.ensures.refused) in
    let all = all_words string_bytes c.args.words.now place c.index-words-place.result c.loop-place-test.true in
    let long : place ≡ length read = omega (arith, c.loop-place-test.true, length-map (take place c.args.words.now) string_bytes, length-take place c.args.words.now) in (
      read,
      _,
      map string_bytes (drop (place + 1) c.args.words.now),
      sym all,
      ap (λ n. n + 1) long,
      come_far c.args.verb read c.loop-place.line _ _ c.loop-place.invariant,
      come_none c.args.verb read _ c.loop-place.line _ _ c.loop-place.invariant why,
    )

pub returns-in-Some-clause-refused : goal.returns-in-Some-clause-refused
returns-in-Some-clause-refused c =
    let past : length c.args.words.now ≤ c.loop-place.place = omega (arith, c.loop-place-test.false, c.loop-place.auto.place-end) in
    let come = subst (λ (w : List _). HasCome c.args.verb (map string_bytes w) c.loop-place.line (rule_words c.loop-place.guests.items) (rule_words c.loop-place.denied.items))
    (take_all c.loop-place.place c.args.words.now past) c.loop-place.invariant in (
      come_far c.args.verb (map string_bytes c.args.words.now) c.loop-place.line _ _ come,
      come_waiting c.args.verb (map string_bytes c.args.words.now) c.loop-place.line _ _ come _ (ap option_copied c.in-Some.is),
    )

pub returns-in-None-clause-read : goal.returns-in-None-clause-read
returns-in-None-clause-read c =
    let past : length c.args.words.now ≤ c.loop-place.place = omega (arith, c.loop-place-test.false, c.loop-place.auto.place-end) in
    let come = subst (λ (w : List _). HasCome c.args.verb (map string_bytes w) c.loop-place.line (rule_words c.loop-place.guests.items) (rule_words c.loop-place.denied.items))
    (take_all c.loop-place.place c.args.words.now past) c.loop-place.invariant in
    come_all c.args.verb (map string_bytes c.args.words.now) c.loop-place.line _ _ come (ap option_copied c.in-None.is)
