use Rattle.std.proofs.Common.{◌+◌, ◌≤◌, ℕ, List, length, drop, subst, arith}
use Rattle.std.proofs.lemmas.Result.{err_from_is_err_and}
use Rattle.slirp_settings.specs.declared.Denial.{Denial}
use Rattle.command_words.specs.Options.{Word}
use Rattle.command_words.specs.Texts.{IsDenial}
use Rattle.command_words.proofs.Denying.{HasDenied, none_denied, deny_on, deny_none, deny_all}
use Rattle.command_words.proofs.Ruled.{rule_words, next_rule, no_rule}
use Rattle.command_words.proofs.denied.put_denied.Goals as goal

pub loop-text-init : goal.loop-text-init
loop-text-init c = none_denied (rule_words c.args.texts.now) c.args.denied.now.items c.requires

pub loop-text-preserved : goal.loop-text-preserved
loop-text-preserved c =
    let texts = rule_words c.args.texts.now in
    let at = c.loop-text.text-index in
    let left = subst (λ (w : List Word). HasDenied texts w c.loop-text.denied.items) (next_rule c.args.texts.now at _ c.loop-text-test.true) c.loop-text.invariant in
    deny_on texts (rule_words (drop (at + 1) c.args.texts.now)) _ _ _ _ left
    (subst (λ (t : List ℕ). IsDenial t c.in_ok-denial.denial) c.as_bytes.ensures.value c.in_ok-denial.ensures.denial) c.put_one.ensures

pub returns-in_err-denial-clause-refused : goal.returns-in_err-denial-clause-refused
returns-in_err-denial-clause-refused c = let p = err_from_is_err_and c.from_residual.result c.from_residual.ensures.1 in rw (p.1) (
    let texts = rule_words c.args.texts.now in
    let at = c.loop-text.text-index in
    let left = subst (λ (w : List Word). HasDenied texts w c.loop-text.denied.items) (next_rule c.args.texts.now at _ c.loop-text-test.true) c.loop-text.invariant in
    deny_none texts (rule_words (drop (at + 1) c.args.texts.now)) _ _ left
    (subst (λ (t : List ℕ). (d : Denial) → ¬ IsDenial t d) c.as_bytes.ensures.value c.in_err-denial.ensures.refused))

pub returns-clause-put : goal.returns-clause-put
returns-clause-put c =
    let texts = rule_words c.args.texts.now in
    let past : length c.args.texts.now ≤ c.loop-text.text-index = omega (arith, c.loop-text-test.false, c.loop-text.auto.text-index-end) in
    deny_all texts _ (subst (λ (w : List Word). HasDenied texts w c.loop-text.denied.items) (no_rule c.args.texts.now c.loop-text.text-index past) c.loop-text.invariant)
