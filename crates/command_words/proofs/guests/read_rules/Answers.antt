use Rattle.std.proofs.Common.{◌+◌, ◌≤◌, List, length, drop, subst, arith}
use Rattle.std.proofs.lemmas.Result.{err_from_is_err_and}
use Rattle.command_words.specs.Options.{Word}
use Rattle.command_words.proofs.Guested.{HasLed, lead_all, lead_none, lead_on, none_led}
use Rattle.command_words.proofs.Ruled.{rule_words, next_rule, no_rule}
use Rattle.command_words.proofs.guests.read_rules.Goals as goal

pub loop-rule-init : goal.loop-rule-init
loop-rule-init c = none_led (rule_words c.args.rules.now) c.args.forwards.now.items c.requires

pub loop-rule-preserved : goal.loop-rule-preserved
loop-rule-preserved c =
    let rules = rule_words c.args.rules.now in
    let at = c.loop-rule.rule-index in
    let left = subst (λ (w : List Word). HasLed rules w c.loop-rule.forwards.items) (next_rule c.args.rules.now at _ c.loop-rule-test.true) c.loop-rule.invariant in
    lead_on rules (rule_words (drop (at + 1) c.args.rules.now)) _ _ _ _ left c.in_ok-forward.ensures.rule c.put_one.ensures

pub returns-in_err-forward-clause-refused : goal.returns-in_err-forward-clause-refused
returns-in_err-forward-clause-refused c = let p = err_from_is_err_and c.from_residual.result c.from_residual.ensures.1 in rw (p.1) (
    let rules = rule_words c.args.rules.now in
    let at = c.loop-rule.rule-index in
    let left = subst (λ (w : List Word). HasLed rules w c.loop-rule.forwards.items) (next_rule c.args.rules.now at _ c.loop-rule-test.true) c.loop-rule.invariant in
    lead_none rules (rule_words (drop (at + 1) c.args.rules.now)) _ _ left c.in_err-forward.ensures.refused)

pub returns-clause-read : goal.returns-clause-read
returns-clause-read c =
    let rules = rule_words c.args.rules.now in
    let past : length c.args.rules.now ≤ c.loop-rule.rule-index = omega (arith, c.loop-rule-test.false, c.loop-rule.auto.rule-index-end) in
    lead_all rules _ (subst (λ (w : List Word). HasLed rules w c.loop-rule.forwards.items) (no_rule c.args.rules.now c.loop-rule.rule-index past) c.loop-rule.invariant)
