use Rattle.std.proofs.Common.{◌+◌, ◌≤◌, List, length, drop, sym, subst, arith}
use Rattle.std.proofs.lemmas.Result.{err_from_is_err_and}
use Rattle.command_words.specs.Options.{Word}
use Rattle.address_text.specs.Rules.{IsRule}
use Rattle.command_words.proofs.Ruled.{HasRead, rule_words, next_rule, no_rule, read_on, read_none, read_all}
use Rattle.command_words.proofs.rules.read_rules.Goals as goal

pub loop-rule-preserved : goal.loop-rule-preserved
loop-rule-preserved c =
    let rules = rule_words c.args.rules.now in
    let at = c.loop-rule.rule-index in
    let left = subst (λ (w : List Word). HasRead rules w c.args.dhcp_start.0 c.loop-rule.forwards.items) (next_rule c.args.rules.now at _ c.loop-rule-test.true) c.loop-rule.invariant in
    let rule = subst (λ (w : Word). IsRule w c.args.dhcp_start.0 c.in_ok-forward.forward) c.as_bytes.ensures.value c.in_ok-forward.ensures.rule in
    read_on rules (rule_words (drop (at + 1) c.args.rules.now)) _ c.args.dhcp_start.0 _ _ _ left rule c.put_one.ensures

pub returns-in_err-forward-clause-refused : goal.returns-in_err-forward-clause-refused
returns-in_err-forward-clause-refused c = let p = err_from_is_err_and c.from_residual.result c.from_residual.ensures.1 in rw (p.1) (
    let rules = rule_words c.args.rules.now in
    let at = c.loop-rule.rule-index in
    let left = subst (λ (w : List Word). HasRead rules w c.args.dhcp_start.0 c.loop-rule.forwards.items) (next_rule c.args.rules.now at _ c.loop-rule-test.true) c.loop-rule.invariant in
    read_none rules (rule_words (drop (at + 1) c.args.rules.now)) _ c.args.dhcp_start.0 _ left
    (λ f is. c.in_err-forward.ensures.refused f (subst (λ (w : Word). IsRule w c.args.dhcp_start.0 f) (sym c.as_bytes.ensures.value) is)))

pub returns-clause-read : goal.returns-clause-read
returns-clause-read c =
    let rules = rule_words c.args.rules.now in
    let past : length c.args.rules.now ≤ c.loop-rule.rule-index = omega (arith, c.loop-rule-test.false, c.loop-rule.auto.rule-index-end) in
    read_all rules c.args.dhcp_start.0 _ (subst (λ (w : List Word). HasRead rules w c.args.dhcp_start.0 c.loop-rule.forwards.items)
    (no_rule c.args.rules.now c.loop-rule.rule-index past) c.loop-rule.invariant)
