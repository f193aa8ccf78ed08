use Rattle.std.proofs.Common.{drop}
use Rattle.command_words.proofs.Ruled.{HasRead, rule_words}
use Rattle.command_words.proofs.rules.read_rules.Given as goal

abbrev pub invariant-loop-rule : goal.invariant-loop-rule
invariant-loop-rule l = HasRead (rule_words l.rules) (rule_words (drop l.rule-index l.rules)) l.dhcp_start.0 l.forwards.items
