use Rattle.std.proofs.Common.{drop}
use Rattle.command_words.proofs.Guested.{HasLed}
use Rattle.command_words.proofs.Ruled.{rule_words}
use Rattle.command_words.proofs.guests.read_rules.Given as goal

abbrev pub invariant-loop-rule : goal.invariant-loop-rule
invariant-loop-rule l = HasLed (rule_words l.rules) (rule_words (drop l.rule-index l.rules)) l.forwards.items
