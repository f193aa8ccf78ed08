use Rattle.std.proofs.Common.{drop}
use Rattle.command_words.proofs.Denying.{HasDenied}
use Rattle.command_words.proofs.Ruled.{rule_words}
use Rattle.command_words.proofs.denied.put_denied.Given as goal

abbrev pub invariant-loop-text : goal.invariant-loop-text
invariant-loop-text l = HasDenied (rule_words l.texts) (rule_words (drop l.text-index l.texts)) l.denied.items
