use Rattle.std.proofs.Common.{sym, subst}
use Rattle.command_words.specs.Options.{Word}
use Rattle.address_text.specs.Rules.{IsRule}
use Rattle.command_words.proofs.rules.is_host_rule.Goals as goal

pub returns-in-Err : goal.returns-in-Err
returns-in-Err c = λ is. c.in-Err.ensures.refused is.0 (subst (λ (w : Word). IsRule w 0 is.0) (sym c.as_bytes.ensures.value) is.1)
