use Rattle.std.proofs.Common.{◌∙◌}
use Rattle.ordered_rows.proofs.Rowing.{first_found, none_found}
use Rattle.ordered_rows.proofs.first_of.Goals as goal

pub returns-clause-least : goal.returns-clause-least
returns-clause-least c = λ numbers are. first_found numbers c.args.row.now c.copied.result (c.copied.ensures ∙ c.first.ensures.value) are

pub returns-clause-none : goal.returns-clause-none
returns-clause-none c = λ numbers are. none_found numbers c.args.row.now c.copied.result (c.copied.ensures ∙ c.first.ensures.value) are
