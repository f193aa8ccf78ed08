use Rattle.std.proofs.Common.{sym, ◌∙◌, ap}
use Rattle.std.specs.Option.{option_map}
use Rattle.command_words.specs.declared.options.Row.{Row as RowHere}
use Rattle.command_words.specs.Options.{is_row}
use Rattle.command_words.specs.Walking.{row_of}
use Rattle.command_words.proofs.Finding.{first_mapped}
use Rattle.command_words.proofs.options.kind_among.Goals as goal

pub returns-in-Some : goal.returns-in-Some
returns-in-Some c = ap (option_map (λ (row : RowHere). row.kind)) c.in-Some.ensures ∙ sym (first_mapped row_of (λ row. row.kind) (is_row c.args.verb c.args.name.now) c.args.rows.now)

pub returns-in-None : goal.returns-in-None
returns-in-None c = ap (option_map (λ (row : RowHere). row.kind)) c.in-None.ensures ∙ sym (first_mapped row_of (λ row. row.kind) (is_row c.args.verb c.args.name.now) c.args.rows.now)
