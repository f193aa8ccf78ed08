use Rattle.std.proofs.Common.{sym, ◌∙◌}
use Rattle.address_text.proofs.Parting.{split_place, text_lacks, first_lacks}
use Rattle.address_text.proofs.split_at.Goals as goal

pub returns-clause-parts : goal.returns-clause-parts
returns-clause-parts c = split_place c.args.text.now c.args.octet c.in-Some.at (sym c.in-Some.ensures)

pub returns-in_default-clause-refused : goal.returns-in_default-clause-refused
returns-in_default-clause-refused c = text_lacks c.args.octet c.args.text.now (sym c.place_of.ensures ∙ c.in_default.is)

pub returns-clause-first : goal.returns-clause-first
returns-clause-first c = first_lacks c.args.octet c.in-Some.at c.args.text.now (sym c.in-Some.ensures)
