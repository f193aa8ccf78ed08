use Rattle.std.proofs.Common.{subst}
use Rattle.flow_table.specs.declared.Entry.{Entry}
use Rattle.std.specs.Prelude.{List}
use Rattle.flow_table.specs.Rows.{IsPlaceOf}
use Rattle.flow_table.proofs.Searching.{is_found}
use Rattle.flow_table.proofs.entries.remove_entry.Goals as goal

pub returns-in_default-clause-place : goal.returns-in_default-clause-place
returns-in_default-clause-place c =
    let place = subst (λ (es : List Entry). IsPlaceOf es c.args.t.now c.place_of.result) c.deref.ensures.value c.place_of.ensures in
    absurd (is_found _ c.place_of.result c.args.t.now c.requires.there.0 c.requires.there.1 place (λ x is. c.in_default.not-Ok x is))
