use Rattle.std.proofs.Common.{◌∙◌, sym, ap, List, subst}
use Rattle.std.specs.Prelude.{slice_get}
use Rattle.ordered_rows.specs.declared.Queued.{Queued}
use Rattle.ordered_rows.specs.Rows.{BelongsAt}
use Rattle.ordered_rows.proofs.Rowing.{stands_there}
use Rattle.ordered_rows.proofs.remove_queued.Goals as goal

pub returns-then-place-len-clause-place : goal.returns-then-place-len-clause-place
returns-then-place-len-clause-place c =
    let there = c.requires.there in
    let place = subst (λ (row : List Queued). BelongsAt row c.place_of-place.result c.args.one) c.deref.ensures.value c.place_of-place.ensures in
    let same = stands_there c.args.row.now.items c.place_of-place.result there.0 c.args.one c.requires.rise place there.1 in
    (c.place_of-place.result, (ap (slice_get c.args.row.now.items) (sym same) ∙ there.1, c.remove.ensures.items))
