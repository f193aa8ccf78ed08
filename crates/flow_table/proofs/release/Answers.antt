use Rattle.std.proofs.Common.{sym, ◌∙◌, subst, ap, Some}
use Rattle.std.proofs.lemmas.Option.{same_Some}
use Rattle.spec_flows.specs.declared.Tuple.{Tuple}
use Rattle.flow_table.specs.Slots.{HasTuple}
use Rattle.flow_table.specs.Rows.{entry_of}
use Rattle.flow_table.proofs.Tuples.{entry_left, one_fewer, read_has}
use Rattle.flow_table.proofs.release.Goals as goal

pub remove_entry-requires-clause-there : goal.remove_entry-requires-clause-there
remove_entry-requires-clause-there c =
    let some = c.requires.some in
    let same = same_Some some.0 c.in-Some.tuple (sym (read_has c.args.slots.now _ c.args.slot some.0 c.tuple.result some.1 c.tuple.ensures) ∙ c.in-Some.is) in
    let w = c.requires.entries.all c.args.slot some.0 some.1 in
    (w.0, (c.args.slot, w.1 ∙ ap (λ (t : Tuple). Some (entry_of t c.args.slot)) same))

pub returns-in-Some-clause-entries : goal.returns-in-Some-clause-entries
returns-in-Some-clause-entries c =
    let some = c.requires.some in
    let same = same_Some some.0 c.in-Some.tuple (sym (read_has c.args.slots.now _ c.args.slot some.0 c.tuple.result some.1 c.tuple.ensures) ∙ c.in-Some.is) in
    let p = c.remove_entry.ensures.place in
    entry_left c.args.slots.now c.args.entries.now.items c.remove_entry.new.entries.items c.args.slot p.0 c.in-Some.tuple
    (subst (HasTuple c.args.slots.now c.args.slot) same some.1) p.1.0 p.1.1 c.requires.entries

pub returns-in-Some-clause-one : goal.returns-in-Some-clause-one
returns-in-Some-clause-one c = let p = c.remove_entry.ensures.place in one_fewer c.args.entries.now.items c.remove_entry.new.entries.items p.0 (entry_of c.in-Some.tuple p.1.0.0) p.1.0.1 p.1.1

pub returns-in_default-clause-one : goal.returns-in_default-clause-one
returns-in_default-clause-one c =
    let some = c.requires.some in
    absurd (c.in_default.not-Some some.0 (read_has c.args.slots.now _ c.args.slot some.0 c.tuple.result some.1 c.tuple.ensures))

pub returns-in_default-clause-entries : goal.returns-in_default-clause-entries
returns-in_default-clause-entries c =
    let some = c.requires.some in
    absurd (c.in_default.not-Some some.0 (read_has c.args.slots.now _ c.args.slot some.0 c.tuple.result some.1 c.tuple.ensures))
