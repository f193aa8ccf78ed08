use Rattle.std.proofs.Common.{◌∙◌, true≢false, sym}
use Rattle.std.specs.Result.{IsOk, OnOk}
use Rattle.std.specs.declared.result.Result.{Result}
use Rattle.std.specs.declared.result.Result.TheVariants.{Ok, Err}
use Rattle.indexmap.proofs.CallerLemmas.{insert_entry-new}
use Rattle.port_forward.specs.Entries.{same_port}
use Rattle.port_forward.proofs.ports.put.Goals as goal

where_ok : {T E P : Type 0} (r : Result T E) → IsOk r → OnOk r P → P
where_ok (Ok x) is p = p
where_ok (Err e) is p = absurd (true≢false (sym is))

pub returns-clause-entries : goal.returns-clause-entries
returns-clause-entries c =
    where_ok c.insert.result (c.insert.ensures.succeeds c.requires.some_room) c.insert.ensures.entries
    ∙ insert_entry-new same_port c.args.ports.now c.args.port c.args.lead c.requires.absent
