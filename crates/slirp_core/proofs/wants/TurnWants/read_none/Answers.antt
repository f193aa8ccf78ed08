use Rattle.std.proofs.Common.{◌++◌, false, [], refl, arith, sym, ◌∙◌}
use Rattle.std.proofs.lemmas.List.{append-nil}
use Rattle.slirp_core.proofs.Dividing.{begun_in_parts}
use Rattle.slirp_core.proofs.wants.TurnWants.read_none.Goals as goal

pub invariant_of-self : goal.invariant_of-self
invariant_of-self c =
    let begun = c.begin-self-inside.new.wants.items in
    let count = c.begin-self-inside.ensures.count in (
      c.begin-self-inside.ensures.wants,
      omega arith,
      omega (arith, count),
      λ is. cc,
      begun_in_parts false c.args.write c.args.listeners.now [] c.begin-self-inside.result c.begin-self-inside.result begun begun c.begin-self-inside.ensures.items
          (sym (append-nil begun)) count count,
    )
