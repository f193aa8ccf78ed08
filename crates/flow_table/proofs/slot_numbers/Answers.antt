use Rattle.std.proofs.Common.{◌≡◌, ◌<◌, sym, ◌∙◌, arith, length, zero-add}
use Rattle.std.proofs.lemmas.Grind.{get_or_default_zero}
use Rattle.std.proofs.lemmas.List.{same_lists, take_at}
use Rattle.std.proofs.lemmas.List.FromFn.{length-range_with_len, get_or-range_with_len}
use Rattle.flow_table.proofs.slot_numbers.Goals as goal

pub returns-clause-items : goal.returns-clause-items
returns-clause-items c =
    let numbers = c.loop-k.number-items in
    let n = c.args.slots in
    let ranged = length-range_with_len 0 n in
    let lengths = c.in_ok-numbers.ensures.len in
    let long : length numbers ≡ n = omega arith in
    take_at numbers _ _ (omega arith)
    ∙ same_lists numbers _ (long ∙ sym ranged) (λ k d h.
    let small : k < c.loop-k.k = omega arith in
    get_or_default_zero numbers k d h ∙ c.loop-k.invariant k small ∙ sym (get_or-range_with_len 0 n k d (omega arith) ∙ zero-add k))
