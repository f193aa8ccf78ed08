use Rattle.std.proofs.Common.{◌+◌, ◌++◌, ◌∷◌, [], ℕ, List, drop, get_or, refl, ◌∙◌, ap, append_assoc, arith, rules}
use Rattle.std.proofs.lemmas.Grind.{common_steps}
use Rattle.slirp_core.specs.Pumps.{merged}
use Rattle.port_forward.proofs.Forwarding.{at_ok}
use Rattle.slirp_core.proofs.Merging.{all_came, comes_next}
use Rattle.slirp_core.proofs.wants.merge.Goals as goal

pub loop-number-init : goal.loop-number-init
loop-number-init g c = record { items = refl; room = omega arith }

pub loop-number-preserved : goal.loop-number-preserved
loop-number-preserved g c =
    let some = c.args.some.now in
    let k = c.loop-number.number-index in
    let n = get_or some k 0 in
    let mid = c.put_up_to-left.new.row.items in
    let left = c.put_up_to-left.result.now in
    let rest = merged (drop (k + 1) some) in
    record {
      items =
          ap (λ l. l ++ rest left) c.push.ensures.items
          ∙ append_assoc mid (n ∷ []) (rest left)
          ∙ c.put_up_to-left.ensures.items rest
          ∙ ap (λ (l : List ℕ). c.loop-number.row.items ++ l) (comes_next some c.loop-number.left.now k 0 c.loop-number-test.true)
          ∙ c.loop-number.invariant.items;
      room = grind (arith, common_steps);
    }

pub returns : goal.returns
returns g c = record {
  items =
      at_ok c.try_extend_from_slice.result (c.try_extend_from_slice.ensures.variant.1 (search rules)) c.try_extend_from_slice.ensures.ok
      ∙ ap (λ (l : List ℕ). c.loop-number.row.items ++ l) (all_came c.args.some.now c.loop-number.left.now c.loop-number.number-index c.loop-number-test.false)
      ∙ c.loop-number.invariant.items;
}
