use Rattle.std.proofs.Common.{◌+◌, ◌-◌, ℕ, ◌++◌, ◌∷◌, [], List, get_or, length, drop, refl, ◌∙◌, ap, append_assoc, arith}
use Rattle.std.proofs.lemmas.Grind.{common_steps}
use Rattle.slirp_core.specs.Pumps.{into}
use Rattle.slirp_core.proofs.Merging.{comes_behind, comes_last}
use Rattle.slirp_core.proofs.wants.put_up_to.Goals as goal

pub loop-place-init : goal.loop-place-init
loop-place-init g c = record { items = λ rest. refl; room = omega arith }

pub loop-place-preserved : goal.loop-place-preserved
loop-place-preserved g c =
    let place = c.loop-place.place in
    let row = c.args.others.now in
    let old = c.loop-place.row.items in
    let here = get_or row place 0 in
    record {
      items = λ rest.
          ap (λ l. l ++ into c.args.number rest (drop (place + 1) row)) c.push.ensures.items
          ∙ append_assoc old (here ∷ []) (into c.args.number rest (drop (place + 1) row))
          ∙ ap (λ (l : List ℕ). old ++ l) (comes_behind c.args.number rest row place 0 c.loop-place-test.true c.if-number-others.false)
          ∙ c.loop-place.invariant.items rest;
      room = grind (arith, common_steps);
    }

pub returns-clause-items : goal.returns-clause-items
returns-clause-items g c rest =
    let row = c.args.others.now in
    ap (λ (l : List ℕ). c.loop-place.row.items ++ l) (comes_last c.args.number rest row c.loop-place.place (length row) (length row - length row) c.loop-place-test.false (omega arith))
    ∙ c.loop-place.invariant.items rest
