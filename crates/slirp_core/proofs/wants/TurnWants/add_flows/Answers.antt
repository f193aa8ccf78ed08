use Rattle.std.proofs.Common.{◌<◌, ◌^◌, length, take, ◌∙◌, ap, arith, length-append}
use Rattle.std.proofs.lemmas.List.{take-append-le}
use Rattle.slirp_core.proofs.Dividing.{more_in_parts}
use Rattle.slirp_core.proofs.Filling.{are_with}
use Rattle.slirp_core.proofs.wants.TurnWants.add_flows.Goals as goal

pub invariant_of-self : goal.invariant_of-self
invariant_of-self c =
    let i = c.self.inside in
    let items = i.list.items in
    let added = c.put_wants.ensures.wants in
    let range : c.args.below < 2 ^ 64 = omega arith in
    let most = c.self.invariant.2 in
    let whole = ap length added.1 in
    let sum = length-append items added.0 in (
      are_with items added.0 c.put_wants.new.wants.items c.args.flows.now.flows.slots added.1 c.self.invariant.0 added.2
          (λ k p at. let less = c.requires.numbers k p at in omega (arith, less, range)),
      c.self.invariant.1,
      omega (arith, most, whole, sum),
      λ is. ap (take i.before) added.1 ∙ take-append-le i.before items added.0 most ∙ c.self.invariant.3 is,
      more_in_parts i.front i.before items added.0 c.put_wants.new.wants.items c.args.flows.now.flows.slots c.self.invariant.4 added.1 added.2,
    )

pub returns-clause-waited_for : goal.returns-clause-waited_for
returns-clause-waited_for c = c.put_wants.ensures.waited_for

pub returns-clause-wants : goal.returns-clause-wants
returns-clause-wants c =
    let added = c.put_wants.ensures.wants in
    let range : c.args.below < 2 ^ 64 = omega arith in
    are_with c.self.inside.list.items added.0 c.put_wants.new.wants.items c.args.flows.now.flows.slots added.1 c.self.invariant.0 added.2
    (λ k p at. let less = c.requires.numbers k p at in omega (arith, less, range))
