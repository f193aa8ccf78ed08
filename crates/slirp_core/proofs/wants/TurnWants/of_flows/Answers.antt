use Rattle.std.proofs.Common.{◌≡◌, ◌-◌, ◌++◌, length, take, drop, filter, sym, ◌∙◌, ap, arith, take-append-drop, length-drop}
use Rattle.std.proofs.lemmas.List.{take_all}
use Rattle.poll_list.specs.Listing.{Listing}
use Rattle.slirp_core.specs.Kinds.{is_of_flow}
use Rattle.slirp_core.proofs.Dividing.{last_is}
use Rattle.slirp_core.proofs.wants.TurnWants.of_flows.Goals as goal

pub returns-clause-part : goal.returns-clause-part
returns-clause-part c =
    let all = c.items.result.now in
    let before = c.self.inside.before in
    let rest : take (length all - before) (drop before all) ≡ drop before all = take_all (length all - before) (drop before all) (omega (arith, length-drop before all)) in
    (take before all, sym (ap (λ (l : Listing). l.items) c.self.view_is) ∙ sym c.items.ensures ∙ sym (take-append-drop before all) ∙ sym (ap (λ l. take before all ++ l) rest))

pub returns-clause-all : goal.returns-clause-all
returns-clause-all c =
    let i = c.self.inside in
    let all = c.items.result.now in
    let rest : take (length all - i.before) (drop i.before all) ≡ drop i.before all = take_all (length all - i.before) (drop i.before all) (omega (arith, length-drop i.before all)) in
    rest ∙ ap (drop i.before) c.items.ensures ∙ last_is i.front i.before i.list.items c.self.invariant.4 ∙ ap (λ (l : Listing). filter is_of_flow l.items) c.self.view_is
