use Rattle.std.proofs.Common.{drop, sym, ◌∙◌, ap, take, filter, take-append-drop}
use Rattle.poll_list.specs.Listing.{Listing}
use Rattle.slirp_core.specs.Kinds.{is_of_link_or_listener}
use Rattle.slirp_core.proofs.Dividing.{first_is}
use Rattle.slirp_core.proofs.wants.TurnWants.of_listeners.Goals as goal

pub returns-clause-part : goal.returns-clause-part
returns-clause-part c =
    let all = c.items.result.now in
    (drop c.self.inside.front all, sym (ap (λ (l : Listing). l.items) c.self.view_is) ∙ sym c.items.ensures ∙ sym (take-append-drop c.self.inside.front all))

pub returns-clause-all : goal.returns-clause-all
returns-clause-all c =
    let i = c.self.inside in
    ap (take i.front) c.items.ensures ∙ first_is i.front i.before i.list.items c.self.invariant.4 ∙ ap (λ (l : Listing). filter is_of_link_or_listener l.items) c.self.view_is
