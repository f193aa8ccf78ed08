use Rattle.std.proofs.Common.{◌-◌, take, drop, filter, sym, ◌∙◌, ap}
use Rattle.poll_list.specs.Listing.{Listing}
use Rattle.slirp_core.specs.Kinds.{is_of_datagrams}
use Rattle.slirp_core.proofs.Dividing.{middle_is}
use Rattle.slirp_core.proofs.Filling.{three_parts}
use Rattle.slirp_core.proofs.wants.TurnWants.of_datagrams.Goals as goal

pub returns-clause-part : goal.returns-clause-part
returns-clause-part c =
    let all = c.items.result.now in (
      take c.self.inside.front all,
      drop c.self.inside.before all,
      sym (ap (λ (l : Listing). l.items) c.self.view_is) ∙ sym c.items.ensures ∙ three_parts all c.self.inside.front c.self.inside.before c.self.invariant.1,
    )

pub returns-clause-all : goal.returns-clause-all
returns-clause-all c =
    let i = c.self.inside in
    ap (λ l. take (i.before - i.front) (drop i.front l)) c.items.ensures ∙ middle_is i.front i.before i.list.items c.self.invariant.4 ∙ ap
    (λ (l : Listing). filter is_of_datagrams l.items) c.self.view_is
