use Rattle.std.proofs.Common.{◌≡◌, None, Some, not, if◌then◌else◌, sym, ◌∙◌, ap, subst}
use Rattle.slirp_settings.specs.Addresses.{Config}
use Rattle.spec_flows.specs.Book.{book}
use Rattle.host_policy.specs.Targets.{is_hidden, shown}
use Rattle.sim_flows.specs.Core.{CoreHolds}
use Rattle.slirp_core.specs.State.{SlirpState}
use Rattle.slirp_core.proofs.Visiting.{refused_by}
use Rattle.slirp_core.proofs.network.Slirp.ends_for.Goals as goal

pub returns-then-is_used-clause-recorded : goal.returns-then-is_used-clause-recorded
returns-then-is_used-clause-recorded c config now aged past holds is =
    ap not (sym (refused_by config c.args.guest c.args.peer c.in_ok-other.other (book config past) c.shown.result c.is_used.result
    (subst (λ (c2 : Config). c.shown.result ≡ (if is_hidden c2 c.args.peer then None else Some (shown c2 c.args.peer))) (ap (λ (s : SlirpState). s.config) c.self.view_is
    ∙ is) c.shown.ensures) c.in_ok-other.was
    (c.is_used.ensures.recorded config now aged None past (subst (λ (s : SlirpState). CoreHolds config now aged None s.flows.flows past) (sym c.self.view_is) holds)) ∙ c.if-is_used.true))

pub returns-clause-recorded : goal.returns-clause-recorded
returns-clause-recorded c config now aged past holds is =
    ap not (sym (refused_by config c.args.guest c.args.peer c.in_ok-other.other (book config past) c.shown.result c.is_used.result
    (subst (λ (c2 : Config). c.shown.result ≡ (if is_hidden c2 c.args.peer then None else Some (shown c2 c.args.peer))) (ap (λ (s : SlirpState). s.config) c.self.view_is
    ∙ is) c.shown.ensures) c.in_ok-other.was
    (c.is_used.ensures.recorded config now aged None past (subst (λ (s : SlirpState). CoreHolds config now aged None s.flows.flows past) (sym c.self.view_is) holds)) ∙ c.if-is_used.false))
