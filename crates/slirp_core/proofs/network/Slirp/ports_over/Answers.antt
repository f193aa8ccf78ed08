use Rattle.std.proofs.Common.{◌≤◌, length, ◌∙◌, ap, subst}
use Rattle.rules_forward.specs.Opened.{sockets_over}
use Rattle.slirp_core.specs.State.{SlirpState}
use Rattle.slirp_core.proofs.network.Slirp.ports_over.Goals as goal

pub returns-clause-items : goal.returns-clause-items
returns-clause-items c = c.over.ensures.sockets ∙ ap (λ (s : SlirpState). sockets_over c.args.proto s.forwards) c.self.view_is

pub returns-clause-few : goal.returns-clause-few
returns-clause-few c = subst (λ (s : SlirpState). length s.forwards ≤ 32) c.self.view_is c.over.ensures.few
