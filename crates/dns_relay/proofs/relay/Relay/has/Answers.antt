use Rattle.std.proofs.Common.{is_some, ◌∙◌, ap}
use Rattle.rules_dns.specs.Questions.{numbered}
use Rattle.dns_relay.specs.State.{RelayState}
use Rattle.dns_relay.proofs.Keeping.{is_there}
use Rattle.dns_relay.proofs.relay.Relay.has.Goals as goal

pub returns : goal.returns
returns c =
    c.is_some.ensures ∙ ap is_some c.numbered.ensures ∙ is_there c.args.s c.self.inside.list ∙ ap (λ (s : RelayState). is_some (numbered c.args.s s.list)) c.self.view_is
