use Rattle.std.proofs.Common.{ℕ, List, ◌∙◌, ap, subst}
use Rattle.std.specs.List.Sorted.{IsPermutation}
use Rattle.rules_dns.specs.Questions.{numbers}
use Rattle.dns_relay.specs.State.{RelayState}
use Rattle.dns_relay.proofs.Keeping.{numbers_are}
use Rattle.dns_relay.proofs.relay.Relay.rising.Goals as goal

pub returns-clause-all : goal.returns-clause-all
returns-clause-all c =
    subst (λ (l : List ℕ). IsPermutation l c.rising.result.now) (numbers_are c.self.inside.list ∙ ap (λ (s : RelayState). numbers s.list) c.self.view_is) c.rising.ensures.all
