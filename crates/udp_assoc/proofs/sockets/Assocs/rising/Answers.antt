use Rattle.std.proofs.Common.{ℕ, List, ◌∙◌, ap, subst}
use Rattle.std.specs.List.Sorted.{IsPermutation}
use Rattle.rules_udp.specs.Associations.{numbers}
use Rattle.udp_assoc.specs.State.{AssocsState}
use Rattle.udp_assoc.proofs.Keeping.{numbers_are}
use Rattle.udp_assoc.proofs.sockets.Assocs.rising.Goals as goal

pub returns-clause-all : goal.returns-clause-all
returns-clause-all c =
    subst (λ (l : List ℕ). IsPermutation l c.rising.result.now) (numbers_are c.self.inside.list ∙ ap (λ (s : AssocsState). numbers s.list) c.self.view_is) c.rising.ensures.all
