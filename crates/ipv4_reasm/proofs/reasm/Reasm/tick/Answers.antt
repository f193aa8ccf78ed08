use Rattle.std.proofs.Common.{List, sym, subst}
use Rattle.ipv4_head.specs.Sets.{young}
use Rattle.ipv4_reasm.specs.Areas.{Gathered, StandFor}
use Rattle.ipv4_reasm.proofs.Standing.{stand_fresh, stand_young}
use Rattle.ipv4_reasm.proofs.reasm.Reasm.tick.Goals as goal

pub returns-clause-sets : goal.returns-clause-sets
returns-clause-sets c = λ sets stand.
    subst (λ (l : List Gathered). StandFor l (young c.args.now sets)) (sym c.drop_old.ensures) (stand_young c.args.now c.args.self.now sets stand)

pub returns-clause-fresh : goal.returns-clause-fresh
returns-clause-fresh c = λ sets stand. stand_fresh c.args.now c.args.self.now sets (subst (λ (l : List Gathered). StandFor l sets) c.drop_old.ensures stand)
