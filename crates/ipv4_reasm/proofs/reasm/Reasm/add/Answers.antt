use Rattle.std.proofs.Common.{List, sym, subst}
use Rattle.ipv4_head.specs.Sets.{young}
use Rattle.ipv4_reasm.specs.Areas.{Gathered, StandFor}
use Rattle.ipv4_reasm.proofs.Standing.{stand_young}
use Rattle.ipv4_reasm.proofs.reasm.Reasm.add.Goals as goal

pub returns-clause-sets : goal.returns-clause-sets
returns-clause-sets c = λ sets stand.
    (c.place.ensures.answered (young c.args.now sets) (subst (λ (l : List Gathered). StandFor l (young c.args.now sets)) (sym c.drop_old.ensures)
    (stand_young c.args.now c.args.self.now sets stand))).stand

pub returns-clause-answer : goal.returns-clause-answer
returns-clause-answer c = λ sets stand.
    (c.place.ensures.answered (young c.args.now sets) (subst (λ (l : List Gathered). StandFor l (young c.args.now sets)) (sym c.drop_old.ensures)
    (stand_young c.args.now c.args.self.now sets stand))).says

pub returns-clause-area : goal.returns-clause-area
returns-clause-area c = λ sets area stand is.
    (c.place.ensures.answered (young c.args.now sets) (subst (λ (l : List Gathered). StandFor l (young c.args.now sets)) (sym c.drop_old.ensures)
    (stand_young c.args.now c.args.self.now sets stand))).area area is
