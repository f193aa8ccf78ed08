use Rattle.std.proofs.Common.{List, sym, subst}
use Rattle.std.specs.List.{remove}
use Rattle.ipv4_reasm.specs.Areas.{Gathered, StandFor}
use Rattle.ipv4_reasm.proofs.Standing.{stand_removed}
use Rattle.ipv4_reasm.proofs.reasm.Reasm.free.Goals as goal

pub returns : goal.returns
returns c = λ sets stand.
    subst (λ (l : List Gathered). StandFor l (remove sets c.args.area)) (sym c.release.ensures) (stand_removed c.args.self.now sets c.args.area stand)
