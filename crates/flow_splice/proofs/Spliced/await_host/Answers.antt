use Rattle.std.proofs.Common.{◌∷◌, [], ℕ, refl, arith, subst, sym}
use Rattle.world_face.specs.Journal.{Close}
use Rattle.world_face.proofs.Telling.{makes_none, makes_one}
use Rattle.flow_splice.specs.Serves.{GoesOnYet}
use Rattle.flow_splice.specs.Splice.{Splice}
use Rattle.flow_splice.proofs.Events.{none_yet}
use Rattle.flow_splice.proofs.Timing.{host_late}
use Rattle.flow_splice.proofs.Spliced.await_host.Goals as goal

pub returns-then-connect_end-now-clause-makes : goal.returns-then-connect_end-now-clause-makes
returns-then-connect_end-now-clause-makes g c =
    let f : Splice = c.args.self.now in
    let now : ℕ = c.args.now in
    makes_one _ _ (Close f.face.number) _ c.fail.ensures.closes
    (λ allowed. (
      subst (λ (x : Splice). GoesOnYet f x now (Close f.face.number ∷ [])) (sym c.fail.ensures.change) (host_late f now c.requires.open_yet c.requires.connects
          (let late = c.if-connect_end-now.true in let is = c.connect_end.ensures in omega (arith, late, is))),
      refl,
    ))

pub returns-else-connect_end-now-clause-makes : goal.returns-else-connect_end-now-clause-makes
returns-else-connect_end-now-clause-makes g c = makes_none _ _ (none_yet c.args.self.now c.args.now, refl)
