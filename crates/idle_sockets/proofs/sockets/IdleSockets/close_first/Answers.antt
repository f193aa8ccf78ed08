use Rattle.std.proofs.Common.{◌≡◌, true, All, List, length, ◌<◌, refl, sym, subst}
use Rattle.world_face.specs.Journal.{Close}
use Rattle.world_face.proofs.Telling.{makes_none, makes_one}
use Rattle.idle_sockets.specs.Sockets.{number_of}
use Rattle.idle_sockets.specs.declared.IdleSocket.{IdleSocket}
use Rattle.idle_sockets.proofs.Yielding.{all_without, fewer}
use Rattle.idle_sockets.proofs.sockets.IdleSockets.close_first.Goals as goal

pub returns-in_default-clause-closes : goal.returns-in_default-clause-closes
returns-in_default-clause-closes g c = makes_none _ _ (refl, c.in_default.ensures, refl)

pub returns-clause-closes : goal.returns-clause-closes
returns-clause-closes g c = makes_one _ _ (Close c.in-Some.number) _ c.close.ensures (λ allowed. (c.in-Some.number, refl, c.in-Some.ensures, c.close-2.ensures))

pub returns-clause-fewer : goal.returns-clause-fewer
returns-clause-fewer g c is =
    let list = c.args.self.now in
    subst (λ (l : List IdleSocket). length l < length list) (sym c.close-2.ensures) (fewer number_of c.in-Some.number (λ (s : IdleSocket). true) list c.in-Some.ensures.0)

pub returns-clause-among : goal.returns-clause-among
returns-clause-among g c test all =
    subst (All (λ (s : IdleSocket). test s ≡ true)) (sym c.close-2.ensures) (all_without number_of (λ (s : IdleSocket). test s ≡ true) c.in-Some.number c.args.self.now all)
