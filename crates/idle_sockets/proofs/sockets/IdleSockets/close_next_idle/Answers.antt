use Rattle.std.proofs.Common.{◌≡◌, true, All, List, length, ◌<◌, refl, sym, ◌∙◌, ap, subst}
use Rattle.world_face.specs.Journal.{Close}
use Rattle.world_face.proofs.Telling.{makes_one}
use Rattle.idle_sockets.specs.Sockets.{is_over, number_of}
use Rattle.idle_sockets.specs.Closing.{without}
use Rattle.idle_sockets.specs.declared.IdleSocket.{IdleSocket}
use Rattle.idle_sockets.proofs.Yielding.{all_without, fewer}
use Rattle.idle_sockets.proofs.sockets.IdleSockets.close_next_idle.Goals as goal

pub returns-clause-closes : goal.returns-clause-closes
returns-clause-closes g c =
    let number = c.in-Some.number in
    makes_one _ _ (Close number) _ c.close.ensures (λ allowed. (number, refl, c.in-Some.ensures.least, c.close-2.ensures ∙ ap (without number_of number) c.in-Some.ensures.same))

pub returns-clause-fewer : goal.returns-clause-fewer
returns-clause-fewer g c is =
    let list = c.args.self.now in
    let closed = c.close-2.ensures ∙ ap (without number_of c.in-Some.number) c.in-Some.ensures.same in
    subst (λ (l : List IdleSocket). length l < length list) (sym closed) (fewer number_of c.in-Some.number (is_over c.args.life c.args.now) list c.in-Some.ensures.least.0)

pub returns-clause-among : goal.returns-clause-among
returns-clause-among g c test all =
    let closed = c.close-2.ensures ∙ ap (without number_of c.in-Some.number) c.in-Some.ensures.same in
    subst (All (λ (s : IdleSocket). test s ≡ true)) (sym closed) (all_without number_of (λ (s : IdleSocket). test s ≡ true) c.in-Some.number c.args.self.now all)
