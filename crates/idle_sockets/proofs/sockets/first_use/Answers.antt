use Rattle.std.proofs.Common.{◌≡◌, ◌+◌, take, get_or, min, List, suc, sym, subst, arith}
use Rattle.std.proofs.Math.Seq.{take-suc}
use Rattle.idle_sockets.specs.Rows.{AreSince}
use Rattle.idle_sockets.specs.declared.IdleSocket.{IdleSocket}
use Rattle.idle_sockets.proofs.Keeping.{since_more}
use Rattle.idle_sockets.proofs.sockets.first_use.Goals as goal

pub loop-place-preserved : goal.loop-place-preserved
loop-place-preserved c =
    let rows = c.args.rows.now in
    let place = c.loop-place.place in
    let next : suc place ≡ place + 1 = omega arith in
    let a = get_or rows place _ in
    subst (λ s. AreSince s (take (place + 1) rows)) (sym c.min-first.ensures)
    (subst (λ k. AreSince (min c.loop-place.first a.used) (take k rows)) next
    (subst (λ (l : List IdleSocket). AreSince (min c.loop-place.first a.used) l) (sym (take-suc rows place _ c.loop-place-test.true))
    (since_more c.loop-place.first (take place rows) a c.loop-place.invariant)))
