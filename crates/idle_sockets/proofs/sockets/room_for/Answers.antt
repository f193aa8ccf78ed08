use Rattle.std.proofs.Common.{Ok, Err, arith}
use Rattle.std.proofs.lemmas.List.Sorted.{searched}
use Rattle.idle_sockets.proofs.Ordering.{placed, rising_to}
use Rattle.idle_sockets.proofs.sockets.room_for.Goals as goal

pub returns-in-Ok : goal.returns-in-Ok
returns-in-Ok c =
    let ns = c.args.rising.now in
    let s = searched ns c.args.number (Ok c.in-Ok.place) c.in-Ok.ensures.position (λ i j up few. rising_to ns i j c.requires.rise up few) in
    let some = placed c.args.number ns c.in-Ok.place s.0 s.1 in
    absurd (omega (arith, some, c.requires.new))

pub returns-in-Err : goal.returns-in-Err
returns-in-Err c =
    let ns = c.args.rising.now in
    let s = searched ns c.args.number (Err c.in-Err.place) c.in-Err.ensures.position (λ i j up few. rising_to ns i j c.requires.rise up few) in
    record { fits = s.0; below = s.1; above = s.2 }
