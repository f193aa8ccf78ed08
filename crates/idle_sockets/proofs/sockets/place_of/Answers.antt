use Rattle.std.proofs.Common.{Err}
use Rattle.std.proofs.lemmas.List.Sorted.{searched}
use Rattle.idle_sockets.proofs.Ordering.{not_found, rising_to}
use Rattle.idle_sockets.proofs.sockets.place_of.Goals as goal

pub returns-in-Err : goal.returns-in-Err
returns-in-Err c =
    let ns = c.args.rising.now in
    let s = searched ns c.args.number (Err c.in-Err.field-0) c.in-Err.ensures.position (λ i j up few. rising_to ns i j c.requires up few) in
    not_found c.args.number ns c.in-Err.field-0 s.1 s.2
