use Rattle.std.proofs.Common.{List, slice_get, sym, ◌∙◌, ap}
use Rattle.idle_sockets.specs.Sockets.{numbered}
use Rattle.idle_sockets.specs.declared.IdleSocket.{IdleSocket}
use Rattle.idle_sockets.proofs.Keeping.{first_numbered}
use Rattle.idle_sockets.proofs.sockets.IdleSockets.oldest.Goals as goal

pub returns : goal.returns
returns c =
    let i = c.self.inside in
    let n = c.in_ok-number.number in
    c.numbered.ensures ∙ ap (numbered n) (sym c.self.view_is) ∙ first_numbered n i.rows.items i.order (sym c.in_ok-number.ensures) ∙ ap (λ (l : List IdleSocket). slice_get l 0) c.self.view_is
