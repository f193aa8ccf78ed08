use Rattle.std.proofs.Common.{sym, ap, ◌∙◌}
use Rattle.std.specs.List.{remove}
use Rattle.ipv4_head.specs.Sets.{Outcome, left_by, sets_after}
use Rattle.ipv4_reasm.proofs.reasm.freed_datagram_leaves.Goals as goal

pub returns : goal.returns
returns c = λ now key p sets area joined at.
    ap (remove (sets_after now key p sets)) (sym at.place) ∙ ap (λ (o : Outcome). left_by o key (sets_after now key p sets)) (sym joined)
