use Rattle.std.proofs.Common.{[], ◌∷◌, ◌++◌, sym, ◌∙◌, ap, append_assoc, codes, decimal}
use Rattle.std.specs.Result.{is_ok}
use Rattle.world_face.proofs.Putting.{puts_then}
use Rattle.replay.proofs.Putting.{puts_same}
use Rattle.app_edges.specs.Texts.{port_text}
use Rattle.app_edges.proofs.Told.{forward_at}
use Rattle.app_edges.proofs.status.tell_refused.Goals as goal

pub returns : goal.returns
returns g c =
    let front = (codes "slirpd: forward " ++ decimal c.args.number) ++ codes " refused" in
    let last = puts_then _ _ _ _ _ _ _ _ _ _ c.tell_port.ensures (ap is_ok c.in_ok-tell_port.was) c.put.ensures in
    puts_same _ _ _ _ _ _ _ (puts_then _ _ _ _ _ _ _ _ _ _ c.tell_number.ensures (ap is_ok c.in_ok-tell_number.was) last)
    (ap (λ t. front ++ (port_text t ++ 10 ∷ [])) (forward_at c.args.forwards.now c.args.number c.get.result c.get.ensures.lookup.0 c.get.ensures.lookup.1) ∙ sym (append_assoc front _ (10 ∷ [])))
