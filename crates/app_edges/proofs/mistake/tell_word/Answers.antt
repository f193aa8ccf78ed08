use Rattle.std.proofs.Common.{ℕ, List, [], ◌∷◌, ◌++◌, sym, ◌∙◌, ap, append_assoc, codes, decimal}
use Rattle.std.specs.Result.{is_ok}
use Rattle.world_face.proofs.Putting.{puts_then}
use Rattle.replay.proofs.Putting.{puts_same}
use Rattle.app_edges.proofs.mistake.tell_word.Goals as goal

pub returns : goal.returns
returns g c =
    let front = (codes "slirpd: word " ++ decimal c.args.number) ++ codes ": " in
    let last = puts_then _ _ _ _ _ _ _ _ _ _ c.put.ensures (ap is_ok c.in_ok-put.was) c.put-2.ensures in
    puts_same _ _ _ _ _ _ _ (puts_then _ _ _ _ _ _ _ _ _ _ c.tell_number.ensures (ap is_ok c.in_ok-tell_number.was) last)
    (ap (λ (t : List ℕ). front ++ (t ++ 10 ∷ [])) (c.as_slice.ensures.value ∙ c.shown-shown.ensures) ∙ sym (append_assoc front _ (10 ∷ [])))
