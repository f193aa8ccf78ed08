use Rattle.std.proofs.Common.{◌≡◌, ℕ, List, [], ◌∷◌, ◌++◌, ap, append_assoc, codes, decimal}
use Rattle.std.specs.Result.{is_ok}
use Rattle.replay.specs.Names.{name_text}
use Rattle.world_face.proofs.Putting.{puts_then}
use Rattle.replay.proofs.Putting.{puts_same}
use Rattle.app_edges.specs.Texts.{wanted_text}
use Rattle.app_edges.proofs.status.tell_divergence.Goals as goal

regroup : (front number between name wanted end : List ℕ) → ((front ++ number) ++ between) ++ (name ++ (wanted ++ end)) ≡ ((((front ++ number) ++ between) ++ name) ++ wanted) ++ end
regroup front number between name wanted end = simp append_assoc

pub returns : goal.returns
returns g c =
    let named = puts_then _ _ _ _ _ _ _ _ _ _ c.tell_wanted.ensures (ap is_ok c.in_ok-tell_wanted.was) c.put.ensures in
    let made = puts_then _ _ _ _ _ _ _ _ _ _ c.put_name.ensures (ap is_ok c.in_ok-put_name.was) named in
    let d = c.args.divergence in
    puts_same _ _ _ _ _ _ _ (puts_then _ _ _ _ _ _ _ _ _ _ c.tell_number.ensures (ap is_ok c.in_ok-tell_number.was) made)
    (regroup (codes "slirpd: diverged at line ") (decimal d.line) (codes ": made ") (name_text d.made) (wanted_text d.wanted) (10 ∷ []))
