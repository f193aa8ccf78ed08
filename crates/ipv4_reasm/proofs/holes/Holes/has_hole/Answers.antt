use Rattle.std.proofs.Common.{ap, ◌∙◌, Option, ℕ}
use Rattle.std.specs.Prelude.{is_some}
use Rattle.std.specs.List.{position}
use Rattle.ipv4_head.specs.Sets.{part_of}
use Rattle.ipv4_head.specs.Holes.{lies_in}
use Rattle.ipv4_reasm.specs.Holes.{has_hole}
use Rattle.ipv4_reasm.proofs.Holing.{found_is}
use Rattle.ipv4_reasm.proofs.holes.Holes.has_hole.Goals as goal

pub returns : goal.returns
returns c =
    let p = part_of c.args.v.now in
    c.is_some.ensures ∙ ap (λ (o : Option ℕ). is_some o) (c.place_of.ensures ∙ ap (position (lies_in p)) c.deref.ensures.value) ∙ found_is p c.self.inside.row.items ∙ ap (has_hole p) c.self.view_is
