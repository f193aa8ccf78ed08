use Rattle.std.proofs.Common.{◌++◌, length, take, drop, min, ap, ◌∙◌}
use Rattle.flow_splice.specs.Splice.{Splice}
use Rattle.flow_splice.proofs.Held.{front_held}
use Rattle.flow_splice.proofs.Spliced.held.Goals as goal

pub returns-clause-front : goal.returns-clause-front
returns-clause-front c s past now h open_yet conforming =
    let count = c.front_piece.result in
    front_held s c.args.self.now past now h open_yet conforming c.args.into.now c.front_piece.new.into count
    (c.front_piece.ensures.count ∙ ap (λ (f : Splice). min (length c.args.into.now) (length f.up.held)) c.self.view_is)
    (c.front_piece.ensures.copied ∙ ap (λ (f : Splice). take count f.up.held ++ drop count c.args.into.now) c.self.view_is)
