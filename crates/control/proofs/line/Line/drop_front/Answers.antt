use Rattle.std.proofs.Common.{◌≡◌, ◌+◌, ◌-◌, ◌≤◌, length, take, drop, sym, ◌∙◌, ap, arith}
use Rattle.std.proofs.lemmas.List.{length-take-le, take-append-le, take-take}
use Rattle.control.proofs.Windows.{length_window}
use Rattle.ordered_rows.proofs.Windows.{front, window}
use Rattle.control.proofs.line.Line.drop_front.Goals as goal

pub returns : goal.returns
returns c =
    let inside = c.self.inside in
    let n = c.args.end + 1 in
    let within : inside.have ≤ length inside.octets.items = omega (arith, c.self.invariant.0, c.self.invariant.1) in
    let all : length c.args.self.now ≡ inside.have = sym (ap length c.self.view_is) ∙ length-take-le inside.have inside.octets.items within in
    let less : n ≤ inside.have = omega (arith, c.requires, all) in
    let size = length_window n inside.have inside.octets.items less within in
    let whole : inside.have - n ≤ length (window n inside.have inside.octets.items) = omega (arith, size) in
    ap (take (inside.have - n)) c.copy_within.ensures.items
    ∙ take-append-le (inside.have - n) (window n inside.have inside.octets.items) _ whole
    ∙ take-take (inside.have - n) (inside.have - n) (drop n inside.octets.items) (omega arith)
    ∙ front n inside.have inside.octets.items less ∙ ap (drop n) c.self.view_is
