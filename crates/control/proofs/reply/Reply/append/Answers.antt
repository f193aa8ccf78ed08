use Rattle.std.proofs.Common.{◌≡◌, ◌+◌, ◌≤◌, List, ℕ, length, ◌++◌, take, arith, ◌∙◌, ap}
use Rattle.std.proofs.lemmas.List.{with_items_is}
use Rattle.rules_control.specs.Talk.{Pending}
use Rattle.ordered_rows.proofs.Windows.{window, window_on}
use Rattle.control.proofs.reply.Reply.append.Goals as goal

pub returns : goal.returns
returns c =
    let to = c.self.inside.to in
    let size = length c.args.octets.now in
    let within : to ≤ length c.self.inside.octets.items = omega (arith, c.self.invariant.1, c.self.invariant.2) in
    let grown : take (to + size) c.write_part.new.into ≡ take to c.self.inside.octets.items ++ c.args.octets.now =
    c.write_part.ensures.before ∙ ap (λ (l : List ℕ). take to l ++ c.args.octets.now) c.deref_mut.ensures.value in
    ap (window c.self.inside.from (to + size)) (with_items_is c.self.inside.octets c.write_part.new.into (c.write_part.auto.into ∙ c.deref_mut.ensures.len))
    ∙ window_on c.self.inside.from to (to + size) c.self.inside.octets.items c.write_part.new.into c.args.octets.now c.args.self.now.left
    c.self.invariant.0 (omega arith) within grown (ap (λ (p : Pending). p.left) c.self.view_is)
