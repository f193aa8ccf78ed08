use Rattle.std.proofs.Common.{◌≡◌, ◌+◌, List, ℕ, length, ◌++◌, take, arith, ◌∙◌, ap}
use Rattle.std.proofs.lemmas.List.{with_items_is}
use Rattle.host_io.specs.Buffered.{Buffered}
use Rattle.ordered_rows.proofs.Windows.{window, window_on}
use Rattle.host_io.proofs.buffer.Buffer.put.Goals as goal

pub returns-clause-put : goal.returns-clause-put
returns-clause-put c =
    let to = c.self.inside.to in
    let size = length c.args.octets.now in
    let grown : take (to + size) c.write_part.new.into ≡ take to c.self.inside.octets.items ++ c.args.octets.now =
    c.write_part.ensures ∙ ap (λ (l : List ℕ). take to l ++ c.args.octets.now) c.deref_mut.ensures.value in
    ap (window c.self.inside.from (to + size)) (with_items_is c.self.inside.octets c.write_part.new.into (c.write_part.auto.into ∙ c.deref_mut.ensures.len))
    ∙ window_on c.self.inside.from to (to + size) c.self.inside.octets.items c.write_part.new.into c.args.octets.now c.args.self.now.octets
    c.self.invariant.0 (omega arith) c.self.invariant.1 grown (ap (λ (b : Buffered). b.octets) c.self.view_is)
