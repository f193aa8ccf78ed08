use Rattle.std.proofs.Common.{◌≡◌, ◌+◌, List, ℕ, ◌++◌, length, take, arith, ◌∙◌, ap}
use Rattle.std.proofs.lemmas.List.{with_items_is}
use Rattle.host_io.specs.Buffered.{Buffered}
use Rattle.host_io.proofs.Windows.{between, between_same}
use Rattle.ordered_rows.proofs.Windows.{window, window_on}
use Rattle.host_io.proofs.buffer.Buffer.fill.Goals as goal

pub returns-in-Ok-clause-came : goal.returns-in-Ok-clause-came
returns-in-Ok-clause-came g c =
    let to = c.self.inside.to in
    let read = c.in-Ok.ensures.came in
    let grown : take (to + c.in-Ok.count) c.read_part.new.into ≡ take to c.self.inside.octets.items ++ read.0 =
    read.2 ∙ ap (λ (l : List ℕ). take to l ++ read.0) c.deref_mut.ensures.value in (
      read.0,
      read.1,
      ap (window c.self.inside.from (to + c.in-Ok.count)) (with_items_is c.self.inside.octets c.read_part.new.into (c.read_part.auto.into ∙ c.deref_mut.ensures.len))
          ∙ window_on c.self.inside.from to (to + c.in-Ok.count) c.self.inside.octets.items c.read_part.new.into read.0 c.args.self.now.octets
          c.self.invariant.0 (omega arith) c.self.invariant.1 grown (ap (λ (b : Buffered). b.octets) c.self.view_is),
      read.3,
    )

pub returns-in-Err-clause-unchanged : goal.returns-in-Err-clause-unchanged
returns-in-Err-clause-unchanged g c =
    let size = c.read_part.auto.into ∙ ap (λ (l : List ℕ). length l) c.deref_mut.ensures.value in
    ap (between c.self.inside.from c.self.inside.to) (with_items_is c.self.inside.octets c.read_part.new.into (c.read_part.auto.into ∙ c.deref_mut.ensures.len))
    ∙ between_same c.self.inside.from c.self.inside.to c.self.inside.octets.items c.read_part.new.into c.args.self.now
    c.self.invariant.0 size (c.in-Err.ensures.same ∙ ap (take c.self.inside.to) c.deref_mut.ensures.value) c.self.view_is
