use Rattle.std.proofs.Common.{◌-◌, drop, length-take, ap, ◌∙◌, arith}
use Rattle.host_io.specs.Buffered.{Buffered}
use Rattle.ordered_rows.proofs.Windows.{window_past}
use Rattle.host_io.proofs.buffer.Buffer.drain.Goals as goal

pub returns-clause-left : goal.returns-clause-left
returns-clause-left g c =
    let size = length-take (c.self.inside.to - c.self.inside.from) (drop c.self.inside.from c.deref.result.now) in
    window_past c.self.inside.from c.self.inside.to c.in_ok-count.count c.self.inside.octets.items (omega (arith, c.in_ok-count.ensures, size))
    ∙ ap (λ (b : Buffered). drop c.in_ok-count.count b.octets) c.self.view_is
