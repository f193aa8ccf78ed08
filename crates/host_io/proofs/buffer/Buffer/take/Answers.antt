use Rattle.std.proofs.Common.{◌≡◌, ◌≤◌, ◌+◌, ◌-◌, ◌++◌, length, length-drop, take, drop, ap, sym, ◌∙◌, arith}
use Rattle.std.proofs.lemmas.List.{take_at, length-take-le}
use Rattle.host_io.specs.Buffered.{Buffered}
use Rattle.host_io.proofs.Windows.{window_from}
use Rattle.ordered_rows.proofs.Windows.{window}
use Rattle.host_io.proofs.buffer.Buffer.take.Goals as goal

pub returns-clause-moved : goal.returns-clause-moved
returns-clause-moved c =
    let from = c.self.inside.from in
    let to = c.self.inside.to in
    let n = c.min-count.result in
    let xs = c.self.inside.octets.items in
    let part = take n (drop from xs) in
    let fits : n ≤ to - from = omega (arith, c.min-count.ensures) in
    let within : n ≤ length (drop from xs) = omega (arith, fits, length-drop from xs, c.self.invariant) in
    let count : (from + n) - from ≡ n = omega arith in
    let copied : c.copy_from_slice.new.self ≡ part =
    c.copy_from_slice.ensures.after ∙ ap (λ k. take k (drop from c.deref.result.now)) count ∙ ap (λ l. take n (drop from l)) c.deref.ensures.value in
    sym (ap (λ (b : Buffered). b.octets) c.self.view_is)
    ∙ window_from from to n xs fits
    ∙ ap (λ l. l ++ window (from + n) to xs) (sym (ap (λ l. take n (l ++ drop n c.args.into.now)) copied ∙ take_at part (drop n c.args.into.now) n (length-take-le n (drop from xs) within)))
