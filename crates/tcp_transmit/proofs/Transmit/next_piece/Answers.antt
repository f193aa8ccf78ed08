use Rattle.std.proofs.Common.{arith, ap, subst, sym}
use Rattle.tcp_transmit.specs.Pieces.{GoesAgain, IsOfStream, IsWithin, Probes, end_of, numbers}
use Rattle.tcp_transmit.specs.declared.Piece.{Piece}
use Rattle.tcp_transmit.proofs.Owed.{next_again, next_none, next_of_stream, next_probes, next_window, next_within}
use Rattle.tcp_transmit.proofs.Transmit.next_piece.Goals as goal

pub returns-then-numbers-gt0-clause-stream : goal.returns-then-numbers-gt0-clause-stream
returns-then-numbers-gt0-clause-stream c =
    let is = ap (λ (p : Piece). numbers p) c.next-piece.ensures in
    subst (λ p. IsOfStream c.args.self.now c.args.down.now p) (sym c.next-piece.ensures)
    (next_of_stream c.args.self.now c.args.down.now c.requires (omega (arith, is)))

pub returns-then-numbers-gt0-clause-window : goal.returns-then-numbers-gt0-clause-window
returns-then-numbers-gt0-clause-window c none =
    let is = ap (λ (p : Piece). numbers p) c.next-piece.ensures in
    let within = next_window c.args.self.now c.args.down.now none (omega (arith, is)) in
    omega (arith, ap end_of c.next-piece.ensures, within)

pub returns-then-numbers-gt0-clause-congestion : goal.returns-then-numbers-gt0-clause-congestion
returns-then-numbers-gt0-clause-congestion c beyond =
    let is = ap (λ (p : Piece). numbers p) c.next-piece.ensures in
    let ends = ap end_of c.next-piece.ensures in
    subst (λ n. IsWithin c.args.self.now.cwnd c.args.self.now.acked n) (sym ends)
    (next_within c.args.self.now c.args.down.now c.requires (omega (arith, is)) (omega (arith, ends, beyond)))

pub returns-then-numbers-gt0-clause-again : goal.returns-then-numbers-gt0-clause-again
returns-then-numbers-gt0-clause-again c owed under =
    let is = ap (λ (p : Piece). numbers p) c.next-piece.ensures in
    subst (λ p. GoesAgain c.args.self.now p) (sym c.next-piece.ensures)
    (next_again c.args.self.now c.args.down.now c.requires owed under (omega (arith, is)))

pub returns-then-numbers-gt0-clause-probes : goal.returns-then-numbers-gt0-clause-probes
returns-then-numbers-gt0-clause-probes c owed at =
    let is = ap (λ (p : Piece). numbers p) c.next-piece.ensures in
    subst (λ p. Probes c.args.self.now p) (sym c.next-piece.ensures)
    (next_probes c.args.self.now c.args.down.now owed at (omega (arith, is)))

pub returns-else-numbers-gt0-clause-none : goal.returns-else-numbers-gt0-clause-none
returns-else-numbers-gt0-clause-none c =
    let is = ap (λ (p : Piece). numbers p) c.next-piece.ensures in
    next_none c.args.self.now c.args.down.now c.requires (omega (arith, is))
