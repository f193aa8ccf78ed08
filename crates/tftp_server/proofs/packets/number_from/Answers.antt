-- A digit more.
use Rattle.std.proofs.Common.{◌≡◌, ℕ, ◌+◌, ◌-◌, ◌*◌, ◌<◌, min, List, ◌∷◌, length, get_or, drop, sym, ◌∙◌, ap, arith, drop-cons, add-one}
use Rattle.rules_tftp.specs.Packets.{number_from}
use Rattle.tftp_server.proofs.Numbering.{cut_number}
use Rattle.tftp_server.proofs.packets.number_from.Goals as goal

-- a digit is taken in
one_more : (digits : List ℕ) (i n m : ℕ) → i < length digits → m ≡ min (10 * n + (get_or digits i 0 - 48)) 100000 → min 100000 (number_from m (drop (i + 1) digits)) ≡ min 100000
    (number_from n (drop i digits))
one_more digits i n m within is =
    let next : drop i digits ≡ get_or digits i 0 ∷ drop (i + 1) digits = rw add-one (drop-cons digits i 0 within) in
    ap (λ k. min 100000 (number_from k (drop (i + 1) digits))) is
    ∙ cut_number 100000 (10 * n + (get_or digits i 0 - 48)) (drop (i + 1) digits)
    ∙ ap (λ rest. min 100000 (number_from n rest)) (sym next)

pub loop-x-preserved : goal.loop-x-preserved
loop-x-preserved c = (
  omega arith,
  one_more c.args.digits.now c.loop-x.x-index c.loop-x.n c.min-n.result (omega arith)
      (c.min-n.ensures ∙ ap (λ k. min (10 * c.loop-x.n + k) 100000) c.saturating_sub.ensures) ∙ c.loop-x.invariant.1,
)
