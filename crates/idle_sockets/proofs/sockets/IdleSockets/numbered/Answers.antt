use Rattle.std.proofs.Common.{◌<◌, ℕ, List, Some, length, get_or, sym, ◌∙◌, ap, subst, arith}
use Rattle.idle_sockets.specs.Sockets.{numbered}
use Rattle.idle_sockets.specs.Numbers.{times}
use Rattle.idle_sockets.specs.declared.IdleSocket.{IdleSocket}
use Rattle.idle_sockets.proofs.Changing.{its_row, ordered_once}
use Rattle.idle_sockets.proofs.Keeping.{nobody, none_numbered, one_numbered}
use Rattle.idle_sockets.proofs.sockets.IdleSockets.numbered.Goals as goal

pub returns-in_err-place : goal.returns-in_err-place
returns-in_err-place c =
    let i = c.self.inside in
    let none = c.self.invariant.0.same c.args.number ∙ ap (times c.args.number) (sym c.as_slice.ensures.value) ∙ c.in_err-place.ensures in
    c.from_residual.ensures ∙ sym (none_numbered c.args.number i.rows.items i.order none) ∙ ap (numbered c.args.number) c.self.view_is

pub returns : goal.returns
returns c =
    let i = c.self.inside in
    let place = c.in_ok-place.place in
    let few = subst (λ (l : List ℕ). place < length l) c.as_slice.ensures.value c.in_ok-place.ensures.0 in
    let here = sym (ap (λ (l : List ℕ). get_or l place 0) c.as_slice.ensures.value) ∙ c.in_ok-place.ensures.1 in
    let once = ordered_once i.rows.items i.rising.items i.order i.keys.items i.owners.items i.since c.self.invariant.0 c.self.invariant.1 c.args.number place nobody few here in
    ap Some (ap (λ (l : List IdleSocket). get_or l place nobody) c.as_slice-2.ensures.value
    ∙ its_row i.rows.items i.rising.items i.order i.keys.items i.owners.items i.since c.self.invariant.0 c.self.invariant.1 c.args.number place nobody few here)
    ∙ sym (one_numbered c.args.number i.rows.items i.order (omega (arith, once))) ∙ ap (numbered c.args.number) c.self.view_is
