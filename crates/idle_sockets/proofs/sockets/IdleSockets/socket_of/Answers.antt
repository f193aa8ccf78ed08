use Rattle.std.proofs.Common.{◌<◌, ℕ, List, Some, length, get_or, sym, ◌∙◌, ap, subst}
use Rattle.idle_sockets.specs.Sockets.{socket_of}
use Rattle.idle_sockets.specs.Numbers.{times}
use Rattle.idle_sockets.specs.Rows.{key}
use Rattle.idle_sockets.proofs.Finding.{socket_found, socket_missing}
use Rattle.idle_sockets.proofs.sockets.IdleSockets.socket_of.Goals as goal

pub returns-in_err-place : goal.returns-in_err-place
returns-in_err-place c =
    let i = c.self.inside in
    let none = ap (times (key c.args.guest c.args.ident)) (sym c.as_slice.ensures.value) ∙ ap (λ k. times k c.as_slice.result.now) (sym c.key.ensures.number) ∙ c.in_err-place.ensures in
    c.from_residual.ensures ∙ sym (socket_missing c.args.guest c.args.ident i.rows.items i.rising.items i.order i.keys.items i.owners.items i.since c.self.invariant.0 c.self.invariant.1 c.key.ensures.port c.key.ensures.ident none)
    ∙ ap (socket_of c.args.guest c.args.ident) c.self.view_is

pub returns : goal.returns
returns c =
    let i = c.self.inside in
    let place = c.in_ok-place.place in
    let few = subst (λ (l : List ℕ). place < length l) c.as_slice.ensures.value c.in_ok-place.ensures.0 in
    let here = sym (ap (λ (l : List ℕ). get_or l place 0) c.as_slice.ensures.value) ∙ c.in_ok-place.ensures.1 ∙ c.key.ensures.number in
    ap (λ (l : List ℕ). Some (get_or l place 0)) c.as_slice-2.ensures.value
    ∙ sym (socket_found c.args.guest c.args.ident i.rows.items i.rising.items i.order i.keys.items i.owners.items i.since c.self.invariant.0 c.self.invariant.1 c.key.ensures.port c.key.ensures.ident place (few, here) 0)
    ∙ ap (socket_of c.args.guest c.args.ident) c.self.view_is
