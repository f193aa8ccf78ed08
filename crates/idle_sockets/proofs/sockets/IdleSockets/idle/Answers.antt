use Rattle.std.proofs.Common.{List, ℕ, ◌≡◌, ◌<◌, ◌+◌, false, None, Some, find, option_map, ap, sym, ◌∙◌, subst}
use Rattle.std.proofs.lemmas.Bool.{leb-false}
use Rattle.rules_udp.specs.Lives.{is_life_over}
use Rattle.idle_sockets.specs.Sockets.{is_over, number_of}
use Rattle.idle_sockets.specs.Closing.{IsLeast}
use Rattle.idle_sockets.specs.Numbers.{Rise, times}
use Rattle.idle_sockets.specs.declared.IdleSocket.{IdleSocket}
use Rattle.idle_sockets.proofs.Keeping.{first_is_least, least_in_order, none_over}
use Rattle.idle_sockets.proofs.sockets.IdleSockets.idle.Goals as goal

early : (life now since : ℕ) → is_life_over life since now ≡ false → now < since + life
early life now since is = leb-false (since + life) now is

pub returns-then-not-is_life_over-clause-least : goal.returns-then-not-is_life_over-clause-least
returns-then-not-is_life_over-clause-least c =
    let i = c.self.inside in
    let are = c.self.invariant.0 in
    let now = c.args.now in
    subst (λ (list : List IdleSocket). IsLeast number_of (is_over c.args.life now) list None) c.self.view_is
    (least_in_order (is_over c.args.life now) i.rows.items i.order None (λ n. are.same n ∙ ap (times n) are.numbers_are) (subst Rise are.numbers_are are.rise)
    (none_over c.args.life i.since now i.rows.items are.since_then (early c.args.life now i.since (sym c.is_life_over.ensures ∙ c.if-not-is_life_over.true))))

pub returns-in_err-socket-clause-least : goal.returns-in_err-socket-clause-least
returns-in_err-socket-clause-least c =
    let i = c.self.inside in
    let are = c.self.invariant.0 in
    let over = is_over c.args.life c.args.now in
    let rise = subst Rise are.numbers_are are.rise in
    let is = c.from_residual.ensures ∙ ap (option_map number_of) (c.in_err-socket.ensures ∙ ap (find over) c.as_slice-2.ensures.value) in
    subst (λ (list : List IdleSocket). IsLeast number_of over list c.from_residual.result) c.self.view_is
    (least_in_order over i.rows.items i.order c.from_residual.result (λ n. are.same n ∙ ap (times n) are.numbers_are) rise
    (subst (IsLeast number_of over i.rows.items) (sym is) (first_is_least over i.rows.items rise)))

pub returns-clause-least : goal.returns-clause-least
returns-clause-least c =
    let i = c.self.inside in
    let are = c.self.invariant.0 in
    let over = is_over c.args.life c.args.now in
    let rise = subst Rise are.numbers_are are.rise in
    let found = Some c.in_ok-socket.socket.number in
    let is = ap (option_map number_of) (c.in_ok-socket.ensures ∙ ap (find over) c.as_slice-2.ensures.value) in
    subst (λ (list : List IdleSocket). IsLeast number_of over list found) c.self.view_is
    (least_in_order over i.rows.items i.order found (λ n. are.same n ∙ ap (times n) are.numbers_are) rise
    (subst (IsLeast number_of over i.rows.items) (sym is) (first_is_least over i.rows.items rise)))
