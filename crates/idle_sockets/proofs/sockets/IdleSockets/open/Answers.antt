use Rattle.std.proofs.Common.{◌<◌, ◌≤◌, ◌++◌, ◌∷◌, [], All, ℕ, List, length, sym, ◌∙◌, ap, subst, arith}
use Rattle.std.specs.List.{insert}
use Rattle.idle_sockets.specs.Sockets.{numbers, socket_of}
use Rattle.idle_sockets.specs.Numbers.{times, IsRoomFor}
use Rattle.idle_sockets.specs.Rows.{key_of}
use Rattle.idle_sockets.specs.declared.IdleSocket.{IdleSocket}
use Rattle.idle_sockets.proofs.Changing.{opened_keeps, opened_last}
use Rattle.idle_sockets.proofs.Keeping.{as_many, length_in_order}
use Rattle.idle_sockets.proofs.Finding.{no_key, as_many_keys}
use Rattle.idle_sockets.proofs.Keeping.{numbers_in_order}
use Rattle.idle_sockets.proofs.sockets.IdleSockets.open.Goals as goal

pub room_for-place-requires-clause-new : goal.room_for-place-requires-clause-new
room_for-place-requires-clause-new c =
    let i = c.self.inside in
    let none = ap (socket_of c.args.socket.guest c.args.socket.ident) c.self.view_is ∙ c.requires.fresh in
    ap (λ k. times k c.as_slice.result.now) c.key-key.ensures.number ∙ ap (times (key_of c.args.socket)) c.as_slice.ensures.value
    ∙ no_key c.args.socket.guest c.args.socket.ident i.rows.items i.rising.items i.order i.keys.items i.owners.items i.since c.self.invariant.0 c.self.invariant.1 c.key-key.ensures.port c.key-key.ensures.ident none

pub insert-requires : goal.insert-requires
insert-requires c =
    let i = c.self.inside in
    let many = as_many_keys i.rows.items i.rising.items i.order i.keys.items i.owners.items i.since c.self.invariant.0 c.self.invariant.1 in
    let long = length_in_order i.rows.items i.order in
    let same = ap length c.self.view_is in
    let fits = subst (λ (l : List ℕ). c.room_for-place.result ≤ length l) c.as_slice.ensures.value c.room_for-place.ensures.fits in
    (omega arith, (fits, omega (arith, many.0, long, same, c.requires.room)))

pub insert-requires-2 : goal.insert-requires-2
insert-requires-2 c =
    let i = c.self.inside in
    let many = as_many_keys i.rows.items i.rising.items i.order i.keys.items i.owners.items i.since c.self.invariant.0 c.self.invariant.1 in
    let long = length_in_order i.rows.items i.order in
    let same = ap length c.self.view_is in
    let fits = subst (λ (l : List ℕ). c.room_for-place.result ≤ length l) c.as_slice.ensures.value c.room_for-place.ensures.fits in
    (omega arith, (omega (arith, fits, many.0, many.1), omega (arith, many.1, long, same, c.requires.room)))

pub push-requires-2 : goal.push-requires-2
push-requires-2 c =
    let i = c.self.inside in
    let many = as_many i.rows.items i.rising.items i.order i.since c.self.invariant.0 in
    let long = length_in_order i.rows.items i.order in
    let same = ap length c.self.view_is in
    (omega arith, omega (arith, many.0, many.1, long, same, c.requires.room))

pub push-requires-3 : goal.push-requires-3
push-requires-3 c =
    let i = c.self.inside in
    let many = as_many i.rows.items i.rising.items i.order i.since c.self.invariant.0 in
    let long = length_in_order i.rows.items i.order in
    let same = ap length c.self.view_is in
    (omega arith, omega (arith, many.0, many.1, long, same, c.requires.room))

pub invariant_of-self : goal.invariant_of-self
invariant_of-self c =
    let i = c.self.inside in
    let a = c.args.socket in
    let above = subst (λ (l : List IdleSocket). All (λ n. n < a.number) (numbers l)) (sym c.self.view_is) c.requires.above in
    let room = subst (λ (l : List ℕ). IsRoomFor (key_of a) l c.room_for-place.result) c.as_slice.ensures.value
    (subst (λ k. IsRoomFor k c.as_slice.result.now c.room_for-place.result) c.key-key.ensures.number c.room_for-place.ensures) in
    opened_keeps i.rows.items i.rising.items i.order i.keys.items i.owners.items i.since c.self.invariant.0 c.self.invariant.1 a above (c.key-key.ensures.port, c.key-key.ensures.ident) c.room_for-place.result room
    c.push-3.new.self.items c.push-2.new.self.items c.push.new.self c.insert.new.self.items c.insert-2.new.self.items c.min-self-inside.result
    c.push-3.ensures.items c.push-2.ensures.items c.push.ensures (c.insert.ensures.items ∙ ap (λ k. insert i.keys.items c.room_for-place.result k) c.key-key.ensures.number)
    c.insert-2.ensures.items c.min-self-inside.ensures

pub returns : goal.returns
returns c =
    let i = c.self.inside in
    let a = c.args.socket in
    let above = subst (λ (l : List IdleSocket). All (λ n. n < a.number) (numbers l)) (sym c.self.view_is) c.requires.above in
    opened_last i.rows.items i.rising.items i.order i.keys.items i.owners.items i.since c.self.invariant.0 c.self.invariant.1 a above (c.key-key.ensures.port, c.key-key.ensures.ident)
    c.push-3.new.self.items c.push.new.self c.push-3.ensures.items c.push.ensures ∙ ap (λ (l : List IdleSocket). l ++ (a ∷ [])) c.self.view_is

pub push-requires-clause-above : goal.push-requires-clause-above
push-requires-clause-above c =
    let i = c.self.inside in
    let a = c.args.socket in
    let above = subst (λ (l : List IdleSocket). All (λ n. n < a.number) (numbers l)) (sym c.self.view_is) c.requires.above in
    subst (λ (l : List ℕ). All (λ n. n < a.number) l) (numbers_in_order i.rows.items i.order) above
