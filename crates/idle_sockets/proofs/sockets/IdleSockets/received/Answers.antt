use Rattle.std.proofs.Common.{refl}
use Rattle.idle_sockets.specs.Sockets.{heard_at}
use Rattle.idle_sockets.proofs.Using.{is_last, keeps_rows, may_be_last, none_used}
use Rattle.idle_sockets.proofs.sockets.IdleSockets.received.Goals as goal

pub make_last-requires : goal.make_last-requires
make_last-requires c =
    let i = c.self.inside in
    may_be_last i.rows.items i.rising.items i.order i.keys.items i.owners.items i.since c.self.invariant.0 c.self.invariant.1 c.args.number _ c.as_slice.ensures.value c.in-Some.place c.in-Some.ensures

pub invariant_of-self : goal.invariant_of-self
invariant_of-self c =
    let i = c.self.inside in
    keeps_rows i.rows.items i.rising.items i.order i.keys.items i.owners.items i.since c.self.invariant.0 c.self.invariant.1 c.args.number _ c.as_slice.ensures.value c.in-Some.place c.in-Some.ensures
    (heard_at c.args.now) c.args.now (λ a. refl) (λ a. refl) (λ a is. is) (λ a. refl) c.put.new.rows.items _ c.as_slice-in-Some.ensures.value c.put.ensures c.make_last.new.self c.make_last.ensures
    c.min-self-inside.result c.min-self-inside.ensures

pub returns-in-Some : goal.returns-in-Some
returns-in-Some c =
    let i = c.self.inside in
    is_last i.rows.items i.rising.items i.order i.keys.items i.owners.items i.since c.self.invariant.0 c.self.invariant.1 c.args.number _ c.as_slice.ensures.value c.in-Some.place c.in-Some.ensures
    (heard_at c.args.now) c.args.now (λ a. refl) (λ a. refl) (λ a is. is) (λ a. refl) c.put.new.rows.items _ c.as_slice-in-Some.ensures.value c.put.ensures c.make_last.new.self c.make_last.ensures
    c.args.self.now c.self.view_is

pub returns-in_default : goal.returns-in_default
returns-in_default c =
    let i = c.self.inside in
    none_used i.rows.items i.rising.items i.order i.keys.items i.owners.items i.since c.self.invariant.0 c.self.invariant.1 c.args.number _ c.as_slice.ensures.value
    (heard_at c.args.now) c.args.self.now c.self.view_is c.in_default.ensures
