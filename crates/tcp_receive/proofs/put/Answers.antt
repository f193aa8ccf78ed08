use Rattle.std.proofs.Common.{◌≡◌, ℕ, ◌+◌, ◌-◌, ◌++◌, List, drop, length, arith, ap, subst, sym, ◌∙◌}
use Rattle.std.specs.List.{slice_get}
use Rattle.std.proofs.lemmas.Int.{ints, to_z-of_z}
use Rattle.sock_buffers.specs.Kept.{KeepsAt, first_octets}
use Rattle.sock_buffers.specs.Upward.{Upward}
use Rattle.tcp_receive.specs.Received.{placed}
use Rattle.tcp_receive.proofs.Arriving.{CameFrom, Holds_rest, comes_from}
use Rattle.tcp_receive.proofs.put.Goals as goal

pub returns-clause-held : goal.returns-clause-held
returns-clause-held c k x less is =
    let first : c.put_first.new.up ≡ placed c.args.place c.args.taken c.args.octets.now c.args.up.now = grind (arith, ints, to_z-of_z, c.put_first.ensures.up) in
    let rest = subst (λ (u : Upward). Holds_rest c.args.up.now c.args.place c.args.taken c.args.octets.now u c.join.result) (sym first)
    (comes_from c.args.up.now c.args.place c.args.taken c.args.octets.now c.join.result) in
    let held = ap (λ (u : Upward). u.held) c.join.ensures.joined ∙ ap (λ n. c.put_first.new.up.held ++ first_octets c.put_first.new.up.kept n) (sym c.join.ensures.count) in
    let long = c.join.ensures.length in
    rest.0 k x (omega (arith, less, c.held.ensures.held, c.held-before.ensures.held, long)) (ap (λ (l : List ℕ). slice_get l (length c.args.up.now.held + k)) (sym held) ∙ is)

pub returns-clause-kept : goal.returns-clause-kept
returns-clause-kept c k x is =
    let first : c.put_first.new.up ≡ placed c.args.place c.args.taken c.args.octets.now c.args.up.now = grind (arith, ints, to_z-of_z, c.put_first.ensures.up) in
    let rest = subst (λ (u : Upward). Holds_rest c.args.up.now c.args.place c.args.taken c.args.octets.now u c.join.result) (sym first)
    (comes_from c.args.up.now c.args.place c.args.taken c.args.octets.now c.join.result) in
    let kept = ap (λ (u : Upward). u.kept) c.join.ensures.joined ∙ ap (λ n. drop n c.put_first.new.up.kept) (sym c.join.ensures.count) in
    let long = c.join.ensures.length in
    let at : length c.put_first.new.up.held + c.join.result - length c.args.up.now.held + k ≡ c.held.result - c.held-before.result + k =
    omega (arith, c.held.ensures.held, c.held-before.ensures.held, long) in
    subst (λ n. CameFrom c.args.up.now c.args.place c.args.taken c.args.octets.now n x) at
    (rest.1 k x (subst (λ o. KeepsAt o k x) kept is))
