use Rattle.std.proofs.Common.{◌≡◌, ◌++◌, ◌∷◌, [], ◌<◌, length, sym, subst, arith}
use Rattle.std.proofs.lemmas.Grind.{common_steps}
use Rattle.tcp_flows.specs.declared.sockets.Numbered.{Numbered}
use Rattle.tcp_flows.specs.Sockets.{AreBelow, Rise, Listed}
use Rattle.tcp_flows.proofs.Rising.{rise_last}
use Rattle.tcp_flows.proofs.sockets.SocketSlots.push.Goals as goal

pub invariant_of-self : goal.invariant_of-self
invariant_of-self c =
    let inside = c.self.inside in
    let last : Numbered = record { number = c.args.number; slot = c.args.slot } in
    let room = subst (λ (s : Listed). length s.rows < s.room) (sym c.self.view_is) c.requires.room in
    let above = subst (λ (s : Listed). AreBelow c.args.number s.rows) (sym c.self.view_is) c.requires.above in
    let items : c.push.new.self.items ≡ inside.rows.items ++ last ∷ [] = grind (arith, common_steps) in
    (subst Rise (sym items) (rise_last inside.rows.items last c.self.invariant.0 above), grind (arith, common_steps, items, room), grind (arith, common_steps))
