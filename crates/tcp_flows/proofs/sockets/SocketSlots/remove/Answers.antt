use Rattle.std.proofs.Common.{List, length, ap, sym, subst, ◌∙◌, arith}
use Rattle.tcp_flows.specs.declared.sockets.Numbered.{Numbered}
use Rattle.tcp_flows.specs.SocketPlaces.{HasNumber}
use Rattle.tcp_flows.specs.Sockets.{Listed, Rise, slot_of, without}
use Rattle.tcp_flows.proofs.Finding.{all_kept, removed_slot}
use Rattle.tcp_flows.proofs.Rising.{fewer_without, rise_without}
use Rattle.tcp_flows.proofs.sockets.SocketSlots.remove.Goals as goal

pub invariant_of-self : goal.invariant_of-self
invariant_of-self c =
    let rows = c.self.inside.rows.items in
    let has = subst (λ (l : List Numbered). HasNumber c.args.number l c.in-Some.place) c.deref.ensures.value c.in-Some.ensures.found in
    let left = c.remove.ensures.items ∙ removed_slot c.args.number rows c.in-Some.place c.self.invariant.0 has in
    let fewer = fewer_without c.args.number rows in
    (subst Rise (sym left) (rise_without c.args.number rows c.self.invariant.0), omega (arith, ap length left, fewer, c.self.invariant.1), omega (arith, c.remove.ensures.capacity, c.self.invariant.2))

pub returns-in-Some-clause-rows : goal.returns-in-Some-clause-rows
returns-in-Some-clause-rows c =
    let rows = c.self.inside.rows.items in
    let has = subst (λ (l : List Numbered). HasNumber c.args.number l c.in-Some.place) c.deref.ensures.value c.in-Some.ensures.found in
    c.remove.ensures.items ∙ removed_slot c.args.number rows c.in-Some.place c.self.invariant.0 has ∙ ap (λ (s : Listed). without c.args.number s.rows) c.self.view_is

pub returns-in_default-clause-rows : goal.returns-in_default-clause-rows
returns-in_default-clause-rows c =
    let rows = c.self.inside.rows.items in
    let view = λ (s : Listed). without c.args.number s.rows in
    let none = sym (ap (slot_of c.args.number) c.deref.ensures.value) ∙ c.in_default.ensures.none in
    sym (ap (λ (s : Listed). s.rows) c.self.view_is) ∙ sym (all_kept c.args.number rows none) ∙ ap view c.self.view_is
