use Rattle.std.proofs.Common.{List, Some, ap, sym, subst, ◌∙◌}
use Rattle.tcp_flows.specs.declared.sockets.Numbered.{Numbered}
use Rattle.tcp_flows.specs.SocketPlaces.{HasNumber}
use Rattle.tcp_flows.specs.Sockets.{Listed, slot_of}
use Rattle.tcp_flows.proofs.Finding.{found_slot}
use Rattle.tcp_flows.proofs.sockets.SocketSlots.slot_of.Goals as goal

pub returns-clause-slot : goal.returns-clause-slot
returns-clause-slot c =
    let rows = c.self.inside.rows.items in
    let place = c.in_ok-place.place in
    let has = subst (λ (l : List Numbered). HasNumber c.args.number l place) c.deref.ensures.value c.in_ok-place.ensures.found in
    ap (λ (r : Numbered). Some r.slot) c.index.ensures
    ∙ sym (found_slot c.args.number rows place c.index.result.now c.self.invariant.0 has)
    ∙ ap (λ (s : Listed). slot_of c.args.number s.rows) c.self.view_is
