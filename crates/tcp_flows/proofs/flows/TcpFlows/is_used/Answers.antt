use Rattle.std.proofs.Common.{◌≡◌, length, Some, slice_get, arith, ap, sym, ◌∙◌, subst}
use Rattle.std.proofs.lemmas.List.{length-map}
use Rattle.std.proofs.lemmas.Option.{slice_get_within}
use Rattle.flow_table.specs.Slots.{NoneHas}
use Rattle.flow_table.specs.declared.Slot.TheVariants.{InUse as SlotInUse}
use Rattle.spec_flows.specs.declared.Tuple.{Tuple}
use Rattle.flow_splice.specs.Splice.{Splice, is_in_use}
use Rattle.sim_flows.specs.Stands.{slot_at}
use Rattle.tcp_flows.specs.Kept.{Kept, part_of, slot_of}
use Rattle.tcp_flows.specs.Reading.{NoneUses}
use Rattle.tcp_flows.proofs.Hearing.{tuple_back}
use Rattle.tcp_flows.proofs.Keeping.{read_here, slot_raw}
use Rattle.tcp_flows.proofs.Visiting.{none_recorded, none_used_is, use_found, use_none, use_recorded}
use Rattle.tcp_flows.proofs.flows.TcpFlows.is_used.Goals as goal

pub index-requires : goal.index-requires
index-requires c =
    let parts = c.self.inside.slots.items in
    let back = tuple_back c.self.inside.rows.table.slots parts c.self.invariant.0.slots_are c.in-Some.slot c.args.ends.now c.in-Some.ensures.found in
    let w = slice_get_within parts c.in-Some.slot back.0 back.1 in
    omega (arith, w, c.self.inside.slots.ok.0)

pub returns-in_default-clause-unused : goal.returns-in_default-clause-unused
returns-in_default-clause-unused c is = none_used_is _ c.args.ends.now (subst (λ (s : Kept). NoneHas s.flows.table.slots c.args.ends.now) c.self.view_is c.in_default.ensures.none)

pub returns-in_default-clause-recorded : goal.returns-in_default-clause-recorded
returns-in_default-clause-recorded c config now aged task past holds =
    let parts = c.self.inside.slots.items in
    let sizes = subst (λ (s : Kept). length s.flows.slots ≡ length s.flows.table.slots) c.self.view_is (length-map parts part_of ∙ sym (length-map parts slot_of) ∙ sym
    (ap length c.self.invariant.0.slots_are)) in
    sym (none_recorded config now aged task c.args.self.now.flows past holds sizes c.args.ends.now
    (subst (λ (s : Kept). NoneHas s.flows.table.slots c.args.ends.now) c.self.view_is c.in_default.ensures.none))

pub returns-clause-used : goal.returns-clause-used
returns-clause-used c is =
    let parts = c.self.inside.slots.items in
    let table = c.self.inside.rows.table in
    let back = tuple_back table.slots parts c.self.invariant.0.slots_are c.in-Some.slot c.args.ends.now c.in-Some.ensures.found in
    let read = read_here parts c.in-Some.slot back.0 c.index.result.now back.1 c.index.ensures in
    let slot = slot_raw table parts c.self.invariant.0.slots_are c.in-Some.slot back.0 back.1 ∙ ap (λ (t : Tuple). Some (slot_at back.0.place t)) back.3 in
    let used = sym (ap (λ (x : Splice). is_in_use x.place) read) ∙ sym (ap is_in_use c.place.ensures) ∙ sym c.is_in_use.ensures ∙ is in (
      c.in-Some.slot,
      subst (λ (s : Kept). slice_get s.flows.table.slots c.in-Some.slot ≡ Some (SlotInUse c.args.ends.now)) c.self.view_is
          (use_found table.slots c.args.ends.now c.in-Some.slot back.0.place slot used),
    )

pub returns-clause-unused : goal.returns-clause-unused
returns-clause-unused c is =
    let parts = c.self.inside.slots.items in
    let table = c.self.inside.rows.table in
    let back = tuple_back table.slots parts c.self.invariant.0.slots_are c.in-Some.slot c.args.ends.now c.in-Some.ensures.found in
    let read = read_here parts c.in-Some.slot back.0 c.index.result.now back.1 c.index.ensures in
    let slot = slot_raw table parts c.self.invariant.0.slots_are c.in-Some.slot back.0 back.1 ∙ ap (λ (t : Tuple). Some (slot_at back.0.place t)) back.3 in
    let used = sym (ap (λ (x : Splice). is_in_use x.place) read) ∙ sym (ap is_in_use c.place.ensures) ∙ sym c.is_in_use.ensures ∙ is in
    subst (λ (s : Kept). NoneUses s.flows.table.slots c.args.ends.now) c.self.view_is (use_none table.slots c.args.ends.now c.in-Some.slot back.0.place slot c.in-Some.ensures.alone used)

pub returns-clause-recorded : goal.returns-clause-recorded
returns-clause-recorded c config now aged task past holds =
    let parts = c.self.inside.slots.items in
    let table = c.self.inside.rows.table in
    let back = tuple_back table.slots parts c.self.invariant.0.slots_are c.in-Some.slot c.args.ends.now c.in-Some.ensures.found in
    let read = read_here parts c.in-Some.slot back.0 c.index.result.now back.1 c.index.ensures in
    let slot = slot_raw table parts c.self.invariant.0.slots_are c.in-Some.slot back.0 back.1 ∙ ap (λ (t : Tuple). Some (slot_at back.0.place t)) back.3 in
    let sizes = subst (λ (s : Kept). length s.flows.slots ≡ length s.flows.table.slots) c.self.view_is (length-map parts part_of ∙ sym (length-map parts slot_of) ∙ sym
    (ap length c.self.invariant.0.slots_are)) in
    c.is_in_use.ensures ∙ ap is_in_use (c.place.ensures ∙ ap (λ (x : Splice). x.place) read)
    ∙ use_recorded config now aged task c.args.self.now.flows past holds sizes c.args.ends.now c.in-Some.slot back.0.place
    (subst (λ (s : Kept). slice_get s.flows.table.slots c.in-Some.slot ≡ Some (slot_at back.0.place c.args.ends.now)) c.self.view_is slot) back.2
