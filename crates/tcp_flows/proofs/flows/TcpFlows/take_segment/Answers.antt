use Rattle.std.proofs.Common.{◌≡◌, length, ap, arith, sym, ◌∙◌, subst}
use Rattle.std.proofs.lemmas.List.{length-map}
use Rattle.std.proofs.lemmas.Option.{slice_get_within}
use Rattle.world_face.specs.Tells.{Makes}
use Rattle.world_face.proofs.Telling.{makes_none}
use Rattle.tcp_segment.specs.Tcp.{tcp_of}
use Rattle.flow_table.specs.Slots.{NoneHas}
use Rattle.flow_splice.specs.Splice.{Splice, is_in_time_wait, is_in_use}
use Rattle.tcp_flows.specs.Kept.{Kept, part_of, slot_of}
use Rattle.tcp_flows.specs.Runs.{Hears}
use Rattle.tcp_flows.proofs.Hearing.{strayed, tuple_back}
use Rattle.tcp_flows.proofs.Keeping.{read_here, seen_here}
use Rattle.tcp_flows.proofs.Staying.{stays_same}
use Rattle.tcp_flows.proofs.flows.TcpFlows.take_segment.Goals as goal

pub returns-in_default-clause-makes : goal.returns-in_default-clause-makes
returns-in_default-clause-makes g c =
    let parts = c.self.inside.slots.items in
    makes_none _ _
    (strayed c.args.now c.args.self.now c.args.ends.now (tcp_of c.args.segment.now) (subst (λ (s : Kept). NoneHas s.flows.table.slots c.args.ends.now) c.self.view_is c.in_default.ensures.none)
    (subst (λ (s : Kept). length s.flows.slots ≡ length s.flows.table.slots) c.self.view_is (length-map parts part_of ∙ sym (length-map parts slot_of) ∙ sym (ap length c.self.invariant.0.slots_are))))

pub index-requires : goal.index-requires
index-requires g c =
    let parts = c.self.inside.slots.items in
    let back = tuple_back c.self.inside.rows.table.slots parts c.self.invariant.0.slots_are c.in-Some.slot c.args.ends.now c.in-Some.ensures.found in
    let w = slice_get_within parts c.in-Some.slot back.0 back.1 in
    omega (arith, w, c.self.inside.slots.ok.0)

pub take_in_use-requires-clause-slot : goal.take_in_use-requires-clause-slot
take_in_use-requires-clause-slot g c =
    let parts = c.self.inside.slots.items in
    let back = tuple_back c.self.inside.rows.table.slots parts c.self.invariant.0.slots_are c.in-Some.slot c.args.ends.now c.in-Some.ensures.found in
    let is = read_here parts c.in-Some.slot back.0 c.index.result.now back.1 c.index.ensures in (
      back.0,
      seen_here parts c.in-Some.slot back.0 _ (ap (λ (s : Kept). s.flows.slots) c.self.view_is) back.1 back.2,
      sym (ap (λ (x : Splice). is_in_use x.place) is) ∙ sym
          (ap is_in_use c.in-InUse.ensures),
    )

pub take_in_time_wait-requires-clause-slot : goal.take_in_time_wait-requires-clause-slot
take_in_time_wait-requires-clause-slot g c =
    let parts = c.self.inside.slots.items in
    let back = tuple_back c.self.inside.rows.table.slots parts c.self.invariant.0.slots_are c.in-Some.slot c.args.ends.now c.in-Some.ensures.found in
    let is = read_here parts c.in-Some.slot back.0 c.index.result.now back.1 c.index.ensures in (
      back.0,
      seen_here parts c.in-Some.slot back.0 _ (ap (λ (s : Kept). s.flows.slots) c.self.view_is) back.1 back.2,
      sym (ap (λ (x : Splice). is_in_time_wait x.place) is) ∙ sym
          (ap is_in_time_wait c.in-InTimeWait.ensures),
    )

pub returns-in-InUse-clause-makes : goal.returns-in-InUse-clause-makes
returns-in-InUse-clause-makes g c =
    let parts = c.self.inside.slots.items in
    let back = tuple_back c.self.inside.rows.table.slots parts c.self.invariant.0.slots_are c.in-Some.slot c.args.ends.now c.in-Some.ensures.found in
    subst (λ t. Makes (g.W.World.tells c.args.world.now) (g.W.World.tells c.take_in_use.new.world) (Hears c.args.now c.args.self.now c.take_in_use.new.self t
    (tcp_of c.args.segment.now) c.take_in_use.result)) back.3
    (c.take_in_use.ensures.makes back.0 (seen_here parts c.in-Some.slot back.0 _ (ap (λ (s : Kept). s.flows.slots) c.self.view_is) back.1 back.2))

pub returns-in-InTimeWait-clause-makes : goal.returns-in-InTimeWait-clause-makes
returns-in-InTimeWait-clause-makes g c =
    let parts = c.self.inside.slots.items in
    let back = tuple_back c.self.inside.rows.table.slots parts c.self.invariant.0.slots_are c.in-Some.slot c.args.ends.now c.in-Some.ensures.found in
    subst (λ t. Makes (g.W.World.tells c.args.world.now) (g.W.World.tells c.take_in_time_wait.new.world) (Hears c.args.now c.args.self.now c.take_in_time_wait.new.self t
    (tcp_of c.args.segment.now) c.take_in_time_wait.result)) back.3
    (c.take_in_time_wait.ensures.makes back.0 (seen_here parts c.in-Some.slot back.0 _ (ap (λ (s : Kept). s.flows.slots) c.self.view_is) back.1 back.2))

pub returns-in-InTimeWait-clause-none : goal.returns-in-InTimeWait-clause-none
returns-in-InTimeWait-clause-none g c alone =
    let parts = c.self.inside.slots.items in
    let back = tuple_back c.self.inside.rows.table.slots parts c.self.invariant.0.slots_are c.in-Some.slot c.args.ends.now c.in-Some.ensures.found in
    subst (NoneHas c.take_in_time_wait.new.self.flows.table.slots) back.3
    (c.take_in_time_wait.ensures.none back.0 (seen_here parts c.in-Some.slot back.0 _ (ap (λ (s : Kept). s.flows.slots) c.self.view_is) back.1 back.2) alone)

pub returns-in-Empty-clause-makes : goal.returns-in-Empty-clause-makes
returns-in-Empty-clause-makes g c =
    let parts = c.self.inside.slots.items in
    let back = tuple_back c.self.inside.rows.table.slots parts c.self.invariant.0.slots_are c.in-Some.slot c.args.ends.now c.in-Some.ensures.found in
    let is = read_here parts c.in-Some.slot back.0 c.index.result.now back.1 c.index.ensures in
    absurd (back.2 (sym (ap (λ (x : Splice). x.place) is) ∙ sym c.in-Empty.ensures))

pub returns-in-Empty-clause-none : goal.returns-in-Empty-clause-none
returns-in-Empty-clause-none g c =
    let parts = c.self.inside.slots.items in
    let back = tuple_back c.self.inside.rows.table.slots parts c.self.invariant.0.slots_are c.in-Some.slot c.args.ends.now c.in-Some.ensures.found in
    let is = read_here parts c.in-Some.slot back.0 c.index.result.now back.1 c.index.ensures in
    absurd (back.2 (sym (ap (λ (x : Splice). x.place) is) ∙ sym c.in-Empty.ensures))

pub returns-in_default-clause-stays : goal.returns-in_default-clause-stays
returns-in_default-clause-stays g c = stays_same c.args.self.now

pub returns-in-Empty-clause-stays : goal.returns-in-Empty-clause-stays
returns-in-Empty-clause-stays g c = stays_same c.args.self.now
