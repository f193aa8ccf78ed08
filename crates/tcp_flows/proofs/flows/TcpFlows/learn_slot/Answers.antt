use Rattle.std.proofs.Common.{refl, false, List, Option, map, set, option_map, Some, slice_get, arith, ap, sym, ◌∙◌}
use Rattle.std.proofs.lemmas.List.{length-set, map-set}
use Rattle.std.proofs.lemmas.Option.{slice_get_within}
use Rattle.tcp_transmit.specs.Transmission.{octets_read}
use Rattle.flow_splice.specs.Splice.{Splice}
use Rattle.sim_flows.specs.Core.{ends_of}
use Rattle.sim_flows.proofs.Options.{some_same}
use Rattle.ordered_rows.proofs.Places.{set_same}
use Rattle.tcp_flows.specs.Kept.{Kept, part_of}
use Rattle.tcp_flows.specs.Reading.{learnt_from}
use Rattle.tcp_flows.specs.Rows.{table_at}
use Rattle.rules_flow.specs.declared.Waits.{Waits}
use Rattle.tcp_flows.proofs.Changing.{in_waits, waits_here, waits_seen}
use Rattle.tcp_flows.proofs.Following.{has_tuple}
use Rattle.tcp_flows.proofs.Keeping.{flows_as, ours_then, served_same, settings_as, slot_raw, table_is}
use Rattle.tcp_flows.proofs.Learning.{learns_of, resolving_is, slot_part, table_stays, learnt_is, told_at, unsought}
use Rattle.tcp_flows.proofs.Lists.{get_map}
use Rattle.tcp_flows.proofs.Seated.{part_is}
use Rattle.tcp_flows.proofs.Staying.{stays_same, stays_set}
use Rattle.tcp_flows.proofs.flows.TcpFlows.learn_slot.Goals as goal

pub at-resolves-requires : goal.at-resolves-requires
at-resolves-requires c =
    let parts = c.self.inside.slots.items in
    let at = slot_part parts _ (ap (λ (s : Kept). s.flows.slots) c.self.view_is) c.args.slot c.requires.slot in
    in_waits parts _ _ _ _ _ _ _ _ c.self.invariant.0 c.args.slot at.0 at.1

pub returns-then-not-resolves-clause-learns : goal.returns-then-not-resolves-clause-learns
returns-then-not-resolves-clause-learns c config now aged past is between = between

pub returns-then-not-resolves-clause-parts : goal.returns-then-not-resolves-clause-parts
returns-then-not-resolves-clause-parts c x here =
    let parts = c.self.inside.slots.items in
    let view = ap (λ (s : Kept). s.flows.slots) c.self.view_is in
    let at = slot_part parts _ view c.args.slot c.requires.slot in
    let seen = waits_seen _ c.args.slot at.0 c.at-resolves.result (waits_here parts _ _ _ _ _ _ _ _ c.self.invariant.0 c.args.slot at.0 at.1) c.at-resolves.ensures.value in
    let none = sym (ap (λ (w : Waits). w.mac) seen) ∙ c.if-not-resolves.true in
    let x_is = some_same x (part_of at.0) (sym here ∙ sym (ap (λ (l : List (Option Splice)). slice_get l c.args.slot) view) ∙ get_map part_of parts c.args.slot at.0 at.1) in
    sym (set_same c.args.self.now.flows.slots c.args.slot (option_map (learnt_from c.args.guests.now) x)
    (here ∙ ap Some (x_is ∙ sym (unsought c.args.guests.now at.0 none) ∙ ap (option_map (learnt_from c.args.guests.now)) (sym x_is))))

pub returns-then-not-resolves-clause-stays : goal.returns-then-not-resolves-clause-stays
returns-then-not-resolves-clause-stays c = stays_same c.args.self.now

pub index_mut-part-requires : goal.index_mut-part-requires
index_mut-part-requires c =
    let parts = c.self.inside.slots.items in
    let at = slot_part parts _ (ap (λ (s : Kept). s.flows.slots) c.self.view_is) c.args.slot c.requires.slot in
    let w = slice_get_within parts c.args.slot at.0 at.1 in
    omega (arith, w, c.self.inside.slots.ok.0)

pub follow-requires-clause-some : goal.follow-requires-clause-some
follow-requires-clause-some c =
    let parts = c.self.inside.slots.items in
    let view = ap (λ (s : Kept). s.flows.slots) c.self.view_is in
    let is =
    told_at c.args.guests.now parts _ view c.self.inside.rows.waits.each c.self.invariant.0.waits_are c.args.slot c.requires.slot c.at-resolves.result c.at-resolves.ensures.value
    c.if-not-resolves.false c.index_mut-part.result.now c.learn.new.self
    c.index_mut-part.ensures.value c.of-before.result.place c.of-before.ensures.place c.of-before.result.is_open c.of-before.ensures.open c.guest.result c.guest.ensures
    c.find-mac.result c.find-mac.ensures c.learn.ensures in
    λ empty. is.some (sym is.place_is ∙ empty)

pub follow-requires-clause-rows : goal.follow-requires-clause-rows
follow-requires-clause-rows c =
    let parts = c.self.inside.slots.items in
    let view = ap (λ (s : Kept). s.flows.slots) c.self.view_is in
    let is =
    told_at c.args.guests.now parts _ view c.self.inside.rows.waits.each c.self.invariant.0.waits_are c.args.slot c.requires.slot c.at-resolves.result c.at-resolves.ensures.value
    c.if-not-resolves.false c.index_mut-part.result.now c.learn.new.self
    c.index_mut-part.ensures.value c.of-before.result.place c.of-before.ensures.place c.of-before.result.is_open c.of-before.ensures.open c.guest.result c.guest.ensures
    c.find-mac.result c.find-mac.ensures c.learn.ensures in
    (parts, is.part, is.at, is.place_is, is.open_is, is.moves, c.self.invariant.0)

pub invariant_of-self : goal.invariant_of-self
invariant_of-self c =
    let parts = c.self.inside.slots.items in
    let view = ap (λ (s : Kept). s.flows.slots) c.self.view_is in
    let is =
    told_at c.args.guests.now parts _ view c.self.inside.rows.waits.each c.self.invariant.0.waits_are c.args.slot c.requires.slot c.at-resolves.result c.at-resolves.ensures.value
    c.if-not-resolves.false c.index_mut-part.result.now c.learn.new.self
    c.index_mut-part.ensures.value c.of-before.result.place c.of-before.ensures.place c.of-before.result.is_open c.of-before.ensures.open c.guest.result c.guest.ensures
    c.find-mac.result c.find-mac.ensures c.learn.ensures in
    let q : Splice = c.learn.new.self in (
      c.follow.ensures.rows parts is.part is.at is.place_is is.open_is is.moves c.self.invariant.0,
      c.follow.ensures.room ∙ c.self.invariant.1 ∙ sym (length-set parts c.args.slot q),
      ours_then c.self.inside.sizes.ring c.self.inside.sizes.mru c.self.inside.sizes.vhost.0 parts c.self.invariant.2 c.args.slot is.part is.at q is.some
          (ap (λ (x : Splice). x.up.size) is.q_is) (ap (λ (x : Splice). x.down.size) is.q_is) (ap (λ (x : Splice). x.mru) is.q_is) (ap (λ (x : Splice). x.face) is.q_is),
      served_same c.self.inside.turn c.self.inside.served.items parts c.self.invariant.3 c.args.slot is.part is.at q is.some (ap (λ (x : Splice). x.up.written) is.q_is)
          (ap (λ (x : Splice). octets_read x.down) is.q_is),
      c.self.invariant.4,
      c.self.invariant.5,
    )

pub returns-clause-learns : goal.returns-clause-learns
returns-clause-learns c =
    let parts = c.self.inside.slots.items in
    let view = ap (λ (s : Kept). s.flows.slots) c.self.view_is in
    let is =
    told_at c.args.guests.now parts _ view c.self.inside.rows.waits.each c.self.invariant.0.waits_are c.args.slot c.requires.slot c.at-resolves.result c.at-resolves.ensures.value
    c.if-not-resolves.false c.index_mut-part.result.now c.learn.new.self
    c.index_mut-part.ensures.value c.of-before.result.place c.of-before.ensures.place c.of-before.result.is_open c.of-before.ensures.open c.guest.result c.guest.ensures
    c.find-mac.result c.find-mac.ensures c.learn.ensures in
    let q : Splice = c.learn.new.self in
    let table = c.self.inside.rows.table in
    let slot = slot_raw table parts c.self.invariant.0.slots_are c.args.slot is.part is.at in
    let has = has_tuple false table c.args.slot is.part q is.moves is.some slot in
    let table_then = c.follow.ensures.table (ends_of is.part.face) has ∙ table_is is.place_is false q.place c.args.slot (ends_of is.part.face) table
    ∙ ap (λ x. table_at false is.part.place x c.args.slot (ends_of is.part.face) table) (ap (λ (x : Splice). x.place) is.q_is) ∙ table_stays is.part.place c.args.slot (ends_of is.part.face) table in
    learns_of c.args.guests.now table parts c.self.inside.opened c.args.self.now _
    (sym (ap (λ (s : Kept). s.flows) c.self.view_is)) c.self.invariant.0.slots_are c.self.invariant.0.kept c.args.slot is.part q is.at is.resolves is.q_is
    (flows_as table_then (set parts c.args.slot q) c.self.inside.opened) (λ config. settings_as c.self.view_is refl)

pub returns-clause-parts : goal.returns-clause-parts
returns-clause-parts c x here =
    let parts = c.self.inside.slots.items in
    let view = ap (λ (s : Kept). s.flows.slots) c.self.view_is in
    let is =
    told_at c.args.guests.now parts _ view c.self.inside.rows.waits.each c.self.invariant.0.waits_are c.args.slot c.requires.slot c.at-resolves.result c.at-resolves.ensures.value
    c.if-not-resolves.false c.index_mut-part.result.now c.learn.new.self
    c.index_mut-part.ensures.value c.of-before.result.place c.of-before.ensures.place c.of-before.result.is_open c.of-before.ensures.open c.guest.result c.guest.ensures
    c.find-mac.result c.find-mac.ensures c.learn.ensures in
    let p : Splice = is.part in
    let q : Splice = c.learn.new.self in
    let x_is = some_same x (Some p) (sym here ∙ sym (ap (λ (l : List (Option Splice)). slice_get l c.args.slot) view) ∙ get_map part_of parts c.args.slot p is.at ∙ ap Some (part_is p is.some)) in
    let told = is.q_is ∙ sym (learnt_is c.args.guests.now p (resolving_is p is.resolves).1) in
    map-set part_of parts c.args.slot q
    ∙ ap (set (map part_of parts) c.args.slot) (part_is q (λ empty. is.some (sym (ap (λ (y : Splice). y.place) is.q_is) ∙ empty)) ∙ ap Some told ∙ ap
    (option_map (learnt_from c.args.guests.now)) (sym x_is))
    ∙ ap (λ l. set l c.args.slot (option_map (learnt_from c.args.guests.now) x)) view

pub returns-clause-stays : goal.returns-clause-stays
returns-clause-stays c =
    let parts = c.self.inside.slots.items in
    let view = ap (λ (s : Kept). s.flows.slots) c.self.view_is in
    let is =
    told_at c.args.guests.now parts _ view c.self.inside.rows.waits.each c.self.invariant.0.waits_are c.args.slot c.requires.slot c.at-resolves.result c.at-resolves.ensures.value
    c.if-not-resolves.false c.index_mut-part.result.now c.learn.new.self
    c.index_mut-part.ensures.value c.of-before.result.place c.of-before.ensures.place c.of-before.result.is_open c.of-before.ensures.open c.guest.result c.guest.ensures
    c.find-mac.result c.find-mac.ensures c.learn.ensures in
    stays_set c.args.self.now _ parts c.args.slot is.part c.learn.new.self view is.at is.some (ap (λ (x : Splice). x.face) is.q_is) refl (ap (λ (s : Kept). s.flows.opened) c.self.view_is)
