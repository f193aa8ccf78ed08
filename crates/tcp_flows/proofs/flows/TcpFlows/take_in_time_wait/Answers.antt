use Rattle.std.proofs.Common.{refl, ◌≡◌, ◌+◌, ◌<◌, length, set, slice_get, Some, true, arith, ap, sym, ◌∙◌, subst}
use Rattle.std.proofs.lemmas.List.{length-set}
use Rattle.std.proofs.lemmas.Option.{slice_get_within}
use Rattle.tcp_segment.specs.Tcp.{tcp_of}
use Rattle.tcp_transmit.specs.Transmission.{octets_read}
use Rattle.flow_table.specs.Slots.{Flows, NoneHas}
use Rattle.flow_splice.specs.Guests.{renews}
use Rattle.flow_splice.specs.Hosts.{IsAsOld}
use Rattle.flow_splice.specs.Splice.{Splice, is_in_time_wait, is_open}
use Rattle.sim_flows.specs.Core.{ends_of}
use Rattle.tcp_flows.specs.Kept.{Kept}
use Rattle.tcp_flows.proofs.Hearing.{alone_left, hears_rested, makes_quiet, none_after}
use Rattle.tcp_flows.proofs.Keeping.{flows_as, may_take, ours_as_old, raw_here, raw_placed, read_here, rest_shut, served_same, settings_as}
use Rattle.tcp_flows.proofs.Reached.{had_place, reached, rested, rested_table}
use Rattle.tcp_flows.proofs.Staying.{stays_set}
use Rattle.tcp_flows.proofs.flows.TcpFlows.take_in_time_wait.Goals as goal

same_part : (x y : Splice) → Some (Some x) ≡ Some (Some y) → x ≡ y
same_part x y is = cc

pub index_mut-part-requires : goal.index_mut-part-requires
index_mut-part-requires g c =
    let o = c.requires.slot in
    let parts = c.self.inside.slots.items in
    let raw = raw_here parts c.args.slot o.0 (ap (λ (s : Kept). slice_get s.flows.slots c.args.slot) c.self.view_is ∙ o.1) in
    let w = slice_get_within parts c.args.slot o.0 raw in
    omega (arith, w, c.self.inside.slots.ok.0)

pub guest_segment-requires-clause-few : goal.guest_segment-requires-clause-few
guest_segment-requires-clause-few g c =
    let o = c.requires.slot in
    let parts = c.self.inside.slots.items in
    let raw = raw_here parts c.args.slot o.0 (ap (λ (s : Kept). slice_get s.flows.slots c.args.slot) c.self.view_is ∙ o.1) in
    let some = raw_placed parts c.args.slot o.0 (ap (λ (s : Kept). slice_get s.flows.slots c.args.slot) c.self.view_is ∙ o.1) in
    let few = may_take c.self.inside.turn c.self.inside.served.items parts c.self.invariant.3 c.args.slot o.0 raw some c.self.invariant.5 (length c.args.segment.now.body.now) c.requires.body in
    subst (λ (x : Splice). x.up.written + length c.args.segment.now.body.now + 2097152 < 4611686018427387904)
    (sym (read_here parts c.args.slot o.0 c.index_mut-part.result.now raw c.index_mut-part.ensures.value)) few

pub follow-requires-clause-some : goal.follow-requires-clause-some
follow-requires-clause-some g c =
    had_place c.self.inside.slots.items c.args.slot c.requires.slot.0 c.index_mut-part.result.now _ _
    (reached c.self.inside.slots.items c.args.slot _ c.requires.slot.0 c.index_mut-part.result.now _ _ (ap (λ (s : Kept). s.flows.slots) c.self.view_is)
    c.requires.slot.1 c.index_mut-part.ensures.value c.of-before.ensures.place c.of-before.ensures.open)

pub follow-requires-clause-rows : goal.follow-requires-clause-rows
follow-requires-clause-rows g c =
    let q : Splice = c.guest_segment.new.self in
    let o = c.requires.slot in
    let parts = c.self.inside.slots.items in
    let r = reached parts c.args.slot _ o.0 c.index_mut-part.result.now _ _ (ap (λ (s : Kept). s.flows.slots) c.self.view_is) o.1
    c.index_mut-part.ensures.value c.of-before.ensures.place c.of-before.ensures.open in
    let rest = rested c.renews.result (tcp_of c.args.segment.now) c.args.now parts c.args.slot o.0 _ q _ _ r c.renews.ensures o.2 c.guest_segment.ensures.time_waits in (
      parts,
      o.0,
      r.at,
      r.place_is,
      r.open_is,
      rest.moves,
      c.self.invariant.0,
    )

pub invariant_of-self : goal.invariant_of-self
invariant_of-self g c =
    let q : Splice = c.guest_segment.new.self in
    let o = c.requires.slot in
    let parts = c.self.inside.slots.items in
    let r = reached parts c.args.slot _ o.0 c.index_mut-part.result.now _ _ (ap (λ (s : Kept). s.flows.slots) c.self.view_is) o.1
    c.index_mut-part.ensures.value c.of-before.ensures.place c.of-before.ensures.open in
    let rest = rested c.renews.result (tcp_of c.args.segment.now) c.args.now parts c.args.slot o.0 _ q _ _ r c.renews.ensures o.2 c.guest_segment.ensures.time_waits in
    let as_old = subst (λ (x : Splice). IsAsOld x q) r.is c.guest_segment.ensures.stays.same in (
      c.follow.ensures.rows parts o.0 r.at r.place_is r.open_is rest.moves c.self.invariant.0,
      c.follow.ensures.room ∙ c.self.invariant.1 ∙ sym (length-set parts c.args.slot q),
      ours_as_old c.self.inside.sizes.ring c.self.inside.sizes.mru c.self.inside.sizes.vhost.0 parts c.self.invariant.2 c.args.slot o.0 r.at q r.some as_old,
      served_same c.self.inside.turn c.self.inside.served.items parts c.self.invariant.3 c.args.slot o.0 r.at q r.some
          (c.guest_segment.ensures.stays.up ∙ ap (λ (x : Splice). x.up.written) r.is) (c.guest_segment.ensures.stays.down ∙ ap (λ (x : Splice). octets_read x.down) r.is),
      c.self.invariant.4,
      c.self.invariant.5,
    )

pub returns-clause-makes : goal.returns-clause-makes
returns-clause-makes g c p here =
    let q : Splice = c.guest_segment.new.self in
    let parts = c.self.inside.slots.items in
    let table = c.self.inside.rows.table in
    let view = c.self.view_is in
    let tcp = tcp_of c.args.segment.now in
    let r = reached parts c.args.slot _ p c.index_mut-part.result.now _ _ (ap (λ (s : Kept). s.flows.slots) view) here
    c.index_mut-part.ensures.value c.of-before.ensures.place c.of-before.ensures.open in
    let o = c.requires.slot in
    let at_rest = subst (λ (x : Splice). is_in_time_wait x.place ≡ true) (same_part o.0 p (sym o.1 ∙ here)) o.2 in
    let rest = rested c.renews.result tcp c.args.now parts c.args.slot p _ q _ _ r c.renews.ensures at_rest c.guest_segment.ensures.time_waits in
    let as_old = subst (λ (x : Splice). IsAsOld x q) r.is c.guest_segment.ensures.stays.same in
    let table_then = rested_table c.renews.result tcp c.args.now parts c.args.slot p _ q _ _ r c.renews.ensures rest.moves table _ c.self.invariant.0.slots_are c.follow.ensures.table in
    makes_quiet (c.guest_segment.ensures.quiet (ap is_open r.is ∙ rest_shut p rest.since rest.time_waits)) _
    (hears_rested c.args.now table parts c.self.inside.opened c.args.self.now _ (sym (ap (λ (s : Kept). s.flows) view)) c.self.invariant.0.slots_are c.self.invariant.0.kept c.args.slot p q r.at r.some
    (λ config. settings_as view refl) as_old tcp c.acknowledgement-acknowledgement.ensures.bits rest.since rest.time_waits rest.heard
    (flows_as table_then (set parts c.args.slot q) c.self.inside.opened) c.taken_at.result
    (λ empty. c.taken_at.ensures.left (c.place.ensures ∙ empty)) (λ placed. c.taken_at.ensures.stays (λ empty. placed (sym c.place.ensures ∙ empty))))

pub returns-clause-none : goal.returns-clause-none
returns-clause-none g c p here alone =
    let q : Splice = c.guest_segment.new.self in
    let parts = c.self.inside.slots.items in
    let table = c.self.inside.rows.table in
    let view = c.self.view_is in
    let tcp = tcp_of c.args.segment.now in
    let r = reached parts c.args.slot _ p c.index_mut-part.result.now _ _ (ap (λ (s : Kept). s.flows.slots) view) here
    c.index_mut-part.ensures.value c.of-before.ensures.place c.of-before.ensures.open in
    let o = c.requires.slot in
    let at_rest = subst (λ (x : Splice). is_in_time_wait x.place ≡ true) (same_part o.0 p (sym o.1 ∙ here)) o.2 in
    let rest = rested c.renews.result tcp c.args.now parts c.args.slot p _ q _ _ r c.renews.ensures at_rest c.guest_segment.ensures.time_waits in
    let table_then = rested_table c.renews.result tcp c.args.now parts c.args.slot p _ q _ _ r c.renews.ensures rest.moves table _ c.self.invariant.0.slots_are c.follow.ensures.table in
    let gone = alone_left q.place c.taken_at.result (λ empty. c.taken_at.ensures.left (c.place.ensures ∙ empty))
    (λ placed. c.taken_at.ensures.stays (λ empty. placed (sym c.place.ensures ∙ empty))) alone in
    subst (λ (t : Flows). NoneHas t.slots (ends_of p.face)) (sym table_then)
    (none_after table parts c.self.invariant.0.slots_are c.self.invariant.0.kept c.args.slot p q r.at rest.since rest.time_waits gone (renews tcp))

pub returns-clause-stays : goal.returns-clause-stays
returns-clause-stays g c =
    let o = c.requires.slot in
    let parts = c.self.inside.slots.items in
    let r = reached parts c.args.slot _ o.0 c.index_mut-part.result.now _ _ (ap (λ (s : Kept). s.flows.slots) c.self.view_is) o.1
    c.index_mut-part.ensures.value c.of-before.ensures.place c.of-before.ensures.open in
    stays_set c.args.self.now _ parts c.args.slot o.0 c.guest_segment.new.self (ap (λ (s : Kept). s.flows.slots) c.self.view_is) r.at r.some
    (c.guest_segment.ensures.stays.same.face ∙ ap (λ (x : Splice). x.face) r.is) refl
    (ap (λ (s : Kept). s.flows.opened) c.self.view_is)
