use Rattle.std.proofs.Common.{refl, ◌≡◌, Bool, List, [], ◌∷◌, ◌++◌, set, None, true, false, ap, sym, ◌∙◌, subst, arith}
use Rattle.std.proofs.lemmas.List.{length-set}
use Rattle.std.proofs.lemmas.Option.{slice_get_within}
use Rattle.std.specs.List.{list_any}
use Rattle.world_face.specs.Journal.{Close, Entry}
use Rattle.slirp_settings.specs.Addresses.{Config}
use Rattle.spec_run.specs.Agenda.{agenda}
use Rattle.tcp_flows.specs.Runs.{Between, Leaves}
use Rattle.world_face.proofs.Telling.{makes_as, makes_none}
use Rattle.spec_flow.specs.Event.{At, Closes, Story}
use Rattle.spec_flow.specs.Close.{follows_reset, may_give_way}
use Rattle.spec_flows.specs.Laws.{flow_settings}
use Rattle.flow_splice.specs.Splice.{Splice, is_open}
use Rattle.tcp_transmit.specs.Transmission.{octets_read}
use Rattle.sim_flows.specs.Core.{Following, ends_of}
use Rattle.tcp_flows.specs.Kept.{Kept, flows_of}
use Rattle.tcp_flows.specs.Way.{AreFirst, IsFirstQuiet, owes}
use Rattle.tcp_flows.proofs.Following.{has_tuple}
use Rattle.tcp_flows.proofs.Keeping.{flows_as, ours_as_old, placed, read_here, served_same, settings_as, slot_raw, table_is}
use Rattle.tcp_flows.proofs.Staying.{stays_set}
use Rattle.tcp_flows.proofs.Way.{first_open, gave, given, none_quiet, owed_first}
use Rattle.tcp_flows.proofs.flows.TcpFlows.give_way.Goals as goal

-- a flow that was closed owes its reset
pub returns-then-one_owes-clause-makes : goal.returns-then-one_owes-clause-makes
returns-then-one_owes-clause-makes g c =
    let i = c.self.inside in
    let owing = sym (ap (list_any (λ (p : Splice). owes p)) c.deref.ensures.value) ∙ sym c.one_owes.ensures ∙ c.if-one_owes.true in
    makes_none _ _ (λ config past on crowded between.
    owed_first config c.args.now c.requires.now i.rows.table i.slots.items i.opened c.args.self.now (sym (ap (λ (s : Kept). s.flows) c.self.view_is)) past on crowded between owing)

-- none may give way
pub returns-in_default-clause-makes : goal.returns-in_default-clause-makes
returns-in_default-clause-makes g c =
    let i = c.self.inside in
    let unowing = sym (ap (list_any (λ (p : Splice). owes p)) c.deref.ensures.value) ∙ sym c.one_owes.ensures ∙ c.if-one_owes.false in
    let none = subst (λ (ps : List Splice). AreFirst c.args.now ps None) c.deref-2.ensures.value c.in_default.ensures in
    makes_none _ _ (λ config past on crowded between.
    none_quiet config c.args.now c.requires.now i.rows.table i.slots.items i.opened c.args.self.now (sym (ap (λ (s : Kept). s.flows) c.self.view_is)) past on crowded between unowing none)

pub index_mut-part-requires : goal.index_mut-part-requires
index_mut-part-requires g c =
    let parts = c.self.inside.slots.items in
    let k = c.in-Some.quiet.slot in
    let first = subst (λ (ps : List Splice). IsFirstQuiet c.args.now ps c.in-Some.quiet) c.deref-2.ensures.value c.in-Some.ensures in
    let p : Splice = first.part in
    let w = slice_get_within parts k p first.at in
    omega (arith, w, c.self.inside.slots.ok.0)

pub give_way-requires-clause-open_yet : goal.give_way-requires-clause-open_yet
give_way-requires-clause-open_yet g c =
    let parts = c.self.inside.slots.items in
    let k = c.in-Some.quiet.slot in
    let first = subst (λ (ps : List Splice). IsFirstQuiet c.args.now ps c.in-Some.quiet) c.deref-2.ensures.value c.in-Some.ensures in
    let p : Splice = first.part in
    let open_yet = first_open c.args.now parts c.in-Some.quiet first in
    let read : c.index_mut-part.result.now ≡ p = read_here parts k p c.index_mut-part.result.now first.at c.index_mut-part.ensures.value in
    ap is_open read ∙ open_yet

pub follow-requires-clause-some : goal.follow-requires-clause-some
follow-requires-clause-some g c =
    let parts = c.self.inside.slots.items in
    let k = c.in-Some.quiet.slot in
    let first = subst (λ (ps : List Splice). IsFirstQuiet c.args.now ps c.in-Some.quiet) c.deref-2.ensures.value c.in-Some.ensures in
    let p : Splice = first.part in
    let open_yet = first_open c.args.now parts c.in-Some.quiet first in
    let read : c.index_mut-part.result.now ≡ p = read_here parts k p c.index_mut-part.result.now first.at c.index_mut-part.ensures.value in
    λ empty. placed p open_yet (sym (c.of-before.ensures.place ∙ ap (λ (x : Splice). x.place) read) ∙ empty)

pub follow-requires-clause-rows : goal.follow-requires-clause-rows
follow-requires-clause-rows g c =
    let parts = c.self.inside.slots.items in
    let k = c.in-Some.quiet.slot in
    let q : Splice = c.give_way.new.self in
    let way = gave c.args.now parts c.in-Some.quiet c.index_mut-part.result.now q c.of-before.result.place c.of-before.result.is_open
    (subst (λ (ps : List Splice). IsFirstQuiet c.args.now ps c.in-Some.quiet) c.deref-2.ensures.value c.in-Some.ensures)
    c.index_mut-part.ensures.value c.give_way.ensures.stays.same c.of-before.ensures.place c.of-before.ensures.open in
    let p : Splice = way.first.part in
    (parts, p, way.first.at, way.place_is, way.open_is, way.moves, c.self.invariant.0)

pub invariant_of-self : goal.invariant_of-self
invariant_of-self g c =
    let parts = c.self.inside.slots.items in
    let k = c.in-Some.quiet.slot in
    let q : Splice = c.give_way.new.self in
    let way = gave c.args.now parts c.in-Some.quiet c.index_mut-part.result.now q c.of-before.result.place c.of-before.result.is_open
    (subst (λ (ps : List Splice). IsFirstQuiet c.args.now ps c.in-Some.quiet) c.deref-2.ensures.value c.in-Some.ensures)
    c.index_mut-part.ensures.value c.give_way.ensures.stays.same c.of-before.ensures.place c.of-before.ensures.open in
    let p : Splice = way.first.part in (
      c.follow.ensures.rows parts p way.first.at way.place_is way.open_is way.moves c.self.invariant.0,
      c.follow.ensures.room ∙ c.self.invariant.1 ∙ sym (length-set parts k q),
      ours_as_old c.self.inside.sizes.ring c.self.inside.sizes.mru c.self.inside.sizes.vhost.0 parts c.self.invariant.2 k p way.first.at q (placed p way.open_yet) way.as_old,
      served_same c.self.inside.turn c.self.inside.served.items parts c.self.invariant.3 k p way.first.at q (placed p way.open_yet)
          (ap (λ x. x.written) c.give_way.ensures.stays.up ∙ ap (λ (x : Splice). x.up.written) way.read_is) (ap octets_read c.give_way.ensures.stays.down ∙ ap (λ (x : Splice). octets_read x.down) way.read_is),
      c.self.invariant.4,
      c.self.invariant.5,
    )

pub returns-clause-makes : goal.returns-clause-makes
returns-clause-makes g c =
    let parts = c.self.inside.slots.items in
    let k = c.in-Some.quiet.slot in
    let q : Splice = c.give_way.new.self in
    let way = gave c.args.now parts c.in-Some.quiet c.index_mut-part.result.now q c.of-before.result.place c.of-before.result.is_open
    (subst (λ (ps : List Splice). IsFirstQuiet c.args.now ps c.in-Some.quiet) c.deref-2.ensures.value c.in-Some.ensures)
    c.index_mut-part.ensures.value c.give_way.ensures.stays.same c.of-before.ensures.place c.of-before.ensures.open in
    let p : Splice = way.first.part in
    let i = c.self.inside in
    let table = i.rows.table in
    let view = c.self.view_is in
    let unowing = sym (ap (list_any (λ (p : Splice). owes p)) c.deref.ensures.value) ∙ sym c.one_owes.ensures ∙ c.if-one_owes.false in
    let slot = slot_raw table parts c.self.invariant.0.slots_are k p way.first.at in
    let has = has_tuple false table k p q way.moves (placed p way.open_yet) slot in
    let table_then = c.follow.ensures.table (ends_of p.face) has ∙ table_is way.place_is false q.place k (ends_of p.face) table in
    let follows : (config : Config) (story : Story) (directly ended known : Bool) → may_give_way c.args.now story ≡ true → follows_reset directly story ≡ false
    → Following config c.args.now p story → Following config c.args.now q (At c.args.now (Closes directly ended known) ∷ story) =
    λ config story directly ended known may calm here. c.give_way.ensures.follows (flow_settings config) story c.args.now directly ended known (omega arith) may calm
    (subst (λ (x : Splice). Following config c.args.now x story) (sym way.read_is) here) in
    let new : Kept = record {
      flows = flows_of c.follow.new.self.table (set parts k q) i.opened;
      owing = c.follow.new.self.owing;
      served = i.served.items;
      ring = i.sizes.ring;
      mtu = i.sizes.mtu;
      mru = i.sizes.mru;
      congestion = i.sizes.congestion;
      vhost = i.sizes.vhost.0;
      turn = i.turn;
    } in
    makes_as _ _ _ _ c.give_way.ensures.makes
    (λ made is config past on crowded between.
    let number : c.index_mut-part.result.now.face.number ≡ p.face.number = ap (λ (x : Splice). x.face.number) way.read_is in
    subst (λ (m : List Entry). Between config c.args.now false None new (m ++ past) × Leaves config past m × (agenda (m ++ past) ≡ agenda past)) (sym (is ∙ ap (λ n. Close n ∷ []) number))
    (given config c.args.now c.requires.now table parts i.opened c.args.self.now (sym (ap (λ (s : Kept). s.flows) view)) past on crowded between unowing c.self.invariant.0.slots_are
    c.self.invariant.0.kept c.in-Some.quiet way.first q new (flows_as table_then (set parts k q) i.opened) (settings_as view refl) way.as_old (follows config)))

pub returns-clause-stays : goal.returns-clause-stays
returns-clause-stays g c =
    let parts = c.self.inside.slots.items in
    let k = c.in-Some.quiet.slot in
    let first = subst (λ (ps : List Splice). IsFirstQuiet c.args.now ps c.in-Some.quiet) c.deref-2.ensures.value c.in-Some.ensures in
    let p : Splice = first.part in
    let open_yet = first_open c.args.now parts c.in-Some.quiet first in
    let read : c.index_mut-part.result.now ≡ p = read_here parts k p c.index_mut-part.result.now first.at c.index_mut-part.ensures.value in
    stays_set c.args.self.now _ parts k p c.give_way.new.self (ap (λ (s : Kept). s.flows.slots) c.self.view_is) first.at (placed p open_yet)
    (c.give_way.ensures.stays.same.face ∙ ap (λ (x : Splice). x.face) read) refl
    (ap (λ (s : Kept). s.flows.opened) c.self.view_is)
