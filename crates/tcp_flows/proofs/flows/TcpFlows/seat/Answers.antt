use Rattle.std.proofs.Common.{refl, ◌≡◌, ◌+◌, ◌-◌, ◌<◌, ◌≤◌, ℕ, List, [], length, map, set, Some, arith, ap, sym, ◌∙◌, subst}
use Rattle.std.proofs.lemmas.List.{length-map, length-set, map-set}
use Rattle.std.proofs.lemmas.Option.{slice_get_within}
use Rattle.sock_buffers.specs.Downward.{downward}
use Rattle.sock_buffers.specs.Upward.{empty}
use Rattle.tcp_connection.specs.Connection.{HasBuffers}
use Rattle.tcp_transmit.specs.Transmission.{octets_read}
use Rattle.flow_table.specs.Slots.{AreKept, MayBeTaken, NoneHas, with_slot}
use Rattle.flow_table.specs.declared.Slot.{Slot}
use Rattle.flow_table.specs.declared.Slot.TheVariants.{InUse as SlotInUse}
use Rattle.spec_flows.specs.Laws.{flow_settings}
use Rattle.sim_flows.specs.Seats.{in_use_slots}
use Rattle.flow_splice.specs.Splice.{Splice, is_open}
use Rattle.sim_flows.specs.Core.{ends_of, number_of}
use Rattle.tcp_flows.specs.Kept.{IsFor, Kept, part_at, part_of, slot_of}
use Rattle.tcp_flows.specs.Rows.{count, is_used}
use Rattle.tcp_flows.specs.declared.rows.Used.{Used}
use Rattle.tcp_flows.proofs.Joining.{begun_ours, begun_served, joins_are, none_taken, taken_unused}
use Rattle.tcp_flows.proofs.Keeping.{flows_as, read_here, seen_open}
use Rattle.tcp_flows.proofs.Looking.{used_counted}
use Rattle.tcp_flows.proofs.Staying.{as_long, begun_numbers}
use Rattle.tcp_flows.proofs.flows.TcpFlows.seat.Goals as goal

-- not all slots are in use
roomy : (parts : List Splice) (slots : List Slot) (room : ℕ) → slots ≡ map slot_of parts → room ≡ length parts → in_use_slots slots < length slots → count is_used parts < room
roomy parts slots room are fit some =
    let counted : in_use_slots slots ≡ count is_used parts = ap in_use_slots are ∙ used_counted parts in
    let long : length slots ≡ room = ap (λ (l : List Slot). length l) are ∙ length-map parts slot_of ∙ sym fit in
    omega (arith, some, counted, long)

-- where none can be taken there is no room
pub returns-in_default-clause-seat : goal.returns-in_default-clause-seat
returns-in_default-clause-seat c =
    let room = subst (λ (s : Kept). in_use_slots s.flows.table.slots < length s.flows.table.slots) (sym c.self.view_is) c.requires.room in
    absurd (none_taken c.self.inside.rows.table.slots c.in_default.ensures.free c.in_default.ensures.in_time_wait room)

pub returns-in_default-clause-opened : goal.returns-in_default-clause-opened
returns-in_default-clause-opened c =
    let room = subst (λ (s : Kept). in_use_slots s.flows.table.slots < length s.flows.table.slots) (sym c.self.view_is) c.requires.room in
    absurd (none_taken c.self.inside.rows.table.slots c.in_default.ensures.free c.in_default.ensures.in_time_wait room)

pub index_mut-part-requires : goal.index_mut-part-requires
index_mut-part-requires c =
    let parts = c.self.inside.slots.items in
    let taken = taken_unused c.self.inside.rows.table parts c.self.invariant.0.slots_are c.in-Some.slot c.in-Some.ensures.which in
    let w = slice_get_within parts c.in-Some.slot taken.0 taken.1 in
    omega (arith, w, c.self.inside.slots.ok.0)

pub start-requires-clause-new : goal.start-requires-clause-new
start-requires-clause-new c =
    let parts = c.self.inside.slots.items in
    let taken = taken_unused c.self.inside.rows.table parts c.self.invariant.0.slots_are c.in-Some.slot c.in-Some.ensures.which in
    let is = read_here parts c.in-Some.slot taken.0 c.index_mut-part.result.now taken.1 c.index_mut-part.ensures.value in
    let ours = c.self.invariant.2 c.in-Some.slot taken.0 taken.1 in
    let ring = ap (λ (s : Kept). s.ring) c.self.view_is in
    subst (λ n. HasBuffers c.args.conn (empty n) (downward [] 0 c.index_mut-part.result.now.down.size)) (sym (ap (λ (x : Splice). x.up.size) is ∙ ours.up ∙ ring))
    (subst (λ n. HasBuffers c.args.conn (empty c.args.self.now.ring) (downward [] 0 n)) (sym (ap (λ (x : Splice). x.down.size) is ∙ ours.down ∙ ring)) c.requires.new)

pub start-requires-clause-size : goal.start-requires-clause-size
start-requires-clause-size c =
    let parts = c.self.inside.slots.items in
    let taken = taken_unused c.self.inside.rows.table parts c.self.invariant.0.slots_are c.in-Some.slot c.in-Some.ensures.which in
    let is = read_here parts c.in-Some.slot taken.0 c.index_mut-part.result.now taken.1 c.index_mut-part.ensures.value in
    let ours = c.self.invariant.2 c.in-Some.slot taken.0 taken.1 in
    ap (λ (x : Splice). x.down.size) is ∙ ours.down ∙ sym ours.up ∙ sym (ap (λ (x : Splice). x.up.size) is)

pub begin-requires-clause-rows : goal.begin-requires-clause-rows
begin-requires-clause-rows c =
    let parts = c.self.inside.slots.items in
    let table = c.self.inside.rows.table in
    let begins = c.start.ensures.begins in
    let taken = taken_unused table parts c.self.invariant.0.slots_are c.in-Some.slot c.in-Some.ensures.which in
    let none = subst (λ (s : Kept). NoneHas s.flows.table.slots c.args.ends.now) (sym c.self.view_is) c.requires.none in
    let room = subst (λ (s : Kept). in_use_slots s.flows.table.slots < length s.flows.table.slots) (sym c.self.view_is) c.requires.room in (
      parts,
      taken.0,
      table,
      joins_are table parts c.self.invariant.0.slots_are c.in-Some.slot c.in-Some.ensures.which c.start.new.self c.args.number c.args.ends.now (ap is_open begins)
          (ap number_of begins) (ap (λ (x : Splice). ends_of x.face) begins) none
          (λ k p at open_yet. c.requires.above k p (seen_open parts k p _ (ap (λ (s : Kept). s.flows.slots) c.self.view_is) at open_yet).here),
      roomy parts table.slots c.self.inside.rows.sockets.room c.self.invariant.0.slots_are c.self.invariant.1 room,
      c.self.invariant.0,
    )

pub begin-requires-clause-few : goal.begin-requires-clause-few
begin-requires-clause-few c =
    let room = subst (λ (s : Kept). in_use_slots s.flows.table.slots < length s.flows.table.slots) (sym c.self.view_is) c.requires.room in
    let few = roomy c.self.inside.slots.items c.self.inside.rows.table.slots c.self.inside.rows.sockets.room c.self.invariant.0.slots_are c.self.invariant.1 room in
    let used = ap (λ (u : Used). u.all) c.self.invariant.0.used_are in
    let count_is = c.self.invariant.1 in
    omega (arith, few, used, count_is, c.self.inside.slots.ok.0)

pub invariant_of-self-2 : goal.invariant_of-self-2
invariant_of-self-2 c =
    let parts = c.self.inside.slots.items in
    let table = c.self.inside.rows.table in
    let begins = c.start.ensures.begins in
    let q : Splice = c.start.new.self in
    let taken = taken_unused table parts c.self.invariant.0.slots_are c.in-Some.slot c.in-Some.ensures.which in
    let is = read_here parts c.in-Some.slot taken.0 c.index_mut-part.result.now taken.1 c.index_mut-part.ensures.value in
    let none = subst (λ (s : Kept). NoneHas s.flows.table.slots c.args.ends.now) (sym c.self.view_is) c.requires.none in
    let joins =
    joins_are table parts c.self.invariant.0.slots_are c.in-Some.slot c.in-Some.ensures.which q c.args.number c.args.ends.now (ap is_open begins) (ap number_of begins)
    (ap (λ (x : Splice). ends_of x.face) begins) none
    (λ k p at open_yet. c.requires.above k p (seen_open parts k p _ (ap (λ (s : Kept). s.flows.slots) c.self.view_is) at open_yet).here) in (
      c.begin.ensures.rows parts taken.0 table joins (c.in-Some.ensures.taken ∙ ap (with_slot table c.in-Some.slot) (sym (ap (λ (x : Splice). slot_of x) begins))) c.self.invariant.0,
      c.begin.ensures.room ∙ c.self.invariant.1 ∙ sym (length-set parts c.in-Some.slot q),
      begun_ours c.self.inside.sizes.ring c.self.inside.sizes.mru c.self.inside.sizes.vhost.0 parts c.self.invariant.2 c.in-Some.slot taken.0 q taken.1
          (ap (λ (x : Splice). x.up.size) begins ∙ ap (λ (x : Splice). x.up.size) is) (ap (λ (x : Splice). x.down.size) begins ∙ ap (λ (x : Splice). x.down.size) is)
          (ap (λ (x : Splice). x.mru) begins ∙ ap (λ (x : Splice). x.mru) is)
          (ap (λ (x : Splice). x.face.vhost.0) begins),
      begun_served c.self.inside.turn c.self.inside.served.items parts c.self.invariant.3 c.in-Some.slot taken.0 q taken.1 (ap (λ (x : Splice). x.up.written) begins)
          (ap (λ (x : Splice). octets_read x.down) begins),
      c.self.invariant.4,
      c.self.invariant.5,
    )

pub returns-clause-seat : goal.returns-clause-seat
returns-clause-seat c =
    let parts = c.self.inside.slots.items in
    let table = c.self.inside.rows.table in
    let view = c.self.view_is in
    let begins = c.start.ensures.begins in
    let q : Splice = c.start.new.self in
    let k : ℕ = c.in-Some.slot in
    let opened = c.self.inside.opened in
    let taken = taken_unused table parts c.self.invariant.0.slots_are k c.in-Some.ensures.which in
    let is = read_here parts k taken.0 c.index_mut-part.result.now taken.1 c.index_mut-part.ensures.value in
    let ours = c.self.invariant.2 k taken.0 taken.1 in
    let ring_most = c.self.invariant.4.ring_most in
    record {
      slot = k;
      part = q;
      taken = subst (λ (s : Kept). MayBeTaken s.flows.table k) view c.in-Some.ensures.which;
      kept = subst (λ (s : Kept). AreKept s.flows.table.slots s.flows.table.time_wait_order) view c.self.invariant.0.kept;
      fit = subst (λ (s : Kept). length s.flows.slots ≡ length s.flows.table.slots) view
          (length-map parts part_of ∙ sym (length-map parts slot_of) ∙ sym (ap (λ (l : List Slot). length l) c.self.invariant.0.slots_are));
      number_is = ap number_of begins;
      mac_is = ap (λ (x : Splice). x.mac) begins;
      kind = ap (λ (x : Splice). x.accepted) begins;
      unasked = ap (λ (x : Splice). x.asked) begins;
      seated = flows_as (c.begin.ensures.table ∙ c.in-Some.ensures.taken) (set parts k q) (opened + 1)
          ∙ ap (λ l. record { table = with_slot table k (SlotInUse c.args.ends.now); slots = l; opened = opened + 1 })
          (map-set part_of parts k q ∙ ap (λ x. set (map part_of parts) k (part_at x q)) (ap (λ (x : Splice). x.place) begins))
          ∙ ap (λ (s : Kept). record { table = with_slot s.flows.table k (SlotInUse c.args.ends.now); slots = set s.flows.slots k (Some q); opened = s.flows.opened + 1 }) view;
      connects = λ config syn ours_first most for_it some most_is conn_is.
          let its = subst (IsFor config) (sym view) for_it in
          c.start.ensures.connects (flow_settings config) syn ours_first most refl (subst (λ n. n ≤ 1048576) (sym its.ring) ring_most)
          (its.ring ∙ sym ours.up ∙ sym (ap (λ (x : Splice). x.up.size) is)) (its.mru ∙ sym ours.mru ∙ sym (ap (λ (x : Splice). x.mru) is)) some most_is conn_is;
      accepts = λ config ours_first for_it conn_is.
          let its = subst (IsFor config) (sym view) for_it in
          c.start.ensures.accepts (flow_settings config) ours_first (config.mtu - 40) refl (subst (λ n. n ≤ 1048576) (sym its.ring) ring_most)
          (its.ring ∙ sym ours.up ∙ sym (ap (λ (x : Splice). x.up.size) is)) (its.mru ∙ sym ours.mru ∙ sym (ap (λ (x : Splice). x.mru) is)) refl conn_is;
    }

pub returns-in_default-clause-slots : goal.returns-in_default-clause-slots
returns-in_default-clause-slots c = ap (λ (s : Kept). length s.flows.slots) c.self.view_is

pub returns-in_default-clause-numbers : goal.returns-in_default-clause-numbers
returns-in_default-clause-numbers c k p here =
    let room = subst (λ (s : Kept). in_use_slots s.flows.table.slots < length s.flows.table.slots) (sym c.self.view_is) c.requires.room in
    absurd (none_taken c.self.inside.rows.table.slots c.in_default.ensures.free c.in_default.ensures.in_time_wait room)

pub returns-clause-slots : goal.returns-clause-slots
returns-clause-slots c = as_long c.self.inside.slots.items c.args.self.now.flows.slots (ap (λ (s : Kept). s.flows.slots) c.self.view_is) c.in-Some.slot c.start.new.self

pub returns-clause-numbers : goal.returns-clause-numbers
returns-clause-numbers c =
    let parts = c.self.inside.slots.items in
    let taken = taken_unused c.self.inside.rows.table parts c.self.invariant.0.slots_are c.in-Some.slot c.in-Some.ensures.which in
    begun_numbers c.args.number c.args.self.now.flows.slots parts c.in-Some.slot taken.0 c.start.new.self (ap (λ (s : Kept). s.flows.slots) c.self.view_is) taken.1
    (ap number_of c.start.ensures.begins)
