use Rattle.std.proofs.Common.{◌≡◌, ℕ, None, Some, List, ◌++◌, length, ◌<◌, refl, sym, ◌∙◌, ap, subst, arith}
use Rattle.world_face.specs.Journal.{Entry}
use Rattle.world_face.proofs.Telling.{makes_as, makes_then}
use Rattle.idle_sockets.proofs.Mapping.{length_mapped}
use Rattle.idle_sockets.proofs.Yielding.{of_room}
use Rattle.rules_udp.specs.Associations.{most_associations, socket_of}
use Rattle.udp_assoc.specs.Kept.{as_association, associations}
use Rattle.udp_assoc.specs.Relays.{BySocket, ByNewSocket, OpensFor}
use Rattle.udp_assoc.specs.Sending.{outbound_of}
use Rattle.udp_assoc.specs.State.{AssocsState}
use Rattle.rules_udp.specs.declared.Association.{Association}
use Rattle.udp_assoc.proofs.Below.{AreBelow, below_without}
use Rattle.udp_assoc.proofs.Keeping.{calls_are, left, port_is, room_only}
use Rattle.udp_assoc.proofs.Yielding.{still_none}
use Rattle.udp_assoc.proofs.sockets.Assocs.relay.Goals as goal

pub returns-in-Some-clause-relays : goal.returns-in-Some-clause-relays
returns-in-Some-clause-relays g c =
    let same = ap (λ (s : AssocsState). s.list) c.self.view_is in
    let found = port_is c.args.datagram.now.from c.self.inside.list c.self.invariant c.args.self.now.list same (Some c.in-Some.socket) c.in-Some.ensures in
    let list = ap (λ (s : AssocsState). s.list) c.send_on.ensures.list in
    makes_as _ _ _ _ c.send_on.ensures.sends (λ made sends. BySocket c.in-Some.socket refl found sends list refl)

pub invariant_of-self : goal.invariant_of-self
invariant_of-self g c = room_only c.self.inside.list c.make_room.new.self c.self.invariant c.make_room.ensures.list

pub open_for-requires-clause-above : goal.open_for-requires-clause-above
open_for-requires-clause-above g c =
    let bound = c.args.number.now in
    let list = c.args.self.now.list in
    let rest = left c.self.inside.list c.make_room.new.self list (ap (λ (s : AssocsState). s.list) c.self.view_is) c.make_room.ensures.list in
    subst (AreBelow bound) (sym rest) (of_room (λ (a : Association). a.number) (AreBelow bound) list c.requires.above (λ n. below_without bound n list c.requires.above))

pub open_for-requires-clause-room : goal.open_for-requires-clause-room
open_for-requires-clause-room g c = let long = length_mapped as_association c.make_room.new.self in omega (arith, long, c.make_room.ensures.room)

pub open_for-requires-clause-fresh : goal.open_for-requires-clause-fresh
open_for-requires-clause-fresh g c =
    let guest = c.args.datagram.now.from in
    let list = c.args.self.now.list in
    let same = ap (λ (s : AssocsState). s.list) c.self.view_is in
    let none = port_is guest c.self.inside.list c.self.invariant list same None c.in-None.ensures in
    ap (socket_of guest) (left c.self.inside.list c.make_room.new.self list same c.make_room.ensures.list)
    ∙ of_room (λ (a : Association). a.number) (λ (l : List Association). socket_of guest l ≡ None) list none (λ n. still_none guest n list none)

pub returns-in-None-clause-relays : goal.returns-in-None-clause-relays
returns-in-None-clause-relays g c =
    let new = c.make_room.new.self in
    let list = c.args.self.now.list in
    let same = ap (λ (s : AssocsState). s.list) c.self.view_is in
    let bind = ap (λ (s : AssocsState). s.bind) c.self.view_is in
    let d = outbound_of c.args.datagram.now in
    let none = port_is d.from c.self.inside.list c.self.invariant list same None c.in-None.ensures in
    let rest = left c.self.inside.list new list same c.make_room.ensures.list in
    let long = length_mapped as_association new in
    let few : length (associations new) < most_associations = omega (arith, long, c.make_room.ensures.room) in
    makes_then _ _ _ _ _ _ c.make_room.ensures.calls c.open_for.ensures.opens
    (λ first second room opens. ByNewSocket second refl none
    (subst (λ (l : List Association). length l < most_associations) rest few)
    (subst (λ (l : List Association). OpensFor c.args.self.now.bind d c.args.now c.args.number.now l c.open_for.new.self.list c.open_for.result second) rest
    (subst (λ (b : ℕ). OpensFor b d c.args.now c.args.number.now (associations new) c.open_for.new.self.list c.open_for.result second) bind opens))
    (ap (λ (m : List Entry). second ++ m) (room ∙ calls_are c.self.inside.list list same)) c.open_for.ensures.next)
