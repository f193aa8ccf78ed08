use Rattle.std.proofs.Common.{◌≡◌, ℕ, None, Some, List, ◌++◌, length, ◌<◌, refl, sym, ◌∙◌, ap, subst, arith}
use Rattle.world_face.specs.Journal.{Entry}
use Rattle.world_face.proofs.Telling.{makes_as, makes_then}
use Rattle.idle_sockets.proofs.Mapping.{length_mapped}
use Rattle.idle_sockets.proofs.Yielding.{of_room}
use Rattle.dns_relay.specs.Kept.{as_question, questions}
use Rattle.rules_dns.specs.Questions.{most_questions, socket_of}
use Rattle.dns_relay.specs.Relaying.{Asked, BySocket, ByNewSocket, OpensFor}
use Rattle.dns_relay.specs.State.{RelayState}
use Rattle.rules_dns.specs.declared.Question.{Question}
use Rattle.dns_relay.proofs.Below.{AreBelow, below_without}
use Rattle.dns_relay.proofs.Keeping.{calls_are, left, port_is}
use Rattle.dns_relay.proofs.Yielding.{still_none}
use Rattle.dns_relay.proofs.relay.Relay.query.Goals as goal

pub returns-in-Some-clause-relays : goal.returns-in-Some-clause-relays
returns-in-Some-clause-relays g c =
    let from = c.args.from in
    let same = ap (λ (s : RelayState). s.list) c.self.view_is in
    let found = ap (λ (i : ℕ). socket_of from i c.args.self.now.list) (sym c.ident_in-ident.ensures)
    ∙ port_is from c.ident_in-ident.result c.self.inside.list c.args.self.now.list same (Some c.in-Some.socket) c.in-Some.ensures in
    let list = ap (λ (s : RelayState). s.list) c.send_on.ensures.list in
    makes_as _ _ _ _ c.send_on.ensures.sends (λ made sends. BySocket c.in-Some.socket sends.0 found sends.1 sends.2 list refl)

pub open_for-requires-clause-above : goal.open_for-requires-clause-above
open_for-requires-clause-above g c =
    let bound = c.args.number.now in
    let list = c.args.self.now.list in
    let rest = left c.self.inside.list c.make_room.new.self list (ap (λ (s : RelayState). s.list) c.self.view_is) c.make_room.ensures.list in
    subst (AreBelow bound) (sym rest) (of_room (λ (q : Question). q.number) (AreBelow bound) list c.requires.above (λ n. below_without bound n list c.requires.above))

pub open_for-requires-clause-room : goal.open_for-requires-clause-room
open_for-requires-clause-room g c = let long = length_mapped as_question c.make_room.new.self in omega (arith, long, c.make_room.ensures.room)

pub open_for-requires-clause-fresh : goal.open_for-requires-clause-fresh
open_for-requires-clause-fresh g c =
    let from = c.args.from in
    let ident = c.ident_in-ident.result in
    let list = c.args.self.now.list in
    let same = ap (λ (s : RelayState). s.list) c.self.view_is in
    let none = port_is from ident c.self.inside.list list same None c.in-None.ensures in
    ap (socket_of from ident) (left c.self.inside.list c.make_room.new.self list same c.make_room.ensures.list)
    ∙ of_room (λ (q : Question). q.number) (λ (l : List Question). socket_of from ident l ≡ None) list none (λ n. still_none from ident n list none)

pub returns-in-None-clause-relays : goal.returns-in-None-clause-relays
returns-in-None-clause-relays g c =
    let from = c.args.from in
    let new = c.make_room.new.self in
    let list = c.args.self.now.list in
    let same = ap (λ (s : RelayState). s.list) c.self.view_is in
    let bind = ap (λ (s : RelayState). s.bind) c.self.view_is in
    let d : Asked = record { from = from; mac = c.args.mac; to = c.args.to; body = c.args.body.now } in
    let none = ap (λ (i : ℕ). socket_of from i list) (sym c.ident_in-ident.ensures) ∙ port_is from c.ident_in-ident.result c.self.inside.list list same None c.in-None.ensures in
    let rest = left c.self.inside.list new list same c.make_room.ensures.list in
    let long = length_mapped as_question new in
    let few : length (questions new) < most_questions = omega (arith, long, c.make_room.ensures.room) in
    makes_then _ _ _ _ _ _ c.make_room.ensures.calls c.open_for.ensures.opens
    (λ first second room opens. ByNewSocket second none
    (subst (λ (l : List Question). length l < most_questions) rest few)
    (subst (λ (l : List Question). OpensFor c.args.self.now.bind d c.args.now c.args.number.now l c.open_for.new.self.list c.open_for.result second) rest
    (subst (λ (b : ℕ). OpensFor b d c.args.now c.args.number.now (questions new) c.open_for.new.self.list c.open_for.result second) bind opens))
    (ap (λ (m : List Entry). second ++ m) (room ∙ calls_are c.self.inside.list list same)) c.open_for.ensures.next)

pub returns-in-None-clause-rest : goal.returns-in-None-clause-rest
returns-in-None-clause-rest g c =
    c.open_for.ensures.rest ∙ ap (λ (s : RelayState). let t : RelayState = record s { list = c.open_for.new.self.list } in t) c.self.view_is
