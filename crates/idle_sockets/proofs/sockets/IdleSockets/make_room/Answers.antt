use Rattle.std.proofs.Common.{List, length, ◌<◌, sym, ◌∙◌, subst}
use Rattle.world_face.specs.Journal.{Close}
use Rattle.world_face.proofs.Telling.{makes_one}
use Rattle.idle_sockets.specs.Sockets.{most_sockets, number_of}
use Rattle.idle_sockets.specs.declared.IdleSocket.{IdleSocket}
use Rattle.idle_sockets.proofs.Yielding.{few_of_none, fewer_left, gives_way}
use Rattle.idle_sockets.proofs.sockets.IdleSockets.make_room.Goals as goal

pub returns-in-Some-clause-calls : goal.returns-in-Some-clause-calls
returns-in-Some-clause-calls g c =
    let first = gives_way number_of c.args.self.now c.in-Some.oldest c.in-Some.ensures (sym c.is_full.ensures.full ∙ c.if-is_full.true) in
    makes_one _ _ (Close c.in-Some.oldest.number) _ c.close.ensures (λ allowed. sym first.2)

pub returns-in-Some-clause-list : goal.returns-in-Some-clause-list
returns-in-Some-clause-list g c =
    let first = gives_way number_of c.args.self.now c.in-Some.oldest c.in-Some.ensures (sym c.is_full.ensures.full ∙ c.if-is_full.true) in
    c.close-in-Some.ensures ∙ sym first.3

pub returns-in-Some-clause-room : goal.returns-in-Some-clause-room
returns-in-Some-clause-room g c =
    let list = c.args.self.now in
    let first = gives_way number_of list c.in-Some.oldest c.in-Some.ensures (sym c.is_full.ensures.full ∙ c.if-is_full.true) in
    subst (λ (l : List IdleSocket). length l < most_sockets) (sym c.close-in-Some.ensures) (fewer_left number_of list first.0 c.in-Some.oldest first.1 c.is_full.ensures.most)

pub returns-in_default-clause-room : goal.returns-in_default-clause-room
returns-in_default-clause-room g c = few_of_none c.args.self.now c.in_default.ensures
