use Rattle.std.proofs.Common.{[], sym, subst}
use Rattle.host_io.specs.Buffered.{Buffered}
use Rattle.world_face.specs.Journal.{filled}
use Rattle.world_face.specs.declared.Io.{Io}
use Rattle.guest_link.specs.Places.{of_guest}
use Rattle.guest_link.specs.Keeping.{SendsOn}
use Rattle.guest_link.specs.Linking.{Linked}
use Rattle.guest_link.proofs.Keeping.{puts_behind, sends_none}
use Rattle.guest_link.proofs.link.Link.gather.Goals as goal
use Rattle.guest_link.proofs.link.Link.gather.Goals.{then-room-from, else-room-from, then-put, else-put}

pub returns-clause-sends : goal.returns-clause-sends
returns-clause-sends g c =
    let flushed : SendsOn (of_guest g.S.Stream.contents c.self.inside.place) (of_guest g.S.Stream.contents c.if-room-from.self.place)
    c.self.inside.outbox.octets c.if-room-from.self.outbox.octets [] = elim c.if-room-from.branch [
      | then-room-from w ↦ subst (λ (l : Linked g.row.S.Denot). SendsOn (of_guest g.S.Stream.contents c.self.inside.place) (of_guest g.S.Stream.contents l.place)
          c.self.inside.outbox.octets l.outbox.octets []) (sym w.self-is) w.flush.ensures.sends
      | else-room-from w ↦ subst (λ (l : Linked g.row.S.Denot). SendsOn (of_guest g.S.Stream.contents c.self.inside.place) (of_guest g.S.Stream.contents l.place)
          c.self.inside.outbox.octets l.outbox.octets []) (sym w.self-is) (sends_none _ _)
    ] in
    let before : SendsOn (of_guest g.S.Stream.contents c.self.inside.place) (of_guest g.S.Stream.contents c.self-2.inside.place)
    c.self.inside.outbox.octets c.self-2.inside.outbox.octets [] =
    subst (λ (l : Linked g.row.S.Denot). SendsOn (of_guest g.S.Stream.contents c.self.inside.place) (of_guest g.S.Stream.contents l.place)
    c.self.inside.outbox.octets l.outbox.octets []) (sym c.self-2.view_is) flushed in
    let sends : SendsOn (of_guest g.S.Stream.contents c.self.inside.place) (of_guest g.S.Stream.contents c.self-2.inside.place)
    c.self.inside.outbox.octets c.put.new.self.octets (filled c.if-put.result c.args.from.now) = elim c.if-put.branch [
      | then-put w ↦ subst (λ (r : Io). SendsOn (of_guest g.S.Stream.contents c.self.inside.place) (of_guest g.S.Stream.contents c.self-2.inside.place)
          c.self.inside.outbox.octets c.put.new.self.octets (filled r c.args.from.now)) (sym w.result-is) (puts_behind _ _ _ _ _ _ before w.if-put.ensures.put)
      | else-put w ↦ subst (λ (r : Io). SendsOn (of_guest g.S.Stream.contents c.self.inside.place) (of_guest g.S.Stream.contents c.self-2.inside.place)
          c.self.inside.outbox.octets c.put.new.self.octets (filled r c.args.from.now)) (sym w.result-is)
          (subst (λ (b : Buffered). SendsOn (of_guest g.S.Stream.contents c.self.inside.place) (of_guest g.S.Stream.contents c.self-2.inside.place)
          c.self.inside.outbox.octets b.octets []) (sym w.if-put.ensures.unchanged) before)
    ] in
    subst (λ (l : Linked g.row.S.Denot). SendsOn (of_guest g.S.Stream.contents l.place) (of_guest g.S.Stream.contents c.self-2.inside.place)
    l.outbox.octets c.put.new.self.octets (filled c.if-put.result c.args.from.now)) c.self.view_is sends
