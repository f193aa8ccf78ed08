use Rattle.std.proofs.Common.{◌≡◌, [], ◌++◌, List, ℕ, take, take-append-drop, ap, subst, sym, ◌∙◌}
use Rattle.std.proofs.lemmas.List.{append-nil}
use Rattle.std.specs.Io.KnownBytes.{Keeps}
use Rattle.host_io.specs.Buffered.{Buffered}
use Rattle.guest_link.specs.Linking.{Linked}
use Rattle.guest_link.specs.Places.{of_guest}
use Rattle.guest_link.specs.Keeping.{SendsOn}
use Rattle.guest_link.proofs.Keeping.{sends_kept}
use Rattle.guest_link.proofs.link.Link.write_out.Goals as goal

pub returns-in-Err-clause-sends : goal.returns-in-Err-clause-sends
returns-in-Err-clause-sends g c =
    let place : c.write_none.new.self.place ≡ c.drain-written.new.sink = c.write_none.ensures.place in
    let kept : Keeps (of_guest g.S.Stream.contents c.self.inside.place) (of_guest g.S.Stream.contents c.write_none.new.self.place) =
    rw place c.in-Err.ensures.went in
    let waits : c.write_none.new.self.outbox.octets ≡ c.self.inside.outbox.octets =
    ap (λ (b : Buffered). b.octets) c.write_none.ensures.waits ∙ c.settle.ensures.octets ∙ ap (λ (b : Buffered). b.octets) c.in-Err.ensures.unchanged in
    subst (λ (l : Linked g.row.S.Denot). SendsOn (of_guest g.S.Stream.contents l.place) (of_guest g.S.Stream.contents c.write_none.new.self.place)
    l.outbox.octets c.write_none.new.self.outbox.octets []) c.self.view_is (sends_kept _ _ _ _ kept waits)

pub returns-in-Ok-clause-sends : goal.returns-in-Ok-clause-sends
returns-in-Ok-clause-sends g c =
    let sends : SendsOn (of_guest g.S.Stream.contents c.self.inside.place) (of_guest g.S.Stream.contents c.drain-written.new.sink)
    c.self.inside.outbox.octets c.settle.new.self.octets [] = (
      take c.in-Ok.field-0 c.self.inside.outbox.octets,
      c.in-Ok.ensures.went,
      ap (λ (l : List ℕ). take c.in-Ok.field-0 c.self.inside.outbox.octets ++ l) (c.settle.ensures.octets ∙ c.in-Ok.ensures.left)
          ∙ take-append-drop c.in-Ok.field-0 c.self.inside.outbox.octets ∙ sym (append-nil c.self.inside.outbox.octets),
    ) in
    subst (λ (l : Linked g.row.S.Denot). SendsOn (of_guest g.S.Stream.contents l.place) (of_guest g.S.Stream.contents c.drain-written.new.sink)
    l.outbox.octets c.settle.new.self.octets []) c.self.view_is sends
