use Rattle.std.proofs.Common.{[]}
use Rattle.guest_link.specs.Passing.{Passes, passing_untold}
use Rattle.guest_link.proofs.Passing.{passes_on, passes_still}
use Rattle.net_world.proofs.edge.Edge.ask.Goals as goal

pub returns-clause-passes : goal.returns-clause-passes
returns-clause-passes g c =
    let noted : Passes [] [] (passing_untold c.args.self.now.link) (passing_untold c.note_events.new.link) = passes_still _ _ c.note_events.ensures.still in
    let taken : Passes [] [] (passing_untold c.args.self.now.link) (passing_untold c.take_peer.new.self) = passes_on _ _ _ noted c.take_peer.ensures.passes in
    passes_on _ _ _ taken c.flush.ensures.passes
