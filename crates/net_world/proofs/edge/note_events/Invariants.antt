use Rattle.std.proofs.Common.{◌≡◌}
use Rattle.guest_link.specs.Passing.{passing_untold}
use Rattle.net_world.proofs.edge.note_events.Given as goal

abbrev pub invariant-loop-event : goal.invariant-loop-event
invariant-loop-event l = record {
  passing : passing_untold l.link ≡ passing_untold l.fn.link;
}
