use Rattle.std.proofs.Common.{◌≡◌, ◌≤◌, []}
use Rattle.guest_link.specs.Passing.{Passes, passing_untold}
use Rattle.net_world.proofs.edge.Edge.ask_until_ready.Given as goal

abbrev pub invariant-loop : goal.invariant-loop
invariant-loop g l = record {
  capacity : l.ready.capacity ≡ l.fn.ready.capacity;
  moment : l.fn.self.clock.moment ≤ l.self.clock.moment;
  passes : Passes [] [] (passing_untold l.fn.self.link) (passing_untold l.self.link);
}
