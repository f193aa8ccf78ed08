use Rattle.std.proofs.Common.{◌≡◌, ℕ, ◌+◌, ◌*◌, ◌≤◌, false, List, ◌++◌, length}
use Rattle.world_face.specs.Journal.{Entry}
use Rattle.slirp_settings.specs.Addresses.{Config}
use Rattle.spec_flows.specs.Book.{book}
use Rattle.slirp_core.specs.Holds.{after}
use Rattle.serve_loop.specs.Turns.{AttendsNow}
use Rattle.rules_control.specs.Talk.{with_left}
use Rattle.spec_control.specs.ControlServer.{flows_in_use}
use Rattle.spec_control.specs.Replies.{flow_lines}
use Rattle.control_loop.proofs.Listing.{left_after}
use Rattle.control_loop.proofs.control_server.ControlServer.list_flows.Given as goal

abbrev pub invariant-loop-count : goal.invariant-loop-count
invariant-loop-count l = record {
  told : (settings : Config) (count : ℕ) (past : List Entry) → AttendsNow settings (after count) false l.fn.self.service.slirp l.fn.self.service.link past
      → (l.self.session.left ++ flow_lines (left_after l.last (book settings past).flows) ≡ l.fn.self.session.left ++ flow_lines (flows_in_use (book settings past).flows))
      × (l._count + length (left_after l.last (book settings past).flows) ≡ length (flows_in_use (book settings past).flows));
  few : length l.self.session.left ≤ 1792 + l._count * 67;
  talk : l.self.session ≡ with_left l.self.session.left l.fn.self.session;
  others : l.self ≡ record l.fn.self { session = l.self.session };
}
