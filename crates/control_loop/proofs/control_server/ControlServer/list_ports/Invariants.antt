use Rattle.std.proofs.Common.{◌≡◌, ◌*◌, ◌<◌, ◌≤◌, length, take}
use Rattle.rules_control.specs.Talk.{with_left}
use Rattle.spec_control.specs.Replies.{forward_lines}
use Rattle.control_loop.proofs.control_server.ControlServer.list_ports.Given as goal

abbrev pub invariant-loop-place : goal.invariant-loop-place
invariant-loop-place l = record {
  told : l.self ≡ record l.fn.self { session = with_left (forward_lines (take l.place l.fn.self.service.slirp.forwards)) l.fn.self.session };
  few : length l.self.session.left ≤ l.place * 56;
  ports : 0 < l.place → length l.fn.self.service.slirp.forwards ≤ 32;
}
