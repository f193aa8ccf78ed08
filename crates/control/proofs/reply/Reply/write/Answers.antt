use Rattle.std.proofs.Common.{◌≡◌, ◌+◌, ◌-◌, ◌≤◌, length, take, drop, min, subst, ◌∙◌, ap, arith}
use Rattle.world_face.specs.Journal.{TcpWrite, count_of}
use Rattle.world_face.specs.Tells.{Answers}
use Rattle.rules_control.specs.Talk.{Pending, most_at_once}
use Rattle.control.proofs.Talking.{write_most}
use Rattle.control.proofs.Windows.{length_window, taken}
use Rattle.ordered_rows.proofs.Windows.{window, window_past}
use Rattle.control.proofs.reply.Reply.write.Goals as goal

pub returns-clause-left : goal.returns-clause-left
returns-clause-left g c =
    let inside = c.self.inside in
    let answer = c.tcp_write-answer.result in
    let left_is = ap (λ (p : Pending). p.left) c.self.view_is in
    let size = length_window inside.from inside.to inside.octets.items c.self.invariant.0 (omega (arith, c.self.invariant.1, c.self.invariant.2)) in
    let most = write_most _ answer c.tcp_write-answer.ensures.allowed.0 in
    let fits : c.count.result ≤ inside.to - inside.from = omega (arith, most, size, c.count.ensures, c.min-offered.ensures, ap length left_is, ap length c.left.ensures) in
    window_past inside.from inside.to c.count.result inside.octets.items fits
    ∙ ap (λ n. drop n (window inside.from inside.to inside.octets.items)) c.count.ensures ∙ ap (drop (count_of answer)) left_is

pub returns-clause-call : goal.returns-clause-call
returns-clause-call g c =
    let inside = c.self.inside in
    let answer = c.tcp_write-answer.result in
    let left_is = ap (λ (p : Pending). p.left) c.self.view_is in
    let size = length_window inside.from inside.to inside.octets.items c.self.invariant.0 (omega (arith, c.self.invariant.1, c.self.invariant.2)) in
    let offered : c.min-offered.result ≡ min (inside.to - inside.from) most_at_once = omega (arith, size, c.min-offered.ensures, ap length left_is, ap length c.left.ensures) in
    let exact : inside.from + c.min-offered.result - inside.from ≡ c.min-offered.result = omega arith in
    subst (λ l. Answers (g.W.World.tells c.args.world.now) (g.W.World.tells c.tcp_write-answer.new.self) (TcpWrite c.args.connection l answer))
    (ap (λ l. take (inside.from + c.min-offered.result - inside.from) (drop inside.from l)) c.deref.ensures.value
    ∙ ap (λ n. take n (drop inside.from inside.octets.items)) (exact ∙ offered)
    ∙ taken (inside.to - inside.from) most_at_once (drop inside.from inside.octets.items)
    ∙ ap (take most_at_once) left_is) c.tcp_write-answer.ensures
