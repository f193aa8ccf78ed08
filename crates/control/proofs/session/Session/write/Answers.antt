use Rattle.std.proofs.Common.{◌≡◌, true, false, take, drop, sym, ◌∙◌, ap, subst}
use Rattle.world_face.specs.Journal.{TcpWrite, count_of}
use Rattle.world_face.specs.Tells.{Answers}
use Rattle.rules_control.specs.Talk.{Talk, fails, hung_up, most_at_once, with_left}
use Rattle.control.proofs.Talking.{closes, failed, goes_on, written}
use Rattle.control.proofs.session.Session.write.Goals as goal

pub returns-then-is_failed : goal.returns-then-is_failed
returns-then-is_failed g c =
    let answer = c.write-answer.result in
    let now = c.args.self.now in
    let last : fails answer ≡ true = sym c.is_failed.ensures ∙ c.if-is_failed.true in
    let call = subst (λ (t : Talk). Answers (g.W.World.tells c.args.world.now) (g.W.World.tells c.write-answer.new.world) (TcpWrite c.args.connection (take most_at_once t.left) answer))
    c.self.view_is c.write-answer.ensures.call in (
      answer,
      closes _ _ _ _ c.args.connection _ last call c.hang_up.ensures.call,
      c.hang_up.ensures.talk ∙ ap hung_up c.self.view_is ∙ sym (failed answer now last),
    )

pub returns-else-is_failed : goal.returns-else-is_failed
returns-else-is_failed g c =
    let answer = c.write-answer.result in
    let now = c.args.self.now in
    let inside = c.self.inside in
    let last : fails answer ≡ false = sym c.is_failed.ensures ∙ c.if-is_failed.false in
    let call = subst (λ (t : Talk). Answers (g.W.World.tells c.args.world.now) (g.W.World.tells c.write-answer.new.world) (TcpWrite c.args.connection (take most_at_once t.left) answer))
    c.self.view_is c.write-answer.ensures.call in (
      answer,
      goes_on _ _ _ c.args.connection _ last call,
      ap (λ l. with_left l (record { listening = inside.listening; peer = inside.peer; had = inside.had; kept = inside.line; left = l })) c.write-answer.ensures.left
          ∙ ap (λ (t : Talk). with_left (drop (count_of answer) t.left) t) c.self.view_is
          ∙ written answer now last,
    )
