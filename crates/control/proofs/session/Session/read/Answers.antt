use Rattle.std.proofs.Common.{◌≡◌, ◌++◌, true, false, cond, sym, ◌∙◌, ap, subst}
use Rattle.world_face.specs.Journal.{TcpRead}
use Rattle.world_face.specs.Tells.{Answers}
use Rattle.rules_control.specs.Talk.{Talk, free, hung_up, is_last, with_kept}
use Rattle.control.proofs.Talking.{closes, goes_on}
use Rattle.control.proofs.session.Session.read.Goals as goal

pub returns-then-ends : goal.returns-then-ends
returns-then-ends g c =
    let answer = c.read-answer.result in
    let read = c.read-answer.ensures in
    let now = c.args.self.now in
    let kept = ap (λ (t : Talk). t.kept) c.self.view_is in
    let last : is_last answer (now.kept ++ read.0) ≡ true = ap (λ l. is_last answer (l ++ read.0)) (sym kept) ∙ ap (is_last answer) (sym read.2) ∙ sym c.ends.ensures ∙ c.if-ends.true in
    let call = subst (λ l. Answers (g.W.World.tells c.args.world.now) (g.W.World.tells c.read-answer.new.world) (TcpRead c.args.connection (free l) answer read.0)) kept read.1 in (
      answer,
      read.0,
      closes _ _ _ _ c.args.connection _ last call c.hang_up.ensures.call,
      c.hang_up.ensures.talk ∙ ap hung_up c.self.view_is ∙ sym (ap (λ b. cond b (hung_up now) (with_kept (now.kept ++ read.0) now)) last),
    )

pub returns-else-ends : goal.returns-else-ends
returns-else-ends g c =
    let answer = c.read-answer.result in
    let read = c.read-answer.ensures in
    let now = c.args.self.now in
    let inside = c.self.inside in
    let kept = ap (λ (t : Talk). t.kept) c.self.view_is in
    let last : is_last answer (now.kept ++ read.0) ≡ false = ap (λ l. is_last answer (l ++ read.0)) (sym kept) ∙ ap (is_last answer) (sym read.2) ∙ sym c.ends.ensures ∙ c.if-ends.false in
    let call = subst (λ l. Answers (g.W.World.tells c.args.world.now) (g.W.World.tells c.read-answer.new.world) (TcpRead c.args.connection (free l) answer read.0)) kept read.1 in (
      answer,
      read.0,
      goes_on _ _ _ c.args.connection _ last call,
      ap (λ l. with_kept l (record { listening = inside.listening; peer = inside.peer; had = inside.had; kept = l; left = inside.reply.left })) read.2
          ∙ ap (λ (t : Talk). with_kept (t.kept ++ read.0) t) c.self.view_is
          ∙ sym (ap (λ b. cond b (hung_up now) (with_kept (now.kept ++ read.0) now)) last),
    )
