use Rattle.std.proofs.Common.{ℕ, sym, ◌∙◌, ap, subst}
use Rattle.world_face.specs.Journal.{Now}
use Rattle.world_face.specs.Tells.{Answers}
use Rattle.replay.specs.Fitting.{last_moment}
use Rattle.replay.specs.Script.{Script, kept_of, script_tells}
use Rattle.replay.proofs.world.ScriptWorldWorld.now.Goals as goal

pub returns-clause-answers : goal.returns-clause-answers
returns-clause-answers c =
    let is = c.self.invariant.5 ∙ ap (λ (s : Script). last_moment (kept_of s)) c.self.view_is in
    subst (λ (m : ℕ). Answers (script_tells c.args.self.now) (script_tells c.follow.new.self) (Now m)) (sym is) c.follow.ensures

pub returns-clause-last : goal.returns-clause-last
returns-clause-last c = λ dead. c.self.invariant.5 ∙ ap (λ (s : Script). last_moment (kept_of s)) c.self.view_is
