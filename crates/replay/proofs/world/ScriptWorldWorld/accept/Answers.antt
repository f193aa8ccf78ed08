use Rattle.std.proofs.Common.{sym, ◌∙◌, ap, subst}
use Rattle.world_face.specs.declared.Accepted.{Accepted}
use Rattle.world_face.specs.Journal.{Accept}
use Rattle.world_face.specs.Tells.{Answers}
use Rattle.replay.specs.Last.{accepted_of}
use Rattle.replay.specs.Script.{script_tells}
use Rattle.replay.proofs.Telling.{none_last}
use Rattle.replay.proofs.world.ScriptWorldWorld.accept.Goals as goal

pub returns-clause-answers : goal.returns-clause-answers
returns-clause-answers c =
    subst (λ (a : Accepted). Answers (script_tells c.args.self.now) (script_tells c.follow.new.self) (Accept c.args.l c.args.c a))
    (sym (c.accepted.ensures ∙ ap accepted_of c.last.ensures)) c.follow.ensures

pub returns-clause-ceased : goal.returns-clause-ceased
returns-clause-ceased c dead = c.accepted.ensures ∙ ap accepted_of (c.last.ensures ∙ none_last c.follow.new.self dead)
