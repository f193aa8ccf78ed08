use Rattle.std.proofs.Common.{sym, ◌∙◌, ap, subst}
use Rattle.world_face.specs.declared.Joined.{Joined}
use Rattle.world_face.specs.Journal.{Connected}
use Rattle.world_face.specs.Tells.{Answers}
use Rattle.replay.specs.Last.{joined_of}
use Rattle.replay.specs.Script.{script_tells}
use Rattle.replay.proofs.Telling.{none_last}
use Rattle.replay.proofs.world.ScriptWorldWorld.connected.Goals as goal

pub returns-clause-answers : goal.returns-clause-answers
returns-clause-answers c =
    subst (λ (a : Joined). Answers (script_tells c.args.self.now) (script_tells c.follow.new.self) (Connected c.args.c a)) (sym (c.joined.ensures ∙ ap joined_of c.last.ensures)) c.follow.ensures

pub returns-clause-ceased : goal.returns-clause-ceased
returns-clause-ceased c dead = c.joined.ensures ∙ ap joined_of (c.last.ensures ∙ none_last c.follow.new.self dead)
