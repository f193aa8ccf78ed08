use Rattle.std.proofs.Common.{sym, ◌∙◌, ap, subst}
use Rattle.world_face.specs.declared.Io.{Io}
use Rattle.world_face.specs.Journal.{LinkWrite}
use Rattle.world_face.specs.Tells.{Answers}
use Rattle.replay.specs.Last.{io_of}
use Rattle.replay.specs.Script.{script_tells}
use Rattle.replay.proofs.Telling.{none_last}
use Rattle.replay.proofs.world.ScriptWorldWorld.link_write.Goals as goal

pub returns-clause-answers : goal.returns-clause-answers
returns-clause-answers c =
    subst (λ (a : Io). Answers (script_tells c.args.self.now) (script_tells c.follow.new.self) (LinkWrite c.args.from.now a)) (sym (c.io.ensures ∙ ap io_of c.last.ensures)) c.follow.ensures

pub returns-clause-ceased : goal.returns-clause-ceased
returns-clause-ceased c dead = c.io.ensures ∙ ap io_of (c.last.ensures ∙ none_last c.follow.new.self dead)
