use Rattle.std.proofs.Common.{sym, ◌∙◌, ap, subst}
use Rattle.world_face.specs.declared.Made.{Made}
use Rattle.world_face.specs.Journal.{LinkOpen, place_of}
use Rattle.world_face.specs.Tells.{Answers}
use Rattle.replay.specs.Last.{made_of}
use Rattle.replay.specs.Script.{script_tells}
use Rattle.replay.proofs.Telling.{none_last}
use Rattle.replay.proofs.world.ScriptWorldWorld.link_open.Goals as goal

pub returns-clause-answers : goal.returns-clause-answers
returns-clause-answers c =
    subst (λ (a : Made). Answers (script_tells c.args.self.now) (script_tells c.follow_open.new.self) (LinkOpen (place_of c.args.at.now) a))
    (sym (c.made.ensures ∙ ap made_of c.last.ensures)) c.follow_open.ensures

pub returns-clause-ceased : goal.returns-clause-ceased
returns-clause-ceased c dead = c.made.ensures ∙ ap made_of (c.last.ensures ∙ none_last c.follow_open.new.self dead)
