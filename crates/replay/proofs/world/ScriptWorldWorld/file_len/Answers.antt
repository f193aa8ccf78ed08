use Rattle.std.proofs.Common.{List, ℕ, sym, ◌∙◌, ap, subst}
use Rattle.world_face.specs.declared.FileSize.{FileSize}
use Rattle.world_face.specs.Journal.{FileLen}
use Rattle.world_face.specs.Tells.{Answers}
use Rattle.replay.specs.Last.{size_of}
use Rattle.replay.specs.Script.{script_tells}
use Rattle.replay.proofs.Telling.{none_last}
use Rattle.replay.proofs.world.ScriptWorldWorld.file_len.Goals as goal

pub returns-clause-answers : goal.returns-clause-answers
returns-clause-answers c =
    let told = subst (λ (a : FileSize). Answers (script_tells c.args.self.now) (script_tells c.follow.new.self) (FileLen c.as_bytes-file.result.now a))
    (sym (c.size.ensures ∙ ap size_of c.last.ensures)) c.follow.ensures in
    subst (λ (n : List ℕ). Answers (script_tells c.args.self.now) (script_tells c.follow.new.self) (FileLen n c.size.result)) c.as_bytes-file.ensures.value told

pub returns-clause-ceased : goal.returns-clause-ceased
returns-clause-ceased c dead = c.size.ensures ∙ ap size_of (c.last.ensures ∙ none_last c.follow.new.self dead)
