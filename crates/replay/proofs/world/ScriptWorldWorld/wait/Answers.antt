use Rattle.std.proofs.Common.{List, length, sym, ◌∙◌, ap, subst, arith}
use Rattle.poll_list.specs.declared.Want.{Want}
use Rattle.world_face.specs.declared.Waited.{Waited}
use Rattle.world_face.specs.Journal.{Wait}
use Rattle.world_face.specs.Tells.{Answers}
use Rattle.replay.specs.Last.{last_of, ready_of, waited_of}
use Rattle.replay.specs.Script.{script_tells}
use Rattle.replay.proofs.Telling.{none_last, wait_fits}
use Rattle.replay.proofs.world.ScriptWorldWorld.wait.Goals as goal

pub list-requires : goal.list-requires
list-requires c =
    let last = last_of c.follow.new.self in
    let few = wait_fits c.items-items.result.now (waited_of last) (ready_of last) c.follow.ensures.allowed.0 in
    let size = ap length (c.reported.ensures ∙ ap ready_of c.last-line.ensures) in
    omega (arith, few, size, c.requires.room)

pub returns-clause-answers : goal.returns-clause-answers
returns-clause-answers c =
    let wants = c.items-items.result.now in
    let last = last_of c.follow.new.self in
    let listed = subst (λ (r : List Want). Answers (script_tells c.args.self.now) (script_tells c.follow.new.self) (Wait wants c.args.timeout (waited_of last) r))
    (sym (c.list.ensures.items ∙ c.reported.ensures ∙ ap ready_of c.last-line.ensures)) c.follow.ensures in
    let said = subst (λ (a : Waited). Answers (script_tells c.args.self.now) (script_tells c.follow.new.self) (Wait wants c.args.timeout a c.list.new.into.items))
    (sym (c.waited.ensures ∙ ap waited_of c.last-line.ensures)) listed in
    subst (λ (w : List Want). Answers (script_tells c.args.self.now) (script_tells c.follow.new.self) (Wait w c.args.timeout c.waited.result c.list.new.into.items)) c.items-items.ensures said

pub returns-clause-ceased : goal.returns-clause-ceased
returns-clause-ceased c dead = c.waited.ensures ∙ ap waited_of (c.last-line.ensures ∙ none_last c.follow.new.self dead)
