use Rattle.std.proofs.Common.{sym, ◌∙◌, ap, subst}
use Rattle.world_face.specs.Journal.{AtPath, CallLinkOpen, Place, place_of}
use Rattle.world_face.specs.Tells.{Answers}
use Rattle.replay.specs.Last.{answer_to}
use Rattle.replay.specs.Script.{script_tells}
use Rattle.replay.proofs.world.ScriptWorld.follow_open.Goals as goal

pub returns-in-Unix : goal.returns-in-Unix
returns-in-Unix c =
    let is = ap AtPath (c.as_bytes.ensures.value ∙ c.as_str.ensures.value) ∙ sym (ap place_of c.in-Unix.is) in
    subst (λ (at : Place). Answers (script_tells c.args.self.now) (script_tells c.follow.new.self) (answer_to c.follow.new.self (CallLinkOpen at))) is c.follow.ensures

pub returns-in-Tcp : goal.returns-in-Tcp
returns-in-Tcp c = subst (λ (at : Place). Answers (script_tells c.args.self.now) (script_tells c.follow-in-Tcp.new.self) (answer_to c.follow-in-Tcp.new.self (CallLinkOpen at)))
    (sym (ap place_of c.in-Tcp.is)) c.follow-in-Tcp.ensures
