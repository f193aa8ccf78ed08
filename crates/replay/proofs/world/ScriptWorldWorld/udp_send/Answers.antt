use Rattle.std.proofs.Common.{sym, ◌∙◌, ap, subst}
use Rattle.world_face.specs.declared.Sent.{Sent}
use Rattle.world_face.specs.Journal.{UdpSend}
use Rattle.world_face.specs.Tells.{Answers}
use Rattle.replay.specs.Last.{sent_of}
use Rattle.replay.specs.Script.{script_tells}
use Rattle.replay.proofs.Telling.{none_last}
use Rattle.replay.proofs.world.ScriptWorldWorld.udp_send.Goals as goal

pub returns-clause-answers : goal.returns-clause-answers
returns-clause-answers c =
    subst (λ (a : Sent). Answers (script_tells c.args.self.now) (script_tells c.follow.new.self) (UdpSend c.args.s c.args.to c.args.from.now a))
    (sym (c.sent.ensures ∙ ap sent_of c.last.ensures)) c.follow.ensures

pub returns-clause-ceased : goal.returns-clause-ceased
returns-clause-ceased c dead = c.sent.ensures ∙ ap sent_of (c.last.ensures ∙ none_last c.follow.new.self dead)
