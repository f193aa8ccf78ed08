use Rattle.std.proofs.Common.{◌≡◌, ◌++◌, ◌∙◌, ap}
use Rattle.world_face.proofs.Telling.{makes_then}
use Rattle.rules_control.specs.Talk.{Talk, all_closed, closed_if, listener, peer_closed}
use Rattle.control.proofs.session.Session.close_all.Goals as goal

pub returns-clause-calls : goal.returns-clause-calls
returns-clause-calls g c =
    makes_then _ _ _ _ _ (λ made. made ≡ all_closed c.args.self.now) c.stop_listening.ensures.calls c.leave.ensures.calls
    (λ first second one two. ap (λ l. l ++ first) two ∙ ap (λ l. peer_closed c.stop_listening.new.self.peer ++ l) one
    ∙ ap (λ (t : Talk). peer_closed t.peer ++ closed_if c.args.self.now.listening listener) c.stop_listening.ensures.talk)
