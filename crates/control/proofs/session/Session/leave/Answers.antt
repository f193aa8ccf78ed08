use Rattle.std.proofs.Common.{◌≡◌, Some, sym, ◌∙◌, ap}
use Rattle.world_face.specs.Journal.{Close}
use Rattle.world_face.proofs.Telling.{makes_one}
use Rattle.rules_control.specs.Talk.{Talk, peer_closed}
use Rattle.control.proofs.session.Session.leave.Goals as goal

pub returns-in-Some-clause-calls : goal.returns-in-Some-clause-calls
returns-in-Some-clause-calls g c =
    let peer : c.args.self.now.peer ≡ Some c.in-Some.connection = sym (ap (λ (t : Talk). t.peer) c.self.view_is) ∙ c.in-Some.is in
    makes_one _ _ (Close c.in-Some.connection) _ c.hang_up.ensures.call (λ allowed. sym (ap peer_closed peer))
