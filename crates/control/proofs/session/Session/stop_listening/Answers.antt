use Rattle.std.proofs.Common.{◌≡◌, true, sym, ◌∙◌, ap}
use Rattle.world_face.specs.Journal.{Close}
use Rattle.world_face.proofs.Telling.{makes_one}
use Rattle.rules_control.specs.Talk.{Talk, closed_if, listener}
use Rattle.control.proofs.session.Session.stop_listening.Goals as goal

pub returns-then-self-clause-calls : goal.returns-then-self-clause-calls
returns-then-self-clause-calls g c =
    let open_yet : c.args.self.now.listening ≡ true = sym (ap (λ (t : Talk). t.listening) c.self.view_is) ∙ c.if-self.true in
    makes_one _ _ (Close listener) _ c.close.ensures (λ allowed. sym (ap (λ b. closed_if b listener) open_yet))
