use Rattle.std.proofs.Common.{◌≡◌, ℕ, Bool, true, false, List, [], ◌∷◌, ◌++◌, take, refl, ◌∙◌, ap}
use Rattle.std.specs.List.{list_any}
use Rattle.world_face.specs.Journal.{TcpWrite}
use Rattle.world_face.specs.declared.Io.{Io}
use Rattle.rules_control.specs.Talk.{Talk, closed_if, fails, most_at_once}
use Rattle.control.proofs.Apartness.{is_wait}
use Rattle.control_loop.proofs.Below.{called}
use Rattle.control_loop.proofs.control_server.ControlServer.write.Goals as goal

none_waits : (last : Bool) (socket : ℕ) (octets : List ℕ) (answer : Io) → list_any is_wait (closed_if last socket ++ (TcpWrite socket octets answer ∷ [])) ≡ false
none_waits true socket octets answer = refl
none_waits false socket octets answer = refl

pub returns : goal.returns
returns g c =
    let call = c.write.ensures in
    let front = take most_at_once c.args.self.now.session.left in (
      call.0,
      called g.W.World.tells c.args.world.now c.begin.new.self c.write.new.world c.begin-2.new.self (λ made. made ≡ closed_if (fails call.0) c.args.connection ++ (TcpWrite c.args.connection front call.0 ∷ []))
          c.begin.ensures.begun c.begin-2.ensures.begun call.1 (λ seen is. ap (list_any is_wait) is ∙ none_waits (fails call.0) c.args.connection front call.0) c.begin-2.ensures.passed,
      ap (λ (t : Talk). record c.args.self.now { session = t }) call.2,
    )
