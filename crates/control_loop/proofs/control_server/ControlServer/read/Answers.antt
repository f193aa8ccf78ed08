use Rattle.std.proofs.Common.{◌≡◌, ℕ, Bool, true, false, List, [], ◌∷◌, ◌++◌, refl, ◌∙◌, ap, subst}
use Rattle.std.specs.List.{list_any}
use Rattle.world_face.specs.Journal.{Allowed, AreAllowed, Entry, TcpRead}
use Rattle.world_face.specs.declared.Io.{Io}
use Rattle.rules_control.specs.Talk.{Talk, closed_if, free, is_last}
use Rattle.control.proofs.Apartness.{is_wait}
use Rattle.control_loop.proofs.Below.{called}
use Rattle.control_loop.proofs.control_server.ControlServer.read.Goals as goal

one_allowed : (last : Bool) (socket : ℕ) (e : Entry) → AreAllowed (closed_if last socket ++ (e ∷ [])) → Allowed e
one_allowed true socket e all = all.1.0
one_allowed false socket e all = all.0

none_waits : (last : Bool) (socket count : ℕ) (answer : Io) (octets : List ℕ) → list_any is_wait (closed_if last socket ++ (TcpRead socket count answer octets ∷ [])) ≡ false
none_waits true socket count answer octets = refl
none_waits false socket count answer octets = refl

pub returns : goal.returns
returns g c =
    let call = c.read.ensures in
    let talk = c.args.self.now.session in
    let answer = call.0 in
    let octets = call.1 in
    let last = is_last answer (talk.kept ++ octets) in (
      answer,
      octets,
      one_allowed last c.args.connection (TcpRead c.args.connection (free talk.kept) answer octets) (subst AreAllowed call.2.holds call.2.allowed),
      called g.W.World.tells c.args.world.now c.begin.new.self c.read.new.world c.begin-2.new.self
          (λ made. made ≡ closed_if last c.args.connection ++ (TcpRead c.args.connection (free talk.kept) answer octets ∷ [])) c.begin.ensures.begun c.begin-2.ensures.begun call.2
          (λ seen is. ap (list_any is_wait) is ∙ none_waits last c.args.connection (free talk.kept) answer octets) c.begin-2.ensures.passed,
      ap (λ (t : Talk). record c.args.self.now { session = t }) call.3,
    )
