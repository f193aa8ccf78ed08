use Rattle.std.proofs.Common.{◌≡◌, ℕ, ◌||◌, false, List, [], ◌∷◌, map, reverse, refl, ◌∙◌, ap}
use Rattle.std.proofs.lemmas.List.Elements.{All-head, All-tail}
use Rattle.std.specs.List.{list_any}
use Rattle.world_face.specs.Journal.{AreAllowed, Close, Entry}
use Rattle.slirp_core.specs.Forwards.{AreCloses, IsClose}
use Rattle.rules_forward.specs.Opened.{forward_sockets}
use Rattle.slirp_core.specs.Holds.{ClosesAll, holders_of}
use Rattle.slirp_core.proofs.Counted.{grown}
use Rattle.control.proofs.Apartness.{is_wait}
use Rattle.control_loop.proofs.Below.{called, with_allowed}
use Rattle.control_loop.proofs.control_server.ControlServer.close_ports.Goals as goal

none_waits : (made : List Entry) → AreCloses made → list_any is_wait made ≡ false
none_waits [] closes = refl
none_waits (e ∷ made) closes =
    ap (λ x. is_wait x || list_any is_wait made) (All-head IsClose e made closes).1 ∙ none_waits made (All-tail IsClose e made closes)

all_closed : (sockets : List ℕ) → list_any is_wait (map Close sockets) ≡ false
all_closed [] = refl
all_closed (n ∷ sockets) = all_closed sockets

pub returns-clause-makes : goal.returns-clause-makes
returns-clause-makes g c =
    let old = c.args.self.now.service in
    called g.W.World.tells c.args.world.now c.begin.new.self c.close_all.new.world c.begin-2.new.self
    (λ made. ClosesAll old.slirp.forwards (holders_of old.slirp) made × AreCloses made × AreAllowed made) c.begin.ensures.begun c.begin-2.ensures.begun
    (with_allowed c.close_all.ensures.makes) (λ seen closes. none_waits seen closes.1) c.begin-2.ensures.passed

pub returns-clause-ports : goal.returns-clause-ports
returns-clause-ports g c nothing =
    let sockets = reverse (forward_sockets c.args.self.now.service.slirp.forwards) in
    called g.W.World.tells c.args.world.now c.begin.new.self c.close_all.new.world c.begin-2.new.self (λ made. made ≡ map Close sockets) c.begin.ensures.begun c.begin-2.ensures.begun
    (c.close_all.ensures.ports nothing) (λ seen is. ap (list_any is_wait) is ∙ all_closed sockets) c.begin-2.ensures.passed

pub returns-clause-counts : goal.returns-clause-counts
returns-clause-counts g c = grown _ _ _ (returns-clause-makes g c).counted
