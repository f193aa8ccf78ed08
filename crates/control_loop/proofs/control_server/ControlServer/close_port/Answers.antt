use Rattle.std.proofs.Common.{◌≡◌, ℕ, ◌<◌, false, Option, Some, None, refl, ◌∙◌, ap}
use Rattle.std.specs.List.{list_any}
use Rattle.world_face.proofs.Telling.{makes_as}
use Rattle.slirp_settings.specs.Addresses.{Config}
use Rattle.rules_forward.specs.Opened.{socket_at}
use Rattle.slirp_core.specs.Added.{MayRemove, closed_at}
use Rattle.slirp_core.specs.Holds.{after}
use Rattle.serve_loop.specs.Turns.{AttendsNow}
use Rattle.control.proofs.Apartness.{is_wait}
use Rattle.control_loop.proofs.Below.{called_and_brought}
use Rattle.control_loop.proofs.control_server.ControlServer.close_port.Goals as goal

none_waits : (o : Option ℕ) → list_any is_wait (closed_at o) ≡ false
none_waits None = refl
none_waits (Some socket) = refl

pub returns-clause-closes : goal.returns-clause-closes
returns-clause-closes g c =
    let old = c.args.self.now.service in
    let new = c.remove_hostfwd-removed.new.self in
    let socket = socket_at c.args.proto c.args.host old.slirp.forwards in
    makes_as _ _ _ _
    (called_and_brought g.W.World.tells c.args.world.now c.begin.new.self c.remove_hostfwd-removed.new.world c.begin-2.new.self (λ made. made ≡ closed_at socket)
    ((settings : Config) × (count : ℕ) × (0 < count) × MayRemove settings old.slirp c.args.proto c.args.host)
    (λ i past. AttendsNow i.0 (after i.1) false old.slirp old.link past) (λ i past. AttendsNow i.0 (after i.1) false new.slirp new.link past) c.begin.ensures.begun c.begin-2.ensures.begun
    c.remove_hostfwd-removed.ensures.closes (λ i. c.remove_hostfwd-removed.ensures.makes i.0 i.1 i.2 i.3) (λ seen is. ap (list_any is_wait) is ∙ none_waits socket) c.begin-2.ensures.passed)
    (λ made both. (both.0, λ settings count some may past attended. both.1 (settings, count, some, may) past attended))
