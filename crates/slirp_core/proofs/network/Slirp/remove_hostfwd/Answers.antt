use Rattle.std.proofs.Common.{◌≡◌, ◌+◌, false, List, length, is_some, sym, ◌∙◌, ap, subst}
use Rattle.std.specs.Result.{is_ok}
use Rattle.world_face.specs.Tells.{Brings, Makes}
use Rattle.rules_forward.specs.Opened.{Opened, socket_at, without}
use Rattle.slirp_core.specs.Added.{MayRemove, closed_at}
use Rattle.slirp_core.specs.Holds.{Holds, after, flowing}
use Rattle.slirp_core.specs.State.{SlirpState}
use Rattle.slirp_core.proofs.Adding.{closes_it, found_by, taken_back}
use Rattle.slirp_core.proofs.Telling.{brings_allowed}
use Rattle.slirp_core.proofs.Viewed.{state_of}
use Rattle.slirp_core.proofs.network.Slirp.remove_hostfwd.Goals as goal

pub returns-clause-closes : goal.returns-clause-closes
returns-clause-closes g c =
    subst (λ (s : SlirpState). Makes (g.W.World.tells c.args.world.now) (g.W.World.tells c.remove_hostfwd.new.world) (λ made. made ≡ closed_at (socket_at c.args.proto c.args.host s.forwards)))
    c.self.view_is
    (closes_it _ _ (socket_at c.args.proto c.args.host c.self.inside.forwards) (λ n found. (c.remove_hostfwd.ensures.there n found).1) (λ none. (c.remove_hostfwd.ensures.not_there none).1))

pub returns-clause-found : goal.returns-clause-found
returns-clause-found g c =
    found_by (socket_at c.args.proto c.args.host c.self.inside.forwards) c.remove_hostfwd.result (λ n found. (c.remove_hostfwd.ensures.there n found).0)
    (λ none. (c.remove_hostfwd.ensures.not_there none).0)
    ∙ ap (λ (s : SlirpState). is_some (socket_at c.args.proto c.args.host s.forwards)) c.self.view_is

pub returns-clause-makes : goal.returns-clause-makes
returns-clause-makes g c config count link some may =
    let slirp : SlirpState = state_of c.self.inside in
    let new : SlirpState = record slirp { forwards = c.remove_hostfwd.new.self } in
    let list = c.remove_hostfwd.ensures.list in
    let at = socket_at c.args.proto c.args.host slirp.forwards in
    subst (λ (s : SlirpState). Brings (g.W.World.tells c.args.world.now) (g.W.World.tells c.remove_hostfwd.new.world) (Holds config (after count) s (flowing false s.flows) link)
    (Holds config (after count) new (flowing false new.flows) link)) c.self.view_is
    (brings_allowed (closes_it _ _ at (λ n found. (c.remove_hostfwd.ensures.there n found).1) (λ none. (c.remove_hostfwd.ensures.not_there none).1)) (λ made calls allowed past holds.
    taken_back config count slirp new c.args.proto c.args.host link made past some (subst (λ (s : SlirpState). MayRemove config s c.args.proto c.args.host) (sym c.self.view_is) may)
    (λ n found. subst (λ (l : List Opened). length l + 1 ≡ length slirp.forwards) list (c.remove_hostfwd.ensures.one (c.remove_hostfwd.ensures.there n found).0))
    (ap (λ l. record slirp { forwards = l }) list) calls allowed holds))

pub returns-clause-others : goal.returns-clause-others
returns-clause-others g c =
    ap (λ l. record (state_of c.self.inside) { forwards = l }) c.remove_hostfwd.ensures.list
    ∙ ap (λ (s : SlirpState). record s { forwards = without c.args.proto c.args.host s.forwards }) c.self.view_is
