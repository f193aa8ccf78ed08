use Rattle.std.proofs.Common.{false, sym, ◌∙◌, ap, subst}
use Rattle.std.specs.Result.{result_err}
use Rattle.world_face.specs.Tells.{Brings, Makes}
use Rattle.rules_forward.specs.Adding.{Adds, fault_of}
use Rattle.slirp_core.specs.Added.{MayAdd, number_after}
use Rattle.slirp_core.specs.Holds.{Holds, after, flowing}
use Rattle.slirp_core.specs.State.{SlirpState}
use Rattle.slirp_core.proofs.Adding.{added}
use Rattle.slirp_core.proofs.Telling.{brings_allowed}
use Rattle.slirp_core.proofs.Viewed.{state_of}
use Rattle.slirp_core.proofs.network.Slirp.add_hostfwd.Goals as goal

pub returns-clause-adds : goal.returns-clause-adds
returns-clause-adds g c =
    subst (λ (s : SlirpState). Makes (g.W.World.tells c.args.world.now) (g.W.World.tells c.add_hostfwd-added.new.world)
    (Adds (fault_of s.config c.args.forward s.forwards) c.args.forward s.number s.forwards c.add_hostfwd-added.new.self (result_err c.add_hostfwd-added.result))) c.self.view_is c.add_hostfwd-added.ensures.adds

pub returns-clause-makes : goal.returns-clause-makes
returns-clause-makes g c config count link some may =
    let i = c.self.inside in
    let slirp : SlirpState = state_of i in
    let fault = result_err c.add_hostfwd-added.result in
    let new : SlirpState = record slirp { number = c.next_number-next.result; forwards = c.add_hostfwd-added.new.self } in
    subst (λ (s : SlirpState). Brings (g.W.World.tells c.args.world.now) (g.W.World.tells c.add_hostfwd-added.new.world) (Holds config (after count) s (flowing false s.flows) link)
    (Holds config (after count) new (flowing false new.flows) link)) c.self.view_is
    (brings_allowed c.add_hostfwd-added.ensures.adds (λ made adds allowed past holds.
    added config count slirp new c.args.forward fault link made past some (subst (λ (s : SlirpState). MayAdd config s c.args.forward) (sym c.self.view_is) may) c.requires.host_port adds
    (ap (λ n. record slirp { number = n; forwards = c.add_hostfwd-added.new.self }) c.next_number-next.ensures) allowed holds))

pub returns-clause-others : goal.returns-clause-others
returns-clause-others g c =
    let i = c.self.inside in
    let new = c.add_hostfwd-added.new.self in
    let fault = result_err c.add_hostfwd-added.result in
    ap (λ n. record (state_of i) { number = n; forwards = new }) c.next_number-next.ensures
    ∙ ap (λ (s : SlirpState). record s { number = number_after fault s.number; forwards = new }) c.self.view_is
