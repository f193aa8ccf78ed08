use Rattle.std.proofs.Common.{ℕ, List, ◌∷◌, ◌++◌, drop, ◌∙◌, ap, sym, subst}
use Rattle.slirp_core.specs.Holds.{AfterPump, flowing}
use Rattle.slirp_core.proofs.Telling.{brings_allowed}
use Rattle.stream_netdev.specs.Keeps.{Writes}
use Rattle.stream_netdev.specs.Offers.{pumped_of}
use Rattle.slirp_core.specs.State.{SlirpState}
use Rattle.slirp_core.proofs.Pumping.{after_offer}
use Rattle.slirp_core.proofs.network.Slirp.pump_next.Goals as goal

pub returns-clause-makes : goal.returns-clause-makes
returns-clause-makes g c config at aged =
    let old = c.args.link.now in
    let new = c.offer-offered.new.self in
    let frame = c.encoded.ensures.encoded.0 in
    let comes = c.outcome.ensures ∙ ap (pumped_of c.offer-offered.result) c.blocked.ensures in
    let kept = ap (λ (s : SlirpState). s.flows) c.mark_out.ensures in
    brings_allowed c.offer-offered.ensures.makes (λ made writes allowed past holds.
    subst (λ k. AfterPump c.outcome.result config at c.mark_out.new.self (flowing aged k) new (made ++ past)) (sym kept)
    (after_offer config at c.args.self.now c.mark_out.new.self (flowing aged c.args.self.now.flows) old new made past frame
    (drop 1 c.args.self.now.pending) c.offer-offered.result c.outcome.result c.requires.none
    (sym (ap (λ (s : SlirpState). s.pending) c.self.view_is) ∙ c.encoded.ensures.encoded.2 ∙ ap (λ (l : List (List ℕ)). frame ∷ drop 1 l)
    (ap (λ (s : SlirpState). s.pending) c.self.view_is)) (subst (λ l. Writes c.offer-offered.result l made) c.encoded.ensures.encoded.1 writes.0) writes.1 comes c.mark_out.ensures allowed holds))

pub offer-offered-requires-clause-encoded : goal.offer-offered-requires-clause-encoded
offer-offered-requires-clause-encoded g c = (c.encoded.ensures.encoded.0, c.encoded.ensures.encoded.1)
