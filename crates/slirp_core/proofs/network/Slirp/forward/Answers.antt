use Rattle.std.proofs.Common.{◌≤◌, length, slice_get, ◌∙◌, ap, subst}
use Rattle.slirp_core.specs.State.{SlirpState}
use Rattle.slirp_core.proofs.network.Slirp.forward.Goals as goal

pub returns : goal.returns
returns c = record {
  at = c.at.ensures.at ∙ ap (λ (s : SlirpState). slice_get s.forwards c.args.place) c.self.view_is;
  few = subst (λ (s : SlirpState). length s.forwards ≤ 32) c.self.view_is c.at.ensures.few;
}
