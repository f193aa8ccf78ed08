use Rattle.std.proofs.Common.{◌≤◌, length, slice_get, ◌∙◌, ap, subst}
use Rattle.serve_loop.specs.Served.{ServiceState}
use Rattle.serve_loop.proofs.service.Service.forward.Goals as goal

pub returns : goal.returns
returns c = record {
  at = c.forward.ensures.at ∙ ap (λ (s : ServiceState). slice_get s.slirp.forwards c.args.place) c.self.view_is;
  few = subst (λ (s : ServiceState). length s.slirp.forwards ≤ 32) c.self.view_is c.forward.ensures.few;
}
