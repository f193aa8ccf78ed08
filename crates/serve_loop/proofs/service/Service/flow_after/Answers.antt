use Rattle.std.proofs.Common.{◌<◌, IfSome, false, sym, subst}
use Rattle.slirp_core.specs.Holds.{after}
use Rattle.serve_loop.specs.Served.{ServiceState}
use Rattle.serve_loop.specs.Turns.{HoldsNow}
use Rattle.serve_loop.proofs.service.Service.flow_after.Goals as goal

pub returns : goal.returns
returns c = record {
  drawn = subst (λ (s : ServiceState). IfSome c.flow_after.result (λ next. next.0 < s.slirp.number)) c.self.view_is c.flow_after.ensures.drawn;
  next = λ config count past attends.
      c.flow_after.ensures.next config (after count) c.self.inside.link past
      (subst (λ (s : ServiceState). HoldsNow config (after count) false s.slirp s.link past) (sym c.self.view_is) attends.0);
}
