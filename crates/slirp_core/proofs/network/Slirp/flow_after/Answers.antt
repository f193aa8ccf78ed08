use Rattle.std.proofs.Common.{ℕ, ◌<◌, List, Option, None, Some, IfSome, false, sym, subst}
use Rattle.spec_flows.specs.declared.Tuple.{Tuple}
use Rattle.flow_splice.specs.Splice.{Splice}
use Rattle.sim_flows.specs.Core.{CoreHolds}
use Rattle.tcp_flows.specs.InUse.{IsNextUse}
use Rattle.tcp_flows.specs.Kept.{Kept}
use Rattle.slirp_core.specs.Numbers.{AreDrawn}
use Rattle.slirp_core.specs.State.{SlirpState}
use Rattle.slirp_core.proofs.NextFlow.{next_recorded}
use Rattle.slirp_core.proofs.network.Slirp.flow_after.Goals as goal

its_number : (last : Option ℕ) (next : Option (ℕ × Tuple)) (number : ℕ) (kept : Kept) → AreDrawn number kept → IsNextUse last next kept.flows.slots → IfSome next (λ f. f.0 < number)
its_number last None number kept drawn is = tt
its_number last (Some f) number kept drawn is = subst (λ n. n < number) is.number (drawn.below is.slot is.part is.at.here)

pub returns : goal.returns
returns c = record {
  drawn = subst (λ (s : SlirpState). IfSome c.flow_after.result (λ f. f.0 < s.number)) c.self.view_is
      (its_number c.args.last c.flow_after.result c.self.inside.number c.self.inside.flows c.self.invariant.3 c.flow_after.ensures.next);
  next = λ config at link past holds.
      next_recorded config c.args.self.now.moment false None c.self.inside.flows.flows past
      (subst (λ (s : SlirpState). CoreHolds config c.args.self.now.moment false None s.flows.flows past) (sym c.self.view_is) holds.flows.holds) c.flow_after.ensures.slots
      c.args.last c.flow_after.result c.flow_after.ensures.next;
}
