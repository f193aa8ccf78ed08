use Rattle.std.proofs.Common.{sym, subst, ◌∙◌, arith}
use Rattle.std.proofs.lemmas.Grind.{common_steps}
use Rattle.poll_list.specs.Listing.{AreWants}
use Rattle.slirp_core.proofs.Filling.{one_listener_more}
use Rattle.slirp_core.proofs.wants.add_listeners.Goals as goal

pub loop-number-preserved : goal.loop-number-preserved
loop-number-preserved c = record {
  items = grind (arith, common_steps);
  are = subst AreWants (sym c.add.ensures.items) (one_listener_more c.loop-number.wants.items _ (omega (arith, c.type_inv.numbers c.loop-number.number-index)) c.loop-number.invariant.are);
  room = grind (arith, common_steps);
  capacity = c.add.ensures.capacity ∙ c.loop-number.invariant.capacity;
}
