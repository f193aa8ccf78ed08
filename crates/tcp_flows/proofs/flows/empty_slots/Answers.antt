use Rattle.std.proofs.Common.{◌+◌, length, ap, sym, subst, ◌∙◌, arith}
use Rattle.std.proofs.lemmas.List.{length_push}
use Rattle.tcp_flows.specs.Rows.{AreEmpty}
use Rattle.tcp_flows.proofs.Opening.{empty_more, empty_none}
use Rattle.tcp_flows.proofs.flows.empty_slots.Goals as goal

pub loop-init : goal.loop-init
loop-init c = record {
  count = ap length c.in-Ok.ensures.items;
  room = c.in-Ok.ensures.capacity;
  empty = subst (AreEmpty c.args.sizes.now.ring c.args.sizes.now.mru) (sym c.in-Ok.ensures.items) (empty_none c.args.sizes.now.ring c.args.sizes.now.mru);
}

pub loop-preserved : goal.loop-preserved
loop-preserved c =
    let had = c.loop.invariant in
    let part = c.in_ok-part.ensures in
    record {
      count = ap length c.push_reserved.ensures.items ∙ length_push c.loop.slots.items c.in_ok-part.part ∙ ap (λ n. n + 1) had.count;
      room = omega (arith, had.room, c.push_reserved.ensures.capacity);
      empty = subst (AreEmpty c.args.sizes.now.ring c.args.sizes.now.mru) (sym c.push_reserved.ensures.items)
          (empty_more c.args.sizes.now.ring c.args.sizes.now.mru c.loop.slots.items c.in_ok-part.part had.empty part.place part.size.0 part.size.1 part.mru);
    }
