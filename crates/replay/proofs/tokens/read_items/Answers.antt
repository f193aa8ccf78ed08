use Rattle.std.proofs.Common.{◌≡◌, true, List, refl, sym, subst}
use Rattle.poll_list.specs.declared.Want.{Want}
use Rattle.poll_list.specs.Listing.{are_wants}
use Rattle.replay.proofs.Joining.{each_more, joined_all}
use Rattle.replay.proofs.Refusing.{one_want, wants_push, next_left, last_left}
use Rattle.replay.proofs.tokens.read_items.Goals as goal

pub loop-item-init : goal.loop-item-init
loop-item-init c = record { text = rw c.new-items.ensures.items refl; range = rw c.new-items.ensures.items refl; left = λ want more h is. record { want = want; more = more; range = h; is = is } }

pub loop-item-preserved : goal.loop-item-preserved
loop-item-preserved c = record {
  text = each_more _ _ c.in-Ok.item.now c.in-Ok.after.now _ _ c.in_ok-want.want c.loop-item.invariant.text c.in-Ok.ensures.parts c.in_ok-want.ensures.want c.in_ok-push.ensures.items;
  range = subst (λ (ws : List Want). are_wants ws ≡ true) (sym c.in_ok-push.ensures.items)
      (wants_push c.loop-item.items.items c.in_ok-want.want c.loop-item.invariant.range c.in_ok-want.ensures.range);
  left = λ want more h is. let l = c.loop-item.invariant.left want more h is in (next_left _ _ _ c.in-Ok.ensures.parts c.in-Ok.ensures.first l.want l.more l.range l.is).1;
}

pub returns-clause-items : goal.returns-clause-items
returns-clause-items c = joined_all _ _ _ _ c.in_ok-want-2.want c.loop-item.invariant.text c.in_ok-want-2.ensures.want c.in_ok-push-2.ensures.items

pub returns-in_err-want-clause-refused : goal.returns-in_err-want-clause-refused
returns-in_err-want-clause-refused c = λ _ want more h is. let l = c.loop-item.invariant.left want more h is in c.in_err-want.ensures.refused l.want
    (one_want l.want l.more l.range) (next_left _ _ _ c.in-Ok.ensures.parts c.in-Ok.ensures.first l.want l.more l.range l.is).0

pub returns-in_err-want-2-clause-refused : goal.returns-in_err-want-2-clause-refused
returns-in_err-want-2-clause-refused c = λ _ want more h is. let l = c.loop-item.invariant.left want more h is in c.in_err-want-2.ensures.refused l.want
    (one_want l.want l.more l.range) (last_left _ c.in_default.ensures.refused l.want l.more l.range l.is)

pub returns-clause-range : goal.returns-clause-range
returns-clause-range c = subst (λ (ws : List Want). are_wants ws ≡ true) (sym c.in_ok-push-2.ensures.items)
    (wants_push c.loop-item.items.items c.in_ok-want-2.want c.loop-item.invariant.range c.in_ok-want-2.ensures.range)
