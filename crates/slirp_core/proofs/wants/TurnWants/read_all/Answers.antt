use Rattle.std.proofs.Common.{◌++◌, Bool, true, List, length, map, take, drop, sym, ◌∙◌, ap, subst, arith, length-append, take-append-drop}
use Rattle.std.proofs.lemmas.List.{length-take-le, take_all}
use Rattle.poll_list.specs.Listing.{AreWants}
use Rattle.poll_list.specs.declared.Want.{Want}
use Rattle.slirp_core.specs.Carrying.{sockets_of}
use Rattle.slirp_core.specs.Pumps.{merged}
use Rattle.sim_flows.specs.Wants.{link_want, listener_want, udp_want}
use Rattle.slirp_core.proofs.Dividing.{begun_in_parts, cut_in_parts}
use Rattle.slirp_core.proofs.Filling.{are_front, few_read, same_rows}
use Rattle.slirp_core.proofs.wants.TurnWants.read_all.Goals as goal

-- the list stands, up to what flows waited for

pub returns-then-are_same-4-clause-wants : goal.returns-then-are_same-4-clause-wants
returns-then-are_same-4-clause-wants c =
    let i = c.self.inside in
    let items = i.list.items in
    subst AreWants (sym c.truncate.ensures.items) (are_front (take i.before items) (drop i.before items) (subst AreWants (sym (take-append-drop i.before items)) c.self.invariant.0))

pub returns-then-are_same-4-clause-few : goal.returns-then-are_same-4-clause-few
returns-then-are_same-4-clause-few c =
    let i = c.self.inside in
    let carriers = c.args.carriers in
    let listeners = sym c.as_slice.ensures.value ∙ c.are_same.ensures c.if-are_same.true in
    let forwards = sym c.as_slice-then-are_same.ensures.value ∙ c.are_same-then-are_same.ensures c.if-are_same-2.true in
    let some = sym c.as_slice-then-are_same-2.ensures.value ∙ c.are_same-then-are_same-2.ensures c.if-are_same-3.true in
    let others = sym c.as_slice-then-are_same-3.ensures.value ∙ c.are_same-then-are_same-3.ensures c.if-are_same-4.true in
    let same = same_rows c.args.write i.listeners.items i.forwards.items i.associations.items i.questions.items c.args.listeners.now carriers.forwards.now carriers.associations.now
    carriers.questions.now listeners forwards some others in
    let held = c.holds_for.ensures c.if-holds_for.true in
    few_read c.args.write c.truncate.new.self.items c.args.listeners.now carriers.forwards.now carriers.associations.now carriers.questions.now
    (c.truncate.ensures.items ∙ c.self.invariant.3 held.0 ∙ ap (λ (w : Bool). (link_want true w ++ map listener_want i.listeners.items)
    ++ map udp_want (merged (merged i.forwards.items i.associations.items) i.questions.items)) held.1 ∙ same) c.requires.few c.requires.most.1 c.requires.most.2

pub invariant_of-self : goal.invariant_of-self
invariant_of-self c =
    let i = c.self.inside in
    let items = i.list.items in
    let cut = c.truncate.ensures.items in
    let long = length-take-le i.before items c.self.invariant.2 in
    let whole = ap length cut in (
      subst AreWants (sym cut) (are_front (take i.before items) (drop i.before items) (subst AreWants (sym (take-append-drop i.before items)) c.self.invariant.0)),
      c.self.invariant.1,
      omega (arith, long, whole),
      λ is. ap (take i.before) cut ∙ take_all i.before (take i.before items) (omega (arith, long)) ∙ c.self.invariant.3 is,
      cut_in_parts i.front i.before items c.truncate.new.self.items c.self.invariant.4 cut,
    )

-- or it is filled anew

pub invariant_of-self-2 : goal.invariant_of-self-2
invariant_of-self-2 c =
    let carriers = c.args.carriers in
    let begun = c.begin-self-inside.new.wants.items in
    let items = c.add_carriers.new.wants.items in
    let before = length c.items.result.now in
    let all = c.add_carriers.ensures.items in
    let count = c.begin-self-inside.ensures.count in
    let long = ap length c.items.ensures in
    let whole = ap length all in
    let sum = length-append begun (map udp_want (sockets_of carriers)) in (
      c.add_carriers.ensures.wants,
      omega (arith, count, long, whole, sum),
      omega (arith, long),
      λ is.
          take_all before items (omega (arith, long)) ∙ all ∙ ap (λ (l : List Want). l ++ map udp_want (sockets_of carriers)) c.begin-self-inside.ensures.items
          ∙ sym (same_rows c.args.write _ _ _ _ c.args.listeners.now carriers.forwards.now carriers.associations.now carriers.questions.now c.keep.ensures c.keep-2.ensures c.keep-3.ensures c.keep-4.ensures),
      begun_in_parts true c.args.write c.args.listeners.now (sockets_of carriers) c.begin-self-inside.result before begun items c.begin-self-inside.ensures.items all count long,
    )
