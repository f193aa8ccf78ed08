use Rattle.std.proofs.Common.{◌≡◌, ◌+◌, ◌-◌, drop, None, arith, ap, subst, sym, ◌∙◌}
use Rattle.sock_buffers.specs.Kept.{AreApart, first_covered, masked, octet_at, past, span}
use Rattle.sock_buffers.specs.Upward.{Upward, after_join}
use Rattle.sock_buffers.proofs.Covering.{apart_less, apart_past, first_within, span-past}
use Rattle.sock_buffers.proofs.Keeping.{joined_next, joins, joins_none, next_none, seen}
use Rattle.sock_buffers.proofs.Up.join.Goals as goal

pub returns-then-count-eq0-clause-joined : goal.returns-then-count-eq0-clause-joined
returns-then-count-eq0-clause-joined c =
    let inside = c.self.inside in
    let none : first_covered inside.ranges.items ≡ 0 = ap first_covered (sym c.as_slice.ensures.value) ∙ sym c.first_places-count.ensures ∙ c.if-count-eq0.true in
    subst (λ (u : Upward). u ≡ after_join u) c.self.view_is
    (joins_none inside.ranges.items inside.held inside.written inside.ring.capacity inside.ring.items c.self.invariant.0 c.self.invariant.1 none)

pub returns-then-count-eq0-clause-next : goal.returns-then-count-eq0-clause-next
returns-then-count-eq0-clause-next c =
    let inside = c.self.inside in
    let none : first_covered inside.ranges.items ≡ 0 = ap first_covered (sym c.as_slice.ensures.value) ∙ sym c.first_places-count.ensures ∙ c.if-count-eq0.true in
    subst (λ (u : Upward). octet_at u.kept 0 ≡ None) c.self.view_is (next_none inside.ranges.items (drop inside.held inside.ring.items) c.self.invariant.1 none)

pub invariant_of-self : goal.invariant_of-self
invariant_of-self c =
    let rs = c.self.inside.ranges.items in
    let n = c.first_places-count.result in
    let counted : n ≡ first_covered rs = c.first_places-count.ensures ∙ ap first_covered c.as_slice.ensures.value in
    let within = first_within rs in
    let long = c.self.invariant.0 in
    let left = span-past n rs in
    let apart = apart_less (0 - n) 0 (past n rs) (omega arith) (apart_past n 0 rs c.self.invariant.1) in
    (omega (arith, ap span c.past_first-self-inside.ensures), subst (AreApart 0) (sym c.past_first-self-inside.ensures) apart)

pub returns-clause-joined : goal.returns-clause-joined
returns-clause-joined c =
    let inside = c.self.inside in
    let rs = inside.ranges.items in
    let counted : c.first_places-count.result ≡ first_covered rs = c.first_places-count.ensures ∙ ap first_covered c.as_slice.ensures.value in
    let ranges_are = c.past_first-self-inside.ensures ∙ ap (λ k. past k rs) counted in
    (λ i. seen (inside.held + counted i) inside.written inside.ring.capacity (ranges_are i) inside.ring.items)
    ∙ joins rs inside.held inside.written inside.ring.capacity inside.ring.items c.self.invariant.0 c.self.invariant.1
    ∙ ap after_join c.self.view_is

pub returns-clause-next : goal.returns-clause-next
returns-clause-next c =
    let inside = c.self.inside in
    let rs = inside.ranges.items in
    let counted : c.first_places-count.result ≡ first_covered rs = c.first_places-count.ensures ∙ ap first_covered c.as_slice.ensures.value in
    let ranges_are = c.past_first-self-inside.ensures ∙ ap (λ k. past k rs) counted in
    ap (λ l. octet_at (masked l 0 (drop (inside.held + c.first_places-count.result) inside.ring.items)) 0) ranges_are
    ∙ joined_next rs (drop (inside.held + c.first_places-count.result) inside.ring.items) c.self.invariant.1
