use Rattle.std.proofs.Common.{◌≡◌, ℕ, ◌+◌, ◌-◌, ◌<◌, length, take, min, arith, ap, subst, sym, ◌∙◌, List}
use Rattle.std.specs.List.{slice_get}
use Rattle.sock_buffers.specs.Kept.{AreApart, range, span, with_range, written_at}
use Rattle.sock_buffers.specs.Upward.{Upward, after_keep}
use Rattle.sock_buffers.specs.declared.ranges.KeptRange.{KeptRange}
use Rattle.sock_buffers.proofs.Covering.{apart_with, span-with_range}
use Rattle.sock_buffers.proofs.Keeping.{keeps, seen}
use Rattle.sock_buffers.proofs.Up.keep.Goals as goal

pub invariant_of-self : goal.invariant_of-self
invariant_of-self c =
    let rs = c.self.inside.ranges.items in
    let n = c.min-count.result in
    let new = range c.args.ahead (c.args.ahead + n) in
    let some : 0 < n = omega arith in
    let long = c.self.invariant.0 in
    let ranges_are : c.in-Some.ranges.items ≡ with_range rs new = c.in-Some.ensures.all ∙ ap (λ (l : List KeptRange). with_range l new) c.as_slice.ensures.value in
    let beyond = ap span ranges_are ∙ span-with_range rs new in (
      omega (arith, beyond, c.overwrite-newly.ensures.length, c.reach.ensures.length),
      subst (AreApart 0) (sym ranges_are) (apart_with 0 rs new c.self.invariant.1 (omega arith) (omega arith)),
    )

pub returns-clause-kept : goal.returns-clause-kept
returns-clause-kept c =
    let inside = c.self.inside in
    let rs = inside.ranges.items in
    let n = c.min-count.result in
    let new = range c.args.ahead (c.args.ahead + n) in
    let octets = c.args.octets.now in
    let ranges_are : c.in-Some.ranges.items ≡ with_range rs new = c.in-Some.ensures.all ∙ ap (λ (l : List KeptRange). with_range l new) c.as_slice.ensures.value in
    let ranges_seen = c.as_slice-2.ensures.value in
    let few : 32 < length (with_range rs new) → ⊥ =
    λ more.
    let no = c.in-Some.ensures.none.1 (subst (λ (l : List KeptRange). 32 < length (with_range l new)) (sym c.as_slice.ensures.value) more) in
    cc no in
    let each : (place : ℕ) → slice_get c.overwrite-newly.new.ring.items place ≡ written_at rs inside.held c.args.ahead (length (take n octets)) (take n octets) c.reach.new.ring.items place =
    λ place. c.overwrite-newly.ensures.places place ∙ ap (λ (l : List KeptRange). written_at l inside.held c.args.ahead (length (take n octets))
    (take n octets) c.reach.new.ring.items place) ranges_seen in
    let counted : n ≡ min (length octets) (inside.ring.capacity - inside.held - c.args.ahead) = omega (arith, c.min-count.ensures, c.saturating_sub.ensures, c.capacity.ensures.capacity) in
    (λ i. seen inside.held inside.written ((c.overwrite-newly.ensures.capacity ∙ c.reach.ensures.capacity) i) (ranges_are i) c.overwrite-newly.new.ring.items)
    ∙ keeps rs inside.held inside.written inside.ring.capacity c.args.ahead n inside.ring.items c.reach.new.ring.items c.overwrite-newly.new.ring.items octets
    c.self.invariant.0 counted (omega arith) c.reach.ensures.front c.reach.ensures.length c.overwrite-newly.ensures.length each few
    ∙ ap (λ (u : Upward). after_keep u c.args.ahead octets) c.self.view_is
