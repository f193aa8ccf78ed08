use Rattle.std.proofs.Common.{◌≡◌, ℕ, ◌+◌, ◌-◌, ◌++◌, length, take, min, arith, ap, subst, sym, ◌∙◌, length-take, length-append}
use Rattle.circular_buffer.specs.Buffer.{Buffer, buffer}
use Rattle.sock_buffers.specs.Kept.{AreApart, past, span}
use Rattle.sock_buffers.specs.Upward.{Upward, after_take, fitting}
use Rattle.sock_buffers.proofs.Covering.{apart_less, apart_past, span-past}
use Rattle.sock_buffers.proofs.Keeping.{seen, takes_all, takes_over}
use Rattle.sock_buffers.proofs.Up.take.Goals as goal
use Rattle.sock_buffers.proofs.Up.take.Goals.{then-self-count, else-self-count}

pub invariant_of-self : goal.invariant_of-self
invariant_of-self c = elim c.if-self-count.branch [
  | then-self-count w ↦
      let n = c.min-count.result in
      let front : length (take c.self.inside.held c.self.inside.ring.items) ≡ c.self.inside.held =
      omega (arith, c.self.invariant.0, length-take c.self.inside.held c.self.inside.ring.items) in
      let cut = w.truncate_back.ensures in
      let room : w.truncate_back.new.self.capacity - length w.truncate_back.new.self.items ≡ c.self.inside.ring.capacity - c.self.inside.held =
      ap (λ (b : Buffer ℕ). b.capacity - length b.items) cut ∙ ap (λ k. c.self.inside.ring.capacity - k) front in
      let counted : w.fill_from_slice.result ≡ n = omega (arith, w.fill_from_slice.ensures.count, c.min-count.ensures, c.capacity.ensures.capacity, room) in
      let long : length w.fill_from_slice.new.self.items ≡ c.self.inside.held + n =
      ap (λ (b : Buffer ℕ). length b.items) w.fill_from_slice.ensures.items
      ∙ length-append w.truncate_back.new.self.items (take w.fill_from_slice.result c.args.octets.now)
      ∙ omega (arith, ap (λ (b : Buffer ℕ). length b.items) cut, front, length-take w.fill_from_slice.result c.args.octets.now, counted, c.min-count.ensures) in
      rw w.self-inside-is (omega (arith, long, ap span w.clear.ensures), subst (AreApart 0) (sym w.clear.ensures) tt)
  | else-self-count w ↦
      let rs = c.self.inside.ranges.items in
      let n = c.min-count.result in
      let long = c.self.invariant.0 in
      let left = span-past n rs in
      let apart = apart_less (0 - n) 0 (past n rs) (omega arith) (apart_past n 0 rs c.self.invariant.1) in
      rw w.self-inside-is (omega (arith, ap span w.past_first-self-inside.ensures, w.overwrite.ensures.length), subst (AreApart 0) (sym w.past_first-self-inside.ensures) apart)
]

pub returns-clause-taken : goal.returns-clause-taken
returns-clause-taken c =
    let inside = c.self.inside in
    let rs = inside.ranges.items in
    let n = c.min-count.result in
    let octets = c.args.octets.now in
    let front : length (take inside.held inside.ring.items) ≡ inside.held = omega (arith, c.self.invariant.0, length-take inside.held inside.ring.items) in
    let counted : n ≡ min (length octets) (inside.ring.capacity - inside.held) = omega (arith, c.min-count.ensures, c.capacity.ensures.capacity) in
    elim c.if-self-count.branch [
      | then-self-count w ↦
          let cut = w.truncate_back.ensures in
          let room : w.truncate_back.new.self.capacity - length w.truncate_back.new.self.items ≡ inside.ring.capacity - inside.held =
          ap (λ (b : Buffer ℕ). b.capacity - length b.items) cut ∙ ap (λ k. inside.ring.capacity - k) front in
          let filled : w.fill_from_slice.result ≡ n = omega (arith, w.fill_from_slice.ensures.count, counted, room) in
          let ring_is : w.fill_from_slice.new.self ≡ buffer (take inside.held inside.ring.items ++ take n octets) inside.ring.capacity =
          w.fill_from_slice.ensures.items ∙ (λ i. buffer ((cut i).items ++ take (filled i) octets) (cut i).capacity) in
          rw w.self-inside-is
          ((λ i. seen (inside.held + n) inside.written (ring_is i).capacity (w.clear.ensures i) (ring_is i).items)
          ∙ takes_all rs inside.held inside.written inside.ring.capacity n inside.ring.items octets c.self.invariant.0 counted (omega (arith, w.if-self-count.true, c.len.ensures.len))
          ∙ ap (λ (u : Upward). after_take u octets) c.self.view_is)
      | else-self-count w ↦
          rw w.self-inside-is
          ((λ i. seen (inside.held + n) inside.written (w.overwrite.ensures.capacity i) (w.past_first-self-inside.ensures i) w.overwrite.new.ring.items)
          ∙ takes_over rs inside.held inside.written inside.ring.capacity n inside.ring.items w.overwrite.new.ring.items octets c.self.invariant.0 counted
          (omega (arith, w.if-self-count.false, c.len.ensures.len)) w.overwrite.ensures.length w.overwrite.ensures.places
          ∙ ap (λ (u : Upward). after_take u octets) c.self.view_is)
    ]

pub returns-clause-appended : goal.returns-clause-appended
returns-clause-appended c =
    let inside = c.self.inside in
    let n = c.min-count.result in
    let octets = c.args.octets.now in
    let front : length (take inside.held inside.ring.items) ≡ inside.held = omega (arith, c.self.invariant.0, length-take inside.held inside.ring.items) in
    let counted : n ≡ min (length octets) (inside.ring.capacity - inside.held) = omega (arith, c.min-count.ensures, c.capacity.ensures.capacity) in
    ap (λ (u : Upward). u.held) (returns-clause-taken c)
    ∙ ap (λ (u : Upward). u.held ++ fitting u octets) (sym c.self.view_is)
    ∙ (λ i. take inside.held inside.ring.items ++ take ((ap (λ k. min (length octets) (inside.ring.capacity - k)) front ∙ sym counted) i) octets)
    ∙ ap (λ (u : Upward). u.held ++ take n octets) c.self.view_is
