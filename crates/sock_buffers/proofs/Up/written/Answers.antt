use Rattle.std.proofs.Common.{◌≡◌, ◌+◌, ◌-◌, ◌≤◌, ℕ, length, drop, length-take, arith, ap, ◌∙◌, subst, sym}
use Rattle.circular_buffer.specs.Buffer.{Buffer}
use Rattle.sock_buffers.specs.Upward.{Upward}
use Rattle.sock_buffers.proofs.Keeping.{gives_up, seen}
use Rattle.sock_buffers.proofs.Up.written.Goals as goal

pub returns : goal.returns
returns c =
    let inside = c.self.inside in
    let n = c.args.n in
    let items = inside.ring.items in
    let long : length items - (c.len.result - n) ≡ length items - (length items - n) = ap (λ k. length items - (k - n)) c.len.ensures.len in
    let few = subst (λ (u : Upward). n ≤ length u.held) (sym c.self.view_is) c.requires.held in
    let fits = c.self.invariant.0 in
    ap (λ (b : Buffer ℕ). seen (inside.held - n) (inside.written + n) b.capacity inside.ranges.items b.items) c.truncate_front.ensures
    ∙ ap (λ k. seen (inside.held - n) (inside.written + n) inside.ring.capacity inside.ranges.items (drop k items)) long
    ∙ gives_up inside.ranges.items inside.held inside.written inside.ring.capacity n items (omega (arith, few, length-take inside.held items)) (omega (arith, fits))
    ∙ ap (λ (u : Upward). record u { held = drop n u.held; written = u.written + n }) c.self.view_is
