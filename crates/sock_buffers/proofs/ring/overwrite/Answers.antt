use Rattle.std.proofs.Common.{◌≡◌, ℕ, ◌+◌, Bool, true, false, List, length, get_or, arith, sym, ap, ◌∙◌, set, if◌then◌else◌, length-set}
use Rattle.std.specs.List.{slice_get}
use Rattle.std.proofs.lemmas.Option.{slice_get-get_or}
use Rattle.circular_buffer.specs.Buffer.{Buffer}
use Rattle.sock_buffers.specs.Kept.{covers}
use Rattle.sock_buffers.proofs.Keeping.{step_set, step_kept, one_more_counted}
use Rattle.sock_buffers.proofs.ring.overwrite.Goals as goal
use Rattle.sock_buffers.proofs.ring.overwrite.Goals.{then-not-covers, else-not-covers}

pub loop-at-preserved : goal.loop-at-preserved
loop-at-preserved c =
    let more = one_more_counted c.args.ranges.now c.args.ahead c.loop-at.at in
    let now = c.loop-at.invariant in
    elim c.if-not-covers.branch [
      | then-not-covers w ↦
          let free : covers c.args.ranges.now (c.args.ahead + c.loop-at.at) ≡ false = sym c.covers.ensures ∙ w.if-not-covers.true in
          let x = get_or c.args.octets.now c.loop-at.at 0 in
          let items : c.if-not-covers.ring.items ≡ set c.loop-at.ring.items (c.args.held + c.args.ahead + c.loop-at.at) x = ap (λ (b : Buffer ℕ). b.items) w.ring-is ∙ w.set.ensures.items in
          let counted : ◌≡◌ {A = ℕ} (if covers c.args.ranges.now (c.args.ahead + c.loop-at.at) then 0 else 1) 1 = ap (λ (b : Bool). let n : ℕ = if b then 0 else 1 in n) free in
          record {
            places = step_set c.args.ranges.now c.args.held c.args.ahead c.loop-at.at x c.args.octets.now c.args.ring.now.items c.loop-at.ring.items c.if-not-covers.ring.items
                (omega arith) free (slice_get-get_or c.args.octets.now c.loop-at.at 0 (omega arith)) items now.places;
            length = ap length items ∙ length-set c.loop-at.ring.items (c.args.held + c.args.ahead + c.loop-at.at) x ∙ now.length;
            capacity = ap (λ (b : Buffer ℕ). b.capacity) w.ring-is ∙ w.set.ensures.capacity ∙ now.capacity;
            count = omega (arith, w.count-is, now.count, more, counted);
            few = omega (arith, w.count-is, now.few);
          }
      | else-not-covers w ↦
          let full : covers c.args.ranges.now (c.args.ahead + c.loop-at.at) ≡ true = sym c.covers.ensures ∙ w.if-not-covers.false in
          let same : c.if-not-covers.ring.items ≡ c.loop-at.ring.items = ap (λ (b : Buffer ℕ). b.items) w.ring-is in
          let counted : ◌≡◌ {A = ℕ} (if covers c.args.ranges.now (c.args.ahead + c.loop-at.at) then 0 else 1) 0 = ap (λ (b : Bool). let n : ℕ = if b then 0 else 1 in n) full in
          record {
            places = λ place. ap (λ (l : List ℕ). slice_get l place) same
                ∙ step_kept c.args.ranges.now c.args.held c.args.ahead c.loop-at.at c.args.octets.now c.args.ring.now.items c.loop-at.ring.items full now.places place;
            length = ap length same ∙ now.length;
            capacity = ap (λ (b : Buffer ℕ). b.capacity) w.ring-is ∙ now.capacity;
            count = omega (arith, w.count-is, now.count, more, counted);
            few = omega (arith, w.count-is, now.few);
          }
    ]
