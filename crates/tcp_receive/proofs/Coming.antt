-- Where each octet comes from that is held or kept after a segment.
use Rattle.std.proofs.Common.{◌≡◌, ℕ, ◌+◌, ◌-◌, ◌<◌, ◌⊎◌, inl, List, length, Some, arith, subst}
use Rattle.std.specs.List.{slice_get}
use Rattle.std.proofs.lemmas.Option.{slice_get_within}
use Rattle.sock_buffers.specs.Kept.{KeepsAt}
use Rattle.sock_buffers.specs.Upward.{Upward}
use Rattle.tcp_receive.specs.Coming.{Comes}
use Rattle.tcp_receive.specs.Received.{Received, StandsAt, place_in}

-- nothing came
pub nothing_comes : (r : Received) (number : ℕ) (octets : List ℕ) (up : Upward) → Comes r number octets up up
nothing_comes r number octets up = record {
  held = λ k x is. let inside = slice_get_within up.held (length up.held + k) x is in absurd (omega (arith, inside));
  kept = λ k x is. let same : k ≡ length up.held - length up.held + k = omega arith in inl (subst (λ (j : ℕ). KeepsAt up.kept j x) same is);
}

-- so many octets are held more
pub comes_by : (r : Received) (number : ℕ) (octets : List ℕ) (old new : Upward) (count : ℕ) → length new.held ≡ length old.held + count
    → ((k x : ℕ) → k < count → slice_get new.held (length old.held + k) ≡ Some x → KeepsAt old.kept k x ⊎ StandsAt (place_in r number) octets (r.taken + k) x)
    → ((k x : ℕ) → KeepsAt new.kept k x → KeepsAt old.kept (count + k) x ⊎ StandsAt (place_in r number) octets (r.taken + (count + k)) x)
    → Comes r number octets old new
comes_by r number octets old new count long held kept = record {
  held = λ k x is. let inside = slice_get_within new.held (length old.held + k) x is in held k x (omega (arith, inside, long)) is;
  kept = λ k x is.
      let same : count + k ≡ length new.held - length old.held + k = omega (arith, long) in
      subst (λ (j : ℕ). KeepsAt old.kept j x ⊎ StandsAt (place_in r number) octets (r.taken + j) x) same (kept k x is);
}
