-- Where each octet comes from that is held or kept after a segment.
use Rattle.std.specs.Prelude.{◌≡◌, ℕ, ◌+◌, ◌-◌, List, length, Some, slice_get, ◌⊎◌}
use Rattle.sock_buffers.specs.Kept.{KeepsAt}
use Rattle.sock_buffers.specs.Upward.{Upward}
use Rattle.tcp_receive.specs.Received.{Received, StandsAt, place_in}

pub record Comes (r : Received) (number : ℕ) (octets : List ℕ) (old new : Upward) : Type 0 where
  -- an octet that is held after those that were was kept at its place, or is the segment's there
  pub held : (k x : ℕ) → slice_get new.held (length old.held + k) ≡ Some x → KeepsAt old.kept k x ⊎ StandsAt (place_in r number) octets (r.taken + k) x
  -- and so was one that is kept, or is
  pub kept : (k x : ℕ) → KeepsAt new.kept k x
      → KeepsAt old.kept (length new.held - length old.held + k) x ⊎ StandsAt (place_in r number) octets (r.taken + (length new.held - length old.held + k)) x
