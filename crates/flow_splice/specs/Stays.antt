-- What a call leaves of a flow: between whom it goes, its guest's hardware address and its sizes; and what it does to the octets of both sides.
use Rattle.std.specs.Prelude.{◌≡◌, ◌+◌, ◌≤◌}
use Rattle.tcp_transmit.specs.Transmission.{octets_read}
use Rattle.flow_splice.specs.Hosts.{IsAsOld}
use Rattle.flow_splice.specs.Splice.{Splice}

-- those of both stay
pub record Stays (old new : Splice) : Type 0 where
  pub same : IsAsOld old new
  pub up : new.up ≡ old.up
  pub down : new.down ≡ old.down

-- the host took 16,384 of the guest's at most
pub record StaysButWritten (old new : Splice) : Type 0 where
  pub same : IsAsOld old new
  pub up : new.up.written ≤ old.up.written + 16384
  pub down : new.down ≡ old.down

-- the host gave 16,384 at most
pub record StaysButRead (old new : Splice) : Type 0 where
  pub same : IsAsOld old new
  pub up : new.up ≡ old.up
  pub down : octets_read new.down ≤ octets_read old.down + 16384

-- it did both
pub record StaysButServed (old new : Splice) : Type 0 where
  pub same : IsAsOld old new
  pub up : new.up.written ≤ old.up.written + 16384
  pub down : octets_read new.down ≤ octets_read old.down + 16384

-- the guest spoke: the host took none, and gave none
pub record StaysButHeard (old new : Splice) : Type 0 where
  pub same : IsAsOld old new
  pub up : new.up.written ≡ old.up.written
  pub down : octets_read new.down ≡ octets_read old.down
