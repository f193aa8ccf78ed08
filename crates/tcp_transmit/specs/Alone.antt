-- A connection without a congestion window.
use Rattle.std.specs.Prelude.{◌≡◌, ℕ, Bool, None}
use Rattle.tcp_transmit.specs.Acks.{congested}
use Rattle.tcp_transmit.specs.Timing.{after_expired}
use Rattle.tcp_transmit.specs.Transmission.{Transmission, edge_of, reach}
use Rattle.tcp_transmit.specs.declared.AckSeen.{AckSeen}

-- The guest's window alone limits what is sent, and neither an acknowledgement nor an expiry brings a congestion window.
pub record IsAlone (t : Transmission) : Type 0 where
  pub reach : reach t ≡ edge_of t.window
  pub acked : (window : ℕ) (bare : Bool) (seen : AckSeen) → (congested t window bare seen).cwnd ≡ None
  pub expired : (after_expired t).cwnd ≡ None
