-- Without a congestion window all is as the guest's window says.
use Rattle.std.proofs.Common.{◌≡◌, Bool, true, false, Option, None, if◌then◌else◌, ap, refl}
use Rattle.cwnd.specs.Congestion.{Congestion}
use Rattle.tcp_transmit.specs.Acks.{cwnd_acked, is_duplicate, octets_acked}
use Rattle.tcp_transmit.specs.Alone.{IsAlone}
use Rattle.tcp_transmit.specs.Timing.{cwnd_expired, is_given_up, timed_out}
use Rattle.tcp_transmit.specs.Transmission.{Transmission, edge_of, flight, reach_by}

pub alone : (t : Transmission) → t.cwnd ≡ None → IsAlone t
alone t none = record {
  reach = ap (λ (c : Option Congestion). reach_by c t.acked (edge_of t.window)) none;
  acked = λ window bare seen. ap (λ (c : Option Congestion). cwnd_acked c (is_duplicate t window bare seen) (flight t) (octets_acked seen)) none;
  expired = by_test (is_given_up t);
}
  where
    by_test : (b : Bool) → (if b then t else timed_out t).cwnd ≡ None
    by_test true = none
    by_test false = ap (λ (c : Option Congestion). cwnd_expired c (flight t) t.again) none
