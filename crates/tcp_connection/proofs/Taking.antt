-- What a segment changes, from what the two halves say of it.
use Rattle.std.proofs.Common.{◌≡◌, ℕ, ◌+◌, Bool, ◌||◌, ap, ◌∙◌}
use Rattle.seq_space.specs.declared.Seq.{Seq}
use Rattle.sock_buffers.specs.Downward.{Downward}
use Rattle.sock_buffers.specs.Upward.{Upward}
use Rattle.tcp_receive.specs.Received.{Received}
use Rattle.tcp_segment.specs.Tcp.{Tcp}
use Rattle.tcp_transmit.specs.Acks.{after_ack, octets_acked, without}
use Rattle.tcp_transmit.specs.Transmission.{Transmission}
use Rattle.tcp_transmit.specs.declared.AckSeen.{AckSeen}
use Rattle.tcp_connection.specs.Checks.{is_fin}
use Rattle.tcp_connection.specs.Connection.{Connection}
use Rattle.tcp_connection.specs.Segments.{arrived, confirmed, count_taken, is_end_taken, is_fin_too, is_to_acknowledge, is_too_far, noted, received_after}

received_is : (r q : Received) (up : Upward) (seg : Tcp) (n : ℕ) (fin : Bool)
    → q ≡ record r { taken = r.taken + n; ended = r.ended || fin }
    → n ≡ count_taken r seg.seq seg.body up
    → fin ≡ is_end_taken r seg.seq seg.body (is_fin seg) (r.taken + n)
    → q ≡ received_after r seg.seq seg.body (is_fin seg) up
received_is r q up seg n fin q_is n_is fin_is =
    q_is ∙ ap (λ (f : Bool). record r { taken = r.taken + n; ended = r.ended || f }) fin_is
    ∙ ap (λ (m : ℕ). record r { taken = r.taken + m; ended = r.ended || is_end_taken r seg.seq seg.body (is_fin seg) (r.taken + m) }) n_is

pub arrived_is : (s c : Connection) → s ≡ c → (up : Upward) (seg : Tcp) (q : Received) (n : ℕ) (fin owed : Bool)
    → q ≡ record s.received { taken = s.received.taken + n; ended = s.received.ended || fin }
    → n ≡ count_taken s.received seg.seq seg.body up
    → fin ≡ is_end_taken s.received seg.seq seg.body (is_fin seg) (s.received.taken + n)
    → owed ≡ is_to_acknowledge s.received seg.seq seg.body (is_fin seg)
    → record s { received = q; ack_owed = s.ack_owed || owed } ≡ arrived c up seg
arrived_is s c is up seg q n fin owed q_is n_is fin_is owed_is =
    ap (λ (r : Received). record s { received = r; ack_owed = s.ack_owed || owed }) (received_is s.received q up seg n fin q_is n_is fin_is)
    ∙ ap (λ (o : Bool). record s { received = received_after s.received seg.seq seg.body (is_fin seg) up; ack_owed = s.ack_owed || o }) owed_is
    ∙ ap (λ (x : Connection). arrived x up seg) is

pub noted_is : (s d : Connection) → s ≡ d → (seen : AckSeen) (fin far : Bool) → fin ≡ is_fin_too seen → far ≡ is_too_far seen
    → record s { fin_acked = s.fin_acked || fin; ack_owed = s.ack_owed || far } ≡ noted d seen
noted_is s d is seen fin far fin_is far_is =
    ap (λ (b : Bool). record s { fin_acked = s.fin_acked || b; ack_owed = s.ack_owed || far }) fin_is
    ∙ ap (λ (b : Bool). record s { fin_acked = s.fin_acked || is_fin_too seen; ack_owed = s.ack_owed || b }) far_is
    ∙ ap (λ (x : Connection). noted x seen) is

pub confirmed_is : (s c : Connection) → s ≡ c → (down after : Downward) (seq : Seq) (window : ℕ) (bare : Bool) (now : ℕ) (seen : AckSeen) (t : Transmission)
    → after ≡ without (octets_acked seen) down
    → t ≡ after_ack s.transmission after seq window bare now seen
    → record s { transmission = t } ≡ confirmed c down seq window bare now seen
confirmed_is s c is down after seq window bare now seen t after_is t_is =
    ap (λ (u : Transmission). record s { transmission = u }) (t_is ∙ ap (λ (d : Downward). after_ack s.transmission d seq window bare now seen) after_is)
    ∙ ap (λ (x : Connection). confirmed x down seq window bare now seen) is
