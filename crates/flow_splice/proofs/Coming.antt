-- A segment of the guest arrives at a flow whose socket is open.
use Rattle.std.proofs.Common.{refl, ◌≡◌, ℕ, List, Bool, true, false, if◌then◌else◌, ◌∙◌}
use Rattle.sock_buffers.specs.Downward.{Downward}
use Rattle.sock_buffers.specs.Upward.{Upward}
use Rattle.tcp_receive.specs.Received.{up_after}
use Rattle.tcp_segment.specs.Tcp.{Tcp}
use Rattle.tcp_transmit.specs.Acks.{octets_acked, without}
use Rattle.tcp_connection.specs.Checks.{is_ack, verdict_of}
use Rattle.tcp_connection.specs.Connection.{Connection}
use Rattle.tcp_connection.specs.Segments.{after_segment, arrived, change_at, change_by, conn_by, down_after_segment, down_by, established, greeted, heard as conn_heard, is_past, opened}
use Rattle.tcp_connection.specs.Segments.{seen_of, settled, settling, up_after_segment, up_by}
use Rattle.tcp_connection.specs.declared.Change.TheVariants.{Nothing}
use Rattle.tcp_connection.specs.declared.Verdict.{Verdict}
use Rattle.tcp_connection.specs.declared.Verdict.TheVariants.{Ignored, Resets, Unacceptable, Repeats, Challenged, Greets, Heeded}
use Rattle.sim_connection.specs.Holding.{is_live}
use Rattle.sim_connection.proofs.Coming.{sized}
use Rattle.flow_splice.specs.Guests.{heard}
use Rattle.flow_splice.specs.Hosts.{IsAsOld, Sees, ends}
use Rattle.flow_splice.specs.Splice.{Splice}
use Rattle.flow_splice.specs.Stays.{Stays}
use Rattle.flow_splice.proofs.Shutting.{settled_over}
use Rattle.world_face.specs.Journal.{Entry}

-- ---- sizes stay

up_stays : (v : Verdict) (c : Connection) (up : Upward) (down : Downward) (tcp : Tcp) → ((up_by v c up down tcp).size ≡ up.size) × ((up_by v c up down tcp).written ≡ up.written)
up_stays Ignored c up down tcp = (refl, refl)
up_stays Resets c up down tcp = (refl, refl)
up_stays Unacceptable c up down tcp = (refl, refl)
up_stays Repeats c up down tcp = (refl, refl)
up_stays Challenged c up down tcp = (refl, refl)
up_stays Greets c up down tcp = (refl, refl)
up_stays Heeded c up down tcp = by (is_past (opened c) down tcp)
  where
    by : (b : Bool) → ((if b then up else up_after c.received tcp.seq tcp.body up).size ≡ up.size) × ((if b then up else up_after c.received tcp.seq tcp.body up).written ≡ up.written)
    by true = (refl, refl)
    by false = sized c.received tcp.seq tcp.body up

down_stays : (v : Verdict) (c : Connection) (down : Downward) (tcp : Tcp) → (down_by v c down tcp).size ≡ down.size
down_stays Ignored c down tcp = refl
down_stays Resets c down tcp = refl
down_stays Unacceptable c down tcp = refl
down_stays Repeats c down tcp = refl
down_stays Challenged c down tcp = refl
down_stays Greets c down tcp = by (is_ack tcp)
  where
    by : (b : Bool) → (if b then without (octets_acked (seen_of (established (greeted c tcp)).transmission down tcp.ack)) down else down).size ≡ down.size
    by true = refl
    by false = refl
down_stays Heeded c down tcp = refl

pub up_sized : (c : Connection) (up : Upward) (down : Downward) (tcp : Tcp) → (up_after_segment c up down tcp).size ≡ up.size
up_sized c up down tcp = (up_stays (verdict_of c up tcp) c up down tcp).0

pub down_sized : (c : Connection) (up : Upward) (down : Downward) (tcp : Tcp) → (down_after_segment c up down tcp).size ≡ down.size
down_sized c up down tcp = down_stays (verdict_of c up tcp) c down tcp

pub heard_as_old : (f : Splice) (tcp : Tcp) (now : ℕ) → IsAsOld f (heard f tcp now)
heard_as_old f tcp now = record {
  face = refl;
  mac = refl;
  since = refl;
  accepted = refl;
  asked = refl;
  ask_at = refl;
  up_size = (up_stays (verdict_of f.conn f.up tcp) f.conn f.up f.down tcp).0;
  down_size = down_stays (verdict_of f.conn f.up tcp) f.conn f.down tcp;
  mru = refl;
}

pub heard_written : (f : Splice) (tcp : Tcp) (now : ℕ) → (heard f tcp now).up.written ≡ f.up.written
heard_written f tcp now = (up_stays (verdict_of f.conn f.up tcp) f.conn f.up f.down tcp).1

pub sees_stays : (b : Bool) (mid new : Splice) (now : ℕ) (made : List Entry) → Sees b mid new now made → Stays mid new
sees_stays true mid new now made sees =
    rw sees.1 (record { same = record { face = refl; mac = refl; since = refl; accepted = refl; asked = refl; ask_at = refl; up_size = refl; down_size = refl; mru = refl }; up = refl; down = refl })
sees_stays false mid new now made sees =
    rw sees.1 (record { same = record { face = refl; mac = refl; since = refl; accepted = refl; asked = refl; ask_at = refl; up_size = refl; down_size = refl; mru = refl }; up = refl; down = refl })

pub as_old_then : (old mid new : Splice) → IsAsOld old mid → IsAsOld mid new → IsAsOld old new
as_old_then old mid new a b = record {
  face = b.face ∙ a.face;
  mac = b.mac ∙ a.mac;
  since = b.since ∙ a.since;
  accepted = b.accepted ∙ a.accepted;
  asked = b.asked ∙ a.asked;
  ask_at = b.ask_at ∙ a.ask_at;
  up_size = b.up_size ∙ a.up_size;
  down_size = b.down_size ∙ a.down_size;
  mru = b.mru ∙ a.mru;
}

pub stays_then : (old mid new : Splice) → Stays old mid → Stays mid new → Stays old new
stays_then old mid new a b = record { same = as_old_then old mid new a.same b.same; up = b.up ∙ a.up; down = b.down ∙ a.down }

-- ---- a change that ends the connection

dead_by : (v : Verdict) (c : Connection) (up : Upward) (down : Downward) (tcp : Tcp) (now : ℕ) → ends (change_by v c up down tcp now) ≡ true → is_live (conn_by v c up down tcp now).stage ≡ false
dead_by Ignored c up down tcp now is = absurd cc
dead_by Resets c up down tcp now is = refl
dead_by Unacceptable c up down tcp now is = absurd cc
dead_by Repeats c up down tcp now is = absurd cc
dead_by Challenged c up down tcp now is = absurd cc
dead_by Greets c up down tcp now is = absurd cc
dead_by Heeded c up down tcp now is = by (is_past (opened c) down tcp) is
  where
    by : (b : Bool) → ends (if b then Nothing else settling (arrived (conn_heard c down tcp now) up tcp)) ≡ true → is_live (if b then conn_heard c down tcp now else settled
        (arrived (conn_heard c down tcp now) up tcp)).stage ≡ false
    by true is = absurd cc
    by false is = settled_over (arrived (conn_heard c down tcp now) up tcp) is

pub heard_dead : (c : Connection) (up : Upward) (down : Downward) (tcp : Tcp) (now : ℕ) → ends (change_at c up down tcp now) ≡ true → is_live (after_segment c up down tcp now).stage ≡ false
heard_dead c up down tcp now is = dead_by (verdict_of c up tcp) c up down tcp now is
