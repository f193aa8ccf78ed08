-- What each change keeps.
use Rattle.std.proofs.Common.{◌≡◌, ℕ, ◌<◌, ◌≤◌, ◌^◌, ◌+◌, Bool, true, false, Option, None, Some, refl, sym, subst, ◌∙◌, arith, if◌then◌else◌, length, drop, length-drop}
use Rattle.sock_buffers.specs.Downward.{Downward}
use Rattle.sock_buffers.specs.Upward.{Upward}
use Rattle.seq_space.specs.declared.Seq.{Seq}
use Rattle.tcp_receive.specs.Received.{Fills, Received}
use Rattle.tcp_segment.specs.Tcp.{Tcp}
use Rattle.tcp_transmit.specs.Acks.{acknowledged as transmission_acknowledged, after_ack, congested_by, is_acceptable, octets_acked, opened as transmission_opened, windowed, without}
use Rattle.tcp_transmit.specs.Pieces.{piece_owed}
use Rattle.tcp_transmit.specs.Timing.{after_expired, watched}
use Rattle.tcp_transmit.specs.Transmission.{Feeds, Transmission}
use Rattle.tcp_transmit.specs.declared.AckSeen.{AckSeen}
use Rattle.tcp_transmit.specs.declared.AckSeen.TheVariants.{Old, Same, Forward, FinToo, TooFar}
use Rattle.tcp_transmit.specs.declared.Piece.{Piece}
use Rattle.retransmit.specs.Resending.{after_expired as resend_expired}
use Rattle.tcp_transmit.specs.declared.End.TheVariants as our_end
use Rattle.tcp_connection.specs.declared.Owed.{Owed}
use Rattle.tcp_connection.specs.declared.Owed.TheVariants.{Syn, SynAck, Data, Ack, Reset}
use Rattle.tcp_connection.specs.declared.Stage.{Stage}
use Rattle.tcp_connection.specs.declared.Stage.TheVariants as stage
use Rattle.tcp_connection.specs.Connection.{Connection, HasBuffers, IsSound, closes_first, has_gone, is_syn_received, is_opening}
use Rattle.tcp_connection.specs.Hosts.{host_ended, is_open, numbers_sent, over_by, reset, resets}
use Rattle.tcp_connection.specs.Owing.{gone, owed_by, owed_of, piece_or_ack}
use Rattle.tcp_connection.specs.Timing.{again, is_spent}
use Rattle.tcp_connection.specs.Segments.{acknowledged, arrived, established, greeted, heard, is_done, opened, seen_of, settled}

-- ---- the sending half keeps its number

first_if : (b : Bool) (x y : Transmission) (n : ℕ) → x.first ≡ n → y.first ≡ n → (if b then x else y).first ≡ n
first_if true x y n x_is y_is = x_is
first_if false x y n x_is y_is = y_is

first_acknowledged : (t : Transmission) (seen : AckSeen) (now : ℕ) → (transmission_acknowledged t seen now).first ≡ t.first
first_acknowledged t Old now = refl
first_acknowledged t Same now = refl
first_acknowledged t (Forward n) now = refl
first_acknowledged t (FinToo n) now = refl
first_acknowledged t TooFar now = refl

first_windowed : (t : Transmission) (seq : Seq) (window : ℕ) → (windowed t seq window).first ≡ t.first
first_windowed t seq window = first_if _ _ _ t.first refl refl

first_opened : (t : Transmission) → (transmission_opened t).first ≡ t.first
first_opened t = first_if _ _ _ t.first refl refl

first_watched : (t : Transmission) (unsent : Bool) (now : ℕ) → (watched t unsent now).first ≡ t.first
first_watched t unsent now = first_if _ _ _ t.first refl refl

pub first_acked : (t : Transmission) (down : Downward) (seq : Seq) (window : ℕ) (bare : Bool) (now : ℕ) (seen : AckSeen) → (after_ack t down seq window bare now seen).first ≡ t.first
first_acked t down seq window bare now seen =
    first_if (is_acceptable seen) _ t t.first (
    first_watched (transmission_opened (windowed (transmission_acknowledged (congested_by t _ (octets_acked seen)) seen now) seq window)) _ now
    ∙ first_opened (windowed (transmission_acknowledged (congested_by t _ (octets_acked seen)) seen now) seq window)
    ∙ first_windowed (transmission_acknowledged (congested_by t _ (octets_acked seen)) seen now) seq window
    ∙ first_acknowledged (congested_by t _ (octets_acked seen)) seen now
    ) refl

pub first_expired : (t : Transmission) → (after_expired t).first ≡ t.first
first_expired t = first_if _ _ _ t.first refl refl

-- ---- soundness

never : {A : Type 0} → false ≡ true → A
never is = cc

-- what is not opening is sound by two facts
pub sound_past : (c : Connection) → is_opening c.stage ≡ false → c.transmission.first ≡ c.ours → c.received.taken < 2 ^ 62 → IsSound c
sound_past c past first few = record {
  first = first;
  few = few;
  untaken = λ opening. never (sym past ∙ opening);
  unended = λ opening. never (sym past ∙ opening);
  unsent = λ opening. never (sym past ∙ opening);
  unanswered = λ opening. never (sym past ∙ opening);
  alone = λ opening. never (sym past ∙ opening);
}

pub greeted_sound : (c : Connection) (seg : Tcp) → is_opening c.stage ≡ true → IsSound c → IsSound (greeted c seg)
greeted_sound c seg opening s = record {
  first = s.first;
  few = omega arith;
  untaken = λ _. refl;
  unended = λ _. refl;
  unsent = λ _. s.unsent opening;
  unanswered = λ _. s.unanswered opening;
  alone = λ _. s.alone opening;
}

pub established_sound : (c : Connection) → IsSound c → IsSound (established c)
established_sound c s = sound_past (established c) refl (first_if c.congestion _ c.transmission c.ours s.first s.first) s.few

pub acknowledged_sound : (c : Connection) (down : Downward) (seg : Tcp) (window : ℕ) (bare : Bool) (now : ℕ) → is_opening c.stage ≡ false → IsSound c → IsSound
    (acknowledged c down seg window bare now)
acknowledged_sound c down seg window bare now past s =
    sound_past (acknowledged c down seg window bare now) past
    (first_acked c.transmission (without (octets_acked (seen_of c.transmission down seg.ack)) down) (record { 0 = seg.seq }) window bare now (seen_of c.transmission down seg.ack) ∙ s.first) s.few

pub arrived_sound : (c : Connection) (up : Upward) (seg : Tcp) → is_opening c.stage ≡ false → (arrived c up seg).received.taken < 2 ^ 62 → IsSound c → IsSound (arrived c up seg)
arrived_sound c up seg past few s = sound_past (arrived c up seg) past s.first few

sound_if : (b : Bool) (x y : Connection) → IsSound x → IsSound y → IsSound (if b then x else y)
sound_if true x y x_is y_is = x_is
sound_if false x y x_is y_is = y_is

pub sound_stage : (c : Connection) (st : Stage) → is_opening st ≡ false → IsSound c → IsSound (record c { stage = st })
sound_stage c st past s = sound_past (record c { stage = st }) past s.first s.few

-- ---- both buffers

pub has_stage : (c : Connection) (st : Stage) (up : Upward) (down : Downward) → is_opening st ≡ false → HasBuffers c up down → HasBuffers (record c { stage = st }) up down
has_stage c st up down past h = record { sound = sound_stage c st past h.sound; fills = h.fills; feeds = h.feeds; size = h.size }

has_if : (b : Bool) (x y : Connection) (up : Upward) (down : Downward) → HasBuffers x up down → HasBuffers y up down → HasBuffers (if b then x else y) up down
has_if true x y up down x_has y_has = x_has
has_if false x y up down x_has y_has = y_has

pub settled_has : (c : Connection) (up : Upward) (down : Downward) → HasBuffers c up down → HasBuffers (settled c) up down
settled_has c up down h =
    has_if (is_done c) _ c up down
    (has_if (closes_first c) _ _ up down (has_stage c stage.TimeWait up down refl h) (has_stage c stage.Closed up down refl h))
    h

over_calling : (b : Bool) (seq : ℕ) → is_opening (if b then resets seq 0 else stage.Closed) ≡ false
over_calling true seq = refl
over_calling false seq = refl

over_past : (st : Stage) (c : Connection) → is_opening (over_by st c) ≡ false
over_past stage.Connecting c = refl
over_past stage.SynSent c = over_calling (has_gone c.sendings) (numbers_sent c)
over_past stage.SynReceived c = refl
over_past stage.Synchronized c = refl
over_past stage.TimeWait c = refl
over_past (stage.Resets seq ack) c = refl
over_past stage.Closed c = refl

pub reset_has : (c : Connection) (up : Upward) (down : Downward) → HasBuffers c up down → HasBuffers (reset c) up down
reset_has c up down h = has_stage c (over_by c.stage c) up down (over_past c.stage c) h

-- the host's socket takes octets of the guest
pub written_has : (c : Connection) (up : Upward) (down : Downward) (n : ℕ) → n ≤ length up.held → HasBuffers c up down
    → HasBuffers c (record up {
      held = drop n up.held;
      written = up.written + n;
    }) down
written_has c up down n few h = record {
  sound = h.sound;
  fills = record { taken = omega (arith, h.fills.taken, length-drop n up.held); next = h.fills.next };
  feeds = h.feeds;
  size = h.size;
}

-- ---- news of the host

-- the sending half keeps what a connection that opens asks of it
record Keeps (t u : Transmission) : Type 0 where
  first : u.first ≡ t.first
  sent : u.sent ≡ t.sent
  window : u.window ≡ t.window
  cwnd : u.cwnd ≡ t.cwnd

keeps_if : (b : Bool) (x y t : Transmission) → Keeps t x → Keeps t y → Keeps t (if b then x else y)
keeps_if true x y t x_is y_is = x_is
keeps_if false x y t x_is y_is = y_is

host_ended_keeps : (t : Transmission) (now : ℕ) → Keeps t (watched (record t { end = our_end.Unsent }) true now)
host_ended_keeps t now = keeps_if _ _ _ t (record { first = refl; sent = refl; window = refl; cwnd = refl }) (record { first = refl; sent = refl; window = refl; cwnd = refl })

keeps_sound : (c : Connection) (u : Transmission) → Keeps c.transmission u → IsSound c → IsSound (record c { transmission = u })
keeps_sound c u k s = record {
  first = k.first ∙ s.first;
  few = s.few;
  untaken = s.untaken;
  unended = s.unended;
  unsent = λ opening. k.sent ∙ s.unsent opening;
  unanswered = λ opening. k.window ∙ s.unanswered opening;
  alone = λ opening. k.cwnd ∙ s.alone opening;
}

pub host_ended_sound : (c : Connection) (now : ℕ) → IsSound c → IsSound (host_ended c now)
host_ended_sound c now s = sound_if (is_open c.transmission.end) _ c (keeps_sound c _ (host_ended_keeps c.transmission now) s) s

-- the stream of the guest and its buffer are as before
pub ended_received : (c : Connection) (now : ℕ) → ((host_ended c now).received ≡ c.received) × ((host_ended c now).ring ≡ c.ring)
ended_received c now = by (is_open c.transmission.end) _
  where
    by : (b : Bool) (u : Transmission) → ((if b then record c { transmission = u } else c).received ≡ c.received) × ((if b then record c { transmission = u } else c).ring ≡ c.ring)
    by true u = (refl, refl)
    by false u = (refl, refl)

pub host_ended_has : (c : Connection) (up : Upward) (down : Downward) (now : ℕ) → HasBuffers c up down → Feeds (host_ended c now).transmission down → HasBuffers (host_ended c now) up down
host_ended_has c up down now h feeds = record {
  sound = host_ended_sound c now h.sound;
  fills = subst (λ (r : Received). Fills r up) (sym (ended_received c now).0) h.fills;
  feeds = feeds;
  size = h.size ∙ sym (ended_received c now).1;
}

pub write_ended_has : (s c : Connection) (up : Upward) (down : Downward) → s ≡ c → HasBuffers c up down → HasBuffers (settled (record s { host_ended = true })) up down
write_ended_has s c up down is h = settled_has (record s { host_ended = true }) up down (subst (λ (x : Connection). HasBuffers (record x { host_ended = true }) up down) (sym is) (record {
  sound = record { first = h.sound.first; few = h.sound.few; untaken = h.sound.untaken; unended = h.sound.unended; unsent = h.sound.unsent; unanswered = h.sound.unanswered; alone = h.sound.alone };
  fills = h.fills;
  feeds = h.feeds;
  size = h.size;
}))

-- ---- what is owed and goes out

not_data : (b : Bool) (p : Piece) (x y : Option Owed) → (x ≡ Some (Data p) → ⊥) → (y ≡ Some (Data p) → ⊥) → (if b then x else y) ≡ Some (Data p) → ⊥
not_data true p x y x_not y_not is = x_not is
not_data false p x y x_not y_not is = y_not is

none_is_data : (p : Piece) (o : Option Owed) → o ≡ None → o ≡ Some (Data p) → ⊥
none_is_data p o none is = cc

ack_is_data : (p : Piece) → (let x : Option Owed = Some Ack in x) ≡ Some (Data p) → ⊥
ack_is_data p is = cc

syn_is_data : (p : Piece) → (let x : Option Owed = Some Syn in x) ≡ Some (Data p) → ⊥
syn_is_data p is = cc

syn_ack_is_data : (p : Piece) → (let x : Option Owed = Some SynAck in x) ≡ Some (Data p) → ⊥
syn_ack_is_data p is = cc

reset_is_data : (p : Piece) (seq ack : Seq) → (let x : Option Owed = Some (Reset seq ack) in x) ≡ Some (Data p) → ⊥
reset_is_data p seq ack is = cc

data_past : (st : Stage) (c : Connection) (up : Upward) (down : Downward) (p : Piece) → owed_by st c up down ≡ Some (Data p) → is_opening st ≡ false
data_past stage.Connecting c up down p is = absurd (none_is_data p None refl is)
data_past stage.SynSent c up down p is = absurd (not_data c.syn_owed p _ _ (syn_is_data p) (none_is_data p None refl) is)
data_past stage.SynReceived c up down p is =
    absurd (not_data c.syn_owed p _ _ (syn_ack_is_data p) (not_data c.ack_owed p _ _ (ack_is_data p) (none_is_data p None refl)) is)
data_past stage.Synchronized c up down p is = refl
data_past stage.TimeWait c up down p is = refl
data_past (stage.Resets seq ack) c up down p is = refl
data_past stage.Closed c up down p is = refl

piece_is : (o : Option Piece) (b : Bool) (p : Piece) → piece_or_ack o b ≡ Some (Data p) → o ≡ Some p
piece_is None b p is = absurd (not_data b p _ _ (ack_is_data p) (none_is_data p None refl) is)
piece_is (Some q) b p is = cc

-- a piece that is owed is that of the sending half
pub data_owed : (st : Stage) (c : Connection) (up : Upward) (down : Downward) (p : Piece) → owed_by st c up down ≡ Some (Data p) → piece_owed c.transmission down ≡ Some p
data_owed stage.Connecting c up down p is = absurd (none_is_data p None refl is)
data_owed stage.SynSent c up down p is = absurd (not_data c.syn_owed p _ _ (syn_is_data p) (none_is_data p None refl) is)
data_owed stage.SynReceived c up down p is =
    absurd (not_data c.syn_owed p _ _ (syn_ack_is_data p) (not_data c.ack_owed p _ _ (ack_is_data p) (none_is_data p None refl)) is)
data_owed stage.Synchronized c up down p is = piece_is (piece_owed c.transmission down) _ p is
data_owed stage.TimeWait c up down p is = absurd (not_data c.ack_owed p _ _ (ack_is_data p) (none_is_data p None refl) is)
data_owed (stage.Resets seq ack) c up down p is = absurd (reset_is_data p seq ack is)
data_owed stage.Closed c up down p is = absurd (none_is_data p None refl is)

gone_sound : (what : Owed) (c : Connection) (up : Upward) (down : Downward) (now : ℕ) → owed_of c up down ≡ Some what → IsSound c → IsSound (gone what c up now)
gone_sound Syn c up down now is s = record { first = s.first; few = s.few; untaken = s.untaken; unended = s.unended; unsent = s.unsent; unanswered = s.unanswered; alone = s.alone }
gone_sound SynAck c up down now is s = record { first = s.first; few = s.few; untaken = s.untaken; unended = s.unended; unsent = s.unsent; unanswered = s.unanswered; alone = s.alone }
gone_sound (Data p) c up down now is s = sound_past (gone (Data p) c up now) (data_past c.stage c up down p is) s.first s.few
gone_sound Ack c up down now is s = record { first = s.first; few = s.few; untaken = s.untaken; unended = s.unended; unsent = s.unsent; unanswered = s.unanswered; alone = s.alone }
gone_sound (Reset seq ack) c up down now is s = sound_stage c stage.Closed refl s

gone_received : (what : Owed) (c : Connection) (up : Upward) (now : ℕ) → ((gone what c up now).received ≡ c.received) × ((gone what c up now).ring ≡ c.ring)
gone_received Syn c up now = (refl, refl)
gone_received SynAck c up now = (refl, refl)
gone_received (Data p) c up now = (refl, refl)
gone_received Ack c up now = (refl, refl)
gone_received (Reset seq ack) c up now = (refl, refl)

pub gone_has : (what : Owed) (c : Connection) (up : Upward) (down : Downward) (now : ℕ) → owed_of c up down ≡ Some what → HasBuffers c up down
    → Feeds (gone what c up now).transmission down → HasBuffers (gone what c up now) up down
gone_has what c up down now is h feeds = record {
  sound = gone_sound what c up down now is h.sound;
  fills = subst (λ (r : Received). Fills r up) (sym (gone_received what c up now).0) h.fills;
  feeds = feeds;
  size = h.size ∙ sym (gone_received what c up now).1;
}

-- ---- the timer

again_by : (b : Bool) (c : Connection) → is_opening c.stage ≡ b → IsSound c → IsSound
    (if b then record c { syn = resend_expired c.syn; syn_owed = true } else record c { transmission = after_expired c.transmission })
again_by true c is s = record { first = s.first; few = s.few; untaken = s.untaken; unended = s.unended; unsent = s.unsent; unanswered = s.unanswered; alone = s.alone }
again_by false c is s = sound_past (record c { transmission = after_expired c.transmission }) is (first_expired c.transmission ∙ s.first) s.few

again_received : (b : Bool) (c x y : Connection) → x.received ≡ c.received → x.ring ≡ c.ring → y.received ≡ c.received → y.ring ≡ c.ring →
    ((if b then x else y).received ≡ c.received) × ((if b then x else y).ring ≡ c.ring)
again_received true c x y xr xs yr ys = (xr, xs)
again_received false c x y xr xs yr ys = (yr, ys)

pub timer_has : (c : Connection) (up : Upward) (down : Downward) → HasBuffers c up down → Feeds (if is_spent c then c else again c).transmission down
    → HasBuffers (if is_spent c then c else again c) up down
timer_has c up down h feeds =
    let inner = again_received (is_opening c.stage) c _ _ refl refl refl refl in
    let same = again_received (is_spent c) c c (again c) refl refl inner.0 inner.1 in
    record {
      sound = sound_if (is_spent c) c (again c) h.sound (again_by (is_opening c.stage) c refl h.sound);
      fills = subst (λ (r : Received). Fills r up) (sym same.0) h.fills;
      feeds = feeds;
      size = h.size ∙ sym same.1;
    }

-- ---- segments

pub opened_sound : (c : Connection) → IsSound c → IsSound (opened c)
opened_sound c s = sound_if (is_syn_received c.stage) (established c) c (established_sound c s) s

pub opened_received : (c : Connection) → ((opened c).received ≡ c.received) × ((opened c).ring ≡ c.ring)
opened_received c = again_received (is_syn_received c.stage) c (established c) c refl refl refl refl

pub heard_sound : (c : Connection) (down : Downward) (seg : Tcp) (now : ℕ) → is_opening (opened c).stage ≡ false → IsSound c → IsSound (heard c down seg now)
heard_sound c down seg now past s = acknowledged_sound (opened c) down seg _ _ now past (opened_sound c s)

pub heard_has : (c : Connection) (up : Upward) (down later : Downward) (seg : Tcp) (now : ℕ) → is_opening (opened c).stage ≡ false → HasBuffers c up down
    → Feeds (heard c down seg now).transmission later → HasBuffers (heard c down seg now) up later
heard_has c up down later seg now past h feeds = record {
  sound = heard_sound c down seg now past h.sound;
  fills = subst (λ (r : Received). Fills r up) (sym (opened_received c).0) h.fills;
  feeds = feeds;
  size = h.size ∙ sym (opened_received c).1;
}

pub arrived_has : (c : Connection) (up later : Upward) (down : Downward) (seg : Tcp) → is_opening c.stage ≡ false → HasBuffers c up down
    → (arrived c up seg).received.taken < 2 ^ 62 → Fills (arrived c up seg).received later → later.size ≡ up.size → HasBuffers (arrived c up seg) later down
arrived_has c up later down seg past h few fills size = record {
  sound = arrived_sound c up seg past few h.sound;
  fills = fills;
  feeds = h.feeds;
  size = size ∙ h.size;
}

pub greeted_has : (c : Connection) (up : Upward) (down : Downward) (seg : Tcp) → is_opening c.stage ≡ true → HasBuffers c up down
    → Feeds (greeted c seg).transmission down → HasBuffers (greeted c seg) up down
greeted_has c up down seg opening h feeds = record {
  sound = greeted_sound c seg opening h.sound;
  fills = record { taken = sym (h.sound.untaken opening) ∙ h.fills.taken; next = h.fills.next };
  feeds = feeds;
  size = h.size;
}

pub welcomed_has : (c : Connection) (up : Upward) (down later : Downward) (seg : Tcp) (now : ℕ) → is_opening c.stage ≡ true → HasBuffers c up down
    → Feeds (acknowledged (established (greeted c seg)) down seg seg.window false now).transmission later
    → HasBuffers (acknowledged (established (greeted c seg)) down seg seg.window false now) up later
welcomed_has c up down later seg now opening h feeds = record {
  sound = acknowledged_sound (established (greeted c seg)) down seg seg.window false now refl (established_sound (greeted c seg) (greeted_sound c seg opening h.sound));
  fills = record { taken = sym (h.sound.untaken opening) ∙ h.fills.taken; next = h.fills.next };
  feeds = feeds;
  size = h.size;
}
