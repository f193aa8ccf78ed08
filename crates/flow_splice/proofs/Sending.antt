-- What a flow owes goes out, or is offered and not taken.
use Rattle.std.proofs.Common.{◌≡◌, ℕ, ◌-◌, ◌≤◌, ◌^◌, length, drop, Bool, true, false, Option, None, Some, if◌then◌else◌, nat_lt, length-take, arith, ap, subst, sym}
use Rattle.sock_buffers.specs.Downward.{Downward}
use Rattle.sock_buffers.specs.Upward.{Upward}
use Rattle.tcp_segment.specs.Tcp.{scale_octets}
use Rattle.tcp_transmit.specs.Transmission.{Feeds, Transmission, is_owed_again, is_unsent, octets_read}
use Rattle.tcp_transmit.specs.Pieces.{IsOfStream, fresh, next, oldest, piece, probe}
use Rattle.tcp_transmit.specs.declared.Piece.{Piece}
use Rattle.tcp_transmit.proofs.Feeding.{sent_feeds}
use Rattle.tcp_transmit.proofs.Owed.{next_of_stream}
use Rattle.tcp_connection.specs.Connection.{Connection, HasBuffers}
use Rattle.tcp_connection.specs.Owing.{after_gone, gone, head_of, owed_of}
use Rattle.tcp_connection.specs.declared.Owed.{Owed}
use Rattle.tcp_connection.specs.declared.Owed.TheVariants.{Syn, SynAck, Data, Ack, Reset}
use Rattle.tcp_connection.proofs.Keeping.{data_owed, gone_has, settled_has}
use Rattle.sim_connection.proofs.Pieces.{some_numbers}
use Rattle.flow_splice.specs.Frames.{IsHeld, frame_length}

-- ---- a piece fits a frame

next_short : (t : Transmission) (down : Downward) → 64 ≤ t.mss → (next t down).length ≤ t.mss
next_short t down least = by (is_owed_again t) (nat_lt t.acked t.sent)
  where
    probe_short : (b : Bool) → (if b then piece t.sent 1 false else piece t.sent 0 (is_unsent t.end)).length ≤ t.mss
    probe_short true = omega (arith, least)
    probe_short false = omega arith

    by : (a b : Bool) → (if a then (if b then oldest t down else probe t down) else fresh t down).length ≤ t.mss
    by true true = omega arith
    by true false = probe_short (nat_lt t.sent (octets_read down))
    by false b = omega arith

pub held_of : (what : Owed) (c : Connection) (up : Upward) (down : Downward) → HasBuffers c up down → owed_of c up down ≡ Some what → IsHeld down what
held_of Syn c up down h owed = tt
held_of SynAck c up down h owed = tt
held_of (Data p) c up down h owed =
    let two = some_numbers c.transmission down p (data_owed c.stage c up down p owed) in
    let stream = subst (λ (q : Piece). IsOfStream c.transmission down q) (sym two.0) (next_of_stream c.transmission down h.feeds two.1) in
    let short = next_short c.transmission down h.feeds.sound.least in
    let same = ap (λ (q : Piece). q.length) two.0 in
    let most = h.feeds.sound.most in
    (stream.low, stream.high, omega (arith, short, same, most))
held_of Ack c up down h owed = tt
held_of (Reset seq ack) c up down h owed = tt

scale_few : (o : Option ℕ) → length (scale_octets o) ≤ 4
scale_few None = omega arith
scale_few (Some n) = omega arith

pub fits_of : (what : Owed) (c : Connection) (up : Upward) (down : Downward) (mru : ℕ) → IsHeld down what → frame_length (head_of c up what) mru down what ≤ 1514
fits_of Syn c up down mru held = omega arith
fits_of SynAck c up down mru held = let few = scale_few (head_of c up SynAck).scale in omega (arith, few)
fits_of (Data p) c up down mru held =
    let long = length-take p.length (drop (p.place - down.first) down.octets) in
    let most = held.2 in
    omega (arith, long, most)
fits_of Ack c up down mru held = omega arith
fits_of (Reset seq ack) c up down mru held = omega arith

-- ---- the buffers stay

gone_feeds : (what : Owed) (c : Connection) (up : Upward) (down : Downward) (now : ℕ) → now ≤ 2 ^ 62 → HasBuffers c up down → owed_of c up down ≡ Some what → Feeds
    (gone what c up now).transmission down
gone_feeds Syn c up down now late h owed = h.feeds
gone_feeds SynAck c up down now late h owed = h.feeds
gone_feeds (Data p) c up down now late h owed = sent_feeds c.transmission down p now late h.feeds (data_owed c.stage c up down p owed)
gone_feeds Ack c up down now late h owed = h.feeds
gone_feeds (Reset seq ack) c up down now late h owed = h.feeds

pub goes_has : (what : Owed) (c : Connection) (up : Upward) (down : Downward) (now : ℕ) → now ≤ 2 ^ 62 → HasBuffers c up down → owed_of c up down ≡ Some what → HasBuffers (gone what c up now) up down
goes_has what c up down now late h owed = gone_has what c up down now owed h (gone_feeds what c up down now late h owed)

pub went_has : (what : Owed) (c : Connection) (up : Upward) (down : Downward) (now : ℕ) → now ≤ 2 ^ 62 → HasBuffers c up down → owed_of c up down ≡ Some what → HasBuffers
    (after_gone what c up now) up down
went_has what c up down now late h owed = settled_has (gone what c up now) up down (goes_has what c up down now late h owed)
