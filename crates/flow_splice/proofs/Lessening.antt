-- Less is left after each segment.
use Rattle.std.proofs.Common.{refl, ◌≡◌, ℕ, ◌+◌, ◌-◌, ◌*◌, ◌<◌, ◌≤◌, Bool, true, false, not, ◌&&◌, ◌||◌, Option, None, Some, if◌then◌else◌, nat_lt, max, arith, ap, subst, sym, ◌∙◌}
use Rattle.std.proofs.lemmas.Bool.Decides.{nat_tests}
use Rattle.retransmit.specs.Resending.{is_expired, set_unless_running}
use Rattle.retransmit.specs.declared.Timer.{Timer}
use Rattle.retransmit.specs.declared.Timer.TheVariants as timer
use Rattle.sock_buffers.specs.Downward.{Downward}
use Rattle.sock_buffers.specs.Upward.{Upward}
use Rattle.tcp_transmit.specs.Transmission.{Transmission, is_owed_again, octets_read}
use Rattle.tcp_transmit.specs.Timing.{after_sent, goes_again}
use Rattle.tcp_transmit.specs.Pieces.{end_of, fresh, next, numbers, oldest, piece_owed, probe}
use Rattle.tcp_transmit.specs.declared.Piece.{Piece}
use Rattle.tcp_transmit.proofs.Feeding.{owed_ends}
use Rattle.tcp_connection.specs.Connection.{Connection, HasBuffers, closes_first, is_synchronized}
use Rattle.tcp_connection.specs.Owing.{ack_if, after_gone, gone, owed_by, owed_of, piece_or_ack, told}
use Rattle.tcp_connection.specs.Segments.{is_done, settled}
use Rattle.tcp_connection.specs.Windows.{is_update_owed, moves_far, our_shift, told_edge}
use Rattle.tcp_connection.specs.declared.Owed.{Owed}
use Rattle.tcp_connection.specs.declared.Owed.TheVariants.{Syn, SynAck, Data, Ack, Reset}
use Rattle.tcp_connection.specs.declared.Stage.{Stage}
use Rattle.tcp_connection.specs.declared.Stage.TheVariants as stage
use Rattle.sim_connection.proofs.Pieces.{some_numbers}
use Rattle.flow_splice.specs.Left.{count_if, left_by}

-- where both ends passed no more is left
settled_left : (x : Connection) (up : Upward) (down : Downward) → left_by (settled x).stage (settled x) up down ≤ left_by x.stage x up down
settled_left x up down = by (is_done x) (closes_first x) refl
  where
    at_sync : (st : Stage) → is_synchronized st ≡ true → count_if x.ack_owed 1 ≤ left_by st x up down
    at_sync stage.Connecting is = absurd cc
    at_sync stage.SynSent is = absurd cc
    at_sync stage.SynReceived is = absurd cc
    at_sync stage.Synchronized is = or_more x.ack_owed (is_update_owed x up) (4 * (octets_read down + 2 - x.transmission.sent) + count_if (is_owed_again x.transmission) 2)
      where
        or_more : (a b : Bool) (n : ℕ) → count_if a 1 ≤ n + count_if (a || b) 1
        or_more true b n = omega arith
        or_more false b n = omega arith
    at_sync stage.TimeWait is = absurd cc
    at_sync (stage.Resets seq ack) is = absurd cc
    at_sync stage.Closed is = absurd cc

    first_is : (a b d e : Bool) → (a && b && d && e) ≡ true → a ≡ true
    first_is true b d e is = refl
    first_is false b d e is = absurd cc

    by : (b d : Bool) → is_done x ≡ b → left_by (if b then (if d then record x { stage = stage.TimeWait } else record x { stage = stage.Closed }) else x).stage
        (if b then (if d then record x { stage = stage.TimeWait } else record x { stage = stage.Closed }) else x) up down ≤ left_by x.stage x up down
    by true true done = at_sync x.stage (first_is (is_synchronized x.stage) x.host_ended x.fin_acked x.end_acknowledged done)
    by true false done = omega arith
    by false d done = omega arith

-- nothing is owed again after a piece
none_again : (t : Transmission) (p : Piece) (now : ℕ) → is_owed_again (after_sent t p now) ≡ false
none_again t p now = ap (λ (b : Bool). b || false) (by (goes_again t p) t.resend.timer)
  where
    by : (b : Bool) (tm : Timer) → is_expired (if b then timer.Since now else set_unless_running tm now) ≡ false
    by true tm = refl
    by false timer.Off = refl
    by false (timer.Since base) = refl
    by false (timer.Expired at) = refl

-- nor is a window to be told that was
none_far : (edge : ℕ) → moves_far (Some edge) edge ≡ false
none_far edge = grind (arith, nat_tests)

none_told : (c : Connection) (up : Upward) → is_update_owed (told c up (our_shift c)) up ≡ false
none_told c up = last (c.received.ended) (moves_far (Some (told_edge c up (our_shift c))) (told_edge c up (our_shift c))) (none_far (told_edge c up (our_shift c)))
  where
    last : (a b : Bool) → b ≡ false → (not a && b) ≡ false
    last true b is = refl
    last false b is = is

-- a piece
piece_less : (t : Transmission) (down : Downward) (p : Piece) → p ≡ next t down → 0 < numbers p → end_of p ≤ octets_read down + 1
    → 4 * (octets_read down + 2 - max t.sent (end_of p)) < 4 * (octets_read down + 2 - t.sent) + count_if (is_owed_again t) 2
piece_less t down p is some ends = by (is_owed_again t) refl
  where
    by : (b : Bool) → is_owed_again t ≡ b → 4 * (octets_read down + 2 - max t.sent (end_of p)) < 4 * (octets_read down + 2 - t.sent) + count_if b 2
    by true again = omega arith
    by false once =
        let at : p.place ≡ t.sent = ap (λ (q : Piece). q.place) is ∙ ap (λ (b : Bool). (if b then (if nat_lt t.acked t.sent then oldest t down else probe t down) else fresh t down).place) once in
        omega (arith, at, some, ends)

if_some : (b : Bool) (w what : Owed) → (if b then Some w else None) ≡ Some what → (b ≡ true) × (w ≡ what)
if_some true w what is = (refl, cc)
if_some false w what is = absurd cc

module _ (c : Connection) (up : Upward) (down : Downward) (now : ℕ) (h : HasBuffers c up down) where
  abbrev Less : Owed → Stage → Type 0
  Less what st = left_by (gone what c up now).stage (gone what c up now) up down < left_by st c up down

  less_at : (st : Stage) → c.stage ≡ st → (what : Owed) → owed_by st c up down ≡ Some what → Less what st
  less_at stage.Connecting at what owed = absurd cc
  less_at stage.SynSent at what owed =
      let two = if_some c.syn_owed Syn what owed in
      subst (λ (w : Owed). Less w stage.SynSent) two.1
      (subst (λ (st : Stage). left_by st (gone Syn c up now) up down < count_if c.syn_owed 1) (sym at) (let one = ap (λ (b : Bool). count_if b 1) two.0 in omega (arith, one)))
  less_at stage.SynReceived at what owed = by c.syn_owed refl owed
    where
      by : (b : Bool) → c.syn_owed ≡ b → (if b then Some SynAck else ack_if c.ack_owed) ≡ Some what → Less what stage.SynReceived
      by true syn is =
          let same : SynAck ≡ what = cc in
          subst (λ (w : Owed). Less w stage.SynReceived) same
          (subst (λ (st : Stage). left_by st (gone SynAck c up now) up down < count_if c.syn_owed 2 + count_if c.ack_owed 1) (sym at)
          (let some = ap (λ (b : Bool). count_if b 2) syn in omega (arith, some)))
      by false syn is =
          let two = if_some c.ack_owed Ack what is in
          subst (λ (w : Owed). Less w stage.SynReceived) two.1
          (subst (λ (st : Stage). left_by st (gone Ack c up now) up down < count_if c.syn_owed 2 + count_if c.ack_owed 1) (sym at)
          (let none = ap (λ (b : Bool). count_if b 2) syn in let one = ap (λ (b : Bool). count_if b 1) two.0 in omega (arith, none, one)))
  less_at stage.Synchronized at what owed = by (piece_owed c.transmission down) refl owed
    where
      by : (p : Option Piece) → piece_owed c.transmission down ≡ p → piece_or_ack p (c.ack_owed || is_update_owed c up) ≡ Some what → Less what stage.Synchronized
      by None none is =
          let two = if_some (c.ack_owed || is_update_owed c up) Ack what is in
          let one = ap (λ (b : Bool). count_if b 1) two.0 in
          let zero_is = ap (λ (b : Bool). count_if b 1) (none_told c up) in
          subst (λ (w : Owed). Less w stage.Synchronized) two.1
          (subst (λ (st : Stage). left_by st (gone Ack c up now) up down < left_by stage.Synchronized c up down) (sym at) (omega (arith, one, zero_is)))
      by (Some p) some is =
          let same : Data p ≡ what = cc in
          let two = some_numbers c.transmission down p some in
          let ends = owed_ends c.transmission down p h.feeds some in
          let less = piece_less c.transmission down p two.0 (subst (λ (q : Piece). 0 < numbers q) (sym two.0) two.1) ends in
          let again = ap (λ (b : Bool). count_if b 2) (none_again c.transmission p now) in
          let zero_is = ap (λ (b : Bool). count_if b 1) (none_told c up) in
          subst (λ (w : Owed). Less w stage.Synchronized) same
          (subst (λ (st : Stage). left_by st (gone (Data p) c up now) up down < left_by stage.Synchronized c up down) (sym at) (omega (arith, less, again, zero_is)))
  less_at stage.TimeWait at what owed =
      let two = if_some c.ack_owed Ack what owed in
      subst (λ (w : Owed). Less w stage.TimeWait) two.1
      (subst (λ (st : Stage). left_by st (gone Ack c up now) up down < count_if c.ack_owed 1) (sym at) (let one = ap (λ (b : Bool). count_if b 1) two.0 in omega (arith, one)))
  less_at (stage.Resets seq ack) at what owed =
      let same : Reset seq ack ≡ what = cc in
      subst (λ (w : Owed). Less w (stage.Resets seq ack)) same (omega arith)
  less_at stage.Closed at what owed = absurd cc

  pub less : (what : Owed) → owed_of c up down ≡ Some what → left_by (after_gone what c up now).stage (after_gone what c up now) up down < left_by c.stage c up down
  less what owed =
      let fewer = less_at c.stage refl what owed in
      let no_more = settled_left (gone what c up now) up down in
      omega (arith, fewer, no_more)
