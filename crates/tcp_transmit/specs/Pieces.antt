-- What is sent next (RFC 9293, 3.8).
use Rattle.std.specs.Prelude.{◌≡◌, ℕ, ◌+◌, ◌-◌, ◌<◌, ◌≤◌, Bool, true, false, ◌&&◌, ◌⊎◌, nat_lt, nat_eq, Option, None, Some, min, if◌then◌else◌}
use Rattle.cwnd.specs.Congestion.{Congestion}
use Rattle.sock_buffers.specs.Downward.{Downward}
use Rattle.tcp_transmit.specs.Transmission.{Transmission, octets_read, places, reach, is_unsent, is_sent, is_owed_again}
use Rattle.tcp_transmit.specs.declared.Piece.{Piece}

abbrev pub piece : ℕ → ℕ → Bool → Piece
piece place octets fin = record { place = place; length = octets; fin = fin }

-- how many sequence numbers a piece takes: one for each octet, and one for FIN (SEG.LEN)
abbrev pub numbers : Piece → ℕ
numbers p = if p.fin then p.length + 1 else p.length

-- the place after a piece
abbrev pub end_of : Piece → ℕ
end_of p = p.place + numbers p

-- For the first time goes, from the first unsent place on, the smallest of MSS, the octets left and the windows left. FIN
-- goes with the last octet of an ended stream, where both windows have room for it too, and else alone.
abbrev pub fresh_length : Transmission → Downward → ℕ
fresh_length t down = min t.mss (min (octets_read down - t.sent) (reach t - t.sent))

abbrev pub fresh : Transmission → Downward → Piece
fresh t down =
    let end = t.sent + fresh_length t down in
    piece t.sent (fresh_length t down) (is_unsent t.end && nat_eq end (octets_read down) && nat_lt end (reach t))

-- Again goes, from the first unacknowledged place on, the smaller of MSS and the octets that were sent, with FIN where it
-- was sent and the last octet is among them. The windows aren't asked (RFC 6298, 5.4).
abbrev pub oldest_length : Transmission → Downward → ℕ
oldest_length t down = min t.mss (min t.sent (octets_read down) - t.acked)

abbrev pub oldest : Transmission → Downward → Piece
oldest t down =
    piece t.acked (oldest_length t down) (is_sent t.end && nat_eq (t.acked + oldest_length t down) (octets_read down))

-- Past a closed window goes one number, the first unsent octet or else FIN (3.8.6.1).
abbrev pub probe : Transmission → Downward → Piece
probe t down = if nat_lt t.sent (octets_read down) then piece t.sent 1 false else piece t.sent 0 (is_unsent t.end)

-- Where something is owed again it is the oldest piece while numbers are under way, and else a probe.
abbrev pub next : Transmission → Downward → Piece
next t down =
    if is_owed_again t then (if nat_lt t.acked t.sent then oldest t down else probe t down) else fresh t down

-- a piece is owed where there is a number to send
abbrev pub piece_owed : Transmission → Downward → Option Piece
piece_owed t down = if nat_lt 0 (numbers (next t down)) then Some (next t down) else None

-- nothing is owed: nothing is owed again, and all is sent or the windows have no room
abbrev pub OwesNothing : Transmission → Downward → Type 0
OwesNothing t down = (is_owed_again t ≡ false) × ((places t down ≤ t.sent) ⊎ (reach t ≤ t.sent))

-- the octets of a piece are held at its place, which leaves no gap after what was sent, and FIN comes after the last octet
-- of an ended stream
pub record IsOfStream (t : Transmission) (down : Downward) (p : Piece) : Type 0 where
  pub low : down.first ≤ p.place
  pub high : p.place + p.length ≤ octets_read down
  pub joins : p.place ≤ t.sent
  pub last : p.fin ≡ true → (p.place + p.length ≡ octets_read down) × (places t down ≡ octets_read down + 1)

-- what goes again while numbers are under way begins at the first of them, has a number, and ends among them
pub record GoesAgain (t : Transmission) (p : Piece) : Type 0 where
  pub place : p.place ≡ t.acked
  pub some : 0 < numbers p
  pub within : end_of p ≤ t.sent

-- past a closed window goes one number after what was sent
pub record Probes (t : Transmission) (p : Piece) : Type 0 where
  pub place : p.place ≡ t.sent
  pub one : numbers p ≡ 1

-- a place is within the congestion window, where there is one
abbrev pub IsWithin : Option Congestion → (acked end : ℕ) → Type 0
IsWithin None acked end = Unit {0}
IsWithin (Some c) acked end = end ≤ acked + c.window
