-- The acknowledgement and the window of a segment that is heeded.
use Rattle.std.proofs.Common.{refl, ◌≡◌, ℕ, ◌+◌, ◌-◌, ◌^◌, ◌<◌, ◌≤◌, Bool, true, false, ◌&&◌, Option, None, Some, if◌then◌else◌, nat_eq, nat_lt, pos, ◌-ℤ◌, arith, ap, ◌∙◌}
use Rattle.std.proofs.lemmas.Bool.Decides.{nat_tests}
use Rattle.std.proofs.lemmas.Int.{ints}
use Rattle.cwnd.specs.Congestion.{Congestion}
use Rattle.seq_space.specs.Places.{shifted_place}
use Rattle.seq_space.specs.declared.Seq.{Seq}
use Rattle.sock_buffers.specs.Downward.{Downward}
use Rattle.tcp_transmit.specs.Acks.{IsSeenAs, acknowledged, congested, cwnd_acked, is_duplicate, is_newer, octets_acked, opened, place_acked, windowed}
use Rattle.tcp_transmit.specs.Transmission.{Feeds, IsSentOf, Transmission, edge_of, flight, octets_read}
use Rattle.tcp_transmit.specs.declared.AckSeen.{AckSeen}
use Rattle.tcp_transmit.specs.declared.AckSeen.TheVariants.{Old, Same, Forward, FinToo, TooFar}
use Rattle.tcp_transmit.specs.declared.End.{End}
use Rattle.tcp_transmit.specs.declared.End.TheVariants as our_end
use Rattle.tcp_transmit.specs.declared.Window.{Window}
use Rattle.tcp_connection.specs.Segments.{seen_of}

-- ---- what an acknowledgement is

sent_few : (e : End) (sent_ octets : ℕ) → IsSentOf e sent_ octets → sent_ ≤ octets + 1
sent_few our_end.Open sent_ octets all = omega arith
sent_few our_end.Unsent sent_ octets all = omega arith
sent_few our_end.Sent sent_ octets all = omega arith

pub seen_as : (t : Transmission) (down : Downward) (ack : ℕ) → Feeds t down → IsSeenAs t down (place_acked t ack) (seen_of t down ack)
seen_as t down ack feeds = by (nat_lt p (t.acked + 2 ^ 31)) (nat_lt (t.sent + 2 ^ 31) p) (nat_eq p (t.acked + 2 ^ 31)) (nat_lt (octets_read down + 2 ^ 31) p) refl refl refl refl
  where
    p : ℕ
    p = shifted_place ack t.first t.sent

    few : t.sent ≤ octets_read down + 1
    few = sent_few t.end t.sent (octets_read down) feeds.all

    by : (a b c d : Bool) → nat_lt p (t.acked + 2 ^ 31) ≡ a → nat_lt (t.sent + 2 ^ 31) p ≡ b → nat_eq p (t.acked + 2 ^ 31) ≡ c → nat_lt (octets_read down + 2 ^ 31) p ≡ d
        → IsSeenAs t down (pos p -ℤ pos (2 ^ 31)) (if a then Old else (if b then TooFar else (if c then Same else (if d then FinToo (octets_read down - t.acked) else Forward (p - 2 ^ 31 - t.acked)))))
    by true b c d a_is b_is c_is d_is = grind (arith, ints, nat_tests)
    by false true c d a_is b_is c_is d_is = grind (arith, ints, nat_tests)
    by false false true d a_is b_is c_is d_is = grind (arith, ints, nat_tests)
    by false false false true a_is b_is c_is d_is =
        let one : t.acked + 2 ^ 31 ≤ p = grind (arith, nat_tests) in
        let two : p ≤ t.sent + 2 ^ 31 = grind (arith, nat_tests) in
        let three : (p ≡ t.acked + 2 ^ 31) → ⊥ = grind (arith, nat_tests) in
        let four : octets_read down + 2 ^ 31 < p = grind (arith, nat_tests) in
        (omega (arith, ints, few, two, four), omega (arith, few, two, four, one, three), omega (arith, few, two, four, one, three))
    by false false false false a_is b_is c_is d_is =
        let one : t.acked + 2 ^ 31 ≤ p = grind (arith, nat_tests) in
        let two : p ≤ t.sent + 2 ^ 31 = grind (arith, nat_tests) in
        let three : (p ≡ t.acked + 2 ^ 31) → ⊥ = grind (arith, nat_tests) in
        let four : p ≤ octets_read down + 2 ^ 31 = grind (arith, nat_tests) in
        (omega (arith, one, three), omega (arith, ints, one), omega (arith, one, four), omega (arith, one, two))

-- ---- what it leaves of the sending half

-- what is sent goes on, the windows apart
abbrev pub heard_by : Transmission → Seq → (window : ℕ) → (bare : Bool) → (now : ℕ) → AckSeen → Transmission
heard_by t seq w bare now seen = opened (windowed (acknowledged (congested t w bare seen) seen now) seq w)

-- how far is acknowledged then
abbrev pub acked_by : Transmission → AckSeen → ℕ
acked_by t Old = t.acked
acked_by t Same = t.acked
acked_by t (Forward n) = t.acked + n
acked_by t (FinToo n) = t.acked + n + 1
acked_by t TooFar = t.acked

-- what stays of it: all that the relation reads but what was acknowledged and the window
pub record Stays (t u : Transmission) : Type 0 where
  pub first : u.first ≡ t.first
  pub mss : u.mss ≡ t.mss
  pub sent : u.sent ≡ t.sent
  pub end : u.end ≡ t.end

stays_then : (t u v : Transmission) → Stays t u → Stays u v → Stays t v
stays_then t u v a b = record { first = b.first ∙ a.first; mss = b.mss ∙ a.mss; sent = b.sent ∙ a.sent; end = b.end ∙ a.end }

opened_stays : (t : Transmission) → Stays t (opened t) × ((opened t).acked ≡ t.acked) × ((opened t).window ≡ t.window) × ((opened t).resend ≡ t.resend)
opened_stays t = by (t.probing && nat_lt t.acked (edge_of t.window))
  where
    by : (b : Bool) → Stays t (if b then record t { early = true; probing = false } else t) × ((if b then record t { early = true; probing = false } else t).acked ≡ t.acked)
        × ((if b then record t { early = true; probing = false } else t).window ≡ t.window) × ((if b then record t { early = true; probing = false } else t).resend ≡ t.resend)
    by true = (record { first = refl; mss = refl; sent = refl; end = refl }, refl, refl, refl)
    by false = (record { first = refl; mss = refl; sent = refl; end = refl }, refl, refl, refl)

windowed_stays : (t : Transmission) (seq : Seq) (w : ℕ) → Stays t (windowed t seq w) × ((windowed t seq w).acked ≡ t.acked) × ((windowed t seq w).resend ≡ t.resend)
    × ((windowed t seq w).window ≡ (if is_newer t.window seq.0 t.acked then Some (record { edge = t.acked + w; seq = seq; ack = t.acked }) else t.window))
windowed_stays t seq w = by (is_newer t.window seq.0 t.acked)
  where
    by : (b : Bool) → Stays t (if b then record t { window = Some (record { edge = t.acked + w; seq = seq; ack = t.acked }) } else t)
        × ((if b then record t { window = Some (record { edge = t.acked + w; seq = seq; ack = t.acked }) } else t).acked ≡ t.acked)
        × ((if b then record t { window = Some (record { edge = t.acked + w; seq = seq; ack = t.acked }) } else t).resend ≡ t.resend)
        × ((if b then record t { window = Some (record { edge = t.acked + w; seq = seq; ack = t.acked }) } else t).window ≡
        (if b then Some (record { edge = t.acked + w; seq = seq; ack = t.acked }) else t.window))
    by true = (record { first = refl; mss = refl; sent = refl; end = refl }, refl, refl, refl)
    by false = (record { first = refl; mss = refl; sent = refl; end = refl }, refl, refl, refl)

pub congested_stays : (t : Transmission) (w : ℕ) (bare : Bool) (seen : AckSeen)
    → Stays t (congested t w bare seen) × ((congested t w bare seen).acked ≡ t.acked) × ((congested t w bare seen).window ≡ t.window) × ((congested t w bare seen).resend ≡ t.resend)
    × ((congested t w bare seen).timed ≡ t.timed)
congested_stays t w bare seen = (record { first = refl; mss = refl; sent = refl; end = refl }, refl, refl, refl, refl)

acknowledged_stays : (t : Transmission) (seen : AckSeen) (now : ℕ) → Stays t (acknowledged t seen now) × ((acknowledged t seen now).acked ≡ acked_by t seen) ×
    ((acknowledged t seen now).window ≡ t.window)
acknowledged_stays t Old now = (record { first = refl; mss = refl; sent = refl; end = refl }, refl, refl)
acknowledged_stays t Same now = (record { first = refl; mss = refl; sent = refl; end = refl }, refl, refl)
acknowledged_stays t (Forward n) now = (record { first = refl; mss = refl; sent = refl; end = refl }, refl, refl)
acknowledged_stays t (FinToo n) now = (record { first = refl; mss = refl; sent = refl; end = refl }, refl, refl)
acknowledged_stays t TooFar now = (record { first = refl; mss = refl; sent = refl; end = refl }, refl, refl)

acked_same : (t u : Transmission) (seen : AckSeen) → u.acked ≡ t.acked → acked_by u seen ≡ acked_by t seen
acked_same t u Old is = is
acked_same t u Same is = is
acked_same t u (Forward n) is = ap (λ (a : ℕ). a + n) is
acked_same t u (FinToo n) is = ap (λ (a : ℕ). a + n + 1) is
acked_same t u TooFar is = is

module _ (t : Transmission) (seq : Seq) (w : ℕ) (bare : Bool) (now : ℕ) (seen : AckSeen) where
  one : Transmission
  one = congested t w bare seen

  two : Transmission
  two = acknowledged (congested t w bare seen) seen now

  pub heard_stays : Stays t (heard_by t seq w bare now seen)
  heard_stays =
      stays_then t (congested t w bare seen) (heard_by t seq w bare now seen) (congested_stays t w bare seen).0
      (stays_then (congested t w bare seen) (acknowledged (congested t w bare seen) seen now) (heard_by t seq w bare now seen) (acknowledged_stays (congested t w bare seen) seen now).0
      (stays_then (acknowledged (congested t w bare seen) seen now) (windowed (acknowledged (congested t w bare seen) seen now) seq w) (heard_by t seq w bare now seen)
      (windowed_stays (acknowledged (congested t w bare seen) seen now) seq w).0 (opened_stays (windowed (acknowledged (congested t w bare seen) seen now) seq w)).0))

  acked_two : (acknowledged (congested t w bare seen) seen now).acked ≡ acked_by t seen
  acked_two = (acknowledged_stays (congested t w bare seen) seen now).1 ∙ acked_same t (congested t w bare seen) seen (congested_stays t w bare seen).1

  pub heard_acked : (heard_by t seq w bare now seen).acked ≡ acked_by t seen
  heard_acked = (opened_stays (windowed (acknowledged (congested t w bare seen) seen now) seq w)).1 ∙ (windowed_stays (acknowledged (congested t w bare seen) seen now) seq w).1 ∙ acked_two

  pub heard_resend : (heard_by t seq w bare now seen).resend ≡ (acknowledged (congested t w bare seen) seen now).resend
  heard_resend = (opened_stays (windowed (acknowledged (congested t w bare seen) seen now) seq w)).3 ∙ (windowed_stays (acknowledged (congested t w bare seen) seen now) seq w).2

  pub heard_window : (heard_by t seq w bare now seen).window ≡ (if is_newer t.window seq.0 (acked_by t seen) then Some
      (record { edge = acked_by t seen + w; seq = seq; ack = acked_by t seen }) else t.window)
  heard_window =
      (opened_stays (windowed (acknowledged (congested t w bare seen) seen now) seq w)).2 ∙ (windowed_stays (acknowledged (congested t w bare seen) seen now) seq w).3
      ∙ ap (λ (a : ℕ). if is_newer (acknowledged (congested t w bare seen) seen now).window seq.0 a then Some (record { edge = a + w; seq = seq; ack = a }) else
      (acknowledged (congested t w bare seen) seen now).window) acked_two
      ∙ ap (λ (o : Option Window). if is_newer o seq.0 (acked_by t seen) then Some (record { edge = acked_by t seen + w; seq = seq; ack = acked_by t seen }) else o)
      ((acknowledged_stays (congested t w bare seen) seen now).2 ∙ (congested_stays t w bare seen).2)

-- no congestion window comes from none
pub heard_alone : (t : Transmission) (seq : Seq) (w : ℕ) (bare : Bool) (now : ℕ) (seen : AckSeen) → t.cwnd ≡ None → (heard_by t seq w bare now seen).cwnd ≡ None
heard_alone t seq w bare now seen none = opened_cwnd (windowed (acknowledged (congested t w bare seen) seen now) seq w) ∙ windowed_cwnd
    (acknowledged (congested t w bare seen) seen now) ∙ acknowledged_cwnd (congested t w bare seen) seen ∙ first
  where
    opened_cwnd : (t : Transmission) → (opened t).cwnd ≡ t.cwnd
    opened_cwnd t = by (t.probing && nat_lt t.acked (edge_of t.window))
      where
        by : (b : Bool) → (if b then record t { early = true; probing = false } else t).cwnd ≡ t.cwnd
        by true = refl
        by false = refl

    windowed_cwnd : (t : Transmission) → (windowed t seq w).cwnd ≡ t.cwnd
    windowed_cwnd t = by (is_newer t.window seq.0 t.acked)
      where
        by : (b : Bool) → (if b then record t { window = Some (record { edge = t.acked + w; seq = seq; ack = t.acked }) } else t).cwnd ≡ t.cwnd
        by true = refl
        by false = refl

    acknowledged_cwnd : (t : Transmission) (seen : AckSeen) → (acknowledged t seen now).cwnd ≡ t.cwnd
    acknowledged_cwnd t Old = refl
    acknowledged_cwnd t Same = refl
    acknowledged_cwnd t (Forward n) = refl
    acknowledged_cwnd t (FinToo n) = refl
    acknowledged_cwnd t TooFar = refl

    first : (congested t w bare seen).cwnd ≡ None
    first = ap (λ (o : Option Congestion). cwnd_acked o (is_duplicate t w bare seen) (flight t) (octets_acked seen)) none
