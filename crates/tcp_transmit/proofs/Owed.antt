-- The piece that is owed is one of the stream.
use Rattle.std.proofs.Common.{◌≡◌, ℕ, ◌+◌, ◌-◌, ◌<◌, ◌≤◌, Bool, true, false, ◌&&◌, ◌||◌, ◌⊎◌, Option, None, Some, nat_lt, nat_eq, min, max, if◌then◌else◌, arith, refl, ap, inl, subst, sym}
use Rattle.std.proofs.lemmas.Bool.Decides.{nat_tests}
use Rattle.cwnd.specs.Congestion.{Congestion}
use Rattle.retransmit.specs.Resending.{is_expired, is_off}
use Rattle.retransmit.specs.declared.Timer.{Timer}
use Rattle.retransmit.specs.declared.Timer.TheVariants.{Off, Since, Expired}
use Rattle.sock_buffers.specs.Downward.{Downward}
use Rattle.tcp_transmit.specs.Pieces.{GoesAgain, IsOfStream, IsWithin, OwesNothing, Probes, end_of, fresh, fresh_length, next, numbers, oldest, oldest_length, piece, probe}
use Rattle.tcp_transmit.specs.Transmission.{Feeds, IsSentOf, IsSound, IsOfSegments, Transmission, edge_of, is_owed_again, is_sent, is_unsent, octets_read, end_places, reach, reach_by}
use Rattle.tcp_transmit.specs.declared.End.{End}
use Rattle.tcp_transmit.specs.declared.End.TheVariants.{Open, Unsent, Sent}
use Rattle.tcp_transmit.specs.declared.Piece.{Piece}

some_mss : (t : Transmission) → IsSound t → 0 < t.mss
some_mss t sound = let least = sound.least in omega arith

-- what is known of a piece with a number: it lies in the stream, FIN comes last, and it begins at or before what was sent
pub record Lies (end : End) (first acked sent octets : ℕ) (p : Piece) : Type 0 where
  pub low : first ≤ p.place
  pub high : p.place + p.length ≤ octets
  pub last : p.fin ≡ true → (p.place + p.length ≡ octets) × (end_places end ≡ 1)
  pub start : p.place ≤ sent
  pub under_way : acked < max sent (end_of p)

fresh_lies : (end : End) (mss first acked sent octets edge n : ℕ) → n ≡ min mss (min (octets - sent) (edge - sent))
    → IsSentOf end sent octets → acked ≤ sent → first ≡ min acked octets
    → 0 < numbers (piece sent n (is_unsent end && nat_eq (sent + n) octets && nat_lt (sent + n) edge))
    → Lies end first acked sent octets (piece sent n (is_unsent end && nat_eq (sent + n) octets && nat_lt (sent + n) edge))
fresh_lies Open mss first acked sent octets edge n is all within from some = record {
  low = omega arith;
  high = omega arith;
  last = λ no. cc;
  start = omega arith;
  under_way = omega arith;
}
fresh_lies Unsent mss first acked sent octets edge n is all within from some = record {
  low = omega arith;
  high = grind (arith, nat_tests);
  last = λ yes. (grind (arith, nat_tests), refl);
  start = omega arith;
  under_way = grind (arith, nat_tests);
}
fresh_lies Sent mss first acked sent octets edge n is all within from some = absurd (omega arith)

oldest_lies : (end : End) (mss first acked sent octets n : ℕ) → n ≡ min mss (min sent octets - acked)
    → IsSentOf end sent octets → acked < sent → first ≡ min acked octets
    → Lies end first acked sent octets (piece acked n (is_sent end && nat_eq (acked + n) octets))
oldest_lies Open mss first acked sent octets n is all within from = record {
  low = omega arith;
  high = omega arith;
  last = λ no. cc;
  start = omega arith;
  under_way = omega arith;
}
oldest_lies Unsent mss first acked sent octets n is all within from = record {
  low = omega arith;
  high = omega arith;
  last = λ no. cc;
  start = omega arith;
  under_way = omega arith;
}
oldest_lies Sent mss first acked sent octets n is all within from = record {
  low = omega arith;
  high = omega arith;
  last = λ yes. (grind (arith, nat_tests), refl);
  start = omega arith;
  under_way = omega arith;
}

probe_lies : (end : End) (has : Bool) (first acked sent octets : ℕ) → nat_lt sent octets ≡ has
    → IsSentOf end sent octets → acked ≡ sent → first ≡ min acked octets
    → 0 < numbers (if has then piece sent 1 false else piece sent 0 (is_unsent end))
    → Lies end first acked sent octets (if has then piece sent 1 false else piece sent 0 (is_unsent end))
probe_lies end true first acked sent octets is all at from some = record {
  low = omega arith;
  high = grind (arith, nat_tests);
  last = λ no. cc;
  start = omega arith;
  under_way = omega arith;
}
probe_lies Open false first acked sent octets is all at from some = absurd (omega arith)
probe_lies Unsent false first acked sent octets is all at from some = record {
  low = omega arith;
  high = omega arith;
  last = λ yes. (grind (arith, nat_tests), refl);
  start = omega arith;
  under_way = omega arith;
}
probe_lies Sent false first acked sent octets is all at from some = absurd (omega arith)

chosen : (expired under : Bool) (a b c : Piece) (P : Piece → Type 0)
    → (expired ≡ true → under ≡ true → P a) → (expired ≡ true → under ≡ false → P b) → (expired ≡ false → P c)
    → P (if expired then (if under then a else b) else c)
chosen true true a b c P f g h = f refl refl
chosen true false a b c P f g h = g refl refl
chosen false under a b c P f g h = h refl

-- what goes next lies in the stream, where it has a number
pub next_lies : (t : Transmission) (down : Downward) → Feeds t down → 0 < numbers (next t down)
    → Lies t.end down.first t.acked t.sent (octets_read down) (next t down)
next_lies t down feeds some =
    let order = feeds.sound.order in
    chosen (is_owed_again t) (nat_lt t.acked t.sent) (oldest t down) (probe t down) (fresh t down)
    (λ p. 0 < numbers p → Lies t.end down.first t.acked t.sent (octets_read down) p)
    (λ _ under _. oldest_lies t.end t.mss down.first t.acked t.sent (octets_read down) (oldest_length t down) refl feeds.all (grind (arith, nat_tests)) feeds.first)
    (λ _ not_under some. probe_lies t.end (nat_lt t.sent (octets_read down)) down.first t.acked t.sent (octets_read down) refl feeds.all (grind (arith, nat_tests)) feeds.first some)
    (λ _ some. fresh_lies t.end t.mss down.first t.acked t.sent (octets_read down) (reach t) (fresh_length t down) refl feeds.all feeds.sound.order feeds.first some)
    some

-- so it is a piece of the stream
pub next_of_stream : (t : Transmission) (down : Downward) → Feeds t down → 0 < numbers (next t down)
    → IsOfStream t down (next t down)
next_of_stream t down feeds some =
    let lies = next_lies t down feeds some in
    record {
      low = lies.low;
      high = lies.high;
      joins = lies.start;
      last = λ yes. ((lies.last yes).0, ap (λ n. octets_read down + n) (lies.last yes).1);
    }

-- what is sent again has a number
oldest_some : (end : End) (mss acked sent octets n : ℕ) → n ≡ min mss (min sent octets - acked) → 0 < mss
    → IsSentOf end sent octets → acked < sent
    → numbers (piece acked n (is_sent end && nat_eq (acked + n) octets)) ≡ 0 → ⊥
oldest_some Open mss acked sent octets n is some all under none = omega arith
oldest_some Unsent mss acked sent octets n is some all under none = omega arith
oldest_some Sent mss acked sent octets n is some all under none = grind (arith, nat_tests)

-- and so has a probe, where something is unsent
probe_some : (end : End) (has : Bool) (sent octets : ℕ) → nat_lt sent octets ≡ has → IsSentOf end sent octets
    → sent < octets + end_places end
    → numbers (if has then piece sent 1 false else piece sent 0 (is_unsent end)) ≡ 0 → ⊥
probe_some end true sent octets is all unsent none = omega arith
probe_some Open false sent octets is all unsent none = grind (arith, nat_tests)
probe_some Unsent false sent octets is all unsent none = omega arith
probe_some Sent false sent octets is all unsent none = omega arith

-- what goes for the first time has none only where all is sent or the window has no room
fresh_none : (end : End) (mss sent octets edge n : ℕ) → n ≡ min mss (min (octets - sent) (edge - sent)) → 0 < mss
    → IsSentOf end sent octets
    → numbers (piece sent n (is_unsent end && nat_eq (sent + n) octets && nat_lt (sent + n) edge)) ≡ 0
    → (octets + end_places end ≤ sent) ⊎ (edge ≤ sent)
fresh_none Open mss sent octets edge n is some all none = grind (arith, nat_tests)
fresh_none Unsent mss sent octets edge n is some all none = grind (arith, nat_tests)
fresh_none Sent mss sent octets edge n is some all none = inl (omega arith)

not_off : (timer : Timer) → is_expired timer ≡ true → is_off timer ≡ false
not_off Off is = cc
not_off (Since base) is = cc
not_off (Expired at) is = refl

-- what is owed again while nothing is under way is a probe: the timer expired
expired_at_rest : (t : Transmission) → IsSound t → is_owed_again t ≡ true → nat_lt t.acked t.sent ≡ false → is_expired t.resend.timer ≡ true
expired_at_rest t sound owed rests = by_tests (is_expired t.resend.timer) t.early refl owed
  where
    by_tests : (b c : Bool) → t.early ≡ c → (b || c) ≡ true → b ≡ true
    by_tests true c is owed = refl
    by_tests false true is owed = let under = sound.early is in absurd (grind (arith, nat_tests))
    by_tests false false is owed = cc

pub next_none : (t : Transmission) (down : Downward) → Feeds t down
    → numbers (next t down) ≡ 0 → OwesNothing t down
next_none t down feeds none =
    let order = feeds.sound.order in
    chosen (is_owed_again t) (nat_lt t.acked t.sent) (oldest t down) (probe t down) (fresh t down)
    (λ p. numbers p ≡ 0 → OwesNothing t down)
    (λ _ under none. absurd (oldest_some t.end t.mss t.acked t.sent (octets_read down) (oldest_length t down) refl (some_mss t feeds.sound) feeds.all (grind (arith, nat_tests)) none))
    (λ expired not_under none. absurd (probe_some t.end (nat_lt t.sent (octets_read down)) t.sent (octets_read down) refl feeds.all
    (feeds.rests (grind (arith, nat_tests)) (not_off t.resend.timer (expired_at_rest t feeds.sound expired not_under))).1 none))
    (λ on none. (on, fresh_none t.end t.mss t.sent (octets_read down) (reach t) (fresh_length t down) refl (some_mss t feeds.sound) feeds.all none))
    none

-- what goes again
oldest_within : (end : End) (mss acked sent octets n : ℕ) → n ≡ min mss (min sent octets - acked) → IsSentOf end sent octets → acked < sent
    → end_of (piece acked n (is_sent end && nat_eq (acked + n) octets)) ≤ sent
oldest_within Open mss acked sent octets n is all under = omega arith
oldest_within Unsent mss acked sent octets n is all under = omega arith
oldest_within Sent mss acked sent octets n is all under = by_test (nat_eq (acked + n) octets) refl
  where
    by_test : (b : Bool) → nat_eq (acked + n) octets ≡ b → end_of (piece acked n b) ≤ sent
    by_test true at = let last : acked + n ≡ octets = grind (arith, nat_tests) in omega arith
    by_test false at = omega arith

pub next_again : (t : Transmission) (down : Downward) → Feeds t down → is_owed_again t ≡ true → t.acked < t.sent → 0 < numbers (next t down) → GoesAgain t (next t down)
next_again t down feeds owed under some =
    let tested : nat_lt t.acked t.sent ≡ true = grind (arith, nat_tests) in
    let is : next t down ≡ oldest t down = (λ i. if owed i then (if tested i then oldest t down else probe t down) else fresh t down) in
    subst (λ (p : Piece). GoesAgain t p) (sym is) (record {
      place = refl;
      some = subst (λ (p : Piece). 0 < numbers p) is some;
      within = oldest_within t.end t.mss t.acked t.sent (octets_read down) (oldest_length t down) refl feeds.all under;
    })

one_number : (end : End) (has : Bool) (sent : ℕ) → 0 < numbers (if has then piece sent 1 false else piece sent 0 (is_unsent end))
    → numbers (if has then piece sent 1 false else piece sent 0 (is_unsent end)) ≡ 1
one_number end true sent some = refl
one_number Open false sent some = absurd (omega arith)
one_number Unsent false sent some = refl
one_number Sent false sent some = absurd (omega arith)

probe_place : (t : Transmission) (down : Downward) (has : Bool) → (if has then piece t.sent 1 false else piece t.sent 0 (is_unsent t.end)).place ≡ t.sent
probe_place t down true = refl
probe_place t down false = refl

pub next_probes : (t : Transmission) (down : Downward) → is_owed_again t ≡ true → t.acked ≡ t.sent → 0 < numbers (next t down) → Probes t (next t down)
next_probes t down owed rests some =
    let tested : nat_lt t.acked t.sent ≡ false = grind (arith, nat_tests) in
    let is : next t down ≡ probe t down = (λ i. if owed i then (if tested i then oldest t down else probe t down) else fresh t down) in
    subst (λ (p : Piece). Probes t p) (sym is) (record {
      place = probe_place t down (nat_lt t.sent (octets_read down));
      one = one_number t.end (nat_lt t.sent (octets_read down)) t.sent (subst (λ (p : Piece). 0 < numbers p) is some);
    })

-- what goes for the first time ends within both windows
fresh_reach : (end : End) (mss sent octets reach n : ℕ) → n ≡ min mss (min (octets - sent) (reach - sent))
    → 0 < numbers (piece sent n (is_unsent end && nat_eq (sent + n) octets && nat_lt (sent + n) reach))
    → end_of (piece sent n (is_unsent end && nat_eq (sent + n) octets && nat_lt (sent + n) reach)) ≤ reach
fresh_reach Open mss sent octets reach n is some = omega arith
fresh_reach Sent mss sent octets reach n is some = omega arith
fresh_reach Unsent mss sent octets reach n is some = by_test (nat_eq (sent + n) octets) (nat_lt (sent + n) reach) refl some
  where
    by_test : (b c : Bool) → nat_lt (sent + n) reach ≡ c → 0 < numbers (piece sent n (true && b && c)) → end_of (piece sent n (true && b && c)) ≤ reach
    by_test true true less some = let below : sent + n < reach = grind (arith, nat_tests) in omega arith
    by_test true false less some = omega arith
    by_test false true less some = omega arith
    by_test false false less some = omega arith

pub next_fresh : (t : Transmission) (down : Downward) → is_owed_again t ≡ false → 0 < numbers (next t down) → end_of (next t down) ≤ reach t
next_fresh t down none some =
    let is : next t down ≡ fresh t down = (λ i. if none i then (if nat_lt t.acked t.sent then oldest t down else probe t down) else fresh t down) in
    subst (λ (p : Piece). end_of p ≤ reach t) (sym is)
    (fresh_reach t.end t.mss t.sent (octets_read down) (reach t) (fresh_length t down) refl (subst (λ (p : Piece). 0 < numbers p) is some))

reach_within : (cwnd : Option Congestion) (acked edge end : ℕ) → end ≤ reach_by cwnd acked edge → (end ≤ edge) × IsWithin cwnd acked end
reach_within None acked edge end within = (within, tt)
reach_within (Some c) acked edge end within = (omega arith, omega arith)

pub next_window : (t : Transmission) (down : Downward) → is_owed_again t ≡ false → 0 < numbers (next t down) → end_of (next t down) ≤ edge_of t.window
next_window t down none some = (reach_within t.cwnd t.acked (edge_of t.window) (end_of (next t down)) (next_fresh t down none some)).0

one_more : (cwnd : Option Congestion) (mss acked end : ℕ) → IsOfSegments cwnd mss → 0 < mss → end ≤ acked + 1 → IsWithin cwnd acked end
one_more None mss acked end segments some near = tt
one_more (Some c) mss acked end segments some near = omega (arith, segments.1)

pub next_within : (t : Transmission) (down : Downward) → Feeds t down → 0 < numbers (next t down) → t.sent < end_of (next t down) → IsWithin t.cwnd t.acked (end_of (next t down))
next_within t down feeds some beyond = by_tests (is_owed_again t) (nat_lt t.acked t.sent) refl refl
  where
    by_tests : (b c : Bool) → is_owed_again t ≡ b → nat_lt t.acked t.sent ≡ c → IsWithin t.cwnd t.acked (end_of (next t down))
    by_tests false c none under = (reach_within t.cwnd t.acked (edge_of t.window) (end_of (next t down)) (next_fresh t down none some)).1
    by_tests true true owed under = let again = next_again t down feeds owed (grind (arith, nat_tests)) some in let within = again.within in absurd (omega arith)
    by_tests true false owed rests =
        let order = feeds.sound.order in
        let at : t.acked ≡ t.sent = grind (arith, nat_tests) in
        let probes = next_probes t down owed at some in
        one_more t.cwnd t.mss t.acked (end_of (next t down)) feeds.sound.segments (some_mss t feeds.sound) (omega (arith, probes.place, probes.one))
