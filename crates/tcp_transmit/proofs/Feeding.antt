-- The buffer stays that of its connection.
use Rattle.std.proofs.Common.{◌≡◌, ℕ, ◌+◌, ◌*◌, ◌^◌, ◌<◌, ◌≤◌, List, ◌++◌, length, Bool, true, false, ◌&&◌, ◌||◌, ◌⊎◌, inl, inr, IsSome, nat_lt, nat_eq, Option, None, Some, min, max}
use Rattle.std.proofs.Common.{if◌then◌else◌, arith, refl, subst, sym, ap, ◌∙◌, ℤ, length-append, length-drop}
use Rattle.std.proofs.lemmas.Bool.Decides.{nat_tests}
use Rattle.cwnd.specs.Congestion.{Congestion, after_expiry, growth, half_of}
use Rattle.retransmit.specs.Resending.{IsSteady, Resending, after_answered, after_moved, after_start, after_stop, begun, due_by, expired_by, is_expired, is_off, set_unless_running}
use Rattle.retransmit.specs.Estimate as estimates
use Rattle.retransmit.specs.Resending as resending
use Rattle.retransmit.specs.declared.Timer.{Timer}
use Rattle.retransmit.specs.declared.Timer.TheVariants.{Off, Since, Expired}
use Rattle.retransmit.proofs.Steady.{steady_answered, steady_expired, steady_moved, steady_sent, steady_start, steady_stop}
use Rattle.sock_buffers.specs.Downward.{Downward}
use Rattle.seq_space.specs.declared.Seq.{Seq}
use Rattle.tcp_transmit.specs.Acks.{IsSeenAs, acknowledged, after_ack, congested, congested_by, cwnd_acked, cwnd_after, is_acceptable, is_duplicate, is_last_window, is_newer, is_same}
use Rattle.tcp_transmit.specs.Acks.{is_third, moved, octets_acked, opened, owes_again, windowed, without}
use Rattle.tcp_transmit.specs.Pieces.{end_of, next, numbers, piece_owed}
use Rattle.tcp_transmit.specs.Timing.{after_expired, after_sent, cwnd_expired, goes_again, is_given_up, round_trip, timed_out, watched, watched_over}
use Rattle.tcp_transmit.specs.Transmission.{Feeds, IsOfSegments, IsSentOf, IsSound, Transmission, edge_of, end_places, flight, is_closed, octets_read, places}
use Rattle.tcp_transmit.specs.declared.AckSeen.{AckSeen}
use Rattle.tcp_transmit.specs.declared.AckSeen.TheVariants.{Old, Same, Forward, FinToo, TooFar}
use Rattle.tcp_transmit.specs.declared.End.{End}
use Rattle.tcp_transmit.specs.declared.End.TheVariants.{Open, Unsent, Sent}
use Rattle.tcp_transmit.specs.declared.Piece.{Piece}
use Rattle.tcp_transmit.specs.declared.Window.{Window}
use Rattle.tcp_transmit.proofs.Owed.{Lies, next_lies}

begun_on : (timer : Timer) (now : ℕ) → is_off (begun timer now) ≡ false
begun_on Off now = refl
begun_on (Since base) now = refl
begun_on (Expired at) now = refl

-- another timer, where nothing is under way
rested : (t : Transmission) (resend : Resending) → IsSound t → (t.acked < t.sent → ⊥) → IsSteady resend → resend.resent ≡ 0 → IsSound (record t { resend = resend })
rested t resend sound rests steady none = record {
  least = sound.least;
  most = sound.most;
  order = sound.order;
  set = λ under. absurd (rests under);
  steady = steady;
  begins = λ _. none;
  segments = sound.segments;
  recovers = sound.recovers;
  early = sound.early;
  probes = sound.probes;
}

-- the timer of a closed window, by what it looks at
watched_by : (t : Transmission) (down : Downward) (now : ℕ) (under closed unsent : Bool)
    → nat_lt t.acked t.sent ≡ under → is_closed t ≡ closed → nat_lt t.sent (places t down) ≡ unsent → now ≤ 2 ^ 62
    → IsSound t → down.first ≡ min t.acked (octets_read down) → IsSentOf t.end t.sent (octets_read down)
    → octets_read down < 2 ^ 62
    → Feeds (if under then t else record t { resend = if closed && unsent then after_start t.resend now else after_stop t.resend }) down
watched_by t down now true closed unsent u c s soon sound from all few = record {
  sound = sound;
  first = from;
  all = all;
  few = few;
  rests = λ at _. absurd (grind (arith, nat_tests));
  waits = λ at _ _. absurd (grind (arith, nat_tests));
}
watched_by t down now false true true u c s soon sound from all few =
    let order = sound.order in
    let at_rest : t.acked ≡ t.sent = grind (arith, nat_tests) in
    record {
      sound = rested t (after_start t.resend now) sound (λ under. absurd (grind (arith, nat_tests))) (steady_start t.resend now soon sound.steady) (sound.begins at_rest);
      first = from;
      all = all;
      few = few;
      rests = λ at _. (c, grind (arith, nat_tests));
      waits = λ at _ _. begun_on t.resend.timer now;
    }
watched_by t down now false true false u c s soon sound from all few = record {
  sound = rested t (after_stop t.resend) sound (λ under. absurd (grind (arith, nat_tests))) (steady_stop t.resend sound.steady) refl;
  first = from;
  all = all;
  few = few;
  rests = λ at off. absurd (cc off);
  waits = λ at _ more. absurd (grind (arith, nat_tests));
}
watched_by t down now false false unsent u c s soon sound from all few = record {
  sound = rested t (after_stop t.resend) sound (λ under. absurd (grind (arith, nat_tests))) (steady_stop t.resend sound.steady) refl;
  first = from;
  all = all;
  few = few;
  rests = λ at off. absurd (cc off);
  waits = λ at closed _. absurd (cc (c, closed));
}

pub watched_feeds : (t : Transmission) (down : Downward) (now : ℕ) → now ≤ 2 ^ 62 → IsSound t → down.first ≡ min t.acked (octets_read down)
    → IsSentOf t.end t.sent (octets_read down) → octets_read down < 2 ^ 62 → Feeds (watched_over t down now) down
watched_feeds t down now soon = watched_by t down now (nat_lt t.acked t.sent) (is_closed t) (nat_lt t.sent (places t down)) refl refl refl soon

open_on : (end : End) (acked sent octets first more : ℕ) → end ≡ Open → acked ≤ sent → IsSentOf end sent octets → first ≡ min acked octets
    → (first ≡ min acked (octets + more)) × IsSentOf end sent (octets + more)
open_on Open acked sent octets first more is within all from = (omega arith, omega arith)
open_on Unsent acked sent octets first more is within all from = cc
open_on Sent acked sent octets first more is within all from = cc

-- more octets of the host
pub more_feeds : (t : Transmission) (down : Downward) (more : List ℕ) (now : ℕ) → now ≤ 2 ^ 62 → t.end ≡ Open → Feeds t down
    → octets_read down + length more < 2 ^ 62
    → Feeds (watched_over t (record down { octets = down.octets ++ more }) now) (record down { octets = down.octets ++ more })
more_feeds t down more now soon on feeds few =
    let is : down.first + length (down.octets ++ more) ≡ octets_read down + length more = omega (arith, length-append down.octets more) in
    let both = open_on t.end t.acked t.sent (octets_read down) down.first (length more) on feeds.sound.order feeds.all feeds.first in
    watched_feeds t (record down { octets = down.octets ++ more }) now soon feeds.sound
    (subst (λ n. down.first ≡ min t.acked n) (sym is) both.0)
    (subst (λ n. IsSentOf t.end t.sent n) (sym is) both.1)
    (omega arith)

-- the piece that is owed goes next, and has a number
owed_next : (p q : Piece) → (if nat_lt 0 (numbers q) then Some q else None) ≡ Some p → (q ≡ p) × (0 < numbers q)
owed_next p q is = owed_by p q (nat_lt 0 (numbers q)) refl is
  where
    owed_by : (p q : Piece) (some : Bool) → nat_lt 0 (numbers q) ≡ some → (if some then Some q else None) ≡ Some p → (q ≡ p) × (0 < numbers q)
    owed_by p q true some is = (cc is, grind (arith, nat_tests))
    owed_by p q false some is = cc is

pub owed_lies : (t : Transmission) (down : Downward) (p : Piece) → Feeds t down → piece_owed t down ≡ Some p
    → Lies t.end down.first t.acked t.sent (octets_read down) p
owed_lies t down p feeds owed =
    let is = owed_next p (next t down) owed in
    subst (λ (q : Piece). Lies t.end down.first t.acked t.sent (octets_read down) q) is.0 (next_lies t down feeds is.1)

sent_of : (end : End) (fin : Bool) (first acked sent octets place n : ℕ)
    → Lies end first acked sent octets (record { place = place; length = n; fin = fin }) → IsSentOf end sent octets
    → IsSentOf (if fin then Sent else end) (max sent (place + (if fin then n + 1 else n))) octets
sent_of Open true first acked sent octets place n lies all = absurd (omega (arith, (lies.last refl).1))
sent_of Unsent true first acked sent octets place n lies all = omega (arith, (lies.last refl).0)
sent_of Sent true first acked sent octets place n lies all = omega (arith, (lies.last refl).0)
sent_of Open false first acked sent octets place n lies all = omega (arith, lies.high)
sent_of Unsent false first acked sent octets place n lies all = omega (arith, lies.high)
sent_of Sent false first acked sent octets place n lies all = omega (arith, lies.high)

-- the place after a piece is at most one past the octets
ends_within : (end : End) (fin : Bool) (first acked sent octets place n : ℕ)
    → Lies end first acked sent octets (record { place = place; length = n; fin = fin }) → place + (if fin then n + 1 else n) ≤ octets + 1
ends_within end true first acked sent octets place n lies = omega (arith, (lies.last refl).0)
ends_within end false first acked sent octets place n lies = omega (arith, lies.high)

pub owed_ends : (t : Transmission) (down : Downward) (p : Piece) → Feeds t down → piece_owed t down ≡ Some p
    → end_of p ≤ octets_read down + 1
owed_ends t down p feeds owed =
    ends_within t.end p.fin down.first t.acked t.sent (octets_read down) p.place p.length (owed_lies t down p feeds owed)

sent_on : (timer : Timer) (again : Bool) (now : ℕ) → is_off (if again then Since now else set_unless_running timer now) ≡ false
sent_on timer true now = refl
sent_on Off false now = refl
sent_on (Since base) false now = refl
sent_on (Expired at) false now = refl

-- a piece was sent
pub sent_feeds : (t : Transmission) (down : Downward) (p : Piece) (now : ℕ) → now ≤ 2 ^ 62 → Feeds t down → piece_owed t down ≡ Some p
    → Feeds (after_sent t p now) down
sent_feeds t down p now soon feeds owed =
    let lies = owed_lies t down p feeds owed in
    record {
      sound = record {
        least = feeds.sound.least;
        most = feeds.sound.most;
        order = let order = feeds.sound.order in omega arith;
        set = λ _. sent_on t.resend.timer (goes_again t p) now;
        steady = steady_sent t.resend (goes_again t p) now soon feeds.sound.steady;
        begins = λ at. absurd (omega (arith, lies.under_way));
        segments = feeds.sound.segments;
        recovers = let recovers = feeds.sound.recovers in omega arith;
        early = λ no. cc;
        probes = λ _. lies.under_way;
      };
      first = feeds.first;
      all = sent_of t.end p.fin down.first t.acked t.sent (octets_read down) p.place p.length lies feeds.all;
      few = feeds.few;
      rests = λ at _. absurd (omega (arith, lies.under_way));
      waits = λ at _ _. absurd (omega (arith, lies.under_way));
    }

-- the timer expired
same_off : (timer : Timer) (wait : ℕ) → is_off (expired_by timer wait) ≡ is_off timer
same_off Off wait = refl
same_off (Since base) wait = refl
same_off (Expired at) wait = refl

segments_expired : (cwnd : Option Congestion) (mss flight : ℕ) (again : Bool) → IsOfSegments cwnd mss → IsOfSegments (cwnd_expired cwnd flight again) mss
segments_expired None mss flight again segments = tt
segments_expired (Some c) mss flight again segments = by_tests (nat_lt 0 flight) again
  where
    by_tests : (b a : Bool) → IsOfSegments (if b then Some (after_expiry c flight a) else Some c) mss
    by_tests false a = segments
    by_tests true true = (segments.0, omega (arith, segments.0), segments.2)
    by_tests true false = (segments.0, omega (arith, segments.0), omega (arith, segments.0))

at_most : (b : Bool) (sent recover : ℕ) → recover ≤ sent → (if b then sent else recover) ≤ sent
at_most true sent recover low = omega arith
at_most false sent recover low = low

expired_now : (t : Transmission) (down : Downward) → is_given_up t ≡ false → Feeds t down
    → Feeds (timed_out t) down
expired_now t down on feeds =
    let r = t.resend in
    let timer_is : (resending.after_expired r).timer ≡ expired_by r.timer r.estimate.wait =
    ap (λ (b : Bool). (if b then r else record r { estimate = estimates.after_expiry r.estimate; timer = expired_by r.timer r.estimate.wait }).timer) on in
    let off_is : is_off (resending.after_expired r).timer ≡ is_off r.timer = ap is_off timer_is ∙ same_off r.timer r.estimate.wait in
    let resent_is : (resending.after_expired r).resent ≡ r.resent =
    ap (λ (b : Bool). (if b then r else record r { estimate = estimates.after_expiry r.estimate; timer = expired_by r.timer r.estimate.wait }).resent) on in
    record {
      sound = record {
        least = feeds.sound.least;
        most = feeds.sound.most;
        order = feeds.sound.order;
        set = λ under. off_is ∙ feeds.sound.set under;
        steady = steady_expired r feeds.sound.steady;
        begins = λ at. resent_is ∙ feeds.sound.begins at;
        segments = segments_expired t.cwnd t.mss (flight t) t.again feeds.sound.segments;
        recovers = at_most (nat_lt t.acked t.sent) t.sent t.recover feeds.sound.recovers;
        early = feeds.sound.early;
        probes = feeds.sound.probes;
      };
      first = feeds.first;
      all = feeds.all;
      few = feeds.few;
      rests = λ at off. feeds.rests at (sym off_is ∙ off);
      waits = λ at closed more. off_is ∙ feeds.waits at closed more;
    }

pub expired_feeds : (t : Transmission) (down : Downward) → Feeds t down → Feeds (after_expired t) down
expired_feeds t down feeds = by_test (is_given_up t) refl
  where
    by_test : (b : Bool) → is_given_up t ≡ b → Feeds (if b then t else timed_out t) down
    by_test true is = feeds
    by_test false is = expired_now t down is feeds

-- a step of an acknowledgement: what it keeps
record Steps (t u : Transmission) : Type 0 where
  acked : t.acked ≡ u.acked
  sent : t.sent ≡ u.sent
  end : t.end ≡ u.end
  sound : IsSound u

-- congestion
segments_after : (c : Congestion) (mss flight octets : ℕ) (duplicate : Bool) → mss ≤ 1460 → IsOfSegments (Some c) mss → IsOfSegments (Some (cwnd_after c duplicate flight octets)) mss
segments_after c mss flight octets true most segments = by_tests (nat_lt c.duplicates 2) (nat_eq c.duplicates 2)
  where
    by_tests : (a b : Bool) → IsOfSegments (Some (if a then record c { duplicates = c.duplicates + 1 } else
        (if b then record { mss = c.mss; window = min (2 ^ 30) (half_of c flight + 3 * c.mss); threshold = half_of c flight; duplicates = 3 } else record c {
          window = min (2 ^ 30)
              (c.window + c.mss);
        }))) mss
    by_tests true b = segments
    by_tests false true = (segments.0, omega (arith, segments.0, segments.1), omega (arith, segments.0))
    by_tests false false = (segments.0, omega (arith, segments.0, segments.1), segments.2)
segments_after c mss flight octets false most segments = by_tests (nat_lt 0 octets) (nat_lt c.duplicates 3)
  where
    by_tests : (a b : Bool) → IsOfSegments (Some (if a then record c { window = min (2 ^ 30) (if b then c.window + growth c octets else c.threshold); duplicates = 0 } else c)) mss
    by_tests false b = segments
    by_tests true true = (segments.0, omega (arith, segments.1), segments.2)
    by_tests true false = (segments.0, omega (arith, segments.2), segments.2)

cwnd_segments : (cwnd : Option Congestion) (mss flight octets : ℕ) (duplicate : Bool) → mss ≤ 1460 → IsOfSegments cwnd mss → IsOfSegments (cwnd_acked cwnd duplicate flight octets) mss
cwnd_segments None mss flight octets duplicate most segments = segments
cwnd_segments (Some c) mss flight octets duplicate most segments = segments_after c mss flight octets duplicate most segments

congested_sound : (t : Transmission) (duplicate : Bool) (octets : ℕ) → (duplicate ≡ true → t.acked < t.sent) → IsSound t → IsSound (congested_by t duplicate octets)
congested_sound t duplicate octets under sound = record {
  least = sound.least;
  most = sound.most;
  order = sound.order;
  set = sound.set;
  steady = sound.steady;
  begins = sound.begins;
  segments = cwnd_segments t.cwnd t.mss (flight t) octets duplicate sound.most sound.segments;
  recovers = at_most (is_third t duplicate) t.sent t.recover sound.recovers;
  early = by_test t.early duplicate refl under;
  probes = sound.probes;
}
  where
    by_test : (e d : Bool) → t.early ≡ e → (d ≡ true → t.acked < t.sent) → (e || is_third t d) ≡ true → t.acked < t.sent
    by_test true d early under owed = sound.early early
    by_test false true early under owed = under refl
    by_test false false early under owed = cc

pub duplicate_under : (t : Transmission) (window : ℕ) (bare : Bool) (seen : AckSeen) → is_duplicate t window bare seen ≡ true → t.acked < t.sent
duplicate_under t window bare seen is = by_tests bare (is_same seen) (nat_lt t.acked t.sent) refl is
  where
    by_tests : (a b c : Bool) → nat_lt t.acked t.sent ≡ c → (a && b && c && is_last_window t.window window) ≡ true → t.acked < t.sent
    by_tests true true true under is = grind (arith, nat_tests)
    by_tests true true false under is = cc
    by_tests true false c under is = cc
    by_tests false b c under is = cc

pub congested_feeds : (t : Transmission) (down : Downward) (duplicate : Bool) (octets : ℕ) → (duplicate ≡ true → t.acked < t.sent) → Feeds t down
    → Feeds (congested_by t duplicate octets) down
congested_feeds t down duplicate octets under feeds = record {
  sound = congested_sound t duplicate octets under feeds.sound;
  first = feeds.first;
  all = feeds.all;
  few = feeds.few;
  rests = feeds.rests;
  waits = feeds.waits;
}

pub congested_seen : (t : Transmission) (down : Downward) (duplicate : Bool) (octets : ℕ) (at : ℤ) (seen : AckSeen) → IsSeenAs t down at seen
    → IsSeenAs (congested_by t duplicate octets) down at seen
congested_seen t down duplicate octets at Old is = is
congested_seen t down duplicate octets at Same is = is
congested_seen t down duplicate octets at (Forward n) is = is
congested_seen t down duplicate octets at (FinToo n) is = is
congested_seen t down duplicate octets at TooFar is = is

-- the window, and a probe for which it has room
window_or_probe : (t : Transmission) (window : Option Window) (early probing : Bool) → (early ≡ true → t.acked < t.sent) → (probing ≡ true → t.acked < t.sent) → IsSound t
    → Steps t (record t { window = window; early = early; probing = probing })
window_or_probe t window early probing early_sent probe_sent sound = record {
  acked = refl;
  sent = refl;
  end = refl;
  sound = record {
    least = sound.least;
    most = sound.most;
    order = sound.order;
    set = sound.set;
    steady = sound.steady;
    begins = sound.begins;
    segments = sound.segments;
    recovers = sound.recovers;
    early = early_sent;
    probes = probe_sent;
  };
}

windowed_step : (t : Transmission) (seq : Seq) (window : ℕ) → IsSound t → Steps t (windowed t seq window)
windowed_step t seq window sound = by_test (is_newer t.window seq.0 t.acked)
  where
    by_test : (b : Bool) → Steps t (if b then record t { window = Some (record { edge = t.acked + window; seq = seq; ack = t.acked }) } else t)
    by_test true = window_or_probe t (Some (record { edge = t.acked + window; seq = seq; ack = t.acked })) t.early t.probing sound.early sound.probes sound
    by_test false = record { acked = refl; sent = refl; end = refl; sound = sound }

opened_step : (t : Transmission) → IsSound t → Steps t (opened t)
opened_step t sound = by_test (nat_lt t.acked (edge_of t.window)) t.probing refl
  where
    by_test : (c b : Bool) → t.probing ≡ b → Steps t (if b && c then record t { early = true; probing = false } else t)
    by_test true true probing = window_or_probe t t.window true false (λ _. sound.probes probing) (λ no. cc) sound
    by_test false true probing = record { acked = refl; sent = refl; end = refl; sound = sound }
    by_test true false probing = record { acked = refl; sent = refl; end = refl; sound = sound }
    by_test false false probing = record { acked = refl; sent = refl; end = refl; sound = sound }

set_under : (under : Bool) (now : ℕ) → under ≡ true → is_off (if under then Since now else Off) ≡ false
set_under true now is = refl
set_under false now is = cc

moved_sound : (t : Transmission) (place now : ℕ) → now ≤ 2 ^ 62 → IsSound t → place ≤ t.sent → IsSound (moved t place now)
moved_sound t place now soon sound within = record {
  least = sound.least;
  most = sound.most;
  order = within;
  set = λ under. set_under (nat_lt place t.sent) now (grind (arith, nat_tests));
  steady = steady_moved t.resend (round_trip t.timed place now) (nat_lt place t.sent) now soon sound.steady;
  begins = λ _. refl;
  segments = sound.segments;
  recovers = sound.recovers;
  early = λ (owed : owes_again t place ≡ true). let recovers = sound.recovers in grind (arith, nat_tests);
  probes = λ no. cc;
}

same_sound : (t : Transmission) → IsSound t → IsSound (record t { resend = after_answered t.resend })
same_sound t sound = record {
  least = sound.least;
  most = sound.most;
  order = sound.order;
  set = sound.set;
  steady = steady_answered t.resend sound.steady;
  begins = λ _. refl;
  segments = sound.segments;
  recovers = sound.recovers;
  early = sound.early;
  probes = sound.probes;
}

-- after octets were dropped, and the first unacknowledged place went on
dropped_feeds : (t u : Transmission) (down : Downward) (n now : ℕ) → now ≤ 2 ^ 62 → Feeds t down → u.sent ≡ t.sent → u.end ≡ t.end
    → IsSound u → down.first + n ≡ min u.acked (octets_read down) → n ≤ length down.octets
    → Feeds (watched_over u (without n down) now) (without n down)
dropped_feeds t u down n now soon feeds sent end sound first within =
    let read : octets_read (without n down) ≡ octets_read down = omega (arith, length-drop n down.octets) in
    watched_feeds u (without n down) now soon sound
    (subst (λ k. down.first + n ≡ min u.acked k) (sym read) first)
    (subst (λ k. IsSentOf u.end u.sent k) (sym read)
    (subst (λ e. IsSentOf e u.sent (octets_read down)) (sym end)
    (subst (λ k. IsSentOf t.end k (octets_read down)) (sym sent) feeds.all)))
    (let few = feeds.few in omega arith)

windowed_feeds : (t u : Transmission) (down : Downward) (seq : Seq) (window n now : ℕ) → now ≤ 2 ^ 62 → Feeds t down → u.sent ≡ t.sent → u.end ≡ t.end
    → IsSound u → down.first + n ≡ min u.acked (octets_read down) → n ≤ length down.octets
    → Feeds (watched_over (opened (windowed u seq window)) (without n down) now) (without n down)
windowed_feeds t u down seq window n now soon feeds sent end sound first within =
    let one = windowed_step u seq window sound in
    let two = opened_step (windowed u seq window) one.sound in
    dropped_feeds t (opened (windowed u seq window)) down n now soon feeds (sym two.sent ∙ sym one.sent ∙ sent) (sym two.end ∙ sym one.end ∙ end) two.sound
    (subst (λ a. down.first + n ≡ min a (octets_read down)) (one.acked ∙ two.acked) first) within

-- an acceptable acknowledgement
acknowledged_feeds : (t : Transmission) (down : Downward) (seq : Seq) (window now : ℕ) (at : ℤ) (seen : AckSeen) → now ≤ 2 ^ 62 → Feeds t down
    → IsSeenAs t down at seen → is_acceptable seen ≡ true
    → Feeds (watched_over (opened (windowed (acknowledged t seen now) seq window)) (without (octets_acked seen) down) now) (without (octets_acked seen) down)
acknowledged_feeds t down seq window now at Old soon feeds is acceptable = cc
acknowledged_feeds t down seq window now at Same soon feeds is acceptable =
    let from = feeds.first in
    windowed_feeds t (record t { resend = after_answered t.resend }) down seq window 0 now soon feeds refl refl (same_sound t feeds.sound) (omega arith) (omega arith)
acknowledged_feeds t down seq window now at (Forward n) soon feeds is acceptable =
    let from = feeds.first in
    let high = is.2 in
    windowed_feeds t (acknowledged t (Forward n) now) down seq window n now soon feeds refl refl
    (moved_sound t (t.acked + n) now soon feeds.sound (omega arith)) (omega arith) (omega arith)
acknowledged_feeds t down seq window now at (FinToo n) soon feeds is acceptable =
    let from = feeds.first in
    let high = is.2 in
    windowed_feeds t (acknowledged t (FinToo n) now) down seq window n now soon feeds refl refl
    (moved_sound t (t.acked + n + 1) now soon feeds.sound (omega arith)) (omega arith) (omega arith)
acknowledged_feeds t down seq window now at TooFar soon feeds is acceptable = cc

pub ack_feeds : (t : Transmission) (down : Downward) (seq : Seq) (window : ℕ) (bare : Bool) (now : ℕ) (at : ℤ) (seen : AckSeen) → now ≤ 2 ^ 62 → Feeds t down
    → IsSeenAs t down at seen → is_acceptable seen ≡ true
    → Feeds (watched_over (opened (windowed (acknowledged (congested t window bare seen) seen now) seq window)) (without (octets_acked seen) down) now) (without (octets_acked seen) down)
ack_feeds t down seq window bare now at seen soon feeds is acceptable =
    acknowledged_feeds (congested t window bare seen) down seq window now at seen soon
    (congested_feeds t down (is_duplicate t window bare seen) (octets_acked seen) (duplicate_under t window bare seen) feeds)
    (congested_seen t down (is_duplicate t window bare seen) (octets_acked seen) at seen is) acceptable

-- no octet of the stream is lost by it
pub ack_reads : (t : Transmission) (down : Downward) (at : ℤ) (seen : AckSeen) → Feeds t down → IsSeenAs t down at seen
    → octets_read (without (octets_acked seen) down) ≡ octets_read down
ack_reads t down at Old feeds is = omega (arith, length-drop 0 down.octets)
ack_reads t down at Same feeds is = omega (arith, length-drop 0 down.octets)
ack_reads t down at (Forward n) feeds is = let from = feeds.first in let high = is.2 in omega (arith, length-drop n down.octets)
ack_reads t down at (FinToo n) feeds is = let from = feeds.first in let high = is.2 in omega (arith, length-drop n down.octets)
ack_reads t down at TooFar feeds is = omega (arith, length-drop 0 down.octets)

-- what the timer of a probe keeps
record Stays (t u : Transmission) : Type 0 where
  acked : t.acked ≡ u.acked
  sent : t.sent ≡ u.sent
  end : t.end ≡ u.end
  resend : t.resend ≡ u.resend

windowed_stays : (t : Transmission) (seq : Seq) (window : ℕ) → Stays t (windowed t seq window)
windowed_stays t seq window = by_test (is_newer t.window seq.0 t.acked)
  where
    by_test : (b : Bool) → Stays t (if b then record t { window = Some (record { edge = t.acked + window; seq = seq; ack = t.acked }) } else t)
    by_test true = record { acked = refl; sent = refl; end = refl; resend = refl }
    by_test false = record { acked = refl; sent = refl; end = refl; resend = refl }

opened_stays : (t : Transmission) → Stays t (opened t)
opened_stays t = by_test (t.probing && nat_lt t.acked (edge_of t.window))
  where
    by_test : (b : Bool) → Stays t (if b then record t { early = true; probing = false } else t)
    by_test true = record { acked = refl; sent = refl; end = refl; resend = refl }
    by_test false = record { acked = refl; sent = refl; end = refl; resend = refl }

pub runs_on : (timer : Timer) (wait : ℕ) → IsSome (due_by timer wait) → is_off timer ≡ false
runs_on Off wait runs = cc runs
runs_on (Since base) wait runs = refl
runs_on (Expired at) wait runs = refl

begun_same : (timer : Timer) (now : ℕ) → is_off timer ≡ false → begun timer now ≡ timer
begun_same Off now on = cc on
begun_same (Since base) now on = refl
begun_same (Expired at) now on = refl

-- a timer that runs goes on while something is under way or waits for a closed window
pub watched_steady : (u : Transmission) (unsent : Bool) (now : ℕ) → is_off u.resend.timer ≡ false → (nat_lt u.acked u.sent ≡ false → (is_closed u ≡ true) × (unsent ≡ true))
    → (watched u unsent now).resend.timer ≡ u.resend.timer
watched_steady u unsent now on waits = by_test (nat_lt u.acked u.sent) refl
  where
    closed_on : (a b : Bool) → a ≡ true → b ≡ true → (if a && b then after_start u.resend now else after_stop u.resend).timer ≡ u.resend.timer
    closed_on true true x y = begun_same u.resend.timer now on
    closed_on true false x y = cc y
    closed_on false b x y = cc x

    by_test : (b : Bool) → nat_lt u.acked u.sent ≡ b → (if b then u else record u {
      resend = if is_closed u && unsent then after_start u.resend now else after_stop u.resend;
    }).resend.timer ≡ u.resend.timer
    by_test true is = refl
    by_test false is = closed_on (is_closed u) unsent (waits is).0 (waits is).1

pub same_steady : (t : Transmission) (down after : Downward) (seq : Seq) (window : ℕ) (bare : Bool) (now : ℕ) → Feeds t down → octets_read after ≡ octets_read down → is_off t.resend.timer ≡ false
    → (((after_ack t after seq window bare now Same).acked < (after_ack t after seq window bare now Same).sent) ⊎ (is_closed (after_ack t after seq window bare now Same) ≡ true))
    → (after_ack t after seq window bare now Same).resend.timer ≡ t.resend.timer
same_steady t down after seq window bare now feeds read on left =
    let c = congested t window bare Same in
    let a = acknowledged c Same now in
    let w = windowed a seq window in
    let two = windowed_stays a seq window in
    let u = opened w in
    let three = opened_stays w in
    let timer : u.resend.timer ≡ t.resend.timer =
    ap (λ (r : Resending). r.timer) (sym three.resend) ∙ ap (λ (r : Resending). r.timer) (sym two.resend) in
    let acked : t.acked ≡ u.acked = two.acked ∙ three.acked in
    let sent : t.sent ≡ u.sent = two.sent ∙ three.sent in
    let end : t.end ≡ u.end = two.end ∙ three.end in
    watched_steady u (nat_lt u.sent (places u after)) now (ap is_off timer ∙ on)
    (λ rests.
    let at : t.acked ≡ t.sent = let order = feeds.sound.order in grind (arith, nat_tests) in
    let more = (feeds.rests at on).1 in
    let ends = ap end_places end in
    (closed u (nat_lt u.sent (places u after)) rests left, grind (arith, nat_tests))) ∙ timer
  where
    closed : (u : Transmission) (unsent : Bool) → nat_lt u.acked u.sent ≡ false
        → (((watched u unsent now).acked < (watched u unsent now).sent) ⊎ (is_closed (watched u unsent now) ≡ true)) → is_closed u ≡ true
    closed u unsent rests left = by_test (nat_lt u.acked u.sent) refl left
      where
        by_test : (b : Bool) → nat_lt u.acked u.sent ≡ b
            → (((if b then u else record u { resend = if is_closed u && unsent then after_start u.resend now else after_stop u.resend }).acked <
            (if b then u else record u { resend = if is_closed u && unsent then after_start u.resend now else after_stop u.resend }).sent)
            ⊎ (is_closed (if b then u else record u { resend = if is_closed u && unsent then after_start u.resend now else after_stop u.resend }) ≡ true)) → is_closed u ≡ true
        by_test true is left = cc (is, rests)
        by_test false is (inl under) = absurd (grind (arith, nat_tests))
        by_test false is (inr shut) = shut
