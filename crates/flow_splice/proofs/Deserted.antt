-- A flow whose peer left before its guest answered.
use Rattle.std.proofs.Common.{refl, ◌≡◌, ℕ, zero, suc, ◌+◌, ◌<◌, ◌≤◌, List, [], ◌∷◌, ◌++◌, length, Option, None, Some, Bool, true, false, not, ◌&&◌, ◌||◌, ◌⊎◌, inl, inr, max, min, ap, sym, ◌∙◌, arith, nat_eq, nat_le}
use Rattle.std.proofs.lemmas.Bool.Decides.{nat_tests}
use Rattle.sock_buffers.specs.Downward.{Downward}
use Rattle.tcp_transmit.specs.Transmission.{octets_read}
use Rattle.tcp_connection.specs.Connection.{is_opening}
use Rattle.tcp_connection.specs.Hosts.{is_open as host_is_open}
use Rattle.sim_connection.specs.Holding.{is_at_connecting}
use Rattle.spec_flow.specs.Settings.{Settings}
use Rattle.spec_flow.specs.Event.{Story}
use Rattle.spec_flow.specs.Flow.{has_connected, host, is_accepted, is_closed, opened_at}
use Rattle.spec_flow.specs.Guest.{is_empty}
use Rattle.spec_flow.specs.Host.{answered, got, got_end}
use Rattle.spec_flow.specs.Close.{is_deserted as is_deserted_by, last_at, patience_end as patience_by, syn_is_due}
use Rattle.spec_flow.specs.Lawful.{is_prompted}
use Rattle.spec_flow.specs.Dutiful.{close_deadline, moment_if, wakes}
use Rattle.spec_flow.specs.Bounds.{IsBy, IsFrom}
use Rattle.sim_connection.proofs.Deserting.{deserted_is, deserted_only, patience_from}
use Rattle.flow_splice.specs.Follows.{Follows, IsOpen}
use Rattle.flow_splice.specs.Splice.{Splice, is_open}
use Rattle.flow_splice.specs.Wants.{HasTime, connect_end, is_deserted, left_at, patience_end, reads_none, sooner}
use Rattle.flow_splice.proofs.Opened.{open_is}

pub none_is : (down : Downward) → reads_none down ≡ nat_eq (octets_read down) 0
none_is down = by down.first (length down.octets)
  where
    no : (n : ℕ) → 0 < n → false ≡ nat_eq n 0
    no n some = grind (arith, nat_tests)

    by : (a b : ℕ) → (nat_eq a 0 && nat_eq b 0) ≡ nat_eq (a + b) 0
    by zero b = ap (λ (n : ℕ). nat_eq n 0) (let same : b ≡ 0 + b = omega arith in same)
    by (suc a) b = ap (λ (t : Bool). t && nat_eq b 0) (sym (no (suc a) (omega arith))) ∙ no (suc a + b) (omega arith)

pub record Deserts (f : Splice) : Type 0 where
  pub accepted : f.accepted ≡ true
  pub connected : is_at_connecting f.conn.stage ≡ false
  pub opening : is_opening f.conn.stage ≡ true
  pub ended : host_is_open f.conn.transmission.end ≡ false
  pub unread : nat_eq (octets_read f.down) 0 ≡ true
  pub unowed : f.conn.ack_owed ≡ false

pub deserted_parts : (f : Splice) → is_deserted f ≡ true → Deserts f
deserted_parts f is =
    let p = six f.accepted (is_at_connecting f.conn.stage) (is_opening f.conn.stage) (host_is_open f.conn.transmission.end) (reads_none f.down) f.conn.ack_owed is in
    record { accepted = p.0; connected = p.1; opening = p.2; ended = p.3; unread = sym (none_is f.down) ∙ p.4; unowed = p.5 }
  where
    six : (a b d e g h : Bool) → (a && not b && d && not e && g && not h) ≡ true → (a ≡ true) × (b ≡ false) × (d ≡ true) × (e ≡ false) × (g ≡ true) × (h ≡ false)
    six true false true false true false is = (refl, refl, refl, refl, refl, refl)
    six true false true false true true is = absurd cc
    six true false true false false h is = absurd cc
    six true false true true g h is = absurd cc
    six true false false e g h is = absurd cc
    six true true d e g h is = absurd cc
    six false b d e g h is = absurd cc

pub deserted_by : (f : Splice) → Deserts f → is_deserted f ≡ true
deserted_by f p =
    six f.accepted (is_at_connecting f.conn.stage) (is_opening f.conn.stage) (host_is_open f.conn.transmission.end) (reads_none f.down) f.conn.ack_owed p.accepted p.connected p.opening p.ended
    (none_is f.down ∙ p.unread) p.unowed
  where
    six : (a b d e g h : Bool) → a ≡ true → b ≡ false → d ≡ true → e ≡ false → g ≡ true → h ≡ false → (a && not b && d && not e && g && not h) ≡ true
    six a b d e g h a_is b_is d_is e_is g_is h_is = rw (a_is, b_is, d_is, e_is, g_is, h_is) refl

-- ---- lists of moments

-- a later moment is from them too
pub from_later : (at later : ℕ) (ms : List ℕ) → at ≤ later → IsFrom (Some at) ms → IsFrom (Some later) ms
from_later at later [] low is = absurd is
from_later at later (m ∷ ms) low (inl is) = inl (omega (arith, low, is))
from_later at later (m ∷ ms) low (inr is) = inr (from_later at later ms low is)

-- the earlier of two is by what one is, and from what both are
pub by_sooner : (at : ℕ) (other : Option ℕ) (ms : List ℕ) → IsBy other ms → IsBy (Some (sooner at other)) ms
by_sooner at None [] is = tt
by_sooner at None (m ∷ ms) is = absurd is
by_sooner at (Some moment) [] is = tt
by_sooner at (Some moment) (m ∷ ms) is = let low = is.0 in (omega (arith, low), by_sooner at (Some moment) ms is.1)

pub from_sooner : (at : ℕ) (other : Option ℕ) (ms : List ℕ) → IsFrom (Some at) ms → IsFrom other ms → IsFrom (Some (sooner at other)) ms
from_sooner at None ms is is_other = is
from_sooner at (Some moment) ms is is_other = by (nat_le at moment) refl
  where
    by : (b : Bool) → nat_le at moment ≡ b → IsFrom (Some (min at moment)) ms
    by true low = let less : at ≤ moment = grind (arith, nat_tests) in from_later at (min at moment) ms (omega (arith, less)) is
    by false high = let less : moment < at = grind (arith, nat_tests) in from_later moment (min at moment) ms (omega (arith, less)) is_other

-- ---- by the law

-- what is closed isn't
pub closed_deserts : (past : Story) → is_closed past ≡ true → is_deserted_by past ≡ false
closed_deserts past shut = by (is_accepted past) (is_closed past) (answered (host past)) (got_end (host past)) (is_empty (got (host past))) (syn_is_due past) shut
  where
    by : (a b d e f g : Bool) → b ≡ true → (a && not b && not d && e && f && not g) ≡ false
    by true b d e f g is = rw is refl
    by false b d e f g is = refl

module _ (s : Settings) (f : Splice) (past : Story) (now : ℕ) (o : IsOpen s f past now) where
  pub deserted_law : is_deserted f ≡ true → is_deserted_by past ≡ true
  deserted_law is =
      let p = deserted_parts f is in
      deserted_is s f.conn f.up f.down past now o.holds (o.accepted ∙ p.accepted) p.opening p.ended p.unread p.unowed

  pub deserted_here : is_deserted_by past ≡ true → is_prompted past ≡ false → is_deserted f ≡ true
  deserted_here is quiet =
      let five = deserted_only s f.conn f.up f.down past now o.holds is quiet in
      deserted_by f (record {
        accepted = sym o.accepted ∙ five.0;
        connected = sym o.holds.opened.connects ∙ ap (λ (b : Bool). not (b || has_connected past || is_closed past)) five.0;
        opening = five.1;
        ended = five.2;
        unread = five.3;
        unowed = five.4;
      })

  -- where time doesn't close the flow, its guest has time by the law
  pub has_time : is_open f ≡ true → HasTime f now → is_deserted_by past ≡ true → is_prompted past ≡ false → now < max (patience_by past) (last_at past + 1)
  has_time open_yet t is quiet =
      let soon = t.deserted open_yet (deserted_here is quiet) in
      let since = o.since in
      let called = o.called in
      let last = o.last in
      omega (arith, soon, since, called, last)

  -- ---- the moment by which it is closed

  patience_is : patience_by past ≡ patience_end f
  patience_is = let since = o.since in let called = o.called in omega (arith, since, called)

  left_is : max (patience_by past) (last_at past + 1) ≡ left_at f
  left_is = let same = patience_is in let last = o.last in omega (arith, same, last)

  -- of one that connects it is the end of that time
  open_connects : is_at_connecting f.conn.stage ≡ true → close_deadline past ≡ connect_end f ∷ []
  open_connects connects =
      ap (λ (b : Bool). moment_if b (opened_at past + 75000) ++ moment_if (is_deserted_by past && not (is_prompted past)) (max (patience_by past) (last_at past + 1)))
      (o.holds.opened.connects ∙ connects)
      ∙ ap (λ (b : Bool). ((opened_at past + 75000) ∷ []) ++ moment_if (b && not (is_prompted past)) (max (patience_by past) (last_at past + 1))) (alone (is_deserted_by past) refl)
      ∙ ap (λ (n : ℕ). (n + 75000) ∷ []) o.since
    where
      apart : (a b d : Bool) → not (a || b || d) ≡ true → a ≡ false
      apart false b d is = refl
      apart true true true is = absurd cc
      apart true true false is = absurd cc
      apart true false true is = absurd cc
      apart true false false is = absurd cc

      alone : (b : Bool) → is_deserted_by past ≡ b → b ≡ false
      alone false is = refl
      alone true is =
          let accepted = first (is_accepted past) (is_closed past) (answered (host past)) (got_end (host past)) (is_empty (got (host past))) (syn_is_due past) is in
          let not_it = sym accepted ∙ apart (is_accepted past) (has_connected past) (is_closed past) (o.holds.opened.connects ∙ connects) in absurd cc
        where
          first : (a b d e g h : Bool) → (a && not b && not d && e && g && not h) ≡ true → a ≡ true
          first true b d e g h is = refl
          first false b d e g h is = absurd cc

  -- of one that is deserted by the law, that of the flow
  open_left : is_at_connecting f.conn.stage ≡ false → (close_deadline past ≡ []) ⊎ ((is_deserted f ≡ true) × (close_deadline past ≡ left_at f ∷ []))
  open_left apart = by (is_deserted_by past) (is_prompted past) refl refl
    where
      begins : close_deadline past ≡ moment_if (is_deserted_by past && not (is_prompted past)) (max (patience_by past) (last_at past + 1))
      begins =
          ap (λ (b : Bool). moment_if b (opened_at past + 75000) ++ moment_if (is_deserted_by past && not (is_prompted past)) (max (patience_by past) (last_at past + 1)))
          (o.holds.opened.connects ∙ apart)

      none : (b d : Bool) → is_deserted_by past ≡ b → is_prompted past ≡ d → (b && not d) ≡ false → close_deadline past ≡ []
      none b d is prompted so =
          begins ∙ ap (λ (x : Bool). moment_if x (max (patience_by past) (last_at past + 1))) (ap (λ (x : Bool). x && not (is_prompted past)) is ∙ ap (λ (x : Bool). b && not x) prompted ∙ so)

      by : (b d : Bool) → is_deserted_by past ≡ b → is_prompted past ≡ d → (close_deadline past ≡ []) ⊎ ((is_deserted f ≡ true) × (close_deadline past ≡ left_at f ∷ []))
      by true true is prompted = inl (none true true is prompted refl)
      by false d is prompted = inl (none false d is prompted refl)
      by true false is quiet = inr (
        deserted_here is quiet,
        begins ∙ ap (λ (x : Bool). moment_if x (max (patience_by past) (last_at past + 1))) (ap (λ (x : Bool). x && not (is_prompted past)) is ∙ ap (λ (x : Bool). true && not x) quiet)
            ∙ ap (λ (n : ℕ). n ∷ []) left_is,
      )

  open_left_from : is_deserted f ≡ true → IsFrom (Some (left_at f)) (wakes past)
  open_left_from deserted = from_later (patience_by past) (left_at f) (wakes past) (let same = patience_is in omega (arith, same)) (patience_from s f.conn f.up f.down past now o.holds (deserted_law deserted))

pub connects_alone : (s : Settings) (f : Splice) (past : Story) (now : ℕ) → Follows s f past now → is_open f ≡ true → is_at_connecting f.conn.stage ≡ true → close_deadline past ≡ connect_end f ∷ []
connects_alone s f past now h yet connects = open_connects s f past now (open_is s f past now yet h) connects

pub left_deadline : (s : Settings) (f : Splice) (past : Story) (now : ℕ) → Follows s f past now → is_open f ≡ true → is_at_connecting f.conn.stage ≡ false →
    (close_deadline past ≡ []) ⊎ ((is_deserted f ≡ true) × (close_deadline past ≡ left_at f ∷ []))
left_deadline s f past now h yet apart = open_left s f past now (open_is s f past now yet h) apart

pub left_from : (s : Settings) (f : Splice) (past : Story) (now : ℕ) → Follows s f past now → is_open f ≡ true → is_deserted f ≡ true → IsFrom (Some (left_at f)) (wakes past)
left_from s f past now h yet deserted = open_left_from s f past now (open_is s f past now yet h) deserted
