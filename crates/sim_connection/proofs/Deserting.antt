-- A flow whose peer left before its guest answered, and how much passed of a flow, by what a connection keeps.
use Rattle.std.proofs.Common.{refl, ◌≡◌, ℕ, ◌+◌, ◌<◌, ◌++◌, List, [], ◌∷◌, length, length-drop, Option, None, Some, is_some, Bool, true, false, not, ◌&&◌, if◌then◌else◌, nat_eq, arith, ap, sym, ◌∙◌}
use Rattle.std.proofs.lemmas.Bool.Decides.{nat_tests}
use Rattle.sock_buffers.specs.Downward.{Downward}
use Rattle.sock_buffers.specs.Upward.{Upward}
use Rattle.tcp_transmit.specs.Transmission.{octets_read}
use Rattle.tcp_connection.specs.Connection.{Connection, is_opening, is_synchronized}
use Rattle.tcp_connection.specs.Hosts.{is_open}
use Rattle.spec_flow.specs.Settings.{Settings}
use Rattle.spec_flow.specs.Event.{Story}
use Rattle.spec_flow.specs.Guest.{Up, is_empty, was_acked, written}
use Rattle.spec_flow.specs.Host.{answered, got, got_end}
use Rattle.spec_flow.specs.Flow.{guest, host, is_accepted, is_closed, is_connecting, opened_at, their_number}
use Rattle.spec_flow.specs.Close.{is_deserted, patience_end, syn_is_due}
use Rattle.spec_flow.specs.Lawful.{is_prompted}
use Rattle.spec_flow.specs.Dutiful.{closing_moments, moment_if, resolves_guest, wakes}
use Rattle.spec_flow.specs.Bounds.{IsFrom}
use Rattle.sim_connection.specs.Holding.{Holds, is_calls}
use Rattle.sim_connection.proofs.Bounds.{from_first, from_if, from_second}
use Rattle.sim_connection.proofs.Watching.{opening_is, synchronized_is}

-- ---- lists

pub empty_is : (xs : List ℕ) (n : ℕ) → length xs ≡ n → is_empty xs ≡ nat_eq n 0
empty_is [] n is = yes n is
  where
    yes : (n : ℕ) → 0 ≡ n → true ≡ nat_eq n 0
    yes n is = grind (arith, nat_tests)
empty_is (x ∷ xs) n is = no n (omega (arith, is))
  where
    no : (n : ℕ) → 0 < n → false ≡ nat_eq n 0
    no n some = grind (arith, nat_tests)

-- ---- six tests

all_six : (a b d e f g : Bool) → a ≡ true → b ≡ false → d ≡ false → e ≡ true → f ≡ true → g ≡ false → (a && not b && not d && e && f && not g) ≡ true
all_six a b d e f g a_is b_is d_is e_is f_is g_is = rw (a_is, b_is, d_is, e_is, f_is, g_is) refl

six_of : (a b d e f g : Bool) → (a && not b && not d && e && f && not g) ≡ true → (a ≡ true) × (d ≡ false) × (e ≡ true) × (f ≡ true)
six_of true true d e f g is = absurd cc
six_of true false true e f g is = absurd cc
six_of true false false true true g is = (refl, refl, refl, refl)
six_of true false false true false g is = absurd cc
six_of true false false false f g is = absurd cc
six_of false b d e f g is = absurd cc

module _ (s : Settings) (c : Connection) (up : Upward) (down : Downward) (past : Story) (now : ℕ) (h : Holds s c up down past now) where
  -- ---- how much passed

  pub got_is : length (got (host past)) ≡ octets_read down
  got_is =
      let k = h.gives.keeps in
      let long = ap length k.held ∙ length-drop down.first (got (host past)) in
      omega (arith, long, k.before)

  pub written_is : length (written (guest past)) ≡ up.written
  written_is = by (is_calls c.stage) refl
    where
      by : (b : Bool) → is_calls c.stage ≡ b → length (written (guest past)) ≡ up.written
      by true calls =
          let a = h.awaits calls in
          let none : length (written (guest past)) ≡ 0 = ap (λ (g : List Up). length (written g)) a.guest in
          let taken : c.received.taken ≡ 0 = ap (λ r. r.taken) a.received in
          omega (arith, none, taken, h.buffers.fills.taken)
      by false reached = (h.receives reached).follows.count

  pub end_is_got : got_end (host past) ≡ not (is_open c.transmission.end)
  end_is_got = sym h.gives.keeps.ended

  -- ---- it is deserted

  undue : is_accepted past ≡ true → c.ack_owed ≡ false → syn_is_due past ≡ false
  undue accepted unowed = by (is_calls c.stage) refl
    where
      and_none : (b : Bool) → (b && not true) ≡ false
      and_none true = refl
      and_none false = refl

      by : (b : Bool) → is_calls c.stage ≡ b → (is_some (their_number past) && not (was_acked (guest past))) ≡ false
      by true calls = ap (λ (o : Option ℕ). is_some o && not (was_acked (guest past))) (h.opened.theirs ∙ ap (λ (b : Bool). if b then None else Some c.received.first) calls)
      by false reached =
          let acked_once : was_acked (guest past) ≡ true = (h.receives reached).once accepted unowed in
          ap (λ (b : Bool). is_some (their_number past) && not b) acked_once ∙ and_none (is_some (their_number past))

  pub deserted_is : is_accepted past ≡ true → is_opening c.stage ≡ true → is_open c.transmission.end ≡ false → nat_eq (octets_read down) 0 ≡ true → c.ack_owed ≡ false → is_deserted past ≡ true
  deserted_is accepted opening ended none unowed =
      all_six (is_accepted past) (is_closed past) (answered (host past)) (got_end (host past)) (is_empty (got (host past))) (syn_is_due past) accepted h.goes.open_yet
      (h.opened.answered ∙ opening_is c.stage h.opened.live opening) (end_is_got ∙ ap not ended) (empty_is (got (host past)) (octets_read down) got_is ∙ none) (undue accepted unowed)

  -- and so is one that is by the law, unless a segment of the guest may be answered
  pub deserted_only : is_deserted past ≡ true → is_prompted past ≡ false
      → (is_accepted past ≡ true) × (is_opening c.stage ≡ true) × (is_open c.transmission.end ≡ false) × (nat_eq (octets_read down) 0 ≡ true) × (c.ack_owed ≡ false)
  deserted_only is quiet =
      let four = six_of (is_accepted past) (is_closed past) (answered (host past)) (got_end (host past)) (is_empty (got (host past))) (syn_is_due past) is in (
        four.0,
        opens (is_opening c.stage) refl (sym h.opened.answered ∙ four.1),
        ends (is_open c.transmission.end) (sym end_is_got ∙ four.2),
        sym (empty_is (got (host past)) (octets_read down) got_is) ∙ four.3,
        unowed (is_calls c.stage) c.ack_owed refl refl,
      )
    where
      opens : (b : Bool) → is_opening c.stage ≡ b → is_synchronized c.stage ≡ false → b ≡ true
      opens true is unanswered = refl
      opens false is unanswered = let not_it = sym (synchronized_is c.stage h.opened.live is) ∙ unanswered in absurd cc

      ends : (b : Bool) → not b ≡ true → b ≡ false
      ends true is = absurd cc
      ends false is = refl

      unowed : (b d : Bool) → is_calls c.stage ≡ b → c.ack_owed ≡ d → d ≡ false
      unowed b false calls owed = refl
      unowed true true calls owed = let not_it = sym owed ∙ (h.awaits calls).ack_owed in absurd cc
      unowed false true calls owed = let not_it = sym ((h.receives calls).prompted owed) ∙ quiet in absurd cc

  -- the end of its patience is among the moments that end a wait
  pub patience_from : is_deserted past ≡ true → IsFrom (Some (patience_end past)) (wakes past)
  patience_from is =
      from_first (patience_end past) (closing_moments past ++ moment_if (resolves_guest past) (opened_at past + 1000)) _
      (from_first (patience_end past) (closing_moments past) _
      (from_second (patience_end past) (moment_if (is_connecting past) (opened_at past + 75000)) _ (from_if (patience_end past) (patience_end past) (is_deserted past) is (omega arith))))
