-- An acknowledgement alone goes out.
use Rattle.std.proofs.Common.{refl, ◌≡◌, ℕ, ◌+◌, ◌^◌, ◌<◌, ◌≤◌, ◌∷◌, Bool, true, false, not, ◌&&◌, ◌||◌, Option, None, Some, if◌then◌else◌, IsTrue, nat_lt, max, pos, arith, ap, subst, sym, ◌∙◌}
use Rattle.std.proofs.lemmas.Bool.Decides.{nat_tests}
use Rattle.sock_buffers.specs.Downward.{Downward}
use Rattle.sock_buffers.specs.Upward.{Upward}
use Rattle.tcp_transmit.specs.Pieces.{OwesNothing, next, numbers, piece_owed}
use Rattle.tcp_transmit.specs.Transmission.{Transmission, is_owed_again}
use Rattle.tcp_transmit.specs.declared.Piece.{Piece}
use Rattle.tcp_transmit.proofs.Owed.{next_none}
use Rattle.tcp_connection.specs.Connection.{Connection, HasBuffers, has_gone, is_opening, is_synchronized}
use Rattle.tcp_connection.specs.Owing.{ack_if, owed_by, owed_of, piece_or_ack, told}
use Rattle.tcp_connection.specs.Windows.{is_update_owed, moves_far, our_shift, told_edge}
use Rattle.tcp_connection.specs.declared.Owed.TheVariants.{Syn, SynAck, Ack}
use Rattle.tcp_connection.specs.declared.Stage.{Stage}
use Rattle.tcp_connection.specs.declared.Stage.TheVariants as stage
use Rattle.spec_flow.specs.Settings.{Settings}
use Rattle.spec_flow.specs.Event.{At, Departs, Segment, Story}
use Rattle.spec_flow.specs.Host.{acked, answered, our_place, sent}
use Rattle.spec_flow.specs.Flow.{host, is_under_way, syn_is_out}
use Rattle.spec_flow.specs.Lawful.{is_overdue, is_prompted, repeats}
use Rattle.sim_halves.specs.Resends.{Resends}
use Rattle.sim_halves.specs.Sends.{Keeps, Outward}
use Rattle.sim_halves.proofs.Gone.{bare_goes}
use Rattle.sim_connection.specs.Holding.{Gives, Holds, is_calls, is_at_connecting, is_live}
use Rattle.sim_connection.specs.Seen.{count_of, outward_of, resending_of, timer_of}
use Rattle.sim_connection.specs.Sending.{segment_out}
use Rattle.sim_connection.proofs.Counting.{counts_on}
use Rattle.sim_connection.proofs.Leaving.{leaves_goes, leaves_kept, leaves_received, stands}
use Rattle.sim_connection.proofs.Quiet.{opened_on, opened_told}
use Rattle.sim_connection.proofs.Unanswered.{calls_on}
use Rattle.sim_halves.proofs.Unheard.{bare_unheard}

-- numbers are under way as before, where no more was sent
pub way_same : (past next : Story) (o q : Outward) → Keeps o (host past) → Keeps q (host next) → q.sent ≡ o.sent → q.acked ≡ o.acked → answered (host next) ≡ answered (host past) →
    syn_is_out next ≡ syn_is_out past
    → is_under_way next ≡ is_under_way past
way_same past next o q k l sent_is acked_is answered_is out_is =
    ap (λ (b : Bool). if b then nat_lt (acked (host next)) (sent (host next)) else syn_is_out next) answered_is
    ∙ ap (λ (a : ℕ). if answered (host past) then nat_lt a (sent (host next)) else syn_is_out next) (sym l.acked ∙ acked_is ∙ k.acked)
    ∙ ap (λ (n : ℕ). if answered (host past) then nat_lt (acked (host past)) n else syn_is_out next) (sym l.sent ∙ sent_is ∙ k.sent)
    ∙ ap (λ (b : Bool). if answered (host past) then nat_lt (acked (host past)) (sent (host past)) else b) out_is

prompted_is : (a b p d : Bool) → p ≡ true → IsTrue (a || b || p || d)
prompted_is true b p d is = refl
prompted_is false true p d is = refl
prompted_is false false true d is = refl
prompted_is false false false d is = absurd cc

module _ (s : Settings) (c : Connection) (up : Upward) (down : Downward) (past : Story) (now m : ℕ) (on : now ≤ m) (h : Holds s c up down past now)
    (known : is_calls c.stage ≡ false) (out : has_gone c.sendings ≡ true) (prompted : is_prompted past ≡ true)
    (no_syn : is_opening c.stage ≡ true → c.syn_owed ≡ false)
    (none_again : is_owed_again c.transmission ≡ true → c.transmission.acked < c.transmission.sent → ⊥) where
  abbrev seg : Segment
  seg = segment_out s.mru c up down Ack

  abbrev after : Story
  after = At m (Departs seg) ∷ past

  low : down.first ≤ c.transmission.sent
  low = let first = h.buffers.feeds.first in let order = h.buffers.feeds.sound.order in omega arith

  near : c.transmission.sent < c.transmission.sent + 2 ^ 31
  near = omega arith

  same_sent : max c.transmission.sent (c.transmission.sent + 0) ≡ c.transmission.sent
  same_sent = omega arith

  kept : Keeps (outward_of c.transmission down) (host after)
  kept = subst (λ (n : ℕ). Keeps (record (outward_of c.transmission down) { sent = n }) (host after)) same_sent
      (leaves_kept s c up down past now m seg on h known out refl refl refl refl refl refl refl c.transmission.sent refl low (omega arith) near refl)

  way : is_under_way after ≡ is_under_way past
  way = way_same past after (outward_of c.transmission down) (outward_of c.transmission down) h.gives.keeps kept refl refl refl refl

  at_end : our_place (host past) seg.number ≡ pos (sent (host past))
  at_end = stands s c up down past now m seg on h known out refl refl refl refl refl refl refl c.transmission.sent refl low (omega arith) near refl ∙ ap (λ (n : ℕ). pos n) h.gives.keeps.sent

  ack_gives : Gives s (told c up (our_shift c)) down after m
  ack_gives =
      let g = h.gives in
      let place = stands s c up down past now m seg on h known out refl refl refl refl refl refl refl c.transmission.sent refl low (omega arith) near refl in
      record {
        keeps = kept;
        fin_acked = g.fin_acked;
        fin_out = g.fin_out;
        window = g.window;
        alone = g.alone;
        resends = subst (λ (b : Bool). Resends after m (timer_of (resending_of c)) (count_of b (resending_of c)) (resending_of c).estimate.wait) (sym way)
            (bare_goes past seg m refl refl c.transmission.sent 0 place refl now (timer_of (resending_of c)) (count_of (is_under_way past) (resending_of c))
            (resending_of c).estimate.wait refl (omega (arith, g.keeps.sent)) on g.resends);
        counts = counts_on past after c.transmission.resend.timer refl refl (omega (arith, g.resends.moment, on)) g.counts;
        calls = let k = calls_on c past after (bare_unheard past seg m refl refl c.transmission.sent place refl) g.calls in record { counted = k.counted; early = k.early; syn_early = k.syn_early };
        steady = g.steady;
        unset = g.unset;
        set = g.set;
        owes_syn = g.owes_syn;
        syn_again = λ opening owed gone. let not_it = sym owed ∙ no_syn opening in absurd cc;
        again = λ owed under. absurd (none_again owed under);
      }

  pub ack_goes : HasBuffers (told c up (our_shift c)) up down → Holds s (told c up (our_shift c)) up down after m
  ack_goes buffers = record {
    suits = record { ring = h.suits.ring; congestion = h.suits.congestion; scales = h.suits.scales; few = h.suits.few };
    buffers = buffers;
    within = h.within;
    goes = leaves_goes s c up down past now m seg on h known out refl refl refl refl refl refl refl c.transmission.sent refl low (omega arith) near refl (omega arith)
        (prompted_is seg.rst (not (repeats past seg)) (is_prompted past) (is_overdue m past seg) prompted) (λ is. absurd cc)
        (record { carries = λ is. absurd cc; acknowledges = ((λ is. refl), (λ is. absurd cc)); next = λ is. at_end; window = λ is. absurd cc });
    opened = opened_told s c up (our_shift c) after (opened_on s c past after (record { ours = refl; connecting = refl; out = refl; accepted = refl; theirs = refl; unasked = refl }) refl h.opened);
    awaits = λ is. let not_it = sym is ∙ known in absurd cc;
    receives = λ is. leaves_received s c up down past now m seg on h known out refl refl refl refl refl refl refl c.transmission.sent refl low (omega arith) near refl;
    gives = ack_gives;
  }

-- ---- where an acknowledgement is what is owed

far_none : (edge : ℕ) → moves_far (Some edge) edge ≡ false
far_none edge = grind (arith, nat_tests)

pub data_none : (p : Option Piece) (owed : Bool) → piece_or_ack p owed ≡ Some Ack → (p ≡ None) × (owed ≡ true)
data_none None true is = (refl, refl)
data_none None false is = absurd cc
data_none (Some p) owed is = absurd cc

pub piece_none : (t : Transmission) (down : Downward) → piece_owed t down ≡ None → numbers (next t down) ≡ 0
piece_none t down is = by (nat_lt 0 (numbers (next t down))) refl is
  where
    by : (b : Bool) → nat_lt 0 (numbers (next t down)) ≡ b → (if b then Some (next t down) else None) ≡ None → numbers (next t down) ≡ 0
    by true some is = absurd cc
    by false none is = grind (arith, nat_tests)

-- what is to be known where an acknowledgement goes out
record Asked (c : Connection) (past : Story) : Type 0 where
  known : is_calls c.stage ≡ false
  out : has_gone c.sendings ≡ true
  prompted : is_prompted past ≡ true
  no_syn : is_opening c.stage ≡ true → c.syn_owed ≡ false
  none_again : is_owed_again c.transmission ≡ true → c.transmission.acked < c.transmission.sent → ⊥

module _ (s : Settings) (c : Connection) (up : Upward) (down : Downward) (past : Story) (now : ℕ) (h : Holds s c up down past now) where
  is_asked : (st : Stage) → c.stage ≡ st → owed_by st c up down ≡ Some Ack → is_live st ≡ true → Asked c past
  is_asked stage.Connecting is owed live = absurd cc
  is_asked stage.SynSent is owed live = absurd (by c.syn_owed owed)
    where
      by : (b : Bool) → (if b then Some Syn else None) ≡ Some Ack → ⊥
      by true owed = absurd cc
      by false owed = absurd cc
  is_asked stage.SynReceived is owed live = by c.syn_owed c.ack_owed refl refl owed
    where
      opening : is_opening c.stage ≡ true
      opening = ap (λ (st : Stage). is_opening st) is

      known : is_calls c.stage ≡ false
      known = ap (λ (st : Stage). is_calls st) is

      by_gone : (b : Bool) → has_gone c.sendings ≡ b → c.syn_owed ≡ false → b ≡ true
      by_gone true gone none = refl
      by_gone false gone none = let not_it = sym (h.opened.owes (ap (λ (st : Stage). is_at_connecting st) is) opening gone) ∙ none in absurd cc

      by : (a b : Bool) → c.syn_owed ≡ a → c.ack_owed ≡ b → (if a then Some SynAck else ack_if b) ≡ Some Ack → Asked c past
      by true b syn_is ack_is owed = absurd cc
      by false false syn_is ack_is owed = absurd cc
      by false true syn_is ack_is owed = record {
        known = known;
        out = by_gone (has_gone c.sendings) refl syn_is;
        prompted = (h.receives known).prompted ack_is;
        no_syn = λ yet. syn_is;
        none_again = λ again under. let unsent = h.buffers.sound.unsent opening in omega (arith, unsent, under);
      }
  is_asked stage.Synchronized is owed live =
      let two = data_none (piece_owed c.transmission down) (c.ack_owed || is_update_owed c up) owed in
      let nothing : OwesNothing c.transmission down = next_none c.transmission down h.buffers.feeds (piece_none c.transmission down two.0) in
      record {
        known = known;
        out = h.opened.sent synchronized;
        prompted = by c.ack_owed (is_prompted past) refl refl two.1;
        no_syn = λ yet. let not_it = sym yet ∙ ap (λ (st : Stage). is_opening st) is in absurd cc;
        none_again = λ again under. let not_it = sym again ∙ nothing.0 in absurd cc;
      }
    where
      known : is_calls c.stage ≡ false
      known = ap (λ (st : Stage). is_calls st) is

      synchronized : is_synchronized c.stage ≡ true
      synchronized = ap (λ (st : Stage). is_synchronized st) is

      none_owed : (ended : Bool) → (not ended && moves_far (Some (told_edge c up (our_shift c))) (told_edge c up (our_shift c))) ≡ true → ⊥
      none_owed true far = absurd cc
      none_owed false far = let not_it = sym far ∙ far_none (told_edge c up (our_shift c)) in absurd cc

      by : (a b : Bool) → c.ack_owed ≡ a → is_prompted past ≡ b → (a || is_update_owed c up) ≡ true → b ≡ true
      by true b ack_is prompted_is owed = sym prompted_is ∙ (h.receives known).prompted ack_is
      by false true ack_is prompted_is owed = refl
      by false false ack_is prompted_is owed =
          absurd (none_owed c.received.ended (ap (λ (told : Option ℕ). not c.received.ended && moves_far told (told_edge c up (our_shift c)))
          (sym ((h.receives known).updated prompted_is synchronized)) ∙ owed))
  is_asked stage.TimeWait is owed live = absurd cc
  is_asked (stage.Resets seq ack) is owed live = absurd cc
  is_asked stage.Closed is owed live = absurd cc

  -- an acknowledgement that is owed may go out
  pub owed_ack_goes : (m : ℕ) → now ≤ m → owed_of c up down ≡ Some Ack → HasBuffers (told c up (our_shift c)) up down
      → Holds s (told c up (our_shift c)) up down (At m (Departs (segment_out s.mru c up down Ack)) ∷ past) m
  owed_ack_goes m on owed buffers =
      let a = is_asked c.stage refl owed h.opened.live in
      ack_goes s c up down past now m on h a.known a.out a.prompted a.no_syn a.none_again buffers
