-- A segment of the guest arrives at a flow whose socket was closed.
use Rattle.std.proofs.Common.{refl, ◌≡◌, ℕ, ◌≤◌, List, MatchOption, is_some, option_map, [], ◌∷◌, Bool, true, false, not, ◌&&◌, ◌||◌, Option, None, Some, if◌then◌else◌, nat_eq, arith, ap}
use Rattle.std.proofs.Common.{subst, sym, ◌∙◌}
use Rattle.std.specs.Option.{option_or, option_map, unwrap_or}
use Rattle.seq_space.specs.Places.{is_ahead, number_of}
use Rattle.sock_buffers.specs.Downward.{Downward}
use Rattle.sock_buffers.specs.Upward.{Upward}
use Rattle.tcp_segment.specs.Tcp.{Tcp}
use Rattle.tcp_receive.specs.Received.{next_number}
use Rattle.tcp_connection.specs.Connection.{Connection}
use Rattle.tcp_connection.specs.Segments.{after_segment, down_after_segment, up_after_segment}
use Rattle.spec_flow.specs.Settings.{Settings}
use Rattle.spec_flow.specs.Lawful.{HasNumberThatCame}
use Rattle.spec_flow.specs.Event.{Arrives, At, Segment, Story}
use Rattle.spec_flow.specs.Flow.{confirms, greets, host, is_accepted, is_closed, our_number, push, syn_is_out, their_number, their_syn, guest, is_heeded, is_plain}
use Rattle.spec_flow.specs.Guest.{ackd, Up, Acked, Came, HasCome, Conforming, Known}
use Rattle.spec_flow.specs.Host.{Confirmed, sent}
use Rattle.spec_flow.specs.Flow.{guest}
use Rattle.spec_flow.specs.Close.{ends_time_wait as ends_rest_of, is_owed_reset}
use Rattle.spec_flow.specs.Flow.{next_number as number_after}
use Rattle.spec_flow.specs.Dutiful.{MustClose}
use Rattle.sim_halves.proofs.Rests.{rest_next}
use Rattle.sim_connection.specs.Over.{IsOver, IsInTimeWait, is_resets}
use Rattle.sim_connection.specs.Seen.{part_of, segment_of}
use Rattle.sim_connection.proofs.Going.{longer}
use Rattle.sim_connection.proofs.InTimeWait.{rest_arrives}
use Rattle.flow_splice.specs.Follows.{Follows, FollowsAt, FollowsInTimeWait}
use Rattle.flow_splice.specs.Guests.{Hears, ends_time_wait, heard, heard_in_time_wait, renews}
use Rattle.flow_splice.specs.Hosts.{IsAsOld}
use Rattle.flow_splice.specs.Splice.{Splice, is_in_use, is_open}
use Rattle.flow_splice.proofs.Coming.{heard_as_old}
use Rattle.flow_splice.proofs.Restless.{arrives_none, ends_none}
use Rattle.flow_splice.specs.declared.Place.{Place}
use Rattle.flow_splice.specs.declared.Place.TheVariants.{Empty, InUse, InTimeWait}

-- ---- a connection that is over

module _ (s : Settings) (c : Connection) (past : Story) (now m : ℕ) (seg : Segment) (on : now ≤ m) (h : IsOver s c past now) where
  abbrev after : Story
  after = At m (Arrives seg) ∷ past

  not_greeted : greets past seg ≡ false
  not_greeted = by seg.syn seg.rst (syn_is_out past) (is_closed past) (not seg.ack || nat_eq seg.acknowledgement (number_after (our_number past))) h.closed
    where
      by : (a b d e f : Bool) → e ≡ true → (a && not b && d && not e && f) ≡ false
      by false b d e f is = refl
      by true true d e f is = refl
      by true false false e f is = refl
      by true false true true f is = refl
      by true false true false f is = absurd cc

  same_syn : their_syn after ≡ their_syn past
  same_syn = ap (λ (b : Bool). option_or (their_syn past) (if b then Some seg else None)) not_greeted ∙ or_none (their_syn past)
    where
      or_none : (o : Option Segment) → option_or o None ≡ o
      or_none None = refl
      or_none (Some x) = refl

  same_sent : sent (host after) ≡ sent (host past)
  same_sent = by (confirms past seg)
    where
      by : (b : Bool) → sent (push (if b then Some (Confirmed seg.acknowledgement) else None) (host past)) ≡ sent (host past)
      by true = refl
      by false = refl

  same_owed : (g : Segment) → is_owed_reset after g ≡ is_owed_reset past g
  same_owed g =
      ap (λ (n : ℕ). g.rst && g.ack && not g.syn && not g.fin && (if syn_is_out past || is_accepted past then nat_eq g.number (number_of (our_number past) n)
      else (nat_eq g.number 0 && nat_eq g.acknowledgement (number_after (unwrap_or (their_number after) 0))))) same_sent
      ∙ ap (λ (o : Option Segment). g.rst && g.ack && not g.syn && not g.fin && (if syn_is_out past || is_accepted past then nat_eq g.number (number_of (our_number past) (sent (host past)))
      else (nat_eq g.number 0 && nat_eq g.acknowledgement (number_after (unwrap_or (option_map (λ (x : Segment). x.number) o) 0))))) same_syn

  -- what comes after the close isn't looked at
  same_guest : guest after ≡ guest past
  same_guest =
      ap (λ (b : Bool). push (if b then None else (if is_some (their_number past) then (if is_plain seg then Some (Came seg.number seg.octets seg.fin (is_heeded past seg)) else None)
      else (if greets past seg then Some (Known seg.number) else None))) (guest past)) h.closed

  same_came : (n : ℕ) → HasNumberThatCame past n → HasNumberThatCame after n
  same_came n came =
      subst (λ (x : Option Segment). MatchOption (option_map (λ (g : Segment). g.number) x) (n ≡ 0) (λ f. Conforming (guest after) → HasCome (guest after) (ackd (Acked n ∷ guest after)))) (sym same_syn)
      (subst (λ (g : List Up). MatchOption (their_number past) (n ≡ 0) (λ f. Conforming g → HasCome g (ackd (Acked n ∷ g)))) (sym same_guest) came)

  no_close : MustClose past → ⊥
  no_close must = let not_it = sym must.2 ∙ h.closed in absurd cc

  pub over_arrives : IsOver s c after m
  over_arrives = record {
    runs = record {
      story = longer past m (Arrives seg) (λ none. none) (let low = h.runs.moment in omega (arith, low, on)) h.runs.story;
      moment = omega arith;
      lawful = (h.well, h.runs.lawful);
      dutiful = (no_close, h.runs.dutiful);
    };
    closed = h.closed;
    well = refl;
    over = h.over;
    owes = h.owes;
    pays = λ seq ack at g rst is_ack syn fin number acknowledgement. same_owed g ∙ h.pays seq ack at g rst is_ack syn fin number acknowledgement;
    came = λ seq ack at. same_came ack.0 (h.came seq ack at);
  }

-- ---- a flow that owes a reset, or nothing

pub hears_nothing : (f : Splice) (now : ℕ) (tcp : Tcp) → is_open f ≡ false → ((since : ℕ) → f.place ≡ InTimeWait since → ⊥) → Hears f f tcp now []
hears_nothing f now tcp shut awake s past before ident ended known on h = record { beats = []; are = refl; follows = by f.place f.shut refl shut h }
  where
    by : (p : Place) (b : Bool) → f.place ≡ p → (is_in_use p && not b) ≡ false → FollowsAt p b s f past before → FollowsAt p b s f (At now (Arrives (segment_of tcp)) ∷ past) now
    by Empty b at is q = record { over = over_arrives s f.conn past before now (segment_of tcp) on q.over; owes_none = q.owes_none; rests_none = arrives_none past now (segment_of tcp) q.rests_none }
    by InUse true at is q = record { over = over_arrives s f.conn past before now (segment_of tcp) on q.over; owes = q.owes; mru = q.mru; known = q.known }
    by InUse false at is q = absurd cc
    by (InTimeWait since) b at is q = absurd (awake since at)

-- ---- a flow in TIME-WAIT

module _ (s : Settings) (c : Connection) (up : Upward) (down : Downward) (past : Story) (now since : ℕ) (tcp : Tcp) (h : IsInTimeWait s c up down past now since) where
  next_is : number_of (unwrap_or (their_number past) 0) (ackd (guest past)) ≡ next_number c.received
  next_is = rest_next past (part_of c up) c.end_acknowledged c.ours_first c.acknowledged c.received.first h.ends h.theirs h.follows.first ∙ h.next

  pub ends_is : ends_rest_of past (segment_of tcp) ≡ ends_time_wait c tcp
  ends_is = ap (λ (n : ℕ). ((segment_of tcp).rst && nat_eq tcp.seq n) || ((segment_of tcp).syn && not (segment_of tcp).ack && not (segment_of tcp).rst && is_ahead tcp.seq n)) next_is

resting_with : (s : Settings) (c : Connection) (up u : Upward) (down d : Downward) (past : Story) (now since : ℕ) → u ≡ up → IsInTimeWait s c up down past now since → IsInTimeWait s c u d past now since
resting_with s c up u down d past now since is h = record {
  over = h.over;
  at = h.at;
  begun = h.begun;
  theirs = h.theirs;
  out = h.out;
  shift = h.shift;
  follows = rw is h.follows;
  ends = rw is h.ends;
  next = h.next;
  ended = h.ended;
  fin_out = h.fin_out;
  first = h.first;
  sent = h.sent;
  granted = h.granted;
  prompted = h.prompted;
  answered = h.answered;
}

pub hears_in_time_wait : (f : Splice) (now since : ℕ) (tcp : Tcp) → f.place ≡ InTimeWait since → Hears f (heard_in_time_wait f since tcp now) tcp now []
hears_in_time_wait f now since tcp at s past before ident ended known on h =
    let q : FollowsInTimeWait s f past before since = subst (λ (p : Place). FollowsAt p f.shut s f past before) at h in
    record { beats = []; are = refl; follows = by (ends_time_wait f.conn tcp) refl q }
  where
    by : (b : Bool) → ends_time_wait f.conn tcp ≡ b → FollowsInTimeWait s f past before since
        → Follows s (if b then record f { place = Empty } else record (heard f tcp now) { place = InTimeWait (if renews tcp then now else since) }) (At now (Arrives (segment_of tcp)) ∷ past) now
    by true is q = record {
      over = over_arrives s f.conn past before now (segment_of tcp) on q.time_waits.over;
      owes_none = ap is_resets q.time_waits.at;
      rests_none = ends_none past now (segment_of tcp) (ends_is s f.conn f.up f.down past before since tcp q.time_waits ∙ is);
    }
    by false is q =
        let r = rest_arrives s f.conn f.up f.down past before now since tcp on q.time_waits (ends_is s f.conn f.up f.down past before since tcp q.time_waits ∙ is) in
        record {
          time_waits = resting_with s (after_segment f.conn f.up f.down tcp now) f.up (up_after_segment f.conn f.up f.down tcp) f.down (down_after_segment f.conn f.up f.down tcp)
              (At now (Arrives (segment_of tcp)) ∷ past) now (if renews tcp then now else since) r.1 r.0;
          mru = q.mru;
          known = q.known;
        }

pub at_rest_as_old : (b : Bool) (f : Splice) (since : ℕ) (tcp : Tcp) (now : ℕ) → IsAsOld f (if b then record f { place = Empty } else record
    (heard f tcp now) { place = InTimeWait (if renews tcp then now else since) })
at_rest_as_old true f since tcp now = record { face = refl; mac = refl; since = refl; accepted = refl; asked = refl; ask_at = refl; up_size = refl; down_size = refl; mru = refl }
at_rest_as_old false f since tcp now = let same = heard_as_old f tcp now in record {
  face = refl;
  mac = refl;
  since = refl;
  accepted = refl;
  asked = refl;
  ask_at = refl;
  up_size = same.up_size;
  down_size = same.down_size;
  mru = refl;
}
