-- Octets of the guest are written to the host, and its end is passed on.
use Rattle.std.proofs.Common.{refl, ◌≡◌, ℕ, zero, suc, ◌≤◌, List, [], ◌∷◌, length, take, Bool, true, false, not, ◌&&◌, ◌||◌, Some, min, nat_lt, arith, ap, subst, sym, ◌∙◌}
use Rattle.std.proofs.lemmas.Bool.Decides.{nat_tests}
use Rattle.sock_buffers.specs.Downward.{Downward}
use Rattle.sock_buffers.specs.Upward.{Upward}
use Rattle.tcp_connection.specs.Connection.{Connection, HasBuffers}
use Rattle.tcp_connection.specs.Windows.{our_shift, told_edge}
use Rattle.spec_flow.specs.Settings.{Settings}
use Rattle.spec_flow.specs.Event.{At, EndsHost, Story, Writes}
use Rattle.spec_flow.specs.Guest.{Ended, Wrote, is_empty}
use Rattle.spec_flow.specs.Flow.{guest}
use Rattle.spec_flow.specs.Lawful.{EndHost, Write, is_prompted}
use Rattle.spec_flow.specs.Dutiful.{OffersEnough}
use Rattle.spec_flow.proofs.Streams.{earlier}
use Rattle.sim_halves.specs.Received.{received as taken_of}
use Rattle.sim_halves.proofs.Acts.{may_end, may_write, must_end, must_write}
use Rattle.sim_halves.proofs.Resets.{ended_current, wrote_current}
use Rattle.sim_halves.proofs.Rests.{quiet_ends}
use Rattle.sim_halves.proofs.Steps.{told_the_end, wrote}
use Rattle.sim_halves.proofs.Wanting.{offers}
use Rattle.sim_connection.specs.Holding.{Holds, Receives, is_calls, is_at_connecting, without}
use Rattle.sim_connection.specs.Seen.{part_of}
use Rattle.sim_connection.proofs.Going.{does}
use Rattle.sim_connection.proofs.Quiet.{gives_as, gives_on, opened_beside, opened_on}

-- an offer that prompted nothing wrote nothing
unwritten : (n k : ℕ) (held : List ℕ) → n ≤ k → k ≤ length held → (nat_lt 0 n && not (is_empty (take k held))) ≡ false → n ≡ 0
unwritten zero k held few within is = refl
unwritten (suc n) zero held few within is = absurd (omega arith)
unwritten (suc n) (suc k) [] few within is = absurd (omega arith)
unwritten (suc n) (suc k) (x ∷ held) few within is =
    let some : nat_lt 0 (suc n) ≡ true = grind (arith, nat_tests) in
    let not_it = ap (λ (b : Bool). b && true) (sym some) ∙ is in absurd cc

either : (a b : Bool) → (a || b) ≡ false → (a ≡ false) × (b ≡ false)
either true b is = absurd cc
either false b is = (refl, is)

or_true : (a b : Bool) → b ≡ true → (a || b) ≡ true
or_true true b is = refl
or_true false b is = is

module _ (s : Settings) (c : Connection) (up : Upward) (down : Downward) (past : Story) (now m : ℕ) (on : now ≤ m) (known : is_calls c.stage ≡ false) (joined : is_at_connecting c.stage ≡ false) where
  -- the front of what is held was offered, and the host took so many octets
  module _ (k n : ℕ) (few : n ≤ k) (all : k ≡ min 16384 (length up.held)) where
    within : k ≤ length up.held
    within = omega (arith, all)

    written_receives : Receives s c up past → Receives s c (without up n) (At m (Writes (take k up.held) n) ∷ past)
    written_receives r = record {
      follows = (wrote s.ring (part_of c up) (guest past) k n few within r.follows).0;
      due = r.due;
      once = r.once;
      ends = quiet_ends past (part_of c up) (part_of c (without up n)) c.end_acknowledged c.ours_first c.acknowledged m (Writes (take k up.held) n) tt refl (λ i x is. is) r.ends;
      current = wrote_current (guest past) (taken_of c.received.first c.received.taken c.received.ended) c.acknowledged (take k up.held) n r.current;
      sure = r.sure;
      host_ended = r.host_ended;
      told = λ conforming. r.told (earlier (Wrote (take k up.held) n) (guest past) conforming);
      answered = r.answered;
      prompted = λ is. or_true (nat_lt 0 n && not (is_empty (take k up.held))) (is_prompted past) (r.prompted is);
      updated = λ none yes.
          let apart = either (nat_lt 0 n && not (is_empty (take k up.held))) (is_prompted past) none in
          subst (λ (j : ℕ). c.told ≡ Some (told_edge c (without up j) (our_shift c))) (sym (unwritten n k up.held few within apart.0)) (r.updated apart.1 yes);
    }

    pub writes : HasBuffers c (without up n) down → Holds s c up down past now → Holds s c (without up n) down (At m (Writes (take k up.held) n) ∷ past) m
    writes buffers h =
        let r = h.receives known in
        let w = wrote s.ring (part_of c up) (guest past) k n few within r.follows in
        let enough : OffersEnough past (take k up.held) = subst (λ (j : ℕ). OffersEnough past (take j up.held)) (sym all) (offers s past (part_of c up) r.follows) in
        record {
          suits = h.suits;
          buffers = buffers;
          within = h.within;
          goes = does s past now m (Writes (take k up.held) n) (Write (take k up.held)) h.goes on (λ o. o) refl
              (may_write s past m (take k up.held) w.1 w.2 h.goes.well h.goes.open_yet (h.opened.connects ∙ joined))
              (must_write s past m (take k up.held) enough h.goes.free) h.goes.open_yet refl refl;
          opened = opened_on s c past (At m (Writes (take k up.held) n) ∷ past) (record { ours = refl; connecting = refl; out = refl; accepted = refl; theirs = refl; unasked = refl }) refl h.opened;
          awaits = λ is. let not_it = sym is ∙ known in absurd cc;
          receives = λ is. written_receives r;
          gives = gives_on s c down past now m (Writes (take k up.held) n) tt on refl (record { host = refl; window = refl; fin_out = refl }) h.gives;
        }

  -- all was written, and the host was told the end
  ended_receives : up.held ≡ [] → c.received.ended ≡ true → c.host_ended ≡ false → Receives s c up past → Receives s (record c { host_ended = true }) up (At m EndsHost ∷ past)
  ended_receives none ended untold r = record {
    follows = (told_the_end s.ring (part_of c up) (guest past) none ended untold r.follows).0;
    due = r.due;
    once = r.once;
    ends = quiet_ends past (part_of c up) (part_of (record c { host_ended = true }) up) c.end_acknowledged c.ours_first c.acknowledged m EndsHost tt refl (λ i x is. is) r.ends;
    current = ended_current (guest past) (taken_of c.received.first c.received.taken c.received.ended) c.acknowledged r.current;
    sure = r.sure;
    host_ended = refl;
    told = λ conforming. r.told (earlier Ended (guest past) conforming);
    answered = r.answered;
    prompted = r.prompted;
    updated = r.updated;
  }

  pub ends_host : up.held ≡ [] → c.received.ended ≡ true → c.host_ended ≡ false → HasBuffers (record c { host_ended = true }) up down
      → Holds s c up down past now → Holds s (record c { host_ended = true }) up down (At m EndsHost ∷ past) m
  ends_host none ended untold buffers h =
      let r = h.receives known in
      let t = told_the_end s.ring (part_of c up) (guest past) none ended untold r.follows in
      let g = gives_on s c down past now m EndsHost tt on refl (record { host = refl; window = refl; fin_out = refl }) h.gives in
      let o = opened_on s c past (At m EndsHost ∷ past) (record { ours = refl; connecting = refl; out = refl; accepted = refl; theirs = refl; unasked = refl }) refl h.opened in
      record {
        suits = record { ring = h.suits.ring; congestion = h.suits.congestion; scales = h.suits.scales; few = h.suits.few };
        buffers = buffers;
        within = h.within;
        goes = does s past now m EndsHost EndHost h.goes on (λ o. o) refl (may_end s past m (t.1, t.2) h.goes.well h.goes.open_yet (h.opened.connects ∙ joined))
            (must_end s past m h.goes.free) h.goes.open_yet refl refl;
        opened = opened_beside s c (record c { host_ended = true }) (At m EndsHost ∷ past) refl refl (λ is. is) o.quiet o;
        awaits = λ is. let not_it = sym is ∙ known in absurd cc;
        receives = λ is. ended_receives none ended untold r;
        gives = gives_as s c (record c { host_ended = true }) down (At m EndsHost ∷ past) m refl refl refl refl refl (λ owed gone opening. g.syn_again opening owed gone) (λ so. so) (λ opening owed runs. g.calls.syn_early opening owed runs) g;
      }
