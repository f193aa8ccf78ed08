-- Our SYN goes out to a guest that we call.
use Rattle.std.proofs.Common.{refl, ◌≡◌, ℕ, ◌^◌, ◌≤◌, ◌∷◌, length, Bool, true, false, ◌&&◌, ◌||◌, Option, None, Some, is_some, if◌then◌else◌, IsTrue, IfSome, arith, ap, subst, sym, ◌∙◌}
use Rattle.sock_buffers.specs.Downward.{Downward}
use Rattle.sock_buffers.specs.Upward.{Upward, room_of}
use Rattle.tcp_connection.specs.Connection.{Connection, HasBuffers, is_opening}
use Rattle.tcp_connection.specs.Owing.{syn_gone}
use Rattle.tcp_connection.specs.Windows.{least_shift}
use Rattle.tcp_connection.specs.declared.Owed.TheVariants.{Syn}
use Rattle.tcp_connection.specs.declared.Stage.{Stage}
use Rattle.tcp_connection.specs.declared.Stage.TheVariants as stage
use Rattle.spec_flow.specs.Settings.{Settings}
use Rattle.spec_flow.specs.Event.{At, Departs, Segment, Story}
use Rattle.spec_flow.specs.Flow.{is_closed, next_number as number_after, their_number}
use Rattle.spec_flow.specs.Windows.{field as field_told, is_scaled, least_shift as least_told}
use Rattle.spec_flow.specs.Lawful.{OpensWithSyn, Send}
use Rattle.spec_flow.specs.Dutiful.{TellsRoom}
use Rattle.sim_halves.proofs.Acts.{may_send, must_send}
use Rattle.sim_halves.proofs.Windows.{syn_tells}
use Rattle.sim_connection.specs.Holding.{Goes, Holds, is_calls, is_at_connecting}
use Rattle.sim_connection.specs.Seen.{part_of}
use Rattle.sim_connection.specs.Sending.{segment_out}
use Rattle.sim_connection.proofs.Going.{does}
use Rattle.sim_connection.proofs.Leaving.{granted}
use Rattle.sim_connection.proofs.Quiet.{awaits_beside}
use Rattle.sim_connection.proofs.Syns.{opened_gone, syn_gives, syn_reason}
use Rattle.sim_connection.proofs.Telling.{least_same}

module _ (s : Settings) (c : Connection) (up : Upward) (down : Downward) (past : Story) (now m : ℕ) (on : now ≤ m) (late : m ≤ 2 ^ 62) (h : Holds s c up down past now)
    (at : c.stage ≡ stage.SynSent) (owed : c.syn_owed ≡ true) where
  abbrev seg : Segment
  seg = segment_out s.mru c up down Syn

  calls : is_calls c.stage ≡ true
  calls = ap (λ (st : Stage). is_calls st) at

  opening : is_opening c.stage ≡ true
  opening = ap (λ (st : Stage). is_opening st) at

  unknown : their_number past ≡ None
  unknown = h.opened.theirs ∙ ap (λ (b : Bool). if b then None else Some c.received.first) calls

  opens : OpensWithSyn past (Send seg)
  opens = ((λ is. refl), (λ is. (sym h.opened.ours, subst (λ (o : Option ℕ). IfSome o (λ f. 0 ≡ number_after f)) (sym unknown) tt)))

  scale_is : (a b : Bool) (x y : ℕ) → a ≡ true → x ≡ y → Some x ≡ (if a && true && true && (true || b) then Some y else None)
  scale_is true b x y a_is x_is = ap (λ (n : ℕ). Some n) x_is
  scale_is false b x y a_is x_is = absurd cc

  none_if : (b : Bool) → b ≡ false → IsTrue b → ⊥
  none_if b is so = let not_it = sym is ∙ so in absurd cc

  whole_room : room_of up ≡ s.ring
  whole_room =
      let none : length up.held ≡ 0 = ap length (h.awaits calls).held in
      let size : up.size ≡ c.ring = h.buffers.size in
      omega (arith, none, size, h.suits.ring)

  tells : TellsRoom s past m seg
  tells = syn_tells s past (part_of c up) m seg (h.awaits calls).guest refl refl (ap (λ (n : ℕ). field_told 0 n) whole_room)

  goes_now : Goes s (At m (Departs seg) ∷ past) m
  goes_now = does s past now m (Departs seg) (Send seg) h.goes on (λ none. none) refl
      (may_send s past m seg (refl, refl) (omega arith) (syn_reason s c down up past now m seg on late h opening refl refl owed) (λ is. absurd cc)
      (λ sent. (sym (ap (λ (o : Option ℕ). is_some o) unknown), λ is. absurd cc))
      (λ is. absurd cc) h.goes.well (λ is. absurd cc) (λ is. absurd (none_if (is_closed past) h.goes.open_yet is))
      (λ is. granted s c past h.opened h.goes.open_yet (ap (λ (st : Stage). is_at_connecting st) at)) opens
      (record { carries = λ is. absurd cc; acknowledges = ((λ is. absurd cc), (λ is. refl)); next = λ is. absurd cc; window = λ is. absurd cc })
      (refl, scale_is s.scales (is_scaled s past) (least_shift c.ring) (least_told s.ring) h.suits.scales (ap least_shift h.suits.ring ∙ sym (least_same s.ring))))
      (must_send s past m seg tells h.goes.free)
      h.goes.open_yet refl refl

  pub syn_goes_out : HasBuffers (syn_gone c m) up down → Holds s (syn_gone c m) up down (At m (Departs seg) ∷ past) m
  syn_goes_out buffers =
      record {
        suits = record { ring = h.suits.ring; congestion = h.suits.congestion; scales = h.suits.scales; few = h.suits.few };
        buffers = buffers;
        within = h.within;
        goes = goes_now;
        opened = opened_gone s c past (At m (Departs seg) ∷ past) m (ap (λ (st : Stage). is_at_connecting st) at) refl refl refl refl refl refl h.opened;
        awaits = λ is. awaits_beside s c (syn_gone c m) up past (At m (Departs seg) ∷ past) refl refl refl refl refl (h.awaits is);
        receives = λ is. let not_it = sym is ∙ calls in absurd cc;
        gives = syn_gives s c down up past now m seg on late h opening refl refl owed;
      }
