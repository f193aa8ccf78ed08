-- The steps of the guest's stream, on the flow's story: one rewrite each.
use Rattle.std.proofs.Common.{◌≡◌, ℕ, ◌+◌, ◌≤◌, List, [], ◌∷◌, length, take, drop, is_some, Bool, true, false, subst, sym, ◌∙◌, ◌<◌, ◌-◌, ◌^◌, ◌++◌, min, ◌||◌, IsTrue, ◌↔◌, pos, ◌+ℤ◌, Some, slice_get}
use Rattle.seq_space.specs.Places.{number_of, place}
use Rattle.spec_flow.specs.Settings.{Settings}
use Rattle.spec_flow.specs.Event.{Segment, Arrives, Departs, Writes, EndsHost, At, Story}
use Rattle.spec_flow.specs.Guest.{Up, Came, IsAcknowledged}
use Rattle.spec_flow.specs.Flow.{guest, their_number, is_closed, is_plain, is_heeded}
use Rattle.spec_flow.specs.Windows.{our_shift, field}
use Rattle.spec_flow.specs.Lawful.{Send, Write, EndHost, AcknowledgesWhatCame, WritesWhatTheGuestSent, WritesWhatCame, EndsAfterAll}
use Rattle.spec_flow.specs.Dutiful.{TellsRoom}
use Rattle.spec_flow.proofs.Sides.{guest_acked, guest_came}
use Rattle.sim_halves.specs.Upward.{upward}
use Rattle.sim_halves.specs.Received.{places_taken, next_octets, Has}
use Rattle.sim_halves.specs.Part.{Part, part}
use Rattle.sim_halves.proofs.Taking.{came}
use Rattle.sim_halves.specs.Follows.{Follows}
use Rattle.sim_halves.proofs.Steps.{acked, wrote, told_the_end, passed}

module _ (s : Settings) (p : Part) (m : ℕ) (past : Story) where
  -- a segment with what was taken as its acknowledgement, and the room that is left as its window, may go out
  pub acknowledges : (seg : Segment) (room : ℕ) → seg.ack ≡ true → seg.rst ≡ false → is_some (their_number past) ≡ true
      → room + length p.up.held ≡ s.ring → seg.window ≡ field (our_shift s past seg.syn) room → seg.acknowledgement ≡ number_of p.received.first (places_taken p.received)
      → Follows s.ring p (guest past)
      → Follows s.ring (record p { ack_owed = false }) (guest (At m (Departs seg) ∷ past)) × AcknowledgesWhatCame past (Send seg) × TellsRoom s past m seg
  acknowledges seg room ack rst known whole window is f =
      let step = acked s.ring p (guest past) seg.acknowledgement room whole is f in
      let same = guest_acked m past seg ack rst known in (
        subst (λ (g : List Up). Follows s.ring (record p { ack_owed = false }) g) (sym same) step.0,
        λ plain. (ack ∙ sym known, λ has conforming. step.1 conforming),
        λ plain conforming a h. (room, step.2 conforming a (subst (λ (g : List Up). IsAcknowledged g a) same h), window),
      )

  -- octets that are held may be offered
  pub writes : (k n : ℕ) → n ≤ k → k ≤ length p.up.held → Follows s.ring p (guest past)
      → Follows s.ring (record p { up = upward (drop n p.up.held) (p.up.written + n) p.up.size }) (guest (At m (Writes (take k p.up.held) n) ∷ past))
      × WritesWhatTheGuestSent past (Write (take k p.up.held)) × WritesWhatCame past (Write (take k p.up.held))
  writes k n few within f = wrote s.ring p (guest past) k n few within f

  -- the end may be told
  pub ends : p.up.held ≡ [] → p.received.ended ≡ true → p.told_end ≡ false → Follows s.ring p (guest past)
      → Follows s.ring (record p { told_end = true }) (guest (At m EndsHost ∷ past)) × EndsAfterAll past EndHost
  ends empty ended not_yet f = let step = told_the_end s.ring p (guest past) empty ended not_yet f in (step.0, (step.1, step.2))

  -- a segment that isn't heeded changes nothing
  pub passes : (seg : Segment) → is_closed past ≡ false → is_some (their_number past) ≡ true → is_plain seg ≡ true → is_heeded past seg ≡ false
      → Follows s.ring p (guest past) → Follows s.ring p (guest (At m (Arrives seg) ∷ past))
  passes seg open_yet known plain unheard f =
      subst (λ (g : List Up). Follows s.ring p g) (sym (guest_came m past seg open_yet known plain))
      (subst (λ (h : Bool). Follows s.ring p (Came seg.number seg.octets seg.fin h ∷ guest past)) (sym unheard) (passed s.ring p (guest past) seg.number seg.octets seg.fin f))

  -- a heeded one is taken, as far as the receiver takes it
  pub takes : (q : Part) (seg : Segment) (took : Bool) (ys : List ℕ) → is_closed past ≡ false → is_some (their_number past) ≡ true → is_plain seg ≡ true →
      is_heeded past seg ≡ true → seg.number < 2 ^ 32
      → q ≡ part p.number p.tuple p.received.first (p.received.taken + length ys) (p.received.ended || took) (p.up.held ++ ys) p.up.written p.up.size p.told_end q.ack_owed q.kept
      → (p.received.ended ≡ true → (ys ≡ []) × ((i x : ℕ) → q.kept i ≡ Some x → p.kept i ≡ Some x))
      → (p.received.ended ≡ false →
      ((i x : ℕ) → q.kept i ≡ Some x → Has p.kept (place seg.number p.received.first p.received.taken) seg.octets p.received.taken i x)
      × ((k x : ℕ) → slice_get ys k ≡ Some x → Has p.kept (place seg.number p.received.first p.received.taken) seg.octets p.received.taken (p.received.taken + k) x)
      × (min (length (next_octets (place seg.number p.received.first p.received.taken) seg.octets p.received.taken)) (p.up.size - length p.up.held) ≤ length ys)
      × (length p.up.held + length ys ≤ p.up.size))
      → (IsTrue took ↔ (IsTrue seg.fin × (p.received.ended ≡ false) × ((place seg.number p.received.first p.received.taken +ℤ pos (length seg.octets)) ≡ pos (p.received.taken + length ys))))
      → (q.ack_owed ≡ false → (p.ack_owed ≡ false) × (length ys ≡ 0) × (seg.fin ≡ false))
      → Follows s.ring p (guest past) → Follows s.ring q (guest (At m (Arrives seg) ∷ past))
  takes q seg took ys open_yet known plain heard fits is closed open_end ends quiet f =
      subst (λ (g : List Up). Follows s.ring q g) (sym (guest_came m past seg open_yet known plain))
      (subst (λ (h : Bool). Follows s.ring q (Came seg.number seg.octets seg.fin h ∷ guest past)) (sym heard)
      (came s.ring (guest past) p q seg.number seg.octets seg.fin fits took ys is closed open_end ends quiet f))
