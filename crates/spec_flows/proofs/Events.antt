-- What one event adds to the two streams of a flow.
use Rattle.std.proofs.Common.{◌≡◌, ℕ, ◌&&◌, Bool, true, false, not, is_some, List, [], ◌∷◌, ◌++◌, take, Option, Some, None, if◌then◌else◌, refl, sym, ◌∙◌}
use Rattle.std.proofs.lemmas.List.{append-nil}
use Rattle.spec_flow.specs.Event.{Segment, Event, Connects, Accepts, Arrives, Departs, Connected, ConnectsYet, ConnectFails, Writes, WriteFails, Reads, ReadsEnd, ReadFails, EndsHost}
use Rattle.spec_flow.specs.Event.{EndFails, AsksAddress, Closes, At, Story}
use Rattle.spec_flow.specs.Flow.{guest, host, is_closed, their_number, is_plain, is_heeded, greets, confirms, acknowledges, push, up_of, down_of}
use Rattle.spec_flow.specs.Guest.{Up, Known, Came, Acked, written}
use Rattle.spec_flow.specs.Host.{Down, Confirmed, Sent, got}

-- octets that the host took, or that were read from it, by one event
abbrev pub wrote_by : Event → List ℕ
wrote_by (Writes xs n) = take n xs
wrote_by _ = []

abbrev pub got_by : Event → List ℕ
got_by (Reads xs) = xs
got_by _ = []

pushed_up : (u : Option Up) (past : List Up) → written (push u past) ≡ written past → written (push u past) ≡ written past ++ []
pushed_up u past is = is ∙ sym (append-nil (written past))

pushed_down : (d : Option Down) (past : List Down) → got (push d past) ≡ got past → got (push d past) ≡ got past ++ []
pushed_down d past is = is ∙ sym (append-nil (got past))

module _ (m : ℕ) (past : Story) where
  arrived_up : (seg : Segment) → written (push (up_of past (Arrives seg)) (guest past)) ≡ written (guest past)
  arrived_up seg = by_closed (is_closed past)
    where
      by_greets : (b : Bool) → written (push (if b then Some (Known seg.number) else None) (guest past)) ≡ written (guest past)
      by_greets true = refl
      by_greets false = refl

      by_plain : (b : Bool) → written (push (if b then Some (Came seg.number seg.octets seg.fin (is_heeded past seg)) else None) (guest past)) ≡ written (guest past)
      by_plain true = refl
      by_plain false = refl

      by_known : (b : Bool) → written (push (if b then (if is_plain seg then Some (Came seg.number seg.octets seg.fin (is_heeded past seg)) else None)
          else (if greets past seg then Some (Known seg.number) else None)) (guest past)) ≡ written (guest past)
      by_known true = by_plain (is_plain seg)
      by_known false = by_greets (greets past seg)

      by_closed : (b : Bool) → written (push (if b then None else (if is_some (their_number past) then (if is_plain seg then Some (Came seg.number seg.octets seg.fin (is_heeded past seg)) else None)
          else (if greets past seg then Some (Known seg.number) else None))) (guest past)) ≡ written (guest past)
      by_closed true = refl
      by_closed false = by_known (is_some (their_number past))

  departed_up : (seg : Segment) → written (push (up_of past (Departs seg)) (guest past)) ≡ written (guest past)
  departed_up seg = by_test (acknowledges past seg)
    where
      by_test : (b : Bool) → written (push (if b then Some (Acked seg.acknowledgement) else None) (guest past)) ≡ written (guest past)
      by_test true = refl
      by_test false = refl

  arrived_down : (seg : Segment) → got (push (down_of past (Arrives seg)) (host past)) ≡ got (host past)
  arrived_down seg = by_test (confirms past seg)
    where
      by_test : (b : Bool) → got (push (if b then Some (Confirmed seg.acknowledgement) else None) (host past)) ≡ got (host past)
      by_test true = refl
      by_test false = refl

  departed_down : (seg : Segment) → got (push (down_of past (Departs seg)) (host past)) ≡ got (host past)
  departed_down seg = by_test (not seg.syn && not seg.rst)
    where
      by_test : (b : Bool) → got (push (if b then Some (Sent seg.number seg.octets seg.fin) else None) (host past)) ≡ got (host past)
      by_test true = refl
      by_test false = refl

  pub written_more : (e : Event) → written (guest (At m e ∷ past)) ≡ written (guest past) ++ wrote_by e
  written_more (Writes xs n) = refl
  written_more (Arrives seg) = pushed_up (up_of past (Arrives seg)) (guest past) (arrived_up seg)
  written_more (Departs seg) = pushed_up (up_of past (Departs seg)) (guest past) (departed_up seg)
  written_more (Connects ours syn) = sym (append-nil (written (guest past)))
  written_more (Accepts ours) = sym (append-nil (written (guest past)))
  written_more Connected = sym (append-nil (written (guest past)))
  written_more ConnectsYet = sym (append-nil (written (guest past)))
  written_more ConnectFails = sym (append-nil (written (guest past)))
  written_more (WriteFails xs) = refl
  written_more (Reads xs) = sym (append-nil (written (guest past)))
  written_more ReadsEnd = sym (append-nil (written (guest past)))
  written_more ReadFails = sym (append-nil (written (guest past)))
  written_more EndsHost = sym (append-nil (written (guest past)))
  written_more EndFails = sym (append-nil (written (guest past)))
  written_more AsksAddress = sym (append-nil (written (guest past)))
  written_more (Closes directly ended known) = sym (append-nil (written (guest past)))

  pub got_more : (e : Event) → got (host (At m e ∷ past)) ≡ got (host past) ++ got_by e
  got_more (Reads xs) = refl
  got_more (Arrives seg) = pushed_down (down_of past (Arrives seg)) (host past) (arrived_down seg)
  got_more (Departs seg) = pushed_down (down_of past (Departs seg)) (host past) (departed_down seg)
  got_more (Connects ours syn) = sym (append-nil (got (host past)))
  got_more (Accepts ours) = sym (append-nil (got (host past)))
  got_more Connected = sym (append-nil (got (host past)))
  got_more ConnectsYet = sym (append-nil (got (host past)))
  got_more ConnectFails = sym (append-nil (got (host past)))
  got_more (Writes xs n) = sym (append-nil (got (host past)))
  got_more (WriteFails xs) = sym (append-nil (got (host past)))
  got_more ReadsEnd = sym (append-nil (got (host past)))
  got_more ReadFails = sym (append-nil (got (host past)))
  got_more EndsHost = sym (append-nil (got (host past)))
  got_more EndFails = sym (append-nil (got (host past)))
  got_more AsksAddress = sym (append-nil (got (host past)))
  got_more (Closes directly ended known) = sym (append-nil (got (host past)))
