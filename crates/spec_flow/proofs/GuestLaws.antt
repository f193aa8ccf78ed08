-- Laws of one flow, in the words of the guest's stream.
use Rattle.std.proofs.Common.{refl, ◌≡◌, ℕ, zero, suc, ◌+◌, ◌≤◌, List, [], ◌∷◌, ◌++◌, length, take, Option, None, Some, is_some, slice_get, inl, inr, arith, ap, Bool, true, false, not}
use Rattle.std.proofs.Common.{◌&&◌, if◌then◌else◌, IsTrue, length-append, ◌∙◌}
use Rattle.spec_flow.specs.Settings.{Settings}
use Rattle.spec_flow.specs.Event.{Segment, Connects, Arrives, Departs, Writes, WriteFails, EndsHost, EndFails, Beat, At, Story}
use Rattle.spec_flow.specs.Guest.{Up, Known, Came, Acked, Wrote, Ended, Carries, EndsAt, Conforming, front, written, has_ended, ackd, HasCome}
use Rattle.spec_flow.specs.Flow.{guest, their_number, is_closed, is_plain, is_heeded, greets, acknowledges, push, up_of}
use Rattle.spec_flow.specs.Lawful.{IsPrefixOf, AtPlaces, IsLawful}
use Rattle.spec_flow.proofs.Lists.{slice_get_append, slice_get_front, slice_get_take}
use Rattle.spec_flow.proofs.Streams.{earlier, carried_prefix, front_carried, length_within}

-- ---- what an event can be to the guest's stream

arrived_by : (P : List Up → Type 0) (past : List Up) (n : ℕ) (xs : List ℕ) (fin heeded : Bool) (b c d g : Bool)
    → P past → P (Came n xs fin heeded ∷ past) → P (Known n ∷ past)
    → P (push (if b then None else (if c then (if d then Some (Came n xs fin heeded) else None) else (if g then Some (Known n) else None))) past)
arrived_by P past n xs fin heeded true c d g none came known = none
arrived_by P past n xs fin heeded false true true g none came known = came
arrived_by P past n xs fin heeded false true false g none came known = none
arrived_by P past n xs fin heeded false false d true none came known = known
arrived_by P past n xs fin heeded false false d false none came known = none

pub arrived : (P : List Up → Type 0) (m : ℕ) (past : Story) (seg : Segment)
    → P (guest past) → P (Came seg.number seg.octets seg.fin (is_heeded past seg) ∷ guest past) → P (Known seg.number ∷ guest past) → P (guest (At m (Arrives seg) ∷ past))
arrived P m past seg = arrived_by P (guest past) seg.number seg.octets seg.fin (is_heeded past seg) (is_closed past) (is_some (their_number past)) (is_plain seg) (greets past seg)

pub departed : (P : List Up → Type 0) (past : List Up) (n : ℕ) (b : Bool) → P past → (IsTrue b → P (Acked n ∷ past)) → P (push (if b then Some (Acked n) else None) past)
departed P past n true none acked = acked refl
departed P past n false none acked = none

-- ---- a conforming guest was conforming before

before_push : (past : List Up) (o : Option Up) → Conforming (push o past) → Conforming past
before_push past None h = h
before_push past (Some u) h = earlier u past h

pub conforming_before : (b : Beat) (past : Story) → Conforming (guest (b ∷ past)) → Conforming (guest past)
conforming_before (At m e) past h = before_push (guest past) (up_of past e) h

-- ---- what only grows

pub carries_grows : (u : Up) (past : List Up) (i x : ℕ) → Carries past i x → Carries (u ∷ past) i x
carries_grows (Came n xs fin heeded) past i x c = inr c
carries_grows _ past i x c = c

pub ends_grows : (u : Up) (past : List Up) (i : ℕ) → EndsAt past i → EndsAt (u ∷ past) i
ends_grows (Came n xs fin heeded) past i c = inr c
ends_grows _ past i c = c

pub ackd_grows : (u : Up) (past : List Up) → ackd past ≤ ackd (u ∷ past)
ackd_grows (Acked n) past = omega arith
ackd_grows _ past = omega arith

pub front_grows : (u : Up) (past : List Up) → Conforming (u ∷ past) → IsPrefixOf (front past) (front (u ∷ past))
front_grows u past h = carried_prefix (u ∷ past) (front past) (λ i x at. carries_grows u past i x (front_carried past i x at)) h

-- ---- what is written is a prefix of what the guest sent

abbrev pub WroteWhatCame : List Up → Type 0
WroteWhatCame [] = Unit {0}
WroteWhatCame (Wrote xs n ∷ past) = (Conforming past → IsPrefixOf (written past ++ xs) (front past)) × WroteWhatCame past
WroteWhatCame (_ ∷ past) = WroteWhatCame past

wrote : (s : Settings) (story : Story) → IsLawful s story → WroteWhatCame (guest story)
wrote s [] l = tt
wrote s (At m (Connects ours syn) ∷ past) l = wrote s past l.1
wrote s (At m (Arrives seg) ∷ past) l = arrived WroteWhatCame m past seg (wrote s past l.1) (wrote s past l.1) (wrote s past l.1)
wrote s (At m (Departs seg) ∷ past) l = departed WroteWhatCame (guest past) seg.acknowledgement _ (wrote s past l.1) (λ is. wrote s past l.1)
wrote s (At m (Writes xs n) ∷ past) l = (l.0.writes_what_the_guest_sent, wrote s past l.1)
wrote s (At m (WriteFails xs) ∷ past) l = (l.0.writes_what_the_guest_sent, wrote s past l.1)
wrote s (At m _ ∷ past) l = wrote s past l.1

prefix_reads : (xs ys : List ℕ) → IsPrefixOf xs ys → (i x : ℕ) → slice_get xs i ≡ Some x → slice_get ys i ≡ Some x
prefix_reads xs ys p i x at = let there = slice_get_front xs p.0 i x at in rw⁻¹ p.1 there

written_carried : (past : List Up) → WroteWhatCame past → Conforming past → AtPlaces (Carries past) (written past)
written_carried [] w h i x at = absurd cc
written_carried (Wrote xs n ∷ past) w h i x at =
    let before = earlier (Wrote xs n) past h in
    elim (slice_get_append (written past) (take n xs) i x at) [
      | inl here ↦ written_carried past w.1 before i x here
      | inr (j, is, there) ↦ front_carried past i x (prefix_reads (written past ++ xs) (front past) (w.0 before) i x (later (written past) xs i j x is (slice_get_take n xs j x there)))
    ]
  where
    later : (ws xs : List ℕ) (i j x : ℕ) → i ≡ length ws + j → slice_get xs j ≡ Some x → slice_get (ws ++ xs) i ≡ Some x
    later [] xs i j x is at = let same : i ≡ j = omega arith in rw same at
    later (a ∷ ws) xs zero j x is at = absurd (omega arith)
    later (a ∷ ws) xs (suc i) j x is at = later ws xs i j x (omega arith) at
written_carried (Came n xs fin heeded ∷ past) w h i x at = inr (written_carried past w (earlier (Came n xs fin heeded) past h) i x at)
written_carried (Known f ∷ past) w h i x at = written_carried past w (earlier (Known f) past h) i x at
written_carried (Acked n ∷ past) w h i x at = written_carried past w (earlier (Acked n) past h) i x at
written_carried (Ended ∷ past) w h i x at = written_carried past w (earlier Ended past h) i x at

-- What the host took is a prefix of what the guest sent.
pub written_is_a_prefix : (s : Settings) (story : Story) → IsLawful s story → Conforming (guest story) → IsPrefixOf (written (guest story)) (front (guest story))
written_is_a_prefix s story l h = carried_prefix (guest story) (written (guest story)) (written_carried (guest story) (wrote s story l) h) h

-- ---- the host is told the end after all octets

abbrev pub EndedAfterAll : List Up → Type 0
EndedAfterAll [] = Unit {0}
EndedAfterAll (Ended ∷ past) = (Conforming past → EndsAt past (length (written past))) × EndedAfterAll past
EndedAfterAll (_ ∷ past) = EndedAfterAll past

ended : (s : Settings) (story : Story) → IsLawful s story → EndedAfterAll (guest story)
ended s [] l = tt
ended s (At m (Connects ours syn) ∷ past) l = ended s past l.1
ended s (At m (Arrives seg) ∷ past) l = arrived EndedAfterAll m past seg (ended s past l.1) (ended s past l.1) (ended s past l.1)
ended s (At m (Departs seg) ∷ past) l = departed EndedAfterAll (guest past) seg.acknowledgement _ (ended s past l.1) (λ is. ended s past l.1)
ended s (At m EndsHost ∷ past) l = (l.0.ends_after_all.1, ended s past l.1)
ended s (At m EndFails ∷ past) l = (l.0.ends_after_all.1, ended s past l.1)
ended s (At m (Writes xs n) ∷ past) l = ended s past l.1
ended s (At m (WriteFails xs) ∷ past) l = ended s past l.1
ended s (At m _ ∷ past) l = ended s past l.1

end_is_written : (past : List Up) → WroteWhatCame past → EndedAfterAll past → has_ended past ≡ true → Conforming past → EndsAt past (length (written past))
end_is_written [] w e is h = absurd cc
end_is_written (Ended ∷ past) w e is h = e.0 (earlier Ended past h)
end_is_written (Wrote xs n ∷ past) w e is h =
    let end = end_is_written past w.1 e is (earlier (Wrote xs n) past h) in
    let here = written_carried (Wrote xs n ∷ past) w h in
    let no_more = length_within (written past ++ take n xs) (length (written past)) (λ i x at. h.within (length (written past)) i x end (here i x at)) in
    let same : length (written past) ≡ length (written past ++ take n xs) = omega (arith, length-append (written past) (take n xs)) in
    rw⁻¹ same end
end_is_written (Came n xs fin heeded ∷ past) w e is h = inr (end_is_written past w e is (earlier (Came n xs fin heeded) past h))
end_is_written (Known f ∷ past) w e is h = end_is_written past w e is (earlier (Known f) past h)
end_is_written (Acked n ∷ past) w e is h = end_is_written past w e is (earlier (Acked n) past h)

-- Where the host was told the end, it is where the guest ended, and the host has all octets.
pub end_comes_after_all : (s : Settings) (story : Story) → IsLawful s story → has_ended (guest story) ≡ true → Conforming (guest story)
    → EndsAt (guest story) (length (written (guest story)))
end_comes_after_all s story l is h = end_is_written (guest story) (wrote s story l) (ended s story l) is h

-- ---- what is acknowledged came

pub came_grows : (u : Up) (past : List Up) (n : ℕ) → Conforming (u ∷ past) → HasCome past n → HasCome (u ∷ past) n
came_grows u past n h (inl within) =
    let p = front_grows u past h in
    inl (omega (arith, ap length p.1, length-append (front past) p.0))
came_grows u past n h (inr (end, is)) =
    let p = front_grows u past h in
    let here = ends_grows u past (length (front past)) end in
    let no_more = length_within (front (u ∷ past)) (length (front past)) (λ i x at. h.within (length (front past)) i x here (front_carried (u ∷ past) i x at)) in
    let same : length (front past) ≡ length (front (u ∷ past)) = omega (arith, ap length p.1, length-append (front past) p.0) in
    inr (rw⁻¹ same here, is ∙ ap (λ (k : ℕ). k + 1) same)

abbrev pub AckedWhatCame : List Up → Type 0
AckedWhatCame [] = Unit {0}
AckedWhatCame (Acked n ∷ past) = (Conforming past → HasCome past (ackd (Acked n ∷ past))) × AckedWhatCame past
AckedWhatCame (_ ∷ past) = AckedWhatCame past

three : (a r k : Bool) → IsTrue (a && not r && k) → IsTrue a × IsTrue (not r)
three true false k is = (refl, refl)
three true true k is = absurd cc
three false r k is = absurd cc

did_ack : (s : Settings) (story : Story) → IsLawful s story → AckedWhatCame (guest story)
did_ack s [] l = tt
did_ack s (At m (Connects ours syn) ∷ past) l = did_ack s past l.1
did_ack s (At m (Arrives seg) ∷ past) l = arrived AckedWhatCame m past seg (did_ack s past l.1) (did_ack s past l.1) (did_ack s past l.1)
did_ack s (At m (Departs seg) ∷ past) l =
    departed AckedWhatCame (guest past) seg.acknowledgement (acknowledges past seg) (did_ack s past l.1)
    (λ is. let both = three seg.ack seg.rst (is_some (their_number past)) is in ((l.0.acknowledges_what_came both.1).1 both.0, did_ack s past l.1))
did_ack s (At m (Writes xs n) ∷ past) l = did_ack s past l.1
did_ack s (At m (WriteFails xs) ∷ past) l = did_ack s past l.1
did_ack s (At m EndsHost ∷ past) l = did_ack s past l.1
did_ack s (At m EndFails ∷ past) l = did_ack s past l.1
did_ack s (At m _ ∷ past) l = did_ack s past l.1

acked_came : (past : List Up) → AckedWhatCame past → Conforming past → HasCome past (ackd past)
acked_came [] a h = inl (omega arith)
acked_came (Acked n ∷ past) a h = came_grows (Acked n) past (ackd (Acked n ∷ past)) h (a.0 (earlier (Acked n) past h))
acked_came (Came n xs fin heeded ∷ past) a h = came_grows (Came n xs fin heeded) past (ackd past) h (acked_came past a (earlier (Came n xs fin heeded) past h))
acked_came (Known f ∷ past) a h = came_grows (Known f) past (ackd past) h (acked_came past a (earlier (Known f) past h))
acked_came (Wrote xs n ∷ past) a h = came_grows (Wrote xs n) past (ackd past) h (acked_came past a (earlier (Wrote xs n) past h))
acked_came (Ended ∷ past) a h = came_grows Ended past (ackd past) h (acked_came past a (earlier Ended past h))

-- All that was acknowledged came.
pub acknowledged_came : (s : Settings) (story : Story) → IsLawful s story → Conforming (guest story) → HasCome (guest story) (ackd (guest story))
acknowledged_came s story l h = acked_came (guest story) (did_ack s story l) h
