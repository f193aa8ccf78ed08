-- Courses of a receiver that keeps octets past a gap.
use Rattle.std.proofs.Common.{refl, ◌≡◌, [], ◌∷◌, true, false, IsTrue, inl, inr}
use Rattle.spec_flow.specs.Event.{Arrives, Departs, Writes, ReadsEnd, EndsHost, At, Story}
use Rattle.spec_flow.specs.Flow.{guest}
use Rattle.spec_flow.specs.Dutiful.{HasAcknowledged}
use Rattle.spec_flow.specs.Check.{is_lawful}
use Rattle.spec_flow.specs.Close.{is_done}
use Rattle.spec_flow.specs.Lawful.{Close, Send, May}
use Rattle.spec_flow.specs.Computed.{is_conforming}
use Rattle.spec_flow.specs.CheckDuty.{is_settled, may_wait}
use Rattle.spec_flow.specs.CheckDuty.{is_dutiful}
use Rattle.spec_flow.proofs.Courses.{usual, octets, data_segment, fin_segment, established}
use Rattle.spec_flow.proofs.Refuted.{refutes}
use Rattle.spec_flow.proofs.Refuting.{never}

-- ten octets past ten that are missing, with the end; then the missing ones: all twenty are acknowledged, and not the end
abbrev pub joined : Story
joined =
    At 1800 (Departs (data_segment 250001 1021 65515 []))
    ∷ At 1800 (Arrives (data_segment 1001 250001 1000 (octets 0 10)))
    ∷ At 1700 (Departs (data_segment 250001 1001 65535 []))
    ∷ At 1700 (Arrives (fin_segment 1011 250001 1000 (octets 10 10)))
    ∷ established

joined_lawful : IsTrue (is_lawful usual joined)
joined_lawful = refl

joined_settled : IsTrue (is_settled usual joined true false 1800)
joined_settled = refl

joined_tells : IsTrue (is_dutiful usual joined)
joined_tells = refl

joined_conforming : IsTrue (is_conforming (guest joined))
joined_conforming = refl

-- the end comes again, and is acknowledged; then all is written
abbrev pub joined_end : Story
joined_end =
    At 1950 EndsHost
    ∷ At 1950 (Writes (octets 0 20) 20)
    ∷ At 1900 (Departs (data_segment 250001 1022 65515 []))
    ∷ At 1900 (Arrives (fin_segment 1021 250001 1000 []))
    ∷ joined

joined_end_lawful : IsTrue (is_lawful usual joined_end)
joined_end_lawful = refl

joined_end_settled : IsTrue (is_settled usual joined_end true false 1950)
joined_end_settled = refl

joined_end_tells : IsTrue (is_dutiful usual joined_end)
joined_end_tells = refl

-- a receiver that drops what is past the gap is lawful as well, and owes no more
abbrev pub dropped : Story
dropped =
    At 1800 (Departs (data_segment 250001 1011 65525 []))
    ∷ At 1800 (Arrives (data_segment 1001 250001 1000 (octets 0 10)))
    ∷ At 1700 (Departs (data_segment 250001 1001 65535 []))
    ∷ At 1700 (Arrives (fin_segment 1011 250001 1000 (octets 10 10)))
    ∷ established

dropped_settled : IsTrue (is_settled usual dropped true false 1800)
dropped_settled = refl

-- but it may not acknowledge the end, which it has not where a gap is before it
abbrev pub past_gap : Story
past_gap = At 1700 (Arrives (fin_segment 1011 250001 1000 (octets 10 10))) ∷ established

ends_early : May usual past_gap 1700 (Send (data_segment 250001 1022 65515 [])) → ⊥
ends_early = refutes usual past_gap 1700 (Send (data_segment 250001 1022 65515 [])) refl refl refl

-- and what is past a gap is answered too
doesn't_answer : HasAcknowledged usual past_gap false → ⊥
doesn't_answer has = has.each refl (inl (refl, inl refl))

-- ---- a dishonest guest: an octet in the place of the end was kept, and then the end comes in the gap

-- A receiver that takes the end and joins the octet to what it took acknowledges a number that no FIN has; so it may never close the flow as done.
abbrev pub past_end : Story
past_end =
    At 2100 EndsHost
    ∷ At 2100 (Writes (octets 0 6) 6)
    ∷ At 2000 (Departs (data_segment 250002 1008 65529 []))
    ∷ At 2000 (Arrives (fin_segment 1001 250002 1000 (octets 0 5)))
    ∷ At 1900 (Departs (data_segment 250002 1001 65535 []))
    ∷ At 1900 (Arrives (data_segment 1006 250002 1000 (5 ∷ [])))
    ∷ At 1800 (Departs (fin_segment 250001 1001 65535 []))
    ∷ At 1800 ReadsEnd
    ∷ established

past_end_done : is_done past_end ≡ false
past_end_done = refl

past_end_close : May usual past_end 2100 (Close false false true) → ⊥
past_end_close m = elim m.closes_with_cause [
  | inl own ↦ elim own [ inl one ↦ never one | inr rest ↦ elim rest [ inl two ↦ never two | inr three ↦ never three.0 ] ]
  | inr way ↦ never way
]

-- one that takes the end only where it is the place after all octets that it took goes on without it
abbrev pub past_end_open : Story
past_end_open =
    At 2000 (Departs (data_segment 250002 1007 65529 []))
    ∷ At 2000 (Arrives (fin_segment 1001 250002 1000 (octets 0 5)))
    ∷ At 1900 (Departs (data_segment 250002 1001 65535 []))
    ∷ At 1900 (Arrives (data_segment 1006 250002 1000 (5 ∷ [])))
    ∷ At 1800 (Departs (fin_segment 250001 1001 65535 []))
    ∷ At 1800 ReadsEnd
    ∷ established

past_end_wait : IsTrue (may_wait past_end_open 2000)
past_end_wait = refl
