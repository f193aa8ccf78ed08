-- How flows are closed for a cause.
use Rattle.std.proofs.Common.{refl, ◌≡◌, ℕ, [], ◌∷◌, true, false, IsTrue}
use Rattle.spec_flow.specs.Event.{Beat, Arrives, Departs, Reads, ReadFails, Closes, At, Story}
use Rattle.spec_flow.specs.Windows.{edge}
use Rattle.spec_flow.specs.Close.{owes_reset}
use Rattle.spec_flow.specs.Lawful.{Close, Read, May, IsLawful}
use Rattle.spec_flow.specs.Check.{is_lawful}
use Rattle.spec_flow.proofs.Courses.{usual, octets, data_segment, reset, reset_ack, asked, established}
use Rattle.spec_flow.proofs.Refuted.{refutes, refutes_story}

-- ---- a read fails: closed at once, and a reset with the next number

abbrev pub read_failed : Story
read_failed =
    At 1800 (Departs (reset_ack 250011 1001))
    ∷ At 1800 (Closes false false true)
    ∷ At 1800 ReadFails
    ∷ At 1700 (Departs (data_segment 250001 1001 65535 (octets 0 10)))
    ∷ At 1700 (Reads (octets 0 10))
    ∷ established

read_failed_lawful : IsTrue (is_lawful usual read_failed)
read_failed_lawful = refl

-- nothing else may come before the close
not_before_close : May usual (At 1800 ReadFails ∷ established) 1800 Read → ⊥
not_before_close = refutes usual (At 1800 ReadFails ∷ established) 1800 Read refl refl refl

-- nor may anything come before it
not_after_failure : IsLawful usual (At 1800 (Closes false false true) ∷ At 1800 (Arrives (data_segment 1001 250001 1000 [])) ∷ At 1800 ReadFails ∷ established) → ⊥
not_after_failure = refutes_story usual (At 1800 (Closes false false true) ∷ At 1800 (Arrives (data_segment 1001 250001 1000 [])) ∷ At 1800 ReadFails ∷ established) refl refl refl

-- ---- the host doesn't connect in 75,000 ms

-- a reset that is at the next number closes the flow, and none is owed, even if the time was over
abbrev pub reset_while_late : Story
reset_while_late = At 76500 (Closes true false true) ∷ At 76500 (Arrives (reset 1001)) ∷ asked

reset_while_late_lawful : IsTrue (is_lawful usual reset_while_late)
reset_while_late_lawful = refl

reset_while_late_owes : owes_reset reset_while_late ≡ false
reset_while_late_owes = refl

-- octets came that weren't looked at, then a reset among their numbers, then the time is over: a reset is owed
abbrev pub late_with_octets : Story
late_with_octets =
    At 76500 (Closes true false true)
    ∷ At 76500 (Arrives (reset 1004))
    ∷ At 1300 (Arrives (data_segment 1001 250001 1000 (octets 0 5)))
    ∷ asked

late_with_octets_lawful : IsTrue (is_lawful usual late_with_octets)
late_with_octets_lawful = refl

late_with_octets_owes : owes_reset late_with_octets ≡ true
late_with_octets_owes = refl

-- ---- octets go out nine times and aren't acknowledged

abbrev pub piece : ℕ → Beat
piece m = At m (Departs (data_segment 250001 1001 65535 (octets 0 10)))

abbrev pub nine_pieces : Story
nine_pieces =
    piece 184700
    ∷ piece 124700
    ∷ piece 64700
    ∷ piece 32700
    ∷ piece 16700
    ∷ piece 8700
    ∷ piece 4700
    ∷ piece 2700
    ∷ piece 1700
    ∷ At 1700 (Reads (octets 0 10))
    ∷ established

abbrev pub unheard : Story
unheard = At 244700 (Departs (reset_ack 250011 1001)) ∷ At 244700 (Closes false false true) ∷ nine_pieces

unheard_lawful : IsTrue (is_lawful usual unheard)
unheard_lawful = refl

-- the same acknowledgement came again: the guest is there, and the count begins anew
still_there : May usual (At 200000 (Arrives (data_segment 1001 250001 1000 [])) ∷ nine_pieces) 244700 (Close false false true) → ⊥
still_there = refutes usual (At 200000 (Arrives (data_segment 1001 250001 1000 [])) ∷ nine_pieces) 244700 (Close false false true) refl refl refl

-- a reset that isn't at the next number came last, and then the time was over: a reset is owed
abbrev pub reset_passed : Story
reset_passed = At 244700 (Closes true false true) ∷ At 244700 (Arrives (reset 900)) ∷ nine_pieces

reset_passed_lawful : IsTrue (is_lawful usual reset_passed)
reset_passed_lawful = refl

reset_passed_owes : owes_reset reset_passed ≡ true
reset_passed_owes = refl

-- octets came that aren't acknowledged yet, then a reset after them: it closes the flow, and none is owed
abbrev pub reset_after_octets : Story
reset_after_octets =
    At 1800 (Closes true false true)
    ∷ At 1800 (Arrives (reset 1011))
    ∷ At 1800 (Arrives (data_segment 1001 250001 1000 (octets 0 10)))
    ∷ established

reset_after_octets_lawful : IsTrue (is_lawful usual reset_after_octets)
reset_after_octets_lawful = refl

reset_after_octets_owes : owes_reset reset_after_octets ≡ false
reset_after_octets_owes = refl

-- one among them doesn't close it by itself, once they were acknowledged
abbrev pub reset_among : Story
reset_among =
    At 1900 (Arrives (reset 1005))
    ∷ At 1800 (Departs (data_segment 250001 1011 65525 []))
    ∷ At 1800 (Arrives (data_segment 1001 250001 1000 (octets 0 10)))
    ∷ established

reset_among_close : May usual reset_among 1900 (Close true false true) → ⊥
reset_among_close = refutes usual reset_among 1900 (Close true false true) refl refl refl

-- ---- the guest's window is taken from the newest segment

-- one with an older number doesn't change it
older_window : edge usual (At 1800 (Arrives (data_segment 1001 250001 5 [])) ∷ At 1700 (Arrives (data_segment 1011 250001 700 [])) ∷ established) ≡ 700
older_window = refl

-- nor does one that acknowledges what wasn't sent
beyond_window : edge usual (At 1700 (Arrives (data_segment 1011 250009 700 [])) ∷ established) ≡ 1000
beyond_window = refl
