-- Walks.
use Rattle.std.proofs.Common.{refl, ◌≡◌, ℕ, [], ◌∷◌, arith, Some, true, false, IsTrue, pos, ◌+◌, ◌-◌, ◌-ℤ◌, ◌^◌, ◌%◌}
use Rattle.seq_space.specs.Places.{place}
use Rattle.spec_flow.specs.Event.{Beat, Arrives, Departs, Writes, Reads, ReadsEnd, EndsHost, EndFails, Closes, At, Story}
use Rattle.spec_flow.specs.Host.{acked}
use Rattle.spec_flow.specs.Flow.{host, first_number}
use Rattle.spec_flow.specs.Windows.{edge}
use Rattle.spec_flow.specs.Close.{in_time_wait_since}
use Rattle.spec_flow.specs.Lawful.{Close, May}
use Rattle.spec_flow.specs.Check.{is_lawful}
use Rattle.spec_flow.proofs.Courses.{usual, octets, data_segment, fin_segment, reset_ack, opened, established}
use Rattle.spec_flow.proofs.Refuted.{refutes}

abbrev pub crossing : Story
crossing =
    At 2200 (Closes false false true) ∷ At 2200 (Arrives (data_segment 1002 250002 1000 [])) ∷ At 2100 EndsHost
    ∷ At 2100 (Departs (data_segment 250002 1002 65535 [])) ∷ At 2100 (Arrives (fin_segment 1001 250001 1000 []))
    ∷ At 2000 (Departs (fin_segment 250001 1001 65535 [])) ∷ At 2000 ReadsEnd ∷ established

crossing_lawful : IsTrue (is_lawful usual crossing)
crossing_lawful = refl

crossing_rests : in_time_wait_since crossing ≡ Some 2200
crossing_rests = refl

abbrev pub probe : Story
probe =
    At 4700 (Departs (data_segment 250002 1001 65535 (octets 1 1))) ∷ At 4700 (Arrives (data_segment 1001 250002 10 []))
    ∷ At 4600 (Departs (data_segment 250001 1001 65535 (octets 0 1))) ∷ At 2600 (Arrives (data_segment 1001 250001 0 []))
    ∷ At 2600 (Departs (data_segment 250001 1001 65535 (octets 0 1))) ∷ At 1600 (Reads (octets 0 2))
    ∷ At 1600 (Arrives (data_segment 1001 250001 0 [])) ∷ opened

probe_lawful : IsTrue (is_lawful usual probe)
probe_lawful = refl

abbrev pub out : ℕ → Beat
out m = At m (Departs (data_segment 250001 1001 65535 (octets 0 2)))

abbrev pub nine_out : Story
nine_out = out 184700 ∷ out 124700 ∷ out 64700 ∷ out 32700 ∷ out 16700 ∷ out 8700 ∷ out 4700 ∷ out 2700 ∷ out 1700 ∷ At 1700 (Reads (octets 0 2)) ∷ established

nine_close : IsTrue (is_lawful usual (At 244700 (Departs (reset_ack 250003 1001)) ∷ At 244700 (Closes false false true) ∷ nine_out))
nine_close = refl

nine_early : May usual nine_out 244699 (Close false false true) → ⊥
nine_early = refutes usual nine_out 244699 (Close false false true) refl refl refl

-- a duplicate acceptable acknowledgement after the fifth starts the count anew
nine_ack : May usual (out 244700 ∷ At 200000 (Arrives (data_segment 1001 250001 1000 [])) ∷ nine_out) 300000 (Close false false true) → ⊥
nine_ack = refutes usual (out 244700 ∷ At 200000 (Arrives (data_segment 1001 250001 1000 [])) ∷ nine_out) 300000 (Close false false true) refl refl refl

-- edges of places
high : place ((7 + 1 + 100 + 2 ^ 31) % 2 ^ 32) 7 100 ≡ (pos 100 -ℤ pos (2 ^ 31))
high = refl

below : place ((7 + 1 + 100 + 2 ^ 31 + 2 ^ 32 - 1) % 2 ^ 32) 7 100 ≡ pos (100 + 2 ^ 31 - 1)
below = refl

far : place 5 7 (2 ^ 40) ≡ pos (2 ^ 40 - 3)
far = refl

-- a probe after the FIN: number end, one before the next expected; unsent data acknowledged; tend fails
abbrev pub tend_fails : Story
tend_fails =
    At 1900 (Departs (reset_ack 250001 1012)) ∷ At 1900 (Closes false false true) ∷ At 1900 EndFails
    ∷ At 1900 (Writes (octets 0 10) 10)
    ∷ At 1700 (Departs (data_segment 250001 1012 65525 [])) ∷ At 1700 (Arrives (fin_segment 1001 250001 1000 (octets 0 10))) ∷ established

tend_fails_lawful : IsTrue (is_lawful usual tend_fails)
tend_fails_lawful = refl

-- an acknowledgement of what wasn't sent is answered, and moves nothing
abbrev pub unsent : Story
unsent = At 1700 (Departs (data_segment 250001 1001 65535 [])) ∷ At 1700 (Arrives (data_segment 1001 250050 1000 (octets 0 3))) ∷ established

unsent_lawful : IsTrue (is_lawful usual unsent)
unsent_lawful = refl

unsent_acked : acked (host unsent) ≡ 0
unsent_acked = refl

-- the host shrinks: the window goes from 1000 to 0, and an older segment changes nothing
shrinks : edge usual (At 1701 (Arrives (data_segment 1000 250001 900 [])) ∷ At 1700 (Arrives (data_segment 1001 250001 0 [])) ∷ established) ≡ 0
shrinks = refl

-- 2^31 and an end: by the octets taken it is before them, by the places taken it is ahead
by_octets : place ((7 + 1 + 2 ^ 33 + 2 ^ 31) % 2 ^ 32) 7 (2 ^ 33) ≡ pos (2 ^ 33 - 2 ^ 31)
by_octets = refl

by_places : place ((7 + 1 + 2 ^ 33 + 2 ^ 31) % 2 ^ 32) 7 (2 ^ 33 + 1) ≡ pos (2 ^ 33 + 2 ^ 31)
by_places = refl

-- ---- first numbers

first_at_a_second : first_number 1000 0 ≡ 250000
first_at_a_second = refl

first_after_two : first_number 1000 2 ≡ 378000
first_after_two = refl

-- the moment may be cut to 32 bits before it is multiplied
pub first_of_cut : (moment flows : ℕ) → first_number (moment % 2 ^ 32) flows ≡ first_number moment flows
first_of_cut moment flows = omega arith
