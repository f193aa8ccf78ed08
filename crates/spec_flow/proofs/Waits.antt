-- What is owed, and not, where the program waits in the courses of Rows and Closings.
use Rattle.std.proofs.Common.{refl, ◌≡◌, ◌<◌, ◌≤◌, [], ◌∷◌, inl, true, false, IsTrue, arith}
use Rattle.std.proofs.lemmas.Int.{ints}
use Rattle.spec_flow.specs.Event.{Arrives, Departs, Connected, Reads, ReadsEnd, EndsHost, At}
use Rattle.spec_flow.specs.Dutiful.{waits_to_read, must_wait_to_write, wakes, resend_deadline, close_deadline, read_size, HasSent, HasAcknowledged, ClosesWhenDone, AreAhead}
use Rattle.spec_flow.specs.Flow.{guest}
use Rattle.spec_flow.proofs.Conformance.{conforming}
use Rattle.spec_flow.proofs.Refuting.{never}
use Rattle.spec_flow.specs.CheckDuty.{is_settled, may_wait}
use Rattle.spec_flow.proofs.Courses.{usual, octets, data_segment, fin_segment, asked, opened, refused, established, short_writes, wrapped, repeated, ended_held, windowed, nine, given_up}
use Rattle.spec_flow.proofs.Closings.{accepted, accepted_open, both_open, guest_ended, fin_again}

-- ---- the program may wait

at_asked : IsTrue (is_settled usual asked true false 1200)
at_asked = refl

at_opened : IsTrue (is_settled usual opened true false 1500)
at_opened = refl

at_short_writes : IsTrue (is_settled usual short_writes true false 1700)
at_short_writes = refl

at_wrapped : IsTrue (is_settled usual wrapped true false 1700)
at_wrapped = refl

at_repeated : IsTrue (is_settled usual repeated true false 1700)
at_repeated = refl

at_ended_held : IsTrue (is_settled usual ended_held true false 1900)
at_ended_held = refl

at_windowed : IsTrue (is_settled usual windowed true false 2000)
at_windowed = refl

at_nine : IsTrue (is_settled usual nine true false 244499)
at_nine = refl

at_given_up : IsTrue (is_settled usual given_up true false 244500)
at_given_up = refl

at_refused : IsTrue (is_settled usual refused true false 1500)
at_refused = refl

at_accepted : IsTrue (is_settled usual accepted false false 2000)
at_accepted = refl

at_accepted_open : IsTrue (is_settled usual accepted_open true false 2300)
at_accepted_open = refl

at_both_open : IsTrue (is_settled usual both_open true false 2400)
at_both_open = refl

at_fin_again : IsTrue (is_settled usual fin_again true true 3000)
at_fin_again = refl

at_guest_ended : IsTrue (may_wait guest_ended 2100)
at_guest_ended = refl

-- ---- what is waited for

reads_at_opened : waits_to_read usual opened ≡ true
reads_at_opened = refl

not_while_connecting : waits_to_read usual asked ≡ false
not_while_connecting = refl

writes_while_connecting : must_wait_to_write asked ≡ true
writes_while_connecting = refl

all_was_written : must_wait_to_write short_writes ≡ false
all_was_written = refl

not_after_end : waits_to_read usual windowed ≡ false
not_after_end = refl

all_the_room : read_size usual opened ≡ 16384
all_the_room = refl

-- ---- times

connects_until : close_deadline asked ≡ 76000 ∷ []
connects_until = refl

wakes_while_connecting : wakes asked ≡ 76000 ∷ []
wakes_while_connecting = refl

asks_again : wakes accepted ≡ 3000 ∷ []
asks_again = refl

rests_from_nine : wakes nine ≡ 244500 ∷ []
rests_from_nine = refl

-- a guest's address was asked for, and is within a minute
asks_by : resend_deadline accepted ≡ 62000 ∷ []
asks_by = refl

asks_no_more : resend_deadline accepted_open ≡ []
asks_no_more = refl

-- ---- what isn't done

-- the host connected, and no SYN-ACK went out
doesn't_accept : HasSent usual (At 1500 Connected ∷ asked) true → ⊥
doesn't_accept has = never (has.syn_ack refl)

-- thirty octets were read, the guest takes ten, and none went out
doesn't_send : HasSent usual (At 1700 (Reads (octets 0 30)) ∷ At 1600 (Arrives (data_segment 1001 250001 10 [])) ∷ opened) true → ⊥
doesn't_send has = absurd (omega (arith, few))
  where
    few : 10 ≤ 0
    few = has.octets refl

-- ten octets came, and no segment with ACK went out
doesn't_answer : HasAcknowledged usual (At 1700 (Arrives (data_segment 1001 250001 1000 (octets 0 10))) ∷ established) false → ⊥
doesn't_answer has = has.each refl (inl (refl, inl refl))

-- ten octets came, and an acknowledgement of none of them went out
acknowledges_nothing : HasAcknowledged usual (At 1700 (Departs (data_segment 250001 1001 65535 [])) ∷ At 1700 (Arrives (data_segment 1001 250001 1000 (octets 0 10))) ∷ established) false → ⊥
acknowledges_nothing has = absurd (omega (arith, few))
  where
    few : 10 ≤ 0
    few = has.all refl (conforming (guest (At 1700 (Departs (data_segment 250001 1001 65535 [])) ∷ At 1700 (Arrives (data_segment 1001 250001 1000 (octets 0 10))) ∷ established)) refl)
        10 (inl (refl, omega (arith, ints), inl refl))

-- both ends passed, and the flow isn't closed
doesn't_close : ClosesWhenDone (At 2100 EndsHost ∷ At 2000 (Departs (data_segment 250002 1002 65535 [])) ∷ At 2000 (Arrives (fin_segment 1001 250002 1000 []))
    ∷ At 1800 (Departs (fin_segment 250001 1001 65535 [])) ∷ At 1800 ReadsEnd ∷ established) → ⊥
doesn't_close closes = never (closes (conforming (guest (At 2100 EndsHost ∷ At 2000 (Departs (data_segment 250002 1002 65535 [])) ∷ At 2000 (Arrives (fin_segment 1001 250002 1000 []))
    ∷ At 1800 (Departs (fin_segment 250001 1001 65535 [])) ∷ At 1800 ReadsEnd ∷ established)) refl) refl)

-- a minute passed, and the guest's address wasn't asked for again
doesn't_ask_again : AreAhead 62000 (resend_deadline accepted) → ⊥
doesn't_ask_again ahead = absurd (omega (arith, late))
  where
    late : 62000 < 62000
    late = ahead.0

-- a minute passed, and the SYN-ACK didn't go out again
doesn't_resend : AreAhead 61500 (resend_deadline opened) → ⊥
doesn't_resend ahead = absurd (omega (arith, late))
  where
    late : 61500 < 61500
    late = ahead.0
