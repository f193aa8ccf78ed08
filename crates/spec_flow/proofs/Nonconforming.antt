-- Courses at the edge: a false end, acknowledgements without end, the last turn, and a guest that is not conforming.
use Rattle.std.proofs.Common.{refl, ◌≡◌, [], ◌∷◌, None, true, false, IsTrue}
use Rattle.spec_flow.specs.Event.{Segment, Arrives, Departs, Writes, Reads, ReadsEnd, ReadFails, EndsHost, Closes, At, Story}
use Rattle.spec_flow.specs.Guest.{ackd, Conforming}
use Rattle.spec_flow.specs.Flow.{guest}
use Rattle.spec_flow.specs.Close.{is_done, in_time_wait_since}
use Rattle.spec_flow.specs.Lawful.{Close, May, IsLawful}
use Rattle.spec_flow.specs.Check.{is_lawful}
use Rattle.spec_flow.proofs.Conformance.{conforming}
use Rattle.spec_flow.proofs.Courses.{usual, octets, data_segment, fin_segment, reset, reset_ack, established}
use Rattle.spec_flow.proofs.Refuted.{refutes, refutes_story}

abbrev pub false_end : Story
false_end =
    At 2600 EndsHost
    ∷ At 2500 (Arrives (fin_segment 1004 250002 1000 []))
    ∷ At 2400 (Departs (data_segment 250002 1004 65535 []))
    ∷ At 2400 (Arrives (fin_segment 1003 250002 1000 []))
    ∷ At 2200 (Writes (octets 0 3) 3)
    ∷ At 2100 (Departs (data_segment 250002 1004 65532 []))
    ∷ At 2100 (Arrives (data_segment 1001 250001 1000 (octets 0 3)))
    ∷ At 2000 (Departs (fin_segment 250001 1001 65535 []))
    ∷ At 2000 ReadsEnd
    ∷ established

false_end_lawful : IsTrue (is_lawful usual false_end)
false_end_lawful = refl

false_end_conforming : Conforming (guest false_end)
false_end_conforming = conforming (guest false_end) refl

false_end_ackd : ackd (guest false_end) ≡ 3
false_end_ackd = refl

false_end_done : is_done false_end ≡ false
false_end_done = refl

false_end_close : May usual false_end 2600 (Close false false true) → ⊥
false_end_close = refutes usual false_end 2600 (Close false false true) refl refl refl

-- closed by the guest's reset, it is in TIME-WAIT
false_rest : in_time_wait_since (At 2700 (Closes true false true) ∷ At 2700 (Arrives (reset 1005)) ∷ false_end) ≡ None
false_rest = refl

-- acknowledgements without end
abbrev pub chatter : Story
chatter =
    At 5000 (Departs (data_segment 250001 1001 65535 []))
    ∷ At 5000 (Departs (data_segment 250001 1001 65535 []))
    ∷ At 5000 (Departs (data_segment 250001 1001 65535 []))
    ∷ At 1800 (Arrives (data_segment 1001 250011 1000 []))
    ∷ At 1700 (Departs (data_segment 250001 1001 65535 (octets 0 10)))
    ∷ At 1700 (Reads (octets 0 10))
    ∷ established

not_chatter : IsLawful usual chatter → ⊥
not_chatter = refutes_story usual chatter refl refl refl

-- a host call fails in the turn of the last wait
abbrev pub last_turn : Story
last_turn =
    At 1800 (Departs (reset_ack 250011 1001))
    ∷ At 1800 (Closes false true true)
    ∷ At 1800 ReadFails
    ∷ At 1700 (Departs (data_segment 250001 1001 65535 (octets 0 10)))
    ∷ At 1700 (Reads (octets 0 10))
    ∷ established

last_turn_lawful : IsTrue (is_lawful usual last_turn)
last_turn_lawful = refl

-- a dishonest guest: a FIN without ACK, then an octet in its place; closed by a reset while is_done is true
abbrev pub bare_fin : Segment
bare_fin = record { number = 1001; acknowledgement = 0; ack = false; syn = false; rst = false; fin = true; window = 0; mss = None; scale = None; octets = [] }

abbrev pub crooked : Story
crooked =
    At 2600 EndsHost
    ∷ At 2500 (Arrives (fin_segment 1002 250002 1000 []))
    ∷ At 2200 (Writes (octets 0 1) 1)
    ∷ At 2100 (Departs (data_segment 250002 1002 65534 []))
    ∷ At 2100 (Arrives (data_segment 1001 250002 1000 (octets 0 1)))
    ∷ At 2050 (Arrives bare_fin)
    ∷ At 2000 (Departs (fin_segment 250001 1001 65535 []))
    ∷ At 2000 ReadsEnd
    ∷ established

crooked_done : is_done crooked ≡ true
crooked_done = refl

crooked_rest : in_time_wait_since (At 2700 (Closes true false true) ∷ At 2700 (Arrives (reset 1003)) ∷ crooked) ≡ None
crooked_rest = refl
