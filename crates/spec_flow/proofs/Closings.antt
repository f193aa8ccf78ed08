-- How flows open by a forward, and how they end.
use Rattle.std.proofs.Common.{refl, ◌≡◌, ℕ, [], ◌∷◌, None, Some, true, false, IsTrue}
use Rattle.spec_flow.specs.Event.{Segment, Accepts, Arrives, Departs, Writes, ReadsEnd, EndsHost, AsksAddress, Closes, At, Story}
use Rattle.spec_flow.specs.Host.{answered}
use Rattle.spec_flow.specs.Flow.{host, their_number}
use Rattle.spec_flow.specs.Windows.{edge}
use Rattle.spec_flow.specs.Close.{owes_reset, in_time_wait_since, is_in_use}
use Rattle.spec_flow.specs.Lawful.{Close, Send, May}
use Rattle.spec_flow.specs.Check.{is_lawful}
use Rattle.spec_flow.proofs.Courses.{usual, our_syn, octets, data_segment, fin_segment, syn_ack, syn, reset, established}
use Rattle.spec_flow.proofs.Refuted.{refutes}

-- a reset that acknowledges
abbrev pub reset_to : ℕ → ℕ → Segment
reset_to n a = record { number = n; acknowledgement = a; ack = true; syn = false; rst = true; fin = false; window = 0; mss = None; scale = None; octets = [] }

-- ---- an accepted flow: our SYN has number 500,000; first the guest's hardware address is asked for

abbrev pub accepted : Story
accepted = At 2000 AsksAddress ∷ At 2000 (Accepts 500000) ∷ []

abbrev pub accepted_open : Story
accepted_open =
    At 2300 (Departs (data_segment 500001 71 65535 []))
    ∷ At 2300 (Arrives (syn_ack 70 500001 1000))
    ∷ At 2200 (Departs (our_syn 500000))
    ∷ accepted

accepted_lawful : IsTrue (is_lawful usual accepted_open)
accepted_lawful = refl

accepted_known : their_number accepted_open ≡ Some 70
accepted_known = refl

accepted_answered : answered (host accepted_open) ≡ true
accepted_answered = refl

accepted_edge : edge usual accepted_open ≡ 1000
accepted_edge = refl

-- both sides send a SYN
abbrev pub both_open : Story
both_open =
    At 2400 (Arrives (data_segment 71 500001 1000 []))
    ∷ At 2300 (Departs (syn_ack 500000 71 65535))
    ∷ At 2300 (Arrives (syn 70 1000))
    ∷ At 2200 (Departs (our_syn 500000))
    ∷ accepted

both_lawful : IsTrue (is_lawful usual both_open)
both_lawful = refl

both_answered : answered (host both_open) ≡ true
both_answered = refl

-- the guest refuses our SYN: a reset that acknowledges it
abbrev pub turned_away : Story
turned_away =
    At 2300 (Closes true false true)
    ∷ At 2300 (Arrives (reset_to 0 500001))
    ∷ At 2200 (Departs (our_syn 500000))
    ∷ accepted

turned_away_lawful : IsTrue (is_lawful usual turned_away)
turned_away_lawful = refl

turned_away_owes : owes_reset turned_away ≡ false
turned_away_owes = refl

-- another acknowledgement doesn't do it
not_ours : May usual (At 2300 (Arrives (reset_to 0 500002)) ∷ At 2200 (Departs (our_syn 500000)) ∷ accepted) 2300 (Close true false true) → ⊥
not_ours = refutes usual (At 2300 (Arrives (reset_to 0 500002)) ∷ At 2200 (Departs (our_syn 500000)) ∷ accepted) 2300 (Close true false true) refl refl refl

-- ---- the guest ends first (LAST-ACK): the flow is closed when our FIN is acknowledged, and isn't in TIME-WAIT

abbrev pub guest_ended : Story
guest_ended =
    At 2100 (Closes false false true)
    ∷ At 2100 (Arrives (data_segment 1012 250002 1000 []))
    ∷ At 2000 (Departs (fin_segment 250001 1012 65535 []))
    ∷ At 2000 ReadsEnd
    ∷ At 1900 EndsHost
    ∷ At 1900 (Writes (octets 0 10) 10)
    ∷ At 1700 (Departs (data_segment 250001 1012 65525 []))
    ∷ At 1700 (Arrives (fin_segment 1001 250001 1000 (octets 0 10)))
    ∷ established

guest_ended_lawful : IsTrue (is_lawful usual guest_ended)
guest_ended_lawful = refl

guest_ended_rests : in_time_wait_since guest_ended ≡ None
guest_ended_rests = refl

guest_ended_free : is_in_use guest_ended ≡ false
guest_ended_free = refl

-- ---- the host ends first (TIME-WAIT): the flow is in TIME-WAIT from its close on, and anew from each FIN that comes again

abbrev pub host_ended : Story
host_ended =
    At 2100 (Closes false false true)
    ∷ At 2100 EndsHost
    ∷ At 2000 (Departs (data_segment 250002 1002 65535 []))
    ∷ At 2000 (Arrives (fin_segment 1001 250002 1000 []))
    ∷ At 1900 (Arrives (data_segment 1001 250002 1000 []))
    ∷ At 1800 (Departs (fin_segment 250001 1001 65535 []))
    ∷ At 1800 ReadsEnd
    ∷ established

host_ended_lawful : IsTrue (is_lawful usual host_ended)
host_ended_lawful = refl

host_ended_rests : in_time_wait_since host_ended ≡ Some 2100
host_ended_rests = refl

abbrev pub fin_again : Story
fin_again =
    At 3000 (Departs (data_segment 250002 1002 65535 []))
    ∷ At 3000 (Arrives (fin_segment 1001 250002 1000 []))
    ∷ host_ended

fin_again_lawful : IsTrue (is_lawful usual fin_again)
fin_again_lawful = refl

fin_again_rests : in_time_wait_since fin_again ≡ Some 3000
fin_again_rests = refl

-- a SYN ahead ends the rest, one behind doesn't, a reset at the next number does
syn_ahead : in_time_wait_since (At 4000 (Arrives (syn 9000 1000)) ∷ fin_again) ≡ None
syn_ahead = refl

syn_behind : in_time_wait_since (At 4000 (Arrives (syn 900 1000)) ∷ fin_again) ≡ Some 3000
syn_behind = refl

reset_next : in_time_wait_since (At 4000 (Arrives (reset 1002)) ∷ fin_again) ≡ None
reset_next = refl

-- octets may not go out any more
not_after_close : May usual fin_again 4000 (Send (data_segment 250002 1002 65535 (1 ∷ []))) → ⊥
not_after_close = refutes usual fin_again 4000 (Send (data_segment 250002 1002 65535 (1 ∷ []))) refl refl refl
