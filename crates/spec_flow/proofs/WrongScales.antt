-- Wrong options and windows.
use Rattle.std.proofs.Common.{refl, ◌+◌, ◌<◌, [], ◌∷◌, None, Some, true, false, arith}
use Rattle.spec_flow.specs.Event.{Connects, Accepts, Connected, At}
use Rattle.spec_flow.specs.Flow.{guest}
use Rattle.spec_flow.specs.Lawful.{Send, May}
use Rattle.spec_flow.specs.Dutiful.{Must, ToldRoom}
use Rattle.spec_flow.proofs.Refuted.{refutes}
use Rattle.spec_flow.proofs.ExactDuty.{refutes_duty}
use Rattle.spec_flow.proofs.Conformance.{conforming}
use Rattle.spec_flow.proofs.Ends.{ends_has}
use Rattle.spec_flow.proofs.Refuting.{never}
use Rattle.spec_flow.proofs.Courses.{usual, data_segment, syn_with, syn_ack_with, syn}
use Rattle.spec_flow.proofs.Scales.{large, large_answered, large_asked, small}

-- ---- wrong ones

-- the SYN-ACK has the option though the guest's SYN has none; or hasn't it; or another shift; or no MSS
offers_alone : May usual (At 1500 Connected ∷ At 1000 (Connects 250000 (syn 1000 65535)) ∷ []) 1500 (Send (syn_ack_with (Some 0) 250000 1001 65535)) → ⊥
offers_alone = refutes usual (At 1500 Connected ∷ At 1000 (Connects 250000 (syn 1000 65535)) ∷ []) 1500 (Send (syn_ack_with (Some 0) 250000 1001 65535)) refl refl refl

doesn't_offer : May large large_asked 1500 (Send (syn_ack_with None 250000 1001 65535)) → ⊥
doesn't_offer = refutes large large_asked 1500 (Send (syn_ack_with None 250000 1001 65535)) refl refl refl

offers_less : May large large_asked 1500 (Send (syn_ack_with (Some 4) 250000 1001 65535)) → ⊥
offers_less = refutes large large_asked 1500 (Send (syn_ack_with (Some 4) 250000 1001 65535)) refl refl refl

shifts_later : May large (At 2000 (Accepts 500000) ∷ []) 2000 (Send (syn 500000 65535)) → ⊥
shifts_later = refutes large (At 2000 (Accepts 500000) ∷ []) 2000 (Send (syn 500000 65535)) refl refl refl

other_mss : May (record { ring = 1048576; mru = 1000; mtu = 1500; scales = true; congestion = false }) large_asked 1500 (Send (syn_ack_with (Some 5) 250000 1001 65535)) → ⊥
other_mss = refutes (record { ring = 1048576; mru = 1000; mtu = 1500; scales = true; congestion = false }) large_asked 1500 (Send (syn_ack_with (Some 5) 250000 1001 65535)) refl refl refl

-- the window isn't shifted, and tells of more than the room
doesn't_shift : Must large large_answered 1600 (Send (data_segment 250001 1001 65535 [])) → ⊥
doesn't_shift = refutes_duty large large_answered 1600 (Send (data_segment 250001 1001 65535 [])) refl refl

-- the SYN-ACK's is
shifts_syn : Must large large_asked 1500 (Send (syn_ack_with (Some 5) 250000 1001 32768)) → ⊥
shifts_syn = refutes_duty large large_asked 1500 (Send (syn_ack_with (Some 5) 250000 1001 32768)) refl refl

-- ---- a program that doesn't scale

offers_against_its_settings : May small (At 2000 (Accepts 500000) ∷ []) 2000 (Send (syn_with (Some 0) 500000 65535)) → ⊥
offers_against_its_settings = refutes small (At 2000 (Accepts 500000) ∷ []) 2000 (Send (syn_with (Some 0) 500000 65535)) refl refl refl

-- no update goes out
doesn't_update : ToldRoom large large_answered → ⊥
doesn't_update told = absurd (omega (arith, few))
  where
    few : 1048576 < 65535 + 2920
    few = told (conforming (guest large_answered) refl) refl (λ i end. never (ends_has (guest large_answered) i end)) 65535 refl
