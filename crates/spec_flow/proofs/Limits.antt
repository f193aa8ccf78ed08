-- What a flow may not send: more octets than the guest takes, anything of a closed flow but the reset that it owes and acknowledgements while it is in TIME-WAIT, and a reset that
-- acknowledges what didn't come.
use Rattle.std.proofs.Common.{refl, ◌≡◌, [], ◌∷◌, true, false}
use Rattle.spec_flow.specs.Settings.{Settings}
use Rattle.spec_flow.specs.Event.{Arrives, Departs, Reads, Writes, EndFails, Closes, At, Story}
use Rattle.spec_flow.specs.Lawful.{May, Send}
use Rattle.spec_flow.specs.Check.{may}
use Rattle.spec_flow.proofs.Corners.{crossing, tend_fails}
use Rattle.spec_flow.proofs.Courses.{usual, octets, data_segment, fin_segment, reset_ack, established, nine}
use Rattle.spec_flow.proofs.Refuted.{refutes}
use Rattle.spec_flow.proofs.Refuting.{never}

-- ---- the size of a segment

abbrev pub narrow : Settings
narrow = record usual { mtu = 100 }

abbrev pub many_read : Story
many_read = At 1700 (Reads (octets 0 70)) ∷ established

as_many_as_fit : may narrow many_read 1700 (Send (data_segment 250001 1001 65535 (octets 0 60))) ≡ true
as_many_as_fit = refl

one_more : May narrow many_read 1700 (Send (data_segment 250001 1001 65535 (octets 0 61))) → ⊥
one_more = refutes narrow many_read 1700 (Send (data_segment 250001 1001 65535 (octets 0 61))) refl refl refl

-- ---- after the close

-- the host wasn't told the end: the flow is closed, and owes a reset
abbrev pub owing : Story
owing =
    At 1900 (Closes false false true) ∷ At 1900 EndFails
    ∷ At 1900 (Writes (octets 0 10) 10)
    ∷ At 1700 (Departs (data_segment 250001 1012 65525 [])) ∷ At 1700 (Arrives (fin_segment 1001 250001 1000 (octets 0 10))) ∷ established

its_reset : may usual owing 1900 (Send (reset_ack 250001 1012)) ≡ true
its_reset = refl

acknowledgement_before_it : May usual owing 1900 (Send (data_segment 250001 1012 65525 [])) → ⊥
acknowledgement_before_it m = never (m.sends_nothing_after_close refl).3

acknowledgement_after_it : May usual tend_fails 1900 (Send (data_segment 250001 1012 65525 [])) → ⊥
acknowledgement_after_it m = never (m.sends_nothing_after_close refl).3

-- one that is in TIME-WAIT answers the guest's FIN again
abbrev pub asked_again : Story
asked_again = At 3000 (Arrives (fin_segment 1001 250002 1000 [])) ∷ crossing

answers_again : may usual asked_again 3000 (Send (data_segment 250002 1002 65535 [])) ≡ true
answers_again = refl

-- ---- what a reset acknowledges

past_what_came : May usual owing 1900 (Send (reset_ack 250001 1013)) → ⊥
past_what_came = refutes usual owing 1900 (Send (reset_ack 250001 1013)) refl refl refl

anything : May usual owing 1900 (Send (reset_ack 250001 3735928559)) → ⊥
anything = refutes usual owing 1900 (Send (reset_ack 250001 3735928559)) refl refl refl

-- the SYN-ACK was lost: a guest that awaits it takes only a reset that acknowledges its SYN (RFC 9293, 3.10.7.3)
abbrev pub unanswered : Story
unanswered = At 244500 (Closes false false true) ∷ nine

takes_its_reset : may usual unanswered 244500 (Send (reset_ack 250001 1001)) ≡ true
takes_its_reset = refl

acknowledges_nothing : May usual unanswered 244500 (Send (reset_ack 250001 0)) → ⊥
acknowledges_nothing = refutes usual unanswered 244500 (Send (reset_ack 250001 0)) refl refl refl
