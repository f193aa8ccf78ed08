-- A flow whose peer left before its guest answered, and flows that give way.
use Rattle.std.proofs.Common.{refl, ◌≡◌, ◌<◌, [], ◌∷◌, inl, inr, true, false, IsTrue, arith}
use Rattle.spec_flow.specs.Event.{Arrives, Departs, Closes, ReadsEnd, At, Story}
use Rattle.spec_flow.specs.Close.{owes_reset, may_give_way, is_in_use}
use Rattle.spec_flow.specs.Lawful.{May, Close}
use Rattle.spec_flow.specs.Dutiful.{MayWait, close_deadline, closing_moments}
use Rattle.spec_flow.specs.Check.{is_lawful, may}
use Rattle.spec_flow.specs.CheckDuty.{may_wait}
use Rattle.spec_flow.proofs.Refuting.{never}
use Rattle.spec_flow.proofs.Courses.{usual, our_syn, syn, reset_ack, asked, opened, short_writes}
use Rattle.spec_flow.proofs.Closings.{accepted}

-- ---- our SYN went out at 2200, and the peer ended without an octet: the guest may answer until 3200

abbrev pub deserted : Story
deserted = At 2300 ReadsEnd ∷ At 2200 (Departs (our_syn 500000)) ∷ accepted

abbrev pub left : Story
left = At 3200 (Departs (reset_ack 500001 0)) ∷ At 3200 (Closes false false true) ∷ deserted

left_lawful : IsTrue (is_lawful usual left)
left_lawful = refl

left_owes : owes_reset (At 3200 (Closes false false true) ∷ deserted) ≡ true
left_owes = refl

left_free : is_in_use left ≡ false
left_free = refl

waits_for_the_guest : IsTrue (may_wait deserted 3199)
waits_for_the_guest = refl

closes_by : close_deadline deserted ≡ 3200 ∷ []
closes_by = refl

-- a moment early it may not be closed
leaves_early : May usual deserted 3199 (Close false false true) → ⊥
leaves_early m = elim m.closes_with_cause [
  | inl own ↦ elim own [ inl one ↦ never one | inr rest ↦ elim rest [ inl two ↦ never two | inr three ↦ never three.0 ] ]
  | inr way ↦ never way
]

-- and then it must be: the program may not wait
stays_deserted : MayWait deserted 3200 → ⊥
stays_deserted waits = absurd (omega (arith, late))
  where
    late : 3200 < 3200
    late = waits.connects.0

-- it may be as long as the guest's own SYN is to be acknowledged, and isn't closed
abbrev pub crossed : Story
crossed = At 2400 (Arrives (syn 70 1000)) ∷ deserted

waits_to_acknowledge : IsTrue (may_wait crossed 5000)
waits_to_acknowledge = refl

leaves_unacknowledged : May usual crossed 5000 (Close false false true) → ⊥
leaves_unacknowledged m = elim m.closes_with_cause [
  | inl own ↦ elim own [ inl one ↦ never one | inr rest ↦ elim rest [ inl two ↦ never two | inr three ↦ never three.0 ] ]
  | inr way ↦ never way
]

-- a guest that got no SYN gets no reset
abbrev pub uncalled : Story
uncalled = At 2300 ReadsEnd ∷ accepted

uncalled_until : closing_moments uncalled ≡ 3000 ∷ []
uncalled_until = refl

uncalled_closes : may usual uncalled 3000 (Close false false false) ≡ true
uncalled_closes = refl

uncalled_owes : owes_reset (At 3000 (Closes false false false) ∷ uncalled) ≡ false
uncalled_owes = refl

-- the end came after the patience was over: it is closed from the next moment on
late_until : close_deadline (At 3300 ReadsEnd ∷ At 2200 (Departs (our_syn 500000)) ∷ accepted) ≡ 3301 ∷ []
late_until = refl

-- ---- the last sign of life of `opened` was at 1500, and nothing passed: it gives way from 241,500 on

gives_way : IsTrue (is_lawful usual (At 241500 (Departs (reset_ack 250001 1001)) ∷ At 241500 (Closes false false true) ∷ opened))
gives_way = refl

gives_way_early : May usual opened 241499 (Close false false true) → ⊥
gives_way_early m = elim m.closes_with_cause [
  | inl own ↦ elim own [ inl one ↦ never one | inr rest ↦ elim rest [ inl two ↦ never two | inr three ↦ never three.0 ] ]
  | inr way ↦ never way
]

-- once octets passed it isn't short: that of `short_writes` was at 1700
stays_long : may_give_way 7441699 short_writes ≡ false
stays_long = refl

gives_way_long : may usual short_writes 7441700 (Close false false true) ≡ true
gives_way_long = refl

gives_way_long_early : May usual short_writes 7441699 (Close false false true) → ⊥
gives_way_long_early m = elim m.closes_with_cause [
  | inl own ↦ elim own [ inl one ↦ never one | inr rest ↦ elim rest [ inl two ↦ never two | inr three ↦ never three.0 ] ]
  | inr way ↦ never way
]

-- its host was asked to connect at 1000, and that it hasn't is no sign of life
gives_way_connecting : IsTrue (is_lawful usual (At 11000 (Departs (reset_ack 0 1001)) ∷ At 11000 (Closes false false true) ∷ asked))
gives_way_connecting = refl

connecting_early : May usual asked 10999 (Close false false true) → ⊥
connecting_early m = elim m.closes_with_cause [
  | inl own ↦ elim own [ inl one ↦ never one | inr rest ↦ elim rest [ inl two ↦ never two | inr three ↦ never three.0 ] ]
  | inr way ↦ never way
]
