-- What a wrong program would do next with the guest's stream, and the sentence that refutes it.
use Rattle.std.proofs.Common.{refl, ◌≡◌, ℕ, ◌+◌, ◌≤◌, [], ◌∷◌, inl, inr, arith, subst, Bool, true, false}
use Rattle.std.proofs.lemmas.Int.{ints}
use Rattle.spec_flow.specs.Settings.{Settings}
use Rattle.spec_flow.specs.Event.{Connects, Arrives, Departs, Connected, Writes, At, Story}
use Rattle.spec_flow.specs.Flow.{guest}
use Rattle.spec_flow.specs.Lawful.{May, Write, EndHost, Send}
use Rattle.spec_flow.specs.Windows.{field}
use Rattle.spec_flow.specs.Dutiful.{Must, IsSettled, must_wait_to_write}
use Rattle.spec_flow.specs.CheckDuty.{is_settled}
use Rattle.spec_flow.specs.Check.{may}
use Rattle.spec_flow.proofs.Conformance.{conforming}
use Rattle.spec_flow.proofs.Ends.{ends_has}
use Rattle.spec_flow.proofs.Refuting.{prefix_begins, never, apart}
use Rattle.spec_flow.proofs.Courses.{usual, syn, octets, data_segment, fin_segment, syn_ack, established}

-- ---- ten octets came

abbrev pub ten_came : Story
ten_came = At 1700 (Arrives (data_segment 1001 250001 1000 (octets 0 10))) ∷ established

-- it acknowledges octets that found no room: of the ten there is room for six, and all are acknowledged, whatever window it tells
abbrev pub narrow : Settings
narrow = record { ring = 6; mru = 1500; mtu = 1500; scales = true; congestion = false }

acknowledges_what_found_no_room : (window : ℕ) → Must narrow ten_came 1700 (Send (data_segment 250001 1011 window [])) → ⊥
acknowledges_what_found_no_room window m =
    let told = m.sends_its_room refl (conforming (guest ten_came) refl) 10 (inl (refl, λ i end. never (ends_has (guest ten_came) i end))) in
    let too_many : told.0 + 10 ≡ 6 = told.1 in
    absurd (omega (arith, too_many))

-- or it tells the whole room, though none of the ten was written
tells_room_that_is_taken : Must usual ten_came 1700 (Send (data_segment 250001 1011 65535 [])) → ⊥
tells_room_that_is_taken m =
    let told = m.sends_its_room refl (conforming (guest ten_came) refl) 10 (inl (refl, λ i end. never (ends_has (guest ten_came) i end))) in
    let room : told.0 ≡ 65525 = omega (arith, told.1) in
    apart 65535 65525 refl (subst (λ (r : ℕ). 65535 ≡ field 0 r) room told.2)

abbrev pub ten_acked : Story
ten_acked = At 1700 (Departs (data_segment 250001 1011 65525 [])) ∷ ten_came

-- or the octets are gone: it offers fewer than it acknowledged
offers_too_few : Must usual ten_acked 1700 (Write (octets 0 3)) → ⊥
offers_too_few m = few (m.offers_what_was_acknowledged.1 (conforming (guest ten_acked) refl) 10 (inl (refl, λ i end. never (ends_has (guest ten_acked) i end))))
  where
    few : 10 ≤ 3 → ⊥
    few is = absurd (omega (arith, is))

-- or others in their place
abbrev pub fifteen_came : Story
fifteen_came = At 1800 (Arrives (data_segment 1011 250001 1000 (octets 10 5))) ∷ ten_acked

writes_past_what_is_gone : May usual fifteen_came 1800 (Write (octets 10 5)) → ⊥
writes_past_what_is_gone m = never (prefix_begins (octets 10 5) (octets 0 15) (m.writes_what_the_guest_sent (conforming (guest fifteen_came) refl)))

-- it acknowledges an octet more than came
acknowledges_too_much : May usual ten_came 1700 (Send (data_segment 250001 1012 65525 [])) → ⊥
acknowledges_too_much m =
    elim ((m.acknowledges_what_came refl).1 refl (conforming (guest ten_came) refl)) [
      | inl within ↦ too_few within
      | inr (end, is) ↦ never (ends_has (guest ten_came) 10 end)
    ]
  where
    too_few : 11 ≤ 10 → ⊥
    too_few is = absurd (omega arith)

-- ---- the host took three of the ten

abbrev pub three_written : Story
three_written = At 1700 (Writes (octets 0 10) 3) ∷ ten_came

offers_again_after_short_write : May usual three_written 1700 (Write (octets 0 10)) → ⊥
offers_again_after_short_write m =
    never (prefix_begins (0 ∷ 1 ∷ 2 ∷ octets 0 10) (octets 0 10) (m.writes_what_the_guest_sent (conforming (guest three_written) refl)))

-- the others are what may be offered
goes_on_after_short_write : may usual three_written 1700 (Write (octets 3 7)) ≡ true
goes_on_after_short_write = refl

-- and after it took nothing it is waited for still
still_waits : must_wait_to_write (At 1700 (Writes (octets 0 10) 0) ∷ ten_acked) ≡ true
still_waits = refl

-- ---- the guest ended, and four of its octets are held

abbrev pub four_held : Story
four_held =
    At 1800 (Writes (octets 0 10) 6)
    ∷ At 1700 (Departs (data_segment 250001 1012 65525 []))
    ∷ At 1700 (Arrives (fin_segment 1001 250001 1000 (octets 0 10)))
    ∷ established

ends_host_with_octets_held : May usual four_held 1800 EndHost → ⊥
ends_host_with_octets_held m = never (ends_has (guest four_held) 6 (m.ends_after_all.1 (conforming (guest four_held) refl)))

-- ---- the guest's numbers wrap: its SYN has the number 0xFFFFFFFB, and its fifth octet the number 0

abbrev pub wraps : Story
wraps =
    At 1600 (Arrives (data_segment 0xFFFFFFFC 250001 1000 []))
    ∷ At 1500 (Departs (syn_ack 250000 0xFFFFFFFC 65535)) ∷ At 1500 Connected
    ∷ At 1000 (Connects 250000 (syn 0xFFFFFFFB 65535)) ∷ []

-- four octets came, and then eight with less numbers
abbrev pub four_and_eight : Story
four_and_eight =
    At 1700 (Arrives (data_segment 0 250001 1000 (octets 4 8)))
    ∷ At 1700 (Arrives (data_segment 0xFFFFFFFC 250001 1000 (octets 0 4)))
    ∷ wraps

-- it compares numbers without wrap: those with the less numbers are written first
compares_numbers_without_wrap : May usual four_and_eight 1700 (Write (octets 4 8)) → ⊥
compares_numbers_without_wrap m = never (prefix_begins (octets 4 8) (octets 0 12) (m.writes_what_the_guest_sent (conforming (guest four_and_eight) refl)))

-- or, since the end of a segment has a less number than its begin, it is taken for an old one, and nothing of it acknowledged
abbrev pub twelve_came : Story
twelve_came = At 1700 (Departs (data_segment 250001 0xFFFFFFFC 65535 [])) ∷ At 1700 (Arrives (data_segment 0xFFFFFFFC 250001 1000 (octets 0 12))) ∷ wraps

takes_a_wrap_for_old : (known time_waits : Bool) (now : ℕ) → IsSettled usual twelve_came known time_waits now → ⊥
takes_a_wrap_for_old known time_waits now has = few (has.acknowledges.all refl (conforming (guest twelve_came) refl) 12 (inl (refl, omega (arith, ints), inl refl)))
  where
    few : 12 ≤ 0 → ⊥
    few is = absurd (omega (arith, is))

-- with all of it acknowledged the program may wait
takes_it : is_settled usual (At 1700 (Departs (data_segment 250001 8 65523 [])) ∷ At 1700 (Arrives (data_segment 0xFFFFFFFC 250001 1000 (octets 0 12))) ∷ wraps) true false 1700 ≡ true
takes_it = refl
