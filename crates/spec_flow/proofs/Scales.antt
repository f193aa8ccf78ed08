-- Courses with window scales and larger rings.
use Rattle.std.proofs.Common.{refl, ◌≡◌, [], ◌∷◌, Some, true, false, IsTrue}
use Rattle.spec_flow.specs.Settings.{Settings}
use Rattle.spec_flow.specs.Event.{Connects, Accepts, Arrives, Departs, Connected, At, Story}
use Rattle.spec_flow.specs.Windows.{least_shift, field, right_edge, edge}
use Rattle.spec_flow.specs.Check.{is_lawful}
use Rattle.spec_flow.specs.CheckDuty.{is_settled}
use Rattle.spec_flow.specs.CheckDuty.{is_dutiful}
use Rattle.spec_flow.proofs.Courses.{octets, data_segment, syn_with, syn_ack_with, syn, syn_ack}

-- ---- the largest ring; the guest's SYN has the shift 7

abbrev pub large : Settings
large = record { ring = 1048576; mru = 1500; mtu = 1500; scales = true; congestion = false }

shift_of_large : least_shift 1048576 ≡ 5
shift_of_large = refl

shift_of_usual : least_shift 65535 ≡ 0
shift_of_usual = refl

shift_of_next : least_shift 65536 ≡ 1
shift_of_next = refl

-- no field tells more of it
field_of_large : field 5 1048576 ≡ 32768
field_of_large = refl

abbrev pub large_asked : Story
large_asked = At 1500 Connected ∷ At 1000 (Connects 250000 (syn_with (Some 7) 1000 65535)) ∷ []

-- our SYN-ACK has the shift 5, and its own field isn't shifted
abbrev pub large_opened : Story
large_opened = At 1500 (Departs (syn_ack_with (Some 5) 250000 1001 65535)) ∷ large_asked

-- the guest's answer has ten octets: they are acknowledged, and 32,767 times 32 octets of the room are told
abbrev pub large_ten : Story
large_ten =
    At 1600 (Departs (data_segment 250001 1011 32767 []))
    ∷ At 1600 (Arrives (data_segment 1001 250001 1000 (octets 0 10)))
    ∷ large_opened

large_ten_lawful : IsTrue (is_lawful large large_ten)
large_ten_lawful = refl

large_ten_tells : IsTrue (is_dutiful large large_ten)
large_ten_tells = refl

large_ten_settled : IsTrue (is_settled large large_ten true false 1600)
large_ten_settled = refl

large_ten_edge : right_edge large large_ten ≡ Some 1048554
large_ten_edge = refl

-- and 1,000 times 128 octets may go out
large_ten_window : edge large large_ten ≡ 128000
large_ten_window = refl

-- an answer without octets: all the room is told, since the SYN-ACK could tell of 65,535 octets alone
abbrev pub large_answered : Story
large_answered = At 1600 (Arrives (data_segment 1001 250001 1000 [])) ∷ large_opened

abbrev pub large_update : Story
large_update =
    At 1700 (Departs (data_segment 250001 1011 32767 []))
    ∷ At 1700 (Arrives (data_segment 1001 250001 1000 (octets 0 10)))
    ∷ At 1600 (Departs (data_segment 250001 1001 32768 []))
    ∷ large_answered

large_update_lawful : IsTrue (is_lawful large large_update)
large_update_lawful = refl

large_update_tells : IsTrue (is_dutiful large large_update)
large_update_tells = refl

large_update_settled : IsTrue (is_settled large large_update true false 1700)
large_update_settled = refl

-- the field rounds down: the edge that is told is 22 octets before the one told last, and no update is owed
large_update_edge : right_edge large large_update ≡ Some 1048554
large_update_edge = refl

-- ---- the guest's SYN has no shift: ours has none, and no window is shifted

abbrev pub large_plain : Story
large_plain =
    At 1600 (Departs (data_segment 250001 1011 65535 []))
    ∷ At 1600 (Arrives (data_segment 1001 250001 1000 (octets 0 10)))
    ∷ At 1500 (Departs (syn_ack 250000 1001 65535))
    ∷ At 1500 Connected ∷ At 1000 (Connects 250000 (syn 1000 65535)) ∷ []

large_plain_lawful : IsTrue (is_lawful large large_plain)
large_plain_lawful = refl

large_plain_settled : IsTrue (is_settled large large_plain true false 1600)
large_plain_settled = refl

large_plain_tells : IsTrue (is_dutiful large large_plain)
large_plain_tells = refl

-- a shift over 14 counts as 14
far_shift : edge large (At 1600 (Arrives (data_segment 1001 250001 1 []))
    ∷ At 1500 (Departs (syn_ack_with (Some 5) 250000 1001 65535)) ∷ At 1500 Connected ∷ At 1000 (Connects 250000 (syn_with (Some 200) 1000 65535)) ∷ []) ≡ 16384
far_shift = refl

-- ---- an accepted flow: our SYN offers the option, and the field of the guest's SYN-ACK isn't shifted

abbrev pub large_accepted : Story
large_accepted =
    At 2300 (Departs (data_segment 500001 71 32768 []))
    ∷ At 2300 (Arrives (syn_ack_with (Some 2) 70 500001 1000))
    ∷ At 2200 (Departs (syn_with (Some 5) 500000 65535))
    ∷ At 2000 (Accepts 500000) ∷ []

large_accepted_lawful : IsTrue (is_lawful large large_accepted)
large_accepted_lawful = refl

large_accepted_tells : IsTrue (is_dutiful large large_accepted)
large_accepted_tells = refl

large_accepted_edge : edge large large_accepted ≡ 1000
large_accepted_edge = refl

-- ---- a program that doesn't scale windows, and a guest that does

abbrev pub small : Settings
small = record { ring = 65535; mru = 1500; mtu = 1500; scales = false; congestion = false }

abbrev pub small_ten : Story
small_ten =
    At 1600 (Departs (data_segment 250001 1011 65525 []))
    ∷ At 1600 (Arrives (data_segment 1001 250001 1000 (octets 0 10)))
    ∷ At 1500 (Departs (syn_ack 250000 1001 65535))
    ∷ large_asked

small_ten_lawful : IsTrue (is_lawful small small_ten)
small_ten_lawful = refl

small_ten_dutiful : IsTrue (is_dutiful small small_ten)
small_ten_dutiful = refl

-- the guest's window isn't scaled either
small_ten_edge : edge small small_ten ≡ 1000
small_ten_edge = refl

abbrev pub small_accepted : Story
small_accepted =
    At 2300 (Departs (data_segment 500001 71 65535 []))
    ∷ At 2300 (Arrives (syn_ack_with (Some 2) 70 500001 1000))
    ∷ At 2200 (Departs (syn 500000 65535))
    ∷ At 2000 (Accepts 500000) ∷ []

small_accepted_lawful : IsTrue (is_lawful small small_accepted)
small_accepted_lawful = refl
