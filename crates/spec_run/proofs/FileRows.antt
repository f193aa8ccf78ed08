-- Runs with files written out: those that are lawful, and those that break one sentence each.
use Rattle.std.proofs.Common.{◌≡◌, ℕ, ◌+◌, ◌%◌, zero, suc, Bool, true, false, List, [], ◌∷◌, ◌++◌, Some, None, refl, sym, ◌∙◌, ap, arith}
use Rattle.poll_list.specs.declared.Who.TheVariants.{Link}
use Rattle.world_face.specs.declared.Io.TheVariants.{Done, NotYet, End}
use Rattle.world_face.specs.declared.FileSize.TheVariants.{Length, Missing}
use Rattle.world_face.specs.declared.Waited.TheVariants.{Ready, Stop}
use Rattle.world_face.specs.Journal.{Entry, Call, Now, Wait, LinkWrite, FileLen, FileRead, CallWait, CallLinkWrite, CallFileLen, CallFileRead}
use Rattle.world_face.specs.Frames.{encoding, missing, is_too_long, encoded_length}
use Rattle.slirp_settings.specs.Addresses.{Config}
use Rattle.slirp_settings.specs.Settings.{usual}
use Rattle.spec_run.specs.Laws.{Finished, Lawful, May}
use Rattle.spec_run.proofs.Checks.{is_sound}
use Rattle.spec_run.proofs.Rows.{hex, reading, writing, comes, run}
use Rattle.std.specs.Prelude.{codes, bytes_eq}
use Rattle.std.specs.Fmt.{digits}
use Rattle.spec_run.proofs.FileTurns.{same_octets}

-- a test that is passed doesn't fail
not_so : {b : Bool} → b ≡ true → b ≡ false → ⊥
not_so {b} is other = let never : true ≡ false = sym is ∙ other in cc

-- a folder is served
abbrev pub with_files : Config
with_files = record usual { tftp_path = Some (codes "srv") }

abbrev begins : List Entry
begins = Now 0 ∷ Wait (reading Link ∷ []) None Ready (reading Link ∷ []) ∷ Now 5 ∷ []

-- a turn in which the link is read, or nothing was reported
abbrev turn : ℕ → List Entry
turn moment = Wait (reading Link ∷ []) (Some 5000) Ready (reading Link ∷ []) ∷ Now moment ∷ []

abbrev idle : ℕ → List Entry
idle moment = Wait (reading Link ∷ []) (Some 5000) Ready [] ∷ Now moment ∷ []

abbrev stop : List Entry
stop = Wait (reading Link ∷ []) None Stop [] ∷ []

-- octets of a file whose octet i is i modulo 251
abbrev octets_from : ℕ → ℕ → List ℕ
octets_from place zero = []
octets_from place (suc count) = (place % 251) ∷ octets_from (place + 1) count

-- a read request for boot.img; its file, by the name of the folder; the first block, the second, and an empty third one, each with its length; and their acknowledgements
abbrev pub asks : List ℕ
asks = hex "52550a00020252540012345608004500002d00010000401162af0a00020f0a00020207d000450019a8890001626f6f742e696d67006f6374657400"

abbrev pub file : List ℕ
file = codes "srv/boot.img"

abbrev pub first_block : List ℕ
first_block = hex "0000022e52540012345652550a00020208004500022000000000401160bd0a0002020a00020f004507d0020cbd8900030001" ++ octets_from 0 512

abbrev pub second_block : List ℕ
second_block = hex "0000022e52540012345652550a00020208004500022000010000401160bc0a0002020a00020f004507d0020c8b5600030002" ++ octets_from 512 512

abbrev pub last_block : List ℕ
last_block = hex "0000002e52540012345652550a00020208004500002000020000401162bb0a0002020a00020f004507d0000cdfaa00030003"

abbrev pub first_ack : List ℕ
first_ack = hex "52550a00020252540012345608004500002000010000401162bc0a00020f0a00020207d00045000cdfab00040001"

abbrev pub second_ack : List ℕ
second_ack = hex "52550a00020252540012345608004500002000010000401162bc0a00020f0a00020207d00045000cdfaa00040002"

abbrev pub last_ack : List ℕ
last_ack = hex "52550a00020252540012345608004500002000010000401162bc0a00020f0a00020207d00045000cdfa900040003"

-- a file of 1,024 octets goes in three blocks, each after the acknowledgement of the one before
abbrev first_sent : List Entry
first_sent = begins ++ comes asks ++ FileLen file (Length 1024) ∷ FileRead file 0 512 (Done 512) (octets_from 0 512) ∷ LinkWrite first_block (Done 562) ∷ []

abbrev second_read : List Entry
second_read = first_sent ++ turn 6 ++ comes first_ack ++ FileRead file 512 512 (Done 512) (octets_from 512 512) ∷ []

abbrev second_sent : List Entry
second_sent = second_read ++ LinkWrite second_block (Done 562) ∷ []

abbrev goes_whole : List Entry
goes_whole = run (second_sent ++ turn 7 ++ comes second_ack ++ LinkWrite last_block (Done 50) ∷ [] ++ turn 8 ++ comes last_ack ++ stop)

goes_whole_lawful : Lawful with_files goes_whole
unfolding missing encoding is_too_long encoded_length digits
goes_whole_lawful = is_sound with_files goes_whole refl

goes_whole_finished : Finished with_files goes_whole
unfolding missing encoding is_too_long encoded_length digits
goes_whole_finished = record { ended = refl; none_due = refl; closed = refl }

-- with an option that is answered, and a block of 1,024 octets
abbrev pub asks_more : List ℕ
asks_more = hex "52550a00020252540012345608004500003a00010000401162a20a00020f0a00020207d000450026e16b0001626f6f742e696d67006f6374657400626c6b73697a65003134363800"

abbrev pub more_answered : List ℕ
more_answered = hex "0000003952540012345652550a00020208004500002b00000000401162b20a0002020a00020f004507d00017dbcd0006626c6b73697a65003134363800"

abbrev pub more_ack : List ℕ
more_ack = hex "52550a00020252540012345608004500002000010000401162bc0a00020f0a00020207d00045000cdfac00040000"

abbrev pub whole_block : List ℕ
whole_block = hex "0000042e52540012345652550a0002020800450004200001000040115ebc0a0002020a00020f004507d0040c693400030001" ++ octets_from 0 1024

abbrev goes_at_once : List Entry
goes_at_once =
    run (begins ++ comes asks_more ++ FileLen file (Length 1024) ∷ LinkWrite more_answered (Done 61) ∷ [] ++ turn 6
    ++ comes more_ack ++ FileRead file 0 1024 (Done 1024) (octets_from 0 1024) ∷ LinkWrite whole_block (Done 1074) ∷ [] ++ turn 7 ++ comes first_ack ++ stop)

goes_at_once_lawful : Lawful with_files goes_at_once
unfolding missing encoding is_too_long encoded_length digits
goes_at_once_lawful = is_sound with_files goes_at_once refl

goes_at_once_finished : Finished with_files goes_at_once
unfolding missing encoding is_too_long encoded_length digits
goes_at_once_finished = record { ended = refl; none_due = refl; closed = refl }

-- a name that leaves the folder, and a file that isn't there; each is answered by an error
abbrev pub asks_above : List ℕ
asks_above = hex "52550a00020252540012345608004500002900010000401162b30a00020f0a00020207d000450015b89f00012e2e2f78006f6374657400"

abbrev pub violation : List ℕ
violation = hex "0000002f52540012345652550a00020208004500002100000000401162bc0a0002020a00020f004507d0000ddfa70005000200"

abbrev pub asks_none : List ℕ
asks_none = hex "52550a00020252540012345608004500002900010000401162b30a00020f0a00020207d000450015397100016e6f6e65006f6374657400"

abbrev pub not_found : List ℕ
not_found = hex "0000002f52540012345652550a00020208004500002100010000401162bb0a0002020a00020f004507d0000ddfa80005000100"

abbrev refuses : List Entry
refuses = run (begins ++ comes asks_above ++ LinkWrite violation (Done 51) ∷ [] ++ turn 6 ++ comes asks_none ++ FileLen (codes "srv/none") Missing ∷ LinkWrite not_found (Done 51) ∷ [] ++ stop)

refuses_lawful : Lawful with_files refuses
unfolding missing encoding is_too_long encoded_length digits
refuses_lawful = is_sound with_files refuses refl

refuses_finished : Finished with_files refuses
unfolding missing encoding is_too_long encoded_length digits
refuses_finished = record { ended = refl; none_due = refl; closed = refl }

-- a block of 7 octets is too small; options are answered in the order asked, in small letters
abbrev pub asks_for_7 : List ℕ
asks_for_7 = hex "52550a00020252540012345608004500003000010000401162ac0a00020f0a00020207d00045001c4e6b000166006f6374657400626c6b73697a65003700"

abbrev pub bad_option : List ℕ
bad_option = hex "0000002f52540012345652550a00020208004500002100000000401162bc0a0002020a00020f004507d0000ddfa10005000800"

abbrev pub asks_for_much : List ℕ
asks_for_much = hex "52550a00020252540012345608004500003c00010000401162a00a00020f0a00020207d000450028f459000166006f6374657400424c4b53495a45003635343634007473697a65003000"

abbrev pub much_answered : List ℕ
much_answered = hex "0000004252540012345652550a00020208004500003400010000401162a80a0002020a00020f004507d00020bd470006626c6b73697a650031343638007473697a6500313000"

abbrev answers_options : List Entry
answers_options =
    run (begins ++ comes asks_for_7 ++ FileLen (codes "srv/f") (Length 10) ∷ LinkWrite bad_option (Done 51) ∷ [] ++ turn 6
    ++ comes asks_for_much ++ FileLen (codes "srv/f") (Length 10) ∷ LinkWrite much_answered (Done 70) ∷ [] ++ stop)

answers_options_lawful : Lawful with_files answers_options
unfolding missing encoding is_too_long encoded_length digits
answers_options_lawful = is_sound with_files answers_options refl

answers_options_finished : Finished with_files answers_options
unfolding missing encoding is_too_long encoded_length digits
answers_options_finished = record { ended = refl; none_due = refl; closed = refl }

-- a file of three octets, and its block as it goes out each time
abbrev pub asks_for_three : List ℕ
asks_for_three = hex "52550a00020252540012345608004500002600010000401162b60a00020f0a00020207d00045001221da000166006f6374657400"

abbrev pub sent_first : List ℕ
sent_first = hex "0000003152540012345652550a00020208004500002300000000401162ba0a0002020a00020f004507d0000f1b4400030001616263"

abbrev pub sent_second : List ℕ
sent_second = hex "0000003152540012345652550a00020208004500002300010000401162b90a0002020a00020f004507d0000f1b4400030001616263"

abbrev pub sent_third : List ℕ
sent_third = hex "0000003152540012345652550a00020208004500002300020000401162b80a0002020a00020f004507d0000f1b4400030001616263"

abbrev pub sent_fourth : List ℕ
sent_fourth = hex "0000003152540012345652550a00020208004500002300030000401162b70a0002020a00020f004507d0000f1b4400030001616263"

abbrev pub sent_fifth : List ℕ
sent_fifth = hex "0000003152540012345652550a00020208004500002300040000401162b60a0002020a00020f004507d0000f1b4400030001616263"

abbrev pub sent_sixth : List ℕ
sent_sixth = hex "0000003152540012345652550a00020208004500002300050000401162b50a0002020a00020f004507d0000f1b4400030001616263"

abbrev three_sent : List Entry
three_sent = begins ++ comes asks_for_three ++ FileLen (codes "srv/f") (Length 3) ∷ FileRead (codes "srv/f") 0 3 (Done 3) (hex "616263") ∷ LinkWrite sent_first (Done 53) ∷ []

-- it goes again after 5, 10, 15, 20 and 25 seconds, and then no more
abbrev five_again : List Entry
five_again =
    three_sent ++ idle 5005 ++ LinkWrite sent_second (Done 53) ∷ [] ++ idle 10005 ++ LinkWrite sent_third (Done 53) ∷ [] ++ idle 15005 ++ LinkWrite sent_fourth (Done 53) ∷ []
    ++ idle 20005 ++ LinkWrite sent_fifth (Done 53) ∷ [] ++ idle 25005 ++ LinkWrite sent_sixth (Done 53) ∷ []

abbrev gives_up : List Entry
gives_up = run (five_again ++ idle 30005 ++ stop)

gives_up_lawful : Lawful with_files gives_up
unfolding missing encoding is_too_long encoded_length digits
gives_up_lawful = is_sound with_files gives_up refl

gives_up_finished : Finished with_files gives_up
unfolding missing encoding is_too_long encoded_length digits
gives_up_finished = record { ended = refl; none_due = refl; closed = refl }

abbrev sent_seventh : List ℕ
sent_seventh = hex "0000003152540012345652550a00020208004500002300060000401162b40a0002020a00020f004507d0000f1b4400030001616263"

sixth_time : May with_files (run (five_again ++ idle 30005)) (CallLinkWrite sent_seventh) → ⊥
unfolding missing encoding is_too_long encoded_length digits
sixth_time = λ may. not_so may.answered refl

too_soon : May with_files (run (three_sent ++ idle 5004)) (CallLinkWrite sent_second) → ⊥
unfolding missing encoding is_too_long encoded_length digits
too_soon = λ may. not_so may.answered refl

twice_for_one_timeout : May with_files (run (three_sent ++ idle 5005 ++ LinkWrite sent_second (Done 53) ∷ [] ++ idle 5006)) (CallLinkWrite sent_third) → ⊥
unfolding missing encoding is_too_long encoded_length digits
twice_for_one_timeout = λ may. not_so may.answered refl

-- while the link takes nothing it is due once: it goes when the link is ready, and its time runs from the turn in which it was due
abbrev blocked_at : ℕ → List Entry
blocked_at moment = three_sent ++ idle 5005 ++ LinkWrite sent_second NotYet ∷ Wait (writing Link ∷ []) (Some 5000) Ready (writing Link ∷ []) ∷ Now moment ∷ []

abbrev goes_late : List Entry
goes_late = run (blocked_at 9000 ++ LinkWrite sent_second (Done 53) ∷ [] ++ idle 10005 ++ LinkWrite sent_third (Done 53) ∷ [])

goes_late_lawful : Lawful with_files goes_late
unfolding missing encoding is_too_long encoded_length digits
goes_late_lawful = is_sound with_files goes_late refl

-- the same acknowledgement again brings nothing
abbrev acknowledged_twice : List Entry
acknowledged_twice = second_sent ++ turn 7 ++ comes first_ack

abbrev goes_once : List Entry
goes_once = run (acknowledged_twice ++ stop)

goes_once_lawful : Lawful with_files goes_once
unfolding missing encoding is_too_long encoded_length digits
goes_once_lawful = is_sound with_files goes_once refl

goes_once_finished : Finished with_files goes_once
unfolding missing encoding is_too_long encoded_length digits
goes_once_finished = record { ended = refl; none_due = refl; closed = refl }

read_twice : May with_files (run acknowledged_twice) (CallFileRead file 1024 0) → ⊥
unfolding missing encoding is_too_long encoded_length digits
read_twice = λ may. not_so may.place refl

-- a file that ends in its second block: an error, and the transfer is gone
abbrev pub failure : List ℕ
failure = hex "0000002f52540012345652550a00020208004500002100010000401162bb0a0002020a00020f004507d0000ddfa90005000000"

abbrev ended : List Entry
ended = first_sent ++ turn 6 ++ comes first_ack ++ FileRead file 512 512 (Done 88) (octets_from 512 88) ∷ FileRead file 600 424 End [] ∷ LinkWrite failure (Done 51) ∷ []

abbrev ends_early : List Entry
ends_early = run (ended ++ turn 7 ++ comes first_ack ++ stop)

ends_early_lawful : Lawful with_files ends_early
unfolding missing encoding is_too_long encoded_length digits
ends_early_lawful = is_sound with_files ends_early refl

ends_early_finished : Finished with_files ends_early
unfolding missing encoding is_too_long encoded_length digits
ends_early_finished = record { ended = refl; none_due = refl; closed = refl }

-- What may not come: the length of a file above the folder, or of one with another name; the octets before the length, of another place, or fewer;
above : May with_files (run (begins ++ comes asks_above)) (CallFileLen (codes "srv/../x")) → ⊥
unfolding missing encoding is_too_long encoded_length digits
above = λ may. not_so may.place refl

abbrev asked : List Entry
asked = begins ++ comes asks

abbrev measured : List Entry
measured = asked ++ FileLen file (Length 1024) ∷ []

abbrev name_of : Call → List ℕ
name_of (CallFileLen name) = name
name_of _ = []

differ : {xs ys : List ℕ} → xs ≡ ys → bytes_eq xs ys ≡ false → ⊥
differ {xs} {ys} is other = not_so (ap (bytes_eq xs) (sym is) ∙ same_octets xs) other

other_name : May with_files (run asked) (CallFileLen (codes "srv/boot.imh")) → ⊥
unfolding missing encoding is_too_long encoded_length digits
other_name = λ may. differ {xs = codes "srv/boot.imh"} {ys = file} (ap name_of may.due) refl

unmeasured : May with_files (run asked) (CallFileRead file 0 512) → ⊥
unfolding missing encoding is_too_long encoded_length digits
unmeasured = λ may. cc (may.due)

abbrev place_of : Call → ℕ
place_of (CallFileRead name place count) = place
place_of _ = 0

abbrev asked_of : Call → ℕ
asked_of (CallFileRead name place count) = count
asked_of _ = 0

no_512 : ◌≡◌ {A = ℕ} 512 0 → ⊥
no_512 is = omega (arith, is)

no_511 : ◌≡◌ {A = ℕ} 511 512 → ⊥
no_511 is = omega (arith, is)

other_place : May with_files (run measured) (CallFileRead file 512 512) → ⊥
unfolding missing encoding is_too_long encoded_length digits
other_place = λ may. no_512 (ap place_of may.due)

fewer : May with_files (run measured) (CallFileRead file 0 511) → ⊥
unfolding missing encoding is_too_long encoded_length digits
fewer = λ may. no_511 (ap asked_of may.due)

-- a wait before the block was read; the second block before the acknowledgement; other octets than the file's; the length again
waits_first : May with_files (run measured) (CallWait (reading Link ∷ []) None) → ⊥
unfolding missing encoding is_too_long encoded_length digits
waits_first = λ may. cc (may.due)

ahead : May with_files (run first_sent) (CallLinkWrite second_block) → ⊥
unfolding missing encoding is_too_long encoded_length digits
ahead = λ may. not_so may.answered refl

ahead_read : May with_files (run first_sent) (CallFileRead file 512 512) → ⊥
unfolding missing encoding is_too_long encoded_length digits
ahead_read = λ may. not_so may.place refl

other_octets : May with_files (run second_read) (CallLinkWrite (hex "0000022e52540012345652550a00020208004500022000010000401160bc0a0002020a00020f004507d0020c8b5600030002" ++ octets_from 511 512)) → ⊥
unfolding missing encoding is_too_long encoded_length digits
other_octets = λ may. not_so may.answered refl

no_length : ◌≡◌ {A = ℕ} 0 512 → ⊥
no_length is = omega (arith, is)

length_again : May with_files (run (first_sent ++ turn 6 ++ comes first_ack)) (CallFileLen file) → ⊥
unfolding missing encoding is_too_long encoded_length digits
length_again = λ may. no_length (ap asked_of may.due)

no_folder : May usual (run asked) (CallFileLen file) → ⊥
unfolding missing encoding is_too_long encoded_length digits
no_folder = λ may. not_so may.place refl

-- ---- a packet in three frames that goes again, each time in its order

abbrev pub narrow : Config
narrow = record with_files { mtu = 576 }

-- the block of 1,468 octets, as it goes out first and again
abbrev pub first_part : List ℕ
first_part = hex "0000024a52540012345652550a00020208004500023c00012000401140a00a0002020a00020f004507d005c8ec5f00030001" ++ octets_from 0 540

abbrev pub second_part : List ℕ
second_part = hex "0000024a52540012345652550a00020208004500023c000120454011405b0a0002020a00020f" ++ octets_from 540 552

abbrev pub third_part : List ℕ
third_part = hex "0000019a52540012345652550a00020208004500018c0001008a401160c60a0002020a00020f" ++ octets_from 1092 376

abbrev pub first_again : List ℕ
first_again = hex "0000024a52540012345652550a00020208004500023c000220004011409f0a0002020a00020f004507d005c8ec5f00030001" ++ octets_from 0 540

abbrev pub second_again : List ℕ
second_again = hex "0000024a52540012345652550a00020208004500023c000220454011405a0a0002020a00020f" ++ octets_from 540 552

abbrev pub third_again : List ℕ
third_again = hex "0000019a52540012345652550a00020208004500018c0002008a401160c50a0002020a00020f" ++ octets_from 1092 376

abbrev in_parts : List Entry
in_parts =
    begins ++ comes asks_more ++ FileLen file (Length 2000) ∷ LinkWrite more_answered (Done 61) ∷ [] ++ turn 6 ++ comes more_ack
    ++ FileRead file 0 1468 (Done 1468) (octets_from 0 1468) ∷ LinkWrite first_part (Done 590) ∷ LinkWrite second_part (Done 590) ∷ LinkWrite third_part (Done 414) ∷ []

abbrev parts_again : List Entry
parts_again = in_parts ++ idle 5006 ++ LinkWrite first_again (Done 590) ∷ []

abbrev goes_in_parts : List Entry
goes_in_parts = run (parts_again ++ LinkWrite second_again (Done 590) ∷ LinkWrite third_again (Done 414) ∷ [] ++ stop)

goes_in_parts_lawful : Lawful narrow goes_in_parts
unfolding missing encoding is_too_long encoded_length digits
goes_in_parts_lawful = is_sound narrow goes_in_parts refl

second_first : May narrow (run (in_parts ++ idle 5006)) (CallLinkWrite second_again) → ⊥
unfolding missing encoding is_too_long encoded_length digits
second_first = λ may. not_so may.answered refl

third_next : May narrow (run parts_again) (CallLinkWrite third_again) → ⊥
unfolding missing encoding is_too_long encoded_length digits
third_next = λ may. not_so may.answered refl

-- ---- two transfers whose packets are due at once: that of the longest unused goes first

abbrev pub asks_beside : List ℕ
asks_beside = hex "52550a00020252540012345608004500002600010000401162b60a00020f0a00020207d10045001221d9000166006f6374657400"

abbrev pub beside_second : List ℕ
beside_second = hex "0000003152540012345652550a00020208004500002300010000401162b90a0002020a00020f004507d1000f1b4300030001616263"

abbrev pub beside_third : List ℕ
beside_third = hex "0000003152540012345652550a00020208004500002300020000401162b80a0002020a00020f004507d1000f1b4300030001616263"

abbrev pub beside_fourth : List ℕ
beside_fourth = hex "0000003152540012345652550a00020208004500002300030000401162b70a0002020a00020f004507d1000f1b4300030001616263"

abbrev two_sent : List Entry
two_sent = three_sent ++ turn 6 ++ comes asks_beside ++ FileLen (codes "srv/f") (Length 3) ∷ FileRead (codes "srv/f") 0 3 (Done 3) (hex "616263") ∷ LinkWrite beside_second (Done 53) ∷ []

abbrev both_go : List Entry
both_go = run (two_sent ++ idle 5006 ++ LinkWrite sent_third (Done 53) ∷ LinkWrite beside_fourth (Done 53) ∷ [] ++ stop)

both_go_lawful : Lawful with_files both_go
unfolding missing encoding is_too_long encoded_length digits
both_go_lawful = is_sound with_files both_go refl

beside_goes_first : May with_files (run (two_sent ++ idle 5006)) (CallLinkWrite beside_third) → ⊥
unfolding missing encoding is_too_long encoded_length digits
beside_goes_first = λ may. not_so may.answered refl
