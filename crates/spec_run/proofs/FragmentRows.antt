-- Runs with datagrams in fragments written out: those that are lawful, and those that break one sentence each.
use Rattle.std.proofs.Common.{◌≡◌, ℕ, true, List, [], ◌∷◌, ◌++◌, length, None, refl, ap, arith}
use Rattle.poll_list.specs.declared.Who.TheVariants.{Link}
use Rattle.world_face.specs.declared.Io.TheVariants.{Done}
use Rattle.world_face.specs.declared.Made.TheVariants.{Done as MadeDone}
use Rattle.world_face.specs.declared.Sent.TheVariants.{Done as SentDone}
use Rattle.world_face.specs.declared.Waited.TheVariants.{Ready, Stop}
use Rattle.world_face.specs.Journal.{Call, Entry, Now, Wait, LinkWrite, UdpOpen, UdpSend, CallLinkWrite, CallUdpOpen, CallUdpSend, CallWait}
use Rattle.world_face.specs.Frames.{encoding, missing, is_too_long, encoded_length}
use Rattle.slirp_settings.specs.Settings.{usual}
use Rattle.host_policy.specs.Targets.{anywhere}
use Rattle.spec_run.specs.Check.{may}
use Rattle.spec_run.specs.Laws.{Lawful, May}
use Rattle.spec_run.proofs.Checks.{is_sound}
use Rattle.spec_run.proofs.Rows.{comes, hex, reading, run}
use Rattle.spec_run.proofs.UdpRows.{begins, target_of_row}

-- 16 octets from port 4000 of a guest to the target, in two parts, and a part that has some of the first one's octets
abbrev payload : List ℕ
payload = hex "4142434445464748494a4b4c4d4e4f50"

abbrev first : List ℕ
first = hex "52550a0002025254001234560800450000240007200040118cac0a00020fc00002070fa000090018dfb44142434445464748"

abbrev second : List ℕ
second = hex "52550a00020252540012345608004500001c000700024011acb20a00020fc0000207494a4b4c4d4e4f50"

abbrev between : List ℕ
between = hex "52550a00020252540012345608004500001c0007200140118cb30a00020fc00002074142434445464748"

-- a frame comes at this moment
abbrev at_moment : ℕ → List ℕ → List Entry
at_moment moment frame = Wait (reading Link ∷ []) None Ready (reading Link ∷ []) ∷ Now moment ∷ comes frame

abbrev one_waits : List Entry
one_waits = begins ++ comes first

-- one part alone asks for nothing
one_waits_may : may usual (run one_waits) (CallWait (reading Link ∷ []) None) ≡ true
unfolding missing encoding is_too_long encoded_length
one_waits_may = refl

one_sends_nothing : May usual (run one_waits) (CallUdpOpen 0 anywhere) → ⊥
unfolding missing encoding is_too_long encoded_length
one_sends_nothing = λ may. cc (may.place)

-- the other makes the datagram whole, and it goes out, in either order
abbrev in_order : List Entry
in_order = run (one_waits ++ at_moment 6 second ++ UdpOpen 0 anywhere MadeDone ∷ UdpSend 0 target_of_row payload SentDone ∷ [])

in_order_lawful : Lawful usual in_order
unfolding missing encoding is_too_long encoded_length
in_order_lawful = is_sound usual in_order refl

abbrev turned : List Entry
turned = run (begins ++ comes second ++ at_moment 6 first ++ UdpOpen 0 anywhere MadeDone ∷ UdpSend 0 target_of_row payload SentDone ∷ [])

turned_lawful : Lawful usual turned
unfolding missing encoding is_too_long encoded_length
turned_lawful = is_sound usual turned refl

-- what goes out is the whole
abbrev size_of : Call → ℕ
size_of (CallUdpSend socket to octets) = length octets
size_of _ = 0

other_size : (n : ℕ) → n ≡ 8 → n ≡ 16 → ⊥
other_size n is was = omega (arith, is, was)

one_part_goes_out : May usual (run (one_waits ++ at_moment 6 second ++ UdpOpen 0 anywhere MadeDone ∷ [])) (CallUdpSend 0 target_of_row (hex "494a4b4c4d4e4f50")) → ⊥
unfolding missing encoding is_too_long encoded_length
one_part_goes_out = λ may. other_size 8 refl (ap size_of may.due)

-- a part waits less than 60,000 milliseconds for the others
just_in_time : may usual (run (one_waits ++ at_moment 60004 second)) (CallUdpOpen 0 anywhere) ≡ true
unfolding missing encoding is_too_long encoded_length
just_in_time = refl

too_late : may usual (run (one_waits ++ at_moment 60005 second)) (CallWait (reading Link ∷ []) None) ≡ true
unfolding missing encoding is_too_long encoded_length
too_late = refl

late_goes_out : May usual (run (one_waits ++ at_moment 60005 second)) (CallUdpOpen 0 anywhere) → ⊥
unfolding missing encoding is_too_long encoded_length
late_goes_out = λ may. cc (may.place)

-- parts that share octets are dropped with their set (RFC 5722, 3)
overlapped : may usual (run (one_waits ++ at_moment 6 between ++ at_moment 7 second)) (CallWait (reading Link ∷ []) None) ≡ true
unfolding missing encoding is_too_long encoded_length
overlapped = refl

overlapped_goes_out : May usual (run (one_waits ++ at_moment 6 between ++ at_moment 7 second)) (CallUdpOpen 0 anywhere) → ⊥
unfolding missing encoding is_too_long encoded_length
overlapped_goes_out = λ may. cc (may.place)

-- 16 octets to 127.0.0.1 in two parts, the later one first, whose headers differ in options, service, time to live and flags; what the guest is told quotes the
-- header of the part at the start, made whole
abbrev later_of_denied : List ℕ
later_of_denied = hex "52550a00020252540012345608004500001c00080002091126b80a00020f7f000001494a4b4c4d4e4f50"

abbrev first_of_denied : List ℕ
first_of_denied = hex "52550a000202525400123456080046100028000860000311c99c0a00020f7f000001010101000fa00009001822bb4142434445464748"

abbrev denied : List Entry
denied = begins ++ comes later_of_denied ++ at_moment 6 first_of_denied

abbrev told : List Entry
told = run (denied ++ LinkWrite (hex "0000004a52540012345652550a00020208004500003c00000000400162b10a0002020a00020f030aca790000000046100030000840000311e9940a00020f7f000001010101000fa00009001822bb") (Done 78) ∷ Wait (reading Link ∷ []) None Stop [] ∷ [])

told_lawful : Lawful usual told
unfolding missing encoding is_too_long encoded_length
told_lawful = is_sound usual told refl

quotes_the_part_that_came_first : May usual (run denied) (CallLinkWrite
    (hex "0000004652540012345652550a00020208004500003800000000400162b50a0002020a00020f030aca79000000004500002c00080000091126aa0a00020f7f0000010fa00009001822bb")) → ⊥
unfolding missing encoding is_too_long encoded_length
quotes_the_part_that_came_first = λ may. cc (may.answered)
