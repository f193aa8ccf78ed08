-- Runs written out that do what they must.
use Rattle.std.proofs.Common.{true, false, List, [], ◌∷◌, ◌++◌, Some, None, codes, refl}
use Rattle.std.specs.Fmt.{digits}
use Rattle.poll_list.specs.declared.Who.TheVariants.{Link, Tcp, Udp}
use Rattle.world_face.specs.declared.Io.TheVariants.{Done, NotYet}
use Rattle.world_face.specs.declared.Made.TheVariants.{Done as MadeDone}
use Rattle.world_face.specs.declared.Joined.TheVariants.{Yes}
use Rattle.world_face.specs.declared.Sent.TheVariants.{Done as SentDone}
use Rattle.world_face.specs.declared.Got.TheVariants.{From}
use Rattle.world_face.specs.declared.FileSize.TheVariants.{Length}
use Rattle.world_face.specs.declared.Waited.TheVariants.{Ready, Stop}
use Rattle.world_face.specs.Journal.{Entry, Now, Wait, LinkRead, LinkWrite, Connected, TcpRead, TcpWrite, TcpEnd, Close, UdpOpen, UdpSend, UdpRecv, FileLen, FileRead}
use Rattle.world_face.specs.Frames.{encoding, missing, is_too_long, encoded_length}
use Rattle.tlv_table.specs.Reading.{read_on}
use Rattle.slirp_settings.specs.Addresses.{Config, endpoint}
use Rattle.slirp_settings.specs.Settings.{usual}
use Rattle.spec_flows.proofs.Writing.{hex, run, want}
use Rattle.spec_flows.proofs.Openings.{asked, called, opened, ten_came}
use Rattle.spec_flows.proofs.TcpGivesUp.{given_up}
use Rattle.spec_flows.proofs.TcpRows.{late, unconnected}
use Rattle.spec_run.specs.Laws.{Lawful}
use Rattle.spec_run.proofs.Checks.{is_sound as is_lawful}
use Rattle.spec_duties.specs.Duties.{Dutiful}
use Rattle.spec_duties.proofs.Checks.{is_sound}

-- a ring of twenty octets
abbrev pub narrow : Config
narrow = record usual { ring = 20 }

-- A guest's datagram goes out on a new socket, and what a peer says on it comes back.
abbrev pub asked_and_answered : List Entry
asked_and_answered =
    Now 0
    ∷ Wait (want Link true false ∷ []) None Ready (want Link true false ∷ [])
    ∷ Now 5
    ∷ LinkRead 4 (Done 4) (hex "0000002c")
    ∷ LinkRead 44 (Done 44) (hex "52550a00020252540012345608004500001e000100004011acb80a00020fc00002070fa00009000a00006869")
    ∷ UdpOpen 0 (endpoint 0 0) MadeDone
    ∷ UdpSend 0 (endpoint 3221225991 9) (hex "6869") SentDone
    ∷ Wait (want Link true false ∷ want (Udp 0) true false ∷ []) (Some 240000) Ready (want (Udp 0) true false ∷ [])
    ∷ Now 20
    ∷ UdpRecv 0 65507 (From (endpoint 3325256705 7) 2) (hex "6f6b")
    ∷ LinkWrite (hex "0000002c52540012345652550a00020208004500001e000000004011448cc63364010a00020f00070fa0000a4a846f6b") (Done 48)
    ∷ Wait (want Link true false ∷ want (Udp 0) true false ∷ []) (Some 240000) Stop []
    ∷ Close 0
    ∷ []

asked_and_answered_dutiful : Dutiful usual (run asked_and_answered)
unfolding missing encoding is_too_long encoded_length read_on
asked_and_answered_dutiful = is_sound usual (run asked_and_answered) refl

-- A host connects at the second question; then the SYN-ACK is out, and goes out again within a second.
late_dutiful : Dutiful usual (run late)
unfolding missing encoding is_too_long encoded_length read_on
late_dutiful = is_sound usual (run late) refl

-- A connection fails: the guest gets its reset, and nothing is waited for any more.
unconnected_dutiful : Dutiful usual (run unconnected)
unfolding missing encoding is_too_long encoded_length read_on
unconnected_dutiful = is_sound usual (run unconnected) refl

-- A host does not connect: after 75,000 milliseconds the flow is given up.
abbrev pub connects_never : List Entry
connects_never =
    asked
    ++ Wait (want Link true false ∷ want (Tcp 0) false true ∷ []) (Some 75000) Ready []
    ∷ Now 75999
    ∷ Wait (want Link true false ∷ want (Tcp 0) false true ∷ []) (Some 1) Ready []
    ∷ Now 76000
    ∷ Close 0
    ∷ LinkWrite (hex "0000003652540012345652550a000202080045000028000000004006acbac00002070a00020f00500fa000000000000003e950140000cde10000") (Done 58)
    ∷ Wait (want Link true false ∷ []) None Stop []
    ∷ []

connects_never_dutiful : Dutiful usual (run connects_never)
unfolding missing encoding is_too_long encoded_length read_on
connects_never_dutiful = is_sound usual (run connects_never) refl

-- Twenty octets with the end fill the ring; the host takes twelve, and then the others and the end.
abbrev pub full_ring : List Entry
full_ring =
    called
    ++ Now 1010
    ∷ Connected 0 Yes
    ∷ LinkWrite (hex "0000003a52540012345652550a00020208004500002c000000004006acb6c00002070a00020f00500fa00003d090000003e960120014e57f0000020405b4") (Done 62)
    ∷ Wait (want Link true false ∷ want (Tcp 0) true false ∷ []) (Some 1000) Ready (want Link true false ∷ [])
    ∷ Now 1020
    ∷ ten_came
    ++ LinkWrite (hex "0000003652540012345652550a000202080045000028000100004006acb9c00002070a00020f00500fa00003d091000003f35010000afd3c0000") (Done 58)
    ∷ Wait (want Link true false ∷ want (Tcp 0) true true ∷ []) None Ready (want Link true false ∷ [])
    ∷ Now 1021
    ∷ LinkRead 4 (Done 4) (hex "00000040")
    ∷ LinkRead 64 (Done 64) (hex "52550a000202525400123456080045000032000900004006aca70a00020fc00002070fa00050000003f30003d0915011ffffb6f000000a0b0c0d0e0f10111213")
    ∷ LinkWrite (hex "0000003652540012345652550a000202080045000028000200004006acb8c00002070a00020f00500fa00003d091000003fe50100000fd3b0000") (Done 58)
    ∷ Wait (want Link true false ∷ want (Tcp 0) true true ∷ []) None Ready (want (Tcp 0) false true ∷ [])
    ∷ Now 1065
    ∷ TcpWrite 0 (hex "000102030405060708090a0b0c0d0e0f10111213") (Done 12)
    ∷ Wait (want Link true false ∷ want (Tcp 0) true true ∷ []) None Ready (want (Tcp 0) false true ∷ [])
    ∷ Now 1068
    ∷ TcpWrite 0 (hex "0c0d0e0f10111213") (Done 8)
    ∷ TcpEnd 0 MadeDone
    ∷ Wait (want Link true false ∷ want (Tcp 0) true false ∷ []) None Stop []
    ∷ Close 0
    ∷ []

full_ring_dutiful : Dutiful narrow (run full_ring)
unfolding missing encoding is_too_long encoded_length read_on
full_ring_dutiful = is_sound narrow (run full_ring) refl

full_ring_lawful : Lawful narrow (run full_ring)
unfolding missing encoding is_too_long encoded_length read_on
full_ring_lawful = is_lawful narrow (run full_ring) refl

-- Two octets of an answer are taken: the link is waited for, and then the others go.
abbrev pub taken_in_part : List Entry
taken_in_part =
    Now 0
    ∷ Wait (want Link true false ∷ []) None Ready (want Link true false ∷ [])
    ∷ Now 3
    ∷ LinkRead 4 (Done 4) (hex "0000002a")
    ∷ LinkRead 42 (Done 42) (hex "ffffffffffff525400123456080600010800060400015254001234560a00020f0000000000000a000202")
    ∷ LinkWrite (hex "0000002a52540012345652550a0002020806000108000604000252550a0002020a0002025254001234560a00020f") (Done 2)
    ∷ Wait (want Link false true ∷ []) None Ready (want Link false true ∷ [])
    ∷ Now 4
    ∷ LinkWrite (hex "002a52540012345652550a0002020806000108000604000252550a0002020a0002025254001234560a00020f") (Done 44)
    ∷ Wait (want Link true false ∷ []) None Stop []
    ∷ []

taken_in_part_dutiful : Dutiful usual (run taken_in_part)
unfolding missing encoding is_too_long encoded_length read_on
taken_in_part_dutiful = is_sound usual (run taken_in_part) refl

-- Waits that report nothing, or what was not waited for, or a link that takes nothing.
abbrev pub taken_at_last : List Entry
taken_at_last =
    Now 0
    ∷ Wait (want Link true false ∷ []) None Ready (want Link true false ∷ [])
    ∷ Now 3
    ∷ LinkRead 4 (Done 4) (hex "0000002a")
    ∷ LinkRead 42 (Done 42) (hex "ffffffffffff525400123456080600010800060400015254001234560a00020f0000000000000a000202")
    ∷ LinkWrite (hex "0000002a52540012345652550a0002020806000108000604000252550a0002020a0002025254001234560a00020f") (Done 2)
    ∷ Wait (want Link false true ∷ []) None Ready []
    ∷ Now 4
    ∷ Wait (want Link false true ∷ []) None Ready (want Link true false ∷ [])
    ∷ Now 4
    ∷ Wait (want Link false true ∷ []) None Ready (want Link true true ∷ [])
    ∷ Now 5
    ∷ LinkWrite (hex "002a52540012345652550a0002020806000108000604000252550a0002020a0002025254001234560a00020f") NotYet
    ∷ Wait (want Link false true ∷ []) None Ready (want Link false true ∷ [])
    ∷ Now 6
    ∷ LinkWrite (hex "002a52540012345652550a0002020806000108000604000252550a0002020a0002025254001234560a00020f") (Done 1)
    ∷ Wait (want Link false true ∷ []) None Ready (want Link false true ∷ [])
    ∷ Now 6
    ∷ LinkWrite (hex "2a52540012345652550a0002020806000108000604000252550a0002020a0002025254001234560a00020f") (Done 43)
    ∷ Wait (want Link true false ∷ []) None Stop []
    ∷ []

taken_at_last_dutiful : Dutiful usual (run taken_at_last)
unfolding missing encoding is_too_long encoded_length read_on
taken_at_last_dutiful = is_sound usual (run taken_at_last) refl

-- A SYN-ACK goes out nine times, each time after twice as long, up to a minute.
given_up_dutiful : Dutiful usual (run given_up)
unfolding missing encoding is_too_long encoded_length read_on
given_up_dutiful = is_sound usual (run given_up) refl

-- a folder is served
abbrev pub with_files : Config
with_files = record usual { tftp_path = Some (codes "srv") }

-- A block of a file isn't acknowledged, and goes again after 5,000 milliseconds.
abbrev pub goes_again : List Entry
goes_again =
    Now 0
    ∷ Wait (want Link true false ∷ []) None Ready (want Link true false ∷ [])
    ∷ Now 5
    ∷ LinkRead 4 (Done 4) (hex "00000034")
    ∷ LinkRead 52 (Done 52) (hex "52550a00020252540012345608004500002600010000401162b60a00020f0a00020207d00045001221da000166006f6374657400")
    ∷ FileLen (codes "srv/f") (Length 3)
    ∷ FileRead (codes "srv/f") 0 3 (Done 3) (hex "616263")
    ∷ LinkWrite (hex "0000003152540012345652550a00020208004500002300000000401162ba0a0002020a00020f004507d0000f1b4400030001616263") (Done 53)
    ∷ Wait (want Link true false ∷ []) (Some 5000) Ready []
    ∷ Now 5005
    ∷ LinkWrite (hex "0000003152540012345652550a00020208004500002300010000401162b90a0002020a00020f004507d0000f1b4400030001616263") (Done 53)
    ∷ Wait (want Link true false ∷ []) (Some 5000) Stop []
    ∷ []

goes_again_dutiful : Dutiful with_files (run goes_again)
unfolding missing encoding is_too_long encoded_length read_on digits
goes_again_dutiful = is_sound with_files (run goes_again) refl

-- a guest's window is closed, and three octets wait for it
abbrev pub window_closed : List Entry
window_closed = opened ++ LinkRead 4 (Done 4) (hex "00000036")
    ∷ LinkRead 54 (Done 54) (hex "52550a000202525400123456080045000028000900004006acb10a00020fc00002070fa00050000003e90003d09150100000fd500000")
    ∷ Wait (want Link true false ∷ want (Tcp 0) true false ∷ []) None Ready (want (Tcp 0) true false ∷ []) ∷ Now 1030 ∷ TcpRead 0 16384 (Done 3) (hex "010203") ∷ []

-- Whether it is still closed is to be asked a second later.
window_closed_dutiful : Dutiful usual (run (window_closed ++ Wait (want Link true false ∷ want (Tcp 0) true false ∷ []) (Some 1000) Stop [] ∷ Close 0 ∷ []))
unfolding missing encoding is_too_long encoded_length read_on
window_closed_dutiful = is_sound usual (run (window_closed ++ Wait (want Link true false ∷ want (Tcp 0) true false ∷ []) (Some 1000) Stop [] ∷ Close 0 ∷ [])) refl
