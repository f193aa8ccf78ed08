-- Worked runs whose flows are in TIME-WAIT are lawful, and what breaks them is refused by the law (RFC 9293, 3.6).
use Rattle.std.proofs.Common.{◌≡◌, Bool, true, false, List, [], ◌∷◌, ◌++◌, take, Some, None, refl}
use Rattle.poll_list.specs.declared.Who.TheVariants.{Link, Tcp}
use Rattle.world_face.specs.declared.Io.{Io}
use Rattle.world_face.specs.declared.Io.TheVariants.{Done, End}
use Rattle.world_face.specs.declared.Made.TheVariants.{Done as MadeDone}
use Rattle.world_face.specs.declared.Joined.TheVariants.{Yes}
use Rattle.world_face.specs.declared.Waited.TheVariants.{Ready, Stop}
use Rattle.world_face.specs.Journal.{Entry, Now, Wait, LinkRead, LinkWrite, Connect, Connected, TcpRead, TcpEnd, Close}
use Rattle.world_face.specs.Frames.{encoding, missing, is_too_long, encoded_length}
use Rattle.tlv_table.specs.Reading.{read_on}
use Rattle.slirp_settings.specs.Addresses.{Config, endpoint}
use Rattle.slirp_settings.specs.Settings.{usual}
use Rattle.spec_flows.proofs.Writing.{hex, want, run}
use Rattle.spec_flows.proofs.Openings.{called, connected_at}
use Rattle.spec_run.specs.Laws.{Finished, Lawful}
use Rattle.spec_run.proofs.Checks.{is_sound}

-- with room for one flow, and for two
abbrev alone : Config
alone = record usual { flows = 1 }

abbrev pair : Config
pair = record usual { flows = 2 }

not_both : {b : Bool} → b ≡ false → b ≡ true → ⊥
not_both {b} off on = cc

-- a guest acknowledges a host that connected
abbrev greeted : List Entry
greeted =
    called
    ++ connected_at 1000
    ++ Wait (want Link true false ∷ want (Tcp 0) true false ∷ []) (Some 1000) Ready (want Link true false ∷ [])
    ∷ Now 1000
    ∷ LinkRead 4 (Done 4) (hex "00000036")
    ∷ LinkRead 54 (Done 54) (hex "52550a000202525400123456080045000028000300004006acb70a00020fc00002070fa00050000003e90003d0915010fffffd500000")
    ∷ []

-- The host ends, and then the guest: the flow is in TIME-WAIT from 1,000 ms on.
abbrev one_rests : List Entry
one_rests =
    greeted
    ++ Wait (want Link true false ∷ want (Tcp 0) true false ∷ []) None Ready (want (Tcp 0) true false ∷ [])
    ∷ Now 1000
    ∷ TcpRead 0 16384 End []
    ∷ LinkWrite (hex "0000003652540012345652550a000202080045000028000100004006acb9c00002070a00020f00500fa00003d091000003e95011fffffd4f0000") (Done 58)
    ∷ Wait (want Link true false ∷ []) (Some 1000) Ready (want Link true false ∷ [])
    ∷ Now 1000
    ∷ LinkRead 4 (Done 4) (hex "00000036")
    ∷ LinkRead 54 (Done 54) (hex "52550a000202525400123456080045000028000300004006acb70a00020fc00002070fa00050000003e90003d0925011fffffd4e0000")
    ∷ LinkWrite (hex "0000003652540012345652550a000202080045000028000200004006acb8c00002070a00020f00500fa00003d092000003ea5010fffffd4e0000") (Done 58)
    ∷ Wait (want Link true false ∷ want (Tcp 0) false true ∷ []) None Ready (want (Tcp 0) false true ∷ [])
    ∷ Now 1000
    ∷ TcpEnd 0 MadeDone
    ∷ Close 0
    ∷ Wait (want Link true false ∷ []) (Some 60000) Ready (want Link true false ∷ [])
    ∷ []

-- A second flow is in TIME-WAIT from 1,500 ms on, and the first one from 2,000 ms on.
abbrev both_rest : List Entry
both_rest =
    greeted
    ++ Wait (want Link true false ∷ want (Tcp 0) true false ∷ []) None Ready (want Link true false ∷ [])
    ∷ Now 1000
    ∷ LinkRead 4 (Done 4) (hex "0000003a")
    ∷ LinkRead 58 (Done 58) (hex "52550a00020252540012345608004500002c000300004006acb20a00020fc00002080fa00050000003e8000000006002ffffb6370000020405b4")
    ∷ Connect 1 (endpoint 3221225992 80) MadeDone
    ∷ Wait (want Link true false ∷ want (Tcp 0) true false ∷ want (Tcp 1) false true ∷ []) (Some 75000) Ready (want (Tcp 1) false true ∷ [])
    ∷ Now 1000
    ∷ Connected 1 Yes
    ∷ LinkWrite (hex "0000003a52540012345652550a00020208004500002c000100004006acb4c00002080a00020f00500fa00004ca90000003e96012ffffeb910000020405b4") (Done 62)
    ∷ Wait (want Link true false ∷ want (Tcp 0) true false ∷ want (Tcp 1) true false ∷ []) (Some 1000) Ready (want Link true false ∷ [])
    ∷ Now 1000
    ∷ LinkRead 4 (Done 4) (hex "00000036")
    ∷ LinkRead 54 (Done 54) (hex "52550a000202525400123456080045000028000300004006acb60a00020fc00002080fa00050000003e90004ca915010ffff034f0000")
    ∷ Wait (want Link true false ∷ want (Tcp 0) true false ∷ want (Tcp 1) true false ∷ []) None Ready (want (Tcp 1) true false ∷ [])
    ∷ Now 1500
    ∷ TcpRead 1 16384 End []
    ∷ LinkWrite (hex "0000003652540012345652550a000202080045000028000200004006acb7c00002080a00020f00500fa00004ca91000003e95011ffff034e0000") (Done 58)
    ∷ Wait (want Link true false ∷ want (Tcp 0) true false ∷ []) (Some 1000) Ready (want Link true false ∷ [])
    ∷ Now 1500
    ∷ LinkRead 4 (Done 4) (hex "00000036")
    ∷ LinkRead 54 (Done 54) (hex "52550a000202525400123456080045000028000300004006acb60a00020fc00002080fa00050000003e90004ca925011ffff034d0000")
    ∷ LinkWrite (hex "0000003652540012345652550a000202080045000028000300004006acb6c00002080a00020f00500fa00004ca92000003ea5010ffff034d0000") (Done 58)
    ∷ Wait (want Link true false ∷ want (Tcp 0) true false ∷ want (Tcp 1) false true ∷ []) None Ready (want (Tcp 1) false true ∷ [])
    ∷ Now 1500
    ∷ TcpEnd 1 MadeDone
    ∷ Close 1
    ∷ Wait (want Link true false ∷ want (Tcp 0) true false ∷ []) (Some 60000) Ready (want (Tcp 0) true false ∷ [])
    ∷ Now 2000
    ∷ TcpRead 0 16384 End []
    ∷ LinkWrite (hex "0000003652540012345652550a000202080045000028000400004006acb6c00002070a00020f00500fa00003d091000003e95011fffffd4f0000") (Done 58)
    ∷ Wait (want Link true false ∷ []) (Some 1000) Ready (want Link true false ∷ [])
    ∷ Now 2000
    ∷ LinkRead 4 (Done 4) (hex "00000036")
    ∷ LinkRead 54 (Done 54) (hex "52550a000202525400123456080045000028000300004006acb70a00020fc00002070fa00050000003e90003d0925011fffffd4e0000")
    ∷ LinkWrite (hex "0000003652540012345652550a000202080045000028000500004006acb5c00002070a00020f00500fa00003d092000003ea5010fffffd4e0000") (Done 58)
    ∷ Wait (want Link true false ∷ want (Tcp 0) false true ∷ []) (Some 59500) Ready (want (Tcp 0) false true ∷ [])
    ∷ Now 2000
    ∷ TcpEnd 0 MadeDone
    ∷ Close 0
    ∷ Wait (want Link true false ∷ []) (Some 59500) Ready (want Link true false ∷ [])
    ∷ []

-- a TIME-WAIT ends after 60 seconds
abbrev ended : List Entry
ended =
    one_rests
    ++ Now 60999
    ∷ LinkRead 4 (Done 4) (hex "00000036")
    ∷ LinkRead 54 (Done 54) (hex "52550a000202525400123456080045000028000300004006acb70a00020fc00002070fa00050000003ea0003d0925010fffffd4e0000")
    ∷ Wait (want Link true false ∷ []) (Some 1) Ready []
    ∷ Now 61000
    ∷ Wait (want Link true false ∷ []) None Ready (want Link true false ∷ [])
    ∷ Now 61000
    ∷ LinkRead 4 (Done 4) (hex "0000003a")
    ∷ LinkRead 58 (Done 58) (hex "52550a00020252540012345608004500002c000300004006acb30a00020fc00002070fa00050000003e8000000006002ffffb6380000020405b4")
    ∷ Connect 1 (endpoint 3221225991 80) MadeDone
    ∷ Wait (want Link true false ∷ want (Tcp 1) false true ∷ []) (Some 75000) Stop []
    ∷ Close 1
    ∷ []

ended_lawful : Lawful alone (run ended)
unfolding missing encoding is_too_long encoded_length read_on
ended_lawful = is_sound alone (run ended) refl

ended_finished : Finished alone (run ended)
unfolding missing encoding is_too_long encoded_length read_on
ended_finished = record { ended = refl; none_due = refl; closed = refl }

-- the longest TIME-WAIT gives way to a new flow, and a reset ends the other
abbrev crowded : List Entry
crowded =
    both_rest
    ++ Now 3000
    ∷ LinkRead 4 (Done 4) (hex "0000003a")
    ∷ LinkRead 58 (Done 58) (hex "52550a00020252540012345608004500002c000300004006acb10a00020fc00002090fa00050000003e8000000006002ffffb6360000020405b4")
    ∷ Connect 2 (endpoint 3221225993 80) MadeDone
    ∷ Wait (want Link true false ∷ want (Tcp 2) false true ∷ []) (Some 59000) Ready (want Link true false ∷ [])
    ∷ Now 3000
    ∷ LinkRead 4 (Done 4) (hex "00000036")
    ∷ LinkRead 54 (Done 54) (hex "52550a000202525400123456080045000028000300004006acb60a00020fc00002080fa00050000003ea0004ca925010ffff034d0000")
    ∷ LinkWrite (hex "0000003652540012345652550a000202080045000028000600004006acb3c00002080a00020f00500fa00004ca92000000005004000007430000") (Done 58)
    ∷ Wait (want Link true false ∷ want (Tcp 2) false true ∷ []) (Some 59000) Ready (want Link true false ∷ [])
    ∷ Now 3000
    ∷ LinkRead 4 (Done 4) (hex "00000036")
    ∷ LinkRead 54 (Done 54) (hex "52550a000202525400123456080045000028000300004006acb70a00020fc00002070fa00050000003ea0003d0925010fffffd4e0000")
    ∷ Wait (want Link true false ∷ want (Tcp 2) false true ∷ []) (Some 59000) Ready (want Link true false ∷ [])
    ∷ Now 3000
    ∷ LinkRead 4 (Done 4) (hex "00000036")
    ∷ LinkRead 54 (Done 54) (hex "52550a000202525400123456080045000028000300004006acb70a00020fc00002070fa00050000003ea000000005004ffffcdf00000")
    ∷ Wait (want Link true false ∷ want (Tcp 2) false true ∷ []) (Some 75000) Stop []
    ∷ Close 2
    ∷ []

crowded_lawful : Lawful pair (run crowded)
unfolding missing encoding is_too_long encoded_length read_on
crowded_lawful = is_sound pair (run crowded) refl

crowded_finished : Finished pair (run crowded)
unfolding missing encoding is_too_long encoded_length read_on
crowded_finished = record { ended = refl; none_due = refl; closed = refl }

-- a TIME-WAIT that begins anew is the shortest
abbrev renewed : List Entry
renewed =
    both_rest
    ++ Now 2500
    ∷ LinkRead 4 (Done 4) (hex "00000036")
    ∷ LinkRead 54 (Done 54) (hex "52550a000202525400123456080045000028000300004006acb60a00020fc00002080fa00050000003e90004ca925011ffff034d0000")
    ∷ LinkWrite (hex "0000003652540012345652550a000202080045000028000600004006acb3c00002080a00020f00500fa00004ca92000003ea5010ffff034d0000") (Done 58)
    ∷ Wait (want Link true false ∷ []) (Some 59500) Ready (want Link true false ∷ [])
    ∷ Now 3000
    ∷ LinkRead 4 (Done 4) (hex "0000003a")
    ∷ LinkRead 58 (Done 58) (hex "52550a00020252540012345608004500002c000300004006acb10a00020fc00002090fa00050000003e8000000006002ffffb6360000020405b4")
    ∷ Connect 2 (endpoint 3221225993 80) MadeDone
    ∷ Wait (want Link true false ∷ want (Tcp 2) false true ∷ []) (Some 59500) Ready (want Link true false ∷ [])
    ∷ Now 3000
    ∷ LinkRead 4 (Done 4) (hex "00000036")
    ∷ LinkRead 54 (Done 54) (hex "52550a000202525400123456080045000028000300004006acb70a00020fc00002070fa00050000003ea0003d0925010fffffd4e0000")
    ∷ LinkWrite (hex "0000003652540012345652550a000202080045000028000700004006acb3c00002070a00020f00500fa00003d092000000005004000001450000") (Done 58)
    ∷ Wait (want Link true false ∷ want (Tcp 2) false true ∷ []) (Some 59500) Ready (want Link true false ∷ [])
    ∷ Now 3000
    ∷ LinkRead 4 (Done 4) (hex "00000036")
    ∷ LinkRead 54 (Done 54) (hex "52550a000202525400123456080045000028000300004006acb60a00020fc00002080fa00050000003ea0004ca925010ffff034d0000")
    ∷ Wait (want Link true false ∷ want (Tcp 2) false true ∷ []) (Some 59500) Stop []
    ∷ Close 2
    ∷ []

renewed_lawful : Lawful pair (run renewed)
unfolding missing encoding is_too_long encoded_length read_on
renewed_lawful = is_sound pair (run renewed) refl

renewed_finished : Finished pair (run renewed)
unfolding missing encoding is_too_long encoded_length read_on
renewed_finished = record { ended = refl; none_due = refl; closed = refl }

-- an end begins a TIME-WAIT anew, and one without an acknowledgement does not
abbrev repeated : List Entry
repeated =
    one_rests
    ++ Now 20000
    ∷ LinkRead 4 (Done 4) (hex "00000036")
    ∷ LinkRead 54 (Done 54) (hex "52550a000202525400123456080045000028000300004006acb70a00020fc00002070fa00050000003e9000000005001ffffcdf40000")
    ∷ Wait (want Link true false ∷ []) (Some 41000) Ready (want Link true false ∷ [])
    ∷ Now 30000
    ∷ LinkRead 4 (Done 4) (hex "00000036")
    ∷ LinkRead 54 (Done 54) (hex "52550a000202525400123456080045000028000300004006acb70a00020fc00002070fa00050000003e90003d0925011fffffd4e0000")
    ∷ LinkWrite (hex "0000003652540012345652550a000202080045000028000300004006acb7c00002070a00020f00500fa00003d092000003ea5010fffffd4e0000") (Done 58)
    ∷ Wait (want Link true false ∷ []) (Some 60000) Ready (want Link true false ∷ [])
    ∷ Now 89999
    ∷ LinkRead 4 (Done 4) (hex "00000036")
    ∷ LinkRead 54 (Done 54) (hex "52550a000202525400123456080045000028000300004006acb70a00020fc00002070fa00050000003ea0003d0925010fffffd4e0000")
    ∷ Wait (want Link true false ∷ []) (Some 1) Ready []
    ∷ Now 90000
    ∷ Wait (want Link true false ∷ []) None Ready (want Link true false ∷ [])
    ∷ Now 90000
    ∷ LinkRead 4 (Done 4) (hex "00000036")
    ∷ LinkRead 54 (Done 54) (hex "52550a000202525400123456080045000028000300004006acb70a00020fc00002070fa00050000003ea0003d0925010fffffd4e0000")
    ∷ LinkWrite (hex "0000003652540012345652550a000202080045000028000400004006acb6c00002070a00020f00500fa00003d092000000005004000001450000") (Done 58)
    ∷ Wait (want Link true false ∷ []) None Stop []
    ∷ []

repeated_lawful : Lawful alone (run repeated)
unfolding missing encoding is_too_long encoded_length read_on
repeated_lawful = is_sound alone (run repeated) refl

repeated_finished : Finished alone (run repeated)
unfolding missing encoding is_too_long encoded_length read_on
repeated_finished = record { ended = refl; none_due = refl; closed = refl }

-- a SYN that is ahead ends a TIME-WAIT, and one that is not is acknowledged
abbrev reopened : List Entry
reopened =
    one_rests
    ++ Now 1000
    ∷ LinkRead 4 (Done 4) (hex "0000003a")
    ∷ LinkRead 58 (Done 58) (hex "52550a00020252540012345608004500002c000300004006acb30a00020fc00002070fa00050000003ea000000006002ffffb6360000020405b4")
    ∷ LinkWrite (hex "0000003652540012345652550a000202080045000028000300004006acb7c00002070a00020f00500fa00003d092000003ea5010fffffd4e0000") (Done 58)
    ∷ Wait (want Link true false ∷ []) (Some 60000) Ready (want Link true false ∷ [])
    ∷ Now 1000
    ∷ LinkRead 4 (Done 4) (hex "0000003a")
    ∷ LinkRead 58 (Done 58) (hex "52550a00020252540012345608004500002c000300004006acb30a00020fc00002070fa00050800003ea000000006002ffff36360000020405b4")
    ∷ LinkWrite (hex "0000003652540012345652550a000202080045000028000400004006acb6c00002070a00020f00500fa00003d092000003ea5010fffffd4e0000") (Done 58)
    ∷ Wait (want Link true false ∷ []) (Some 60000) Ready (want Link true false ∷ [])
    ∷ Now 1000
    ∷ LinkRead 4 (Done 4) (hex "0000003a")
    ∷ LinkRead 58 (Done 58) (hex "52550a00020252540012345608004500002c000300004006acb30a00020fc00002070fa00050000003eb000000006002ffffb6350000020405b4")
    ∷ Connect 1 (endpoint 3221225991 80) MadeDone
    ∷ Wait (want Link true false ∷ want (Tcp 1) false true ∷ []) (Some 75000) Stop []
    ∷ Close 1
    ∷ []

reopened_lawful : Lawful alone (run reopened)
unfolding missing encoding is_too_long encoded_length read_on
reopened_lawful = is_sound alone (run reopened) refl

reopened_finished : Finished alone (run reopened)
unfolding missing encoding is_too_long encoded_length read_on
reopened_finished = record { ended = refl; none_due = refl; closed = refl }

-- ---- boundaries

-- 59,999 ms after the close the flow is in TIME-WAIT, and may acknowledge
speaks_at_59_999 : Lawful alone (LinkWrite (hex "0000003652540012345652550a000202080045000028000300004006acb7c00002070a00020f00500fa00003d092000003ea5010fffffd4e0000") (Done 58) ∷ run (take 31 ended))
unfolding missing encoding is_too_long encoded_length read_on
speaks_at_59_999 = is_sound alone (LinkWrite (hex "0000003652540012345652550a000202080045000028000300004006acb7c00002070a00020f00500fa00003d092000003ea5010fffffd4e0000") (Done 58)
    ∷ run (take 31 ended)) refl

-- once a turn at 60,000 ms is over it says nothing any more
silent_after_60_000 : (answer : Io) → Lawful alone (LinkWrite
    (hex "0000003652540012345652550a000202080045000028000300004006acb7c00002070a00020f00500fa00003d092000003ea5010fffffd4e0000") answer ∷ run (take 35 ended)) → ⊥
unfolding missing encoding is_too_long encoded_length read_on
silent_after_60_000 answer lawful = not_both refl lawful.0.answered

-- a TIME-WAIT that began anew goes on for 60,000 ms more
speaks_since_renewed : Lawful alone (LinkWrite (hex "0000003652540012345652550a000202080045000028000400004006acb6c00002070a00020f00500fa00003d092000003ea5010fffffd4e0000")
    (Done 58) ∷ run (take 40 repeated))
unfolding missing encoding is_too_long encoded_length read_on
speaks_since_renewed = is_sound alone (LinkWrite (hex "0000003652540012345652550a000202080045000028000400004006acb6c00002070a00020f00500fa00003d092000003ea5010fffffd4e0000")
    (Done 58) ∷ run (take 40 repeated)) refl

-- and no longer
silent_after_renewed : (answer : Io) → Lawful alone (LinkWrite
    (hex "0000003652540012345652550a000202080045000028000400004006acb6c00002070a00020f00500fa00003d092000003ea5010fffffd4e0000") answer ∷ run (take 44 repeated)) → ⊥
unfolding missing encoding is_too_long encoded_length read_on
silent_after_renewed answer lawful = not_both refl lawful.0.answered

-- while it is in TIME-WAIT the second flow acknowledges
speaks_before_crowded : Lawful pair (LinkWrite (hex "0000003652540012345652550a000202080045000028000600004006acb3c00002080a00020f00500fa00004ca92000003ea5010ffff034d0000")
    (Done 58) ∷ run (take 57 renewed))
unfolding missing encoding is_too_long encoded_length read_on
speaks_before_crowded = is_sound pair (LinkWrite (hex "0000003652540012345652550a000202080045000028000600004006acb3c00002080a00020f00500fa00004ca92000003ea5010ffff034d0000")
    (Done 58) ∷ run (take 57 renewed)) refl

-- once a new flow has its place it says nothing any more
silent_once_crowded : (answer : Io) → Lawful pair (LinkWrite (hex
    "0000003652540012345652550a000202080045000028000600004006acb3c00002080a00020f00500fa00004ca92000003ea5010ffff034d0000") answer ∷ run (take 58 crowded)) → ⊥
unfolding missing encoding is_too_long encoded_length read_on
silent_once_crowded answer lawful = not_both refl lawful.0.answered
