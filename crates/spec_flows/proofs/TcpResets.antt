-- A run with TCP written out: a guest that resets, and opens again.
use Rattle.std.proofs.Common.{true, false, List, [], ◌∷◌, ◌++◌, Some, None, refl}
use Rattle.poll_list.specs.declared.Who.TheVariants.{Link, Tcp}
use Rattle.world_face.specs.declared.Io.TheVariants.{Done}
use Rattle.world_face.specs.declared.Made.TheVariants.{Done as MadeDone}
use Rattle.world_face.specs.declared.Joined.TheVariants.{Yes}
use Rattle.world_face.specs.declared.Waited.TheVariants.{Ready, Stop}
use Rattle.world_face.specs.Journal.{Entry, Now, Wait, LinkRead, LinkWrite, Connect, Connected, Close}
use Rattle.world_face.specs.Frames.{encoding, missing, is_too_long, encoded_length}
use Rattle.tlv_table.specs.Reading.{read_on}
use Rattle.slirp_settings.specs.Addresses.{endpoint}
use Rattle.slirp_settings.specs.Settings.{usual}
use Rattle.spec_flows.specs.Laws.{KeepsFlows}
use Rattle.spec_flows.proofs.Checks.{is_sound}
use Rattle.spec_flows.proofs.Writing.{hex, want, run}
use Rattle.spec_flows.proofs.Openings.{opened, all_came, reset_came}

-- a reset beside the next number, one at it, and a SYN again
abbrev pub reset : List Entry
reset =
    opened
    ++ all_came
    ++ Wait (want Link true false ∷ want (Tcp 0) true false ∷ []) None Ready (want Link true false ∷ [])
    ∷ Now 1021
    ∷ LinkRead 4 (Done 4) (hex "00000036")
    ∷ LinkRead 54 (Done 54) (hex "52550a000202525400123456080045000028000900004006acb10a00020fc00002070fa00050000003ed000000005004ffffcded0000")
    ∷ LinkWrite (hex "0000003652540012345652550a000202080045000028000100004006acb9c00002070a00020f00500fa00003d091000003e95010fffffd500000") (Done 58)
    ∷ Wait (want Link true false ∷ want (Tcp 0) true false ∷ []) None Ready (want Link true false ∷ [])
    ∷ Now 1022
    ∷ reset_came
    ++ Close 0
    ∷ Wait (want Link true false ∷ []) None Ready (want Link true false ∷ [])
    ∷ Now 1023
    ∷ LinkRead 4 (Done 4) (hex "0000003a")
    ∷ LinkRead 58 (Done 58) (hex "52550a00020252540012345608004500002c000300004006acb30a00020fc00002070fa00050000003e8000000006002ffffb6380000020405b4")
    ∷ Connect 1 (endpoint 3221225991 80) MadeDone
    ∷ Wait (want Link true false ∷ want (Tcp 1) false true ∷ []) (Some 75000) Ready (want (Tcp 1) false true ∷ [])
    ∷ Now 2000
    ∷ Connected 1 Yes
    ∷ LinkWrite (hex "0000003a52540012345652550a00020208004500002c000200004006acb4c00002070a00020f00500fa00004e106000003e96012ffffd51c0000020405b4") (Done 62)
    ∷ Wait (want Link true false ∷ want (Tcp 1) true false ∷ []) (Some 1000) Stop []
    ∷ Close 1
    ∷ []

reset_keeps : KeepsFlows usual (run reset)
unfolding missing encoding is_too_long encoded_length read_on
reset_keeps = is_sound usual (run reset) refl
