-- A run with TCP written out: a guest that answers nothing.
use Rattle.std.proofs.Common.{true, false, List, [], ◌∷◌, ◌++◌, Some, None, refl}
use Rattle.poll_list.specs.declared.Who.TheVariants.{Link, Tcp}
use Rattle.world_face.specs.declared.Io.TheVariants.{Done}
use Rattle.world_face.specs.declared.Waited.TheVariants.{Ready, Stop}
use Rattle.world_face.specs.Journal.{Entry, Now, Wait, LinkWrite, Close}
use Rattle.world_face.specs.Frames.{encoding, missing, is_too_long, encoded_length}
use Rattle.tlv_table.specs.Reading.{read_on}
use Rattle.slirp_settings.specs.Settings.{usual}
use Rattle.spec_flows.specs.Laws.{KeepsFlows}
use Rattle.spec_flows.proofs.Checks.{is_sound}
use Rattle.spec_flows.proofs.Writing.{hex, want, run}
use Rattle.spec_flows.proofs.Openings.{called, connected_at}

-- the SYN-ACK goes out nine times, then a reset
abbrev pub given_up : List Entry
given_up =
    called
    ++ connected_at 1010
    ++ Wait (want Link true false ∷ want (Tcp 0) true false ∷ []) (Some 1000) Ready []
    ∷ Now 2010
    ∷ LinkWrite (hex "0000003a52540012345652550a00020208004500002c000100004006acb5c00002070a00020f00500fa00003d090000003e96012ffffe5930000020405b4") (Done 62)
    ∷ Wait (want Link true false ∷ want (Tcp 0) true false ∷ []) (Some 2000) Ready []
    ∷ Now 4010
    ∷ LinkWrite (hex "0000003a52540012345652550a00020208004500002c000200004006acb4c00002070a00020f00500fa00003d090000003e96012ffffe5930000020405b4") (Done 62)
    ∷ Wait (want Link true false ∷ want (Tcp 0) true false ∷ []) (Some 4000) Ready []
    ∷ Now 8010
    ∷ LinkWrite (hex "0000003a52540012345652550a00020208004500002c000300004006acb3c00002070a00020f00500fa00003d090000003e96012ffffe5930000020405b4") (Done 62)
    ∷ Wait (want Link true false ∷ want (Tcp 0) true false ∷ []) (Some 8000) Ready []
    ∷ Now 16010
    ∷ LinkWrite (hex "0000003a52540012345652550a00020208004500002c000400004006acb2c00002070a00020f00500fa00003d090000003e96012ffffe5930000020405b4") (Done 62)
    ∷ Wait (want Link true false ∷ want (Tcp 0) true false ∷ []) (Some 16000) Ready []
    ∷ Now 32010
    ∷ LinkWrite (hex "0000003a52540012345652550a00020208004500002c000500004006acb1c00002070a00020f00500fa00003d090000003e96012ffffe5930000020405b4") (Done 62)
    ∷ Wait (want Link true false ∷ want (Tcp 0) true false ∷ []) (Some 32000) Ready []
    ∷ Now 64010
    ∷ LinkWrite (hex "0000003a52540012345652550a00020208004500002c000600004006acb0c00002070a00020f00500fa00003d090000003e96012ffffe5930000020405b4") (Done 62)
    ∷ Wait (want Link true false ∷ want (Tcp 0) true false ∷ []) (Some 60000) Ready []
    ∷ Now 124010
    ∷ LinkWrite (hex "0000003a52540012345652550a00020208004500002c000700004006acafc00002070a00020f00500fa00003d090000003e96012ffffe5930000020405b4") (Done 62)
    ∷ Wait (want Link true false ∷ want (Tcp 0) true false ∷ []) (Some 60000) Ready []
    ∷ Now 184010
    ∷ LinkWrite (hex "0000003a52540012345652550a00020208004500002c000800004006acaec00002070a00020f00500fa00003d090000003e96012ffffe5930000020405b4") (Done 62)
    ∷ Wait (want Link true false ∷ want (Tcp 0) true false ∷ []) (Some 60000) Ready []
    ∷ Now 244010
    ∷ Close 0
    ∷ LinkWrite (hex "0000003652540012345652550a000202080045000028000900004006acb1c00002070a00020f00500fa00003d091000003e950140000fd4c0000") (Done 58)
    ∷ Wait (want Link true false ∷ []) None Stop []
    ∷ []

given_up_keeps : KeepsFlows usual (run given_up)
unfolding missing encoding is_too_long encoded_length read_on
given_up_keeps = is_sound usual (run given_up) refl
