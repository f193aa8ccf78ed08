-- A run with TCP written out: numbers that wrap.
use Rattle.std.proofs.Common.{true, false, List, [], ◌∷◌, Some, None, refl}
use Rattle.poll_list.specs.declared.Who.TheVariants.{Link, Tcp}
use Rattle.world_face.specs.declared.Io.TheVariants.{Done}
use Rattle.world_face.specs.declared.Made.TheVariants.{Done as MadeDone}
use Rattle.world_face.specs.declared.Joined.TheVariants.{Yes}
use Rattle.world_face.specs.declared.Waited.TheVariants.{Ready, Stop}
use Rattle.world_face.specs.Journal.{Entry, Now, Wait, LinkRead, LinkWrite, Connect, Connected, TcpWrite, Close}
use Rattle.world_face.specs.Frames.{encoding, missing, is_too_long, encoded_length}
use Rattle.tlv_table.specs.Reading.{read_on}
use Rattle.slirp_settings.specs.Addresses.{endpoint}
use Rattle.slirp_settings.specs.Settings.{usual}
use Rattle.spec_flows.specs.Laws.{KeepsFlows}
use Rattle.spec_flows.proofs.Checks.{is_sound}
use Rattle.spec_flows.proofs.Writing.{hex, want, run}

-- the guest's SYN is five below 2^32; its twelve octets pass the wrap, and the next number is 8
abbrev pub wrapped : List Entry
wrapped =
    Now 0
    ∷ Wait (want Link true false ∷ []) None Ready (want Link true false ∷ [])
    ∷ Now 1000
    ∷ LinkRead 4 (Done 4) (hex "0000003a")
    ∷ LinkRead 58 (Done 58) (hex "52550a00020252540012345608004500002c000300004006acb30a00020fc00002070fa00050fffffffb000000006002ffffba240000020405b4")
    ∷ Connect 0 (endpoint 3221225991 80) MadeDone
    ∷ Wait (want Link true false ∷ want (Tcp 0) false true ∷ []) (Some 75000) Ready (want (Tcp 0) false true ∷ [])
    ∷ Now 1010
    ∷ Connected 0 Yes
    ∷ LinkWrite (hex "0000003a52540012345652550a00020208004500002c000000004006acb6c00002070a00020f00500fa00003d090fffffffc6012ffffe97f0000020405b4") (Done 62)
    ∷ Wait (want Link true false ∷ want (Tcp 0) true false ∷ []) (Some 1000) Ready (want Link true false ∷ [])
    ∷ Now 1020
    ∷ LinkRead 4 (Done 4) (hex "00000042")
    ∷ LinkRead 66 (Done 66) (hex "52550a000202525400123456080045000034000900004006aca50a00020fc00002070fa00050fffffffc0003d0915010ffffe30c0000000102030405060708090a0b")
    ∷ LinkWrite (hex "0000003652540012345652550a000202080045000028000100004006acb9c00002070a00020f00500fa00003d091000000085010fff3013e0000") (Done 58)
    ∷ Wait (want Link true false ∷ want (Tcp 0) true true ∷ []) None Ready (want (Tcp 0) false true ∷ [])
    ∷ Now 1021
    ∷ TcpWrite 0 (hex "000102030405060708090a0b") (Done 12)
    ∷ Wait (want Link true false ∷ want (Tcp 0) true false ∷ []) None Stop []
    ∷ Close 0
    ∷ []

wrapped_keeps : KeepsFlows usual (run wrapped)
unfolding missing encoding is_too_long encoded_length read_on
wrapped_keeps = is_sound usual (run wrapped) refl
