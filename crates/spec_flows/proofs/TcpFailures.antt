-- A run with TCP written out: a host whose octets can't be read.
use Rattle.std.proofs.Common.{◌≡◌, true, false, List, [], ◌∷◌, ◌++◌, take, None, refl}
use Rattle.poll_list.specs.declared.Who.TheVariants.{Link, Tcp}
use Rattle.world_face.specs.declared.Io.TheVariants.{Done, Failed}
use Rattle.world_face.specs.declared.Waited.TheVariants.{Ready, Stop}
use Rattle.world_face.specs.Journal.{Entry, Now, Wait, LinkRead, LinkWrite, TcpRead, Close, CallLinkWrite}
use Rattle.world_face.specs.Frames.{encoding, missing, is_too_long, encoded_length}
use Rattle.tlv_table.specs.Reading.{read_on}
use Rattle.slirp_settings.specs.Settings.{usual}
use Rattle.spec_flows.specs.Check.{may_flow}
use Rattle.spec_flows.specs.Laws.{KeepsFlows}
use Rattle.spec_flows.proofs.Checks.{is_sound}
use Rattle.spec_flows.proofs.Writing.{hex, want, run}
use Rattle.spec_flows.proofs.Openings.{opened, all_came}

-- a read fails: the socket is closed, the guest gets a reset, and the run goes on
abbrev pub failed_read : List Entry
failed_read =
    opened
    ++ all_came
    ++ Wait (want Link true false ∷ want (Tcp 0) true false ∷ []) None Ready (want (Tcp 0) true false ∷ [])
    ∷ Now 1021
    ∷ TcpRead 0 16384 Failed []
    ∷ Close 0
    ∷ LinkWrite (hex "0000003652540012345652550a000202080045000028000100004006acb9c00002070a00020f00500fa00003d091000003e950140000fd4c0000") (Done 58)
    ∷ Wait (want Link true false ∷ []) None Ready (want Link true false ∷ [])
    ∷ Now 1022
    ∷ LinkRead 4 (Done 4) (hex "0000002a")
    ∷ LinkRead 42 (Done 42) (hex "ffffffffffff525400123456080600010800060400015254001234560a00020f0000000000000a000202")
    ∷ LinkWrite (hex "0000002a52540012345652550a0002020806000108000604000252550a0002020a0002025254001234560a00020f") (Done 46)
    ∷ Wait (want Link true false ∷ []) None Stop []
    ∷ []

failed_read_keeps : KeepsFlows usual (run failed_read)
unfolding missing encoding is_too_long encoded_length read_on
failed_read_keeps = is_sound usual (run failed_read) refl

-- The reset may go out;
reset_once : may_flow usual (run (take 18 failed_read)) (CallLinkWrite
    (hex "0000003652540012345652550a000202080045000028000100004006acb9c00002070a00020f00500fa00003d091000003e950140000fd4c0000")) ≡ true
unfolding missing encoding is_too_long encoded_length read_on
reset_once = refl
