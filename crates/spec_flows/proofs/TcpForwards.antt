-- Runs with TCP written out: peers that come to a port of the host.
use Rattle.std.proofs.Common.{true, false, List, [], ◌∷◌, Some, None, refl}
use Rattle.poll_list.specs.declared.Who.TheVariants.{Link, Tcp, Listener}
use Rattle.world_face.specs.declared.Io.TheVariants.{Done}
use Rattle.world_face.specs.declared.Made.TheVariants.{Done as MadeDone}
use Rattle.world_face.specs.declared.Accepted.TheVariants.{From, NotYet as NotYetAccepted}
use Rattle.world_face.specs.declared.Waited.TheVariants.{Ready, Stop}
use Rattle.world_face.specs.Journal.{Entry, Now, Wait, LinkRead, LinkWrite, Listen, Accept, TcpRead, Close}
use Rattle.world_face.specs.Frames.{encoding, missing, is_too_long, encoded_length}
use Rattle.tlv_table.specs.Reading.{read_on}
use Rattle.slirp_settings.specs.Addresses.{endpoint}
use Rattle.slirp_settings.specs.Settings.{usual}
use Rattle.spec_flows.specs.Laws.{KeepsFlows}
use Rattle.spec_flows.proofs.Checks.{is_sound}
use Rattle.spec_flows.proofs.Writing.{hex, want, run}
use Rattle.slirp_settings.specs.Addresses.{Config}
use Rattle.slirp_settings.specs.declared.Proto.TheVariants.{Tcp as TcpProto}

-- a port of the host that is given to a guest
abbrev pub forwarding : Config
forwarding = record usual { forwards = record { proto = TcpProto; host = endpoint 2130706433 5555; guest = endpoint 167772687 22 } ∷ [] }

-- a peer comes: the guest is asked for its address, and then gets a SYN
abbrev pub visited : List Entry
visited =
    Listen 0 (endpoint 2130706433 5555) MadeDone
    ∷ Now 0
    ∷ Wait (want Link true false ∷ want (Listener 0) true false ∷ []) None Ready (want (Listener 0) true false ∷ [])
    ∷ Now 5
    ∷ Accept 0 1 (From (endpoint 2130706433 40000))
    ∷ LinkWrite (hex "0000002affffffffffff52550a0002020806000108000604000152550a0002020a0002020000000000000a00020f") (Done 46)
    ∷ Wait (want Link true false ∷ want (Listener 0) true false ∷ want (Tcp 1) true false ∷ []) (Some 1000) Ready (want Link true false ∷ [])
    ∷ Now 10
    ∷ LinkRead 4 (Done 4) (hex "0000002a")
    ∷ LinkRead 42 (Done 42) (hex "52550a000202525400123456080600010800060400025254001234560a00020f52550a0002020a000202")
    ∷ LinkWrite (hex "0000003e52540012345652550a00020208004500003000000000400662b80a0002020a00020f9c400016000004e2000000007002ffffcad60000020405b401030300") (Done 66)
    ∷ Wait (want Link true false ∷ want (Listener 0) true false ∷ want (Tcp 1) true false ∷ []) (Some 1000) Ready (want Link true false ∷ [])
    ∷ Now 11
    ∷ LinkRead 4 (Done 4) (hex "0000003a")
    ∷ LinkRead 58 (Done 58) (hex "52550a00020252540012345608004500002c00090000400662b30a00020f0a00020200169c400000004d000004e36012ffffde7f0000020405b4")
    ∷ LinkWrite (hex "0000003652540012345652550a00020208004500002800010000400662bf0a0002020a00020f9c400016000004e30000004e5010fffff63c0000") (Done 58)
    ∷ Wait (want Link true false ∷ want (Listener 0) true false ∷ want (Tcp 1) true false ∷ []) None Ready (want (Tcp 1) true false ∷ [])
    ∷ Now 12
    ∷ TcpRead 1 16384 (Done 2) (hex "6869")
    ∷ LinkWrite (hex "0000003852540012345652550a00020208004500002a00020000400662bc0a0002020a00020f9c400016000004e30000004e5018ffff8dc900006869") (Done 60)
    ∷ Wait (want Link true false ∷ want (Listener 0) true false ∷ want (Tcp 1) true false ∷ []) (Some 1000) Stop []
    ∷ Close 0
    ∷ Close 1
    ∷ []

visited_keeps : KeepsFlows forwarding (run visited)
unfolding missing encoding is_too_long encoded_length read_on
visited_keeps = is_sound forwarding (run visited) refl

-- a peer that would pass for a guest is refused
abbrev pub unshown : List Entry
unshown =
    Listen 0 (endpoint 2130706433 5555) MadeDone
    ∷ Now 0
    ∷ Wait (want Link true false ∷ want (Listener 0) true false ∷ []) None Ready (want (Listener 0) true false ∷ [])
    ∷ Now 5
    ∷ Accept 0 1 (From (endpoint 167772681 7))
    ∷ Close 1
    ∷ Wait (want Link true false ∷ want (Listener 0) true false ∷ []) None Ready (want (Listener 0) true false ∷ [])
    ∷ Now 6
    ∷ Accept 0 2 NotYetAccepted
    ∷ Wait (want Link true false ∷ want (Listener 0) true false ∷ []) None Stop []
    ∷ Close 0
    ∷ []

unshown_keeps : KeepsFlows forwarding (run unshown)
unfolding missing encoding is_too_long encoded_length read_on
unshown_keeps = is_sound forwarding (run unshown) refl
