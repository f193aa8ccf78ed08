-- A run with TCP written out: two flows at once.
use Rattle.std.proofs.Common.{◌≡◌, true, false, List, [], ◌∷◌, ◌++◌, take, Some, None, refl}
use Rattle.poll_list.specs.declared.Who.TheVariants.{Link, Tcp}
use Rattle.world_face.specs.declared.Io.TheVariants.{Done}
use Rattle.world_face.specs.declared.Made.TheVariants.{Done as MadeDone}
use Rattle.world_face.specs.declared.Joined.TheVariants.{Yes}
use Rattle.world_face.specs.declared.Waited.TheVariants.{Ready, Stop}
use Rattle.world_face.specs.Journal.{Entry, Now, Wait, LinkRead, LinkWrite, Connect, Connected, TcpWrite, Close, CallTcpWrite}
use Rattle.world_face.specs.Frames.{encoding, missing, is_too_long, encoded_length}
use Rattle.tlv_table.specs.Reading.{read_on}
use Rattle.slirp_settings.specs.Addresses.{endpoint}
use Rattle.slirp_settings.specs.Settings.{usual}
use Rattle.spec_flows.specs.Check.{may_flow}
use Rattle.spec_flows.specs.Laws.{KeepsFlows}
use Rattle.spec_flows.proofs.Checks.{is_sound}
use Rattle.spec_flows.proofs.Writing.{hex, want, run}
use Rattle.spec_flows.proofs.Openings.{opened, ten_taken}

-- two flows, one with octets
abbrev pub two_flows : List Entry
two_flows =
    opened
    ++ ten_taken
    ++ Wait (want Link true false ∷ want (Tcp 0) true true ∷ []) None Ready (want Link true false ∷ [])
    ∷ Now 1030
    ∷ LinkRead 4 (Done 4) (hex "0000003a")
    ∷ LinkRead 58 (Done 58) (hex "52550a00020252540012345608004500002c000300004006acb30a00020fc00002070fa1005000001388000000006002ffffa6970000020405b4")
    ∷ Connect 1 (endpoint 3221225991 80) MadeDone
    ∷ Wait (want Link true false ∷ want (Tcp 0) true true ∷ want (Tcp 1) false true ∷ []) (Some 75000) Ready (want (Tcp 0) false true ∷ want (Tcp 1) false true ∷ [])
    ∷ Now 1031
    ∷ TcpWrite 0 (hex "00010203040506070809") (Done 3)
    ∷ Connected 1 Yes
    ∷ LinkWrite (hex "0000003a52540012345652550a00020208004500002c000200004006acb4c00002070a00020f00500fa10004e7dc000013896012ffffbea50000020405b4") (Done 62)
    ∷ Wait (want Link true false ∷ want (Tcp 0) true true ∷ want (Tcp 1) true false ∷ []) (Some 1000) Ready (want (Tcp 0) false true ∷ want (Tcp 1) false true ∷ [])
    ∷ Now 1032
    ∷ TcpWrite 0 (hex "03040506070809") (Done 7)
    ∷ Wait (want Link true false ∷ want (Tcp 0) true false ∷ want (Tcp 1) true false ∷ []) None Stop []
    ∷ Close 0
    ∷ Close 1
    ∷ []

two_flows_keeps : KeepsFlows usual (run two_flows)
unfolding missing encoding is_too_long encoded_length read_on
two_flows_keeps = is_sound usual (run two_flows) refl

-- What may not come: octets of one flow on the socket of the other;
other_socket : may_flow usual (run (take 27 two_flows)) (CallTcpWrite 1 (hex "03040506070809")) ≡ false
unfolding missing encoding is_too_long encoded_length read_on
other_socket = refl

-- octets that were taken;
octets_again : may_flow usual (run (take 27 two_flows)) (CallTcpWrite 0 (hex "00010203040506070809")) ≡ false
unfolding missing encoding is_too_long encoded_length read_on
octets_again = refl

-- and those that go on are offered.
octets_of_its_own : may_flow usual (run (take 27 two_flows)) (CallTcpWrite 0 (hex "03040506070809")) ≡ true
unfolding missing encoding is_too_long encoded_length read_on
octets_of_its_own = refl
