-- Runs with TCP written out: a host that connects late, and one that does not.
use Rattle.std.proofs.Common.{◌≡◌, true, false, List, [], ◌∷◌, ◌++◌, take, Some, None, refl}
use Rattle.poll_list.specs.declared.Who.TheVariants.{Link, Tcp}
use Rattle.world_face.specs.declared.Io.TheVariants.{Done}
use Rattle.world_face.specs.declared.Joined.TheVariants.{NotYet as NotYetJoined, Failed as JoinFailed}
use Rattle.world_face.specs.declared.Waited.TheVariants.{Ready, Stop}
use Rattle.world_face.specs.Journal.{Entry, Now, Wait, LinkWrite, Connected, Close, CallWait, CallLinkWrite, CallConnect}
use Rattle.world_face.specs.Frames.{encoding, missing, is_too_long, encoded_length}
use Rattle.tlv_table.specs.Reading.{read_on}
use Rattle.slirp_settings.specs.Addresses.{endpoint}
use Rattle.slirp_settings.specs.Settings.{usual}
use Rattle.spec_flows.specs.Check.{may_flow}
use Rattle.spec_flows.specs.Laws.{KeepsFlows}
use Rattle.spec_flows.proofs.Checks.{is_sound}
use Rattle.spec_flows.proofs.Writing.{hex, want, run}
use Rattle.spec_flows.proofs.Openings.{called, connected_at}

-- the host connects at the second question
abbrev pub late : List Entry
late =
    called
    ++ Now 1004
    ∷ Connected 0 NotYetJoined
    ∷ Wait (want Link true false ∷ want (Tcp 0) false true ∷ []) (Some 74996) Ready (want (Tcp 0) false true ∷ [])
    ∷ connected_at 1010
    ++ Wait (want Link true false ∷ want (Tcp 0) true false ∷ []) (Some 1000) Stop []
    ∷ Close 0
    ∷ []

late_keeps : KeepsFlows usual (run late)
unfolding missing encoding is_too_long encoded_length read_on
late_keeps = is_sound usual (run late) refl

-- a connection fails: the socket is closed, and the guest gets a reset
abbrev pub unconnected : List Entry
unconnected =
    called
    ++ Now 1004
    ∷ Connected 0 JoinFailed
    ∷ Close 0
    ∷ LinkWrite (hex "0000003652540012345652550a000202080045000028000000004006acbac00002070a00020f00500fa000000000000003e950140000cde10000") (Done 58)
    ∷ Wait (want Link true false ∷ []) None Stop []
    ∷ []

unconnected_keeps : KeepsFlows usual (run unconnected)
unfolding missing encoding is_too_long encoded_length read_on
unconnected_keeps = is_sound usual (run unconnected) refl

-- What may not come: the SYN-ACK before the host connected;
accepted_before_the_host_connected : may_flow usual (run (take 6 late))
    (CallLinkWrite (hex "0000003a52540012345652550a00020208004500002c000000004006acb6c00002070a00020f00500fa00003d090000003e96012ffffe5930000020405b4")) ≡ false
unfolding missing encoding is_too_long encoded_length read_on
accepted_before_the_host_connected = refl

-- another port of the host;
connect_elsewhere : may_flow usual (run (take 5 late)) (CallConnect 0 (endpoint 3221225991 81)) ≡ false
unfolding missing encoding is_too_long encoded_length read_on
connect_elsewhere = refl

-- a wait in place of the connection;
no_connect : may_flow usual (run (take 5 late)) (CallWait [] None) ≡ false
unfolding missing encoding is_too_long encoded_length read_on
no_connect = refl
