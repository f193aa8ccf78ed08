-- A run with TCP written out: a host that takes octets in parts.
use Rattle.std.proofs.Common.{true, false, List, [], ◌∷◌, ◌++◌, None, refl}
use Rattle.poll_list.specs.declared.Who.TheVariants.{Link, Tcp}
use Rattle.world_face.specs.declared.Io.TheVariants.{Done, NotYet}
use Rattle.world_face.specs.declared.Waited.TheVariants.{Ready, Stop}
use Rattle.world_face.specs.Journal.{Entry, Now, Wait, TcpWrite, Close}
use Rattle.world_face.specs.Frames.{encoding, missing, is_too_long, encoded_length}
use Rattle.tlv_table.specs.Reading.{read_on}
use Rattle.slirp_settings.specs.Settings.{usual}
use Rattle.spec_flows.specs.Laws.{KeepsFlows}
use Rattle.spec_flows.proofs.Checks.{is_sound}
use Rattle.spec_flows.proofs.Writing.{hex, want, run}
use Rattle.spec_flows.proofs.Openings.{opened, ten_taken}

-- three octets are taken, none, and the other seven
abbrev pub short_writes : List Entry
short_writes =
    opened
    ++ ten_taken
    ++ Wait (want Link true false ∷ want (Tcp 0) true true ∷ []) None Ready (want (Tcp 0) false true ∷ [])
    ∷ Now 1021
    ∷ TcpWrite 0 (hex "00010203040506070809") (Done 3)
    ∷ Wait (want Link true false ∷ want (Tcp 0) true true ∷ []) None Ready (want (Tcp 0) false true ∷ [])
    ∷ Now 1022
    ∷ TcpWrite 0 (hex "03040506070809") NotYet
    ∷ Wait (want Link true false ∷ want (Tcp 0) true true ∷ []) None Ready (want (Tcp 0) false true ∷ [])
    ∷ Now 1023
    ∷ TcpWrite 0 (hex "03040506070809") (Done 7)
    ∷ Wait (want Link true false ∷ want (Tcp 0) true false ∷ []) None Stop []
    ∷ Close 0
    ∷ []

short_writes_keeps : KeepsFlows usual (run short_writes)
unfolding missing encoding is_too_long encoded_length read_on
short_writes_keeps = is_sound usual (run short_writes) refl
