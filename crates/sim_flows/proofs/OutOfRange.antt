-- A lawful run in which a port isn't in range: a reset that answers what came last is read as the one that a flow owes.
use Rattle.std.proofs.Common.{◌≡◌, ℕ, Bool, true, false, List, [], ◌∷◌, ◌++◌, Option, Some, None, option_and_then, refl}
use Rattle.poll_list.specs.declared.Who.TheVariants.{Link}
use Rattle.world_face.specs.declared.Io.TheVariants.{Done}
use Rattle.world_face.specs.declared.Joined.TheVariants.{Failed as JoinFailed}
use Rattle.world_face.specs.declared.Waited.TheVariants.{Ready}
use Rattle.world_face.specs.Journal.{Entry, Now, Wait, LinkRead, Connected, Close}
use Rattle.world_face.specs.Frames.{encoding, missing, is_too_long, encoded_length}
use Rattle.tlv_table.specs.Reading.{read_on}
use Rattle.slirp_settings.specs.Settings.{usual}
use Rattle.spec_flows.specs.Book.{book}
use Rattle.spec_flows.specs.Flows.{Flow, is_strange, owner}
use Rattle.spec_flows.specs.Segments.{OnTuple, segment_in}
use Rattle.spec_flows.proofs.Writing.{hex, want, run}
use Rattle.spec_flows.proofs.Openings.{called}
use Rattle.spec_run.specs.Answers.{left}
use Rattle.spec_run.specs.Laws.{Lawful}
use Rattle.spec_run.proofs.Checks.{is_sound}

-- the host doesn't connect, the socket is closed, and the guest's FIN comes before the reset goes out, to port 65616 in two octets
abbrev pub astray : List Entry
astray =
    called
    ++ Now 1004
    ∷ Connected 0 JoinFailed
    ∷ Close 0
    ∷ Wait (want Link true false ∷ []) None Ready (want Link true false ∷ [])
    ∷ Now 1005
    ∷ LinkRead 4 (Done 4) (hex "00000036")
    ∷ LinkRead 54 (Done 54) (hex "52550a000202525400123456080045000028000300004006acb70a00020fc00002070fa0" ++ 256 ∷ 80 ∷ hex "000003e8000000005001ffffcdf40000")
    ∷ []

astray_lawful : Lawful usual (run astray)
unfolding missing encoding is_too_long encoded_length read_on
astray_lawful = is_sound usual (run astray) refl

-- what is left: the reset that the flow owes
abbrev its_reset : List ℕ
its_reset = hex "52540012345652550a000202080045000028000000004006acbac00002070a00020f00500fa000000000000003e950140000cde10000"

reset_left : left usual (run astray) ≡ its_reset ∷ []
unfolding missing encoding is_too_long encoded_length read_on
reset_left = refl

-- whether it is strange to the flow of its tuple
abbrev strange_to : OnTuple → Option Flow → Option Bool
strange_to on None = None
strange_to on (Some f) = Some (is_strange on.segment f)

not_strange : option_and_then (λ on. strange_to on (owner on.tuple (book usual (run astray)).flows)) (segment_in its_reset) ≡ Some false
unfolding missing encoding is_too_long encoded_length read_on
not_strange = refl
