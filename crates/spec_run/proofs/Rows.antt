-- Runs written out: those that are lawful, and those that break one sentence each.
use Rattle.std.proofs.Common.{◌≡◌, ℕ, ◌+◌, ◌-◌, ◌*◌, nat_lt, true, false, List, [], ◌∷◌, ◌++◌, length, reverse, codes, None, if◌then◌else◌, refl, ◌==◌, bytes_eq, sym, ◌∙◌, ap}
use Prim.Native.String.{String}
use Rattle.poll_list.specs.declared.Want.{Want}
use Rattle.poll_list.specs.declared.Who.{Who}
use Rattle.poll_list.specs.declared.Who.TheVariants.{Link}
use Rattle.world_face.specs.declared.Io.TheVariants.{Done, NotYet, End}
use Rattle.world_face.specs.declared.Waited.TheVariants.{Ready, Stop}
use Rattle.world_face.specs.Journal.{Entry, Now, Wait, LinkRead, LinkWrite, CallNow, CallWait, CallLinkRead, CallLinkWrite}
use Rattle.world_face.specs.Frames.{encoding, missing, is_too_long, encoded_length}
use Rattle.net_octets.specs.Octets.{four}
use Rattle.slirp_settings.specs.Settings.{usual}
use Rattle.spec_run.specs.Check.{may}
use Rattle.spec_run.specs.Laws.{Finished, Lawful, May}
use Rattle.spec_run.proofs.Bools.{and_both, same}
use Rattle.spec_run.proofs.Checks.{is_sound}

-- octets that differ
same_octets : (xs : List ℕ) → bytes_eq xs xs ≡ true
same_octets [] = refl
same_octets (x ∷ xs) = and_both (x == x) (bytes_eq xs xs) (same x) (same_octets xs)

differs : {xs ys : List ℕ} → xs ≡ ys → bytes_eq xs ys ≡ false → ⊥
differs {xs} {ys} is other = let one : bytes_eq xs ys ≡ true = ap (bytes_eq xs) (sym is) ∙ same_octets xs in cc

abbrev pub digit : ℕ → ℕ
digit c = if nat_lt c 58 then c - 48 else c - 87

abbrev pub pairs : List ℕ → List ℕ
pairs [] = []
pairs (a ∷ []) = []
pairs (a ∷ b ∷ rest) = (16 * digit a + digit b) ∷ pairs rest

abbrev pub hex : String → List ℕ
hex text = pairs (codes text)

-- an ARP request for the host's address, the same for another guest's, and the reply with its length
abbrev pub request : List ℕ
request = hex "ffffffffffff525400123456080600010800060400015254001234560a00020f0000000000000a000202"

abbrev pub request_for_other : List ℕ
request_for_other = hex "ffffffffffff525400123456080600010800060400015254001234560a00020f0000000000000a000209"

abbrev pub reply : List ℕ
reply = hex "0000002a52540012345652550a0002020806000108000604000252550a0002020a0002025254001234560a00020f"

abbrev pub reading : Who → Want
reading who = record { of = who; read = true; write = false }

abbrev pub writing : Who → Want
writing who = record { of = who; read = false; write = true }

-- two reads, by which this frame comes
abbrev pub comes : List ℕ → List Entry
comes frame = LinkRead 4 (Done 4) (four (length frame)) ∷ LinkRead (length frame) (Done (length frame)) frame ∷ []

-- a trace, written oldest first
abbrev pub run : List Entry → List Entry
run entries = reverse entries

abbrev pub begins : List Entry
begins = Now 0 ∷ Wait (reading Link ∷ []) None Ready (reading Link ∷ []) ∷ Now 5 ∷ []

-- nothing comes, and the run is stopped
abbrev pub idle : List Entry
idle = run (Now 0 ∷ Wait (reading Link ∷ []) None Stop [] ∷ [])

idle_lawful : Lawful usual idle
idle_lawful = is_sound usual idle refl

idle_finished : Finished usual idle
idle_finished = record { ended = refl; none_due = refl; closed = refl }

-- the request is answered in one write
abbrev pub answered : List Entry
answered = run (begins ++ comes request ++ LinkWrite reply (Done 46) ∷ Wait (reading Link ∷ []) None Stop [] ∷ [])

answered_lawful : Lawful usual answered
unfolding missing encoding is_too_long encoded_length
answered_lawful = is_sound usual answered refl

answered_finished : Finished usual answered
unfolding missing is_too_long encoded_length
answered_finished = record { ended = refl; none_due = refl; closed = refl }

-- one for another guest isn't
abbrev pub not_ours : List Entry
not_ours = run (begins ++ comes request_for_other ++ Wait (reading Link ∷ []) None Stop [] ∷ [])

not_ours_lawful : Lawful usual not_ours
unfolding missing encoding is_too_long encoded_length
not_ours_lawful = is_sound usual not_ours refl

-- two octets of the reply are taken; when the link is ready the other 44 go, and nothing before them
abbrev pub taken_in_part : List Entry
taken_in_part =
    run (begins ++ comes request ++ LinkWrite reply (Done 2) ∷ Wait (writing Link ∷ []) None Ready (writing Link ∷ []) ∷ Now 6
    ∷ LinkWrite (hex "002a52540012345652550a0002020806000108000604000252550a0002020a0002025254001234560a00020f") (Done 44) ∷ Wait (reading Link ∷ []) None Stop [] ∷ [])

taken_in_part_lawful : Lawful usual taken_in_part
unfolding missing encoding is_too_long encoded_length
taken_in_part_lawful = is_sound usual taken_in_part refl

-- none is taken: the whole reply is offered again
abbrev pub not_taken : List Entry
not_taken = run (begins ++ comes request ++ LinkWrite reply NotYet ∷ Wait (writing Link ∷ []) None Ready (writing Link ∷ []) ∷ Now 6 ∷ LinkWrite reply (Done 46) ∷ Wait
    (reading Link ∷ []) None Stop [] ∷ [])

not_taken_lawful : Lawful usual not_taken
unfolding missing encoding is_too_long encoded_length
not_taken_lawful = is_sound usual not_taken refl

-- an echo request for the host, the same with another last octet, and the reply with its length; the second reply has the next identification
abbrev pub ping : List ℕ
ping = hex "52550a00020252540012345608004500001e00040000400162cb0a00020f0a00020208008f94000100016869"

abbrev pub spoilt_ping : List ℕ
spoilt_ping = hex "52550a00020252540012345608004500001e00040000400162cb0a00020f0a00020208008f9400010001686a"

abbrev pub pong : List ℕ
pong = hex "0000002c52540012345652550a00020208004500001e00000000400162cf0a0002020a00020f00009794000100016869"

abbrev pub second_pong : List ℕ
second_pong = hex "0000002c52540012345652550a00020208004500001e00010000400162ce0a0002020a00020f00009794000100016869"

-- both are answered
abbrev pub pinged : List Entry
pinged =
    run (begins ++ comes ping ++ LinkWrite pong (Done 48) ∷ Wait (reading Link ∷ []) None Ready (reading Link ∷ []) ∷ Now 6 ∷ []
    ++ comes ping ++ LinkWrite second_pong (Done 48) ∷ Wait (reading Link ∷ []) None Stop [] ∷ [])

pinged_lawful : Lawful usual pinged
unfolding missing encoding is_too_long encoded_length
pinged_lawful = is_sound usual pinged refl

-- one whose sum doesn't hold isn't
spoilt_may_pass : may usual (run (begins ++ comes spoilt_ping)) (CallWait (reading Link ∷ []) None) ≡ true
unfolding missing encoding is_too_long encoded_length
spoilt_may_pass = refl

spoilt_unanswered : May usual (run (begins ++ comes spoilt_ping)) (CallLinkWrite pong) → ⊥
unfolding missing encoding is_too_long encoded_length
spoilt_unanswered = λ may. cc (may.answered)

same_identification : May usual (run (begins ++ comes ping ++ LinkWrite pong (Done 48) ∷ Wait (reading Link ∷ []) None Ready (reading Link ∷ []) ∷ Now 6 ∷ [] ++ comes ping)) (CallLinkWrite pong) → ⊥
unfolding missing encoding is_too_long encoded_length
same_identification = λ may. cc (may.answered)

-- What may not come: the next frame before the answer is out; another hardware address in it; another length before it; an answer that nobody asked for;
reads_on_unanswered : May usual (run (begins ++ comes request)) (CallLinkRead 4) → ⊥
unfolding missing encoding is_too_long encoded_length
reads_on_unanswered = λ may. cc (may.answered)

other_address : May usual (run (begins ++ comes request)) (CallLinkWrite (hex "0000002a52540012345652550a0002020806000108000604000252550a0002030a0002025254001234560a00020f")) → ⊥
unfolding missing encoding is_too_long encoded_length
other_address = λ may. cc (may.answered)

no_length : May usual (run (begins ++ comes request)) (CallLinkWrite (hex "52540012345652550a0002020806000108000604000252550a0002020a0002025254001234560a00020f")) → ⊥
unfolding missing encoding is_too_long encoded_length
no_length = λ may. differs may.framed.0.0 refl

unasked : May usual (run (begins ++ comes request_for_other)) (CallLinkWrite reply) → ⊥
unfolding missing encoding is_too_long encoded_length
unasked = λ may. cc (may.answered)

-- the answer twice; the rest from its start again; a write while the link is blocked;
twice : May usual (run (begins ++ comes request ++ LinkWrite reply (Done 46) ∷ [])) (CallLinkWrite reply) → ⊥
unfolding missing encoding is_too_long encoded_length
twice = λ may. cc (may.answered)

from_the_start : May usual (run (begins ++ comes request ++ LinkWrite reply (Done 2) ∷ Wait (writing Link ∷ []) None Ready (writing Link ∷ []) ∷ Now 6 ∷ [])) (CallLinkWrite reply) → ⊥
unfolding missing encoding is_too_long encoded_length
from_the_start = λ may. differs {xs = reply} {ys = hex "002a52540012345652550a0002020806000108000604000252550a0002020a0002025254001234560a00020f"} may.framed.0 refl

while_blocked : May usual (run (begins ++ comes request ++ LinkWrite reply NotYet ∷ [])) (CallLinkWrite reply) → ⊥
unfolding missing encoding is_too_long encoded_length
while_blocked = λ may. cc (may.framed.1)

-- a second frame for one report; a read of another size; a read that wasn't reported;
second_frame : May usual (run (begins ++ comes request_for_other)) (CallLinkRead 4) → ⊥
unfolding missing encoding is_too_long encoded_length
second_frame = λ may. cc (may.served)

other_size : May usual (run begins) (CallLinkRead 5) → ⊥
unfolding missing
other_size = λ may. cc (may.framed)

unreported : May usual (run (Now 0 ∷ Wait (reading Link ∷ []) None Ready [] ∷ Now 5 ∷ [])) (CallLinkRead 4) → ⊥
unfolding missing
unreported = λ may. cc (may.served)

-- no clock after a wait; a call after the end; a wait past the last
no_clock : May usual (run (Now 0 ∷ Wait (reading Link ∷ []) None Ready (reading Link ∷ []) ∷ [])) (CallLinkRead 4) → ⊥
unfolding missing
no_clock = λ may. cc (may.due)

after_end : May usual idle CallNow → ⊥
after_end = λ may. cc (may.place)

after_link_end : May usual (run (begins ++ LinkRead 4 End [] ∷ [])) (CallWait [] None) → ⊥
unfolding missing is_too_long encoded_length
after_link_end = λ may. cc (may.place)

past_the_last : May (record usual { turns = 1 }) (run begins) (CallWait [] None) → ⊥
past_the_last = λ may. cc (may.place)
