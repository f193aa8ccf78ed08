-- Runs in which an answer is cut, written out: those that are lawful, and those that break one sentence each.
use Rattle.std.proofs.Common.{◌≡◌, ℕ, true, List, [], ◌∷◌, ◌++◌, Some, refl}
use Rattle.poll_list.specs.declared.Who.TheVariants.{Link, Udp}
use Rattle.world_face.specs.declared.Io.TheVariants.{Done, NotYet}
use Rattle.world_face.specs.declared.Got.TheVariants.{From}
use Rattle.world_face.specs.declared.Waited.TheVariants.{Ready, Stop}
use Rattle.world_face.specs.Journal.{Entry, Now, Wait, LinkWrite, UdpRecv, Close, CallLinkRead, CallLinkWrite}
use Rattle.world_face.specs.Frames.{encoding, missing, is_too_long, encoded_length}
use Rattle.slirp_settings.specs.Addresses.{Config}
use Rattle.slirp_settings.specs.Settings.{usual}
use Rattle.spec_run.specs.Check.{may}
use Rattle.spec_run.specs.Laws.{Lawful, May}
use Rattle.spec_run.proofs.Checks.{is_sound}
use Rattle.spec_run.proofs.Rows.{hex, reading, run, writing}
use Rattle.spec_run.proofs.UdpRows.{peer, sent}

-- frames that carry 60 octets of IPv4
abbrev narrow : Config
narrow = record usual { mtu = 60 }

-- a peer sends 60 octets to port 4000 of a guest
abbrev payload : List ℕ
payload = hex "0102030405060708090a0b0c0d0e0f101112131415161718191a1b1c1d1e1f202122232425262728292a2b2c2d2e2f303132333435363738393a3b3c"

abbrev heard : List Entry
heard = sent ++ Wait (reading Link ∷ reading (Udp 0) ∷ []) (Some 240000) Ready (reading (Udp 0) ∷ []) ∷ Now 20 ∷ UdpRecv 0 65507 (From peer 60) payload ∷ []

-- the reply has two parts, of 40 and of 28 octets, with their lengths
abbrev first : List ℕ
first = hex "0000004a52540012345652550a00020208004500003c000020004011246ec63364010a00020f00070fa0004431d60102030405060708090a0b0c0d0e0f101112131415161718191a1b1c1d1e1f20"

abbrev second : List ℕ
second = hex "0000003e52540012345652550a0002020800450000300000000540114475c63364010a00020f2122232425262728292a2b2c2d2e2f303132333435363738393a3b3c"

abbrev in_two : List Entry
in_two = run (heard ++ LinkWrite first (Done 78) ∷ LinkWrite second (Done 66) ∷ Wait (reading Link ∷ reading (Udp 0) ∷ []) (Some 240000) Stop [] ∷ Close 0 ∷ [])

in_two_lawful : Lawful narrow in_two
unfolding missing encoding is_too_long encoded_length
in_two_lawful = is_sound narrow in_two refl

-- the link is blocked between them, and goes on there
abbrev blocked : List Entry
blocked = heard ++ LinkWrite first (Done 78) ∷ LinkWrite second NotYet ∷ Wait (writing Link ∷ []) (Some 240000) Ready (writing Link ∷ []) ∷ Now 21 ∷ []

blocked_lawful : Lawful narrow (run (blocked ++ LinkWrite second (Done 66) ∷ []))
unfolding missing encoding is_too_long encoded_length
blocked_lawful = is_sound narrow (run (blocked ++ LinkWrite second (Done 66) ∷ [])) refl

-- the next datagram has the next identification, in both of its parts
abbrev again : List Entry
again =
    blocked ++ LinkWrite second (Done 66) ∷ Wait (reading Link ∷ reading (Udp 0) ∷ []) (Some 240000) Ready (reading (Udp 0) ∷ []) ∷ Now 22 ∷ UdpRecv 0 65507 (From peer 60) payload
    ∷ LinkWrite (hex "0000004a52540012345652550a00020208004500003c000120004011246dc63364010a00020f00070fa0004431d60102030405060708090a0b0c0d0e0f101112131415161718191a1b1c1d1e1f20") (Done 78) ∷ []

again_may : may narrow (run again) (CallLinkWrite (hex "0000003e52540012345652550a0002020800450000300001000540114474c63364010a00020f2122232425262728292a2b2c2d2e2f303132333435363738393a3b3c")) ≡ true
unfolding missing encoding is_too_long encoded_length
again_may = refl

-- What may not come: the parts from the first on again; the later one first; another identification in it; an octet behind it;
from_the_first : May narrow (run blocked) (CallLinkWrite first) → ⊥
unfolding missing encoding is_too_long encoded_length
from_the_first = λ may. cc (may.answered)

later_first : May narrow (run heard) (CallLinkWrite second) → ⊥
unfolding missing encoding is_too_long encoded_length
later_first = λ may. cc (may.answered)

raised : May narrow (run (heard ++ LinkWrite first (Done 78) ∷ []))
    (CallLinkWrite (hex "0000003e52540012345652550a0002020800450000300001000540114474c63364010a00020f2122232425262728292a2b2c2d2e2f303132333435363738393a3b3c")) → ⊥
unfolding missing encoding is_too_long encoded_length
raised = λ may. cc (may.answered)

padded : May narrow (run (heard ++ LinkWrite first (Done 78) ∷ []))
    (CallLinkWrite (hex "0000003f52540012345652550a0002020800450000300000000540114475c63364010a00020f2122232425262728292a2b2c2d2e2f303132333435363738393a3b3c00")) → ⊥
unfolding missing encoding is_too_long encoded_length
padded = λ may. cc (may.answered)

-- the next frame is read between the parts, though it was reported
abbrev both_ready : List Entry
both_ready = sent ++ Wait (reading Link ∷ reading (Udp 0) ∷ []) (Some 240000) Ready (reading (Udp 0) ∷ reading Link ∷ []) ∷ Now 20 ∷ UdpRecv 0 65507 (From peer 60) payload ∷ []

read_between : May narrow (run (both_ready ++ LinkWrite first (Done 78) ∷ [])) (CallLinkRead 4) → ⊥
unfolding missing encoding is_too_long encoded_length
read_between = λ may. cc (may.answered)

read_behind : may narrow (run (both_ready ++ LinkWrite first (Done 78) ∷ LinkWrite second (Done 66) ∷ [])) (CallLinkRead 4) ≡ true
unfolding missing encoding is_too_long encoded_length
read_behind = refl
