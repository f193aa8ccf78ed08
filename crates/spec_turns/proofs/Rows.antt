-- A run written out in which a turn makes as many calls as it may.
use Rattle.std.proofs.Common.{◌≡◌, ℕ, List, [], ◌∷◌, ◌++◌, drop, Some, refl}
use Rattle.poll_list.specs.declared.Who.TheVariants.{Link, Udp}
use Rattle.world_face.specs.declared.Io.TheVariants.{Done, NotYet}
use Rattle.world_face.specs.declared.Got.TheVariants.{From}
use Rattle.world_face.specs.declared.Waited.TheVariants.{Ready}
use Rattle.world_face.specs.Journal.{Entry, Now, Wait, LinkWrite, UdpRecv}
use Rattle.world_face.specs.Frames.{encoding, missing, is_too_long, encoded_length}
use Rattle.slirp_settings.specs.Addresses.{Config}
use Rattle.slirp_settings.specs.Settings.{usual}
use Rattle.spec_run.specs.Laws.{Lawful}
use Rattle.spec_run.proofs.Checks.{is_sound}
use Rattle.spec_run.proofs.Rows.{hex, reading, run, writing}
use Rattle.spec_run.proofs.UdpRows.{peer, sent}
use Rattle.spec_turns.specs.Tally.{most_calls, tally}

-- frames that carry 60 octets of IPv4
abbrev narrow : Config
narrow = record usual { mtu = 60 }

-- a peer's 60 octets go to the guest in two parts, with their lengths
abbrev heard : List Entry
heard =
    sent ++ Wait (reading Link ∷ reading (Udp 0) ∷ []) (Some 240000) Ready (reading (Udp 0) ∷ []) ∷ Now 20
    ∷ UdpRecv 0 65507 (From peer 60) (hex "0102030405060708090a0b0c0d0e0f101112131415161718191a1b1c1d1e1f202122232425262728292a2b2c2d2e2f303132333435363738393a3b3c") ∷ []

abbrev first : List ℕ
first = hex "0000004a52540012345652550a00020208004500003c000020004011246ec63364010a00020f00070fa0004431d60102030405060708090a0b0c0d0e0f101112131415161718191a1b1c1d1e1f20"

abbrev second : List ℕ
second = hex "0000003e52540012345652550a0002020800450000300000000540114475c63364010a00020f2122232425262728292a2b2c2d2e2f303132333435363738393a3b3c"

-- The link takes ten octets of the first and is free again, but the run waits once more; in the turn that follows, for which nothing is reported, the clock is
-- asked, the rest goes out, and the link takes nothing of the second.
abbrev reached : List Entry
reached =
    heard ++ LinkWrite first (Done 10) ∷ Wait (writing Link ∷ []) (Some 240000) Ready (writing Link ∷ []) ∷ Now 21 ∷ Wait (reading Link ∷ []) (Some 240000) Ready [] ∷ Now 22
    ∷ LinkWrite (drop 10 first) (Done 68) ∷ LinkWrite second NotYet ∷ []

reached_lawful : Lawful narrow (run reached)
unfolding missing encoding is_too_long encoded_length
reached_lawful = is_sound narrow (run reached) refl

three_calls : (tally narrow (run reached)).calls ≡ 3
three_calls = refl

as_many : (tally narrow (run reached)).calls ≡ most_calls (tally narrow (run reached))
as_many = refl
