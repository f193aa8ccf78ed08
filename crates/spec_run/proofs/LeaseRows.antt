-- Runs with messages of DHCP written out: those that are lawful, and those that break one sentence each.
use Rattle.std.proofs.Common.{◌≡◌, ℕ, ◌+◌, zero, suc, Bool, true, false, List, [], ◌∷◌, ◌++◌, map, replicate, None, refl, sym, ◌∙◌}
use Rattle.poll_list.specs.declared.Who.TheVariants.{Link}
use Rattle.world_face.specs.declared.Io.TheVariants.{Done}
use Rattle.world_face.specs.declared.Waited.TheVariants.{Ready, Stop}
use Rattle.world_face.specs.Journal.{Entry, Now, Wait, LinkWrite, CallLinkRead, CallLinkWrite}
use Rattle.world_face.specs.Frames.{encoding, missing, is_too_long, encoded_length}
use Rattle.slirp_settings.specs.Addresses.{Config}
use Rattle.slirp_settings.specs.Settings.{usual}
use Rattle.spec_run.specs.Check.{may}
use Rattle.spec_run.specs.Laws.{Finished, Lawful, May}
use Rattle.spec_run.proofs.Checks.{is_sound}
use Rattle.spec_run.proofs.Rows.{hex, reading, comes, run}
use Rattle.rules_dhcp.specs.declared.Lease.{Lease}
use Rattle.rules_dhcp.specs.History.{Received, leases_over}
use Rattle.rules_dhcp.specs.Leases.{is_of}
use Rattle.rules_dhcp.specs.Serving.{leases_after}
use Rattle.rules_dhcp.specs.Messages.{read_message}
use Rattle.rules_dhcp.specs.Replies.{replied_octets}
use Rattle.net_octets.specs.Octets.{part}
use Rattle.tlv_table.specs.Reading as Reading
use Rattle.spec_run.specs.Leasing.{leases}
use Rattle.spec_run.specs.Messages.{messages}

-- a test that is passed doesn't fail
not_so : {b : Bool} → b ≡ true → b ≡ false → ⊥
not_so {b} is other = let never : true ≡ false = sym is ∙ other in cc

abbrev pub zeros : ℕ → List ℕ
zeros count = replicate count 0

-- DISCOVER of a client without an address, and the OFFER of 10.0.2.15, with its length
abbrev pub discover : List ℕ
discover = hex "ffffffffffff52540012345608004500011000010000401179dd00000000ffffffff0044004300fc642901010600deadbeef0005800000000000000000000000000000000000525400123456"
    ++ zeros 202 ++ hex "63825363350101ff"

abbrev pub offer : List ℕ
offer = hex "00000156ffffffffffff52550a0002020800450001480000000040116da40a000202ffffffff004300440134a6d502010600deadbeef00008000000000000a00020f0a00020200000000525400123456"
    ++ zeros 202 ++ hex "6382536335010236040a0002023304000151800104ffffff0003040a000202ff" ++ zeros 32

-- REQUEST of that address, and the ACK
abbrev pub request : List ℕ
request = hex "ffffffffffff52540012345608004500011c00010000401179d100000000ffffffff004400430108489101010600deadbeef0005800000000000000000000000000000000000525400123456"
    ++ zeros 202 ++ hex "6382536335010332040a00020f36040a000202ff"

abbrev pub ack : List ℕ
ack = hex "00000156ffffffffffff52550a0002020800450001480001000040116da30a000202ffffffff004300440134a3d502010600deadbeef00008000000000000a00020f0a00020200000000525400123456"
    ++ zeros 202 ++ hex "6382536335010536040a0002023304000151800104ffffff0003040a000202ff" ++ zeros 32

-- REQUEST of 10.0.2.200, and the NAK
abbrev pub request_outside : List ℕ
request_outside = hex "ffffffffffff52540012345608004500011600010000401179d700000000ffffffff00440043010295de01010600deadbeef0005800000000000000000000000000000000000525400123456"
    ++ zeros 202 ++ hex "6382536335010332040a0002c8ff"

abbrev pub nak : List ℕ
nak = hex "00000156ffffffffffff52550a0002020800450001480002000040116da20a000202ffffffff0043004401344b7a02010600deadbeef0000800000000000000000000000000000000000525400123456"
    ++ zeros 202 ++ hex "6382536335010636040a000202ff" ++ zeros 50

abbrev pub lends : List Entry
lends = run ((Now 0 ∷ Wait (reading Link ∷ []) None Ready (reading Link ∷ []) ∷ Now 5 ∷ []) ++ comes discover ++ (LinkWrite offer (Done 346) ∷ Wait (reading Link ∷ []) None Ready
    (reading Link ∷ []) ∷ Now 6 ∷ []) ++ comes request ++ (LinkWrite ack (Done 346) ∷ Wait (reading Link ∷ []) None Ready (reading Link ∷ []) ∷ Now 7 ∷ []) ++ comes request_outside
    ++ (LinkWrite nak (Done 346) ∷ Wait (reading Link ∷ []) None Stop [] ∷ []))

lends_lawful : Lawful usual lends
unfolding missing encoding is_too_long encoded_length Reading.read_on
lends_lawful = is_sound usual lends refl

lends_finished : Finished usual lends
unfolding missing encoding is_too_long encoded_length Reading.read_on
lends_finished = record { ended = refl; none_due = refl; closed = refl }

-- the three messages that came are its history, and the leases are those that they leave
history : map (λ (r : Received). r.at) (messages usual lends) ≡ 7 ∷ 6 ∷ 5 ∷ []
unfolding missing encoding is_too_long encoded_length Reading.read_on
history = refl

leased_to : List Lease → Bool
leased_to [] = false
leased_to (lease ∷ others) = is_of (record { 0 = 82 ∷ 84 ∷ 0 ∷ 18 ∷ 52 ∷ 86 ∷ [] }) lease

leased : leased_to (leases_over usual (messages usual lends)) ≡ true
unfolding missing encoding is_too_long encoded_length Reading.read_on leased_to
leased = refl

-- DISCOVER without the end of options is none
abbrev pub endless : List ℕ
endless = hex "ffffffffffff52540012345608004500010f00010000401179de00000000ffffffff0044004300fb652a01010600deadbeef0005800000000000000000000000000000000000525400123456"
    ++ zeros 202 ++ hex "63825363350101"

abbrev pub unheard : List Entry
unheard = run ((Now 0 ∷ Wait (reading Link ∷ []) None Ready (reading Link ∷ []) ∷ Now 5 ∷ []) ++ comes endless ++ (Wait (reading Link ∷ []) None Stop [] ∷ []))

unheard_lawful : Lawful usual unheard
unfolding missing encoding is_too_long encoded_length Reading.read_on
unheard_lawful = is_sound usual unheard refl

unheard_finished : Finished usual unheard
unfolding missing encoding is_too_long encoded_length Reading.read_on
unheard_finished = record { ended = refl; none_due = refl; closed = refl }

-- Of 17 clients within a minute the first 16 are offered the 16 addresses, and the last none.
abbrev body_of : ℕ → List ℕ
body_of k = hex "01010600deadbeef00058000" ++ zeros 16 ++ hex "5254001234" ++ (k ∷ []) ++ zeros 202 ++ hex "63825363350101ff"

abbrev after_clients : ℕ → List Lease
after_clients zero = leases usual []
after_clients (suc k) = leases_after usual (5 + k) (body_of k) (after_clients k)

abbrev offered_to : ℕ → List ℕ
offered_to k = part (replied_octets usual (5 + k) (after_clients k) (read_message (body_of k))) 16 4

first_offer : offered_to 0 ≡ hex "0a00020f"
unfolding Reading.read_on
first_offer = refl

last_offer : offered_to 15 ≡ hex "0a00021e"
unfolding Reading.read_on
last_offer = refl

no_offer : replied_octets usual 21 (after_clients 16) (read_message (body_of 16)) ≡ []
unfolding Reading.read_on
no_offer = refl

-- without DHCP a DISCOVER is ignored, and a resolver makes a name server that is told of, where names are served
abbrev without_dhcp : Config
without_dhcp = record usual { version = 2; no_dhcp = true }

abbrev begins : List Entry
begins = Now 0 ∷ Wait (reading Link ∷ []) None Ready (reading Link ∷ []) ∷ Now 5 ∷ []

abbrev asked : List Entry
asked = begins ++ comes discover

abbrev ignored : List Entry
ignored = run (asked ++ Wait (reading Link ∷ []) None Stop [] ∷ [])

ignored_lawful : Lawful without_dhcp ignored
unfolding missing encoding is_too_long encoded_length Reading.read_on
ignored_lawful = is_sound without_dhcp ignored refl

ignored_finished : Finished without_dhcp ignored
unfolding missing encoding is_too_long encoded_length Reading.read_on
ignored_finished = record { ended = refl; none_due = refl; closed = refl }

answered_without_dhcp : May without_dhcp (run asked) (CallLinkWrite offer) → ⊥
unfolding missing encoding is_too_long encoded_length Reading.read_on
answered_without_dhcp = λ may. not_so may.answered refl

-- What may not come: an offer of another address; one with wrong sums;
abbrev offer_of_another : List ℕ
offer_of_another = hex "00000156ffffffffffff52550a0002020800450001480000000040116da40a000202ffffffff004300440134a6d502010600deadbeef00008000000000000a0002100a00020200000000525400123456"
    ++ zeros 202 ++ hex "6382536335010236040a0002023304000151800104ffffff0003040a000202ff" ++ zeros 32

another_address : May usual (run asked) (CallLinkWrite offer_of_another) → ⊥
unfolding missing encoding is_too_long encoded_length Reading.read_on
another_address = λ may. not_so may.answered refl

-- to the client alone, which has no address yet; to the port from which it asked; a lease in milliseconds;
abbrev offer_to_one : List ℕ
offer_to_one = hex "0000015652540012345652550a0002020800450001480000000040116da40a000202ffffffff004300440134a6d502010600deadbeef00008000000000000a00020f0a00020200000000525400123456"
    ++ zeros 202 ++ hex "6382536335010236040a0002023304000151800104ffffff0003040a000202ff" ++ zeros 32

to_one : May usual (run asked) (CallLinkWrite offer_to_one) → ⊥
unfolding missing encoding is_too_long encoded_length Reading.read_on
to_one = λ may. not_so may.answered refl

abbrev offer_for_long : List ℕ
offer_for_long = hex "00000156ffffffffffff52550a0002020800450001480000000040116da40a000202ffffffff004300440134a6d502010600deadbeef00008000000000000a00020f0a00020200000000525400123456"
    ++ zeros 202 ++ hex "6382536335010236040a000202330405265c000104ffffff0003040a000202ff" ++ zeros 32

for_long : May usual (run asked) (CallLinkWrite offer_for_long) → ⊥
unfolding missing encoding is_too_long encoded_length Reading.read_on
for_long = λ may. not_so may.answered refl

-- an answer to what is no message; an ACK where the address can't be had; an offer twice; the next frame before the offer is out;
to_no_message : May usual (run (begins ++ comes endless)) (CallLinkWrite offer) → ⊥
unfolding missing encoding is_too_long encoded_length Reading.read_on
to_no_message = λ may. not_so may.answered refl

abbrev outside : List Entry
outside = begins ++ comes request_outside

abbrev refusal : List ℕ
refusal = hex "00000156ffffffffffff52550a0002020800450001480000000040116da40a000202ffffffff0043004401344b7a02010600deadbeef0000800000000000000000000000000000000000525400123456"
    ++ zeros 202 ++ hex "6382536335010636040a000202ff" ++ zeros 50

abbrev consent : List ℕ
consent = hex "00000156ffffffffffff52550a0002020800450001480000000040116da40a000202ffffffff004300440134a3d502010600deadbeef00008000000000000a00020f0a00020200000000525400123456"
    ++ zeros 202 ++ hex "6382536335010536040a0002023304000151800104ffffff0003040a000202ff" ++ zeros 32

refuses : may usual (run outside) (CallLinkWrite refusal) ≡ true
unfolding missing encoding is_too_long encoded_length Reading.read_on
refuses = refl

consents : May usual (run outside) (CallLinkWrite consent) → ⊥
unfolding missing encoding is_too_long encoded_length Reading.read_on
consents = λ may. not_so may.answered refl

twice : May usual (run (asked ++ LinkWrite offer (Done 346) ∷ [])) (CallLinkWrite offer) → ⊥
unfolding missing encoding is_too_long encoded_length Reading.read_on
twice = λ may. not_so may.answered refl

reads_on : May usual (run asked) (CallLinkRead 4) → ⊥
unfolding missing encoding is_too_long encoded_length Reading.read_on
reads_on = λ may. not_so may.answered refl
