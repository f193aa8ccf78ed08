-- Runs with UDP written out: those that are lawful, and those that break one sentence each.
use Rattle.std.proofs.Common.{◌≡◌, ℕ, true, List, [], ◌∷◌, ◌++◌, Some, None, refl, ap}
use Rattle.poll_list.specs.declared.Who.TheVariants.{Link, Udp}
use Rattle.world_face.specs.declared.Io.TheVariants.{Done}
use Rattle.world_face.specs.declared.Made.TheVariants.{Done as MadeDone, Failed as MadeFailed}
use Rattle.world_face.specs.declared.Sent.TheVariants.{Done as SentDone, NotYet as SentNotYet, Failed as SentFailed}
use Rattle.world_face.specs.declared.Got.TheVariants.{From}
use Rattle.world_face.specs.declared.Waited.TheVariants.{Ready, Stop}
use Rattle.world_face.specs.Journal.{Entry, Call, Now, Wait, LinkWrite, UdpOpen, UdpSend, UdpRecv, Close, CallWait, CallLinkRead, CallLinkWrite, CallUdpOpen, CallUdpSend, CallUdpRecv, CallClose}
use Rattle.world_face.specs.Frames.{encoding, missing, is_too_long, encoded_length}
use Rattle.net_octets.specs.declared.Endpoint.{Endpoint}
use Rattle.slirp_settings.specs.Addresses.{endpoint}
use Rattle.host_policy.specs.Targets.{anywhere}
use Rattle.slirp_settings.specs.Settings.{usual}
use Rattle.spec_run.specs.Check.{may}
use Rattle.spec_run.specs.Laws.{Finished, Lawful, May}
use Rattle.spec_run.proofs.Checks.{is_sound}
use Rattle.spec_run.proofs.Rows.{hex, reading, comes, run}

-- 192.0.2.7:9 and 198.51.100.1:7
abbrev pub target_of_row : Endpoint
target_of_row = endpoint 0xc0000207 9

abbrev pub peer : Endpoint
peer = endpoint 0xc6336401 7

abbrev pub begins : List Entry
begins = Now 0 ∷ Wait (reading Link ∷ []) None Ready (reading Link ∷ []) ∷ Now 5 ∷ []

-- two octets from port 4000 of a guest to the target, and a peer's two octets to that port, with the length
abbrev pub datagram : List ℕ
datagram = hex "52550a00020252540012345608004500001e000100004011acb80a00020fc00002070fa00009000a00006869"

abbrev pub answer : List ℕ
answer = hex "0000002c52540012345652550a00020208004500001e000000004011448cc63364010a00020f00070fa0000a4a846f6b"

-- the datagram goes out on a new socket
abbrev pub sent : List Entry
sent = begins ++ comes datagram ++ UdpOpen 0 anywhere MadeDone ∷ UdpSend 0 target_of_row (104 ∷ 105 ∷ []) SentDone ∷ []

abbrev pub heard : List Entry
heard = sent ++ Wait (reading Link ∷ reading (Udp 0) ∷ []) (Some 240000) Ready (reading (Udp 0) ∷ []) ∷ Now 20 ∷ UdpRecv 0 65507 (From peer 2) (111 ∷ 107 ∷ []) ∷ []

-- and what the peer says goes to the port that asked
abbrev pub exchange : List Entry
exchange = run (heard ++ LinkWrite answer (Done 48) ∷ Wait (reading Link ∷ reading (Udp 0) ∷ []) (Some 240000) Stop [] ∷ Close 0 ∷ [])

exchange_lawful : Lawful usual exchange
unfolding missing encoding is_too_long encoded_length
exchange_lawful = is_sound usual exchange refl

exchange_finished : Finished usual exchange
unfolding missing is_too_long encoded_length
exchange_finished = record { ended = refl; none_due = refl; closed = refl }

-- a datagram to 127.0.0.1, which goes nowhere, and what the guest is told of it, with the length
abbrev pub denied : List ℕ
denied = hex "52550a00020252540012345608004500001e000200004011efbd0a00020f7f0000010fa00009000a00006869"

abbrev pub unreachable : List ℕ
unreachable = hex "0000004652540012345652550a00020208004500003800000000400162b50a0002020a00020f030aed42000000004500001e000200004011efbd0a00020f7f0000010fa00009000a0000"

abbrev pub refused : List Entry
refused = run (begins ++ comes denied ++ LinkWrite unreachable (Done 74) ∷ Wait (reading Link ∷ []) None Stop [] ∷ [])

refused_lawful : Lawful usual refused
unfolding missing encoding is_too_long encoded_length
refused_lawful = is_sound usual refused refl

-- A second datagram goes out on the same socket; after 240,000 milliseconds the socket may be closed.
abbrev pub twice : List Entry
twice = sent ++ Wait (reading Link ∷ reading (Udp 0) ∷ []) (Some 240000) Ready (reading Link ∷ []) ∷ Now 100005 ∷ comes datagram ++ UdpSend 0 target_of_row (104 ∷ 105 ∷ []) SentNotYet ∷ []

abbrev pub woken_at : ℕ → List Entry
woken_at moment = twice ++ Wait (reading Link ∷ reading (Udp 0) ∷ []) (Some 240000) Ready [] ∷ Now moment ∷ []

abbrev pub ended_by_its_life : List Entry
ended_by_its_life = run (woken_at 340005 ++ Close 0 ∷ Wait (reading Link ∷ []) None Stop [] ∷ [])

ended_by_its_life_lawful : Lawful usual ended_by_its_life
unfolding missing encoding is_too_long encoded_length
ended_by_its_life_lawful = is_sound usual ended_by_its_life refl

closed_too_soon : May usual (run (woken_at 340004)) (CallClose 0) → ⊥
unfolding missing encoding is_too_long encoded_length
closed_too_soon = λ may. cc (may.socket)

-- where no socket can be had the network isn't reached, and the next socket has the next number
abbrev pub unreached : List ℕ
unreached = hex "0000004652540012345652550a00020208004500003800000000400162b50a0002020a00020f0300ed4c000000004500001e000100004011acb80a00020fc00002070fa00009000a0000"

abbrev pub unopened : List Entry
unopened = run (begins ++ comes datagram ++ UdpOpen 0 anywhere MadeFailed ∷ LinkWrite unreached (Done 74) ∷ Wait (reading Link ∷ []) None Ready (reading Link ∷ []) ∷ Now 6 ∷ []
    ++ comes datagram ++ UdpOpen 1 anywhere MadeDone ∷ UdpSend 1 target_of_row (104 ∷ 105 ∷ []) SentFailed ∷ [])

unopened_lawful : Lawful usual unopened
unfolding missing encoding is_too_long encoded_length
unopened_lawful = is_sound usual unopened refl

unopened_may : may usual unopened
    (CallLinkWrite (hex "0000004652540012345652550a00020208004500003800010000400162b40a0002020a00020f0300ed4c000000004500001e000100004011acb80a00020fc00002070fa00009000a0000")) ≡ true
unfolding missing encoding is_too_long encoded_length
unopened_may = refl

unopened_waits : May usual unopened (CallLinkRead 4) → ⊥
unfolding missing encoding is_too_long encoded_length
unopened_waits = λ may. cc (may.answered)

-- the port to which a datagram is sent
abbrev port_of : Call → ℕ
port_of (CallUdpSend socket to octets) = to.port
port_of _ = 0

apart : peer.port ≡ target_of_row.port → ⊥
apart is = cc

-- What may not come: nothing at all after a datagram that goes out; part of it; another target; another socket;
unsent : May usual (run (begins ++ comes datagram)) (CallWait (reading Link ∷ []) None) → ⊥
unfolding missing encoding is_too_long encoded_length
unsent = λ may. cc (may.due)

cut : May usual (run (begins ++ comes datagram ++ UdpOpen 0 anywhere MadeDone ∷ [])) (CallUdpSend 0 target_of_row (104 ∷ [])) → ⊥
unfolding missing encoding is_too_long encoded_length
cut = λ may. cc (may.due)

elsewhere : May usual (run (begins ++ comes datagram ++ UdpOpen 0 anywhere MadeDone ∷ [])) (CallUdpSend 0 peer (104 ∷ 105 ∷ [])) → ⊥
unfolding missing encoding is_too_long encoded_length
elsewhere = λ may. apart (ap port_of may.due)

second_socket : May usual (run (sent ++ Wait (reading Link ∷ reading (Udp 0) ∷ []) (Some 240000) Ready (reading Link ∷ []) ∷ Now 6 ∷ comes datagram)) (CallUdpOpen 1 anywhere) → ⊥
unfolding missing encoding is_too_long encoded_length
second_socket = λ may. cc (may.due)

-- a datagram that goes nowhere is sent; the answer goes to another port; the next datagram is received before the answer is out; a socket is closed twice
sent_though_denied : May usual (run (begins ++ comes denied)) (CallUdpOpen 0 anywhere) → ⊥
unfolding missing encoding is_too_long encoded_length
sent_though_denied = λ may. cc (may.place)

other_port : May usual (run heard) (CallLinkWrite (hex "0000002c52540012345652550a00020208004500001e000000004011448cc63364010a00020f00070fa1000a4a836f6b")) → ⊥
unfolding missing encoding is_too_long encoded_length
other_port = λ may. cc (may.answered)

received_unanswered : May usual (run heard) (CallUdpRecv 0 65507) → ⊥
unfolding missing encoding is_too_long encoded_length
received_unanswered = λ may. cc (may.answered)

closed_twice : May usual exchange (CallClose 0) → ⊥
unfolding missing is_too_long encoded_length
closed_twice = λ may. cc (may.socket)

-- what a peer sent is handed to another port of a guest
handed_to_another_port : Lawful usual (run (heard ++ LinkWrite (hex "0000002c52540012345652550a00020208004500001e000000004011448cc63364010a00020f00070fa1000a4a836f6b") (Done 48) ∷ [])) → ⊥
unfolding missing encoding is_too_long encoded_length
handed_to_another_port = λ lawful. cc (lawful.0.answered)

-- what may go nowhere is sent all the same, on a socket that is open
sent_past_the_policy : Lawful usual (run (sent ++ Wait (reading Link ∷ reading (Udp 0) ∷ []) (Some 240000) Ready (reading Link ∷ []) ∷ Now 6 ∷ comes denied ++ UdpSend 0
    (endpoint 0x7f000001 9) (104 ∷ 105 ∷ []) SentDone ∷ [])) → ⊥
unfolding missing encoding is_too_long encoded_length
sent_past_the_policy = λ lawful. cc (lawful.0.place)
