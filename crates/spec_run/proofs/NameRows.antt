-- Runs with questions to the name server written out: those that are lawful, and those that break one sentence each.
use Rattle.std.proofs.Common.{◌≡◌, ℕ, zero, suc, Bool, true, false, List, [], ◌∷◌, ◌++◌, length, Some, None, refl, sym, ◌∙◌, ap}
use Rattle.poll_list.specs.declared.Who.TheVariants.{Link, Udp}
use Rattle.world_face.specs.declared.Io.TheVariants.{Done}
use Rattle.world_face.specs.declared.Made.TheVariants.{Done as MadeDone}
use Rattle.world_face.specs.declared.Sent.TheVariants.{Done as SentDone}
use Rattle.world_face.specs.declared.Got.TheVariants.{From}
use Rattle.world_face.specs.declared.Waited.TheVariants.{Ready, Stop}
use Rattle.world_face.specs.Journal.{Entry, Call, Now, Wait, LinkWrite, UdpOpen, UdpSend, UdpRecv, Close, CallWait, CallLinkWrite, CallUdpOpen, CallClose}
use Rattle.world_face.specs.Frames.{encoding, missing, is_too_long, encoded_length}
use Rattle.net_octets.specs.declared.Endpoint.{Endpoint}
use Rattle.slirp_settings.specs.Addresses.{Config, endpoint}
use Rattle.host_policy.specs.Targets.{anywhere}
use Rattle.slirp_settings.specs.Settings.{usual}
use Rattle.spec_run.specs.Laws.{Finished, Lawful, May}
use Rattle.spec_run.proofs.Checks.{is_sound}
use Rattle.spec_run.proofs.Rows.{hex, reading, comes, run}
use Rattle.rules_dns.specs.declared.Question.{Question}
use Rattle.spec_run.specs.Datagrams.{Errand, NeedsRoom, NeedsSocket}
use Rattle.spec_run.specs.Names.{step_to_names}

-- a test that is passed doesn't fail
not_so : {b : Bool} → b ≡ true → b ≡ false → ⊥
not_so {b} is other = let never : true ≡ false = sym is ∙ other in cc

-- names are served by 127.0.0.1:53
abbrev pub resolver : Endpoint
resolver = endpoint 0x7f000001 53

abbrev pub with_names : Config
with_names = record usual { resolver = Some resolver }

abbrev begins : List Entry
begins = Now 0 ∷ Wait (reading Link ∷ []) None Ready (reading Link ∷ []) ∷ Now 5 ∷ []

-- 11 octets to the name server, and a question
abbrev pub short_question : List ℕ
short_question = hex "52550a00020252540012345608004500002700010000401162b40a00020f0a0002030fa000350013c4ad1234010000000000000000"

abbrev pub question : List ℕ
question = hex "52550a00020252540012345608004500002900010000401162b20a00020f0a0002030fa00035001553a912340100000000000000000071"

-- its octets; answers with another identifier, and with its own; and the datagram to the port that asked, with its length
abbrev pub asked : List ℕ
asked = hex "12340100000000000000000071"

abbrev pub other_answer : List ℕ
other_answer = hex "12358100000000000000000061"

abbrev pub answer : List ℕ
answer = hex "12348100000000000000000061"

abbrev pub reply : List ℕ
reply = hex "0000003752540012345652550a00020208004500002900000000401162b30a0002030a00020f00350fa00015e3a812348100000000000000000061"

-- A datagram of 11 octets is no question; answers with another identifier and from another peer are dropped; the one that counts closes the socket and goes to the port that asked, and no other does.
abbrev pub resolves : List Entry
resolves = run ((Now 0 ∷ Wait (reading Link ∷ []) None Ready (reading Link ∷ []) ∷ Now 5 ∷ []) ++ comes short_question ++ (Wait (reading Link ∷ []) None Ready (reading Link ∷ [])
    ∷ Now 6 ∷ []) ++ comes question ++ (UdpOpen 0 (endpoint 0x00000000 0) MadeDone ∷ UdpSend 0 (endpoint 0x7f000001 53) asked SentDone ∷ Wait (reading Link ∷ reading (Udp 0) ∷ [])
    (Some 10000) Ready (reading (Udp 0) ∷ []) ∷ Now 7 ∷ UdpRecv 0 65507 (From (endpoint 0x7f000001 53) 13) other_answer ∷ Wait (reading Link ∷ reading (Udp 0) ∷ [])
    (Some 10000) Ready (reading (Udp 0) ∷ []) ∷ Now 8 ∷ UdpRecv 0 65507 (From (endpoint 0xc6336401 53) 13) answer ∷ Wait (reading Link ∷ reading (Udp 0) ∷ []) (Some 10000) Ready
    (reading (Udp 0) ∷ []) ∷ Now 9 ∷ UdpRecv 0 65507 (From (endpoint 0x7f000001 53) 13) answer ∷ Close 0 ∷ LinkWrite reply (Done 59) ∷ Wait (reading Link ∷ []) None Ready
    (reading (Udp 0) ∷ []) ∷ Now 10 ∷ Wait (reading Link ∷ []) None Stop [] ∷ []))

resolves_lawful : Lawful with_names resolves
unfolding missing encoding is_too_long encoded_length
resolves_lawful = is_sound with_names resolves refl

resolves_finished : Finished with_names resolves
unfolding missing encoding is_too_long encoded_length
resolves_finished = record { ended = refl; none_due = refl; closed = refl }

-- at which address a socket is opened: that from which datagrams go out, but for a resolver of the host itself
abbrev from_outside : Config
from_outside = record with_names { version = 2; outbound = Some 0xc6336409 }

abbrev resolver_outside : Endpoint
resolver_outside = endpoint 0x80000001 53

abbrev sent : Endpoint → Endpoint → List Entry
sent at to = begins ++ comes question ++ UdpOpen 0 at MadeDone ∷ UdpSend 0 to asked SentDone ∷ []

abbrev from_anywhere : List Entry
from_anywhere = run (sent anywhere resolver ++ Wait (reading Link ∷ reading (Udp 0) ∷ []) (Some 10000) Stop [] ∷ Close 0 ∷ [])

from_anywhere_lawful : Lawful from_outside from_anywhere
unfolding missing encoding is_too_long encoded_length
from_anywhere_lawful = is_sound from_outside from_anywhere refl

from_anywhere_finished : Finished from_outside from_anywhere
unfolding missing encoding is_too_long encoded_length
from_anywhere_finished = record { ended = refl; none_due = refl; closed = refl }

abbrev far : Config
far = record from_outside { resolver = Some resolver_outside }

abbrev from_its_address : List Entry
from_its_address = run (sent (endpoint 0xc6336409 0) resolver_outside ++ Wait (reading Link ∷ reading (Udp 0) ∷ []) (Some 10000) Stop [] ∷ Close 0 ∷ [])

from_its_address_lawful : Lawful far from_its_address
unfolding missing encoding is_too_long encoded_length
from_its_address_lawful = is_sound far from_its_address refl

from_its_address_finished : Finished far from_its_address
unfolding missing encoding is_too_long encoded_length
from_its_address_finished = record { ended = refl; none_due = refl; closed = refl }

-- where no names are served, a question may go nowhere
abbrev without_names : Config
without_names = record with_names { version = 2; no_dns = true }

abbrev prohibited : List ℕ
prohibited = hex "0000004652540012345652550a00020208004500003800000000400162b50a0002020a00020f030a9962000000004500002900010000401162b20a00020f0a0002030fa00035001553a9"

abbrev pub denied : List Entry
denied = run ((Now 0 ∷ Wait (reading Link ∷ []) None Ready (reading Link ∷ []) ∷ Now 5 ∷ []) ++ comes question ++ (LinkWrite prohibited (Done 74) ∷ Wait (reading Link ∷ []) None Stop [] ∷ []))

denied_lawful : Lawful without_names denied
unfolding missing encoding is_too_long encoded_length
denied_lawful = is_sound without_names denied refl

denied_finished : Finished without_names denied
unfolding missing encoding is_too_long encoded_length
denied_finished = record { ended = refl; none_due = refl; closed = refl }

-- the same question goes out again on the same socket, and another one of the same port on a socket of its own
abbrev other_question : List ℕ
other_question = hex "52550a00020252540012345608004500002900010000401162b20a00020f0a0002030fa00035001553a812350100000000000000000071"

abbrev waits_on : List Entry
waits_on = Wait (reading Link ∷ reading (Udp 0) ∷ []) (Some 10000) Ready (reading Link ∷ []) ∷ Now 6 ∷ []

abbrev again : List Entry
again = sent anywhere resolver ++ waits_on ++ comes question ++ UdpSend 0 resolver asked SentDone ∷ []

abbrev two_asked : List Entry
two_asked = run (again ++ waits_on ++ comes other_question ++ UdpOpen 1 anywhere MadeDone ∷ UdpSend 1 resolver (hex "12350100000000000000000071") SentDone ∷ [])

two_asked_lawful : Lawful with_names two_asked
unfolding missing encoding is_too_long encoded_length
two_asked_lawful = is_sound with_names two_asked refl

-- after 10,000 milliseconds its socket may be closed, and not before
abbrev woken_at : ℕ → List Entry
woken_at moment = sent anywhere resolver ++ Wait (reading Link ∷ reading (Udp 0) ∷ []) (Some 10000) Ready [] ∷ Now moment ∷ []

abbrev waited_long : List Entry
waited_long = run (woken_at 10005 ++ Close 0 ∷ [])

waited_long_lawful : Lawful with_names waited_long
unfolding missing encoding is_too_long encoded_length
waited_long_lawful = is_sound with_names waited_long refl

closed_too_soon : May with_names (run (woken_at 10004)) (CallClose 0) → ⊥
unfolding missing encoding is_too_long encoded_length
closed_too_soon = λ may. not_so may.socket refl

abbrev came : Endpoint → List ℕ → List Entry
came peer octets = sent anywhere resolver ++ Wait (reading Link ∷ reading (Udp 0) ∷ []) (Some 10000) Ready (reading (Udp 0) ∷ []) ∷ Now 7 ∷ UdpRecv 0 65507 (From peer (length octets)) octets ∷ []

-- What may not come: a short question that goes out; a response that is sent as a question; a new socket for the same question;
short_sent : May with_names (run (begins ++ comes short_question)) (CallUdpOpen 0 anywhere) → ⊥
unfolding missing encoding is_too_long encoded_length
short_sent = λ may. not_so may.place refl

abbrev as_question : List ℕ
as_question = hex "52550a00020252540012345608004500002900010000401162b20a00020f0a0002030fa000350015d3a812348100000000000000000071"

response_sent : May with_names (run (begins ++ comes as_question)) (CallUdpOpen 0 anywhere) → ⊥
unfolding missing encoding is_too_long encoded_length
response_sent = λ may. not_so may.place refl

new_socket : May with_names (run (sent anywhere resolver ++ waits_on ++ comes question)) (CallUdpOpen 1 anywhere) → ⊥
unfolding missing encoding is_too_long encoded_length
new_socket = λ may. cc (may.due)

-- an answer with another identifier that is handed on, one of another peer, and a second one; the answer before its socket is closed, and a wait before;
other_identifier : May with_names (run (came resolver other_answer)) (CallLinkWrite reply) → ⊥
unfolding missing encoding is_too_long encoded_length
other_identifier = λ may. not_so may.answered refl

other_peer : May with_names (run (came (endpoint 0xc6336401 53) answer)) (CallLinkWrite reply) → ⊥
unfolding missing encoding is_too_long encoded_length
other_peer = λ may. not_so may.answered refl

second_answer : May with_names (run (came resolver answer ++ Close 0 ∷ LinkWrite reply (Done 59) ∷ [])) (CallLinkWrite reply) → ⊥
unfolding missing encoding is_too_long encoded_length
second_answer = λ may. not_so may.answered refl

answered_first : May with_names (run (came resolver answer)) (CallLinkWrite reply) → ⊥
unfolding missing encoding is_too_long encoded_length
answered_first = λ may. cc (may.due)

kept_on : May with_names (run (came resolver answer)) (CallWait (reading Link ∷ []) None) → ⊥
unfolding missing encoding is_too_long encoded_length
kept_on = λ may. cc (may.due)

-- the answer to the port from which the resolver spoke; the address of outside for a resolver of the host
other_port : May with_names (run (came resolver answer ++ Close 0 ∷ []))
    (CallLinkWrite (hex "0000003752540012345652550a00020208004500002900000000401162b30a0002030a00020f00350fa10015e3a712348100000000000000000061")) → ⊥
unfolding missing encoding is_too_long encoded_length
other_port = λ may. not_so may.answered refl

apart : from_outside.outbound ≡ Some 0 → ⊥
apart is = cc

abbrev address_of : Call → ℕ
address_of (CallUdpOpen socket at) = at.addr.0
address_of _ = 0

wrong_address : May from_outside (run (begins ++ comes question)) (CallUdpOpen 0 (endpoint 0xc6336409 0)) → ⊥
unfolding missing encoding is_too_long encoded_length
wrong_address = λ may. cc (ap address_of may.due)

-- Of 512 questions the longest unused one gives way to a new one; of 511 none does.
abbrev waiting : ℕ → List Question
waiting zero = []
waiting (suc k) = waiting k ++ (record { number = k; guest = endpoint 0x0a00020f 4000; mac = record { 0 = [] }; ident = k; used = 0 } ∷ [])

abbrev newest : Errand
newest = record { datagram = record { mac = []; from = endpoint 0x0a00020f 4000; to = endpoint 0x0a000203 53; body = hex "ffff01000000000000000000"; quote = [] }; to = resolver }

gives_way : step_to_names (waiting 512) newest ≡ NeedsRoom 0 newest
gives_way = refl

has_room : step_to_names (waiting 511) newest ≡ NeedsSocket newest
has_room = refl
