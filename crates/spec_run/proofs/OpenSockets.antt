-- Which sockets are open in a lawful run.
use Rattle.std.proofs.Common.{◌≡◌, ℕ, ◌+◌, ◌<◌, ◌==◌, ◌&&◌, ◌||◌, not, Option, Some, None, Bool, true, false, List, [], ◌∷◌, ◌++◌, if◌then◌else◌, refl, sym, ◌∙◌, ap, arith}
use Rattle.std.proofs.lemmas.Bool.Decides.{nat_tests}
use Rattle.world_face.specs.Journal.{Entry, Connect, Listen, Accept, Close, UdpOpen, call_of}
use Rattle.world_face.specs.declared.Accepted.{Accepted}
use Rattle.world_face.specs.declared.Accepted.TheVariants.{From, NotYet as NotYetAccepted, Failed as AcceptFailed}
use Rattle.world_face.specs.declared.Made.{Made}
use Rattle.world_face.specs.declared.Made.TheVariants.{Done, Failed}
use Rattle.world_face.specs.Limits.{most_to_udp}
use Rattle.slirp_settings.specs.Addresses.{Config}
use Rattle.spec_trace.specs.Sockets.{Kind, Association, DnsSocket, Forward, Listener, Flow, first, is_among, is_flow, is_listener, kind_of, next_number, number_for_peer, open_sockets}
use Rattle.spec_trace.specs.Sockets.{with_made, with_peer}
use Rattle.spec_trace.specs.Shape.{is_ended}
use Rattle.spec_flows.specs.Book.{book}
use Rattle.spec_flows.specs.Flows.{has_room_for_peer, is_it}
use Rattle.spec_run.specs.Laws.{May, Lawful, is_closing, is_for_datagrams, joins, parts, relays, takes_peers}
use Rattle.spec_run.proofs.Bools.{and_both, first_of, second_of, equal, or_second, same, among_last, among_without}

abbrev pub IsBelow : ℕ → List ℕ → Type 0
IsBelow bound sockets = (n : ℕ) → is_among n sockets ≡ true → n < bound

either : (a b : Bool) (P : Type 0) → (a ≡ true → P) → (b ≡ true → P) → (a || b) ≡ true → P
either true b P one two is = one refl
either false b P one two is = two is

below_made : (answer : Made) (socket number : ℕ) (sockets : List ℕ) → (socket == number) ≡ true → IsBelow number sockets → IsBelow (number + 1) (with_made answer socket sockets)
below_made Done socket number sockets is below n among =
    either (is_among n sockets) (n == socket) (n < number + 1)
    (λ old. let less : n < number = below n old in omega arith)
    (λ new. let here : n ≡ socket = equal n socket new in let there : socket ≡ number = equal socket number is in omega arith)
    (sym (among_last n socket sockets) ∙ among)
below_made Failed socket number sockets is below n among = let less : n < number = below n among in omega arith

below_peer : (answer : Accepted) (socket number : ℕ) (sockets : List ℕ) → (socket == number) ≡ true → IsBelow number sockets → IsBelow (number_for_peer answer number) (with_peer answer socket sockets)
below_peer (From peer) socket number sockets is below = below_made Done socket number sockets is below
below_peer NotYetAccepted socket number sockets is below = below
below_peer AcceptFailed socket number sockets is below = below

-- a peer gets the next number
pub peer_next : (config : Config) (past : List Entry) (listener socket : ℕ) (answer : Accepted) → May config past (call_of (Accept listener socket answer)) → (socket == next_number past) ≡ true
peer_next config past listener socket answer may = second_of (takes_peers config past listener) (socket == next_number past) may.socket

below_by : (config : Config) (e : Entry) (past : List Entry) → May config past (call_of e) → IsBelow (next_number past) (open_sockets past) → IsBelow (next_number (e ∷ past)) (open_sockets (e ∷ past))
below_by config (Connect socket to answer) past may below = below_made answer socket (next_number past) (open_sockets past) may.socket below
below_by config (Accept listener socket answer) past may below = below_peer answer socket (next_number past) (open_sockets past) (peer_next config past listener socket answer may) below
below_by config (Listen socket at answer) past may below = below_made answer socket (next_number past) (open_sockets past) may.socket below
below_by config (UdpOpen socket at answer) past may below = below_made answer socket (next_number past) (open_sockets past) may.socket below
below_by config (Close socket) past may below = λ n among. below n (second_of (not (n == socket)) (is_among n (open_sockets past)) (sym (among_without n socket (open_sockets past)) ∙ among))
below_by config _ past may below = below

-- numbers of open sockets were drawn
pub open_below : (config : Config) (past : List Entry) → Lawful config past → IsBelow (next_number past) (open_sockets past)
open_below config [] lawful = λ n among. cc
open_below config (e ∷ past) lawful = below_by config e past lawful.0 (open_below config past lawful.1)

-- so the next one is that of no open socket
pub next_is_new : (config : Config) (past : List Entry) → Lawful config past → is_among (next_number past) (open_sockets past) ≡ false
next_is_new config past lawful = by (is_among (next_number past) (open_sockets past)) refl
  where
    by : (b : Bool) → is_among (next_number past) (open_sockets past) ≡ b → b ≡ false
    by true is = absurd (let less : next_number past < next_number past = open_below config past lawful (next_number past) is in omega arith)
    by false is = refl

-- ---- calls are on open sockets

pub sends_on_open : (config : Config) (past : List Entry) (socket : ℕ) → relays past socket ≡ true → is_among socket (open_sockets past) ≡ true
sends_on_open config past socket is = first_of (is_among socket (open_sockets past)) (is_for_datagrams (kind_of socket past)) is

pub hears_on_open : (config : Config) (past : List Entry) (socket asked : ℕ) → (relays past socket && (asked == most_to_udp)) ≡ true → is_among socket (open_sockets past) ≡ true
hears_on_open config past socket asked is = sends_on_open config past socket (first_of (relays past socket) (asked == most_to_udp) is)

pub joins_open : (past : List Entry) (socket : ℕ) → joins past socket ≡ true → is_among socket (open_sockets past) ≡ true
joins_open past socket is = first_of (is_among socket (open_sockets past)) (is_flow (kind_of socket past)) is

-- a peer comes to an open port of the host that is given to a guest
pub peers_open : (config : Config) (past : List Entry) (listener socket : ℕ) (answer : Accepted) → May config past (call_of (Accept listener socket answer)) → is_among listener
    (open_sockets past) ≡ true
peers_open config past listener socket answer may =
    first_of (is_among listener (open_sockets past)) (is_listener (kind_of listener past))
    (first_of (is_among listener (open_sockets past) && is_listener (kind_of listener past)) (has_room_for_peer config.flows (book config past).flows)
    (first_of (takes_peers config past listener) (socket == next_number past) may.socket))

of_listener : (k : Option Kind) → is_listener k ≡ true → k ≡ Some Listener
of_listener (Some Listener) is = refl
of_listener (Some Association) is = cc
of_listener (Some DnsSocket) is = cc
of_listener (Some Forward) is = cc
of_listener (Some Flow) is = cc
of_listener None is = cc

pub peers_listened_for : (config : Config) (past : List Entry) (listener socket : ℕ) (answer : Accepted) → May config past (call_of (Accept listener socket answer)) →
    kind_of listener past ≡ Some Listener
peers_listened_for config past listener socket answer may = of_listener (kind_of listener past)
    (second_of (is_among listener (open_sockets past)) (is_listener (kind_of listener past))
    (first_of (is_among listener (open_sockets past) && is_listener (kind_of listener past)) (has_room_for_peer config.flows (book config past).flows)
    (first_of (takes_peers config past listener) (socket == next_number past) may.socket)))

pub closes_open : (config : Config) (past : List Entry) (socket : ℕ) → May config past (call_of (Close socket)) → is_among socket (open_sockets past) ≡ true
closes_open config past socket may =
    first_of (is_among socket (open_sockets past))
    (if is_closing config past then is_it socket (first (open_sockets past)) else parts config past socket || (is_ended config past && is_it socket (first (open_sockets past))))
    may.socket

-- ---- what was closed stays so

-- a socket that was drawn and isn't open
pub record IsGone (socket : ℕ) (past : List Entry) : Type 0 where
  pub drawn : socket < next_number past
  pub shut : is_among socket (open_sockets past) ≡ false

gone_made : (answer : Made) (s socket number : ℕ) (sockets : List ℕ) → (socket == number) ≡ true → s < number → is_among s sockets ≡ false → is_among s (with_made answer socket sockets) ≡ false
gone_made Done s socket number sockets is drawn shut =
    let there : socket ≡ number = equal socket number is in
    let other : (s == socket) ≡ false = grind (arith, nat_tests) in
    among_last s socket sockets ∙ ap (λ b. b || (s == socket)) shut ∙ other
gone_made Failed s socket number sockets is drawn shut = shut

and_no : (a b : Bool) → b ≡ false → (a && b) ≡ false
and_no true b is = is
and_no false b is = refl

pub gone_by : (config : Config) (s : ℕ) (e : Entry) (past : List Entry) → May config past (call_of e) → IsGone s past → IsGone s (e ∷ past)
gone_by config s (Connect socket to answer) past may gone = record {
  drawn = (let d = gone.drawn in omega arith);
  shut = gone_made answer s socket (next_number past) (open_sockets past) may.socket gone.drawn gone.shut;
}
gone_by config s (Accept listener socket (From peer)) past may gone = record {
  drawn = (let d = gone.drawn in omega arith);
  shut = gone_made Done s socket (next_number past) (open_sockets past) (peer_next config past listener socket (From peer) may) gone.drawn gone.shut;
}
gone_by config s (Accept listener socket NotYetAccepted) past may gone = record { drawn = gone.drawn; shut = gone.shut }
gone_by config s (Accept listener socket AcceptFailed) past may gone = record { drawn = gone.drawn; shut = gone.shut }
gone_by config s (Listen socket at answer) past may gone = record {
  drawn = (let d = gone.drawn in omega arith);
  shut = gone_made answer s socket (next_number past) (open_sockets past) may.socket gone.drawn gone.shut;
}
gone_by config s (UdpOpen socket at answer) past may gone = record {
  drawn = (let d = gone.drawn in omega arith);
  shut = gone_made answer s socket (next_number past) (open_sockets past) may.socket gone.drawn gone.shut;
}
gone_by config s (Close socket) past may gone = record {
  drawn = gone.drawn;
  shut = among_without s socket (open_sockets past) ∙ and_no (not (s == socket)) (is_among s (open_sockets past)) gone.shut;
}
gone_by config s _ past may gone = record { drawn = gone.drawn; shut = gone.shut }

closed : (config : Config) (s : ℕ) (past : List Entry) → Lawful config (Close s ∷ past) → IsGone s (Close s ∷ past)
closed config s past lawful = record {
  drawn = open_below config past lawful.1 s (closes_open config past s lawful.0);
  shut = among_without s s (open_sockets past) ∙ ap (λ b. not b && is_among s (open_sockets past)) (same s);
}

pub stays_gone : (config : Config) (s : ℕ) (later past : List Entry) → Lawful config (later ++ (Close s ∷ past)) → IsGone s (later ++ (Close s ∷ past))
stays_gone config s [] past lawful = closed config s past lawful
stays_gone config s (e ∷ later) past lawful = gone_by config s e (later ++ (Close s ∷ past)) lawful.0 (stays_gone config s later past lawful.1)

-- ---- the least of the open sockets

pub least_first : (sockets : List ℕ) (n : ℕ) → first sockets ≡ Some n → is_it n (first sockets) ≡ true
least_first sockets n is = ap (is_it n) is ∙ same n

pub among_first : (sockets : List ℕ) (n : ℕ) → first sockets ≡ Some n → is_among n sockets ≡ true
among_first [] n is = cc
among_first (x ∷ sockets) n is = let this : x ≡ n = cc in ap (λ m. (n == m) || is_among n sockets) this ∙ ap (λ b. b || is_among n sockets) (same n)

-- at the end of a run the least open socket may be closed, whatever it is for
pub at_the_end : (closing part ended least : Bool) → ended ≡ true → least ≡ true → (if closing then least else part || (ended && least)) ≡ true
at_the_end true part ended least e l = l
at_the_end false part ended least e l = or_second part (ended && least) (and_both ended least e l)
