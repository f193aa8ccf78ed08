-- Sockets: their numbers, which are open, and of what kind each is.
use Rattle.std.specs.Prelude.{ℕ, ◌+◌, ◌==◌, ◌||◌, not, nat_lt, Bool, true, false, List, [], ◌∷◌, ◌++◌, filter, Option, Some, None, if◌then◌else◌}
use Rattle.world_face.specs.Journal.{Entry, Connect, Listen, Accept, Close, UdpOpen}
use Rattle.world_face.specs.declared.Made.{Made}
use Rattle.world_face.specs.declared.Made.TheVariants.{Done as MadeDone, Failed as MadeFailed}
use Rattle.world_face.specs.declared.Accepted.{Accepted}
use Rattle.world_face.specs.declared.Accepted.TheVariants.{From, NotYet as NotYetAccepted, Failed as AcceptFailed}
use Rattle.spec_trace.specs.Moments.{waits}

-- Numbers of sockets are drawn upward, one for each socket that was asked for, or that a peer came to.
abbrev pub number_for_peer : Accepted → ℕ → ℕ
number_for_peer (From peer) number = number + 1
number_for_peer _ number = number

abbrev pub number_after : Entry → ℕ → ℕ
number_after (Connect socket to answer) number = number + 1
number_after (Listen socket at answer) number = number + 1
number_after (UdpOpen socket at answer) number = number + 1
number_after (Accept listener socket answer) number = number_for_peer answer number
number_after _ number = number

-- the number of the next socket; none is used again
abbrev pub next_number : List Entry → ℕ
next_number [] = 0
next_number (e ∷ past) = number_after e (next_number past)

-- the sockets that are open, by rising number
abbrev pub with_made : Made → ℕ → List ℕ → List ℕ
with_made MadeDone socket sockets = sockets ++ (socket ∷ [])
with_made MadeFailed socket sockets = sockets

abbrev pub with_peer : Accepted → ℕ → List ℕ → List ℕ
with_peer (From peer) socket sockets = sockets ++ (socket ∷ [])
with_peer _ socket sockets = sockets

abbrev pub sockets_after : Entry → List ℕ → List ℕ
sockets_after (Connect socket to answer) sockets = with_made answer socket sockets
sockets_after (Listen socket at answer) sockets = with_made answer socket sockets
sockets_after (UdpOpen socket at answer) sockets = with_made answer socket sockets
sockets_after (Accept listener socket answer) sockets = with_peer answer socket sockets
sockets_after (Close socket) sockets = filter (λ s. not (s == socket)) sockets
sockets_after _ sockets = sockets

abbrev pub open_sockets : List Entry → List ℕ
open_sockets [] = []
open_sockets (e ∷ past) = sockets_after e (open_sockets past)

abbrev pub is_among : ℕ → List ℕ → Bool
is_among n [] = false
is_among n (m ∷ ms) = (n == m) || is_among n ms

abbrev pub first : {A : Type 0} → List A → Option A
first [] = None
first (x ∷ xs) = Some x

-- What a socket is for: the datagrams of a guest's port; the questions of one to the name server; a port of the host that is given to a guest, for datagrams or for connections; a connection.
pub data Kind : Type 0 where
  Association : Kind
  DnsSocket : Kind
  Forward : Kind
  Listener : Kind
  Flow : Kind

-- Sockets for datagrams: where no wait came yet, and later where a port of the host was named, they are for ports of the host that are given to guests; one
-- whose port is the host's choice is a guest's.
abbrev pub datagram_kind : (waited : Bool) (port : ℕ) → Kind
datagram_kind true port = if port == 0 then Association else Forward
datagram_kind false port = Forward

-- the kind of the socket with this number, by the entry that made it
abbrev pub kind_by : ℕ → Entry → Bool → Option Kind → Option Kind
kind_by number (Connect socket to answer) waited before = if socket == number then Some Flow else before
kind_by number (Listen socket at answer) waited before = if socket == number then Some Listener else before
kind_by number (UdpOpen socket at answer) waited before = if socket == number then Some (datagram_kind waited at.port) else before
kind_by number (Accept listener socket answer) waited before = if socket == number then Some Flow else before
kind_by number _ waited before = before

abbrev pub kind_of : ℕ → List Entry → Option Kind
kind_of number [] = None
kind_of number (e ∷ past) = kind_by number e (nat_lt 0 (waits past)) (kind_of number past)

abbrev pub is_association : Option Kind → Bool
is_association (Some Association) = true
is_association _ = false

abbrev pub is_forward : Option Kind → Bool
is_forward (Some Forward) = true
is_forward _ = false

abbrev pub is_listener : Option Kind → Bool
is_listener (Some Listener) = true
is_listener _ = false

abbrev pub is_flow : Option Kind → Bool
is_flow (Some Flow) = true
is_flow _ = false
