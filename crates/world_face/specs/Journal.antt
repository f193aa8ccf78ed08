-- The calls on a World and their answers.
use Rattle.std.specs.Prelude.{◌≡◌, ℕ, ◌^◌, All, ◌<◌, ◌≤◌, true, IsTrue, List, [], ◌∷◌, length, take, Option, Some, None}
use Rattle.net_octets.specs.declared.Endpoint.{Endpoint}
use Rattle.world_face.specs.declared.Io.{Io}
use Rattle.world_face.specs.declared.Io.TheVariants.{Done, End, NotYet, Failed}
use Rattle.world_face.specs.declared.Made.{Made}
use Rattle.world_face.specs.declared.Joined.{Joined}
use Rattle.world_face.specs.declared.Accepted.{Accepted}
use Rattle.world_face.specs.declared.Accepted.TheVariants.{From as FromPeer, NotYet as NoPeer, Failed as AcceptFailed}
use Rattle.world_face.specs.declared.Sent.{Sent}
use Rattle.world_face.specs.declared.Got.{Got}
use Rattle.world_face.specs.declared.Got.TheVariants.{From, NotYet as GotNotYet, Failed as GotFailed}
use Rattle.world_face.specs.declared.FileSize.{FileSize}
use Rattle.world_face.specs.declared.FileSize.TheVariants.{Length, Missing, Failed as SizeFailed}
use Rattle.world_face.specs.declared.Waited.{Waited}
use Rattle.world_face.specs.declared.Waited.TheVariants.{Ready, Stop, Failed as WaitFailed}
use Rattle.poll_list.specs.declared.Want.{Want}
use Rattle.world_face.specs.declared.LinkAt.{LinkAt}
use Rattle.world_face.specs.declared.LinkAt.TheVariants.{Unix, Tcp}
use Rattle.poll_list.specs.Listing.{are_wants, differ}
use Rattle.world_face.specs.Limits.{most_ready}

-- where the link is, by the octets of a path or an endpoint
pub data Place : Type 0 where
  AtPath : (path : List ℕ) → Place
  AtEndpoint : (at : Endpoint) → Place

abbrev pub place_of : LinkAt → Place
place_of (Unix path) = AtPath path.bytes
place_of (Tcp at) = AtEndpoint at

-- a call with its arguments and its answer
pub data Entry : Type 0 where
  Now : (moment : ℕ) → Entry
  Wait : (wants : List Want) (timeout : Option ℕ) (answer : Waited) (ready : List Want) → Entry
  LinkOpen : (at : Place) (answer : Made) → Entry
  LinkRead : (asked : ℕ) (answer : Io) (octets : List ℕ) → Entry
  LinkWrite : (octets : List ℕ) (answer : Io) → Entry
  Connect : (socket : ℕ) (to : Endpoint) (answer : Made) → Entry
  Connected : (socket : ℕ) (answer : Joined) → Entry
  Listen : (socket : ℕ) (at : Endpoint) (answer : Made) → Entry
  Accept : (listener : ℕ) (socket : ℕ) (answer : Accepted) → Entry
  TcpRead : (socket : ℕ) (asked : ℕ) (answer : Io) (octets : List ℕ) → Entry
  TcpWrite : (socket : ℕ) (octets : List ℕ) (answer : Io) → Entry
  TcpEnd : (socket : ℕ) (answer : Made) → Entry
  Close : (socket : ℕ) → Entry
  UdpOpen : (socket : ℕ) (at : Endpoint) (answer : Made) → Entry
  UdpSend : (socket : ℕ) (to : Endpoint) (octets : List ℕ) (answer : Sent) → Entry
  UdpRecv : (socket : ℕ) (asked : ℕ) (answer : Got) (octets : List ℕ) → Entry
  FileLen : (name : List ℕ) (answer : FileSize) → Entry
  FileRead : (name : List ℕ) (place : ℕ) (asked : ℕ) (answer : Io) (octets : List ℕ) → Entry

-- the same without the answer
pub data Call : Type 0 where
  CallNow : Call
  CallWait : (wants : List Want) (timeout : Option ℕ) → Call
  CallLinkOpen : (at : Place) → Call
  CallLinkRead : (asked : ℕ) → Call
  CallLinkWrite : (octets : List ℕ) → Call
  CallConnect : (socket : ℕ) (to : Endpoint) → Call
  CallConnected : (socket : ℕ) → Call
  CallListen : (socket : ℕ) (at : Endpoint) → Call
  CallAccept : (listener : ℕ) (socket : ℕ) → Call
  CallTcpRead : (socket : ℕ) (asked : ℕ) → Call
  CallTcpWrite : (socket : ℕ) (octets : List ℕ) → Call
  CallTcpEnd : (socket : ℕ) → Call
  CallClose : (socket : ℕ) → Call
  CallUdpOpen : (socket : ℕ) (at : Endpoint) → Call
  CallUdpSend : (socket : ℕ) (to : Endpoint) (octets : List ℕ) → Call
  CallUdpRecv : (socket : ℕ) (asked : ℕ) → Call
  CallFileLen : (name : List ℕ) → Call
  CallFileRead : (name : List ℕ) (place : ℕ) (asked : ℕ) → Call

abbrev pub call_of : Entry → Call
call_of (Now moment) = CallNow
call_of (Wait wants timeout answer ready) = CallWait wants timeout
call_of (LinkOpen at answer) = CallLinkOpen at
call_of (LinkRead asked answer octets) = CallLinkRead asked
call_of (LinkWrite octets answer) = CallLinkWrite octets
call_of (Connect socket to answer) = CallConnect socket to
call_of (Connected socket answer) = CallConnected socket
call_of (Listen socket at answer) = CallListen socket at
call_of (Accept listener socket answer) = CallAccept listener socket
call_of (TcpRead socket asked answer octets) = CallTcpRead socket asked
call_of (TcpWrite socket octets answer) = CallTcpWrite socket octets
call_of (TcpEnd socket answer) = CallTcpEnd socket
call_of (Close socket) = CallClose socket
call_of (UdpOpen socket at answer) = CallUdpOpen socket at
call_of (UdpSend socket to octets answer) = CallUdpSend socket to octets
call_of (UdpRecv socket asked answer octets) = CallUdpRecv socket asked
call_of (FileLen name answer) = CallFileLen name
call_of (FileRead name place asked answer octets) = CallFileRead name place asked

-- how many octets a read or a write moved
abbrev pub count_of : Io → ℕ
count_of (Done n) = n
count_of _ = 0

-- how many octets a datagram has that came
abbrev pub count_got : Got → ℕ
count_got (From peer n) = n
count_got _ = 0

-- what of a slice was filled
abbrev pub filled : Io → List ℕ → List ℕ
filled answer into = take (count_of answer) into

abbrev pub filled_got : Got → List ℕ → List ℕ
filled_got answer into = take (count_got answer) into

-- octets, each under 256; a number of 64 bits; an address of 32 bits and a port of 16
abbrev pub AreOctets : List ℕ → Type 0
AreOctets octets = All (λ octet. octet < 2 ^ 8) octets

abbrev pub IsNumber : ℕ → Type 0
IsNumber n = n < 2 ^ 64

abbrev pub IsEndpoint : Endpoint → Type 0
IsEndpoint e = (e.addr.0 < 2 ^ 32) × (e.port < 2 ^ 16)

-- a read moves something where it is done
abbrev pub MayRead : ℕ → Io → Type 0
MayRead asked (Done n) = (0 < n) × (n ≤ asked)
MayRead asked End = Unit {0}
MayRead asked NotYet = Unit {0}
MayRead asked Failed = Unit {0}

-- and never ends a write
abbrev pub MayWrite : ℕ → Io → Type 0
MayWrite offered (Done n) = (0 < n) × (n ≤ offered)
MayWrite offered End = ⊥
MayWrite offered NotYet = Unit {0}
MayWrite offered Failed = Unit {0}

-- a file is there at once
abbrev pub MayReadFile : ℕ → Io → Type 0
MayReadFile asked (Done n) = (0 < n) × (n ≤ asked)
MayReadFile asked End = Unit {0}
MayReadFile asked NotYet = ⊥
MayReadFile asked Failed = Unit {0}

-- a datagram may be empty
abbrev pub MayGet : ℕ → Got → Type 0
MayGet asked (From peer n) = (n ≤ asked) × IsEndpoint peer
MayGet asked GotNotYet = Unit {0}
MayGet asked GotFailed = Unit {0}

-- What is ready has a direction, and stands twice only where it was wanted twice. Nothing stands beside other answers.
abbrev pub MayWait : List Want → Waited → List Want → Type 0
MayWait wants Ready ready = IsTrue (are_wants ready) × (differ wants ≡ true → differ ready ≡ true) × (length ready ≤ most_ready)
MayWait wants Stop ready = ready ≡ []
MayWait wants WaitFailed ready = ready ≡ []

-- a path isn't empty
abbrev pub IsPlace : Place → Type 0
IsPlace (AtPath path) = (0 < length path) × AreOctets path
IsPlace (AtEndpoint at) = IsEndpoint at

abbrev pub IsTimeout : Option ℕ → Type 0
IsTimeout None = Unit {0}
IsTimeout (Some timeout) = IsNumber timeout

-- a peer has an endpoint
abbrev pub MayAccept : Accepted → Type 0
MayAccept (FromPeer peer) = IsEndpoint peer
MayAccept NoPeer = Unit {0}
MayAccept AcceptFailed = Unit {0}

-- the length of a file has 64 bits
abbrev pub MayMeasure : FileSize → Type 0
MayMeasure (Length n) = IsNumber n
MayMeasure Missing = Unit {0}
MayMeasure SizeFailed = Unit {0}

-- the octets that a read or a datagram left are as many as it says
abbrev pub Leaves : Io → List ℕ → Type 0
Leaves answer octets = (length octets ≡ count_of answer) × AreOctets octets

abbrev pub LeavesGot : Got → List ℕ → Type 0
LeavesGot answer octets = (length octets ≡ count_got answer) × AreOctets octets

-- The answers that a World may give; each argument and answer is of its type's range, and so is the count of what a write offers.
abbrev pub Allowed : Entry → Type 0
Allowed (Now moment) = IsNumber moment
Allowed (Wait wants timeout answer ready) = MayWait wants answer ready × IsTrue (are_wants wants) × IsTimeout timeout
Allowed (LinkOpen at answer) = IsPlace at
Allowed (LinkRead asked answer octets) = MayRead asked answer × Leaves answer octets × IsNumber asked
Allowed (LinkWrite octets answer) = MayWrite (length octets) answer × AreOctets octets × IsNumber (length octets)
Allowed (Connect socket to answer) = IsNumber socket × IsEndpoint to
Allowed (Connected socket answer) = IsNumber socket
Allowed (Listen socket at answer) = IsNumber socket × IsEndpoint at
Allowed (Accept listener socket answer) = IsNumber listener × IsNumber socket × MayAccept answer
Allowed (TcpRead socket asked answer octets) = MayRead asked answer × Leaves answer octets × IsNumber asked × IsNumber socket
Allowed (TcpWrite socket octets answer) = MayWrite (length octets) answer × AreOctets octets × IsNumber socket × IsNumber (length octets)
Allowed (TcpEnd socket answer) = IsNumber socket
Allowed (Close socket) = IsNumber socket
Allowed (UdpOpen socket at answer) = IsNumber socket × IsEndpoint at
Allowed (UdpSend socket to octets answer) = IsNumber socket × IsEndpoint to × AreOctets octets
Allowed (UdpRecv socket asked answer octets) = MayGet asked answer × LeavesGot answer octets × IsNumber asked × IsNumber socket
Allowed (FileLen name answer) = AreOctets name × MayMeasure answer
Allowed (FileRead name place asked answer octets) = MayReadFile asked answer × Leaves answer octets × IsNumber asked × IsNumber place × AreOctets name

-- each answer was one that a World may give
abbrev pub AreAllowed : List Entry → Type 0
AreAllowed [] = Unit {0}
AreAllowed (e ∷ past) = Allowed e × AreAllowed past

-- each call was one that may follow its past; a history has its newest entry first
abbrev pub Follows : (List Entry → Call → Type 0) → List Entry → Type 0
Follows May [] = Unit {0}
Follows May (e ∷ past) = May past (call_of e) × Follows May past
