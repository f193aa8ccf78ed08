-- The entries that a line can say.
use Rattle.std.specs.Prelude.{◌≡◌, true, List, [], ◌∷◌}
use Rattle.poll_list.specs.declared.Want.{Want}
use Rattle.poll_list.specs.Listing.{are_wants}
use Rattle.world_face.specs.declared.Io.{Io}
use Rattle.world_face.specs.declared.Io.TheVariants.{Done, End, NotYet, Failed}
use Rattle.world_face.specs.declared.Got.{Got}
use Rattle.world_face.specs.declared.Got.TheVariants.{From, NotYet as NothingGot, Failed as GetFailed}
use Rattle.world_face.specs.declared.Waited.{Waited}
use Rattle.world_face.specs.declared.Waited.TheVariants.{Ready, Stop, Failed as WaitFailed}
use Rattle.world_face.specs.Journal.{AreOctets, IsEndpoint, IsNumber, IsPlace, IsTimeout, MayAccept, MayMeasure, Leaves, LeavesGot, Entry, Now, Wait, LinkOpen, LinkRead, LinkWrite}
use Rattle.world_face.specs.Journal.{Connect, Connected, Listen, Accept, TcpRead, TcpWrite, TcpEnd, Close, UdpOpen, UdpSend, UdpRecv, FileLen, FileRead, Call, call_of, CallNow, CallWait}
use Rattle.world_face.specs.Journal.{CallLinkOpen, CallLinkRead, CallLinkWrite, CallConnect, CallConnected, CallListen, CallAccept, CallTcpRead, CallTcpWrite, CallTcpEnd, CallClose}
use Rattle.world_face.specs.Journal.{CallUdpOpen, CallUdpSend, CallUdpRecv, CallFileLen, CallFileRead}

-- each argument is in the range of its type, and each want has a direction
abbrev pub InRange : Call → Type 0
InRange CallNow = Unit {0}
InRange (CallWait wants timeout) = IsTimeout timeout × (are_wants wants ≡ true)
InRange (CallLinkOpen at) = IsPlace at
InRange (CallLinkRead asked) = IsNumber asked
InRange (CallLinkWrite octets) = AreOctets octets
InRange (CallConnect socket to) = IsNumber socket × IsEndpoint to
InRange (CallConnected socket) = IsNumber socket
InRange (CallListen socket at) = IsNumber socket × IsEndpoint at
InRange (CallAccept listener socket) = IsNumber listener × IsNumber socket
InRange (CallTcpRead socket asked) = IsNumber socket × IsNumber asked
InRange (CallTcpWrite socket octets) = IsNumber socket × AreOctets octets
InRange (CallTcpEnd socket) = IsNumber socket
InRange (CallClose socket) = IsNumber socket
InRange (CallUdpOpen socket at) = IsNumber socket × IsEndpoint at
InRange (CallUdpSend socket to octets) = IsNumber socket × IsEndpoint to × AreOctets octets
InRange (CallUdpRecv socket asked) = IsNumber socket × IsNumber asked
InRange (CallFileLen name) = AreOctets name
InRange (CallFileRead name place asked) = AreOctets name × IsNumber place × IsNumber asked

-- what stands beside the answer to a wait: items with a direction where some are ready, else nothing
abbrev pub LeavesReady : Waited → List Want → Type 0
LeavesReady Ready ready = are_wants ready ≡ true
LeavesReady Stop ready = ready ≡ []
LeavesReady WaitFailed ready = ready ≡ []

-- a write never ends, and its count has 64 bits
abbrev pub Counts : Io → Type 0
Counts (Done n) = IsNumber n
Counts End = ⊥
Counts NotYet = Unit {0}
Counts Failed = Unit {0}

-- a file is there at once
abbrev pub IsAtOnce : Io → Type 0
IsAtOnce (Done n) = Unit {0}
IsAtOnce End = Unit {0}
IsAtOnce NotYet = ⊥
IsAtOnce Failed = Unit {0}

abbrev pub ComesFrom : Got → Type 0
ComesFrom (From peer n) = IsEndpoint peer
ComesFrom NothingGot = Unit {0}
ComesFrom GetFailed = Unit {0}

-- the answer is one of its call's, in the range of its type
abbrev pub AnswersInRange : Entry → Type 0
AnswersInRange (Now moment) = IsNumber moment
AnswersInRange (Wait wants timeout answer ready) = LeavesReady answer ready
AnswersInRange (LinkOpen at answer) = Unit {0}
AnswersInRange (LinkRead asked answer octets) = Leaves answer octets
AnswersInRange (LinkWrite octets answer) = Counts answer
AnswersInRange (Connect socket to answer) = Unit {0}
AnswersInRange (Connected socket answer) = Unit {0}
AnswersInRange (Listen socket at answer) = Unit {0}
AnswersInRange (Accept listener socket answer) = MayAccept answer
AnswersInRange (TcpRead socket asked answer octets) = Leaves answer octets
AnswersInRange (TcpWrite socket octets answer) = Counts answer
AnswersInRange (TcpEnd socket answer) = Unit {0}
AnswersInRange (Close socket) = Unit {0}
AnswersInRange (UdpOpen socket at answer) = Unit {0}
AnswersInRange (UdpSend socket to octets answer) = Unit {0}
AnswersInRange (UdpRecv socket asked answer octets) = ComesFrom answer × LeavesGot answer octets
AnswersInRange (FileLen name answer) = MayMeasure answer
AnswersInRange (FileRead name place asked answer octets) = IsAtOnce answer × Leaves answer octets

-- A line can say this entry. Whether a World may give the answer is another question. `done -`, a `ready` with nothing after it and an item that stands twice
-- can be said.
abbrev pub IsSayable : Entry → Type 0
IsSayable e = InRange (call_of e) × AnswersInRange e

abbrev pub AreSayable : List Entry → Type 0
AreSayable [] = Unit {0}
AreSayable (e ∷ es) = IsSayable e × AreSayable es
