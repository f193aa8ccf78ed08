-- What a starred line has room for.
use Rattle.std.specs.Prelude.{◌≡◌, ℕ, ◌≤◌, true, List, [], ◌∷◌}
use Rattle.std.specs.Vec.{vec_capacity}
use Rattle.world_face.specs.Limits.{most_name, most_to_flow, most_to_link, most_to_udp, most_wants}
use Rattle.replay.specs.declared.line.Line.{Line}
use Rattle.replay.specs.declared.line.Line.TheVariants.{Wait, LinkOpen, LinkWrite, TcpWrite, UdpSend, FileLen, FileRead}
use Rattle.replay.specs.declared.line.Stop.{Stop}
use Rattle.replay.specs.declared.line.Stop.TheVariants.{Now as StopNow, Wait as StopWait, LinkOpenPath as StopPath, LinkOpenAt as StopAt, LinkRead as StopLinkRead}
use Rattle.replay.specs.declared.line.Stop.TheVariants.{LinkWrite as StopLinkWrite, Connect as StopConnect, Connected as StopConnected, Listen as StopListen, Accept as StopAccept}
use Rattle.replay.specs.declared.line.Stop.TheVariants.{TcpRead as StopTcpRead, TcpWrite as StopTcpWrite, TcpEnd as StopTcpEnd, Close as StopClose, UdpOpen as StopUdpOpen}
use Rattle.replay.specs.declared.line.Stop.TheVariants.{UdpSend as StopUdpSend, UdpRecv as StopUdpRecv, FileLen as StopFileLen, FileRead as StopFileRead}
use Rattle.replay.specs.declared.row.Row.{Row}

-- as many octets and wants as a call may bring
abbrev pub HasRoom : Line → Type 0
HasRoom (Wait wants timeout answer ready) = most_wants ≤ vec_capacity wants
HasRoom (LinkOpen seat answer) = most_name ≤ vec_capacity seat.path
HasRoom (LinkWrite octets answer) = most_to_link ≤ vec_capacity octets
HasRoom (TcpWrite socket octets answer) = most_to_flow ≤ vec_capacity octets
HasRoom (UdpSend socket to octets answer) = most_to_udp ≤ vec_capacity octets
HasRoom (FileLen name answer) = most_name ≤ vec_capacity name
HasRoom (FileRead name place asked answer octets) = most_name ≤ vec_capacity name
HasRoom _ = Unit {0}

abbrev pub IsRoomy : Row → Type 0
IsRoomy row = row.starred ≡ true → HasRoom row.line

abbrev pub AreRoomy : List Row → Type 0
AreRoomy [] = Unit {0}
AreRoomy (row ∷ rows) = IsRoomy row × AreRoomy rows

-- the octets that a call of this kind brings at most
abbrev pub most_octets : Stop → ℕ
most_octets StopPath = most_name
most_octets StopLinkWrite = most_to_link
most_octets (StopTcpWrite socket) = most_to_flow
most_octets (StopUdpSend socket to) = most_to_udp
most_octets StopFileLen = most_name
most_octets (StopFileRead place asked) = most_name
most_octets _ = 0

-- a call of this kind may bring so many octets and wants
abbrev pub MayBring : Stop → ℕ → ℕ → Type 0
MayBring given octets wants = (octets ≤ most_octets given) × (wants ≤ most_wants)

-- what a call is on: the link or all that is waited for, a stream that opens, one that is there, datagrams, or a file
pub data Kind : Type 0 where
  AtMoment : Kind
  OnLink : Kind
  Opening : Kind
  OnStream : Kind
  OfDatagram : Kind
  OnFile : Kind

abbrev pub kind_of : Stop → Kind
kind_of StopNow = AtMoment
kind_of (StopWait timeout) = OnLink
kind_of StopPath = OnLink
kind_of (StopAt at) = OnLink
kind_of (StopLinkRead asked) = OnLink
kind_of StopLinkWrite = OnLink
kind_of (StopConnect socket to) = Opening
kind_of (StopConnected socket) = Opening
kind_of (StopListen socket at) = Opening
kind_of (StopAccept listener socket) = Opening
kind_of (StopTcpRead socket asked) = OnStream
kind_of (StopTcpWrite socket) = OnStream
kind_of (StopTcpEnd socket) = OnStream
kind_of (StopClose socket) = OnStream
kind_of (StopUdpOpen socket at) = OfDatagram
kind_of (StopUdpSend socket to) = OfDatagram
kind_of (StopUdpRecv socket asked) = OfDatagram
kind_of StopFileLen = OnFile
kind_of (StopFileRead place asked) = OnFile
