-- The names of the calls.
use Rattle.std.specs.Prelude.{ℕ, Bool, List, bytes_eq, codes}
use Rattle.world_face.specs.Journal.{Call, CallNow, CallWait, CallLinkOpen, CallLinkRead, CallLinkWrite, CallConnect, CallConnected, CallListen, CallAccept, CallTcpRead, CallTcpWrite}
use Rattle.world_face.specs.Journal.{CallTcpEnd, CallClose, CallUdpOpen, CallUdpSend, CallUdpRecv, CallFileLen, CallFileRead}
use Rattle.replay.specs.declared.CallName.{CallName}
use Rattle.replay.specs.declared.CallName.TheVariants.{Now, Wait, LinkOpen, LinkRead, LinkWrite, Connect, Connected, Listen, Accept, TcpRead, TcpWrite, TcpEnd, Close, UdpOpen, UdpSend}
use Rattle.replay.specs.declared.CallName.TheVariants.{UdpRecv, FileLen, FileRead}

-- as it stands in a line
abbrev pub name_text : CallName → List ℕ
name_text Now = codes "now"
name_text Wait = codes "wait"
name_text LinkOpen = codes "lopen"
name_text LinkRead = codes "lread"
name_text LinkWrite = codes "lwrite"
name_text Connect = codes "connect"
name_text Connected = codes "connected"
name_text Listen = codes "listen"
name_text Accept = codes "accept"
name_text TcpRead = codes "tread"
name_text TcpWrite = codes "twrite"
name_text TcpEnd = codes "tend"
name_text Close = codes "close"
name_text UdpOpen = codes "uopen"
name_text UdpSend = codes "usend"
name_text UdpRecv = codes "urecv"
name_text FileLen = codes "flen"
name_text FileRead = codes "fread"

-- this text is the name
abbrev pub is_named : List ℕ → CallName → Bool
is_named text name = bytes_eq text (name_text name)

abbrev pub name_of : Call → CallName
name_of CallNow = Now
name_of (CallWait wants timeout) = Wait
name_of (CallLinkOpen at) = LinkOpen
name_of (CallLinkRead asked) = LinkRead
name_of (CallLinkWrite octets) = LinkWrite
name_of (CallConnect socket to) = Connect
name_of (CallConnected socket) = Connected
name_of (CallListen socket at) = Listen
name_of (CallAccept listener socket) = Accept
name_of (CallTcpRead socket asked) = TcpRead
name_of (CallTcpWrite socket octets) = TcpWrite
name_of (CallTcpEnd socket) = TcpEnd
name_of (CallClose socket) = Close
name_of (CallUdpOpen socket at) = UdpOpen
name_of (CallUdpSend socket to octets) = UdpSend
name_of (CallUdpRecv socket asked) = UdpRecv
name_of (CallFileLen name) = FileLen
name_of (CallFileRead name place asked) = FileRead
