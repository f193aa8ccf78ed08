-- What a line that was read, and the call that fitted none, stand for.
use Rattle.std.specs.Prelude.{ℕ, List, map, Option, Some, None}
use Rattle.net_octets.specs.declared.Endpoint.{Endpoint}
use Rattle.poll_list.specs.declared.Want.{Want}
use Rattle.world_face.specs.Journal.{Place, AtPath, AtEndpoint, Entry, Now, Wait, LinkOpen, LinkRead, LinkWrite, Connect, Connected, Listen, Accept, TcpRead, TcpWrite, TcpEnd, Close}
use Rattle.world_face.specs.Journal.{UdpOpen, UdpSend, UdpRecv, FileLen, FileRead, Call, CallNow, CallWait, CallLinkOpen, CallLinkRead, CallLinkWrite, CallConnect, CallConnected}
use Rattle.world_face.specs.Journal.{CallListen, CallAccept, CallTcpRead, CallTcpWrite, CallTcpEnd, CallClose, CallUdpOpen, CallUdpSend, CallUdpRecv, CallFileLen, CallFileRead}
use Rattle.replay.specs.Rows.{Row}
use Rattle.replay.specs.declared.line.Seat.{Seat}
use Rattle.replay.specs.declared.line.Line.{Line}
use Rattle.replay.specs.declared.line.Line.TheVariants.{Now as LineNow, Wait as LineWait, LinkOpen as LineLinkOpen, LinkRead as LineLinkRead, LinkWrite as LineLinkWrite}
use Rattle.replay.specs.declared.line.Line.TheVariants.{Connect as LineConnect, Connected as LineConnected, Listen as LineListen, Accept as LineAccept, TcpRead as LineTcpRead}
use Rattle.replay.specs.declared.line.Line.TheVariants.{TcpWrite as LineTcpWrite, TcpEnd as LineTcpEnd, Close as LineClose, UdpOpen as LineUdpOpen, UdpSend as LineUdpSend}
use Rattle.replay.specs.declared.line.Line.TheVariants.{UdpRecv as LineUdpRecv, FileLen as LineFileLen, FileRead as LineFileRead}
use Rattle.replay.specs.declared.row.Row.{Row as ARow}
use Rattle.replay.specs.declared.line.Stop.{Stop}
use Rattle.replay.specs.declared.line.Stop.TheVariants.{Now as StopNow, Wait as StopWait, LinkOpenPath as StopPath, LinkOpenAt as StopAt, LinkRead as StopLinkRead}
use Rattle.replay.specs.declared.line.Stop.TheVariants.{LinkWrite as StopLinkWrite, Connect as StopConnect, Connected as StopConnected, Listen as StopListen, Accept as StopAccept}
use Rattle.replay.specs.declared.line.Stop.TheVariants.{TcpRead as StopTcpRead, TcpWrite as StopTcpWrite, TcpEnd as StopTcpEnd, Close as StopClose, UdpOpen as StopUdpOpen}
use Rattle.replay.specs.declared.line.Stop.TheVariants.{UdpSend as StopUdpSend, UdpRecv as StopUdpRecv, FileLen as StopFileLen, FileRead as StopFileRead}

-- an endpoint, or else a path
abbrev pub place_of_two : Option Endpoint → List ℕ → Place
place_of_two None path = AtPath path
place_of_two (Some at) path = AtEndpoint at

abbrev pub place_at : Seat → Place
place_at seat = place_of_two seat.at seat.path.items

abbrev pub entry_of : Line → Entry
entry_of (LineNow moment) = Now moment
entry_of (LineWait wants timeout answer ready) = Wait wants.items timeout answer ready
entry_of (LineLinkOpen seat answer) = LinkOpen (place_at seat) answer
entry_of (LineLinkRead asked answer octets) = LinkRead asked answer octets.items
entry_of (LineLinkWrite octets answer) = LinkWrite octets.items answer
entry_of (LineConnect socket to answer) = Connect socket to answer
entry_of (LineConnected socket answer) = Connected socket answer
entry_of (LineListen socket at answer) = Listen socket at answer
entry_of (LineAccept listener socket answer) = Accept listener socket answer
entry_of (LineTcpRead socket asked answer octets) = TcpRead socket asked answer octets.items
entry_of (LineTcpWrite socket octets answer) = TcpWrite socket octets.items answer
entry_of (LineTcpEnd socket answer) = TcpEnd socket answer
entry_of (LineClose socket) = Close socket
entry_of (LineUdpOpen socket at answer) = UdpOpen socket at answer
entry_of (LineUdpSend socket to octets answer) = UdpSend socket to octets.items answer
entry_of (LineUdpRecv socket asked answer octets) = UdpRecv socket asked answer octets.items
entry_of (LineFileLen name answer) = FileLen name.items answer
entry_of (LineFileRead name place asked answer octets) = FileRead name.items place asked answer octets.items

abbrev pub row_of : ARow → Row
row_of row = record { entry = entry_of row.line; starred = row.starred; all = row.all }

abbrev pub rows_of : List ARow → List Row
rows_of rows = map row_of rows

-- the call, with the octets and the wants that were kept
abbrev pub call_at : Stop → List ℕ → List Want → Call
call_at StopNow octets wants = CallNow
call_at (StopWait timeout) octets wants = CallWait wants timeout
call_at StopPath octets wants = CallLinkOpen (AtPath octets)
call_at (StopAt at) octets wants = CallLinkOpen (AtEndpoint at)
call_at (StopLinkRead asked) octets wants = CallLinkRead asked
call_at StopLinkWrite octets wants = CallLinkWrite octets
call_at (StopConnect socket to) octets wants = CallConnect socket to
call_at (StopConnected socket) octets wants = CallConnected socket
call_at (StopListen socket at) octets wants = CallListen socket at
call_at (StopAccept listener socket) octets wants = CallAccept listener socket
call_at (StopTcpRead socket asked) octets wants = CallTcpRead socket asked
call_at (StopTcpWrite socket) octets wants = CallTcpWrite socket octets
call_at (StopTcpEnd socket) octets wants = CallTcpEnd socket
call_at (StopClose socket) octets wants = CallClose socket
call_at (StopUdpOpen socket at) octets wants = CallUdpOpen socket at
call_at (StopUdpSend socket to) octets wants = CallUdpSend socket to octets
call_at (StopUdpRecv socket asked) octets wants = CallUdpRecv socket asked
call_at StopFileLen octets wants = CallFileLen octets
call_at (StopFileRead place asked) octets wants = CallFileRead octets place asked

abbrev pub stop_of : Option Stop → List ℕ → List Want → Option Call
stop_of None octets wants = None
stop_of (Some stop) octets wants = Some (call_at stop octets wants)
