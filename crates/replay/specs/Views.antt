-- What a line stands for that lies elsewhere.
use Rattle.world_face.specs.Journal.{Entry, Now, Wait, LinkOpen, LinkRead, LinkWrite, Connect, Connected, Listen, Accept, TcpRead, TcpWrite, TcpEnd, Close, UdpOpen, UdpSend, UdpRecv}
use Rattle.world_face.specs.Journal.{FileLen, FileRead}
use Rattle.replay.specs.Lines.{place_of_two}
use Rattle.replay.specs.declared.view.LineView.{LineView}
use Rattle.replay.specs.declared.view.LineView.TheVariants as view

abbrev pub viewed : LineView → Entry
viewed (view.Now moment) = Now moment
viewed (view.Wait wants timeout answer ready) = Wait wants.now timeout answer ready.now
viewed (view.LinkOpen path at answer) = LinkOpen (place_of_two at path.now) answer
viewed (view.LinkRead asked answer octets) = LinkRead asked answer octets.now
viewed (view.LinkWrite octets answer) = LinkWrite octets.now answer
viewed (view.Connect socket to answer) = Connect socket to answer
viewed (view.Connected socket answer) = Connected socket answer
viewed (view.Listen socket at answer) = Listen socket at answer
viewed (view.Accept listener socket answer) = Accept listener socket answer
viewed (view.TcpRead socket asked answer octets) = TcpRead socket asked answer octets.now
viewed (view.TcpWrite socket octets answer) = TcpWrite socket octets.now answer
viewed (view.TcpEnd socket answer) = TcpEnd socket answer
viewed (view.Close socket) = Close socket
viewed (view.UdpOpen socket at answer) = UdpOpen socket at answer
viewed (view.UdpSend socket to octets answer) = UdpSend socket to octets.now answer
viewed (view.UdpRecv socket asked answer octets) = UdpRecv socket asked answer octets.now
viewed (view.FileLen name answer) = FileLen name.now answer
viewed (view.FileRead name place asked answer octets) = FileRead name.now place asked answer octets.now
