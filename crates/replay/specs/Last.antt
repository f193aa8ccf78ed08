-- What is answered to a call, by the line that was used up for it.
use Rattle.std.specs.Prelude.{ℕ, List, [], ◌∷◌, Option, Some, None, if◌then◌else◌}
use Rattle.poll_list.specs.declared.Want.{Want}
use Rattle.world_face.specs.declared.Io.{Io}
use Rattle.world_face.specs.declared.Io.TheVariants.{Failed as IoFailed}
use Rattle.world_face.specs.declared.Made.{Made}
use Rattle.world_face.specs.declared.Made.TheVariants.{Failed as MadeFailed}
use Rattle.world_face.specs.declared.Joined.{Joined}
use Rattle.world_face.specs.declared.Joined.TheVariants.{Failed as JoinFailed}
use Rattle.world_face.specs.declared.Accepted.{Accepted}
use Rattle.world_face.specs.declared.Accepted.TheVariants.{Failed as AcceptFailed}
use Rattle.world_face.specs.declared.Sent.{Sent}
use Rattle.world_face.specs.declared.Sent.TheVariants.{Failed as SendFailed}
use Rattle.world_face.specs.declared.Got.{Got}
use Rattle.world_face.specs.declared.Got.TheVariants.{Failed as GetFailed}
use Rattle.world_face.specs.declared.FileSize.{FileSize}
use Rattle.world_face.specs.declared.FileSize.TheVariants.{Failed as SizeFailed}
use Rattle.world_face.specs.declared.Waited.{Waited}
use Rattle.world_face.specs.declared.Waited.TheVariants.{Failed as WaitFailed}
use Rattle.world_face.specs.Journal.{Entry, Now, Wait, LinkOpen, LinkRead, LinkWrite, Connect, Connected, Listen, Accept, TcpRead, TcpWrite, TcpEnd, Close, UdpOpen, UdpSend, UdpRecv}
use Rattle.world_face.specs.Journal.{FileLen, FileRead, Call, CallNow, CallWait, CallLinkOpen, CallLinkRead, CallLinkWrite, CallConnect, CallConnected, CallListen, CallAccept, CallTcpRead}
use Rattle.world_face.specs.Journal.{CallTcpWrite, CallTcpEnd, CallClose, CallUdpOpen, CallUdpSend, CallUdpRecv, CallFileLen, CallFileRead}
use Rattle.replay.specs.Script.{Script, kept_of}
use Rattle.replay.specs.Fitting.{last_moment}

abbrev pub newest : List Entry → Option Entry
newest [] = None
newest (e ∷ past) = Some e

-- the entry of the line that was used up last, while the World answers by lines
abbrev pub last_of : Script → Option Entry
last_of script = if script.live then newest (kept_of script) else None

-- each answer as it stands in the entry; where there is none of this form it is a failure
abbrev pub waited_of : Option Entry → Waited
waited_of (Some (Wait wants timeout answer ready)) = answer
waited_of _ = WaitFailed

abbrev pub ready_of : Option Entry → List Want
ready_of (Some (Wait wants timeout answer ready)) = ready
ready_of _ = []

abbrev pub made_of : Option Entry → Made
made_of (Some (LinkOpen at answer)) = answer
made_of (Some (Connect socket to answer)) = answer
made_of (Some (Listen socket at answer)) = answer
made_of (Some (TcpEnd socket answer)) = answer
made_of (Some (UdpOpen socket at answer)) = answer
made_of _ = MadeFailed

abbrev pub io_of : Option Entry → Io
io_of (Some (LinkRead asked answer octets)) = answer
io_of (Some (LinkWrite octets answer)) = answer
io_of (Some (TcpRead socket asked answer octets)) = answer
io_of (Some (TcpWrite socket octets answer)) = answer
io_of (Some (FileRead name place asked answer octets)) = answer
io_of _ = IoFailed

-- what a read or a datagram brought
abbrev pub octets_of : Option Entry → List ℕ
octets_of (Some (LinkRead asked answer octets)) = octets
octets_of (Some (TcpRead socket asked answer octets)) = octets
octets_of (Some (UdpRecv socket asked answer octets)) = octets
octets_of (Some (FileRead name place asked answer octets)) = octets
octets_of _ = []

abbrev pub joined_of : Option Entry → Joined
joined_of (Some (Connected socket answer)) = answer
joined_of _ = JoinFailed

abbrev pub accepted_of : Option Entry → Accepted
accepted_of (Some (Accept listener socket answer)) = answer
accepted_of _ = AcceptFailed

abbrev pub sent_of : Option Entry → Sent
sent_of (Some (UdpSend socket to octets answer)) = answer
sent_of _ = SendFailed

abbrev pub got_of : Option Entry → Got
got_of (Some (UdpRecv socket asked answer octets)) = answer
got_of _ = GetFailed

abbrev pub size_of : Option Entry → FileSize
size_of (Some (FileLen name answer)) = answer
size_of _ = SizeFailed

-- the call, with the answer of this entry; the moment is given
abbrev pub answer_by : ℕ → Option Entry → Call → Entry
answer_by moment last CallNow = Now moment
answer_by moment last (CallWait wants timeout) = Wait wants timeout (waited_of last) (ready_of last)
answer_by moment last (CallLinkOpen at) = LinkOpen at (made_of last)
answer_by moment last (CallLinkRead asked) = LinkRead asked (io_of last) (octets_of last)
answer_by moment last (CallLinkWrite octets) = LinkWrite octets (io_of last)
answer_by moment last (CallConnect socket to) = Connect socket to (made_of last)
answer_by moment last (CallConnected socket) = Connected socket (joined_of last)
answer_by moment last (CallListen socket at) = Listen socket at (made_of last)
answer_by moment last (CallAccept listener socket) = Accept listener socket (accepted_of last)
answer_by moment last (CallTcpRead socket asked) = TcpRead socket asked (io_of last) (octets_of last)
answer_by moment last (CallTcpWrite socket octets) = TcpWrite socket octets (io_of last)
answer_by moment last (CallTcpEnd socket) = TcpEnd socket (made_of last)
answer_by moment last (CallClose socket) = Close socket
answer_by moment last (CallUdpOpen socket at) = UdpOpen socket at (made_of last)
answer_by moment last (CallUdpSend socket to octets) = UdpSend socket to octets (sent_of last)
answer_by moment last (CallUdpRecv socket asked) = UdpRecv socket asked (got_of last) (octets_of last)
answer_by moment last (CallFileLen name) = FileLen name (size_of last)
answer_by moment last (CallFileRead name place asked) = FileRead name place asked (io_of last) (octets_of last)

-- what a World that stands so has answered to its last call
abbrev pub answer_to : Script → Call → Entry
answer_to script call = answer_by (last_moment (kept_of script)) (last_of script) call
