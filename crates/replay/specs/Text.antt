-- The text of a trace of calls: one line for each call, with its arguments and its answer.
use Rattle.std.specs.Prelude.{ℕ, List, [], ◌∷◌, ◌++◌, Bool, true, false, Option, Some, None, codes, decimal}
use Rattle.hex.specs.Hex.{encode_lower}
use Rattle.address_text.specs.Texts.{endpoint_text, place_text}
use Rattle.poll_list.specs.declared.Who.{Who}
use Rattle.poll_list.specs.declared.Who.TheVariants.{Link, Listener, Udp, Tcp}
use Rattle.poll_list.specs.declared.Want.{Want}
use Rattle.world_face.specs.declared.Io.{Io}
use Rattle.world_face.specs.declared.Io.TheVariants.{Done, End, NotYet, Failed}
use Rattle.world_face.specs.declared.Made.{Made}
use Rattle.world_face.specs.declared.Made.TheVariants.{Done as MadeDone, Failed as MadeFailed}
use Rattle.world_face.specs.declared.Joined.{Joined}
use Rattle.world_face.specs.declared.Joined.TheVariants.{Yes, NotYet as NotYetJoined, Failed as JoinFailed}
use Rattle.world_face.specs.declared.Accepted.{Accepted}
use Rattle.world_face.specs.declared.Accepted.TheVariants.{From as FromPeer, NotYet as NoPeer, Failed as AcceptFailed}
use Rattle.world_face.specs.declared.Sent.{Sent}
use Rattle.world_face.specs.declared.Sent.TheVariants.{Done as SentDone, NotYet as NotYetSent, Failed as SendFailed}
use Rattle.world_face.specs.declared.Got.{Got}
use Rattle.world_face.specs.declared.Got.TheVariants.{From, NotYet as NothingGot, Failed as GetFailed}
use Rattle.world_face.specs.declared.FileSize.{FileSize}
use Rattle.world_face.specs.declared.FileSize.TheVariants.{Length, Missing, Failed as SizeFailed}
use Rattle.world_face.specs.declared.Waited.{Waited}
use Rattle.world_face.specs.declared.Waited.TheVariants.{Ready, Stop, Failed as WaitFailed}
use Rattle.world_face.specs.Journal.{Entry, Now, Wait, LinkOpen, LinkRead, LinkWrite, Connect, Connected, Listen, Accept, TcpRead, TcpWrite, TcpEnd, Close, UdpOpen, UdpSend, UdpRecv}
use Rattle.world_face.specs.Journal.{FileLen, FileRead, Call, CallNow, CallWait, CallLinkOpen, CallLinkRead, CallLinkWrite, CallConnect, CallConnected, CallListen, CallAccept, CallTcpRead}
use Rattle.world_face.specs.Journal.{CallTcpWrite, CallTcpEnd, CallClose, CallUdpOpen, CallUdpSend, CallUdpRecv, CallFileLen, CallFileRead, call_of}

-- octets: two digits for each, or a dash where there is none
abbrev pub hexadecimal : List ℕ → List ℕ
hexadecimal [] = codes "-"
hexadecimal (x ∷ xs) = encode_lower (x ∷ xs)

-- the link, or the kind of a socket and its number
abbrev pub who_text : Who → List ℕ
who_text Link = codes "link"
who_text (Listener socket) = codes "l" ++ decimal socket
who_text (Udp socket) = codes "u" ++ decimal socket
who_text (Tcp socket) = codes "t" ++ decimal socket

abbrev pub direction_text : Bool → Bool → List ℕ
direction_text true true = codes "rw"
direction_text true false = codes "r"
direction_text false true = codes "w"
direction_text false false = []

abbrev pub want_text : Want → List ℕ
want_text want = who_text want.of ++ codes ":" ++ direction_text want.read want.write

-- wants joined by commas
abbrev pub joined_text : List Want → List ℕ
joined_text [] = []
joined_text (want ∷ []) = want_text want
joined_text (want ∷ next ∷ wants) = want_text want ++ codes "," ++ joined_text (next ∷ wants)

-- or a dash where there is none
abbrev pub wants_text : List Want → List ℕ
wants_text [] = codes "-"
wants_text (want ∷ wants) = joined_text (want ∷ wants)

abbrev pub timeout_text : Option ℕ → List ℕ
timeout_text None = codes "-"
timeout_text (Some timeout) = decimal timeout

-- a call: its name, and its arguments each after a space
unfoldable pub call_text : Call → List ℕ
call_text CallNow = codes "now"
call_text (CallWait wants timeout) = codes "wait " ++ timeout_text timeout ++ codes " " ++ wants_text wants
call_text (CallLinkOpen at) = codes "lopen " ++ hexadecimal (place_text at)
call_text (CallLinkRead asked) = codes "lread " ++ decimal asked
call_text (CallLinkWrite octets) = codes "lwrite " ++ hexadecimal octets
call_text (CallConnect socket to) = codes "connect " ++ decimal socket ++ codes " " ++ endpoint_text to
call_text (CallConnected socket) = codes "connected " ++ decimal socket
call_text (CallListen socket at) = codes "listen " ++ decimal socket ++ codes " " ++ endpoint_text at
call_text (CallAccept listener socket) = codes "accept " ++ decimal listener ++ codes " " ++ decimal socket
call_text (CallTcpRead socket asked) = codes "tread " ++ decimal socket ++ codes " " ++ decimal asked
call_text (CallTcpWrite socket octets) = codes "twrite " ++ decimal socket ++ codes " " ++ hexadecimal octets
call_text (CallTcpEnd socket) = codes "tend " ++ decimal socket
call_text (CallClose socket) = codes "close " ++ decimal socket
call_text (CallUdpOpen socket at) = codes "uopen " ++ decimal socket ++ codes " " ++ endpoint_text at
call_text (CallUdpSend socket to octets) = codes "usend " ++ decimal socket ++ codes " " ++ endpoint_text to ++ codes " " ++ hexadecimal octets
call_text (CallUdpRecv socket asked) = codes "urecv " ++ decimal socket ++ codes " " ++ decimal asked
call_text (CallFileLen name) = codes "flen " ++ hexadecimal name
call_text (CallFileRead name place asked) = codes "fread " ++ hexadecimal name ++ codes " " ++ decimal place ++ codes " " ++ decimal asked

-- what is answered
abbrev pub made_text : Made → List ℕ
made_text MadeDone = codes "done"
made_text MadeFailed = codes "fail"

abbrev pub ready_text : List Want → List ℕ
ready_text [] = codes "ready"
ready_text (want ∷ wants) = codes "ready " ++ joined_text (want ∷ wants)

abbrev pub waited_text : Waited → List Want → List ℕ
waited_text Ready ready = ready_text ready
waited_text Stop ready = codes "stop"
waited_text WaitFailed ready = codes "fail"

abbrev pub read_text : Io → List ℕ → List ℕ
read_text (Done n) octets = codes "done " ++ hexadecimal octets
read_text End octets = codes "end"
read_text NotYet octets = codes "notyet"
read_text Failed octets = codes "fail"

abbrev pub written_text : Io → List ℕ
written_text (Done n) = codes "done " ++ decimal n
written_text End = codes "end"
written_text NotYet = codes "notyet"
written_text Failed = codes "fail"

abbrev pub joined_answer : Joined → List ℕ
joined_answer Yes = codes "yes"
joined_answer NotYetJoined = codes "notyet"
joined_answer JoinFailed = codes "fail"

abbrev pub accepted_text : Accepted → List ℕ
accepted_text (FromPeer peer) = codes "from " ++ endpoint_text peer
accepted_text NoPeer = codes "notyet"
accepted_text AcceptFailed = codes "fail"

abbrev pub sent_text : Sent → List ℕ
sent_text SentDone = codes "done"
sent_text NotYetSent = codes "notyet"
sent_text SendFailed = codes "fail"

abbrev pub got_text : Got → List ℕ → List ℕ
got_text (From peer n) octets = codes "from " ++ endpoint_text peer ++ codes " " ++ hexadecimal octets
got_text NothingGot octets = codes "notyet"
got_text GetFailed octets = codes "fail"

abbrev pub size_text : FileSize → List ℕ
size_text (Length n) = codes "len " ++ decimal n
size_text Missing = codes "missing"
size_text SizeFailed = codes "fail"

unfoldable pub answer_text : Entry → List ℕ
answer_text (Now moment) = decimal moment
answer_text (Wait wants timeout answer ready) = waited_text answer ready
answer_text (LinkOpen at answer) = made_text answer
answer_text (LinkRead asked answer octets) = read_text answer octets
answer_text (LinkWrite octets answer) = written_text answer
answer_text (Connect socket to answer) = made_text answer
answer_text (Connected socket answer) = joined_answer answer
answer_text (Listen socket at answer) = made_text answer
answer_text (Accept listener socket answer) = accepted_text answer
answer_text (TcpRead socket asked answer octets) = read_text answer octets
answer_text (TcpWrite socket octets answer) = written_text answer
answer_text (TcpEnd socket answer) = made_text answer
answer_text (Close socket) = codes "done"
answer_text (UdpOpen socket at answer) = made_text answer
answer_text (UdpSend socket to octets answer) = sent_text answer
answer_text (UdpRecv socket asked answer octets) = got_text answer octets
answer_text (FileLen name answer) = size_text answer
answer_text (FileRead name place asked answer octets) = read_text answer octets

-- a call and its answer, and a line feed
abbrev pub line_text : Entry → List ℕ
line_text e = call_text (call_of e) ++ codes " = " ++ answer_text e ++ 10 ∷ []

-- The trace is kept newest first; its text has the lines in the order of the calls.
abbrev pub text : List Entry → List ℕ
text [] = []
text (e ∷ past) = text past ++ line_text e
