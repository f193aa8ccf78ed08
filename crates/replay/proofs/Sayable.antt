-- A line can say an entry that a World may give.
use Rattle.std.proofs.Common.{ℕ, ◌^◌, ◌<◌, List, [], ◌∷◌, length, arith}
use Rattle.poll_list.specs.declared.Want.{Want}
use Rattle.world_face.specs.declared.Io.{Io}
use Rattle.world_face.specs.declared.Io.TheVariants.{Done, End, NotYet, Failed}
use Rattle.world_face.specs.declared.Got.{Got}
use Rattle.world_face.specs.declared.Got.TheVariants.{From, NotYet as NothingGot, Failed as GetFailed}
use Rattle.world_face.specs.declared.Waited.{Waited}
use Rattle.world_face.specs.declared.Waited.TheVariants.{Ready, Stop, Failed as WaitFailed}
use Rattle.world_face.specs.Journal.{MayWrite, MayReadFile, MayGet, MayWait, Allowed, AreAllowed, Entry, call_of, Now, Wait, LinkOpen, LinkRead, LinkWrite, Connect, Connected, Listen}
use Rattle.world_face.specs.Journal.{Accept, TcpRead, TcpWrite, TcpEnd, Close, UdpOpen, UdpSend, UdpRecv, FileLen, FileRead}
use Rattle.replay.specs.Range.{InRange, AnswersInRange, IsSayable, AreSayable, LeavesReady, Counts, IsAtOnce, ComesFrom}

allowed_call : (e : Entry) → Allowed e → InRange (call_of e)
allowed_call (Now moment) h = tt
allowed_call (Wait wants timeout answer ready) h = (h.2, h.1)
allowed_call (LinkOpen at answer) h = h
allowed_call (LinkRead asked answer octets) h = h.2
allowed_call (LinkWrite octets answer) h = h.1
allowed_call (Connect socket to answer) h = (h.0, h.1)
allowed_call (Connected socket answer) h = h
allowed_call (Listen socket at answer) h = (h.0, h.1)
allowed_call (Accept listener socket answer) h = (h.0, h.1)
allowed_call (TcpRead socket asked answer octets) h = (h.3, h.2)
allowed_call (TcpWrite socket octets answer) h = (h.2, h.1)
allowed_call (TcpEnd socket answer) h = h
allowed_call (Close socket) h = h
allowed_call (UdpOpen socket at answer) h = (h.0, h.1)
allowed_call (UdpSend socket to octets answer) h = h
allowed_call (UdpRecv socket asked answer octets) h = (h.3, h.2)
allowed_call (FileLen name answer) h = h.0
allowed_call (FileRead name place asked answer octets) h = (h.4, h.3, h.2)

counts : (most : ℕ) (a : Io) → most < 2 ^ 64 → MayWrite most a → Counts a
counts most (Done n) short h = omega arith
counts most End short h = h
counts most NotYet short h = tt
counts most Failed short h = tt

at_once : (asked : ℕ) (a : Io) → MayReadFile asked a → IsAtOnce a
at_once asked (Done n) h = tt
at_once asked End h = tt
at_once asked NotYet h = h
at_once asked Failed h = tt

comes_from : (asked : ℕ) (a : Got) → MayGet asked a → ComesFrom a
comes_from asked (From peer n) h = h.1
comes_from asked NothingGot h = tt
comes_from asked GetFailed h = tt

leaves_ready : (wants : List Want) (a : Waited) (r : List Want) → MayWait wants a r → LeavesReady a r
leaves_ready wants Ready r h = h.0
leaves_ready wants Stop r h = h
leaves_ready wants WaitFailed r h = h

allowed_answer : (e : Entry) → Allowed e → AnswersInRange e
allowed_answer (Now moment) h = h
allowed_answer (Wait wants timeout answer ready) h = leaves_ready wants answer ready h.0
allowed_answer (LinkOpen at answer) h = tt
allowed_answer (LinkRead asked answer octets) h = h.1
allowed_answer (LinkWrite octets answer) h = counts (length octets) answer h.2 h.0
allowed_answer (Connect socket to answer) h = tt
allowed_answer (Connected socket answer) h = tt
allowed_answer (Listen socket at answer) h = tt
allowed_answer (Accept listener socket answer) h = h.2
allowed_answer (TcpRead socket asked answer octets) h = h.1
allowed_answer (TcpWrite socket octets answer) h = counts (length octets) answer h.3 h.0
allowed_answer (TcpEnd socket answer) h = tt
allowed_answer (Close socket) h = tt
allowed_answer (UdpOpen socket at answer) h = tt
allowed_answer (UdpSend socket to octets answer) h = tt
allowed_answer (UdpRecv socket asked answer octets) h = (comes_from asked answer h.0, h.1)
allowed_answer (FileLen name answer) h = h.1
allowed_answer (FileRead name place asked answer octets) h = (at_once asked answer h.0, h.1)

pub sayable : (e : Entry) → Allowed e → IsSayable e
sayable e h = (allowed_call e h, allowed_answer e h)

pub all_sayable : (es : List Entry) → AreAllowed es → AreSayable es
all_sayable [] h = tt
all_sayable (e ∷ es) h = (sayable e h.0, all_sayable es h.1)
