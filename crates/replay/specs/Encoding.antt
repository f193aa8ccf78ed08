-- Letters of hexadecimal digits, and the two halves of a line.
use Rattle.std.specs.Prelude.{◌≡◌, ℕ, Bool, true, false, nat_lt, codes, if◌then◌else◌, ◌||◌, List, ◌∷◌, ◌++◌, decimal}
use Rattle.world_face.specs.Journal.{Entry, Call, CallNow, CallWait, CallLinkOpen, CallLinkRead, CallLinkWrite, CallConnect, CallConnected, CallListen, CallAccept, CallTcpRead}
use Rattle.world_face.specs.Journal.{CallTcpWrite, CallTcpEnd, CallClose, CallUdpOpen, CallUdpSend, CallUdpRecv, CallFileLen, CallFileRead, call_of}
use Rattle.replay.specs.declared.CallName.{CallName}
use Rattle.replay.specs.declared.CallName.TheVariants.{Now, Wait, LinkOpen, LinkRead, LinkWrite, Connect, Connected, Listen, Accept, TcpRead, TcpWrite, TcpEnd, Close, UdpOpen, UdpSend}
use Rattle.replay.specs.declared.CallName.TheVariants.{UdpRecv, FileLen, FileRead}
use Rattle.replay.specs.Names.{name_of}
use Rattle.replay.specs.Range.{IsSayable}
use Rattle.replay.specs.Rows.{Row, IsReadable, said_call, said_answer}
use Rattle.address_text.specs.Texts.{endpoint_text, place_text}
use Rattle.replay.specs.Text.{hexadecimal, timeout_text, wants_text, call_text, answer_text}

-- no capital from A to F
abbrev pub is_lower : ℕ → Bool
is_lower c = nat_lt c 65 || nat_lt 70 c

-- the two sides of a line
abbrev pub IsEncoded : List ℕ → List ℕ → Entry → Type 0
IsEncoded call answer e = (call ≡ call_text (call_of e)) × (answer ≡ answer_text e)

-- the arguments as they stand after the name and a space; the moment is asked with none
abbrev pub HasArguments : Call → List ℕ → Type 0
HasArguments CallNow args = ⊥
HasArguments (CallWait wants timeout) args = args ≡ timeout_text timeout ++ 32 ∷ wants_text wants
HasArguments (CallLinkOpen at) args = args ≡ hexadecimal (place_text at)
HasArguments (CallLinkRead asked) args = args ≡ decimal asked
HasArguments (CallLinkWrite octets) args = args ≡ hexadecimal octets
HasArguments (CallConnect socket to) args = args ≡ decimal socket ++ 32 ∷ endpoint_text to
HasArguments (CallConnected socket) args = args ≡ decimal socket
HasArguments (CallListen socket at) args = args ≡ decimal socket ++ 32 ∷ endpoint_text at
HasArguments (CallAccept listener socket) args = args ≡ decimal listener ++ 32 ∷ decimal socket
HasArguments (CallTcpRead socket asked) args = args ≡ decimal socket ++ 32 ∷ decimal asked
HasArguments (CallTcpWrite socket octets) args = args ≡ decimal socket ++ 32 ∷ hexadecimal octets
HasArguments (CallTcpEnd socket) args = args ≡ decimal socket
HasArguments (CallClose socket) args = args ≡ decimal socket
HasArguments (CallUdpOpen socket at) args = args ≡ decimal socket ++ 32 ∷ endpoint_text at
HasArguments (CallUdpSend socket to octets) args = args ≡ decimal socket ++ 32 ∷ (endpoint_text to ++ 32 ∷ hexadecimal octets)
HasArguments (CallUdpRecv socket asked) args = args ≡ decimal socket ++ 32 ∷ decimal asked
HasArguments (CallFileLen name) args = args ≡ hexadecimal name
HasArguments (CallFileRead name place asked) args = args ≡ hexadecimal name ++ 32 ∷ (decimal place ++ 32 ∷ decimal asked)

-- these arguments and this answer stand in a line of this name that says this entry
abbrev pub Says : CallName → List ℕ → List ℕ → Entry → Type 0
Says name args answer e = (name_of (call_of e) ≡ name) × HasArguments (call_of e) args × (answer ≡ answer_text e) × IsSayable e

-- the two sides of a schedule's line
abbrev pub IsWritten : List ℕ → List ℕ → Row → Type 0
IsWritten call answer row = (call ≡ said_call row) × (answer ≡ said_answer row)

-- the arguments, or a star for them
abbrev pub SaidArguments : Bool → Call → List ℕ → Type 0
SaidArguments true call args = args ≡ codes "*"
SaidArguments false call args = HasArguments call args

-- this stands for the arguments after the name and a space, and this answer, in a line of this name
abbrev pub SaysRow : CallName → List ℕ → List ℕ → Row → Type 0
SaysRow name args answer row = (name_of (call_of row.entry) ≡ name) × SaidArguments row.starred (call_of row.entry) args × (answer ≡ said_answer row) × IsReadable row

-- the calls that may be answered by `all`
abbrev pub is_write : CallName → Bool
is_write LinkWrite = true
is_write TcpWrite = true
is_write _ = false

-- arguments of no meaning, as which a star is read
abbrev pub blank_args : CallName → List ℕ
blank_args Now = codes ""
blank_args Wait = codes "- -"
blank_args LinkOpen = codes "7463703a302e302e302e303a30"
blank_args LinkRead = codes "0"
blank_args LinkWrite = codes "-"
blank_args Connect = codes "0 0.0.0.0:0"
blank_args Connected = codes "0"
blank_args Listen = codes "0 0.0.0.0:0"
blank_args Accept = codes "0 0"
blank_args TcpRead = codes "0 0"
blank_args TcpWrite = codes "0 -"
blank_args TcpEnd = codes "0"
blank_args Close = codes "0"
blank_args UdpOpen = codes "0 0.0.0.0:0"
blank_args UdpSend = codes "0 0.0.0.0:0 -"
blank_args UdpRecv = codes "0 0"
blank_args FileLen = codes "-"
blank_args FileRead = codes "- 0 0"

abbrev pub given_args : Bool → CallName → List ℕ → List ℕ
given_args starred name args = if starred then blank_args name else args

-- `all` is read as a count of none
abbrev pub counted_answer : Bool → List ℕ → List ℕ
counted_answer all answer = if all then codes "done 0" else answer
