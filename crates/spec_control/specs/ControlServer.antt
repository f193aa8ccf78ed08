-- What the control has come to: one fold over the trace, in which a command is answered directly after the later of the read that makes its line whole and the write that ends the reply before it.
use Rattle.std.specs.Prelude.{◌≡◌, ℕ, ◌+◌, ◌==◌, ◌&&◌, Bool, true, false, is_some, List, [], ◌∷◌, ◌++◌, filter, map, reverse, Option, Some, None, if◌then◌else◌, codes}
use Rattle.std.specs.Option.{option_map_or}
use Rattle.net_octets.specs.declared.Endpoint.{Endpoint}
use Rattle.world_face.specs.Journal.{Entry, Listen, Accept, TcpRead, TcpWrite, Close, UdpOpen}
use Rattle.world_face.specs.declared.Made.{Made}
use Rattle.world_face.specs.declared.Made.TheVariants.{Done as MadeDone, Failed as MadeFailed}
use Rattle.slirp_settings.specs.Addresses.{Config}
use Rattle.slirp_settings.specs.Ranges.{same_proto}
use Rattle.slirp_settings.specs.Classes.{same_endpoint}
use Rattle.slirp_settings.specs.declared.Forward.{Forward}
use Rattle.slirp_settings.specs.declared.Proto.{Proto}
use Rattle.slirp_settings.specs.declared.Proto.TheVariants.{Tcp}
use Rattle.rules_forward.specs.Adding.{fault_of}
use Rattle.rules_forward.specs.Opened.{Opened, socket_at, without}
use Rattle.rules_forward.specs.declared.FwdFault.{FwdFault}
use Rattle.rules_forward.specs.declared.FwdFault.TheVariants.{Taken, Refused}
use Rattle.spec_flows.specs.declared.Tuple.{Tuple}
use Rattle.spec_flow.specs.Close.{is_in_use}
use Rattle.spec_flows.specs.Book.{book}
use Rattle.spec_flows.specs.Flows.{Flow}
use Rattle.rules_control.specs.Talk.{Talk, after_accept, after_line, after_listen, after_read, after_write, deaf, fails, first_line, hung_up, is_last, is_out, listener, silent, with_left}
use Rattle.rules_control.specs.Apart.{is_controls, is_on_control, without_control}
use Rattle.rules_control.specs.declared.Command.{Command}
use Rattle.rules_control.specs.declared.Command.TheVariants.{Add, Remove, List as Lists, What}
use Rattle.spec_control.specs.Replies.{added_text, list_reply, removed_text, reply_line}

-- how lines are read
abbrev pub Reads : Type 0
Reads = List ℕ → Command

-- the call that comes next, whatever else could: for a command the opening of a forward's socket or its close; or the close of a connection that is over
pub data Awaited : Type 0 where
  Nothing : Awaited
  Opening : (forward : Forward) → Awaited
  Shutting : (socket : ℕ) → Awaited

-- the connection; the forwards in force, in the order in which they were added, each with the number of its socket;
-- all for which a socket was asked for while the run went on, by its number, and the sockets of those that were taken back; and the call that is awaited
pub record ControlServer : Type 0 where
  pub talk : Talk
  pub forwards : List Opened
  pub added : List (ℕ × Forward)
  pub removed : List ℕ
  pub awaited : Awaited

abbrev pub with_talk : Talk → ControlServer → ControlServer
with_talk talk d = record d { talk = talk }

-- the settings' forwards, whose sockets have the first numbers
abbrev pub numbered_from : ℕ → List Forward → List Opened
numbered_from n [] = []
numbered_from n (f ∷ forwards) = (f, n) ∷ numbered_from (n + 1) forwards

abbrev pub at_first : Config → ControlServer
at_first config = record { talk = silent; forwards = numbered_from 0 config.forwards; added = []; removed = []; awaited = Nothing }

-- a reply
abbrev pub says : List ℕ → ControlServer → ControlServer
says text d = with_talk (with_left text d.talk) d

-- the port of the host is the control's own
abbrev pub is_its_own : Config → Forward → Bool
is_its_own config f = same_proto f.proto Tcp && option_map_or (same_endpoint f.host) config.control false

abbrev pub awaits : Awaited → ControlServer → ControlServer
awaits awaited d = record d { awaited = awaited }

-- a port of the host is to be given to a guest: why not, or its socket is opened next
abbrev pub adds_unless : Option FwdFault → Forward → ControlServer → ControlServer
adds_unless (Some fault) f d = says (reply_line (added_text (Some fault))) d
adds_unless None f d = awaits (Opening f) d

abbrev pub adds : Config → Forward → ControlServer → ControlServer
adds config f d = adds_unless (if is_its_own config f then Some Taken else fault_of config f d.forwards) f d

-- one is to be taken back: its socket is closed next, and its connections go on
abbrev pub removes : Option ℕ → Proto → Endpoint → ControlServer → ControlServer
removes None proto host d = says (reply_line (removed_text false)) d
removes (Some socket) proto host d =
    says (reply_line (removed_text true)) (record d { forwards = without proto host d.forwards; removed = d.removed ++ (socket ∷ []); awaited = Shutting socket })

-- the flows that are in use, by rising number
abbrev pub flow_entry : Flow → ℕ × Tuple
flow_entry f = (f.number, f.tuple)

abbrev pub flows_in_use : List Flow → List (ℕ × Tuple)
flows_in_use flows = map flow_entry (reverse (filter (λ f. is_in_use f.story) flows))

-- a command's answer, by the settings and what the network sees of the trace so far
abbrev pub answers : Config → (seen : List Entry) → Command → ControlServer → ControlServer
answers config past (Add f) d = adds config f d
answers config past (Remove proto host) d = removes (socket_at proto host d.forwards) proto host d
answers config past Lists d = says (list_reply d.forwards (flows_in_use (book config past).flows)) d
answers config past What d = says (reply_line (codes "what")) d

-- the first whole line is answered where no reply is left
abbrev pub answers_line : Reads → Config → (seen : List Entry) → Option (List ℕ × List ℕ) → ControlServer → ControlServer
answers_line read config past None d = d
answers_line read config past (Some split) d = answers config past (read split.0) (with_talk (after_line d.talk) d)

-- a line is answered, if one is whole and no reply is left
abbrev pub serves : Reads → Config → (seen : List Entry) → ControlServer → ControlServer
serves read config past d = if is_out d.talk && is_some d.talk.peer then answers_line read config past (first_line d.talk.kept) d else d

-- the socket that was awaited was opened, or the host refused it
abbrev pub opened : Made → Forward → ℕ → ControlServer → ControlServer
opened MadeDone f socket d = says (reply_line (added_text None)) (record d { forwards = d.forwards ++ ((f, socket) ∷ []); added = d.added ++ ((socket, f) ∷ []); awaited = Nothing })
opened MadeFailed f socket d = says (reply_line (added_text (Some Refused))) (record d { added = d.added ++ ((socket, f) ∷ []); awaited = Nothing })

abbrev pub opens_awaited : Awaited → Made → ℕ → ControlServer → ControlServer
opens_awaited Nothing answer socket d = d
opens_awaited (Opening f) answer socket d = opened answer f socket d
opens_awaited (Shutting n) answer socket d = d

abbrev pub is_peer : ℕ → Option ℕ → Bool
is_peer socket None = false
is_peer socket (Some peer) = peer == socket

-- A call that was a connection's last one: its close comes next, and no line is answered. After any other a whole line is.
abbrev pub after_call : Reads → Config → (seen : List Entry) → (last : Bool) → ℕ → ControlServer → ControlServer
after_call read config past true socket d = awaits (Shutting socket) d
after_call read config past false socket d = serves read config past d

-- a close: of the listener or the connection, at the end, or the one that was awaited
abbrev pub shut : ℕ → ControlServer → ControlServer
shut socket d =
    if socket == listener then awaits Nothing (with_talk (deaf d.talk) d)
    else (if is_peer socket d.talk.peer then awaits Nothing (with_talk (hung_up d.talk) d) else awaits Nothing d)

-- what an entry makes of it
abbrev pub after_entry : Reads → Config → (seen : List Entry) → Entry → ControlServer → ControlServer
after_entry read config past (Listen socket at answer) d = if is_controls socket then with_talk (after_listen answer d.talk) d else opens_awaited d.awaited answer socket d
after_entry read config past (UdpOpen socket at answer) d = opens_awaited d.awaited answer socket d
after_entry read config past (Accept from socket answer) d = if is_controls from then with_talk (after_accept answer d.talk) d else d
after_entry read config past (TcpRead socket asked answer octets) d =
    if is_controls socket then after_call read config past (is_last answer (d.talk.kept ++ octets)) socket (with_talk (after_read answer octets d.talk) d) else d
after_entry read config past (TcpWrite socket octets answer) d =
    if is_controls socket then after_call read config past (fails answer) socket (with_talk (after_write answer d.talk) d) else d
after_entry read config past (Close socket) d = shut socket d
after_entry read config past _ d = d

-- the settings with the forwards that were asked for since, and those that were taken back
abbrev pub with_changes : Config → ControlServer → Config
with_changes config d = record config { added = d.added; removed = d.removed }

abbrev pub control_server : Reads → Config → List Entry → ControlServer
control_server read config [] = at_first config
control_server read config (e ∷ past) =
    let d = control_server read config past in
    after_entry read (with_changes config d) (without_control past) e d

-- the settings by which the network runs: with all that was added and taken back
abbrev pub by_control : Reads → Config → List Entry → Config
by_control read config past = with_changes config (control_server read config past)

-- none of these calls is on a socket of the control's
abbrev pub AreOffControl : List Entry → Type 0
AreOffControl [] = Unit {0}
AreOffControl (e ∷ made) = (is_on_control e ≡ false) × AreOffControl made
