-- Ports change for commands alone.
use Rattle.std.proofs.Common.{◌≡◌, ◌≢◌, ℕ, ◌==◌, ◌&&◌, Bool, true, false, is_some, List, ◌∷◌, ◌++◌, Option, Some, None, refl, sym, ◌∙◌, ap, if◌then◌else◌}
use Rattle.net_octets.specs.declared.Endpoint.{Endpoint}
use Rattle.world_face.specs.Journal.{Entry, Listen, Accept, TcpRead, TcpWrite, Close, UdpOpen, Call, CallListen, CallUdpOpen, CallClose}
use Rattle.world_face.specs.declared.Made.{Made}
use Rattle.world_face.specs.declared.Made.TheVariants.{Done as MadeDone, Failed as MadeFailed}
use Rattle.slirp_settings.specs.Addresses.{Config}
use Rattle.slirp_settings.specs.declared.Forward.{Forward}
use Rattle.slirp_settings.specs.declared.Proto.{Proto}
use Rattle.slirp_settings.specs.declared.Proto.TheVariants.{Tcp, Udp}
use Rattle.rules_forward.specs.Adding.{fault_of}
use Rattle.rules_forward.specs.Opened.{socket_at}
use Rattle.rules_forward.specs.declared.FwdFault.{FwdFault}
use Rattle.rules_forward.specs.declared.FwdFault.TheVariants.{Taken}
use Rattle.spec_trace.specs.Shape.{is_ended, is_opening, opening_of, phase}
use Rattle.spec_trace.specs.Sockets.{next_number}
use Rattle.rules_control.specs.Apart.{is_controls, without_control}
use Rattle.rules_control.specs.Talk.{after_accept, after_line, after_listen, after_read, after_write, deaf, fails, first_line, hung_up, is_last, is_out, listener}
use Rattle.rules_control.specs.declared.Command.{Command}
use Rattle.rules_control.specs.declared.Command.TheVariants.{Add, Remove, List as Lists, What}
use Rattle.spec_control.specs.Asked.{IsAskedBy, IsLine}
use Rattle.spec_control.specs.ControlServer.{Awaited, Nothing, Opening, Shutting, ControlServer, Reads, adds_unless, after_call, after_entry, answers, answers_line, awaits, by_control, control_server, is_its_own, is_peer}
use Rattle.spec_control.specs.ControlServer.{opens_awaited, removes, serves, with_changes, with_talk}
use Rattle.spec_control.specs.Laws.{Either, MayClose, MayControl, MayListen, MayOpen, MayGiveUp, MayWhere, is_given}

-- ---- a socket is to be opened

never : (f : Forward) → Nothing ≡ Opening f → ⊥
never f is = cc

adds_open : (o : Option FwdFault) (g : Forward) (d : ControlServer) (f : Forward) → d.awaited ≡ Nothing → (adds_unless o g d).awaited ≡ Opening f → Add g ≡ Add f
adds_open (Some fault) g d f calm opens = absurd (never f (sym calm ∙ opens))
adds_open None g d f calm opens = cc

removes_none : (o : Option ℕ) (proto : Proto) (host : Endpoint) (d : ControlServer) (f : Forward) → d.awaited ≡ Nothing → (removes o proto host d).awaited ≡ Opening f → ⊥
removes_none None proto host d f calm opens = never f (sym calm ∙ opens)
removes_none (Some socket) proto host d f calm opens = cc

answers_open : (config : Config) (past : List Entry) (command : Command) (d : ControlServer) (f : Forward) → d.awaited ≡ Nothing → (answers config past command d).awaited ≡ Opening f → command ≡ Add f
answers_open config past (Add g) d f calm opens = adds_open (if is_its_own config g then Some Taken else fault_of config g d.forwards) g d f calm opens
answers_open config past (Remove proto host) d f calm opens = absurd (removes_none (socket_at proto host d.forwards) proto host d f calm opens)
answers_open config past Lists d f calm opens = absurd (never f (sym calm ∙ opens))
answers_open config past What d f calm opens = absurd (never f (sym calm ∙ opens))

line_opens : (read : Reads) (config : Config) (past : List Entry) (split : Option (List ℕ × List ℕ)) (d : ControlServer) (f : Forward) → d.awaited ≡ Nothing
    → (answers_line read config past split d).awaited ≡ Opening f → IsLine read split (Add f)
line_opens read config past None d f calm opens = absurd (never f (sym calm ∙ opens))
line_opens read config past (Some (line, behind)) d f calm opens =
    record { line = line; behind = behind; is = refl; says = answers_open config past (read line) (with_talk (after_line d.talk) d) f calm opens }

serves_open : (read : Reads) (config : Config) (past : List Entry) (d : ControlServer) (f : Forward) → d.awaited ≡ Nothing → (serves read config past d).awaited ≡ Opening f
    → IsLine read (first_line d.talk.kept) (Add f)
serves_open read config past d f calm = by (is_out d.talk && is_some d.talk.peer)
  where
    by : (b : Bool) → (if b then answers_line read config past (first_line d.talk.kept) d else d).awaited ≡ Opening f → IsLine read (first_line d.talk.kept) (Add f)
    by true opens = line_opens read config past (first_line d.talk.kept) d f calm opens
    by false opens = absurd (never f (sym calm ∙ opens))

call_opens : (read : Reads) (config : Config) (past : List Entry) (last : Bool) (socket : ℕ) (d : ControlServer) (f : Forward) → d.awaited ≡ Nothing
    → (after_call read config past last socket d).awaited ≡ Opening f → IsLine read (first_line d.talk.kept) (Add f)
call_opens read config past true socket d f calm opens = absurd (shuts opens)
  where
    shuts : Shutting socket ≡ Opening f → ⊥
    shuts is = cc
call_opens read config past false socket d f calm opens = serves_open read config past d f calm opens

opening_none : (answer : Made) (socket : ℕ) (d : ControlServer) (f : Forward) → d.awaited ≡ Nothing → (opens_awaited d.awaited answer socket d).awaited ≡ Opening f → ⊥
opening_none answer socket d f calm opens = never f (sym calm ∙ sym (ap (λ a. (opens_awaited a answer socket d).awaited) calm) ∙ opens)

opens_after : (read : Reads) (config : Config) (past : List Entry) (e : Entry) (d : ControlServer) (f : Forward) → d.awaited ≡ Nothing → (after_entry read config past e d).awaited ≡ Opening f
    → IsAskedBy read e d.talk (Add f)
opens_after read config past (Listen socket at answer) d f calm = by (is_controls socket)
  where
    by : (b : Bool) → (if b then with_talk (after_listen answer d.talk) d else opens_awaited d.awaited answer socket d).awaited ≡ Opening f → IsAskedBy read (Listen socket at answer) d.talk (Add f)
    by true opens = absurd (never f (sym calm ∙ opens))
    by false opens = absurd (opening_none answer socket d f calm opens)
opens_after read config past (UdpOpen socket at answer) d f calm = λ opens. absurd (opening_none answer socket d f calm opens)
opens_after read config past (Accept from socket answer) d f calm = by (is_controls from)
  where
    by : (b : Bool) → (if b then with_talk (after_accept answer d.talk) d else d).awaited ≡ Opening f → IsAskedBy read (Accept from socket answer) d.talk (Add f)
    by true opens = absurd (never f (sym calm ∙ opens))
    by false opens = absurd (never f (sym calm ∙ opens))
opens_after read config past (TcpRead socket asked answer octets) d f calm = by (is_controls socket)
  where
    by : (b : Bool) → (if b then after_call read config past (is_last answer (d.talk.kept ++ octets)) socket (with_talk (after_read answer octets d.talk) d) else d).awaited ≡ Opening f
        → IsAskedBy read (TcpRead socket asked answer octets) d.talk (Add f)
    by true opens = call_opens read config past (is_last answer (d.talk.kept ++ octets)) socket (with_talk (after_read answer octets d.talk) d) f calm opens
    by false opens = absurd (never f (sym calm ∙ opens))
opens_after read config past (TcpWrite socket octets answer) d f calm = by (is_controls socket)
  where
    by : (b : Bool) → (if b then after_call read config past (fails answer) socket (with_talk (after_write answer d.talk) d) else d).awaited ≡ Opening f
        → IsAskedBy read (TcpWrite socket octets answer) d.talk (Add f)
    by true opens = call_opens read config past (fails answer) socket (with_talk (after_write answer d.talk) d) f calm opens
    by false opens = absurd (never f (sym calm ∙ opens))
opens_after read config past (Close socket) d f calm = by (socket == listener) (is_peer socket d.talk.peer)
  where
    by : (a b : Bool) → (if a then awaits Nothing (with_talk (deaf d.talk) d) else (if b then awaits Nothing (with_talk (hung_up d.talk) d) else awaits Nothing d)).awaited ≡ Opening f
        → IsAskedBy read (Close socket) d.talk (Add f)
    by true b opens = absurd (never f opens)
    by false true opens = absurd (never f opens)
    by false false opens = absurd (never f opens)
opens_after read config past _ d f calm = λ opens. absurd (never f (sym calm ∙ opens))

pub asked_to_open : (read : Reads) (config : Config) (past : List Entry) (e : Entry) (f : Forward) → (control_server read config past).awaited ≡ Nothing
    → (control_server read config (e ∷ past)).awaited ≡ Opening f → IsAskedBy read e (control_server read config past).talk (Add f)
asked_to_open read config past e f calm opens =
    opens_after read (with_changes config (control_server read config past)) (without_control past) e (control_server read config past) f calm opens

-- ---- a socket is to be closed

abbrev IsRemoval : Command → Type 0
IsRemoval command = (proto : Proto) × (host : Endpoint) × (command ≡ Remove proto host)

adds_none : (o : Option FwdFault) (g : Forward) (d : ControlServer) → (adds_unless o g d).removed ≡ d.removed
adds_none (Some fault) g d = refl
adds_none None g d = refl

answers_remove : (config : Config) (past : List Entry) (command : Command) (d : ControlServer) → (answers config past command d).removed ≢ d.removed → IsRemoval command
answers_remove config past (Add g) d other = absurd (other (adds_none (if is_its_own config g then Some Taken else fault_of config g d.forwards) g d))
answers_remove config past (Remove proto host) d other = (proto, host, refl)
answers_remove config past Lists d other = absurd (other refl)
answers_remove config past What d other = absurd (other refl)

abbrev pub IsAskedToRemove : Reads → Option (List ℕ × List ℕ) → Type 0
IsAskedToRemove read split = (proto : Proto) × (host : Endpoint) × IsLine read split (Remove proto host)

line_removes : (read : Reads) (config : Config) (past : List Entry) (split : Option (List ℕ × List ℕ)) (d : ControlServer) → (answers_line read config past split d).removed ≢ d.removed
    → IsAskedToRemove read split
line_removes read config past None d other = absurd (other refl)
line_removes read config past (Some (line, behind)) d other =
    let removal = answers_remove config past (read line) (with_talk (after_line d.talk) d) other in
    (removal.0, removal.1, record { line = line; behind = behind; is = refl; says = removal.2 })

serves_remove : (read : Reads) (config : Config) (past : List Entry) (d : ControlServer) → (serves read config past d).removed ≢ d.removed → IsAskedToRemove read (first_line d.talk.kept)
serves_remove read config past d = by (is_out d.talk && is_some d.talk.peer)
  where
    by : (b : Bool) → (if b then answers_line read config past (first_line d.talk.kept) d else d).removed ≢ d.removed → IsAskedToRemove read (first_line d.talk.kept)
    by true other = line_removes read config past (first_line d.talk.kept) d other
    by false other = absurd (other refl)

call_removes : (read : Reads) (config : Config) (past : List Entry) (last : Bool) (socket : ℕ) (d : ControlServer) → (after_call read config past last socket d).removed ≢ d.removed
    → IsAskedToRemove read (first_line d.talk.kept)
call_removes read config past true socket d other = absurd (other refl)
call_removes read config past false socket d other = serves_remove read config past d other

opening_keeps : (awaited : Awaited) (answer : Made) (socket : ℕ) (d : ControlServer) → (opens_awaited awaited answer socket d).removed ≡ d.removed
opening_keeps Nothing answer socket d = refl
opening_keeps (Opening f) MadeDone socket d = refl
opening_keeps (Opening f) MadeFailed socket d = refl
opening_keeps (Shutting n) answer socket d = refl

abbrev RemovesBy : Reads → Entry → ControlServer → Type 0
RemovesBy read e d = (proto : Proto) × (host : Endpoint) × IsAskedBy read e d.talk (Remove proto host)

removes_after : (read : Reads) (config : Config) (past : List Entry) (e : Entry) (d : ControlServer) → (after_entry read config past e d).removed ≢ d.removed → RemovesBy read e d
removes_after read config past (Listen socket at answer) d = by (is_controls socket)
  where
    by : (b : Bool) → (if b then with_talk (after_listen answer d.talk) d else opens_awaited d.awaited answer socket d).removed ≢ d.removed → RemovesBy read (Listen socket at answer) d
    by true other = absurd (other refl)
    by false other = absurd (other (opening_keeps d.awaited answer socket d))
removes_after read config past (UdpOpen socket at answer) d = λ other. absurd (other (opening_keeps d.awaited answer socket d))
removes_after read config past (Accept from socket answer) d = by (is_controls from)
  where
    by : (b : Bool) → (if b then with_talk (after_accept answer d.talk) d else d).removed ≢ d.removed → RemovesBy read (Accept from socket answer) d
    by true other = absurd (other refl)
    by false other = absurd (other refl)
removes_after read config past (TcpRead socket asked answer octets) d = by (is_controls socket)
  where
    by : (b : Bool) → (if b then after_call read config past (is_last answer (d.talk.kept ++ octets)) socket (with_talk (after_read answer octets d.talk) d) else d).removed ≢ d.removed
        → RemovesBy read (TcpRead socket asked answer octets) d
    by true other = call_removes read config past (is_last answer (d.talk.kept ++ octets)) socket (with_talk (after_read answer octets d.talk) d) other
    by false other = absurd (other refl)
removes_after read config past (TcpWrite socket octets answer) d = by (is_controls socket)
  where
    by : (b : Bool) → (if b then after_call read config past (fails answer) socket (with_talk (after_write answer d.talk) d) else d).removed ≢ d.removed
        → RemovesBy read (TcpWrite socket octets answer) d
    by true other = call_removes read config past (fails answer) socket (with_talk (after_write answer d.talk) d) other
    by false other = absurd (other refl)
removes_after read config past (Close socket) d = by (socket == listener) (is_peer socket d.talk.peer)
  where
    by : (a b : Bool) → (if a then awaits Nothing (with_talk (deaf d.talk) d) else (if b then awaits Nothing (with_talk (hung_up d.talk) d) else awaits Nothing d)).removed ≢ d.removed
        → RemovesBy read (Close socket) d
    by true b other = absurd (other refl)
    by false true other = absurd (other refl)
    by false false other = absurd (other refl)
removes_after read config past _ d = λ other. absurd (other refl)

pub asked_to_remove : (read : Reads) (config : Config) (past : List Entry) (e : Entry) → (control_server read config (e ∷ past)).removed ≢ (control_server read config past).removed
    → RemovesBy read e (control_server read config past)
asked_to_remove read config past e other = removes_after read (with_changes config (control_server read config past)) (without_control past) e (control_server read config past) other

-- ---- which call opens or closes one

clash : true ≡ false → ⊥
clash is = cc

named_open : (read : Reads) (config : Config) (past : List Entry) (at : Endpoint) → (at.port == 0) ≡ false
    → is_opening (phase (by_control read config past) (without_control past)) ≡ false → MayOpen read config past at → ⊥
named_open read config past at named late may = clash (sym (may named) ∙ late)

abbrev IsAwaited : Awaited → Type 0
IsAwaited awaited = (f : Forward) × (awaited ≡ Opening f)

listen_by : (awaited : Awaited) (read : Reads) (config : Config) (past : List Entry) (socket : ℕ) (at : Endpoint) → is_controls socket ≡ false → (at.port == 0) ≡ false
    → is_opening (phase (by_control read config past) (without_control past)) ≡ false → MayWhere awaited read config past (CallListen socket at) → IsAwaited awaited
listen_by Nothing read config past socket at off named late may = absurd (by (is_controls socket) off may)
  where
    by : (b : Bool) → b ≡ false → Either b (MayListen read config past socket at) (MayOpen read config past at) → ⊥
    by true off may = clash off
    by false off may = named_open read config past at named late may
listen_by (Opening f) read config past socket at off named late may = (f, refl)
listen_by (Shutting n) read config past socket at off named late may = absurd (other may)
  where
    other : CallListen socket at ≡ CallClose n → ⊥
    other is = cc

pub listens_awaited : (read : Reads) (config : Config) (past : List Entry) (socket : ℕ) (at : Endpoint) → is_controls socket ≡ false → (at.port == 0) ≡ false
    → is_opening (phase (by_control read config past) (without_control past)) ≡ false → MayControl read config past (CallListen socket at) → IsAwaited (control_server read config past).awaited
listens_awaited read config past socket at off named late may = listen_by (control_server read config past).awaited read config past socket at off named late may

open_by : (awaited : Awaited) (read : Reads) (config : Config) (past : List Entry) (socket : ℕ) (at : Endpoint) → (at.port == 0) ≡ false
    → is_opening (phase (by_control read config past) (without_control past)) ≡ false → MayWhere awaited read config past (CallUdpOpen socket at) → IsAwaited awaited
open_by Nothing read config past socket at named late may = absurd (named_open read config past at named late may.1)
open_by (Opening f) read config past socket at named late may = (f, refl)
open_by (Shutting n) read config past socket at named late may = absurd (other may)
  where
    other : CallUdpOpen socket at ≡ CallClose n → ⊥
    other is = cc

pub opens_awaited_port : (read : Reads) (config : Config) (past : List Entry) (socket : ℕ) (at : Endpoint) → (at.port == 0) ≡ false
    → is_opening (phase (by_control read config past) (without_control past)) ≡ false → MayControl read config past (CallUdpOpen socket at) → IsAwaited (control_server read config past).awaited
opens_awaited_port read config past socket at named late may = open_by (control_server read config past).awaited read config past socket at named late may

pub no_close : (p : Proto) (number : ℕ) (f : Forward) (socket : ℕ) → CallClose socket ≡ opening_of p number f → ⊥
no_close Tcp number f socket is = cc
no_close Udp number f socket is = cc

close_by : (awaited : Awaited) (read : Reads) (config : Config) (past : List Entry) (socket : ℕ) → is_controls socket ≡ false → is_given past socket ≡ true
    → is_ended (by_control read config past) (without_control past) ≡ false → MayWhere awaited read config past (CallClose socket) → awaited ≡ Shutting socket
close_by Nothing read config past socket off given runs may = absurd (by (is_controls socket) off may)
  where
    by : (b : Bool) → b ≡ false → Either b (MayClose read config past socket) (MayGiveUp read config past socket) → ⊥
    by true off may = clash off
    by false off may = clash (sym (may given) ∙ runs)
close_by (Opening f) read config past socket off given runs may = absurd (no_close f.proto (next_number (without_control past)) f socket may)
close_by (Shutting n) read config past socket off given runs may = same may
  where
    same : CallClose socket ≡ CallClose n → Shutting n ≡ Shutting socket
    same is = cc

pub closes_awaited : (read : Reads) (config : Config) (past : List Entry) (socket : ℕ) → is_controls socket ≡ false → is_given past socket ≡ true
    → is_ended (by_control read config past) (without_control past) ≡ false → MayControl read config past (CallClose socket) → (control_server read config past).awaited ≡ Shutting socket
closes_awaited read config past socket off given runs may = close_by (control_server read config past).awaited read config past socket off given runs may

next_by : (awaited : Awaited) (read : Reads) (config : Config) (past : List Entry) (call : Call) (f : Forward) → awaited ≡ Opening f → MayWhere awaited read config past call
    → call ≡ opening_of f.proto (next_number (without_control past)) f
next_by Nothing read config past call f is may = absurd (never f is)
next_by (Opening g) read config past call f is may = let same : g ≡ f = cc in may ∙ ap (λ h. opening_of h.proto (next_number (without_control past)) h) same
next_by (Shutting n) read config past call f is may = absurd (shuts is)
  where
    shuts : Shutting n ≡ Opening f → ⊥
    shuts is = cc

pub opens_next : (read : Reads) (config : Config) (past : List Entry) (call : Call) (f : Forward) → (control_server read config past).awaited ≡ Opening f → MayControl read config past call
    → call ≡ opening_of f.proto (next_number (without_control past)) f
opens_next read config past call f is may = next_by (control_server read config past).awaited read config past call f is may
