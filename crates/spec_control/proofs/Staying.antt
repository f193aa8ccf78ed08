-- The network's calls leave the control server as it is.
use Rattle.std.proofs.Common.{◌≡◌, ℕ, ◌+◌, ◌==◌, ◌&&◌, nat_le, Bool, true, false, is_some, List, [], ◌∷◌, ◌++◌, Option, Some, None, refl, sym, ◌∙◌, ap, arith, if◌then◌else◌}
use Rattle.std.proofs.lemmas.Bool.Decides.{nat_tests}
use Rattle.net_octets.specs.declared.Endpoint.{Endpoint}
use Rattle.world_face.specs.Journal.{Entry, Listen, Accept, TcpRead, TcpWrite, Close, UdpOpen}
use Rattle.world_face.specs.declared.Accepted.{Accepted}
use Rattle.world_face.specs.declared.Accepted.TheVariants.{From, NotYet as NotYetAccepted, Failed as AcceptFailed}
use Rattle.world_face.specs.declared.Io.{Io}
use Rattle.world_face.specs.declared.Io.TheVariants.{Done, End, NotYet, Failed}
use Rattle.world_face.specs.declared.Made.{Made}
use Rattle.world_face.specs.declared.Made.TheVariants.{Done as MadeDone, Failed as MadeFailed}
use Rattle.slirp_settings.specs.Addresses.{Config}
use Rattle.slirp_settings.specs.declared.Forward.{Forward}
use Rattle.slirp_settings.specs.declared.Proto.{Proto}
use Rattle.rules_forward.specs.Adding.{fault_of}
use Rattle.rules_forward.specs.Opened.{socket_at}
use Rattle.rules_forward.specs.declared.FwdFault.{FwdFault}
use Rattle.rules_forward.specs.declared.FwdFault.TheVariants.{Taken}
use Rattle.rules_control.specs.Apart.{is_controls, is_on_control, without_control}
use Rattle.rules_control.specs.Talk.{Talk, after_accept, after_line, after_listen, after_read, after_write, deaf, fails, first_line, hung_up, is_last, is_out, listener, next_peer, with_kept}
use Rattle.rules_control.specs.declared.Command.{Command}
use Rattle.rules_control.specs.declared.Command.TheVariants.{Add, Remove, List as Lists, What}
use Rattle.spec_control.specs.ControlServer.{AreOffControl, Awaited, Nothing, Opening, Shutting, ControlServer, Reads, adds_unless, after_call, after_entry, answers, answers_line, awaits, control_server, is_its_own, is_peer, opened, opens_awaited, removes, serves}
use Rattle.spec_control.specs.ControlServer.{shut, with_changes, with_talk}

-- the connection has one of the control's numbers
abbrev pub OwnPeer : Option ℕ → Type 0
OwnPeer peer = (n : ℕ) → peer ≡ Some n → is_controls n ≡ true

abbrev peer_of : ControlServer → Option ℕ
peer_of d = d.talk.peer

-- ---- a command's answer leaves the connection

adds_keeps : (o : Option FwdFault) (f : Forward) (d : ControlServer) → peer_of (adds_unless o f d) ≡ peer_of d
adds_keeps (Some fault) f d = refl
adds_keeps None f d = refl

removes_keeps : (o : Option ℕ) (proto : Proto) (host : Endpoint) (d : ControlServer) → peer_of (removes o proto host d) ≡ peer_of d
removes_keeps None proto host d = refl
removes_keeps (Some socket) proto host d = refl

answers_keep : (config : Config) (past : List Entry) (command : Command) (d : ControlServer) → peer_of (answers config past command d) ≡ peer_of d
answers_keep config past (Add f) d = adds_keeps (if is_its_own config f then Some Taken else fault_of config f d.forwards) f d
answers_keep config past (Remove proto host) d = removes_keeps (socket_at proto host d.forwards) proto host d
answers_keep config past Lists d = refl
answers_keep config past What d = refl

line_keeps : (read : Reads) (config : Config) (past : List Entry) (split : Option (List ℕ × List ℕ)) (d : ControlServer) → peer_of (answers_line read config past split d) ≡ peer_of d
line_keeps read config past None d = refl
line_keeps read config past (Some split) d = answers_keep config past (read split.0) (with_talk (after_line d.talk) d)

serves_keeps : (read : Reads) (config : Config) (past : List Entry) (d : ControlServer) → peer_of (serves read config past d) ≡ peer_of d
serves_keeps read config past d = by (is_out d.talk && is_some d.talk.peer)
  where
    by : (b : Bool) → peer_of (if b then answers_line read config past (first_line d.talk.kept) d else d) ≡ peer_of d
    by true = line_keeps read config past (first_line d.talk.kept) d
    by false = refl

call_keeps : (read : Reads) (config : Config) (past : List Entry) (last : Bool) (socket : ℕ) (d : ControlServer) → peer_of (after_call read config past last socket d) ≡ peer_of d
call_keeps read config past true socket d = refl
call_keeps read config past false socket d = serves_keeps read config past d

opens_keeps : (awaited : Awaited) (answer : Made) (socket : ℕ) (d : ControlServer) → peer_of (opens_awaited awaited answer socket d) ≡ peer_of d
opens_keeps Nothing answer socket d = refl
opens_keeps (Opening f) MadeDone socket d = refl
opens_keeps (Opening f) MadeFailed socket d = refl
opens_keeps (Shutting n) answer socket d = refl

-- ---- it has one of the control's numbers

own_as : (p q : Option ℕ) → q ≡ p → OwnPeer p → OwnPeer q
own_as p q same own n is = own n (sym same ∙ is)

none_is_own : OwnPeer None
none_is_own n is = cc

drawn_is_own : (l had : ℕ) → nat_le l (l + 1 + had) ≡ true
drawn_is_own l had = grind (arith, nat_tests)

accepted_is_own : (answer : Accepted) (t : Talk) → OwnPeer t.peer → OwnPeer (after_accept answer t).peer
accepted_is_own (From peer) t own n is = ap (nat_le listener) (sym (the_same is)) ∙ drawn_is_own listener t.had
  where
    the_same : Some (next_peer t) ≡ Some n → next_peer t ≡ n
    the_same same = cc
accepted_is_own NotYetAccepted t own n is = own n is
accepted_is_own AcceptFailed t own n is = own n is

read_is_own : (answer : Io) (octets : List ℕ) (t : Talk) → OwnPeer t.peer → OwnPeer (after_read answer octets t).peer
read_is_own answer octets t own = by (is_last answer (t.kept ++ octets))
  where
    by : (b : Bool) → OwnPeer (if b then hung_up t else with_kept (t.kept ++ octets) t).peer
    by true = none_is_own
    by false = own

written_is_own : (answer : Io) (t : Talk) → OwnPeer t.peer → OwnPeer (after_write answer t).peer
written_is_own (Done n) t own = own
written_is_own End t own = own
written_is_own NotYet t own = own
written_is_own Failed t own = none_is_own

listened_is_own : (answer : Made) (t : Talk) → OwnPeer t.peer → OwnPeer (after_listen answer t).peer
listened_is_own MadeDone t own = own
listened_is_own MadeFailed t own = own

own_after : (read : Reads) (config : Config) (past : List Entry) (e : Entry) (d : ControlServer) → OwnPeer (peer_of d) → OwnPeer (peer_of (after_entry read config past e d))
own_after read config past (Listen socket at answer) d own = by (is_controls socket)
  where
    by : (b : Bool) → OwnPeer (peer_of (if b then with_talk (after_listen answer d.talk) d else opens_awaited d.awaited answer socket d))
    by true = listened_is_own answer d.talk own
    by false = own_as (peer_of d) (peer_of (opens_awaited d.awaited answer socket d)) (opens_keeps d.awaited answer socket d) own
own_after read config past (UdpOpen socket at answer) d own = own_as (peer_of d) (peer_of (opens_awaited d.awaited answer socket d)) (opens_keeps d.awaited answer socket d) own
own_after read config past (Accept from socket answer) d own = by (is_controls from)
  where
    by : (b : Bool) → OwnPeer (peer_of (if b then with_talk (after_accept answer d.talk) d else d))
    by true = accepted_is_own answer d.talk own
    by false = own
own_after read config past (TcpRead socket asked answer octets) d own = by (is_controls socket)
  where
    by : (b : Bool) → OwnPeer (peer_of (if b then after_call read config past (is_last answer (d.talk.kept ++ octets)) socket (with_talk (after_read answer octets d.talk) d) else d))
    by true = own_as (after_read answer octets d.talk).peer
        (peer_of (after_call read config past (is_last answer (d.talk.kept ++ octets)) socket (with_talk (after_read answer octets d.talk) d)))
        (call_keeps read config past (is_last answer (d.talk.kept ++ octets)) socket (with_talk (after_read answer octets d.talk) d)) (read_is_own answer octets d.talk own)
    by false = own
own_after read config past (TcpWrite socket octets answer) d own = by (is_controls socket)
  where
    by : (b : Bool) → OwnPeer (peer_of (if b then after_call read config past (fails answer) socket (with_talk (after_write answer d.talk) d) else d))
    by true = own_as (after_write answer d.talk).peer (peer_of (after_call read config past (fails answer) socket (with_talk (after_write answer d.talk) d)))
        (call_keeps read config past (fails answer) socket (with_talk (after_write answer d.talk) d)) (written_is_own answer d.talk own)
    by false = own
own_after read config past (Close socket) d own = by (socket == listener) (is_peer socket d.talk.peer)
  where
    by : (a b : Bool) → OwnPeer (peer_of (if a then awaits Nothing (with_talk (deaf d.talk) d) else (if b then awaits Nothing (with_talk (hung_up d.talk) d) else awaits Nothing d)))
    by true b = own
    by false true = none_is_own
    by false false = own
own_after read config past _ d own = own

pub own_peer : (read : Reads) (config : Config) (past : List Entry) → OwnPeer (peer_of (control_server read config past))
own_peer read config [] = none_is_own
own_peer read config (e ∷ past) = own_after read (with_changes config (control_server read config past)) (without_control past) e (control_server read config past) (own_peer read config past)

-- ---- a call off its numbers

not_listener : (l n : ℕ) → nat_le l n ≡ false → (n == l) ≡ false
not_listener l n off = grind (arith, nat_tests, off)

not_own : (l p n : ℕ) → nat_le l p ≡ true → nat_le l n ≡ false → (p == n) ≡ false
not_own l p n own off = grind (arith, nat_tests, own, off)

pub no_peer : (socket : ℕ) (o : Option ℕ) → OwnPeer o → is_controls socket ≡ false → is_peer socket o ≡ false
no_peer socket None own off = refl
no_peer socket (Some peer) own off = not_own listener peer socket (own peer refl) off

leaves : (read : Reads) (config : Config) (past : List Entry) (e : Entry) (d : ControlServer) → is_on_control e ≡ false → d.awaited ≡ Nothing → OwnPeer (peer_of d) → after_entry read config past e d ≡ d
leaves read config past (Listen socket at answer) d off calm own =
    ap (λ (b : Bool). if b then with_talk (after_listen answer d.talk) d else opens_awaited d.awaited answer socket d) off ∙ ap (λ a. opens_awaited a answer socket d) calm
leaves read config past (UdpOpen socket at answer) d off calm own = ap (λ a. opens_awaited a answer socket d) calm
leaves read config past (Accept from socket answer) d off calm own = ap (λ (b : Bool). if b then with_talk (after_accept answer d.talk) d else d) off
leaves read config past (TcpRead socket asked answer octets) d off calm own =
    ap (λ (b : Bool). if b then after_call read config past (is_last answer (d.talk.kept ++ octets)) socket (with_talk (after_read answer octets d.talk) d) else d) off
leaves read config past (TcpWrite socket octets answer) d off calm own =
    ap (λ (b : Bool). if b then after_call read config past (fails answer) socket (with_talk (after_write answer d.talk) d) else d) off
leaves read config past (Close socket) d off calm own =
    ap (λ (b : Bool). if b then awaits Nothing (with_talk (deaf d.talk) d) else (if is_peer socket d.talk.peer then awaits Nothing (with_talk (hung_up d.talk) d) else awaits Nothing d))
    (not_listener listener socket off)
    ∙ ap (λ (b : Bool). if b then awaits Nothing (with_talk (hung_up d.talk) d) else awaits Nothing d) (no_peer socket d.talk.peer own off)
    ∙ ap (λ a. awaits a d) (sym calm)
leaves read config past _ d off calm own = refl

pub control_server_stays : (read : Reads) (config : Config) (made past : List Entry) → AreOffControl made → (control_server read config past).awaited ≡ Nothing → control_server read config (made ++ past) ≡ control_server read config past
control_server_stays read config [] past off calm = refl
control_server_stays read config (e ∷ made) past off calm =
    let before = control_server_stays read config made past off.1 calm in
    leaves read (with_changes config (control_server read config (made ++ past))) (without_control (made ++ past)) e (control_server read config (made ++ past)) off.0 (ap (λ (d : ControlServer). d.awaited) before ∙ calm)
    (own_peer read config (made ++ past))
    ∙ before
