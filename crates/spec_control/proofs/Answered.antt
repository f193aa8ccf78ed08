-- Each whole line is answered once no reply is left.
use Rattle.std.proofs.Common.{◌≡◌, ℕ, ◌==◌, ◌&&◌, not, Bool, true, false, is_some, List, [], ◌∷◌, ◌++◌, length, length-append, Option, Some, None, refl, arith, sym, ◌∙◌, ap, if◌then◌else◌}
use Rattle.std.proofs.lemmas.Bool.Decides.{nat_tests}
use Rattle.std.specs.Prelude.{codes}
use Rattle.std.specs.Option.{option_map, option_map_or}
use Rattle.net_octets.specs.declared.Endpoint.{Endpoint}
use Rattle.poll_list.specs.declared.Want.{Want}
use Rattle.poll_list.specs.declared.Who.TheVariants.{Tcp as Connection}
use Rattle.world_face.specs.Journal.{Entry, Listen, Accept, TcpRead, TcpWrite, Close, UdpOpen, CallClose, CallWait, Follows}
use Rattle.world_face.specs.declared.Accepted.{Accepted}
use Rattle.world_face.specs.declared.Accepted.TheVariants.{From, NotYet as NotYetAccepted, Failed as AcceptFailed}
use Rattle.world_face.specs.declared.Io.{Io}
use Rattle.world_face.specs.declared.Io.TheVariants.{Done, End, NotYet, Failed}
use Rattle.world_face.specs.declared.Made.{Made}
use Rattle.world_face.specs.declared.Made.TheVariants.{Done as MadeDone, Failed as MadeFailed}
use Rattle.slirp_settings.specs.Addresses.{Config}
use Rattle.slirp_settings.specs.declared.Forward.{Forward}
use Rattle.slirp_settings.specs.declared.Proto.{Proto}
use Rattle.slirp_settings.specs.declared.Proto.TheVariants.{Tcp, Udp}
use Rattle.rules_forward.specs.Adding.{fault_of}
use Rattle.rules_forward.specs.Opened.{socket_at}
use Rattle.rules_forward.specs.declared.FwdFault.{FwdFault}
use Rattle.rules_forward.specs.declared.FwdFault.TheVariants.{Taken, Refused}
use Rattle.spec_trace.specs.Shape.{opening_of}
use Rattle.spec_trace.specs.Sockets.{next_number}
use Rattle.spec_flows.specs.Book.{book}
use Rattle.rules_control.specs.Apart.{controls, is_controls, without_control}
use Rattle.rules_control.specs.Talk.{Talk, after_accept, after_line, after_listen, after_read, after_write, deaf, fails, first_line, has_line, hung_up, is_last, is_out, line_and_rest, line_end, listener}
use Rattle.rules_control.specs.Talk.{want_by, with_kept, with_left}
use Rattle.rules_control.specs.declared.Command.{Command}
use Rattle.rules_control.specs.declared.Command.TheVariants.{Add, Remove, List as Lists, What}
use Rattle.spec_control.specs.ControlServer.{Awaited, Nothing, Opening, Shutting, ControlServer, Reads, adds_unless, after_call, after_entry, answers, answers_line, awaits, control_server, flows_in_use, is_its_own, is_peer}
use Rattle.spec_control.specs.ControlServer.{opens_awaited, removes, serves, with_changes, with_talk}
use Rattle.spec_control.specs.Laws.{MayControl, MayWait, MayWhere, wants_of}
use Rattle.spec_control.specs.Replies.{fault_text, forward_lines, flow_lines, reply_line}
use Rattle.spec_control.proofs.Asked.{no_close}

clash : false ≡ true → ⊥
clash is = cc

-- where no reply is left of an open connection no whole line is kept
abbrev IsAnswered : Talk → Type 0
IsAnswered t = is_out t ≡ true → is_some t.peer ≡ true → has_line t.kept ≡ false

-- but while a port is opened for a line: its reply comes with that
abbrev Attends : Awaited → Talk → Type 0
Attends Nothing t = IsAnswered t
Attends (Opening f) t = Unit {0}
Attends (Shutting socket) t = IsAnswered t

abbrev IsServed : ControlServer → Type 0
IsServed d = Attends d.awaited d.talk

-- ---- a reply is left

left_behind : (front back : List ℕ) → (length back == 0) ≡ false → (length (front ++ back) == 0) ≡ false
left_behind front back some = let many = length-append front back in grind (arith, nat_tests, many, some)

says_attends : (awaited : Awaited) (left : List ℕ) (t : Talk) → (length left == 0) ≡ false → Attends awaited (with_left left t)
says_attends Nothing left t some = λ out met. absurd (clash (sym some ∙ out))
says_attends (Opening f) left t some = tt
says_attends (Shutting socket) left t some = λ out met. absurd (clash (sym some ∙ out))

line_left : (text : List ℕ) → (length (reply_line text) == 0) ≡ false
line_left text = left_behind text (10 ∷ []) refl

list_left : (forwards flows : List ℕ) → (length (forwards ++ flows ++ reply_line (codes "ok")) == 0) ≡ false
list_left forwards flows = left_behind (forwards ++ flows) (reply_line (codes "ok")) refl

-- ---- a command's answer

adds_attends : (o : Option FwdFault) (f : Forward) (d : ControlServer) → IsServed (adds_unless o f d)
adds_attends (Some fault) f d = says_attends d.awaited (reply_line (fault_text fault)) d.talk (line_left (fault_text fault))
adds_attends None f d = tt

removes_attends : (o : Option ℕ) (proto : Proto) (host : Endpoint) (d : ControlServer) → IsServed (removes o proto host d)
removes_attends None proto host d = says_attends d.awaited (reply_line (codes "not there")) d.talk refl
removes_attends (Some socket) proto host d = says_attends (Shutting socket) (reply_line (codes "ok")) d.talk refl

answers_attends : (config : Config) (past : List Entry) (command : Command) (d : ControlServer) → IsServed (answers config past command d)
answers_attends config past (Add f) d = adds_attends (if is_its_own config f then Some Taken else fault_of config f d.forwards) f d
answers_attends config past (Remove proto host) d = removes_attends (socket_at proto host d.forwards) proto host d
answers_attends config past Lists d =
    says_attends d.awaited (forward_lines d.forwards ++ flow_lines (flows_in_use (book config past).flows) ++ reply_line (codes "ok")) d.talk
    (list_left (forward_lines d.forwards) (flow_lines (flows_in_use (book config past).flows)))
answers_attends config past What d = says_attends d.awaited (reply_line (codes "what")) d.talk refl

-- ---- a line is served

none_kept : (awaited : Awaited) (t : Talk) → has_line t.kept ≡ false → Attends awaited t
none_kept Nothing t none = λ out met. none
none_kept (Opening f) t none = tt
none_kept (Shutting socket) t none = λ out met. none

not_served : (a b : Bool) → (a && b) ≡ false → a ≡ true → b ≡ true → ⊥
not_served true true none out met = clash (sym none)
not_served true false none out met = clash met
not_served false b none out met = clash out

unserved_attends : (awaited : Awaited) (t : Talk) → (is_out t && is_some t.peer) ≡ false → Attends awaited t
unserved_attends Nothing t none = λ out met. absurd (not_served (is_out t) (is_some t.peer) none out met)
unserved_attends (Opening f) t none = tt
unserved_attends (Shutting socket) t none = λ out met. absurd (not_served (is_out t) (is_some t.peer) none out met)

serves_attends : (read : Reads) (config : Config) (past : List Entry) (d : ControlServer) → IsServed (serves read config past d)
serves_attends read config past d = by (is_out d.talk && is_some d.talk.peer) refl
  where
    line : (end : Option ℕ) → line_end d.talk.kept ≡ end → IsServed (answers_line read config past (option_map (line_and_rest d.talk.kept) end) d)
    line None is = none_kept d.awaited d.talk (ap is_some is)
    line (Some n) is = answers_attends config past (read (line_and_rest d.talk.kept n).0) (with_talk (after_line d.talk) d)

    by : (b : Bool) → (is_out d.talk && is_some d.talk.peer) ≡ b → IsServed (if b then answers_line read config past (first_line d.talk.kept) d else d)
    by true is = line (line_end d.talk.kept) refl
    by false is = unserved_attends d.awaited d.talk is

-- ---- each entry

over_attends : (awaited : Awaited) (t : Talk) → Attends awaited (hung_up t)
over_attends awaited t = none_kept awaited (hung_up t) refl

listened : (awaited : Awaited) (answer : Made) (t : Talk) → Attends awaited t → Attends awaited (after_listen answer t)
listened Nothing MadeDone t had = had
listened Nothing MadeFailed t had = had
listened (Opening f) answer t had = tt
listened (Shutting n) MadeDone t had = had
listened (Shutting n) MadeFailed t had = had

opened_attends : (awaited : Awaited) (answer : Made) (socket : ℕ) (d : ControlServer) → IsServed d → IsServed (opens_awaited awaited answer socket d)
opened_attends Nothing answer socket d had = had
opened_attends (Opening f) MadeDone socket d had = says_attends Nothing (reply_line (codes "ok")) d.talk refl
opened_attends (Opening f) MadeFailed socket d had = says_attends Nothing (reply_line (fault_text Refused)) d.talk refl
opened_attends (Shutting n) answer socket d had = had

accepted_attends : (awaited : Awaited) (answer : Accepted) (t : Talk) → Attends awaited t → Attends awaited (after_accept answer t)
accepted_attends awaited (From peer) t had = none_kept awaited (after_accept (From peer) t) refl
accepted_attends awaited NotYetAccepted t had = had
accepted_attends awaited AcceptFailed t had = had

-- a close isn't made while a port is to be opened
abbrev NotOpening : Awaited → Type 0
NotOpening awaited = (f : Forward) → awaited ≡ Opening f → ⊥

calm_attends : (awaited : Awaited) (t : Talk) → NotOpening awaited → Attends awaited t → IsAnswered t
calm_attends Nothing t calm had = had
calm_attends (Opening f) t calm had = absurd (calm f refl)
calm_attends (Shutting n) t calm had = had

abbrev Closing : Entry → Awaited → Type 0
Closing (Close socket) awaited = NotOpening awaited
Closing _ awaited = Unit {0}

after_a_read : (read : Reads) (config : Config) (past : List Entry) (socket : ℕ) (kept : List ℕ) (d : ControlServer) (last : Bool)
    → IsServed (after_call read config past last socket (with_talk (if last then hung_up d.talk else with_kept kept d.talk) d))
after_a_read read config past socket kept d true = over_attends (Shutting socket) d.talk
after_a_read read config past socket kept d false = serves_attends read config past (with_talk (with_kept kept d.talk) d)

after_a_write : (read : Reads) (config : Config) (past : List Entry) (socket : ℕ) (d : ControlServer) (answer : Io)
    → IsServed (after_call read config past (fails answer) socket (with_talk (after_write answer d.talk) d))
after_a_write read config past socket d (Done n) = serves_attends read config past (with_talk (after_write (Done n) d.talk) d)
after_a_write read config past socket d End = serves_attends read config past (with_talk (after_write End d.talk) d)
after_a_write read config past socket d NotYet = serves_attends read config past (with_talk (after_write NotYet d.talk) d)
after_a_write read config past socket d Failed = over_attends (Shutting socket) d.talk

entry_attends : (read : Reads) (config : Config) (past : List Entry) (e : Entry) (d : ControlServer) → Closing e d.awaited → IsServed d → IsServed (after_entry read config past e d)
entry_attends read config past (Listen socket at answer) d calm had = by (is_controls socket)
  where
    by : (b : Bool) → IsServed (if b then with_talk (after_listen answer d.talk) d else opens_awaited d.awaited answer socket d)
    by true = listened d.awaited answer d.talk had
    by false = opened_attends d.awaited answer socket d had
entry_attends read config past (UdpOpen socket at answer) d calm had = opened_attends d.awaited answer socket d had
entry_attends read config past (Accept from socket answer) d calm had = by (is_controls from)
  where
    by : (b : Bool) → IsServed (if b then with_talk (after_accept answer d.talk) d else d)
    by true = accepted_attends d.awaited answer d.talk had
    by false = had
entry_attends read config past (TcpRead socket asked answer octets) d calm had = by (is_controls socket)
  where
    by : (b : Bool) → IsServed (if b then after_call read config past (is_last answer (d.talk.kept ++ octets)) socket (with_talk (after_read answer octets d.talk) d) else d)
    by true = after_a_read read config past socket (d.talk.kept ++ octets) d (is_last answer (d.talk.kept ++ octets))
    by false = had
entry_attends read config past (TcpWrite socket octets answer) d calm had = by (is_controls socket)
  where
    by : (b : Bool) → IsServed (if b then after_call read config past (fails answer) socket (with_talk (after_write answer d.talk) d) else d)
    by true = after_a_write read config past socket d answer
    by false = had
entry_attends read config past (Close socket) d calm had = by (socket == listener) (is_peer socket d.talk.peer)
  where
    by : (a b : Bool) → IsServed (if a then awaits Nothing (with_talk (deaf d.talk) d) else (if b then awaits Nothing (with_talk (hung_up d.talk) d) else awaits Nothing d))
    by true b = calm_attends d.awaited d.talk calm had
    by false true = over_attends Nothing d.talk
    by false false = calm_attends d.awaited d.talk calm had
entry_attends read config past _ d calm had = had

-- ---- a trace

close_calm : (awaited : Awaited) (read : Reads) (config : Config) (past : List Entry) (socket : ℕ) → MayWhere awaited read config past (CallClose socket) → NotOpening awaited
close_calm Nothing read config past socket may f is = cc
close_calm (Opening g) read config past socket may f is = no_close g.proto (next_number (without_control past)) g socket may
close_calm (Shutting n) read config past socket may f is = cc

closes_calm : (read : Reads) (config : Config) (past : List Entry) (e : Entry) → Follows (MayControl read config) (e ∷ past) → Closing e (control_server read config past).awaited
closes_calm read config past (Close socket) follows = close_calm (control_server read config past).awaited read config past socket follows.0
closes_calm read config past _ follows = tt

attends : (read : Reads) (config : Config) (past : List Entry) → Follows (MayControl read config) past → IsServed (control_server read config past)
attends read config [] follows = λ out met. refl
attends read config (e ∷ past) follows =
    entry_attends read (with_changes config (control_server read config past)) (without_control past) e (control_server read config past) (closes_calm read config past e follows)
    (attends read config past follows.1)

unawaited_attends : (awaited : Awaited) (t : Talk) → awaited ≡ Nothing → Attends awaited t → IsAnswered t
unawaited_attends Nothing t is had = had
unawaited_attends (Opening f) t is had = absurd (other is)
  where
    other : Opening f ≡ Nothing → ⊥
    other same = cc
unawaited_attends (Shutting n) t is had = had

open_is : (o : Option ℕ) (n : ℕ) → o ≡ Some n → is_some o ≡ true
open_is o n is = ap is_some is

pub line_answered : (read : Reads) (config : Config) (past : List Entry) (n : ℕ) → Follows (MayControl read config) past → (control_server read config past).awaited ≡ Nothing
    → (control_server read config past).talk.peer ≡ Some n → is_out (control_server read config past).talk ≡ true → has_line (control_server read config past).talk.kept ≡ false
line_answered read config past n follows none met out =
    unawaited_attends (control_server read config past).awaited (control_server read config past).talk none (attends read config past follows) out (open_is (control_server read config past).talk.peer n met)

-- ---- where it waits

no_wait : (p : Proto) (number : ℕ) (f : Forward) (wants : List Want) (timeout : Option ℕ) → CallWait wants timeout ≡ opening_of p number f → ⊥
no_wait Tcp number f wants timeout is = cc
no_wait Udp number f wants timeout is = cc

wait_calm : (awaited : Awaited) (read : Reads) (config : Config) (past : List Entry) (wants : List Want) (timeout : Option ℕ)
    → MayWhere awaited read config past (CallWait wants timeout) → (awaited ≡ Nothing) × MayWait read config past wants
wait_calm Nothing read config past wants timeout may = (refl, may)
wait_calm (Opening f) read config past wants timeout may = absurd (no_wait f.proto (next_number (without_control past)) f wants timeout may)
wait_calm (Shutting n) read config past wants timeout may = absurd (other may)
  where
    other : CallWait wants timeout ≡ CallClose n → ⊥
    other is = cc

left_of : (out line : Bool) → (out ≡ true → line ≡ false) → line ≡ true → out ≡ false
left_of true line answered whole = absurd (clash (sym (answered refl) ∙ whole))
left_of false line answered whole = refl

abbrev wants_by : Option ℕ → Talk → List Want
wants_by peer t = option_map_or (λ want. want ∷ []) (want_by peer t) []

pub wait_to_answer : (read : Reads) (config : Config) (past : List Entry) (wants : List Want) (timeout : Option ℕ) (n : ℕ) → Follows (MayControl read config) past
    → MayControl read config past (CallWait wants timeout) → (control_server read config past).talk.peer ≡ Some n → has_line (control_server read config past).talk.kept ≡ true
    → controls wants ≡ record { of = Connection n; read = false; write = true } ∷ []
wait_to_answer read config past wants timeout n follows may met whole =
    let t : Talk = (control_server read config past).talk in
    let calm = wait_calm (control_server read config past).awaited read config past wants timeout may in
    let left = left_of (is_out t) (has_line t.kept) (λ out. line_answered read config past n follows calm.0 met out) whole in
    calm.1.own ∙ ap (λ (peer : Option ℕ). wants_by peer t) met ∙ ap (λ (out : Bool). record { of = Connection n; read = out; write = not out } ∷ []) left
