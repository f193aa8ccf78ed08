-- The calls on the host's socket, one by one.
use Rattle.std.proofs.Common.{refl, ◌≡◌, ℕ, zero, suc, ◌-◌, ◌<◌, ◌≤◌, List, [], ◌∷◌, ◌++◌, length, take, min, Bool, true, false, not, ◌&&◌, ◌||◌, nat_lt, if◌then◌else◌, length-append, arith, ap, subst, sym, ◌∙◌}
use Rattle.std.proofs.lemmas.Bool.Decides.{nat_tests}
use Rattle.world_face.specs.Journal.{Entry, Connected, TcpRead, TcpWrite, TcpEnd, Close, count_of}
use Rattle.world_face.specs.declared.Io.{Io}
use Rattle.world_face.specs.declared.Io.TheVariants.{Done, End, NotYet, Failed}
use Rattle.world_face.specs.declared.Joined.TheVariants.{Yes, NotYet as NotJoined, Failed as JoinFailed}
use Rattle.world_face.specs.declared.Made.{Made}
use Rattle.world_face.specs.declared.Made.TheVariants.{Done as MadeDone, Failed as MadeFailed}
use Rattle.tcp_connection.specs.Connection.{Connection, HasBuffers, is_opening, is_synchronized}
use Rattle.tcp_connection.specs.Hosts.{connected_by, host_ended, is_open as is_host_open, reset, write_ended}
use Rattle.tcp_connection.specs.Segments.{is_done, settled, settling}
use Rattle.tcp_connection.specs.declared.Change.TheVariants.{Nothing, Finished}
use Rattle.tcp_connection.specs.declared.Stage.{Stage}
use Rattle.tcp_connection.specs.declared.Stage.TheVariants as stage
use Rattle.tcp_transmit.specs.Timing.{watched}
use Rattle.spec_flow.specs.Settings.{Settings}
use Rattle.spec_flow.specs.Event.{At, Closes, Connected as HostConnected, ConnectsYet, ConnectFails, Writes, WriteFails, Reads, ReadsEnd, ReadFails, EndsHost, EndFails, Story}
use Rattle.spec_flow.specs.Dutiful.{read_size}
use Rattle.spec_flow.specs.Guest.{is_empty}
use Rattle.sim_connection.specs.Holding.{Holds, is_calls, is_at_connecting, without}
use Rattle.sim_connection.proofs.Asking.{connects_now, connects_yet}
use Rattle.sim_connection.proofs.Causes.{end_fails_closes, failed_cause, read_fails_closes, refused_closes, write_fails_closes}
use Rattle.sim_connection.proofs.Departing.{unsettled}
use Rattle.sim_connection.proofs.Reading.{reads, reads_end, unsent_end}
use Rattle.sim_connection.proofs.Wanting.{asks_for_all_room}
use Rattle.sim_connection.proofs.Writing.{ends_host, writes}
use Rattle.flow_splice.specs.Follows.{Follows, IsOpen}
use Rattle.flow_splice.specs.Hosts.{Sees, ends as ends_by, given, gives_octets, reads_or_shuts, some_is}
use Rattle.flow_splice.specs.Serves.{GoesOn}
use Rattle.flow_splice.specs.Splice.{Splice, closed, is_open}
use Rattle.flow_splice.specs.Wants.{may_end, may_read, may_write, owes_octets, reads as reads_by, writes as writes_by}
use Rattle.flow_splice.proofs.Calls.{or_last}
use Rattle.flow_splice.proofs.Opened.{goes_on, open_follows, open_is}
use Rattle.flow_splice.proofs.Shutting.{done_follows, finished_cause, reset_follows, settled_same}

connects_opens : (st : Stage) → is_at_connecting st ≡ true → (st ≡ stage.Connecting) × (is_opening st ≡ true) × (is_calls st ≡ false)
connects_opens stage.Connecting is = (refl, refl, refl)
connects_opens stage.SynSent is = absurd cc
connects_opens stage.SynReceived is = absurd cc
connects_opens stage.Synchronized is = absurd cc
connects_opens stage.TimeWait is = absurd cc
connects_opens (stage.Resets seq ack) is = absurd cc
connects_opens stage.Closed is = absurd cc

-- a connection that isn't at its end yet isn't at its end where both SYNs aren't known
opening_not_done : (c : Connection) → is_synchronized c.stage ≡ false → is_done c ≡ false
opening_not_done c is = ap (λ (b : Bool). b && c.host_ended && c.fin_acked && c.end_acknowledged) is

is_finished : (x : Connection) → ends_by (settling x) ≡ true → is_done x ≡ true
is_finished x is = by (is_done x) is
  where
    by : (b : Bool) → ends_by (if b then Finished else Nothing) ≡ true → b ≡ true
    by true is = refl
    by false is = absurd cc

is_unfinished : (x : Connection) → ends_by (settling x) ≡ false → is_done x ≡ false
is_unfinished x is = by (is_done x) is
  where
    by : (b : Bool) → ends_by (if b then Finished else Nothing) ≡ false → b ≡ false
    by true is = absurd cc
    by false is = refl

-- after the host took so many octets
abbrev pub taken_by : Splice → (n now : ℕ) → Splice
taken_by f n now = record f { up = without f.up n; last = if nat_lt 0 n then now else f.last }

module _ (f : Splice) (now : ℕ) (open_yet : is_open f ≡ true) where
  -- ---- it is asked whether it connected

  module _ (connects : is_at_connecting f.conn.stage ≡ true) where
    pub host_connected : HasBuffers (connected_by f.conn.stage f.conn) f.up f.down → GoesOn f (record f { conn = connected_by f.conn.stage f.conn; last = now }) false now (Connected f.face.number Yes ∷ [])
    host_connected buffers s past before ident ended known on h =
        let o = open_is s f past before open_yet h in
        let at = (connects_opens f.conn.stage connects).0 in
        let next : Connection = record f.conn { stage = stage.SynReceived; syn_owed = true } in
        let is : connected_by f.conn.stage f.conn ≡ next = ap (λ (st : Stage). connected_by st f.conn) at in
        record {
          beats = At now HostConnected ∷ [];
          are = ([], refl, (refl, refl));
          follows = open_follows s (record f { conn = connected_by f.conn.stage f.conn; last = now }) (At now HostConnected ∷ past) now open_yet
              (subst (λ (c : Connection). IsOpen s (record f { conn = c; last = now }) (At now HostConnected ∷ past) now) (sym is)
              (goes_on s f next f.up f.down f.told_end past before now HostConnected on (λ none. none) o
              (connects_now s f.conn f.up f.down past before now on at (subst (λ (c : Connection). HasBuffers c f.up f.down) is buffers) o.holds) o.told (opening_not_done next refl)
              (λ unknown. let two = o.unsent unknown in let not_it = sym two.0 ∙ (connects_opens f.conn.stage connects).2 in absurd cc) (λ unowed. refl)));
        }

    pub host_not_yet : GoesOn f f false now (Connected f.face.number NotJoined ∷ [])
    host_not_yet s past before ident ended known on h =
        let o = open_is s f past before open_yet h in
        record {
          beats = At now ConnectsYet ∷ [];
          are = ([], refl, (refl, refl));
          follows = open_follows s f (At now ConnectsYet ∷ past) now open_yet
              (goes_on s f f.conn f.up f.down f.told_end past before now ConnectsYet on (λ none. none) o
              (connects_yet s f.conn f.up f.down past before now on connects o.holds) o.told o.unfinished o.unsent (λ unowed. refl));
        }

    pub host_refused : GoesOn f (closed (record f { conn = reset f.conn }) now) false now (Close f.face.number ∷ Connected f.face.number JoinFailed ∷ [])
    host_refused s past before ident ended known on h =
        let o = open_is s f past before open_yet h in
        record {
          beats = At now (Closes false ended known) ∷ At now ConnectFails ∷ [];
          are = (At now ConnectFails ∷ [], ([], refl, (refl, refl)), (refl, refl, failed_cause s f.conn f.up f.down past before now on o.holds known false (At now ConnectFails ∷ past) refl));
          follows = reset_follows s f past (At now ConnectFails ∷ past) before now false ended known o refl
              (refused_closes s f.conn f.up f.down past before now on o.holds known ended connects (connects_opens f.conn.stage connects).1);
        }

  -- ---- octets are offered

  module _ (owes : owes_octets f ≡ true) (joined : is_at_connecting f.conn.stage ≡ false) where
    two : (0 < length f.up.held) × (f.told_end ≡ false)
    two = both (nat_lt 0 (length f.up.held)) f.told_end refl owes
      where
        both : (a b : Bool) → nat_lt 0 (length f.up.held) ≡ a → (a && not b) ≡ true → (0 < length f.up.held) × (b ≡ false)
        both true false a_is is = (grind (arith, nat_tests), refl)
        both true true a_is is = absurd cc
        both false b a_is is = absurd cc

    reached : (s : Settings) (past : Story) (at : ℕ) → IsOpen s f past at → is_calls f.conn.stage ≡ false
    reached s past at o = by (is_calls f.conn.stage) refl
      where
        by : (b : Bool) → is_calls f.conn.stage ≡ b → b ≡ false
        by true is = let none = ap length (o.holds.awaits is).held in let some = two.0 in absurd (omega (arith, none, some))
        by false is = refl

    untold : (s : Settings) (past : Story) (at : ℕ) → IsOpen s f past at → f.conn.host_ended ≡ false
    untold s past at o = sym (o.holds.receives (reached s past at o)).host_ended ∙ o.told ∙ two.1

    abbrev front : List ℕ
    front = take (min 16384 (length f.up.held)) f.up.held

    front_some : (k : ℕ) (xs : List ℕ) → 0 < k → 0 < length xs → is_empty (take k xs) ≡ false
    front_some zero xs more some = absurd (omega (arith, more))
    front_some (suc k) [] more some = absurd (omega (arith, some))
    front_some (suc k) (x ∷ xs) more some = refl

    alive_is : (n : ℕ) → (nat_lt 0 n && not (is_empty front)) ≡ nat_lt 0 n
    alive_is n = ap (λ (b : Bool). nat_lt 0 n && not b) (front_some (min 16384 (length f.up.held)) f.up.held (let some = two.0 in omega (arith, some)) two.0) ∙ and_true (nat_lt 0 n)
      where
        and_true : (b : Bool) → (b && true) ≡ b
        and_true true = refl
        and_true false = refl

    takes : (n : ℕ) → n ≤ min 16384 (length f.up.held) → HasBuffers f.conn (without f.up n) f.down
        → (s : Settings) (past : Story) (before : ℕ) → before ≤ now → IsOpen s f past before → Follows s (taken_by f n now) (At now (Writes front n) ∷ past) now
    takes n few buffers s past before on o =
        open_follows s (taken_by f n now) (At now (Writes front n) ∷ past) now open_yet
        (subst (λ (b : Bool). IsOpen s (record f { up = without f.up n; last = if b then now else f.last }) (At now (Writes front n) ∷ past) now) (alive_is n)
        (goes_on s f f.conn (without f.up n) f.down f.told_end past before now (Writes front n) on (λ none. none) o
        (writes s f.conn f.up f.down past before now on (reached s past before o) joined (min 16384 (length f.up.held)) n few refl buffers o.holds) o.told o.unfinished o.unsent (λ unowed. refl)))

    pub host_takes : (answer : Io) → count_of answer ≤ min 16384 (length f.up.held) → HasBuffers f.conn (without f.up (count_of answer)) f.down → (answer ≡ Failed → ⊥)
        → GoesOn f (taken_by f (count_of answer) now) false now (TcpWrite f.face.number front answer ∷ [])
    host_takes (Done n) few buffers well s past before ident ended known on h =
        record { beats = At now (Writes front n) ∷ []; are = ([], refl, (refl, refl)); follows = takes n few buffers s past before on (open_is s f past before open_yet h) }
    host_takes End few buffers well s past before ident ended known on h =
        record { beats = At now (Writes front 0) ∷ []; are = ([], refl, (refl, refl)); follows = takes 0 few buffers s past before on (open_is s f past before open_yet h) }
    host_takes NotYet few buffers well s past before ident ended known on h =
        record { beats = At now (Writes front 0) ∷ []; are = ([], refl, (refl, refl)); follows = takes 0 few buffers s past before on (open_is s f past before open_yet h) }
    host_takes Failed few buffers well s past before ident ended known on h = absurd (well refl)

    pub host_takes_none : GoesOn f (closed (record f { conn = reset f.conn }) now) false now (Close f.face.number ∷ TcpWrite f.face.number front Failed ∷ [])
    host_takes_none s past before ident ended known on h =
        let o = open_is s f past before open_yet h in
        record {
          beats = At now (Closes false ended known) ∷ At now (WriteFails front) ∷ [];
          are = (
            At now (WriteFails front) ∷ [],
            ([], refl, (refl, refl)),
            (
              refl,
              refl,
              failed_cause s f.conn f.up f.down past before now on o.holds known false
                  (At now (WriteFails front) ∷ past) refl,
            ),
          );
          follows = reset_follows s f past (At now (WriteFails front) ∷ past) before now false ended known o refl
              (write_fails_closes s f.conn f.up f.down past before now on o.holds known (reached s past before o) joined (untold s past before o) ended (min 16384 (length f.up.held)) refl);
        }

  -- ---- the guest's end is passed on

  module _ (owes_none : owes_octets f ≡ false) (ends : may_end f ≡ true) (joined : is_at_connecting f.conn.stage ≡ false) where
    both : (a b : Bool) → (a && not b) ≡ true → (a ≡ true) × (b ≡ false)
    both true false is = (refl, refl)
    both true true is = absurd cc
    both false b is = absurd cc

    taken : f.conn.received.ended ≡ true
    taken = (both f.conn.received.ended f.told_end ends).0

    not_told : f.told_end ≡ false
    not_told = (both f.conn.received.ended f.told_end ends).1

    none_held : f.up.held ≡ []
    none_held = by f.up.held f.told_end not_told owes_none
      where
        by : (held : List ℕ) (b : Bool) → b ≡ false → (nat_lt 0 (length held) && not b) ≡ false → held ≡ []
        by [] b b_is is = refl
        by (x ∷ held) b b_is is =
            let some : nat_lt 0 (length (x ∷ held)) ≡ true = grind (arith, nat_tests) in
            let not_it = ap (λ (a : Bool). a && not b) (sym some) ∙ is in
            let not_both = ap (λ (a : Bool). true && not a) (sym b_is) ∙ not_it in absurd cc

    got_here : (s : Settings) (past : Story) (at : ℕ) → IsOpen s f past at → is_calls f.conn.stage ≡ false
    got_here s past at o = by (is_calls f.conn.stage) refl
      where
        by : (b : Bool) → is_calls f.conn.stage ≡ b → b ≡ false
        by true is = let none : f.conn.received.ended ≡ false = ap (λ r. r.ended) (o.holds.awaits is).received in let not_it = sym taken ∙ none in absurd cc
        by false is = refl

    unended : (s : Settings) (past : Story) (at : ℕ) → IsOpen s f past at → f.conn.host_ended ≡ false
    unended s past at o = sym (o.holds.receives (got_here s past at o)).host_ended ∙ o.told ∙ not_told

    pub host_end_fails : GoesOn f (closed (record f { conn = reset f.conn }) now) false now (Close f.face.number ∷ TcpEnd f.face.number MadeFailed ∷ [])
    host_end_fails s past before ident ended known on h =
        let o = open_is s f past before open_yet h in
        record {
          beats = At now (Closes false ended known) ∷ At now EndFails ∷ [];
          are = (At now EndFails ∷ [], ([], refl, (refl, refl)), (refl, refl, failed_cause s f.conn f.up f.down past before now on o.holds known false (At now EndFails ∷ past) refl));
          follows = reset_follows s f past (At now EndFails ∷ past) before now false ended known o refl
              (end_fails_closes s f.conn f.up f.down past before now on o.holds known (got_here s past before o) joined (unended s past before o) ended none_held taken);
        }

    -- it was told: either both ends passed with that, or not
    abbrev told : Connection
    told = write_ended f.conn

    ends_holds : HasBuffers (settled told) f.up f.down → (s : Settings) (past : Story) (before : ℕ) → before ≤ now → IsOpen s f past before → Holds s told f.up f.down (At now EndsHost ∷ past) now
    ends_holds buffers s past before on o =
        ends_host s f.conn f.up f.down past before now on (got_here s past before o) joined none_held taken (unended s past before o) (unsettled told f.up f.down buffers) o.holds

    pub host_ends : HasBuffers (settled told) f.up f.down → (b : Bool) → ends_by (settling told) ≡ b → (new : Splice) (made : List Entry)
        → Sees b (record f { conn = settled told; told_end = true; last = now }) new now made → GoesOn f new false now (made ++ (TcpEnd f.face.number MadeDone ∷ []))
    host_ends buffers true finished new made sees =
        subst (λ (g : Splice). GoesOn f g false now (made ++ (TcpEnd f.face.number MadeDone ∷ []))) (sym sees.1)
        (subst (λ (es : List Entry). GoesOn f (closed (record f { conn = settled told; told_end = true; last = now }) now) false now (es ++ (TcpEnd f.face.number MadeDone ∷ []))) (sym sees.0)
        (λ s past before ident over known on h.
        let o = open_is s f past before open_yet h in
        record {
          beats = At now (Closes false over known) ∷ At now EndsHost ∷ [];
          are = (
            At now EndsHost ∷ [],
            ([], refl, (refl, refl)),
            (
              refl,
              refl,
              finished_cause s (record f { told_end = true }) told (At now EndsHost ∷ past) now false known
                  (ends_holds buffers s past before on o) (is_finished told finished) refl,
            ),
          );
          follows = done_follows s (record f { told_end = true; last = now }) told (At now EndsHost ∷ past) now false over known (ends_holds buffers s past before on o)
              (is_finished told finished) refl o.mru (λ unknown. (o.unsent unknown).0);
        }))
    host_ends buffers false unfinished new made sees =
        subst (λ (g : Splice). GoesOn f g false now (made ++ (TcpEnd f.face.number MadeDone ∷ []))) (sym sees.1)
        (subst (λ (es : List Entry). GoesOn f (record f { conn = settled told; told_end = true; last = now }) false now (es ++ (TcpEnd f.face.number MadeDone ∷ []))) (sym sees.0)
        (subst (λ (c : Connection). GoesOn f (record f { conn = c; told_end = true; last = now }) false now (TcpEnd f.face.number MadeDone ∷ [])) (sym (settled_same told (is_unfinished told unfinished)))
        (λ s past before ident over known on h.
        let o = open_is s f past before open_yet h in
        record {
          beats = At now EndsHost ∷ [];
          are = ([], refl, (refl, refl));
          follows = open_follows s (record f { conn = told; told_end = true; last = now }) (At now EndsHost ∷ past) now open_yet
              (goes_on s f told f.up f.down true past before now EndsHost on (λ none. none) o (ends_holds buffers s past before on o) refl (is_unfinished told unfinished) o.unsent (λ unowed. refl));
        })))

  -- ---- octets are read

  module _ (may : may_read f ≡ true) where
    three : (a b d : Bool) → (not a && b && d) ≡ true → (a ≡ false) × (b ≡ true) × (d ≡ true)
    three true b d is = absurd cc
    three false true true is = (refl, refl, refl)
    three false true false is = absurd cc
    three false false d is = absurd cc

    yet : is_host_open f.conn.transmission.end ≡ true
    yet = (three (is_at_connecting f.conn.stage) (is_host_open f.conn.transmission.end) (nat_lt 0 (f.down.size - length f.down.octets)) may).1

    joined_yet : is_at_connecting f.conn.stage ≡ false
    joined_yet = (three (is_at_connecting f.conn.stage) (is_host_open f.conn.transmission.end) (nat_lt 0 (f.down.size - length f.down.octets)) may).0

    -- as many as there is room for are asked for
    asks : (s : Settings) (past : Story) (before : ℕ) → IsOpen s f past before → f.down.size ≡ f.up.size → min 16384 (f.down.size - length f.down.octets) ≡ read_size s past
    asks s past before o size = ap (λ (n : ℕ). min 16384 (n - length f.down.octets)) (size ∙ o.holds.buffers.size ∙ o.holds.suits.ring) ∙ sym
        (asks_for_all_room s f.conn f.up f.down past before o.holds yet)

    abbrev asked : ℕ
    asked = min 16384 (f.down.size - length f.down.octets)

    read_follows : (octets : List ℕ) → f.down.size ≡ f.up.size → length octets ≤ asked → HasBuffers (given f octets now).conn f.up (given f octets now).down
        → (s : Settings) (past : Story) (before : ℕ) → before ≤ now → IsOpen s f past before → Follows s (given f octets now) (At now (Reads octets) ∷ past) now
    read_follows octets size few buffers s past before on o =
        let next = given f octets now in
        open_follows s next (At now (Reads octets) ∷ past) now open_yet
        (goes_on s f next.conn f.up next.down f.told_end past before now (Reads octets) on (λ none. none) o
        (reads s f.conn f.up f.down past before now on o.holds yet joined_yet octets
        (let long = length-append f.down.octets octets in let within = o.holds.within in let ring = size ∙ o.holds.buffers.size ∙ o.holds.suits.ring in omega
        (arith, long, ring, few, within)) buffers)
        o.told o.unfinished o.unsent (λ unowed. refl))

    pub host_gives : (answer : Io) (octets : List ℕ) → gives_octets answer ≡ true → f.down.size ≡ f.up.size → length octets ≤ asked → HasBuffers (given f octets now).conn f.up
        (given f octets now).down
        → GoesOn f (given f octets now) false now (TcpRead f.face.number asked answer octets ∷ [])
    host_gives (Done n) octets done size few buffers s past before ident ended known on h =
        let o = open_is s f past before open_yet h in
        record { beats = At now (Reads octets) ∷ []; are = ([], refl, (refl, asks s past before o size, refl)); follows = read_follows octets size few buffers s past before on o }
    host_gives End octets done size few buffers s past before ident ended known on h = absurd cc
    host_gives NotYet octets done size few buffers s past before ident ended known on h =
        let o = open_is s f past before open_yet h in
        record { beats = At now (Reads octets) ∷ []; are = ([], refl, (refl, asks s past before o size, refl)); follows = read_follows octets size few buffers s past before on o }
    host_gives Failed octets done size few buffers s past before ident ended known on h = absurd cc

    -- the host ended its stream
    pub host_gives_end : (octets : List ℕ) → f.down.size ≡ f.up.size → HasBuffers (host_ended f.conn now) f.up f.down → GoesOn f
        (record f { conn = host_ended f.conn now; last = now }) false now (TcpRead f.face.number asked End octets ∷ [])
    host_gives_end octets size buffers s past before ident ended known on h =
        let o = open_is s f past before open_yet h in
        let next : Connection = record f.conn { transmission = watched (unsent_end s f.conn f.up f.down past before now on o.holds yet joined_yet) true now } in
        let is : host_ended f.conn now ≡ next = ap (λ (b : Bool). if b then next else f.conn) yet in
        record {
          beats = At now ReadsEnd ∷ [];
          are = ([], refl, (refl, asks s past before o size, refl));
          follows = subst (λ (c : Connection). Follows s (record f { conn = c; last = now }) (At now ReadsEnd ∷ past) now) (sym is)
              (open_follows s (record f { conn = next; last = now }) (At now ReadsEnd ∷ past) now open_yet
              (goes_on s f next f.up f.down f.told_end past before now ReadsEnd on (λ none. none) o
              (reads_end s f.conn f.up f.down past before now on o.holds yet joined_yet (subst (λ (c : Connection). HasBuffers c f.up f.down) is buffers)) o.told o.unfinished
              o.unsent (λ unowed. refl)));
        }

    -- the read failed
    pub host_gives_none : (octets : List ℕ) → f.down.size ≡ f.up.size → GoesOn f (closed (record f { conn = reset f.conn }) now) false now
        (Close f.face.number ∷ TcpRead f.face.number asked Failed octets ∷ [])
    host_gives_none octets size s past before ident ended known on h =
        let o = open_is s f past before open_yet h in
        record {
          beats = At now (Closes false ended known) ∷ At now ReadFails ∷ [];
          are = (
            At now ReadFails ∷ [],
            ([], refl, (refl, asks s past before o size, refl)),
            (
              refl,
              refl,
              failed_cause s f.conn f.up f.down past before now on o.holds known false
                  (At now ReadFails ∷ past) refl,
            ),
          );
          follows = reset_follows s f past (At now ReadFails ∷ past) before now false ended known o refl
              (read_fails_closes s f.conn f.up f.down past before now on o.holds known ended yet joined_yet);
        }

-- the host was told the guest's end: its socket is closed, or reading goes on
pub told_reads : (b : Bool) (f x new : Splice) (now : ℕ) (made : List Entry) (socket : ℕ) (answer : Made) → x ≡ record f { conn = settled (write_ended f.conn); told_end = true; last = now }
    → b ≡ ends_by (settling (write_ended f.conn)) → Sees b x new now made → reads_by f ≡ true → (reads_by new || some_is reads_or_shuts (made ++ (TcpEnd socket answer ∷ []))) ≡ true
told_reads true f x new now made socket answer is b sees reading =
    or_last (reads_by new) (some_is reads_or_shuts (made ++ (TcpEnd socket answer ∷ []))) (ap (λ (es : List Entry). some_is reads_or_shuts (es ++ (TcpEnd socket answer ∷ []))) sees.0)
told_reads false f x new now made socket answer is b sees reading =
    let same : settled (write_ended f.conn) ≡ write_ended f.conn = settled_same (write_ended f.conn) (is_unfinished (write_ended f.conn) (sym b)) in
    let stays : new ≡ record f { conn = write_ended f.conn; told_end = true; last = now } = sees.1 ∙ is ∙ ap (λ (c : Connection). record f { conn = c; told_end = true; last = now }) same in
    ap (λ (now_is : Bool). now_is || some_is reads_or_shuts (made ++ (TcpEnd socket answer ∷ []))) (ap reads_by stays ∙ reading)

-- what connects isn't read
pub connects_unread : (f : Splice) → is_at_connecting f.conn.stage ≡ true → reads_by f ≡ true → ⊥
connects_unread f connects reading = by (is_open f) (is_at_connecting f.conn.stage) (is_host_open f.conn.transmission.end) (nat_lt 0 (f.down.size - length f.down.octets)) connects reading
  where
    by : (a b c d : Bool) → b ≡ true → (a && (not b && c && d)) ≡ true → ⊥
    by true true c d is so = cc
    by true false c d is so = cc
    by false b c d is so = cc

-- what is waited for is so of an open socket
pub shut_unwritten : (f : Splice) → is_open f ≡ false → writes_by f ≡ true → ⊥
shut_unwritten f shut waits = let not_it = sym waits ∙ ap (λ (b : Bool). b && may_write f) shut in cc

pub shut_unread : (f : Splice) → is_open f ≡ false → reads_by f ≡ true → ⊥
shut_unread f shut waits = let not_it = sym waits ∙ ap (λ (b : Bool). b && may_read f) shut in cc

pub full_unread : (f : Splice) → may_read f ≡ false → reads_by f ≡ true → ⊥
full_unread f none waits = by (is_open f) (may_read f) none waits
  where
    by : (a b : Bool) → b ≡ false → (a && b) ≡ true → ⊥
    by true b none so = let not_it = sym so ∙ none in cc
    by false b none so = cc

-- one that has connected and owes the host nothing isn't written
pub idle_unwritten : (f : Splice) → is_at_connecting f.conn.stage ≡ false → owes_octets f ≡ false → may_end f ≡ false → writes_by f ≡ true → ⊥
idle_unwritten f connected none over waits = by (is_open f) (is_at_connecting f.conn.stage) (owes_octets f) (may_end f) connected none over waits
  where
    by : (a b c d : Bool) → b ≡ false → c ≡ false → d ≡ false → (a && (b || c || d)) ≡ true → ⊥
    by true b c d connected none over so =
        let not_it = sym so ∙ ap (λ (x : Bool). x || c || d) connected ∙ ap (λ (x : Bool). x || d) none ∙ over in cc
    by false b c d connected none over so = cc
