-- The connection's timer isn't due after a tick, nor after what goes out.
use Rattle.std.proofs.Common.{refl, ◌≡◌, ℕ, ◌+◌, ◌<◌, Bool, true, false, not, ◌&&◌, Option, None, Some, is_some, nat_le, nat_lt, if◌then◌else◌, List, arith, ap, subst, sym, ◌∙◌, ◌⊎◌, inl, inr}
use Rattle.std.proofs.lemmas.Bool.Decides.{nat_tests}
use Rattle.retransmit.specs.Resending.{IsSteady, Resending, after_expired as resend_expired, after_sent as resend_sent, doublings, due_by as due_by_timer, due_of as resend_due, expired_by}
use Rattle.retransmit.specs.Resending.{is_given_up, is_off, set_unless_running}
use Rattle.retransmit.specs.Estimate.{after_expiry}
use Rattle.retransmit.specs.declared.Timer.{Timer}
use Rattle.retransmit.specs.declared.Timer.TheVariants as timer
use Rattle.net_octets.specs.declared.Mac.{Mac}
use Rattle.sock_buffers.specs.Downward.{Downward}
use Rattle.sock_buffers.specs.Upward.{Upward}
use Rattle.tcp_transmit.specs.Timing.{after_expired as transmission_expired, goes_again, timed_out}
use Rattle.tcp_transmit.specs.Transmission.{Transmission}
use Rattle.tcp_transmit.specs.declared.Piece.{Piece}
use Rattle.tcp_connection.specs.Connection.{Connection, HasBuffers, closes_first, has_gone, is_opening}
use Rattle.tcp_connection.specs.Hosts.{reset}
use Rattle.tcp_connection.specs.Owing.{after_gone, change_gone, data_gone, gone, syn_gone, told}
use Rattle.tcp_connection.specs.Segments.{is_done, settled}
use Rattle.tcp_connection.specs.Timing.{after_tick, again, due_by, due_of, is_due, is_spent}
use Rattle.tcp_connection.specs.Windows.{our_shift}
use Rattle.tcp_connection.specs.declared.Owed.{Owed}
use Rattle.tcp_connection.specs.declared.Owed.TheVariants.{Syn, SynAck, Data, Ack, Reset}
use Rattle.tcp_connection.specs.declared.Stage.{Stage}
use Rattle.tcp_connection.specs.declared.Stage.TheVariants as stage
use Rattle.world_face.specs.Journal.{Entry}
use Rattle.stream_netdev.specs.declared.Offered.{Offered}
use Rattle.stream_netdev.specs.declared.Offered.TheVariants.{Taken, Blocked, Failed}
use Rattle.spec_flow.specs.Settings.{Settings}
use Rattle.sim_halves.proofs.Timers.{wait_low}
use Rattle.spec_flow.specs.Event.{Story}
use Rattle.sim_connection.specs.Holding.{is_calls, is_at_connecting, is_live}
use Rattle.sim_connection.specs.Sending.{is_rst}
use Rattle.flow_splice.specs.Ahead.{IsAhead, IsEarly, Waits}
use Rattle.flow_splice.specs.Follows.{Follows, FollowsAt, IsOpen}
use Rattle.flow_splice.specs.Hosts.{Sees, ends}
use Rattle.flow_splice.specs.Sends.{GoesOut, Marks, went_out}
use Rattle.flow_splice.specs.Splice.{Splice, is_in_use, is_open}
use Rattle.flow_splice.specs.Wants.{resolves}
use Rattle.flow_splice.specs.declared.Place.{Place}
use Rattle.flow_splice.specs.declared.Place.TheVariants.{Empty, InUse, InTimeWait}
use Rattle.flow_splice.proofs.Shutting.{reset_dead}

abbrev Early : Option ℕ → ℕ → Type 0
Early due now = (at : ℕ) → due ≡ Some at → now < at

none_early : (due : Option ℕ) (now : ℕ) → due ≡ None → Early due now
none_early due now none at is = let not_it = sym none ∙ is in absurd cc

-- ---- a connection that is over has no timer

dead_none : (st : Stage) (c : Connection) → is_live st ≡ false → due_by st c ≡ None
dead_none stage.Connecting c is = absurd cc
dead_none stage.SynSent c is = absurd cc
dead_none stage.SynReceived c is = absurd cc
dead_none stage.Synchronized c is = absurd cc
dead_none stage.TimeWait c is = refl
dead_none (stage.Resets seq ack) c is = refl
dead_none stage.Closed c is = refl

pub dead_ahead : (c : Connection) (now : ℕ) → is_live c.stage ≡ false → IsAhead c now
dead_ahead c now dead = none_early (due_of c) now (dead_none c.stage c dead)

pub connects_ahead : (c : Connection) (now : ℕ) → is_at_connecting c.stage ≡ true → IsAhead c now
connects_ahead c now connects = none_early (due_of c) now (by c.stage connects)
  where
    by : (st : Stage) → is_at_connecting st ≡ true → due_by st c ≡ None
    by stage.Connecting is = refl
    by stage.SynSent is = absurd cc
    by stage.SynReceived is = absurd cc
    by stage.Synchronized is = absurd cc
    by stage.TimeWait is = absurd cc
    by (stage.Resets seq ack) is = absurd cc
    by stage.Closed is = absurd cc

-- ---- a tick

-- what expired is owed, and no timer runs
expired_none : (r : Resending) → is_given_up r ≡ false → resend_due (resend_expired r) ≡ None
expired_none r is =
    let next : Resending = record r { estimate = after_expiry r.estimate; timer = expired_by r.timer r.estimate.wait } in
    let same : resend_expired r ≡ next = ap (λ (b : Bool). if b then r else next) is in
    ap resend_due same ∙ by r.timer r.estimate.wait next.estimate.wait
  where
    by : (t : Timer) (w v : ℕ) → due_by_timer (expired_by t w) v ≡ None
    by timer.Off w v = refl
    by (timer.Since base) w v = refl
    by (timer.Expired at) w v = refl

pieces_none : (t : Transmission) → is_given_up t.resend ≡ false → resend_due (transmission_expired t).resend ≡ None
pieces_none t is =
    let same : transmission_expired t ≡ timed_out t = ap (λ (b : Bool). if b then t else timed_out t) is in
    ap (λ (x : Transmission). resend_due x.resend) same ∙ expired_none t.resend is

opening_due : (st : Stage) (c : Connection) → is_opening st ≡ true → resend_due c.syn ≡ None → due_by st c ≡ None
opening_due stage.Connecting c is none = refl
opening_due stage.SynSent c is none = none
opening_due stage.SynReceived c is none = none
opening_due stage.Synchronized c is none = absurd cc
opening_due stage.TimeWait c is none = absurd cc
opening_due (stage.Resets seq ack) c is none = absurd cc
opening_due stage.Closed c is none = absurd cc

other_due : (st : Stage) (c : Connection) → is_opening st ≡ false → resend_due c.transmission.resend ≡ None → due_by st c ≡ None
other_due stage.Connecting c is none = absurd cc
other_due stage.SynSent c is none = absurd cc
other_due stage.SynReceived c is none = absurd cc
other_due stage.Synchronized c is none = none
other_due stage.TimeWait c is none = refl
other_due (stage.Resets seq ack) c is none = refl
other_due stage.Closed c is none = refl

not_due : (due : Option ℕ) (now : ℕ) → is_due due now ≡ false → Early due now
not_due None now is at none = absurd cc
not_due (Some x) now is at some = let same : x ≡ at = cc in let low = after x is in omega (arith, same, low)
  where
    after : (n : ℕ) → nat_le n now ≡ false → now < n
    after n low = grind (arith, nat_tests)

pub tick_ahead : (c : Connection) (now : ℕ) → c.ack_owed ≡ false → IsAhead (after_tick c now) now
tick_ahead c now unowed = by (is_due (due_of c) now) (is_spent c) c.ack_owed refl refl refl
  where
    by_opening : (o : Bool) → is_opening c.stage ≡ o → is_given_up (if o then c.syn else c.transmission.resend) ≡ false → IsAhead
        (if o then record c { syn = resend_expired c.syn; syn_owed = true } else record c { transmission = transmission_expired c.transmission }) now
    by_opening true opening spent = none_early (due_by c.stage (record c { syn = resend_expired c.syn; syn_owed = true })) now
        (opening_due c.stage (record c { syn = resend_expired c.syn; syn_owed = true }) opening (expired_none c.syn spent))
    by_opening false opening spent = none_early (due_by c.stage (record c { transmission = transmission_expired c.transmission })) now
        (other_due c.stage (record c { transmission = transmission_expired c.transmission }) opening (pieces_none c.transmission spent))

    again_ahead : is_spent c ≡ false → IsAhead (again c) now
    again_ahead spent = by_opening (is_opening c.stage) refl spent

    by : (a b d : Bool) → is_due (due_of c) now ≡ a → is_spent c ≡ b → c.ack_owed ≡ d → IsAhead (if a then (if b then (if d then c else reset c) else again c) else c) now
    by false b d due spent owed = not_due (due_of c) now due
    by true true true due spent owed = let not_it = sym owed ∙ unowed in absurd cc
    by true true false due spent owed = dead_ahead (reset c) now (reset_dead c)
    by true false d due spent owed = again_ahead spent

-- while the guest's hardware address is asked for our SYN isn't out
pub resolving_ahead : (s : Settings) (f : Splice) (past : Story) (before now : ℕ) → IsOpen s f past before → resolves f ≡ true → IsAhead f.conn now
resolving_ahead s f past before now o resolving =
    let two = o.unsent (none_known f.mac resolving) in
    none_early (due_of f.conn) now (by f.conn.stage two.0 (unset f.conn.syn.timer f.conn.syn.estimate.wait (o.holds.gives.unset two.1)))
  where
    none_known : (mac : Option Mac) → (not (is_some mac) && nat_lt 0 f.asked) ≡ true → mac ≡ None
    none_known None is = refl
    none_known (Some m) is = absurd cc

    unset : (t : Timer) (w : ℕ) → is_off t ≡ true → due_by_timer t w ≡ None
    unset timer.Off w is = refl
    unset (timer.Since base) w is = absurd cc
    unset (timer.Expired at) w is = absurd cc

    by : (st : Stage) → is_calls st ≡ true → resend_due f.conn.syn ≡ None → due_by st f.conn ≡ None
    by stage.Connecting is none = absurd cc
    by stage.SynSent is none = none
    by stage.SynReceived is none = absurd cc
    by stage.Synchronized is none = absurd cc
    by stage.TimeWait is none = absurd cc
    by (stage.Resets seq ack) is none = absurd cc
    by stage.Closed is none = absurd cc

-- ---- what goes out

sent_early : (r : Resending) (more : Bool) (now : ℕ) → 0 < r.estimate.wait → Early (resend_due r) now → Early (resend_due (resend_sent r more now)) now
sent_early r more now some early = by more r.timer early
  where
    by : (b : Bool) (t : Timer) → Early (due_by_timer t r.estimate.wait) now → Early (due_by_timer (if b then timer.Since now else set_unless_running t now) r.estimate.wait) now
    by true t low at is = let same : now + r.estimate.wait ≡ at = cc in omega (arith, same, some)
    by false timer.Off low at is = let same : now + r.estimate.wait ≡ at = cc in omega (arith, same, some)
    by false (timer.Since base) low at is = low at is
    by false (timer.Expired x) low at is = let same : now + r.estimate.wait ≡ at = cc in omega (arith, same, some)

syn_early : (st : Stage) (c : Connection) (now : ℕ) → (is_opening st ≡ true → 0 < c.syn.estimate.wait) → Early (due_by st c) now → Early (due_by st (syn_gone c now)) now
syn_early stage.Connecting c now some low = λ at is. absurd cc
syn_early stage.SynSent c now some low = sent_early c.syn (has_gone c.sendings) now (some refl) low
syn_early stage.SynReceived c now some low = sent_early c.syn (has_gone c.sendings) now (some refl) low
syn_early stage.Synchronized c now some low = low
syn_early stage.TimeWait c now some low = λ at is. absurd cc
syn_early (stage.Resets seq ack) c now some low = λ at is. absurd cc
syn_early stage.Closed c now some low = λ at is. absurd cc

data_early : (st : Stage) (c : Connection) (p : Piece) (now : ℕ) → 0 < c.transmission.resend.estimate.wait → Early (due_by st c) now → Early (due_by st (data_gone c p now)) now
data_early stage.Connecting c p now some low = λ at is. absurd cc
data_early stage.SynSent c p now some low = low
data_early stage.SynReceived c p now some low = low
data_early stage.Synchronized c p now some low = sent_early c.transmission.resend (goes_again c.transmission p) now some low
data_early stage.TimeWait c p now some low = λ at is. absurd cc
data_early (stage.Resets seq ack) c p now some low = λ at is. absurd cc
data_early stage.Closed c p now some low = λ at is. absurd cc

told_early : (st : Stage) (c : Connection) (up : Upward) (shift now : ℕ) → Early (due_by st c) now → Early (due_by st (told c up shift)) now
told_early stage.Connecting c up shift now low = low
told_early stage.SynSent c up shift now low = low
told_early stage.SynReceived c up shift now low = low
told_early stage.Synchronized c up shift now low = low
told_early stage.TimeWait c up shift now low = low
told_early (stage.Resets seq ack) c up shift now low = low
told_early stage.Closed c up shift now low = low

steady_waits : (r : Resending) → IsSteady r → 0 < r.estimate.wait
steady_waits r steady = let low = wait_low (doublings r.timer r.resent) in let more = steady.doubled in omega (arith, low, more)

gone_early : (c : Connection) (up : Upward) (down : Downward) (now : ℕ) (what : Owed) → HasBuffers c up down → Waits c → IsAhead c now → IsAhead (gone what c up now) now
gone_early c up down now Syn buffers some low = syn_early c.stage c now some low
gone_early c up down now SynAck buffers some low = told_early c.stage (syn_gone c now) up 0 now (syn_early c.stage c now some low)
gone_early c up down now (Data p) buffers some low =
    data_early c.stage (told c up (our_shift c)) p now (steady_waits c.transmission.resend buffers.feeds.sound.steady) (told_early c.stage c up (our_shift c) now low)
gone_early c up down now Ack buffers some low = told_early c.stage c up (our_shift c) now low
gone_early c up down now (Reset seq ack) buffers some low = λ at is. absurd cc

gone_waits : (c : Connection) (up : Upward) (now : ℕ) (what : Owed) → Waits c → Waits (gone what c up now)
gone_waits c up now Syn some = some
gone_waits c up now SynAck some = some
gone_waits c up now (Data p) some = some
gone_waits c up now Ack some = some
gone_waits c up now (Reset seq ack) some = λ is. absurd cc

settled_early : (x : Connection) (now : ℕ) → IsAhead x now × Waits x → IsAhead (settled x) now × Waits (settled x)
settled_early x now two = by (is_done x) (closes_first x)
  where
    by : (b d : Bool) → IsEarly now (if b then (if d then record x { stage = stage.TimeWait } else record x { stage = stage.Closed }) else x)
    by true true = (dead_ahead (record x { stage = stage.TimeWait }) now refl, λ is. absurd cc)
    by true false = (dead_ahead (record x { stage = stage.Closed }) now refl, λ is. absurd cc)
    by false d = two

marks_conn : (o : Offered) (what : Owed) (f new : Splice) (now : ℕ) (made : List Entry) → Marks o what f new now made → (new.conn ≡ after_gone what f.conn f.up now) ⊎ (new.conn ≡ f.conn)
marks_conn Blocked what f new now made marks = inr (ap (λ (y : Splice). y.conn) marks.1)
marks_conn Failed what f new now made marks = inr (ap (λ (y : Splice). y.conn) marks.1)
marks_conn Taken what f new now made marks = inl (conn_is (is_rst what) marks)
  where
    conn_is : (b : Bool) → GoesOut b what f new now made → new.conn ≡ after_gone what f.conn f.up now
    conn_is true is = ap (λ (y : Splice). y.conn) is.1
    conn_is false is = by (ends (change_gone what f.conn f.up now)) is
      where
        by : (e : Bool) → Sees e (went_out f what now) new now made → new.conn ≡ after_gone what f.conn f.up now
        by true sees = ap (λ (y : Splice). y.conn) sees.1
        by false sees = ap (λ (y : Splice). y.conn) sees.1

pub marks_early : (o : Offered) (what : Owed) (f new : Splice) (now : ℕ) (made : List Entry) → HasBuffers f.conn f.up f.down → Marks o what f new now made →
    IsAhead f.conn now × Waits f.conn → IsAhead new.conn now × Waits new.conn
marks_early o what f new now made buffers marks two = by (marks_conn o what f new now made marks)
  where
    by : (new.conn ≡ after_gone what f.conn f.up now) ⊎ (new.conn ≡ f.conn) → IsEarly now new.conn
    by (inl is) = subst (IsEarly now) (sym is) (settled_early (gone what f.conn f.up now) now (gone_early f.conn f.up f.down now what buffers two.1 two.0, gone_waits f.conn f.up now what two.1))
    by (inr is) = subst (IsEarly now) (sym is) two

-- the timer of a SYN waits for some time, where a flow follows its story
pub follows_waits : (s : Settings) (f : Splice) (past : Story) (now : ℕ) → Follows s f past now → Waits f.conn
follows_waits s f past now h = by f.place f.shut h
  where
    dead : (st : Stage) → is_live st ≡ false → is_opening st ≡ true → 0 < f.conn.syn.estimate.wait
    dead stage.Connecting is opening = absurd cc
    dead stage.SynSent is opening = absurd cc
    dead stage.SynReceived is opening = absurd cc
    dead stage.Synchronized is opening = absurd cc
    dead stage.TimeWait is opening = absurd cc
    dead (stage.Resets seq ack) is opening = absurd cc
    dead stage.Closed is opening = absurd cc

    by : (p : Place) (b : Bool) → FollowsAt p b s f past now → Waits f.conn
    by Empty b q = dead f.conn.stage q.over.over
    by InUse true q = dead f.conn.stage q.over.over
    by InUse false q = λ opening. steady_waits f.conn.syn q.holds.gives.steady
    by (InTimeWait since) b q = dead f.conn.stage q.time_waits.over.over

-- a flow whose socket is closed has no timer
pub shut_ahead : (s : Settings) (f : Splice) (past : Story) (before now : ℕ) → Follows s f past before → is_open f ≡ false → IsAhead f.conn now
shut_ahead s f past before now h shut = by f.place f.shut shut h
  where
    by : (p : Place) (b : Bool) → (is_in_use p && not b) ≡ false → FollowsAt p b s f past before → IsAhead f.conn now
    by Empty b is q = dead_ahead f.conn now q.over.over
    by InUse true is q = dead_ahead f.conn now q.over.over
    by InUse false is q = absurd cc
    by (InTimeWait since) b is q = dead_ahead f.conn now q.time_waits.over.over
