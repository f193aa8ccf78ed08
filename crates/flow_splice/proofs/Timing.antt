-- Time passes: what was awaited too long, and timers.
use Rattle.std.proofs.Common.{◌||◌, refl, ◌≡◌, ℕ, ◌+◌, ◌<◌, ◌≤◌, [], ◌∷◌, List, Bool, true, false, not, ◌&&◌, Option, None, Some, is_some, if◌then◌else◌, nat_eq, nat_le, nat_lt, IsTrue, arith}
use Rattle.std.proofs.Common.{ap, subst, sym, ◌∙◌}
use Rattle.std.proofs.lemmas.Bool.Decides.{nat_tests}
use Rattle.retransmit.specs.Resending.{after_expired as resend_expired, due_of as resend_due, is_given_up}
use Rattle.net_octets.specs.declared.Mac.{Mac}
use Rattle.tcp_transmit.specs.Timing.{after_expired as transmission_expired}
use Rattle.sim_halves.specs.Resends.{Resolves}
use Rattle.tcp_connection.specs.Connection.{Connection, HasBuffers, has_gone, is_opening}
use Rattle.tcp_connection.specs.Hosts.{reset}
use Rattle.tcp_connection.specs.Segments.{is_done}
use Rattle.tcp_connection.specs.Timing.{after_tick, again, change_at_tick, due_by, due_of as conn_due, is_due, is_spent}
use Rattle.tcp_connection.specs.declared.Change.TheVariants.{Nothing, Finished}
use Rattle.tcp_connection.specs.declared.Stage.{Stage}
use Rattle.tcp_connection.specs.declared.Stage.TheVariants as stage
use Rattle.world_face.specs.Journal.{Close, Entry}
use Rattle.spec_flow.specs.Settings.{Settings}
use Rattle.spec_flow.specs.Lawful.{HasOwnCause}
use Rattle.spec_flow.specs.Event.{At, Closes, Story}
use Rattle.spec_flow.specs.Flow.{is_accepted, is_connecting, opened_at, syn_is_out}
use Rattle.spec_flow.specs.Close.{connects_too_long, finds_no_guest, follows_reset, gives_up, is_deserted as is_deserted_by, patience_end as patience_by, waits_too_long}
use Rattle.sim_halves.proofs.InTime.{not_found}
use Rattle.sim_connection.specs.Holding.{Holds, is_calls, is_at_connecting, is_live}
use Rattle.sim_connection.proofs.Causes.{gives_up_closes, late_cause, late_closes, unfound_cause, unfound_closes}
use Rattle.sim_connection.proofs.Ticking.{piece_expires, piece_spent, syn_expires, syn_spent}
use Rattle.flow_splice.specs.Entries.{AreEvents}
use Rattle.flow_splice.specs.Follows.{Follows, IsAsking, IsOpen}
use Rattle.flow_splice.specs.Hosts.{Sees, ends}
use Rattle.flow_splice.specs.Serves.{GoesOnYet, Serves, TicksOn}
use Rattle.flow_splice.specs.Splice.{Splice, closed, is_open}
use Rattle.flow_splice.specs.Wants.{asks_after, connect_end, is_deserted, patience_end, resolves}
use Rattle.sim_connection.proofs.Deserting.{deserted_is}
use Rattle.flow_splice.proofs.Calm.{calm_either}
use Rattle.flow_splice.proofs.Deserted.{deserted_parts}
use Rattle.flow_splice.proofs.Opened.{open_follows, open_is, open_later}
use Rattle.flow_splice.proofs.Shutting.{reset_dead, reset_follows, shut_is}

late_test : (m n : ℕ) → m ≤ n → nat_le m n ≡ true
late_test m n low = grind (arith, nat_tests)

connects_opening : (st : Stage) → is_at_connecting st ≡ true → is_opening st ≡ true
connects_opening stage.Connecting is = refl
connects_opening stage.SynSent is = absurd cc
connects_opening stage.SynReceived is = absurd cc
connects_opening stage.Synchronized is = absurd cc
connects_opening stage.TimeWait is = absurd cc
connects_opening (stage.Resets seq ack) is = absurd cc
connects_opening stage.Closed is = absurd cc

module _ (f : Splice) (now : ℕ) (open_yet : is_open f ≡ true) where
  or_true : (b : Bool) → (b || true) ≡ true
  or_true true = refl
  or_true false = refl

  or_left : (a b : Bool) → a ≡ true → (a || b) ≡ true
  or_left true b is = refl
  or_left false b is = cc

  or_right : (a b : Bool) → b ≡ true → (a || b) ≡ true
  or_right true b is = refl
  or_right false b is = is

  both : (a b : Bool) → a ≡ true → b ≡ true → (a && b) ≡ true
  both a b a_is b_is = rw (a_is, b_is) refl

  -- what is closed with a reset
  shut_by : (s : Settings) (past : Story) (before ident : ℕ) (directly known : Bool) → IsOpen s f past before → HasOwnCause directly false known now past
      → Follows s (closed (record f { conn = reset f.conn }) now) (At now (Closes directly false known) ∷ past) now → Serves s
      (closed (record f { conn = reset f.conn }) now) directly false known ident now past (Close f.face.number ∷ [])
  shut_by s past before ident directly known o cause h = record { beats = At now (Closes directly false known) ∷ []; are = ([], refl, (refl, refl, cause)); follows = h }

  -- the socket didn't connect
  pub host_late : is_at_connecting f.conn.stage ≡ true → connect_end f ≤ now → GoesOnYet f (closed (record f { conn = reset f.conn }) now) now (Close f.face.number ∷ [])
  host_late connects over s past before ident directly known on h =
      let o = open_is s f past before open_yet h in
      let late : waits_too_long now past ≡ true = or_left (connects_too_long now past) (is_deserted_by past && nat_le (patience_by past) now)
      (both (is_connecting past) (nat_le (opened_at past + 75000) now) (o.holds.opened.connects ∙ connects)
      (late_test (opened_at past + 75000) now (let since = o.since in omega (arith, since, over)))) in
      let calm = calm_either past directly (o.calm (o.holds.opened.quiet connects)) in
      shut_by s past before ident directly known o (late_cause s f.conn f.up f.down past before now on o.holds known directly calm (rw late (or_true (gives_up now past))))
      (reset_follows s f past past before now directly false known o refl (late_closes s f.conn f.up f.down past before now on o.holds known directly calm
      (connects_opening f.conn.stage connects) late))

  -- its peer is gone, and its guest had time to answer
  pub guest_late : is_deserted f ≡ true → patience_end f ≤ now → GoesOnYet f (closed (record f { conn = reset f.conn }) now) now (Close f.face.number ∷ [])
  guest_late deserted over s past before ident directly known on h =
      let o = open_is s f past before open_yet h in
      let parts = deserted_parts f deserted in
      let is : is_deserted_by past ≡ true = deserted_is s f.conn f.up f.down past before o.holds (o.accepted ∙ parts.accepted) parts.opening parts.ended parts.unread parts.unowed in
      let late : waits_too_long now past ≡ true = or_right (connects_too_long now past) (is_deserted_by past && nat_le (patience_by past) now)
      (both (is_deserted_by past) (nat_le (patience_by past) now) is
      (late_test (patience_by past) now (let since = o.since in let called = o.called in omega (arith, since, called, over)))) in
      let calm = calm_either past directly (o.calm parts.unowed) in
      shut_by s past before ident directly known o (late_cause s f.conn f.up f.down past before now on o.holds known directly calm (rw late (or_true (gives_up now past))))
      (reset_follows s f past past before now directly false known o refl (late_closes s f.conn f.up f.down past before now on o.holds known directly calm parts.opening late))

  pub left_late : (is_deserted f && nat_le (patience_end f) now) ≡ true → GoesOnYet f (closed (record f { conn = reset f.conn }) now) now (Close f.face.number ∷ [])
  left_late left = by (is_deserted f) (nat_le (patience_end f) now) refl refl left
    where
      over : (n : ℕ) → nat_le n now ≡ true → n ≤ now
      over n is = grind (arith, nat_tests)

      by : (a b : Bool) → is_deserted f ≡ a → nat_le (patience_end f) now ≡ b → (a && b) ≡ true → GoesOnYet f (closed (record f { conn = reset f.conn }) now) now (Close f.face.number ∷ [])
      by true true is late so = guest_late is (over (patience_end f) late)
      by true false is late so = absurd cc
      by false b is late so = absurd cc

  -- the guest wasn't found
  pub guest_missing : resolves f ≡ true → (nat_eq f.asked 9 && nat_le f.ask_at now) ≡ true → TicksOn f (closed (record f { conn = reset f.conn }) now) now (Close f.face.number ∷ [])
  guest_missing resolving enough s past before ident directly known on unknown h =
      let o = open_is s f past before open_yet h in
      let none = none_known f.mac resolving in
      let two = o.unsent none in
      let many = enough_is f.asked f.ask_at enough in
      let accepted : is_accepted past ≡ true = o.holds.opened.calls two.0 in
      let silent : syn_is_out past ≡ false = o.holds.opened.out ∙ two.1 in
      let missing : IsTrue (finds_no_guest known now past) = subst (λ (b : Bool). IsTrue (finds_no_guest b now past)) (sym (unknown none))
      (not_found past f.ask_at now (subst (λ (n : ℕ). Resolves past n f.ask_at) many.0 (o.resolves none (let is = many.0 in omega (arith, is)))) many.1 accepted silent) in
      shut_by s past before ident directly known o (unfound_cause s f.conn f.up f.down past before now on o.holds known directly missing)
      (reset_follows s f past past before now directly false known o refl
      (unfound_closes s f.conn f.up f.down past before now on o.holds known directly missing (rw (accepted, silent) refl)))
    where
      none_known : (mac : Option Mac) → (not (is_some mac) && nat_lt 0 f.asked) ≡ true → mac ≡ None
      none_known None is = refl
      none_known (Some m) is = absurd cc

      enough_is : (n at : ℕ) → (nat_eq n 9 && nat_le at now) ≡ true → (n ≡ 9) × (at ≤ now)
      enough_is n at is = (grind (arith, nat_tests), grind (arith, nat_tests))

  -- once the wait for an answer is over, a request is owed
  pub asks_on : (nat_eq f.asked 9 && nat_le f.ask_at now) ≡ false → f.asked ≤ 9 → TicksOn f (asks_after f now) now []
  asks_on short few s past before ident directly known on unknown h =
      let o = open_later s f past before now on (open_is s f past before open_yet h) in
      record {
        beats = [];
        are = refl;
        follows = open_follows s (asks_after f now) past now open_yet (record {
          holds = o.holds;
          mru = o.mru;
          since = o.since;
          accepted = o.accepted;
          last = o.last;
          called = o.called;
          told = o.told;
          unfinished = o.unfinished;
          unsent = o.unsent;
          resolves = o.resolves;
          asks = λ none. asking f.asks (nat_le f.ask_at now) refl (o.asks none);
          calm = o.calm;
        });
      }
    where
      is_nine : (n : ℕ) → n ≡ 9 → nat_eq n 9 ≡ true
      is_nine n is = grind (arith, nat_tests)

      apart : (a b : Bool) → (a && b) ≡ false → b ≡ true → a ≡ true → ⊥
      apart true b missed due many = let not_it = sym due ∙ missed in cc
      apart false b missed due many = cc

      less : (n : ℕ) → n ≤ 9 → (n ≡ 9 → ⊥) → n < 9
      less n low other = omega (arith, low, other)

      late : (at : ℕ) → nat_le at now ≡ true → at ≤ now
      late at is = grind (arith, nat_tests)

      asking : (a b : Bool) → nat_le f.ask_at now ≡ b → IsAsking a f.asked f.ask_at now → IsAsking (a || b) f.asked f.ask_at now
      asking true b is asks = asks
      asking false true is asks = (less f.asked few (λ nine. apart (nat_eq f.asked 9) (nat_le f.ask_at now) short is (is_nine f.asked nine)), λ some. late f.ask_at is)
      asking false false is asks = asks

  -- ---- the connection's timer

  -- what is over is reset
  pub tick_dead : ends (change_at_tick f.conn now) ≡ true → is_live (after_tick f.conn now).stage ≡ false
  tick_dead is = by (is_due (conn_due f.conn) now) (is_spent f.conn) f.conn.ack_owed is
    where
      by : (a b d : Bool) → ends (if a then (if b then (if d then Nothing else Finished) else Nothing) else Nothing) ≡ true
          → is_live (if a then (if b then (if d then f.conn else reset f.conn) else again f.conn) else f.conn).stage ≡ false
      by true true true is = absurd cc
      by true true false is = reset_dead f.conn
      by true false d is = absurd cc
      by false b d is = absurd cc

  module _ (buffers : HasBuffers (after_tick f.conn now) f.up f.down) (e : Bool) (ends_is : ends (change_at_tick f.conn now) ≡ e) (new : Splice) (made : List Entry)
      (sees : Sees e (record f { conn = after_tick f.conn now }) new now made) where
    module _ (s : Settings) (past : Story) (before ident : ℕ) (directly known : Bool) (on : before ≤ now) (o : IsOpen s f past before) where
      later : IsOpen s f past now
      later = open_later s f past before now on o

      abbrev Result : Type 0
      Result = Serves s new directly false known ident now past made

      -- it goes on with this connection
      stays : (x : Connection) → after_tick f.conn now ≡ x → ends (change_at_tick f.conn now) ≡ false → Holds s x f.up f.down past now → is_done x ≡ false
          → (f.mac ≡ None → (is_calls x.stage ≡ true) × (has_gone x.sendings ≡ false)) → (x.ack_owed ≡ false → follows_reset true past ≡ false) → Result
      stays x is none h unfinished unsent calm = by e ends_is sees
        where
          by : (b : Bool) → ends (change_at_tick f.conn now) ≡ b → Sees b (record f { conn = after_tick f.conn now }) new now made → Result
          by true ends_now saw = let not_it = sym none ∙ ends_now in absurd cc
          by false ends_now saw = record {
            beats = [];
            are = subst (λ (es : List Entry). AreEvents s new.face new.mac directly false known ident now past es []) (sym saw.0) refl;
            follows = subst (λ (g : Splice). Follows s g past now) (sym saw.1)
                (subst (λ (c : Connection). Follows s (record f { conn = c }) past now) (sym is)
                (open_follows s (record f { conn = x }) past now open_yet
                (record { holds = h; mru = o.mru; since = o.since; accepted = o.accepted; last = o.last; called = o.called; told = o.told; unfinished = unfinished; unsent = unsent; resolves = later.resolves; asks = later.asks; calm = calm })));
          }

      -- it is given up, while no acknowledgement is owed
      given_up : after_tick f.conn now ≡ reset f.conn → ends (change_at_tick f.conn now) ≡ true → IsTrue (gives_up now past) → f.conn.ack_owed ≡ false → Result
      given_up is over cause unowed = by e ends_is sees
        where
          calm : follows_reset directly past ≡ false
          calm = calm_either past directly (o.calm unowed)

          by : (b : Bool) → ends (change_at_tick f.conn now) ≡ b → Sees b (record f { conn = after_tick f.conn now }) new now made → Result
          by true ends_now saw = record {
            beats = At now (Closes directly false known) ∷ [];
            are = subst (λ (es : List Entry). AreEvents s new.face new.mac directly false known ident now past es (At now (Closes directly false known) ∷ [])) (sym saw.0)
                (subst (λ (g : Splice). AreEvents s g.face g.mac directly false known ident now past (Close f.face.number ∷ []) (At now (Closes directly false known) ∷ []))
                (sym saw.1) (
                  [],
                  refl,
                  (
                    refl,
                    refl,
                    late_cause s f.conn f.up f.down past before now on o.holds known directly calm
                        (or_left (gives_up now past) (waits_too_long now past) cause),
                  ),
                ));
            follows = subst (λ (g : Splice). Follows s g (At now (Closes directly false known) ∷ past) now) (sym saw.1)
                (subst (λ (c : Connection). Follows s (closed (record f { conn = c }) now) (At now (Closes directly false known) ∷ past) now) (sym is)
                (reset_follows s f past past before now directly false known o refl (gives_up_closes s f.conn f.up f.down past before now on o.holds known directly calm cause)));
          }
          by false ends_now saw = let not_it = sym over ∙ ends_now in absurd cc

      -- by whether it is due, given up, and owes an acknowledgement
      tick_is : (a b d : Bool) → is_due (conn_due f.conn) now ≡ a → is_spent f.conn ≡ b → f.conn.ack_owed ≡ d
          → (after_tick f.conn now ≡ (if a then (if b then (if d then f.conn else reset f.conn) else again f.conn) else f.conn))
          × (change_at_tick f.conn now ≡ (if a then (if b then (if d then Nothing else Finished) else Nothing) else Nothing))
      tick_is a b d a_is b_is d_is = (rw (a_is, b_is, d_is) refl, rw (a_is, b_is, d_is) refl)

      due_at : (o : Option ℕ) → is_due o now ≡ true → (at : ℕ) × (o ≡ Some at) × (at ≤ now)
      due_at None is = absurd cc
      due_at (Some at) is = (at, refl, grind (arith, nat_tests))

      -- the stage tells whose timer it is
      syn_due : (st : Stage) (at : ℕ) → f.conn.stage ≡ st → is_opening st ≡ true → due_by st f.conn ≡ Some at → resend_due f.conn.syn ≡ Some at
      syn_due stage.Connecting at is opening due = absurd cc
      syn_due stage.SynSent at is opening due = due
      syn_due stage.SynReceived at is opening due = due
      syn_due stage.Synchronized at is opening due = absurd cc
      syn_due stage.TimeWait at is opening due = absurd cc
      syn_due (stage.Resets seq ack) at is opening due = absurd cc
      syn_due stage.Closed at is opening due = absurd cc

      piece_due : (st : Stage) (at : ℕ) → f.conn.stage ≡ st → is_opening st ≡ false → due_by st f.conn ≡ Some at → resend_due f.conn.transmission.resend ≡ Some at
      piece_due stage.Connecting at is opening due = absurd cc
      piece_due stage.SynSent at is opening due = absurd cc
      piece_due stage.SynReceived at is opening due = absurd cc
      piece_due stage.Synchronized at is opening due = due
      piece_due stage.TimeWait at is opening due = absurd cc
      piece_due (stage.Resets seq ack) at is opening due = absurd cc
      piece_due stage.Closed at is opening due = absurd cc

      spent_is : (a : Bool) → is_opening f.conn.stage ≡ a → is_spent f.conn ≡ is_given_up (if a then f.conn.syn else f.conn.transmission.resend)
      spent_is a is = ap (λ (q : Bool). is_given_up (if q then f.conn.syn else f.conn.transmission.resend)) is

      again_is : (a : Bool) → is_opening f.conn.stage ≡ a
          → again f.conn ≡ (if a then record f.conn { syn = resend_expired f.conn.syn; syn_owed = true } else record f.conn { transmission = transmission_expired f.conn.transmission })
      again_is a is = ap (λ (q : Bool). if q then record f.conn { syn = resend_expired f.conn.syn; syn_owed = true } else record f.conn { transmission = transmission_expired f.conn.transmission }) is

      has : (x : Connection) → after_tick f.conn now ≡ x → HasBuffers x f.up f.down
      has x is = subst (λ (c : Connection). HasBuffers c f.up f.down) is buffers

      by_opening : (a : Bool) → is_opening f.conn.stage ≡ a → is_due (conn_due f.conn) now ≡ true → (b d : Bool) → is_spent f.conn ≡ b → f.conn.ack_owed ≡ d → Result
      by_opening a opening due true true spent owed =
          let two = tick_is true true true due spent owed in
          stays f.conn two.0 (ap ends two.1) later.holds o.unfinished o.unsent o.calm
      by_opening true opening due true false spent owed =
          let two = tick_is true true false due spent owed in
          let at = due_at (conn_due f.conn) due in
          given_up two.0 (ap ends two.1) (syn_spent s f.conn f.up f.down past now later.holds at.0 at.2 opening (syn_due f.conn.stage at.0 refl opening at.1)
          (sym (spent_is true opening) ∙ spent)) owed
      by_opening false opening due true false spent owed =
          let two = tick_is true true false due spent owed in
          let at = due_at (conn_due f.conn) due in
          given_up two.0 (ap ends two.1) (piece_spent s f.conn f.up f.down past now later.holds at.0 at.2 opening (piece_due f.conn.stage at.0 refl opening at.1)
          (sym (spent_is false opening) ∙ spent)) owed
      by_opening true opening due false d spent owed =
          let two = tick_is true false d due spent owed in
          let x : Connection = record f.conn { syn = resend_expired f.conn.syn; syn_owed = true } in
          let is : after_tick f.conn now ≡ x = two.0 ∙ again_is true opening in
          let at = due_at (conn_due f.conn) due in
          stays x is (ap ends two.1) (syn_expires s f.conn f.up f.down past now later.holds at.0 at.2 opening (syn_due f.conn.stage at.0 refl opening at.1)
          (sym (spent_is true opening) ∙ spent) (has x is)) o.unfinished o.unsent o.calm
      by_opening false opening due false d spent owed =
          let two = tick_is true false d due spent owed in
          let x : Connection = record f.conn { transmission = transmission_expired f.conn.transmission } in
          let is : after_tick f.conn now ≡ x = two.0 ∙ again_is false opening in
          let at = due_at (conn_due f.conn) due in
          stays x is (ap ends two.1) (piece_expires s f.conn f.up f.down past now later.holds at.0 at.2 opening (piece_due f.conn.stage at.0 refl opening at.1)
          (sym (spent_is false opening) ∙ spent) (has x is)) o.unfinished o.unsent o.calm

      by_due : (a : Bool) → is_due (conn_due f.conn) now ≡ a → Result
      by_due true due = by_opening (is_opening f.conn.stage) refl due (is_spent f.conn) f.conn.ack_owed refl refl
      by_due false due =
          let two = tick_is false (is_spent f.conn) f.conn.ack_owed due refl refl in
          stays f.conn two.0 (ap ends two.1) later.holds o.unfinished o.unsent o.calm

    pub ticks : GoesOnYet f new now made
    ticks s past before ident directly known on h = by_due s past before ident directly known on (open_is s f past before open_yet h) (is_due (conn_due f.conn) now) refl

-- a connection that isn't over keeps its stage
pub tick_stage : (c : Connection) (now : ℕ) → ends (change_at_tick c now) ≡ false → (after_tick c now).stage ≡ c.stage
tick_stage c now is = by (is_due (conn_due c) now) (is_spent c) c.ack_owed (is_opening c.stage) is
  where
    by : (a b d e : Bool) → ends (if a then (if b then (if d then Nothing else Finished) else Nothing) else Nothing) ≡ false
        → (if a then (if b then (if d then c else reset c) else (if e then record c {
          syn = resend_expired c.syn;
          syn_owed = true;
        } else record c { transmission = transmission_expired c.transmission })) else c).stage ≡ c.stage
    by true true true e is = refl
    by true true false e is = absurd cc
    by true false d true is = refl
    by true false d false is = refl
    by false b d e is = refl

pub sees_stage : (b : Bool) (f new : Splice) (now : ℕ) (made : List Entry) → ends (change_at_tick f.conn now) ≡ b → Sees b
    (record f { conn = after_tick f.conn now }) new now made → is_open new ≡ true → new.conn.stage ≡ f.conn.stage
sees_stage true f new now made is sees yet = absurd (shut_is (record f { conn = after_tick f.conn now }) now (ap is_open (sym sees.1) ∙ yet))
sees_stage false f new now made is sees yet = ap (λ (x : Splice). x.conn.stage) sees.1 ∙ tick_stage f.conn now is
