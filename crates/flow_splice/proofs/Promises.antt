-- What follows where a flow follows its story.
use Rattle.std.proofs.Common.{refl, ◌≡◌, ℕ, ◌+◌, ◌-◌, ◌<◌, ◌≤◌, [], ◌++◌, List, length, Bool, true, false, not, ◌&&◌, ◌||◌, Option, None, Some, is_some, nat_lt, IsTrue, if◌then◌else◌, max, arith, ap, nat_le}
use Rattle.std.proofs.Common.{subst, sym, ◌∙◌, inl, inr, ◌⊎◌}
use Rattle.std.proofs.lemmas.Bool.Decides.{nat_tests}
use Rattle.net_octets.specs.declared.Mac.{Mac}
use Rattle.retransmit.specs.Resending.{due_by as due_by_timer, is_off}
use Rattle.retransmit.specs.declared.Timer.{Timer}
use Rattle.retransmit.specs.declared.Timer.TheVariants as timer
use Rattle.tcp_connection.specs.Connection.{Connection, has_gone, is_opening, is_synchronized}
use Rattle.tcp_connection.specs.Hosts.{is_open as is_host_open}
use Rattle.tcp_connection.specs.Owing.{ack_if, owed_by, owed_of}
use Rattle.tcp_connection.specs.Timing.{due_by}
use Rattle.tcp_connection.specs.declared.Owed.TheVariants.{Syn, SynAck}
use Rattle.tcp_connection.specs.declared.Stage.{Stage}
use Rattle.tcp_connection.specs.declared.Stage.TheVariants as stage
use Rattle.spec_flow.specs.Settings.{Settings}
use Rattle.spec_flow.specs.Event.{Story}
use Rattle.spec_flow.specs.Guest.{Conforming, IsAcknowledged, Up, ackd, front, has_ended, written}
use Rattle.spec_flow.specs.Host.{answered, got, got_end, acked}
use Rattle.spec_flow.specs.Flow.{guest, has_connected, host, is_accepted, is_closed, is_connecting, opened_at}
use Rattle.spec_flow.specs.Close.{host_was_ended, is_deserted as is_deserted_by, last_at, patience_end as patience_by, is_in_use as is_in_use_by_law, our_fin_is_acked, fin_was_acknowledged, owes_reset, in_time_wait_since}
use Rattle.spec_flow.specs.Lawful.{IsLawful, IsPrefixOf, is_prompted}
use Rattle.spec_flow.specs.Dutiful.{AreAhead, IsDutiful, MayWait, MayWaitToWrite, fin_is_answered, moment_if, must_wait_to_write, oldest_unheard, waits_to_read}
use Rattle.sim_halves.specs.Settled.{IsSettledIf}
use Rattle.sim_halves.proofs.Waiting.{settled_if}
use Rattle.sim_halves.proofs.Moments.{both_ahead}
use Rattle.sim_halves.proofs.Wanting.{acknowledged_few, begins_front}
use Rattle.sim_connection.specs.Holding.{Holds, is_calls, is_at_connecting, is_live}
use Rattle.sim_connection.specs.Over.{is_resets}
use Rattle.sim_connection.specs.Seen.{part_of}
use Rattle.sim_connection.proofs.Resolving.{resolving_settled}
use Rattle.sim_connection.proofs.Settling.{opening_settled, synchronized_settled}
use Rattle.sim_connection.proofs.Wanting.{may_wait, may_write as may_write_by, must_write, patient_ahead, reads_where_room}
use Rattle.flow_splice.specs.Ahead.{IsAhead, IsTimely}
use Rattle.flow_splice.specs.Follows.{Follows, FollowsAt, IsOpen}
use Rattle.flow_splice.specs.Sends.{IsClear, IsClearBy, takes_part_at}
use Rattle.flow_splice.specs.Splice.{Splice, is_in_time_wait, is_in_use, is_open}
use Rattle.flow_splice.specs.Wants.{HasTime, may_read, may_write, reads, resolves, writes}
use Rattle.flow_splice.proofs.Bounds.{waits_yet}
use Rattle.flow_splice.proofs.Restless.{open_none, owing_none}
use Rattle.flow_splice.proofs.Deserted.{closed_deserts, has_time}
use Rattle.flow_splice.proofs.Stages.{calls_opens, if_none, in_use, no_connecting, resends_none, takes}
use Rattle.flow_splice.specs.declared.Place.{Place}
use Rattle.flow_splice.specs.declared.Place.TheVariants.{Empty, InUse, InTimeWait}
use Rattle.sim_connection.proofs.Unanswered.{few_calls}

-- ---- what was done

pub lawful_is : (s : Settings) (f : Splice) (past : Story) (now : ℕ) → Follows s f past now → IsLawful s past × IsDutiful s past
lawful_is s f past now h = by f.place f.shut h
  where
    by : (p : Place) (b : Bool) → FollowsAt p b s f past now → IsLawful s past × IsDutiful s past
    by Empty b q = (q.over.runs.lawful, q.over.runs.dutiful)
    by InUse true q = (q.over.runs.lawful, q.over.runs.dutiful)
    by InUse false q = (q.holds.goes.lawful, q.holds.goes.dutiful)
    by (InTimeWait since) b q = (q.time_waits.over.runs.lawful, q.time_waits.over.runs.dutiful)

-- ---- its place

pub place_is : (s : Settings) (f : Splice) (past : Story) (now : ℕ) → Follows s f past now → is_in_use f.place ≡ is_in_use_by_law past
place_is s f past now h = by f.place f.shut h
  where
    shut : (a b d : Bool) → a ≡ true → b ≡ d → d ≡ (not a || b)
    shut true b d a_is is = sym is
    shut false b d a_is is = absurd cc

    by : (p : Place) (b : Bool) → FollowsAt p b s f past now → is_in_use p ≡ (not (is_closed past) || owes_reset past)
    by Empty b q = shut (is_closed past) (owes_reset past) false q.over.closed (q.over.owes ∙ q.owes_none)
    by InUse true q = shut (is_closed past) (owes_reset past) true q.over.closed (q.over.owes ∙ q.owes)
    by InUse false q = sym (ap (λ (e : Bool). not e || owes_reset past) q.holds.goes.open_yet)
    by (InTimeWait since) b q = shut (is_closed past) (owes_reset past) false q.time_waits.over.closed (q.time_waits.over.owes ∙ ap is_resets q.time_waits.at)

pub rest_is : (s : Settings) (f : Splice) (past : Story) (now since : ℕ) → Follows s f past now → f.place ≡ InTimeWait since → in_time_wait_since past ≡ Some since
rest_is s f past now since h at = (subst (λ (p : Place). FollowsAt p f.shut s f past now) at h).time_waits.begun

pub rest_none : (s : Settings) (f : Splice) (past : Story) (now : ℕ) → Follows s f past now → is_in_time_wait f.place ≡ false → in_time_wait_since past ≡ None
rest_none s f past now h awake = by f.place f.shut h awake
  where
    by : (p : Place) (b : Bool) → FollowsAt p b s f past now → is_in_time_wait p ≡ false → in_time_wait_since past ≡ None
    by Empty b q calm = q.rests_none
    by InUse true q calm = owing_none past (q.over.owes ∙ q.owes)
    by InUse false q calm = open_none past q.holds.goes.open_yet
    by (InTimeWait since) b q calm = absurd cc

-- ---- what is held

held_reached : (s : Settings) (f : Splice) (past : Story) (now : ℕ) → IsOpen s f past now → is_calls f.conn.stage ≡ true → (guest past ≡ []) × (f.up.held ≡ [])
held_reached s f past now o calls = let a = o.holds.awaits calls in (a.guest, a.held)

module _ (s : Settings) (f : Splice) (past : Story) (now : ℕ) (o : IsOpen s f past now) (conforming : Conforming (guest past)) where
  pub held_begins : IsPrefixOf (written (guest past) ++ f.up.held) (front (guest past))
  held_begins = by (is_calls f.conn.stage) refl
    where
      by : (b : Bool) → is_calls f.conn.stage ≡ b → IsPrefixOf (written (guest past) ++ f.up.held) (front (guest past))
      by true calls = let two = held_reached s f past now o calls in subst (λ (g : List Up). IsPrefixOf (written g ++ f.up.held) (front g)) (sym two.0)
          (subst (λ (xs : List ℕ). IsPrefixOf ([] ++ xs) []) (sym two.1) ([], refl))
      by false reached = begins_front s.ring (guest past) (part_of f.conn f.up) (o.holds.receives reached).follows conforming

  pub held_all : (a : ℕ) → IsAcknowledged (guest past) a → a ≤ length (written (guest past)) + length f.up.held
  held_all a acknowledged = by (is_calls f.conn.stage) refl
    where
      none : (g : List Up) → g ≡ [] → IsAcknowledged g a → a ≤ 0
      none g is got = by_none (subst (λ (x : List Up). IsAcknowledged x a) is got)
        where
          by_none : IsAcknowledged [] a → a ≤ 0
          by_none (inl two) = let same = two.0 in omega (arith, same)
          by_none (inr two) = absurd two.0

      by : (b : Bool) → is_calls f.conn.stage ≡ b → a ≤ length (written (guest past)) + length f.up.held
      by true calls = let low = none (guest past) (held_reached s f past now o calls).0 acknowledged in omega (arith, low)
      by false reached = acknowledged_few s.ring (guest past) (part_of f.conn f.up) (o.holds.receives reached).follows conforming a acknowledged

-- ---- at a wait, once the socket was closed

closed_not : (a b : Bool) → b ≡ true → IsTrue (a && not b) → ⊥
closed_not true b is so = let not_it = sym (ap not is) ∙ so in absurd cc
closed_not false b is so = absurd cc

closed_last : (a b d : Bool) → d ≡ true → IsTrue (a && b && not d) → ⊥
closed_last true b d is so = closed_not b d is so
closed_last false b d is so = absurd cc

module _ (in_time : Type 0) (s : Settings) (past : Story) (now : ℕ) (known time_waits : Bool) (shut : is_closed past ≡ true) (none : owes_reset past ≡ false)
    (answers : IsTrue time_waits → IsTrue (fin_is_answered past)) where
  pub closed_settled : IsSettledIf in_time s past known time_waits now
  closed_settled = record {
    sends = record {
      reset = none;
      syn_ack = λ is. absurd (closed_not (has_connected past) (is_closed past) shut is);
      syn = λ is. absurd (closed_not (is_accepted past) (is_closed past) shut is);
      octets = λ is. absurd (closed_not (answered (host past)) (is_closed past) shut is);
    };
    acknowledges = record {
      opening = λ is. absurd (closed_last (is_accepted past) _ (is_closed past) shut is);
      each = λ is. let not_it = sym shut ∙ is in absurd cc;
      all = λ is. let not_it = sym shut ∙ is in absurd cc;
      in_time_wait = answers;
    };
    window = λ conforming is. absurd (closed_not (answered (host past)) (is_closed past) shut is);
    resends = λ early. subst (λ ms. AreAhead now ms) (sym (resends_none past shut)) tt;
  }

-- ---- at a wait, while it is open

off_none : (tm : Timer) (w : ℕ) → is_off tm ≡ true → (at : ℕ) → due_by_timer tm w ≡ Some at → ⊥
off_none timer.Off w is at due = cc
off_none (timer.Since base) w is at due = cc
off_none (timer.Expired base) w is at due = cc

module _ (s : Settings) (f : Splice) (past : Story) (now : ℕ) (known : Bool) (o : IsOpen s f past now) where
  abbrev c : Connection
  c = f.conn

  h : Holds s f.conn f.up f.down past now
  h = o.holds

  went : (b : Bool) → has_gone c.sendings ≡ b → is_at_connecting c.stage ≡ false → is_opening c.stage ≡ true → c.syn_owed ≡ false → has_gone c.sendings ≡ true
  went true is apart opening none = is
  went false is apart opening none = let not_it = sym (h.opened.owes apart opening is) ∙ none in absurd cc

  known_settled : owed_of c f.up f.down ≡ None → IsSettledIf (IsAhead f.conn now) s past known false now
  known_settled nothing = by c.stage refl h.opened.live
    where
      by : (st : Stage) → c.stage ≡ st → is_live st ≡ true → IsSettledIf (IsAhead f.conn now) s past known false now
      by stage.Connecting at live =
          let unsent = h.opened.unsent (ap (λ (q : Stage). is_at_connecting q) at) in
          opening_settled s c f.up f.down past now h nothing known (ap (λ (q : Stage). is_opening q) at) (h.opened.quiet (ap (λ (q : Stage). is_at_connecting q) at))
          (λ is. let not_it = sym is ∙ ap (λ (q : Stage). is_at_connecting q) at in absurd cc) (λ is. let not_it = sym is ∙ unsent in absurd cc)
          (λ early d is. absurd (off_none c.syn.timer c.syn.estimate.wait (h.gives.unset unsent) d is))
      by stage.SynSent at live =
          let calls = ap (λ (q : Stage). is_calls q) at in
          let opening = ap (λ (q : Stage). is_opening q) at in
          let no_syn = if_none c.syn_owed Syn (sym (ap (λ (q : Stage). owed_by q c f.up f.down) at) ∙ nothing) in
          opening_settled s c f.up f.down past now h nothing known opening (h.awaits calls).ack_owed (λ is. went (has_gone c.sendings) refl is opening no_syn) (λ is. no_syn)
          (λ early d is. early d (ap (λ (q : Stage). due_by q c) at ∙ is))
      by stage.SynReceived at live =
          let opening = ap (λ (q : Stage). is_opening q) at in
          let two = both c.syn_owed c.ack_owed (sym (ap (λ (q : Stage). owed_by q c f.up f.down) at) ∙ nothing) in
          opening_settled s c f.up f.down past now h nothing known opening two.1 (λ is. went (has_gone c.sendings) refl is opening two.0) (λ is. two.0)
          (λ early d is. early d (ap (λ (q : Stage). due_by q c) at ∙ is))
        where
          both : (a b : Bool) → (if a then Some SynAck else ack_if b) ≡ None → (a ≡ false) × (b ≡ false)
          both true b is = absurd cc
          both false true is = absurd cc
          both false false is = (refl, refl)
      by stage.Synchronized at live =
          synchronized_settled s c f.up f.down past now h nothing known (ap (λ (st : Stage). is_calls st) at) (ap (λ (st : Stage). is_opening st) at) (ap (λ (st : Stage). is_synchronized st) at)
          (ap (λ (st : Stage). owed_by st c f.up f.down) at, ap (λ (st : Stage). due_by st c) at)
      by stage.TimeWait at live = absurd cc
      by (stage.Resets seq ack) at live = absurd cc
      by stage.Closed at live = absurd cc

  open_settled : is_open f ≡ true → (f.mac ≡ None → known ≡ false) → IsClearBy f.mac f → IsSettledIf (IsTimely f now) s past known false now
  open_settled open_yet unknown clear = by f.mac refl clear
    where
      by : (m : Option Mac) → f.mac ≡ m → IsClearBy m f → IsSettledIf (IsTimely f now) s past known false now
      by None is none =
          let two = o.unsent is in
          let waits = waits_yet s f past now o open_yet is none in
          let resolving : 0 < f.asked → resolves f ≡ true = λ some. ap (λ (m : Option Mac). not (is_some m) && nat_lt 0 f.asked) is ∙ yes f.asked some in
          subst (λ (k : Bool). IsSettledIf (IsTimely f now) s past k false now) (sym (unknown is))
          (resolving_settled (IsTimely f now) s c f.up f.down past now f.asked f.ask_at h two.0 two.1 waits.1 (o.resolves is waits.1) (λ early. early.1 open_yet (resolving waits.1) waits.0))
        where
          yes : (n : ℕ) → 0 < n → nat_lt 0 n ≡ true
          yes n some = grind (arith, nat_tests)
      by (Some mac) is none = settled_if (IsAhead f.conn now) (IsTimely f now) s past known false now (λ early. early.0)
          (known_settled (takes f.place (owed_of c f.up f.down) (in_use (is_in_use f.place) f.shut open_yet) none))

pub settled_is : (s : Settings) (f : Splice) (past : Story) (now : ℕ) (known : Bool) → Follows s f past now → IsClear f → (f.mac ≡ None → known ≡ false) → IsSettledIf
    (IsTimely f now) s past known (is_in_time_wait f.place) now
settled_is s f past now known h clear unknown = by f.place f.shut refl refl h
  where
    some_mac : (m : Option Mac) → f.mac ≡ m → (f.mac ≡ None → ⊥) → IsClearBy f.mac f → takes_part_at f.place (owed_of f.conn f.up f.down) ≡ None
    some_mac None is known_it clear = absurd (known_it is)
    some_mac (Some mac) is known_it clear = subst (λ (m : Option Mac). IsClearBy m f) is clear

    owed_none : (st : Stage) → f.conn.stage ≡ st → is_resets st ≡ true → owed_by st f.conn f.up f.down ≡ None → ⊥
    owed_none stage.Connecting at is none = cc
    owed_none stage.SynSent at is none = cc
    owed_none stage.SynReceived at is none = cc
    owed_none stage.Synchronized at is none = cc
    owed_none stage.TimeWait at is none = cc
    owed_none (stage.Resets seq ack) at is none = cc
    owed_none stage.Closed at is none = cc

    no_ack : (b : Bool) → ack_if b ≡ None → b ≡ false
    no_ack true is = absurd cc
    no_ack false is = refl

    by : (p : Place) (b : Bool) → f.place ≡ p → f.shut ≡ b → FollowsAt p b s f past now → IsSettledIf (IsTimely f now) s past known (is_in_time_wait p) now
    by Empty b at shut q = closed_settled (IsTimely f now) s past now known false q.over.closed (q.over.owes ∙ q.owes_none) (λ is. absurd cc)
    by InUse true at shut q =
        let none = subst (λ (p : Place). takes_part_at p (owed_of f.conn f.up f.down) ≡ None) at (some_mac f.mac refl q.known clear) in
        absurd (owed_none f.conn.stage refl q.owes none)
    by InUse false at shut q = open_settled s f past now known q (ap (λ (p : Place). is_in_use p && not f.shut) at ∙ ap not shut) unknown clear
    by (InTimeWait since) b at shut q =
        let none = subst (λ (p : Place). takes_part_at p (owed_of f.conn f.up f.down) ≡ None) at (some_mac f.mac refl q.known clear) in
        let unowed = no_ack f.conn.ack_owed (sym (ap (λ (st : Stage). owed_by st f.conn f.up f.down) q.time_waits.at) ∙ none) in
        closed_settled (IsTimely f now) s past now known true q.time_waits.over.closed (q.time_waits.over.owes ∙ ap is_resets q.time_waits.at) (λ is. q.time_waits.answered unowed)

-- ---- whether it may be waited at all

closed_waits : (past : Story) (now : ℕ) → is_closed past ≡ true → MayWait past now
closed_waits past now shut = record {
  closes = λ conforming done. shut;
  connects = both_ahead now (moment_if (is_connecting past) (opened_at past + 75000)) (moment_if (is_deserted_by past && not (is_prompted past)) (max (patience_by past) (last_at past + 1)))
      (subst (λ (b : Bool). AreAhead now (moment_if b (opened_at past + 75000))) (sym (no_connecting (is_accepted past || has_connected past) (is_closed past) shut)) tt)
      (patient_ahead past now (λ is quiet. let not_it = sym is ∙ closed_deserts past shut in absurd cc));
  calls = first_true (is_closed past) (nat_le (oldest_unheard past) 9) shut;
}
  where
    first_true : (a b : Bool) → a ≡ true → IsTrue (a || b)
    first_true a b is = rw is refl

pub waited_is : (s : Settings) (f : Splice) (past : Story) (now : ℕ) → Follows s f past now → HasTime f now → MayWait past now
waited_is s f past now h time = by f.place f.shut refl refl h
  where
    open_waits : is_open f ≡ true → IsOpen s f past now → MayWait past now
    open_waits open_yet o = by_calls (is_calls f.conn.stage) refl
      where
        not_done : (a b d : Bool) → a ≡ false → IsTrue (a && b && d) → ⊥
        not_done true b d is so = absurd cc
        not_done false b d is so = absurd cc

        by_calls : (b : Bool) → is_calls f.conn.stage ≡ b → MayWait past now
        by_calls true calls = record {
          closes = λ conforming done. absurd (not_done (host_was_ended past) (our_fin_is_acked past) (fin_was_acknowledged past) (o.holds.awaits calls).untold done);
          connects = both_ahead now (moment_if (is_connecting past) (opened_at past + 75000)) (moment_if (is_deserted_by past && not (is_prompted past)) (max (patience_by past) (last_at past + 1)))
              (subst (λ (e : Bool). AreAhead now (moment_if e (opened_at past + 75000))) (sym (o.holds.opened.connects ∙ (calls_opens f.conn.stage calls).1)) tt)
              (patient_ahead past now (has_time s f past now o open_yet time));
          calls = few_calls s f.conn f.up f.down past now o.holds;
        }
        by_calls false reached = may_wait s f.conn f.up f.down past now o.holds reached o.unfinished (λ connects. let soon = time.connects open_yet connects in let since = o.since in omega
            (arith, soon, since)) (has_time s f past now o open_yet time)

    by : (p : Place) (b : Bool) → f.place ≡ p → f.shut ≡ b → FollowsAt p b s f past now → MayWait past now
    by Empty b at shut q = closed_waits past now q.over.closed
    by InUse true at shut q = closed_waits past now q.over.closed
    by InUse false at shut q = open_waits (ap (λ (p : Place). is_in_use p && not f.shut) at ∙ ap not shut) q
    by (InTimeWait since) b at shut q = closed_waits past now q.time_waits.over.closed

-- ---- what is waited for

both_false : (a b d : Bool) → a ≡ true → (b && not a && d) ≡ false
both_false true true d is = refl
both_false true false d is = refl
both_false false b d is = absurd cc

last_false : (a b d e : Bool) → b ≡ true → (a && not b && d && e) ≡ false
last_false true b d e is = ap (λ (x : Bool). not x && d && e) is
last_false false b d e is = refl

shut_reads : (s : Settings) (f : Splice) (past : Story) → is_closed past ≡ true → is_open f ≡ false → (waits_to_read s past ≡ reads f) × (must_wait_to_write past ≡ false) × (writes f ≡ false)
shut_reads s f past shut is = (
  last_false (has_connected past || is_accepted past) (is_closed past) (not (got_end (host past))) (nat_lt (length (got (host past))) (acked (host past) + s.ring)) shut ∙ sym
      (ap (λ (b : Bool). b && may_read f) is),
  ap (λ (b : Bool). not b && (is_connecting past || (nat_lt (length (written (guest past))) (ackd (guest past)) && not (has_ended (guest past))))) shut,
  ap (λ (b : Bool). b && may_write f) is,
)

room_same : (n size ring : ℕ) → size ≡ ring → nat_lt n ring ≡ nat_lt 0 (size - n)
room_same n size ring is = by (nat_lt n ring) (nat_lt 0 (size - n)) refl refl
  where
    by : (a b : Bool) → nat_lt n ring ≡ a → nat_lt 0 (size - n) ≡ b → nat_lt n ring ≡ nat_lt 0 (size - n)
    by true true a_is b_is = a_is ∙ sym b_is
    by false false a_is b_is = a_is ∙ sym b_is
    by true false a_is b_is = absurd (grind (arith, nat_tests))
    by false true a_is b_is = absurd (grind (arith, nat_tests))

module _ (s : Settings) (f : Splice) (past : Story) (now : ℕ) (size : f.down.size ≡ f.up.size) (open_yet : is_open f ≡ true) (o : IsOpen s f past now) where
  open_reads : waits_to_read s past ≡ reads f
  open_reads =
      reads_where_room s f.conn f.up f.down past now o.holds
      ∙ ap (λ (b : Bool). not (is_at_connecting f.conn.stage) && is_host_open f.conn.transmission.end && b) (room_same (length f.down.octets) f.down.size s.ring
      (size ∙ o.holds.buffers.size ∙ o.holds.suits.ring))
      ∙ sym (ap (λ (b : Bool). b && may_read f) open_yet)

  writes_is : writes f ≡ may_write f
  writes_is = ap (λ (b : Bool). b && may_write f) open_yet

  -- in the three cases
  connects_writes : (a b d : Bool) → a ≡ true → (a || b || d) ≡ true
  connects_writes a true true is = rw is refl
  connects_writes a true false is = rw is refl
  connects_writes a false true is = rw is refl
  connects_writes a false false is = rw is refl

  told_same : is_calls f.conn.stage ≡ false → f.conn.host_ended ≡ f.told_end
  told_same reached = sym (o.holds.receives reached).host_ended ∙ o.told

  three_writes : (a : Bool) (n : ℕ) (e t : Bool) → (a ≡ true) ⊎ (((0 < n) × (t ≡ false)) ⊎ ((e ≡ true) × (t ≡ false))) → (a || (nat_lt 0 n && not t) || (e && not t)) ≡ true
  three_writes true n e t is = connects_writes true (nat_lt 0 n && not t) (e && not t) refl
  three_writes false n e t (inl is) = absurd cc
  three_writes false n e t (inr (inl is)) = let some : nat_lt 0 n ≡ true = (let more = is.0 in grind (arith, nat_tests)) in rw (some, is.1) refl
  three_writes false n e t (inr (inr is)) = rw (is.0, is.1) (by (nat_lt 0 n))
    where
      by : (b : Bool) → ((b && true) || true) ≡ true
      by true = refl
      by false = refl

  writes_three : (a : Bool) (n : ℕ) (e t : Bool) → (a || (nat_lt 0 n && not t) || (e && not t)) ≡ true → (a ≡ true) ⊎ ((0 < n) ⊎ ((e ≡ true) × (t ≡ false)))
  writes_three true n e t is = inl refl
  writes_three false n e t is = inr (by (nat_lt 0 n) e t refl is)
    where
      by : (b e t : Bool) → nat_lt 0 n ≡ b → ((b && not t) || (e && not t)) ≡ true → (0 < n) ⊎ ((e ≡ true) × (t ≡ false))
      by true e t some is = inl (grind (arith, nat_tests))
      by false true false some is = inr (refl, refl)
      by false true true some is = absurd cc
      by false false t some is = absurd cc

  open_must : must_wait_to_write past ≡ true → writes f ≡ true
  open_must must = writes_is ∙ by (is_calls f.conn.stage) refl
    where
      untold : must_wait_to_write past ≡ true → is_calls f.conn.stage ≡ false → (is_at_connecting f.conn.stage ≡ false) → f.told_end ≡ false
      untold is reached apart =
          sym (told_same reached) ∙ (o.holds.receives reached).follows.told ∙ last_of (is_closed past) (is_connecting past)
          (nat_lt (length (written (guest past))) (ackd (guest past))) (has_ended (guest past)) (o.holds.opened.connects ∙ apart) is
        where
          last_of : (a b d e : Bool) → b ≡ false → (not a && (b || (d && not e))) ≡ true → e ≡ false
          last_of true b d e b_is is = absurd cc
          last_of false true d e b_is is = absurd cc
          last_of false false true true b_is is = absurd cc
          last_of false false true false b_is is = refl
          last_of false false false e b_is is = absurd cc

      by : (b : Bool) → is_calls f.conn.stage ≡ b → may_write f ≡ true
      by true calls = absurd (none (guest past) (held_reached s f past now o calls).0 must)
        where
          none : (g : List Up) → guest past ≡ [] → must_wait_to_write past ≡ true → ⊥
          none g is so = none_by (is_closed past) (is_connecting past) (o.holds.opened.connects ∙ calls_none f.conn.stage calls)
              (sym (ap (λ (x : List Up). not (is_closed past) && (is_connecting past || (nat_lt (length (written x)) (ackd x) && not (has_ended x)))) is) ∙ so)
            where
              calls_none : (st : Stage) → is_calls st ≡ true → is_at_connecting st ≡ false
              calls_none stage.Connecting is = absurd cc
              calls_none stage.SynSent is = refl
              calls_none stage.SynReceived is = absurd cc
              calls_none stage.Synchronized is = absurd cc
              calls_none stage.TimeWait is = absurd cc
              calls_none (stage.Resets seq ack) is = absurd cc
              calls_none stage.Closed is = absurd cc

              none_by : (a b : Bool) → b ≡ false → (not a && (b || false)) ≡ true → ⊥
              none_by true b is so = cc
              none_by false true is so = cc
              none_by false false is so = cc
      by false reached = three_writes (is_at_connecting f.conn.stage) (length f.up.held) f.conn.received.ended f.told_end
          (cases (is_at_connecting f.conn.stage) refl (must_write s f.conn f.up f.down past now o.holds reached must))
        where
          cases : (b : Bool) → is_at_connecting f.conn.stage ≡ b → (is_at_connecting f.conn.stage ≡ true) ⊎ ((0 < length f.up.held) ⊎ ((f.conn.received.ended ≡ true) × (f.conn.host_ended ≡ false)))
              → (is_at_connecting f.conn.stage ≡ true) ⊎ (((0 < length f.up.held) × (f.told_end ≡ false)) ⊎ ((f.conn.received.ended ≡ true) × (f.told_end ≡ false)))
          cases true is any = inl is
          cases false is (inl so) = inl so
          cases false is (inr (inl some)) = inr (inl (some, untold must reached is))
          cases false is (inr (inr two)) = inr (inr (two.0, sym (told_same reached) ∙ two.1))

  open_may : writes f ≡ true → MayWaitToWrite past
  open_may wants = by (is_calls f.conn.stage) refl
    where
      three_now : (is_at_connecting f.conn.stage ≡ true) ⊎ ((0 < length f.up.held) ⊎ ((f.conn.received.ended ≡ true) × (f.told_end ≡ false)))
      three_now = writes_three (is_at_connecting f.conn.stage) (length f.up.held) f.conn.received.ended f.told_end (sym writes_is ∙ wants)

      by : (b : Bool) → is_calls f.conn.stage ≡ b → MayWaitToWrite past
      by true calls = absurd (none three_now)
        where
          apart : (st : Stage) → is_calls st ≡ true → is_at_connecting st ≡ true → ⊥
          apart stage.Connecting is so = cc
          apart stage.SynSent is so = cc
          apart stage.SynReceived is so = cc
          apart stage.Synchronized is so = cc
          apart stage.TimeWait is so = cc
          apart (stage.Resets seq ack) is so = cc
          apart stage.Closed is so = cc

          none : (is_at_connecting f.conn.stage ≡ true) ⊎ ((0 < length f.up.held) ⊎ ((f.conn.received.ended ≡ true) × (f.told_end ≡ false))) → ⊥
          none (inl is) = apart f.conn.stage calls is
          none (inr (inl some)) = let empty = ap length (held_reached s f past now o calls).1 in omega (arith, some, empty)
          none (inr (inr two)) = let not_it = sym two.0 ∙ ap (λ r. r.ended) (o.holds.awaits calls).received in cc
      by false reached = may_write_by s f.conn f.up f.down past now o.holds reached (cases three_now)
        where
          cases : (is_at_connecting f.conn.stage ≡ true) ⊎ ((0 < length f.up.held) ⊎ ((f.conn.received.ended ≡ true) × (f.told_end ≡ false)))
              → (is_at_connecting f.conn.stage ≡ true) ⊎ ((0 < length f.up.held) ⊎ ((f.conn.received.ended ≡ true) × (f.conn.host_ended ≡ false)))
          cases (inl is) = inl is
          cases (inr (inl some)) = inr (inl some)
          cases (inr (inr two)) = inr (inr (two.0, told_same reached ∙ two.1))

-- by where it stands
module _ (s : Settings) (f : Splice) (past : Story) (now : ℕ) (size : f.down.size ≡ f.up.size) (h : Follows s f past now) where
  abbrev Wants : Type 0
  Wants = (waits_to_read s past ≡ reads f) × (must_wait_to_write past ≡ true → writes f ≡ true) × (writes f ≡ true → MayWaitToWrite past)

  shut_wants : is_closed past ≡ true → is_open f ≡ false → Wants
  shut_wants shut is =
      let three = shut_reads s f past shut is in
      (three.0, (λ must. let not_it = sym must ∙ three.1 in absurd cc), (λ wants. let not_it = sym wants ∙ three.2 in absurd cc))

  pub wants_are : Wants
  wants_are = by f.place f.shut refl refl h
    where
      by : (p : Place) (b : Bool) → f.place ≡ p → f.shut ≡ b → FollowsAt p b s f past now → Wants
      by Empty b at shut q = shut_wants q.over.closed (ap (λ (p : Place). is_in_use p && not f.shut) at)
      by InUse true at shut q = shut_wants q.over.closed (ap (λ (p : Place). is_in_use p && not f.shut) at ∙ ap not shut)
      by InUse false at shut q =
          let open_yet = ap (λ (p : Place). is_in_use p && not f.shut) at ∙ ap not shut in
          (open_reads s f past now size open_yet q, (λ must. open_must s f past now size open_yet q must), (λ wants. open_may s f past now size open_yet q wants))
      by (InTimeWait since) b at shut q = shut_wants q.time_waits.over.closed (ap (λ (p : Place). is_in_use p && not f.shut) at)
