-- How long it may be waited for a flow, and how long it is waited at least: the moment at which it is to be looked at, against those of its story.
use Rattle.std.proofs.Common.{refl, ◌≡◌, ℕ, ◌+◌, ◌<◌, ◌≤◌, ◌++◌, Bool, true, false, not, ◌&&◌, ◌||◌, Option, None, Some, is_some, nat_lt, max, [], ◌∷◌, ◌⊎◌, inl, inr, if◌then◌else◌, arith, ap, subst, sym, ◌∙◌}
use Rattle.std.proofs.lemmas.Bool.Decides.{nat_tests}
use Rattle.net_octets.specs.declared.Mac.{Mac}
use Rattle.retransmit.specs.Resending.{due_by as due_by_timer, due_of as resend_due}
use Rattle.retransmit.specs.declared.Timer.{Timer}
use Rattle.tcp_connection.specs.Connection.{has_gone, is_opening, is_synchronized}
use Rattle.tcp_connection.specs.Owing.{ack_if, owed_by, owed_of}
use Rattle.tcp_connection.specs.Timing.{due_by as conn_due_by, due_of as conn_due}
use Rattle.tcp_connection.specs.declared.Owed.TheVariants.{Syn, SynAck}
use Rattle.tcp_connection.specs.declared.Stage.{Stage}
use Rattle.tcp_connection.specs.declared.Stage.TheVariants as stage
use Rattle.spec_flow.specs.Settings.{Settings}
use Rattle.spec_flow.specs.Event.{Story, newest_moment}
use Rattle.spec_flow.specs.Flow.{has_connected, is_accepted, is_closed, is_connecting, is_under_way, opened_at, syn_is_out}
use Rattle.spec_flow.specs.Close.{asked_at, is_deserted as is_deserted_by, last_at, patience_end as patience_by, times_asked}
use Rattle.spec_flow.specs.Dutiful.{close_deadline, closing_moments, moment_if, resend_deadline, resolves_guest, waits_for_window, waits_since, wakes}
use Rattle.spec_flow.specs.Lawful.{is_prompted}
use Rattle.spec_flow.specs.Bounds.{IsBy, IsFrom}
use Rattle.sim_halves.proofs.InTime.{not_before, resolves_none}
use Rattle.sim_halves.proofs.Moments.{by_both}
use Rattle.sim_connection.specs.Holding.{is_calls, is_at_connecting, is_live}
use Rattle.sim_connection.proofs.Bounds.{by_window, from_first, from_if, from_second, opening_by, opening_from, synchronized_by, synchronized_from}
use Rattle.sim_connection.proofs.Settling.{no_window, not_expired, watched_by}
use Rattle.sim_connection.proofs.Watching.{opening_is, syn_under_way}
use Rattle.flow_splice.specs.Follows.{Follows, FollowsAt, IsAsking, IsOpen}
use Rattle.flow_splice.specs.Sends.{IsClear, IsClearBy, asks_now}
use Rattle.flow_splice.specs.Splice.{Splice, is_in_use, is_open}
use Rattle.flow_splice.specs.Wants.{ask_due, connect_end, due_else, due_of, is_deserted, left_at, resolves, sooner}
use Rattle.flow_splice.proofs.Deserted.{by_sooner, closed_deserts, connects_alone, deserted_parts, from_sooner, left_deadline, left_from}
use Rattle.flow_splice.proofs.Opened.{open_follows}
use Rattle.flow_splice.proofs.Stages.{calls_opens, if_none, in_use, no_connecting, resends_none, takes}
use Rattle.flow_splice.specs.declared.Place.{Place}
use Rattle.flow_splice.specs.declared.Place.TheVariants.{Empty, InUse, InTimeWait}

-- ---- once its socket was closed

shut_by : (f : Splice) (past : Story) → is_closed past ≡ true → IsBy (due_of f) (close_deadline past) × IsBy (due_of f) (resend_deadline past)
shut_by f past shut = (
  by_both (due_of f) (moment_if (is_connecting past) (opened_at past + 75000)) (moment_if (is_deserted_by past && not (is_prompted past)) (max (patience_by past) (last_at past + 1)))
      (subst (λ (b : Bool). IsBy (due_of f) (moment_if b (opened_at past + 75000))) (sym (no_connecting (is_accepted past || has_connected past) (is_closed past) shut)) tt)
      (subst (λ (b : Bool). IsBy (due_of f) (moment_if (b && not (is_prompted past)) (max (patience_by past) (last_at past + 1)))) (sym (closed_deserts past shut)) tt),
  subst (λ ms. IsBy (due_of f) ms) (sym (resends_none past shut)) tt,
)

shut_from : (f : Splice) (past : Story) → is_open f ≡ false → IsFrom (due_of f) (wakes past)
shut_from f past shut =
    subst (λ (o : Option ℕ). IsFrom o (wakes past))
    (sym (ap (λ (b : Bool). if b then (if is_deserted f then Some (sooner (left_at f) (due_else f)) else due_else f) else None) shut)) tt

-- ---- while it is open

-- a guest whose hardware address isn't known was asked for it, where no request is owed
pub waits_yet : (s : Settings) (f : Splice) (past : Story) (now : ℕ) → IsOpen s f past now → is_open f ≡ true → f.mac ≡ None → asks_now f ≡ false → (f.asks ≡ false) × (0 < f.asked)
waits_yet s f past now o open_yet unknown none =
    by f.asks refl (o.asks unknown) (sym (ap (λ (b : Bool). b && nat_lt f.asked 9 && f.asks) open_yet) ∙ none)
  where
    is_few : (n : ℕ) → n < 9 → nat_lt n 9 ≡ true
    is_few n low = grind (arith, nat_tests)

    apart : (b : Bool) → b ≡ true → (b && true) ≡ false → ⊥
    apart true few missed = cc
    apart false few missed = cc

    by : (b : Bool) → f.asks ≡ b → IsAsking b f.asked f.ask_at now → (nat_lt f.asked 9 && b) ≡ false → (f.asks ≡ false) × (0 < f.asked)
    by true is asking missed = absurd (apart (nat_lt f.asked 9) (is_few f.asked asking.0) missed)
    by false is asked missed = (is, asked)

module _ (s : Settings) (f : Splice) (past : Story) (now : ℕ) (o : IsOpen s f past now) (open_yet : is_open f ≡ true) where
  due_connects : is_at_connecting f.conn.stage ≡ true → due_else f ≡ Some (connect_end f)
  due_connects is = ap (λ (b : Bool). if b then Some (connect_end f) else (if resolves f then ask_due f else conn_due f.conn)) is

  due_apart : is_at_connecting f.conn.stage ≡ false → due_else f ≡ (if resolves f then ask_due f else conn_due f.conn)
  due_apart is = ap (λ (b : Bool). if b then Some (connect_end f) else (if resolves f then ask_due f else conn_due f.conn)) is

  due_known : is_at_connecting f.conn.stage ≡ false → resolves f ≡ false → due_else f ≡ conn_due f.conn
  due_known apart none = due_apart apart ∙ ap (λ (b : Bool). if b then ask_due f else conn_due f.conn) none

  -- by whether its peer is gone
  due_deserted : is_deserted f ≡ true → due_of f ≡ Some (sooner (left_at f) (due_else f))
  due_deserted is = rw (open_yet, is) refl

  due_rests : is_deserted f ≡ false → due_of f ≡ due_else f
  due_rests none = rw (open_yet, none) refl

  follows_now : Follows s f past now
  follows_now = open_follows s f past now open_yet o

  -- one that connects isn't deserted
  connects_stays : (b : Bool) → is_deserted f ≡ b → is_at_connecting f.conn.stage ≡ true → is_deserted f ≡ false
  connects_stays false is connects = is
  connects_stays true is connects = let not_it = sym connects ∙ (deserted_parts f is).connected in absurd cc

  no_later : (at : ℕ) (other : Option ℕ) → sooner at other ≤ at
  no_later at None = omega arith
  no_later at (Some moment) = omega arith

  by_kind : (P : Option ℕ → Type 0) → (is_deserted f ≡ true → P (Some (sooner (left_at f) (due_else f)))) → (is_deserted f ≡ false → P (due_else f)) → P (due_of f)
  by_kind P deserted other = by (is_deserted f) refl
    where
      by : (b : Bool) → is_deserted f ≡ b → P (due_of f)
      by true is = subst P (sym (due_deserted is)) (deserted is)
      by false is = subst P (sym (due_rests is)) (other is)

  pub open_by_connect : IsBy (due_of f) (close_deadline past)
  open_by_connect = by (is_at_connecting f.conn.stage) refl
    where
      law : (d : Option ℕ) → d ≡ due_of f → IsBy d (close_deadline past) → IsBy (due_of f) (close_deadline past)
      law d is within = subst (λ (x : Option ℕ). IsBy x (close_deadline past)) is within

      other : (close_deadline past ≡ []) ⊎ ((is_deserted f ≡ true) × (close_deadline past ≡ left_at f ∷ [])) → IsBy (due_of f) (close_deadline past)
      other (inl none) = subst (λ ms. IsBy (due_of f) ms) (sym none) tt
      other (inr (deserted, is)) =
          law (Some (sooner (left_at f) (due_else f))) (sym (due_deserted deserted))
          (subst (λ ms. IsBy (Some (sooner (left_at f) (due_else f))) ms) (sym is) (no_later (left_at f) (due_else f), tt))

      by : (b : Bool) → is_at_connecting f.conn.stage ≡ b → IsBy (due_of f) (close_deadline past)
      by true is =
          law (due_else f) (sym (due_rests (connects_stays (is_deserted f) refl is)))
          (subst (λ (d : Option ℕ). IsBy d (close_deadline past)) (sym (due_connects is))
          (subst (λ ms. IsBy (Some (connect_end f)) ms) (sym (connects_alone s f past now follows_now open_yet is)) (omega arith, tt)))
      by false is = other (left_deadline s f past now follows_now open_yet is)

  -- nothing is under way before its SYN went out
  none_by : is_opening f.conn.stage ≡ true → has_gone f.conn.sendings ≡ false → (due : Option ℕ) → IsBy due (moment_if (is_under_way past && not (is_closed past)) (waits_since past + 60000))
  none_by opening unsent due =
      subst (λ (b : Bool). IsBy due (moment_if (b && not (is_closed past)) (waits_since past + 60000))) (sym (syn_under_way s f.conn past o.holds.opened opening ∙ unsent)) tt

  -- and nothing waits for a window before its SYN was acknowledged
  none_watched : is_opening f.conn.stage ≡ true → (due : Option ℕ) → IsBy due (moment_if (waits_for_window past) (newest_moment past + 60000))
  none_watched opening due = by_window past due
      (λ waits. absurd (no_window past (o.holds.opened.answered ∙ opening_is f.conn.stage o.holds.opened.live opening) waits))

  -- its guest is called
  called_by : has_gone f.conn.sendings ≡ true → resolves_guest past ≡ false
  called_by gone = resolves_none past (λ accepted. o.holds.opened.out ∙ gone)

  went : (b : Bool) → has_gone f.conn.sendings ≡ b → is_at_connecting f.conn.stage ≡ false → is_opening f.conn.stage ≡ true → f.conn.syn_owed ≡ false → has_gone f.conn.sendings ≡ true
  went true is apart opening none = is
  went false is apart opening none = let not_it = sym (o.holds.opened.owes apart opening is) ∙ none in absurd cc

  -- one that connects wasn't accepted
  connects_by : is_at_connecting f.conn.stage ≡ true → resolves_guest past ≡ false
  connects_by is = by (is_accepted past) (has_connected past) (is_closed past) (syn_is_out past) (o.holds.opened.connects ∙ is)
    where
      by : (a b d e : Bool) → not (a || b || d) ≡ true → (a && not e && not d) ≡ false
      by false b d e so = refl
      by true b d e so = absurd (by_two b d so)
        where
          by_two : (b d : Bool) → not (true || b || d) ≡ true → ⊥
          by_two true d so = cc
          by_two false d so = cc

  known_resolves : (mac : Mac) → f.mac ≡ Some mac → resolves f ≡ false
  known_resolves mac is = ap (λ (m : Option Mac). not (is_some m) && nat_lt 0 f.asked) is

  -- where nothing is owed
  known_by : resolves f ≡ false → owed_of f.conn f.up f.down ≡ None → IsBy (due_else f) (resend_deadline past)
  known_by known nothing = by f.conn.stage refl o.holds.opened.live
    where
      of_conn : (d : Option ℕ) → is_at_connecting f.conn.stage ≡ false → conn_due f.conn ≡ d → IsBy d (resend_deadline past) → IsBy (due_else f) (resend_deadline past)
      of_conn d apart is within = subst (λ (x : Option ℕ). IsBy x (resend_deadline past)) (sym (due_known apart known ∙ is)) within

      of_opening : f.conn.syn_owed ≡ false → is_at_connecting f.conn.stage ≡ false → is_opening f.conn.stage ≡ true → conn_due f.conn ≡ resend_due f.conn.syn
          → IsBy (due_else f) (resend_deadline past)
      of_opening no_syn apart opening is = of_conn (resend_due f.conn.syn) apart is
          (opening_by s f.conn f.up f.down past now o.holds opening (λ gone. no_syn) (called_by (went (has_gone f.conn.sendings) refl apart opening no_syn)))

      both : (a b : Bool) → (if a then Some SynAck else ack_if b) ≡ None → a ≡ false
      both true b is = absurd cc
      both false true is = absurd cc
      both false false is = refl

      by : (st : Stage) → f.conn.stage ≡ st → is_live st ≡ true → IsBy (due_else f) (resend_deadline past)
      by stage.Connecting at live =
          by_both (due_else f) (moment_if (is_under_way past && not (is_closed past)) (waits_since past + 60000)
          ++ moment_if (resolves_guest past && nat_lt 0 (times_asked past)) (asked_at past + 60000)) _
          (by_both (due_else f) (moment_if (is_under_way past && not (is_closed past)) (waits_since past + 60000)) _
          (none_by (ap (λ (q : Stage). is_opening q) at) (o.holds.opened.unsent (ap (λ (q : Stage). is_at_connecting q) at)) (due_else f))
          (rw (connects_by (ap (λ (q : Stage). is_at_connecting q) at)) tt))
          (none_watched (ap (λ (q : Stage). is_opening q) at) (due_else f))
      by stage.SynSent at live =
          let no_syn = if_none f.conn.syn_owed Syn (sym (ap (λ (q : Stage). owed_by q f.conn f.up f.down) at) ∙ nothing) in
          of_opening no_syn (ap (λ (q : Stage). is_at_connecting q) at) (ap (λ (q : Stage). is_opening q) at) (ap (λ (q : Stage). conn_due_by q f.conn) at)
      by stage.SynReceived at live =
          let no_syn = both f.conn.syn_owed f.conn.ack_owed (sym (ap (λ (q : Stage). owed_by q f.conn f.up f.down) at) ∙ nothing) in
          of_opening no_syn (ap (λ (q : Stage). is_at_connecting q) at) (ap (λ (q : Stage). is_opening q) at) (ap (λ (q : Stage). conn_due_by q f.conn) at)
      by stage.Synchronized at live =
          let opening = ap (λ (q : Stage). is_opening q) at in
          let synchronized = ap (λ (q : Stage). is_synchronized q) at in
          of_conn (resend_due f.conn.transmission.resend) (ap (λ (q : Stage). is_at_connecting q) at) (ap (λ (q : Stage). conn_due_by q f.conn) at)
          (synchronized_by s f.conn f.up f.down past now o.holds opening synchronized
          (not_expired s f.conn f.up f.down past now o.holds nothing true (ap (λ (q : Stage). is_calls q) at) opening synchronized
          (ap (λ (q : Stage). owed_by q f.conn f.up f.down) at, ap (λ (q : Stage). conn_due_by q f.conn) at))
          (λ waits.
          let w = watched_by s f.conn f.up f.down past now o.holds nothing true (ap (λ (q : Stage). is_calls q) at) opening synchronized
          (ap (λ (q : Stage). owed_by q f.conn f.up f.down) at, ap (λ (q : Stage). conn_due_by q f.conn) at) waits in
          (w.0 + f.conn.transmission.resend.estimate.wait, ap (λ (t : Timer). due_by_timer t f.conn.transmission.resend.estimate.wait) w.1, w.2)))
      by stage.TimeWait at live = absurd cc
      by (stage.Resets seq ack) at live = absurd cc
      by stage.Closed at live = absurd cc

  else_by_resend : IsClear f → IsBy (due_else f) (resend_deadline past)
  else_by_resend clear = by f.mac refl clear
    where
      by : (m : Option Mac) → f.mac ≡ m → IsClearBy m f → IsBy (due_else f) (resend_deadline past)
      by None is none =
          let two = o.unsent is in
          let waits = waits_yet s f past now o open_yet is none in
          let soon = (o.resolves is waits.1).soon in
          let due : due_else f ≡ Some f.ask_at = due_apart (calls_apart f.conn.stage two.0) ∙ ap (λ (b : Bool). if b then ask_due f else conn_due f.conn) (resolving is waits.1)
          ∙ ap (λ (b : Bool). if not b then Some f.ask_at else None) waits.0 in
          by_both (due_else f) (moment_if (is_under_way past && not (is_closed past)) (waits_since past + 60000)
          ++ moment_if (resolves_guest past && nat_lt 0 (times_asked past)) (asked_at past + 60000)) _
          (by_both (due_else f) (moment_if (is_under_way past && not (is_closed past)) (waits_since past + 60000)) _ (none_by (calls_opens f.conn.stage two.0).0 two.1 (due_else f))
          (subst (λ (d : Option ℕ). IsBy d (moment_if (resolves_guest past && nat_lt 0 (times_asked past)) (asked_at past + 60000))) (sym due)
          (by_if (resolves_guest past && nat_lt 0 (times_asked past)) f.ask_at (asked_at past + 60000) soon)))
          (none_watched (calls_opens f.conn.stage two.0).0 (due_else f))
        where
          by_if : (b : Bool) (at m : ℕ) → at ≤ m → IsBy (Some at) (moment_if b m)
          by_if true at m low = (low, tt)
          by_if false at m low = tt

          calls_apart : (st : Stage) → is_calls st ≡ true → is_at_connecting st ≡ false
          calls_apart stage.Connecting is = absurd cc
          calls_apart stage.SynSent is = refl
          calls_apart stage.SynReceived is = refl
          calls_apart stage.Synchronized is = refl
          calls_apart stage.TimeWait is = refl
          calls_apart (stage.Resets seq ack) is = refl
          calls_apart stage.Closed is = refl

          yes : (n : ℕ) → 0 < n → nat_lt 0 n ≡ true
          yes n some = grind (arith, nat_tests)

          resolving : f.mac ≡ None → 0 < f.asked → resolves f ≡ true
          resolving is some = ap (λ (m : Option Mac). not (is_some m) && nat_lt 0 f.asked) is ∙ yes f.asked some
      by (Some mac) is none = known_by (known_resolves mac is) (takes f.place (owed_of f.conn f.up f.down) (in_use (is_in_use f.place) f.shut open_yet) none)

  -- ---- at least

  -- it asks for its guest's hardware address
  resolving_from : resolves f ≡ true → IsFrom (ask_due f) (wakes past)
  resolving_from resolving = if_waits f.asks refl
    where
      some : (n : ℕ) → nat_lt 0 n ≡ true → 0 < n
      some n is = grind (arith, nat_tests)

      three : (a b d : Bool) → a ≡ true → b ≡ false → d ≡ false → (a && not b && not d) ≡ true
      three a b d is unsent yet = rw (is, unsent, yet) refl

      by : (m : Option Mac) → f.mac ≡ m → (not (is_some m) && nat_lt 0 f.asked) ≡ true → IsFrom (Some f.ask_at) (wakes past)
      by (Some mac) is asks = absurd cc
      by None is asks =
          let two = o.unsent is in
          let asked = some f.asked asks in
          from_first f.ask_at (closing_moments past ++ moment_if (is_accepted past && not (syn_is_out past) && not (is_closed past)) (opened_at past + 1000)) _
          (from_second f.ask_at (closing_moments past) _
          (from_if f.ask_at (opened_at past + 1000) (is_accepted past && not (syn_is_out past) && not (is_closed past))
          (three (is_accepted past) (syn_is_out past) (is_closed past) (o.holds.opened.calls two.0) (o.holds.opened.out ∙ two.1) o.holds.goes.open_yet)
          (not_before past f.asked f.ask_at asked (o.resolves is asked))))

      if_waits : (b : Bool) → f.asks ≡ b → IsFrom (if not b then Some f.ask_at else None) (wakes past)
      if_waits true is = tt
      if_waits false is = by f.mac refl resolving

  -- its connection's timer
  conn_from : (st : Stage) → f.conn.stage ≡ st → is_at_connecting st ≡ false → is_live st ≡ true → IsFrom (conn_due f.conn) (wakes past)
  conn_from stage.Connecting at apart live = absurd cc
  conn_from stage.SynSent at apart live =
      subst (λ (d : Option ℕ). IsFrom d (wakes past)) (sym (ap (λ (q : Stage). conn_due_by q f.conn) at)) (opening_from s f.conn f.up f.down past now o.holds (ap (λ (q : Stage). is_opening q) at))
  conn_from stage.SynReceived at apart live =
      subst (λ (d : Option ℕ). IsFrom d (wakes past)) (sym (ap (λ (q : Stage). conn_due_by q f.conn) at)) (opening_from s f.conn f.up f.down past now o.holds (ap (λ (q : Stage). is_opening q) at))
  conn_from stage.Synchronized at apart live =
      subst (λ (d : Option ℕ). IsFrom d (wakes past)) (sym (ap (λ (q : Stage). conn_due_by q f.conn) at))
      (synchronized_from s f.conn f.up f.down past now o.holds (ap (λ (q : Stage). is_opening q) at) (ap (λ (q : Stage). is_synchronized q) at))
  conn_from stage.TimeWait at apart live = absurd cc
  conn_from (stage.Resets seq ack) at apart live = absurd cc
  conn_from stage.Closed at apart live = absurd cc

  else_from : IsFrom (due_else f) (wakes past)
  else_from = by (is_at_connecting f.conn.stage) (resolves f) refl refl
    where
      by : (a b : Bool) → is_at_connecting f.conn.stage ≡ a → resolves f ≡ b → IsFrom (due_else f) (wakes past)
      by true b is resolving =
          let since = o.since in
          subst (λ (d : Option ℕ). IsFrom d (wakes past)) (sym (due_connects is))
          (from_first (connect_end f) (closing_moments past ++ moment_if (is_accepted past && not (syn_is_out past) && not (is_closed past)) (opened_at past + 1000)) _
          (from_first (connect_end f) (closing_moments past) _ (from_first (connect_end f) (moment_if (is_connecting past) (opened_at past + 75000)) _
          (from_if (connect_end f) (opened_at past + 75000) (is_connecting past) (o.holds.opened.connects ∙ is) (omega (arith, since))))))
      by false true apart resolving =
          subst (λ (d : Option ℕ). IsFrom d (wakes past)) (sym (due_apart apart ∙ ap (λ (b : Bool). if b then ask_due f else conn_due f.conn) resolving)) (resolving_from resolving)
      by false false apart known = subst (λ (d : Option ℕ). IsFrom d (wakes past)) (sym (due_known apart known)) (conn_from f.conn.stage refl apart o.holds.opened.live)

  pub open_by_resend : IsClear f → IsBy (due_of f) (resend_deadline past)
  open_by_resend clear =
      by_kind (λ (d : Option ℕ). IsBy d (resend_deadline past))
      (λ deserted. by_sooner (left_at f) (due_else f) (resend_deadline past) (else_by_resend clear)) (λ none. else_by_resend clear)

  pub open_from : IsFrom (due_of f) (wakes past)
  open_from =
      by_kind (λ (d : Option ℕ). IsFrom d (wakes past))
      (λ deserted. from_sooner (left_at f) (due_else f) (wakes past) (left_from s f past now follows_now open_yet deserted) else_from)
      (λ none. else_from)

-- ---- by where it stands

module _ (s : Settings) (f : Splice) (past : Story) (now : ℕ) (h : Follows s f past now) where
  shut_place : (p : Place) (b : Bool) → f.place ≡ p → f.shut ≡ b → (is_in_use p && not b) ≡ false → is_open f ≡ false
  shut_place p b at shut is = ap (λ (q : Place). is_in_use q && not f.shut) at ∙ ap (λ (d : Bool). is_in_use p && not d) shut ∙ is

  open_place : f.place ≡ InUse → f.shut ≡ false → is_open f ≡ true
  open_place at shut = ap (λ (p : Place). is_in_use p && not f.shut) at ∙ ap not shut

  pub due_by_connect : IsBy (due_of f) (close_deadline past)
  due_by_connect = by f.place f.shut refl refl h
    where
      by : (p : Place) (b : Bool) → f.place ≡ p → f.shut ≡ b → FollowsAt p b s f past now → IsBy (due_of f) (close_deadline past)
      by Empty b at shut q = (shut_by f past q.over.closed).0
      by InUse true at shut q = (shut_by f past q.over.closed).0
      by InUse false at shut q = open_by_connect s f past now q (open_place at shut)
      by (InTimeWait since) b at shut q = (shut_by f past q.time_waits.over.closed).0

  pub due_by_resend : IsClear f → IsBy (due_of f) (resend_deadline past)
  due_by_resend clear = by f.place f.shut refl refl h
    where
      by : (p : Place) (b : Bool) → f.place ≡ p → f.shut ≡ b → FollowsAt p b s f past now → IsBy (due_of f) (resend_deadline past)
      by Empty b at shut q = (shut_by f past q.over.closed).1
      by InUse true at shut q = (shut_by f past q.over.closed).1
      by InUse false at shut q = open_by_resend s f past now q (open_place at shut) clear
      by (InTimeWait since) b at shut q = (shut_by f past q.time_waits.over.closed).1

  pub due_from : IsFrom (due_of f) (wakes past)
  due_from = by f.place f.shut refl refl h
    where
      by : (p : Place) (b : Bool) → f.place ≡ p → f.shut ≡ b → FollowsAt p b s f past now → IsFrom (due_of f) (wakes past)
      by Empty b at shut q = shut_from f past (shut_place Empty b at shut refl)
      by InUse true at shut q = shut_from f past (shut_place InUse true at shut refl)
      by InUse false at shut q = open_from s f past now q (open_place at shut)
      by (InTimeWait since) b at shut q = shut_from f past (shut_place (InTimeWait since) b at shut refl)
