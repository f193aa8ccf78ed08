-- The causes of a close, one by one.
use Rattle.std.proofs.Common.{refl, ◌≡◌, ℕ, ◌+◌, ◌^◌, ◌%◌, ◌≤◌, [], ◌∷◌, length, Bool, true, false, not, ◌&&◌, ◌||◌, None, Some, if◌then◌else◌, IsTrue, min, nat_eq, nat_le, take, arith, ap, subst}
use Rattle.std.proofs.Common.{sym, ◌∙◌, inl, inr}
use Rattle.std.proofs.lemmas.Bool.Decides.{nat_tests}
use Rattle.seq_space.specs.Places.{number_of}
use Rattle.seq_space.specs.declared.Seq.{Seq}
use Rattle.sock_buffers.specs.Downward.{Downward}
use Rattle.sock_buffers.specs.Upward.{Upward}
use Rattle.tcp_receive.specs.Received.{next_number}
use Rattle.tcp_transmit.specs.Transmission.{IsSentOf, is_sent, octets_read}
use Rattle.tcp_transmit.specs.declared.End.{End}
use Rattle.tcp_transmit.specs.declared.End.TheVariants as our_end
use Rattle.tcp_connection.specs.Connection.{Connection, closes_first, is_opening, is_synchronized}
use Rattle.tcp_connection.specs.Hosts.{is_open, reset}
use Rattle.tcp_connection.specs.Segments.{is_done as takes_for_done, settled}
use Rattle.tcp_connection.specs.declared.Stage.{Stage}
use Rattle.tcp_connection.specs.declared.Stage.TheVariants as stage
use Rattle.spec_flow.specs.Settings.{Settings}
use Rattle.spec_flow.proofs.GuestLaws.{conforming_before}
use Rattle.spec_flow.specs.Event.{Arrives, Closes, ConnectFails, WriteFails, ReadFails, EndFails, At, Event, Opens, Segment, Story}
use Rattle.spec_flow.specs.Host.{answered, got_end}
use Rattle.spec_flow.specs.Flow.{guest, host, is_accepted, is_closed, next_number as number_after, our_number, syn_is_out, their_number}
use Rattle.spec_flow.specs.Close.{fin_was_acknowledged, finds_no_guest, follows_reset, gives_up, host_failed, host_was_ended, is_done, last_at, may_give_way, newest_rst, our_fin_is_acked, quiet_time, waits_too_long}
use Rattle.spec_flow.specs.Lawful.{Act, AskConnected, EndHost, HasCause, HasOwnCause, May, Read, Write, act_of}
use Rattle.spec_flow.specs.Dutiful.{Must, OffersEnough}
use Rattle.sim_halves.proofs.Acts.{may_ask, may_end, may_read, may_write, must_ask, must_end, must_read, must_write}
use Rattle.sim_halves.proofs.Owed.{done_owes_none, failed_owes, late_owes, reset_owes_none, way_owes}
use Rattle.sim_halves.proofs.Owing.{given_up_not_done, no_reset, unacked_not_done, unanswered_not_done, unended_not_done}
use Rattle.sim_halves.proofs.Resets.{reset_closes, reset_is_fatal, reset_turns_away, turning_away_is_fatal}
use Rattle.sim_halves.proofs.Rests.{closes_to_time_wait, done_is, our_fin, quiet_ends}
use Rattle.sim_halves.proofs.Steps.{told_the_end, wrote}
use Rattle.sim_halves.proofs.Wanting.{offers}
use Rattle.sim_connection.specs.Holding.{Holds, is_calls, is_at_connecting, is_live}
use Rattle.sim_connection.specs.Over.{IsOver, IsInTimeWait, Runs, is_resets}
use Rattle.sim_connection.specs.Seen.{outward_of, part_of}
use Rattle.sim_connection.proofs.Closing.{closes, closes_for, resets_over, runs_of, runs_on}
use Rattle.sim_connection.proofs.Going.{longer}
use Rattle.sim_connection.proofs.Leaving.{granted}
use Rattle.sim_connection.proofs.Telling.{shift_is}
use Rattle.sim_connection.proofs.Watching.{opening_is}

or_first : (a b : Bool) → a ≡ true → IsTrue (a || b)
or_first a b is = rw is refl

or_second : (a b : Bool) → b ≡ true → IsTrue (a || b)
or_second true b is = refl
or_second false b is = is

not_and : (a b : Bool) → a ≡ false → IsTrue b → IsTrue (not a && b)
not_and true b none is = absurd cc
not_and false b none is = is

module _ (s : Settings) (c : Connection) (up : Upward) (down : Downward) (past : Story) (now m : ℕ) (on : now ≤ m) (h : Holds s c up down past now) (known : Bool) where
  runs : Runs s past now
  runs = runs_of s past now h.goes

  unanswered : is_opening c.stage ≡ true → answered (host past) ≡ false
  unanswered opening = h.opened.answered ∙ opening_is c.stage h.opened.live opening

  -- ---- what was awaited too long

  module _ (directly : Bool) where
    -- The close doesn't come directly after a reset that was fatal.
    module _ (calm : follows_reset directly past ≡ false) where
      pub late_cause : IsTrue (gives_up m past || waits_too_long m past) → HasOwnCause directly false known m past
      late_cause late = inr (inl (not_and (follows_reset directly past) (gives_up m past || waits_too_long m past) calm late))

      -- time spoke against it
      stays_over : is_done past ≡ false → HasCause directly false known m past → IsTrue (gives_up m past || waits_too_long m past) → IsOver s (reset c) (At m (Closes directly false known) ∷ past) m
      stays_over unfinished cause late =
          resets_over s c up down past now m h past refl refl refl h.gives.keeps (λ n come. come) directly false known
          (closes_for s past now m directly false known runs on h.goes.open_yet cause) (late_owes past m directly false known late calm refl unfinished)

      -- nothing of what went out nine times was acknowledged
      pub gives_up_closes : IsTrue (gives_up m past) → IsOver s (reset c) (At m (Closes directly false known) ∷ past) m
      gives_up_closes is =
          stays_over (given_up_not_done s past m h.goes.lawful is) (inl (late_cause (or_first (gives_up m past) (waits_too_long m past) is)))
          (or_first (gives_up m past) (waits_too_long m past) is)

      -- the host didn't connect in time, or the guest of a peer that is gone didn't answer
      pub late_closes : is_opening c.stage ≡ true → IsTrue (waits_too_long m past) → IsOver s (reset c) (At m (Closes directly false known) ∷ past) m
      late_closes opening is =
          stays_over (unanswered_not_done past (unanswered opening)) (inl (late_cause (or_second (gives_up m past) (waits_too_long m past) is)))
          (or_second (gives_up m past) (waits_too_long m past) is)

      -- it gives way, in the last turn too
      pub way_closes : (ended : Bool) → IsTrue (may_give_way m past) → IsOver s (reset c) (At m (Closes directly ended known) ∷ past) m
      way_closes ended is =
          resets_over s c up down past now m h past refl refl refl h.gives.keeps (λ n come. come) directly ended known
          (closes_for s past now m directly ended known runs on h.goes.open_yet (inr is))
          (way_owes past m directly ended known is calm
          (not_both (is_closed past) (host_was_ended past) (our_fin_is_acked past) (fin_was_acknowledged past) (nat_le (last_at past + quiet_time past) m) is))
        where
          not_both : (a b d e n : Bool) → IsTrue (not a && not (b && d) && n) → (b && d && e) ≡ false
          not_both a true true e n is = absurd (never a is)
            where
              never : (a : Bool) → IsTrue (not a && not (true && true) && n) → ⊥
              never true is = cc
              never false is = cc
          not_both a true false e n is = refl
          not_both a false d e n is = refl

    -- the guest wasn't found, whatever came before the close
    pub unfound_cause : IsTrue (finds_no_guest known m past) → HasOwnCause directly false known m past
    unfound_cause is = inl (or_second (is_done past || false || host_failed past) (finds_no_guest known m past) is)

    pub unfound_closes : IsTrue (finds_no_guest known m past) → (is_accepted past && not (syn_is_out past)) ≡ true → IsOver s (reset c) (At m (Closes directly false known) ∷ past) m
    unfound_closes is silent =
        resets_over s c up down past now m h past refl refl refl h.gives.keeps (λ n come. come) directly false known
        (closes s past now m directly false known runs on h.goes.open_yet (unfound_cause is))
        (λ no_silence. let not_it = sym silent ∙ no_silence in absurd cc)

  -- ---- a call on the socket failed

  pub failed_cause : (at_end : Bool) (last : Story) → host_failed last ≡ true → HasOwnCause false at_end known m last
  failed_cause at_end last is = inl (or_first (is_done last || at_end || host_failed last) (finds_no_guest known m last) (or_second (is_done last || at_end) (host_failed last) is))

  fails : (at_end : Bool) (e : Event) (act : Act) → (Opens e → ⊥) → act_of e ≡ Some act → May s past m act → Must s past m act → is_closed (At m e ∷ past) ≡ false → host_failed (At m e ∷ past) ≡ true
      → Runs s (At m (Closes false at_end known) ∷ At m e ∷ past) m
  fails at_end e act opens_none is may must open_yet failed =
      closes s (At m e ∷ past) m m false at_end known (runs_on s past now m e act runs on opens_none is may must) (omega arith) open_yet (failed_cause at_end (At m e ∷ past) failed)

  pub refused_closes : (at_end : Bool) → is_at_connecting c.stage ≡ true → is_opening c.stage ≡ true → IsOver s (reset c) (At m (Closes false at_end known) ∷ At m ConnectFails ∷ past) m
  refused_closes at_end connects opening =
      resets_over s c up down past now m h (At m ConnectFails ∷ past) refl refl refl h.gives.keeps (λ n come. come) false at_end known
      (fails at_end ConnectFails AskConnected (λ none. none) refl (may_ask s past m h.goes.well h.goes.open_yet (h.opened.connects ∙ connects)) (must_ask s past m h.goes.free) h.goes.open_yet refl)
      (failed_owes (At m ConnectFails ∷ past) m false at_end known refl (unanswered_not_done (At m ConnectFails ∷ past) (unanswered opening)))

  pub read_fails_closes : (at_end : Bool) → is_open c.transmission.end ≡ true → is_at_connecting c.stage ≡ false → IsOver s (reset c) (At m (Closes false at_end known) ∷ At m ReadFails ∷ past) m
  read_fails_closes at_end yet joined =
      resets_over s c up down past now m h (At m ReadFails ∷ past) refl refl refl h.gives.keeps (λ n come. come) false at_end known
      (fails at_end ReadFails Read (λ none. none) refl (may_read s past m none_ended h.goes.well h.goes.open_yet (h.opened.connects ∙ joined)) (must_read s past m h.goes.free) h.goes.open_yet refl)
      (failed_owes (At m ReadFails ∷ past) m false at_end known refl (unacked_not_done (At m ReadFails ∷ past) not_acked))
    where
      none_ended : got_end (host past) ≡ false
      none_ended = sym h.gives.keeps.ended ∙ ap not yet

      sent_within : (e : End) (n octets : ℕ) → is_open e ≡ true → IsSentOf e n octets → n ≤ octets
      sent_within our_end.Open n octets is all = all
      sent_within our_end.Unsent n octets is all = all
      sent_within our_end.Sent n octets is all = absurd cc

      apart : (a n : ℕ) → a ≤ n → nat_eq a (n + 1) ≡ false
      apart a n low = grind (arith, nat_tests)

      not_acked : our_fin_is_acked past ≡ false
      not_acked =
          let low = sent_within c.transmission.end c.transmission.sent (octets_read down) yet h.buffers.feeds.all in
          our_fin (outward_of c.transmission down) past h.gives.keeps ∙ apart c.transmission.acked (octets_read down) (let order = h.buffers.feeds.sound.order in omega (arith, order, low))

  -- while the host wasn't told the guest's end
  module _ (reached : is_calls c.stage ≡ false) (joined : is_at_connecting c.stage ≡ false) (untold : c.host_ended ≡ false) where
    not_ended : host_was_ended past ≡ false
    not_ended = (h.receives reached).host_ended ∙ untold

    pub write_fails_closes : (at_end : Bool) → (k : ℕ) → k ≡ min 16384 (length up.held) → IsOver s (reset c) (At m (Closes false at_end known) ∷ At m (WriteFails (take k up.held)) ∷ past) m
    write_fails_closes at_end k all =
        let w = wrote s.ring (part_of c up) (guest past) k 0 (omega arith) (omega (arith, all)) (h.receives reached).follows in
        let enough : OffersEnough past (take k up.held) = subst (λ (j : ℕ). OffersEnough past (take j up.held)) (sym all) (offers s past (part_of c up) (h.receives reached).follows) in
        resets_over s c up down past now m h (At m (WriteFails (take k up.held)) ∷ past) refl refl refl h.gives.keeps
        (λ n come conforming. come (conforming_before (At m (WriteFails (take k up.held))) past conforming)) false at_end known
        (fails at_end (WriteFails (take k up.held)) (Write (take k up.held)) (λ none. none) refl (may_write s past m (take k up.held) w.1 w.2 h.goes.well h.goes.open_yet
        (h.opened.connects ∙ joined)) (must_write s past m (take k up.held) enough h.goes.free) h.goes.open_yet refl)
        (failed_owes (At m (WriteFails (take k up.held)) ∷ past) m false at_end known refl (unended_not_done (At m (WriteFails (take k up.held)) ∷ past) not_ended))

    pub end_fails_closes : (at_end : Bool) → up.held ≡ [] → c.received.ended ≡ true → IsOver s (reset c) (At m (Closes false at_end known) ∷ At m EndFails ∷ past) m
    end_fails_closes at_end none ended =
        let t = told_the_end s.ring (part_of c up) (guest past) none ended untold (h.receives reached).follows in
        resets_over s c up down past now m h (At m EndFails ∷ past) refl refl refl h.gives.keeps (λ n come conforming. come (conforming_before (At m EndFails) past conforming)) false at_end known
        (fails at_end EndFails EndHost (λ none. none) refl (may_end s past m (t.1, t.2) h.goes.well h.goes.open_yet (h.opened.connects ∙ joined)) (must_end s past m h.goes.free) h.goes.open_yet refl)
        (failed_owes (At m EndFails ∷ past) m false at_end known refl (unended_not_done (At m EndFails ∷ past) not_ended))

  -- ---- both ends passed

  and_four : (a b d e : Bool) → (a && b && d && e) ≡ true → (a ≡ true) × (b ≡ true) × (d ≡ true) × (e ≡ true)
  and_four true true true true is = (refl, refl, refl, refl)
  and_four true true true false is = absurd cc
  and_four true true false e is = absurd cc
  and_four true false d e is = absurd cc
  and_four false b d e is = absurd cc

  module _ (done : takes_for_done c ≡ true) (reached : is_calls c.stage ≡ false) (no_rst : newest_rst past ≡ None) (directly ended : Bool) where
    four : (is_synchronized c.stage ≡ true) × (c.host_ended ≡ true) × (c.fin_acked ≡ true) × (c.end_acknowledged ≡ true)
    four = and_four (is_synchronized c.stage) c.host_ended c.fin_acked c.end_acknowledged done

    fin_now : our_fin_is_acked past ≡ true
    fin_now = our_fin (outward_of c.transmission down) past h.gives.keeps ∙ sym h.gives.fin_acked ∙ four.2

    is_done_now : IsTrue (is_done past)
    is_done_now = done_is past (part_of c up) c.end_acknowledged c.ours_first c.acknowledged (h.receives reached).ends ((h.receives reached).host_ended ∙ four.1) fin_now four.3

    pub done_cause : HasOwnCause directly ended known m past
    done_cause = inl (or_first (is_done past || ended || host_failed past) (finds_no_guest known m past) (or_first (is_done past || ended) (host_failed past)
        (or_first (is_done past) ended is_done_now)))

    done_runs : Runs s (At m (Closes directly ended known) ∷ past) m
    done_runs = closes s past now m directly ended known runs on h.goes.open_yet done_cause

    equal : (a b : ℕ) → b ≡ a → nat_eq a b ≡ true
    equal a b is = grind (arith, nat_tests)

    first_now : closes_first c ≡ c.ours_first
    first_now = ap (λ (b : Bool). if b then c.ours_first else is_sent c.transmission.end) (equal (next_number c.received) c.acknowledged ((h.receives reached).sure four.3).1)

    done_over : (st : Stage) → is_live st ≡ false → is_resets st ≡ false → ((seq ack : Seq) → st ≡ stage.Resets seq ack → ⊥) → IsOver s (record c { stage = st })
        (At m (Closes directly ended known) ∷ past) m
    done_over st dead none never = record {
      runs = done_runs;
      closed = refl;
      well = refl;
      over = dead;
      owes = done_owes_none past m directly ended known is_done_now ∙ sym none;
      pays = λ seq ack is. absurd (never seq ack is);
      came = λ seq ack is. absurd (never seq ack is);
    }

    -- the host ended last: it is gone
    pub done_goes : IsOver s (record c { stage = stage.Closed }) (At m (Closes directly ended known) ∷ past) m
    done_goes = done_over stage.Closed refl refl (λ seq ack is. cc)

    connects_none : (st : Stage) → is_synchronized st ≡ true → is_at_connecting st ≡ false
    connects_none stage.Connecting is = absurd cc
    connects_none stage.SynSent is = refl
    connects_none stage.SynReceived is = refl
    connects_none stage.Synchronized is = refl
    connects_none stage.TimeWait is = refl
    connects_none (stage.Resets seq ack) is = refl
    connects_none stage.Closed is = refl

    -- our end came first: it is in TIME-WAIT
    pub done_rests : closes_first c ≡ true → IsInTimeWait s (record c { stage = stage.TimeWait }) up down (At m (Closes directly ended known) ∷ past) m m
    done_rests first =
        let r = h.receives reached in
        let e = quiet_ends past (part_of c up) (part_of (record c { stage = stage.TimeWait }) up) c.end_acknowledged c.ours_first c.acknowledged m
        (Closes directly ended known) tt refl (λ i x is. is) r.ends in
        record {
          over = done_over stage.TimeWait refl refl (λ seq ack is. cc);
          at = refl;
          begun = closes_to_time_wait past (part_of c up) c.end_acknowledged c.ours_first c.acknowledged m directly ended known r.ends is_done_now (no_reset past directly no_rst)
              ∙ ap (λ (b : Bool). if b then Some m else None) (sym first_now ∙ first);
          theirs = h.opened.theirs ∙ ap (λ (b : Bool). if b then None else Some c.received.first) reached;
          out = h.opened.out ∙ h.opened.sent four.0;
          shift = shift_is s c past h.suits h.opened;
          follows = r.follows;
          ends = e;
          next = (r.sure four.3).1;
          ended = (r.sure four.3).0;
          fin_out = h.gives.fin_out;
          first = sym h.gives.keeps.first;
          sent = sym h.gives.keeps.sent;
          granted = granted s c past h.opened h.goes.open_yet (connects_none c.stage four.0);
          prompted = r.prompted;
          answered = r.answered four.3;
        }

    -- so it is what the connection makes of itself
    pub settled_is : settled c ≡ (if closes_first c then record c { stage = stage.TimeWait } else record c { stage = stage.Closed })
    settled_is = ap (λ (b : Bool). if b then (if closes_first c then record c { stage = stage.TimeWait } else record c { stage = stage.Closed }) else c) done

  -- ---- the guest reset it

  came : (seg : Segment) → Runs s (At m (Arrives seg) ∷ past) m
  came seg = record {
    story = longer past m (Arrives seg) (λ none. none) (omega (arith, h.goes.moment, on)) h.goes.story;
    moment = omega arith;
    lawful = (h.goes.well, h.goes.lawful);
    dutiful = (h.goes.free, h.goes.dutiful);
  }

  reset_over : (at_end : Bool) (seg : Segment) → HasOwnCause true at_end known m (At m (Arrives seg) ∷ past) → follows_reset true (At m (Arrives seg) ∷ past) ≡ true
      → IsOver s (record c { stage = stage.Closed }) (At m (Closes true at_end known) ∷ At m (Arrives seg) ∷ past) m
  reset_over at_end seg cause fatal = record {
    runs = closes s (At m (Arrives seg) ∷ past) m m true at_end known (came seg) (omega arith) h.goes.open_yet cause;
    closed = refl;
    well = refl;
    over = refl;
    owes = reset_owes_none (At m (Arrives seg) ∷ past) m true at_end known fatal;
    pays = λ seq ack is. absurd cc;
    came = λ seq ack is. absurd cc;
  }

  -- at the number that is expected next
  pub next_reset_cause : (at_end : Bool) (seg : Segment) → is_calls c.stage ≡ false → seg.rst ≡ true → seg.number ≡ next_number c.received → HasOwnCause true at_end known m (At m (Arrives seg) ∷ past)
  next_reset_cause at_end seg reached rst number =
      reset_closes s m past seg rst (part_of c up) at_end known m (h.opened.theirs ∙ ap (λ (b : Bool). if b then None else Some c.received.first) reached) (h.receives reached).follows number

  pub next_reset_closes : (at_end : Bool) (seg : Segment) → is_calls c.stage ≡ false → seg.rst ≡ true → seg.number ≡ next_number c.received
      → IsOver s (record c { stage = stage.Closed }) (At m (Closes true at_end known) ∷ At m (Arrives seg) ∷ past) m
  next_reset_closes at_end seg reached rst number =
      let r = h.receives reached in
      let theirs = h.opened.theirs ∙ ap (λ (b : Bool). if b then None else Some c.received.first) reached in
      reset_over at_end seg (next_reset_cause at_end seg reached rst number)
      (reset_is_fatal s m past seg rst (part_of c up) c.acknowledged theirs r.ends.at r.current number)

  -- or, of a guest that is called, where it acknowledges our SYN
  unknown_yet : is_calls c.stage ≡ true → their_number past ≡ None
  unknown_yet calls = h.opened.theirs ∙ ap (λ (b : Bool). if b then None else Some c.received.first) calls

  after_ours : (seg : Segment) → seg.acknowledgement ≡ number_of c.ours 0 → seg.acknowledgement ≡ number_after (our_number past)
  after_ours seg number = number ∙ ap (λ (n : ℕ). n % 2 ^ 32) (let more : c.ours + 1 + 0 ≡ c.ours + 1 = omega arith in more) ∙ ap (λ (f : ℕ). number_after f) (sym h.opened.ours)

  pub called_reset_cause : (at_end : Bool) (seg : Segment) → is_calls c.stage ≡ true → seg.rst ≡ true → seg.ack ≡ true → seg.acknowledgement ≡ number_of c.ours 0 →
      HasOwnCause true at_end known m (At m (Arrives seg) ∷ past)
  called_reset_cause at_end seg calls rst ack number = reset_turns_away s m past seg rst at_end known m (unknown_yet calls) ack (after_ours seg number)

  pub called_reset_closes : (at_end : Bool) (seg : Segment) → is_calls c.stage ≡ true → seg.rst ≡ true → seg.ack ≡ true → seg.acknowledgement ≡ number_of c.ours 0
      → IsOver s (record c { stage = stage.Closed }) (At m (Closes true at_end known) ∷ At m (Arrives seg) ∷ past) m
  called_reset_closes at_end seg calls rst ack number =
      reset_over at_end seg (called_reset_cause at_end seg calls rst ack number) (turning_away_is_fatal s m past seg rst (unknown_yet calls) ack (after_ours seg number))
