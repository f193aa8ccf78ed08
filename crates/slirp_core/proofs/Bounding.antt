-- The core waits no longer than the trace allows, and is woken for nothing else than what the trace asks for.
use Rattle.std.proofs.Common.{◌≡◌, ℕ, zero, suc, ◌+◌, ◌-◌, ◌<◌, ◌≤◌, ◌&&◌, not, cond, min, nat_le, nat_lt, Bool, true, false, is_some, List, [], ◌∷◌, ◌++◌, All, Any, filter, map}
use Rattle.std.proofs.Common.{slice_get, Option, Some, None, option_map, inl, inr, refl, sym, ap, ◌∙◌, subst, arith}
use Rattle.std.proofs.lemmas.Bool.Decides.{nat_tests}
use Rattle.std.proofs.lemmas.List.Elements.{All-head, All-tail}
use Rattle.world_face.specs.Journal.{Entry}
use Rattle.world_face.specs.Frames.{is_blocked}
use Rattle.slirp_settings.specs.Addresses.{Config}
use Rattle.ipv4_head.specs.Sets.{PartSet, is_young, young}
use Rattle.rules_udp.specs.Associations.{idle_life, is_over as is_idle_association, numbered, numbers}
use Rattle.rules_udp.specs.declared.Association.{Association}
use Rattle.rules_dns.specs.Questions.{is_over as is_idle_question, numbers as question_numbers, question_life}
use Rattle.rules_dns.specs.declared.Question.{Question}
use Rattle.rules_tftp.specs.Transfers.{Transfer, next_again, ticked}
use Rattle.rules_tftp.proofs.Turning.{next_left, ticked_none}
use Rattle.spec_flow.specs.Close.{is_in_use}
use Rattle.spec_flow.specs.Dutiful.{AreAhead, close_deadline, resend_deadline, wakes}
use Rattle.spec_flow.specs.Event.{Story}
use Rattle.spec_flow.specs.Bounds.{IsBy, IsFrom}
use Rattle.spec_flows.specs.Book.{book, is_young as is_young_time_wait, longest_time_wait}
use Rattle.spec_flows.specs.Flows.{Flow, TimeWait}
use Rattle.spec_flows.specs.Laws.{flow_settings}
use Rattle.spec_trace.specs.Fragments.{waiting}
use Rattle.spec_trace.specs.Moments.{moment}
use Rattle.spec_trace.specs.Sockets.{is_among, next_number}
use Rattle.spec_run.specs.Answers.{is_free, is_out, ledger, left, serving}
use Rattle.spec_run.specs.Names.{questions}
use Rattle.spec_run.specs.Ports.{associations_open, used_at}
use Rattle.spec_run.specs.Questions.{questions_open}
use Rattle.spec_run.specs.Relayed.{associations}
use Rattle.spec_run.proofs.Bools.{same}
use Rattle.spec_run.proofs.Finding.{same_sockets, says_of}
use Rattle.spec_run.proofs.Joining.{joined}
use Rattle.spec_run.proofs.KeptFiles.{now_is}
use Rattle.spec_run.proofs.Listed.{AllQuestions}
use Rattle.spec_run.proofs.Waiting.{IsUsed, are_waiting, same_waiting}
use Rattle.stream_netdev.specs.State.{LinkState}
use Rattle.sim_flows.specs.FlowsHold.{time_waits_at}
use Rattle.flow_splice.proofs.Stages.{resends_none}
use Rattle.flow_splice.specs.Splice.{Splice, is_open}
use Rattle.flow_splice.specs.Wants.{due_of, HasTime}
use Rattle.flow_splice.specs.declared.Place.{Place}
use Rattle.flow_splice.specs.declared.Place.TheVariants.{Empty, InUse, InTimeWait}
use Rattle.flow_splice.proofs.Promises.{settled_is, waited_is}
use Rattle.sim_flows.specs.Core.{Following, number_of}
use Rattle.sim_flows.proofs.Options.{true_false}
use Rattle.spec_duties.specs.Times.{alarms, association_lives, deadlines, drops, file_alarms, lives, of_flows, question_lives, time_wait_ends, unless_blocked, wait_end}
use Rattle.spec_duties.proofs.Lives.{at_front, drops_from, lives_by, lives_from, used_by_now}
use Rattle.spec_duties.proofs.Waited.{questions_by, questions_from}
use Rattle.sim_halves.proofs.Moments.{by_both}
use Rattle.sim_flows.proofs.Bounding.{by_any, by_earlier, flows_by, from_first, from_later, from_second}
use Rattle.sim_flows.proofs.Placing.{each, not_in_use}
use Rattle.tcp_flows.specs.Reading.{AllClear, IsDue, IsNextAfter, time_wait_end, time_at}
use Rattle.tcp_flows.specs.Settled.{IsInTime}
use Rattle.tcp_flows.specs.Waits.{IsForSome, IsInTimeAfter, IsInTimeFor, TimeWaitLater, TimeWaitOnce}
use Rattle.tcp_flows.proofs.Apart.{are_once, once_filter}
use Rattle.tcp_flows.proofs.Ahead.{due_later, have_stories, story_ahead}
use Rattle.tcp_flows.proofs.Awaiting.{same_later, closed_at_none}
use Rattle.tcp_flows.specs.Settled.{HaveTime}
use Rattle.slirp_core.specs.Fragments.{IsHeld}
use Rattle.slirp_core.specs.Holds.{Holds, Standing, flowing}
use Rattle.slirp_core.specs.Owed.{IsOwed}
use Rattle.slirp_core.specs.Pumps.{question_left, time_left}
use Rattle.slirp_core.specs.State.{SlirpState}
use Rattle.world_face.specs.Moments.{sooner}
use Rattle.slirp_core.specs.Timeouts.{IsFileTime, IsPartTime, IsTimeout, SuitsFlows}
use Rattle.slirp_core.specs.Waiting.{AreFresh}
use Rattle.tcp_flows.proofs.Timely.{shut_has_time}

-- ---- two times

-- the shorter of two times is by what either is by, and from what both are from
by_first : (now : ℕ) (one other : Option ℕ) (ms : List ℕ) → IsBy (wait_end now one) ms → IsBy (wait_end now (sooner one other)) ms
by_first now None None ms is = is
by_first now None (Some other) ms is = by_any (now + other) ms is
by_first now (Some one) None ms is = is
by_first now (Some one) (Some other) ms is = by_earlier (now + min one other) (now + one) ms (omega arith) is

by_second : (now : ℕ) (one other : Option ℕ) (ms : List ℕ) → IsBy (wait_end now other) ms → IsBy (wait_end now (sooner one other)) ms
by_second now None other ms is = is
by_second now (Some one) None ms is = by_any (now + one) ms is
by_second now (Some one) (Some other) ms is = by_earlier (now + min one other) (now + other) ms (omega arith) is

from_each : (now : ℕ) (one other : Option ℕ) (ms : List ℕ) → IsFrom (wait_end now one) ms → IsFrom (wait_end now other) ms → IsFrom (wait_end now (sooner one other)) ms
from_each now None other ms is_one is_other = is_other
from_each now (Some one) None ms is_one is_other = is_one
from_each now (Some one) (Some other) ms is_one is_other = by (nat_le one other) refl
  where
    by : (b : Bool) → nat_le one other ≡ b → IsFrom (Some (now + min one other)) ms
    by true is = from_later (now + one) (now + min one other) ms (grind (arith, nat_tests, is)) is_one
    by false is = from_later (now + other) (now + min one other) ms (grind (arith, nat_tests, is)) is_other

-- what is from one of two lists is from all that either is from
from_some : (due : Option ℕ) (a b ms : List ℕ) → IsFrom due (a ++ b) → (IsFrom due a → IsFrom due ms) → (IsFrom due b → IsFrom due ms) → IsFrom due ms
from_some None a b ms is one other = tt
from_some (Some at) [] b ms is one other = other is
from_some (Some at) (m ∷ a) b ms (inl low) one other = one (inl low)
from_some (Some at) (m ∷ a) b ms (inr rest) one other = from_some (Some at) a b ms rest (λ is. one (inr is)) other

-- ---- until a moment, by the time that is left until then

left_by : (now at : ℕ) (ms : List ℕ) → AreAhead now ms → IsBy (Some at) ms → IsBy (Some (now + (at - now))) ms
left_by now at [] ahead is = tt
left_by now at (m ∷ ms) ahead is = ((let soon = ahead.0 in let by = is.0 in omega (arith, soon, by)), left_by now at ms ahead.1 is.1)

until_left : (now : ℕ) (due time : Option ℕ) (ms : List ℕ) → time ≡ option_map (λ at. at - now) due → AreAhead now ms → IsBy due ms → IsBy (wait_end now time) ms
until_left now None time ms left ahead is = subst (λ (o : Option ℕ). IsBy (wait_end now o) ms) (sym left) is
until_left now (Some at) time ms left ahead is = subst (λ (o : Option ℕ). IsBy (wait_end now o) ms) (sym left) (left_by now at ms ahead is)

from_left : (now : ℕ) (due time : Option ℕ) (ms : List ℕ) → time ≡ option_map (λ at. at - now) due → IsFrom due ms → IsFrom (wait_end now time) ms
from_left now None time ms left is = subst (λ (o : Option ℕ). IsFrom (wait_end now o) ms) (sym left) is
from_left now (Some at) time ms left is = subst (λ (o : Option ℕ). IsFrom (wait_end now o) ms) (sym left) (from_later at (now + (at - now)) ms (omega arith) is)

-- moments that are ahead come at the next one or later
next_by : (now : ℕ) (ms : List ℕ) → AreAhead now ms → IsBy (Some (now + 1)) ms
next_by now [] ahead = tt
next_by now (m ∷ ms) ahead = ((let low = ahead.0 in omega (arith, low)), next_by now ms ahead.1)

by_next : (now : ℕ) (ms : List ℕ) → IsBy (Some (now + 1)) ms → AreAhead now ms
by_next now [] is = tt
by_next now (m ∷ ms) is = ((let low = is.0 in omega (arith, low)), by_next now ms is.1)

-- ---- what flows are told the time for

module _ (config : Config) (now : ℕ) (blocked : Bool) (parts : List (Option Splice)) (past : List Entry) (due time : Option ℕ) (left : time ≡ option_map (λ at. at - now) due)
    (for_some : IsForSome config past due) where
  part_later : moment past ≡ now → TimeWaitLater (moment past) parts → HaveTime now parts → ((n : ℕ) → IsInTime now parts n) → (at : ℕ) → IsDue parts at → now < at
  part_later clock time_waits early timely at is = by is.some.1.place refl
    where
      some_at : (m : ℕ) → ◌≡◌ {A = Option ℕ} (Some m) (Some at) → m ≡ at
      some_at m is = cc

      k : ℕ
      k = is.some.0

      p : Splice
      p = is.some.1

      time_of_part : (b : Bool) → is_open p ≡ b → HasTime p now
      time_of_part true open_yet = early k p (record { here = is.some.2; open_yet = open_yet })
      time_of_part false shut = shut_has_time p now shut

      time_is : (x : Place) → p.place ≡ x → time_at x (due_of p) ≡ Some at
      time_is x place = sym (ap (λ (y : Place). time_at y (due_of p)) place) ∙ is.some.3

      by : (x : Place) → p.place ≡ x → now < at
      by Empty place = let none = time_is Empty place in absurd cc
      by InUse place = due_later now p at (time_of_part (is_open p) refl)
          (λ open_yet. timely (number_of p) k p (record { here = is.some.2; open_yet = open_yet }) refl) (time_is InUse place)
      by (InTimeWait since) place =
          let same = some_at (time_wait_end since) (time_is (InTimeWait since) place) in
          let late = time_waits k p since is.some.2 place in
          omega (arith, same, late, clock)

  -- what is due first suits them
  pub suits_due : IsInTimeFor config parts past due → (TimeWaitOnce config past → IsBy due (time_wait_ends config past)) → TimeWaitLater (moment past) parts
      → ((at : ℕ) → due ≡ Some at → IsDue parts at × ((blocked && nat_le at now) ≡ false)) → SuitsFlows config now blocked parts past time
  suits_due in_time time_waits rest_later first = record {
    later = λ clock early timely at is. later_by blocked refl clock early timely at (first at is);
    due = due;
    left = left;
    connects = λ ahead. in_time.connects;
    resends = λ free clear. in_time.resends clear;
    time_waits = λ once ahead. time_waits once;
    for_some = for_some;
  }
    where
      later_by : (b : Bool) → blocked ≡ b → moment past ≡ now → HaveTime now parts → (blocked ≡ false → (n : ℕ) → IsInTime now parts n) → (at : ℕ)
          → IsDue parts at × ((blocked && nat_le at now) ≡ false) → now < at
      later_by true is clock early timely at two = after at (sym (ap (λ (b : Bool). b && nat_le at now) is) ∙ two.1)
        where
          after : (m : ℕ) → nat_le m now ≡ false → now < m
          after m is = grind (arith, nat_tests)
      later_by false is clock early timely at two = part_later clock rest_later early (timely is) at two.0

  all_after : (ms : List ℕ) → AreAhead now ms → filter (nat_lt now) ms ≡ ms
  all_after [] ahead = refl
  all_after (m ∷ ms) ahead = by (nat_lt now m) (let later = ahead.0 in grind (arith, nat_tests, later)) (all_after ms ahead.1)
    where
      by : (b : Bool) → b ≡ true → filter (nat_lt now) ms ≡ ms → cond b (m ∷ filter (nat_lt now) ms) (filter (nat_lt now) ms) ≡ m ∷ ms
      by true is more = ap (λ l. m ∷ l) more
      by false is more = absurd cc

  -- and where the link is blocked so does what is due first after now
  pub suits_after : blocked ≡ true → IsInTimeAfter config now past due → (TimeWaitOnce config past → IsBy due (filter (nat_lt now) (time_wait_ends config past)))
      → IsNextAfter now parts due → SuitsFlows config now blocked parts past time
  suits_after waits in_time time_waits next = record {
    later = λ clock early timely at is. after_at at (subst (λ (o : Option ℕ). IsNextAfter now parts o) is next);
    due = due;
    left = left;
    connects = λ ahead. subst (λ (ms : List ℕ). IsBy due ms) (same_later now (book config past).flows ahead) in_time;
    resends = λ free clear. absurd (true_false (sym waits ∙ free));
    time_waits = λ once ahead. subst (λ (ms : List ℕ). IsBy due ms) (all_after (time_wait_ends config past) ahead) (time_waits once);
    for_some = for_some;
  }
    where
      after_at : (at : ℕ) → IsNextAfter now parts (Some at) → now < at
      after_at at is = is.after

-- ---- sockets

-- where no socket is open none has a life
none_lives : (due : Option ℕ) (life : ℕ → ℕ) (ns : List ℕ) → ((n : ℕ) → is_among n ns ≡ false) → IsBy due (map life ns)
none_lives due life [] none = empty due
  where
    empty : (o : Option ℕ) → IsBy o []
    empty o = tt
none_lives due life (n ∷ ns) none = absurd (true_false (sym (at_front n ns) ∙ none n))

-- ---- fragments

-- sets that aren't to be dropped yet stay
fresh_stay : (now : ℕ) (sets : List PartSet) → All (λ (s : PartSet). now < s.since + 60000) sets → young now sets ≡ sets
fresh_stay now [] fresh = refl
fresh_stay now (s ∷ sets) fresh = by (is_young now s) refl (fresh_stay now sets (λ k d low. fresh (suc k) d (omega (arith, low))))
  where
    first : now < s.since + 60000
    first = fresh 0 s (omega arith)

    by : (b : Bool) → is_young now s ≡ b → young now sets ≡ sets → cond b (s ∷ young now sets) (young now sets) ≡ s ∷ sets
    by true is rest = ap (λ l. s ∷ l) rest
    by false is rest = let low = first in absurd (grind (arith, nat_tests, is, low))

-- ---- files

abbrev dues : List Transfer → List ℕ
dues transfers = map (λ (t : Transfer). t.due) transfers

-- one of them is due then, after now
later_from : (now at : ℕ) (ts : List Transfer) → now < at → Any (λ (t : Transfer). t.due ≡ at) ts → IsFrom (Some at) (filter (nat_lt now) (dues ts))
later_from now at [] later (k, x, low, here, is) = absurd (omega (arith, low))
later_from now at (t ∷ ts) later (zero, x, low, here, is) = by (nat_lt now t.due) refl
  where
    first : t.due ≡ at
    first = ap (λ (u : Transfer). u.due) here ∙ is

    by : (b : Bool) → nat_lt now t.due ≡ b → IsFrom (Some at) (cond b (t.due ∷ filter (nat_lt now) (dues ts)) (filter (nat_lt now) (dues ts)))
    by true after = inl (omega (arith, first))
    by false over = absurd (let same = first in grind (arith, nat_tests, over, later, same))
later_from now at (t ∷ ts) later (suc k, x, low, here, is) = by (nat_lt now t.due) (later_from now at ts later (k, x, omega (arith, low), here, is))
  where
    by : (b : Bool) → IsFrom (Some at) (filter (nat_lt now) (dues ts)) → IsFrom (Some at) (cond b (t.due ∷ filter (nat_lt now) (dues ts)) (filter (nat_lt now) (dues ts)))
    by true rest = inr rest
    by false rest = rest

-- none after now is due before
later_by : (now at : ℕ) (ts : List Transfer) → All (λ (t : Transfer). now < t.due → at ≤ t.due) ts → IsBy (Some at) (filter (nat_lt now) (dues ts))
later_by now at [] first = tt
later_by now at (t ∷ ts) first = by (nat_lt now t.due) refl (later_by now at ts (λ k d low. first (suc k) d (omega (arith, low))))
  where
    by : (b : Bool) → nat_lt now t.due ≡ b → IsBy (Some at) (filter (nat_lt now) (dues ts)) → IsBy (Some at) (cond b (t.due ∷ filter (nat_lt now) (dues ts)) (filter (nat_lt now) (dues ts)))
    by true after rest = (first 0 t (omega arith) (grind (arith, nat_tests, after)), rest)
    by false over rest = rest

-- where none is due after now there is nothing to wait for
none_by : (now : ℕ) (ts : List Transfer) → All (λ (t : Transfer). t.due ≤ now) ts → IsBy None (filter (nat_lt now) (dues ts))
none_by now [] over = tt
none_by now (t ∷ ts) over = by (nat_lt now t.due) refl (none_by now ts (λ k d low. over (suc k) d (omega (arith, low))))
  where
    by : (b : Bool) → nat_lt now t.due ≡ b → IsBy None (filter (nat_lt now) (dues ts)) → IsBy None (cond b (t.due ∷ filter (nat_lt now) (dues ts)) (filter (nat_lt now) (dues ts)))
    by true after rest = let low = over 0 t (omega arith) in absurd (grind (arith, nat_tests, after, low))
    by false before rest = rest

-- no frame is left where all are out
all_out : (frames : List (List ℕ)) → is_out frames ≡ true → frames ≡ []
all_out [] is = refl
all_out (f ∷ frames) is = absurd cc

-- the transfers that are kept are those that a wait leaves
waited_files : (config : Config) (slirp : SlirpState) (past : List Entry) → (serving config past).now ≡ slirp.moment →
    (slirp.pending ≡ [] → next_again slirp.moment slirp.transfers ≡ None) → IsOwed config true slirp past
    → slirp.transfers ≡ ticked (serving config past).now (is_free (ledger config past)) (serving config past).files.transfers
waited_files config slirp past at none_again (inl l) = by (is_free (ledger config past)) refl
  where
    now_is : ℕ
    now_is = (serving config past).now

    ts : List Transfer
    ts = (serving config past).files.transfers

    first_true : (a b : Bool) → (a && b) ≡ true → a ≡ true
    first_true true b is = refl
    first_true false b is = absurd cc

    by : (b : Bool) → is_free (ledger config past) ≡ b → slirp.transfers ≡ ticked now_is b ts
    by false held = l.files
    by true free =
        let none : slirp.pending ≡ [] = all_out slirp.pending (ap is_out (sym l.left) ∙ first_true (is_out (left config past)) (not (is_some (serving config past).again)) free) in
        let over : next_again now_is ts ≡ None =
        sym (next_left now_is ts) ∙ ap (next_again now_is) (sym l.files) ∙ ap (λ (m : ℕ). next_again m slirp.transfers) at ∙ none_again none in
        l.files ∙ sym (ticked_none now_is true ts over)
waited_files config slirp past at none_again (inr f) =
    f.files ∙ ap (λ (frames : List (List ℕ)). ticked (serving config past).now (is_out frames && not (is_some (serving config past).again)) (serving config past).files.transfers) (sym f.left)

-- ---- a wait

module _ (config : Config) (at : Standing) (slirp : SlirpState) (link : LinkState) (past : List Entry) (holds : Holds config at slirp (flowing true slirp.flows) link past) where
  abbrev now : ℕ
  now = slirp.moment

  abbrev flows : List Flow
  flows = (book config past).flows

  -- ---- what is ahead of a flow

  flows_ahead : (moments : Story → List ℕ) → ((k : ℕ) (p : Splice) (story : Story) → slice_get slirp.flows.flows.slots k ≡ Some (Some p) → Following config now p story → AreAhead now (moments story))
      → ((story : Story) → is_in_use story ≡ false → AreAhead now (moments story)) → AreAhead now (of_flows moments flows)
  flows_ahead moments of_part of_closed =
      by_next now (of_flows moments flows)
      (flows_by (Some (now + 1)) moments flows holds.flows.holds.seats.differ
      (λ n f found. next_by now (moments f.story)
      (each number_of (Following config now) slirp.flows.flows.table slirp.flows.flows.slots (next_number past) flows (time_waits_at true config past) holds.flows.holds.seats
      (λ story. AreAhead now (moments story)) of_part of_closed n f found)))

  -- no host had its time to connect
  connects_ahead : HaveTime now slirp.flows.flows.slots → AreAhead now (of_flows close_deadline flows)
  connects_ahead early =
      flows_ahead close_deadline
      (λ k p story here follows. (waited_is (flow_settings config) p story now follows (had k p here (is_open p) refl)).connects)
      (λ story unused. subst (λ ms. AreAhead now ms) (sym (closed_at_none story (not_in_use story unused))) tt)
    where
      had : (k : ℕ) (p : Splice) → slice_get slirp.flows.flows.slots k ≡ Some (Some p) → (b : Bool) → is_open p ≡ b → HasTime p now
      had k p here true open_yet = early k p (record { here = here; open_yet = open_yet })
      had k p here false shut = shut_has_time p now shut

  -- and what is under way of a flow in time that owes no frame goes again within a minute
  resends_ahead : AllClear slirp.flows.flows.slots → ((n : ℕ) → IsInTime now slirp.flows.flows.slots n) → AreAhead now (of_flows resend_deadline flows)
  resends_ahead clear soon =
      flows_ahead resend_deadline
      (λ k p story here follows.
      (settled_is (flow_settings config) p story now false follows (clear k p here) (λ unknown. refl)).resends
      (story_ahead now p (have_stories config now true None slirp.flows.flows past holds.flows.holds k p here) (λ open_yet. soon (number_of p) k p (record { here = here; open_yet = open_yet }) refl)))
      (λ story unused. subst (λ ms. AreAhead now ms) (sym (resends_none story (not_in_use story unused))) tt)

  -- ---- sockets

  module _ (young_now : All (λ a. is_idle_association now a ≡ false) slirp.associations) (recent : All (λ q. is_idle_question now q ≡ false) slirp.questions) where
    all_young : All (λ a. is_idle_association now a ≡ false) (associations config past)
    all_young = subst (λ l. All (λ a. is_idle_association now a ≡ false) l) (sym holds.relayed.list) young_now

    all_recent : All (λ q. is_idle_question now q ≡ false) (questions config past)
    all_recent = subst (λ l. All (λ q. is_idle_question now q ≡ false) l) (sym holds.relayed.questions) recent

    -- the longest unused was used before now
    socket_used : (o : Association) (rest : List Association) → associations config past ≡ o ∷ rest → o.used ≤ now
    socket_used o rest is =
        let mine = (says_of config past o.number (associations config past) o (joined config past holds.lawful).kept
        (ap (numbered o.number) is ∙ ap (λ (b : Bool). cond b (Some o) (numbered o.number rest)) (same o.number))).used in
        let low = used_by_now o.number past in
        let at_now = holds.clock.moment in
        omega (arith, mine, low, at_now)

    question_used : (o : Question) (rest : List Question) → questions config past ≡ o ∷ rest → o.used ≤ now
    question_used o rest is =
        let all = subst (AllQuestions (IsUsed past)) is (are_waiting config past holds.lawful).used in
        let mine = all.0.used in
        let low = used_by_now o.number past in
        let at_now = holds.clock.moment in
        omega (arith, mine, low, at_now)

    associations_until : IsBy (wait_end now (time_left now slirp.associations)) (association_lives config past)
    associations_until = by slirp.associations holds.relayed.list
      where
        by : (list : List Association) → associations config past ≡ list → IsBy (wait_end now (time_left now list)) (association_lives config past)
        by [] is = none_lives None (λ n. used_at n past + idle_life) (associations_open config past) (λ n. same_sockets config past (associations config past)
            (joined config past holds.lawful) n ∙ ap (λ l. is_among n (numbers l)) is)
        by (o ∷ rest) is = lives_by config past holds.lawful now all_young o rest is (socket_used o rest is)

    associations_from : IsFrom (wait_end now (time_left now slirp.associations)) (association_lives config past)
    associations_from = by slirp.associations holds.relayed.list
      where
        by : (list : List Association) → associations config past ≡ list → IsFrom (wait_end now (time_left now list)) (association_lives config past)
        by [] is = tt
        by (o ∷ rest) is = lives_from config past holds.lawful now all_young o rest is (socket_used o rest is)

    questions_until : IsBy (wait_end now (question_left now slirp.questions)) (question_lives config past)
    questions_until = by slirp.questions holds.relayed.questions
      where
        by : (list : List Question) → questions config past ≡ list → IsBy (wait_end now (question_left now list)) (question_lives config past)
        by [] is = none_lives None (λ n. used_at n past + question_life) (questions_open config past) (λ n. same_waiting config past (questions config past)
            (are_waiting config past holds.lawful) n ∙ ap (λ l. is_among n (question_numbers l)) is)
        by (o ∷ rest) is = questions_by config past holds.lawful now all_recent o rest is (question_used o rest is)

    from_questions : IsFrom (wait_end now (question_left now slirp.questions)) (question_lives config past)
    from_questions = by slirp.questions holds.relayed.questions
      where
        by : (list : List Question) → questions config past ≡ list → IsFrom (wait_end now (question_left now list)) (question_lives config past)
        by [] is = tt
        by (o ∷ rest) is = questions_from config past holds.lawful now all_recent o rest is (question_used o rest is)

    -- ---- until, and from

    module _ (timeout : Option ℕ) (times : (held : List PartSet) → IsHeld slirp.fragments held → IsTimeout slirp link.blocked held timeout)
        (none_again : slirp.pending ≡ [] → next_again slirp.moment slirp.transfers ≡ None) where
      abbrev held : List PartSet
      held = holds.guests.fragments.held

      time : IsTimeout slirp link.blocked held timeout
      time = times held holds.guests.fragments.is_held

      suits : SuitsFlows config now link.blocked slirp.flows.flows.slots past time.flows
      suits = time.suits_flows config now past holds.flows.holds

      abbrev datagrams : Option ℕ
      datagrams = sooner (time_left now slirp.associations) (question_left now slirp.questions)

      abbrev some : Option ℕ
      some = sooner datagrams time.fragments

      abbrev more : Option ℕ
      more = sooner some time.flows

      abbrev all : Option ℕ
      all = sooner more time.files

      until_flows : (ms : List ℕ) → IsBy (wait_end now time.flows) ms → IsBy (wait_end now all) ms
      until_flows ms is = by_first now more time.files ms (by_second now some time.flows ms is)

      until_datagrams : (ms : List ℕ) → IsBy (wait_end now datagrams) ms → IsBy (wait_end now all) ms
      until_datagrams ms is = by_first now more time.files ms (by_first now some time.flows ms (by_first now datagrams time.fragments ms is))

      -- ---- and at least

      drops_left : AreFresh now slirp.fragments → IsFrom (wait_end now time.fragments) (drops config past)
      drops_left fresh = by time.fragments time.of_fragments
        where
          same_sets : held ≡ waiting config past
          same_sets =
              sym (fresh_stay (moment past) held (subst (λ (n : ℕ). All (λ (s : PartSet). n < s.since + 60000) held) (sym holds.clock.moment)
              (fresh held holds.guests.fragments.is_held))) ∙ holds.guests.fragments.wait

          by : (o : Option ℕ) → IsPartTime now held o → IsFrom (wait_end now o) (drops config past)
          by None none = tt
          by (Some left) (due, is) =
              let first = is.0.one.1.1 in
              let low : is.0.one.1.0.since + 60000 ≤ due = omega (arith, first.1) in
              from_left now (Some due) (Some left) (drops config past) (ap Some is.1)
              (drops_from due (waiting config past) is.0.one.0 is.0.one.1.0 (sym (ap (λ (sets : List PartSet). slice_get sets is.0.one.0) same_sets) ∙ first.0) low)

      -- the files that the trace knows of
      files_are : file_alarms config past ≡ filter (nat_lt now) (dues slirp.transfers)
      files_are =
          ap (λ (m : ℕ). filter (nat_lt (moment past)) (dues (ticked m (is_free (ledger config past)) (serving config past).files.transfers))) (sym (now_is config past))
          ∙ ap (λ (ts : List Transfer). filter (nat_lt (moment past)) (dues ts)) (sym (waited_files config slirp past (now_is config past ∙ holds.clock.moment) none_again holds.answers.owed))
          ∙ ap (λ (m : ℕ). filter (nat_lt m) (dues slirp.transfers)) holds.clock.moment

      files_left : IsFrom (wait_end now time.files) (file_alarms config past)
      files_left = subst (λ (ms : List ℕ). IsFrom (wait_end now time.files) ms) (sym files_are) (by time.files time.of_files)
        where
          by : (o : Option ℕ) → IsFileTime now slirp.transfers o → IsFrom (wait_end now o) (filter (nat_lt now) (dues slirp.transfers))
          by None none = tt
          by (Some left) (due, is) = from_left now (Some due) (Some left) (filter (nat_lt now) (dues slirp.transfers)) (ap Some is.1) (later_from now due slirp.transfers is.0.0 is.0.1)

      until_files : IsBy (wait_end now time.files) (file_alarms config past)
      until_files = subst (λ (ms : List ℕ). IsBy (wait_end now time.files) ms) (sym files_are) (by time.files time.of_files)
        where
          all_later : (ms : List ℕ) → AreAhead now (filter (nat_lt now) ms)
          all_later [] = tt
          all_later (m ∷ ms) = by_test (nat_lt now m) refl (all_later ms)
            where
              by_test : (b : Bool) → nat_lt now m ≡ b → AreAhead now (filter (nat_lt now) ms) → AreAhead now (cond b (m ∷ filter (nat_lt now) ms) (filter (nat_lt now) ms))
              by_test true after rest = (grind (arith, nat_tests, after), rest)
              by_test false before rest = rest

          by : (o : Option ℕ) → IsFileTime now slirp.transfers o → IsBy (wait_end now o) (filter (nat_lt now) (dues slirp.transfers))
          by None none = none_by now slirp.transfers none
          by (Some left) (due, is) =
              until_left now (Some due) (Some left) (filter (nat_lt now) (dues slirp.transfers)) (ap Some is.1) (all_later (dues slirp.transfers)) (later_by now due slirp.transfers is.0.2)

      rest_once : TimeWaitOnce config past
      rest_once = once_filter (is_young_time_wait (moment past)) (book config past).time_waits (are_once config past holds.lawful)

      -- the TIME-WAITs that aren't over end later
      rests_ahead : AreAhead now (time_wait_ends config past)
      rests_ahead = subst (λ (n : ℕ). AreAhead n (time_wait_ends config past)) holds.clock.moment (young_ahead (moment past) (book config past).time_waits)
        where
          young_ahead : (m : ℕ) (time_waits : List TimeWait) → AreAhead m (map (λ (r : TimeWait). r.since + longest_time_wait) (filter (is_young_time_wait m) time_waits))
          young_ahead m [] = tt
          young_ahead m (r ∷ time_waits) = by (nat_lt m (r.since + longest_time_wait)) refl (young_ahead m time_waits)
            where
              by : (b : Bool) → nat_lt m (r.since + longest_time_wait) ≡ b → AreAhead m (map (λ (x : TimeWait). x.since + longest_time_wait) (filter (is_young_time_wait m) time_waits))
                  → AreAhead m (map (λ (x : TimeWait). x.since + longest_time_wait) (cond b (r ∷ filter (is_young_time_wait m) time_waits) (filter (is_young_time_wait m) time_waits)))
              by true is more = (grind (arith, nat_tests, is), more)
              by false is more = more

      until_all : HaveTime now slirp.flows.flows.slots → (link.blocked ≡ false → AllClear slirp.flows.flows.slots × ((n : ℕ) → IsInTime now slirp.flows.flows.slots n)) → IsBy
          (wait_end now all) (deadlines config past)
      until_all early calm =
          by_both (wait_end now all) (of_flows close_deadline flows ++ lives config past ++ time_wait_ends config past)
          (unless_blocked (is_blocked past) (of_flows resend_deadline flows ++ file_alarms config past))
          (by_both (wait_end now all) (of_flows close_deadline flows ++ lives config past) (time_wait_ends config past)
          (by_both (wait_end now all) (of_flows close_deadline flows) (lives config past)
          (until_flows (of_flows close_deadline flows) (until_left now suits.due time.flows (of_flows close_deadline flows) suits.left (connects_ahead early)
          (suits.connects (connects_ahead early))))
          (by_both (wait_end now all) (association_lives config past) (question_lives config past)
          (until_datagrams (association_lives config past) (by_first now (time_left now slirp.associations) (question_left now slirp.questions) (association_lives config past) associations_until))
          (until_datagrams (question_lives config past) (by_second now (time_left now slirp.associations) (question_left now slirp.questions) (question_lives config past) questions_until))))
          (until_flows (time_wait_ends config past) (until_left now suits.due time.flows (time_wait_ends config past) suits.left rests_ahead (suits.time_waits rest_once rests_ahead))))
          (subst (λ (b : Bool). IsBy (wait_end now all) (unless_blocked b (of_flows resend_deadline flows ++ file_alarms config past))) (sym holds.keeps.blocked) (by_link link.blocked refl))
        where
          by_link : (b : Bool) → link.blocked ≡ b → IsBy (wait_end now all) (unless_blocked b (of_flows resend_deadline flows ++ file_alarms config past))
          by_link true is = tt
          by_link false is =
              let both = calm is in
              let ahead = resends_ahead both.0 both.1 in
              by_both (wait_end now all) (of_flows resend_deadline flows) (file_alarms config past)
              (until_flows (of_flows resend_deadline flows) (until_left now suits.due time.flows (of_flows resend_deadline flows) suits.left ahead (suits.resends is both.0)))
              (by_second now more time.files (file_alarms config past) until_files)

      abbrev awake : List ℕ
      awake = of_flows wakes flows

      abbrev of_sockets : List ℕ
      of_sockets = awake ++ lives config past

      abbrev of_fragments : List ℕ
      of_fragments = of_sockets ++ drops config past

      abbrev of_rests : List ℕ
      of_rests = of_fragments ++ time_wait_ends config past

      from_sockets : (due : Option ℕ) → IsFrom due (lives config past) → IsFrom due (alarms config past)
      from_sockets due is =
          from_first due of_rests (file_alarms config past) (from_first due of_fragments (time_wait_ends config past)
          (from_first due of_sockets (drops config past) (from_second due awake (lives config past) is)))

      from_flows : IsFrom (wait_end now time.flows) (alarms config past)
      from_flows =
          from_some (wait_end now time.flows) awake (time_wait_ends config past) (alarms config past) (from_left now suits.due time.flows (awake ++ time_wait_ends config past) suits.left suits.for_some)
          (λ is. from_first (wait_end now time.flows) of_rests (file_alarms config past)
          (from_first (wait_end now time.flows) of_fragments (time_wait_ends config past) (from_first (wait_end now time.flows) of_sockets (drops config past)
          (from_first (wait_end now time.flows) awake (lives config past) is))))
          (λ is. from_first (wait_end now time.flows) of_rests (file_alarms config past) (from_second (wait_end now time.flows) of_fragments (time_wait_ends config past) is))

      from_all : AreFresh now slirp.fragments → IsFrom (wait_end now all) (alarms config past)
      from_all fresh =
          from_each now more time.files (alarms config past)
          (from_each now some time.flows (alarms config past)
          (from_each now datagrams time.fragments (alarms config past)
          (from_each now (time_left now slirp.associations) (question_left now slirp.questions) (alarms config past)
          (from_sockets (wait_end now (time_left now slirp.associations)) (from_first (wait_end now (time_left now slirp.associations)) (association_lives config past)
          (question_lives config past) associations_from))
          (from_sockets (wait_end now (question_left now slirp.questions)) (from_second (wait_end now (question_left now slirp.questions)) (association_lives config past)
          (question_lives config past) from_questions)))
          (from_first (wait_end now time.fragments) of_rests (file_alarms config past)
          (from_first (wait_end now time.fragments) of_fragments (time_wait_ends config past) (from_second (wait_end now time.fragments) of_sockets (drops config past) (drops_left fresh)))))
          from_flows)
          (from_second (wait_end now time.files) of_rests (file_alarms config past) files_left)

-- ---- what a wait has

-- A wait lasts no longer than to what has a time: where no host had its time to connect, no socket for datagrams is idle for long, and the flows are clear and in time unless the link is blocked.
pub until_is : (config : Config) (at : Standing) (slirp : SlirpState) (link : LinkState) (past : List Entry) → Holds config at slirp (flowing true slirp.flows) link past
    → (timeout : Option ℕ) → ((held : List PartSet) → IsHeld slirp.fragments held → IsTimeout slirp link.blocked held timeout) →
    (slirp.pending ≡ [] → next_again slirp.moment slirp.transfers ≡ None) → HaveTime slirp.moment slirp.flows.flows.slots
    → (link.blocked ≡ false → AllClear slirp.flows.flows.slots × ((n : ℕ) → IsInTime slirp.moment slirp.flows.flows.slots n))
    → All (λ a. is_idle_association slirp.moment a ≡ false) slirp.associations → All (λ q. is_idle_question slirp.moment q ≡ false) slirp.questions
    → IsBy (wait_end (moment past) timeout) (deadlines config past)
unfolding time
until_is config at slirp link past holds timeout times none_again early calm young_now recent =
    subst (λ (n : ℕ). IsBy (wait_end n timeout) (deadlines config past)) (sym holds.clock.moment)
    (subst (λ (o : Option ℕ). IsBy (wait_end slirp.moment o) (deadlines config past)) (sym (times holds.guests.fragments.held holds.guests.fragments.is_held).is)
    (until_all config at slirp link past holds young_now recent timeout times none_again early calm))

-- And it is cut short for nothing else than what the trace has a time for, where no fragments that wait are to be dropped yet.
pub from_is : (config : Config) (at : Standing) (slirp : SlirpState) (link : LinkState) (past : List Entry) → Holds config at slirp (flowing true slirp.flows) link past
    → (timeout : Option ℕ) → ((held : List PartSet) → IsHeld slirp.fragments held → IsTimeout slirp link.blocked held timeout) →
    (slirp.pending ≡ [] → next_again slirp.moment slirp.transfers ≡ None) → AreFresh slirp.moment slirp.fragments
    → All (λ a. is_idle_association slirp.moment a ≡ false) slirp.associations → All (λ q. is_idle_question slirp.moment q ≡ false) slirp.questions
    → IsFrom (wait_end (moment past) timeout) (alarms config past)
unfolding time
from_is config at slirp link past holds timeout times none_again fresh young_now recent =
    subst (λ (n : ℕ). IsFrom (wait_end n timeout) (alarms config past)) (sym holds.clock.moment)
    (subst (λ (o : Option ℕ). IsFrom (wait_end slirp.moment o) (alarms config past)) (sym (times holds.guests.fragments.held holds.guests.fragments.is_held).is)
    (from_all config at slirp link past holds young_now recent timeout times none_again fresh))

-- ---- no wait is of no time

abbrev Lasts : Option ℕ → Type 0
Lasts None = Unit {0}
Lasts (Some time) = 0 < time

sooner_lasts : (one other : Option ℕ) → Lasts one → Lasts other → Lasts (sooner one other)
sooner_lasts None other first second = second
sooner_lasts (Some one) None first second = first
sooner_lasts (Some one) (Some other) first second = omega (arith, first, second)

all_at : (P : PartSet → Type 0) (sets : List PartSet) → All P sets → (i : ℕ) (s : PartSet) → slice_get sets i ≡ Some s → P s
all_at P [] all i s is = absurd cc
all_at P (x ∷ sets) all zero s is = let same : x ≡ s = some_set x s is in subst P same (All-head P x sets all)
  where
    some_set : (a b : PartSet) → ◌≡◌ {A = Option PartSet} (Some a) (Some b) → a ≡ b
    some_set a b is = cc
all_at P (x ∷ sets) all (suc i) s is = all_at P sets (All-tail P x sets all) i s is

sockets_last : (now : ℕ) (associations : List Association) → All (λ a. is_idle_association now a ≡ false) associations → Lasts (time_left now associations)
sockets_last now [] young = tt
sockets_last now (a ∷ associations) young = left a.used (All-head (λ (b : Association). is_idle_association now b ≡ false) a associations young)
  where
    left : (used : ℕ) → nat_le (used + idle_life) now ≡ false → 0 < idle_life - (now - used)
    left used is = grind (arith, nat_tests)

questions_last : (now : ℕ) (questions : List Question) → All (λ q. is_idle_question now q ≡ false) questions → Lasts (question_left now questions)
questions_last now [] recent = tt
questions_last now (q ∷ questions) recent = left q.used (All-head (λ (b : Question). is_idle_question now b ≡ false) q questions recent)
  where
    left : (used : ℕ) → nat_le (used + question_life) now ≡ false → 0 < question_life - (now - used)
    left used is = grind (arith, nat_tests)

fragments_last : (now : ℕ) (held : List PartSet) → All (λ (s : PartSet). now < s.since + 60000) held → (time : Option ℕ) → IsPartTime now held time → Lasts time
fragments_last now held fresh None is = tt
fragments_last now held fresh (Some left) (due, is) =
    let first = is.0.one.1.1 in
    let young = all_at (λ (s : PartSet). now < s.since + 60000) held fresh is.0.one.0 is.0.one.1.0 first.0 in
    omega (arith, first.1, young, is.1)

files_last : (now : ℕ) (transfers : List Transfer) (time : Option ℕ) → IsFileTime now transfers time → Lasts time
files_last now transfers None is = tt
files_last now transfers (Some left) (due, is) = let later = is.0.0 in omega (arith, later, is.1)

flows_last : (now : ℕ) (due time : Option ℕ) → time ≡ option_map (λ at. at - now) due → ((at : ℕ) → due ≡ Some at → now < at) → Lasts time
flows_last now None time left later = subst Lasts (sym left) tt
flows_last now (Some at) time left later = subst Lasts (sym left) (let soon = later at refl in omega (arith, soon))

-- A wait lasts some time: where no host had its time to connect, no socket for datagrams is idle for long, no fragments that wait are to be dropped, and the flows are in time unless the link is blocked.
pub some_time_is : (config : Config) (at : Standing) (slirp : SlirpState) (link : LinkState) (past : List Entry) → Holds config at slirp (flowing true slirp.flows) link past
    → (timeout : Option ℕ) → ((held : List PartSet) → IsHeld slirp.fragments held → IsTimeout slirp link.blocked held timeout) → HaveTime slirp.moment slirp.flows.flows.slots
    → (link.blocked ≡ false → (n : ℕ) → IsInTime slirp.moment slirp.flows.flows.slots n) → AreFresh slirp.moment slirp.fragments
    → All (λ a. is_idle_association slirp.moment a ≡ false) slirp.associations → All (λ q. is_idle_question slirp.moment q ≡ false) slirp.questions
    → timeout ≡ Some 0 → ⊥
some_time_is config at slirp link past holds timeout times early timely fresh young_now recent none = absurd (omega (arith, too_short))
  where
    time : IsTimeout slirp link.blocked holds.guests.fragments.held timeout
    time = times holds.guests.fragments.held holds.guests.fragments.is_held

    suits : SuitsFlows config slirp.moment link.blocked slirp.flows.flows.slots past time.flows
    suits = time.suits_flows config slirp.moment past holds.flows.holds

    lasts : Lasts timeout
    lasts = subst Lasts (sym time.is)
        (sooner_lasts _ time.files
        (sooner_lasts _ time.flows
        (sooner_lasts _ time.fragments
        (sooner_lasts (time_left slirp.moment slirp.associations) (question_left slirp.moment slirp.questions) (sockets_last slirp.moment slirp.associations young_now)
        (questions_last slirp.moment slirp.questions recent))
        (fragments_last slirp.moment holds.guests.fragments.held (fresh holds.guests.fragments.held holds.guests.fragments.is_held) time.fragments time.of_fragments))
        (flows_last slirp.moment suits.due time.flows suits.left (suits.later holds.clock.moment early timely)))
        (files_last slirp.moment slirp.transfers time.files time.of_files))

    too_short : 0 < 0
    too_short = subst Lasts none lasts
