-- What the duties come to at each wait of a run.
use Rattle.std.proofs.Common.{◌≡◌, ℕ, zero, suc, ◌+◌, ◌≤◌, ◌<◌, ◌==◌, ◌&&◌, ◌||◌, not, map, nat_le, nat_lt, Bool, true, false, List, [], ◌∷◌, ◌++◌, length, max, inl, inr, Contains, Option, Some, None}
use Rattle.std.proofs.Common.{is_some, refl, sym, ap, ◌∙◌, subst, arith}
use Rattle.std.proofs.lemmas.Bool.Decides.{nat_tests}
use Rattle.poll_list.specs.Listing.{reads, writes}
use Rattle.poll_list.specs.declared.Want.{Want}
use Rattle.poll_list.specs.declared.Who.TheVariants.{Link, Listener, Tcp, Udp}
use Rattle.world_face.specs.Frames.{is_blocked}
use Rattle.world_face.specs.Journal.{Entry, Wait}
use Rattle.world_face.specs.declared.Waited.{Waited}
use Rattle.slirp_settings.specs.Addresses.{Config}
use Rattle.spec_trace.specs.Moments.{moment}
use Rattle.spec_flow.specs.Dutiful.{AreAhead, moment_if, must_wait_to_write, oldest_unheard, resend_deadline, resolves_guest, waits_for_window, waits_since, waits_to_read}
use Rattle.spec_flow.specs.Event.{Story, newest_moment}
use Rattle.spec_flow.specs.Close.{asked_at, is_deserted, is_done, last_at, patience_end, times_asked}
use Rattle.spec_flow.specs.Lawful.{is_prompted}
use Rattle.spec_flow.specs.Guest.{Conforming}
use Rattle.spec_flow.specs.Flow.{guest, has_connected, host, is_accepted, is_closed, is_connecting, is_under_way, opened_at, syn_is_out}
use Rattle.spec_flow.specs.Host.{acked, got, got_end}
use Rattle.spec_flow.proofs.Refuting.{some_same}
use Rattle.spec_flows.specs.Book.{book, scene}
use Rattle.spec_flows.specs.Flows.{Flow, flow_of, guest_is_known}
use Rattle.spec_flows.specs.Laws.{flow_settings}
use Rattle.spec_flow.specs.Bounds.{IsBy, IsFrom}
use Rattle.spec_run.specs.Answers.{may_go_again, serving}
use Rattle.spec_run.specs.Laws.{is_all_out, takes_peers}
use Rattle.spec_duties.specs.Duties.{Dutiful, MustWait}
use Rattle.rules_tftp.specs.Transfers.{Said}
use Rattle.spec_trace.specs.Sockets.{is_among}
use Rattle.spec_run.specs.Ports.{associations_open, used_at}
use Rattle.spec_run.specs.Questions.{questions_open}
use Rattle.spec_run.proofs.Bools.{and_both, equal}
use Rattle.rules_dns.specs.Questions.{question_life}
use Rattle.rules_udp.specs.Associations.{idle_life}
use Rattle.spec_duties.specs.Times.{alarms, association_lives, deadlines, question_lives, wait_end}
use Rattle.spec_duties.specs.Waiting.{is_all_sent, reads_flow, takes_datagrams, writes_flow}

-- each wait of a run that does what it must was as it must be
pub at_wait : (config : Config) (later past : List Entry) (wants : List Want) (timeout : Option ℕ) (answer : Waited) (ready : List Want)
    → Dutiful config (later ++ Wait wants timeout answer ready ∷ past) → MustWait config past wants timeout
at_wait config [] past wants timeout answer ready dutiful = dutiful.0
at_wait config (x ∷ later) past wants timeout answer ready dutiful = at_wait config later past wants timeout answer ready dutiful.1

-- what is out where all is
both_out : (a : Bool) (o : Option Said) → (a && not (is_some o)) ≡ true → (a ≡ true) × (o ≡ None)
both_out true None is = (refl, refl)
both_out true (Some said) is = absurd cc
both_out false o is = absurd cc

pub all_out : (config : Config) (past : List Entry) → is_all_sent config past ≡ true → (is_all_out config past ≡ true) × (may_go_again (serving config past) ≡ None)
all_out config past is = both_out (is_all_out config past) (may_go_again (serving config past)) is

-- ---- what is waited for

same_truth : (a b : Bool) → (a ≡ true → b ≡ true) → (b ≡ true → a ≡ true) → a ≡ b
same_truth true b f g = sym (f refl)
same_truth false true f g = g refl
same_truth false false f g = refl

pub link_wanted : (config : Config) (past : List Entry) (wants : List Want) (timeout : Option ℕ) → MustWait config past wants timeout → writes Link wants ≡ is_blocked past
link_wanted config past wants timeout m = same_truth (writes Link wants) (is_blocked past) (m.waits_for.only_to_write Link) (m.waits_for.to_write Link)

free_or : (a b : Bool) → a ≡ false → (not a || b) ≡ true
free_or true b is = absurd cc
free_or false b is = refl

pub frames_wanted : (config : Config) (past : List Entry) (wants : List Want) (timeout : Option ℕ) → MustWait config past wants timeout → is_blocked past ≡ false → reads Link wants ≡ true
frames_wanted config past wants timeout m free = m.waits_for.to_read Link ∙ free_or (is_blocked past) (is_all_sent config past) free

both_so : (a b : Bool) → a ≡ true → b ≡ true → (a && b) ≡ true
both_so true true one two = refl
both_so true false one two = absurd cc
both_so false b one two = absurd cc

pub datagrams_wanted : (config : Config) (past : List Entry) (wants : List Want) (timeout : Option ℕ) (socket : ℕ) → MustWait config past wants timeout → is_blocked past ≡ false
    → takes_datagrams past socket ≡ true → reads (Udp socket) wants ≡ true
datagrams_wanted config past wants timeout socket m free takes =
    m.waits_for.to_read (Udp socket) ∙ both_so (takes_datagrams past socket) (not (is_blocked past) || is_all_sent config past) takes (free_or (is_blocked past) (is_all_sent config past) free)

pub peers_wanted : (config : Config) (past : List Entry) (wants : List Want) (timeout : Option ℕ) (socket : ℕ) → MustWait config past wants timeout →
    takes_peers config past socket ≡ true → reads (Listener socket) wants ≡ true
peers_wanted config past wants timeout socket m takes = m.waits_for.to_read (Listener socket) ∙ takes

ends_false : (a b : Bool) → b ≡ false → (a && b) ≡ false
ends_false true b is = is
ends_false false b is = refl

full_reads : (config : Config) (f : Flow) → acked (host f.story) + config.ring ≤ length (got (host f.story)) → waits_to_read (flow_settings config) f.story ≡ false
full_reads config f full =
    let none : nat_lt (length (got (host f.story))) (acked (host f.story) + config.ring) ≡ false = grind (arith, nat_tests, full) in
    ends_false ((has_connected f.story || is_accepted f.story) && not (is_closed f.story) && not (got_end (host f.story)))
    (nat_lt (length (got (host f.story))) (acked (host f.story) + config.ring)) none

pub full_unwanted : (config : Config) (past : List Entry) (wants : List Want) (timeout : Option ℕ) (socket : ℕ) (f : Flow) → MustWait config past wants timeout
    → flow_of socket (book config past).flows ≡ Some f → acked (host f.story) + config.ring ≤ length (got (host f.story)) → reads (Tcp socket) wants ≡ false
full_unwanted config past wants timeout socket f m found full = m.waits_for.to_read (Tcp socket) ∙ ap (reads_flow config) found ∙ full_reads config f full

pub gives_wanted : (config : Config) (past : List Entry) (wants : List Want) (timeout : Option ℕ) (socket : ℕ) (f : Flow) → MustWait config past wants timeout
    → flow_of socket (book config past).flows ≡ Some f → must_wait_to_write f.story ≡ true → writes (Tcp socket) wants ≡ true
gives_wanted config past wants timeout socket f m found must = m.waits_for.to_write (Tcp socket) (ap writes_flow found ∙ must)

pub takes_wanted : (config : Config) (past : List Entry) (wants : List Want) (timeout : Option ℕ) (socket : ℕ) (f : Flow) → MustWait config past wants timeout
    → flow_of socket (book config past).flows ≡ Some f → waits_to_read (flow_settings config) f.story ≡ true → reads (Tcp socket) wants ≡ true
takes_wanted config past wants timeout socket f m found takes = m.waits_for.to_read (Tcp socket) ∙ ap (reads_flow config) found ∙ takes

-- ---- idle lives

ahead_first : (now : ℕ) (xs ys : List ℕ) → AreAhead now (xs ++ ys) → AreAhead now xs
ahead_first now [] ys ahead = tt
ahead_first now (x ∷ xs) ys ahead = (ahead.0, ahead_first now xs ys ahead.1)

ahead_second : (now : ℕ) (xs ys : List ℕ) → AreAhead now (xs ++ ys) → AreAhead now ys
ahead_second now [] ys ahead = ahead
ahead_second now (x ∷ xs) ys ahead = ahead_second now xs ys ahead.1

ahead_at : (now : ℕ) (f : ℕ → ℕ) (ns : List ℕ) (n : ℕ) → AreAhead now (map f ns) → is_among n ns ≡ true → now < f n
ahead_at now f [] n ahead among = absurd cc
ahead_at now f (m ∷ ns) n ahead among = by (n == m) refl among (ahead_at now f ns n ahead.1)
  where
    by : (b : Bool) → (n == m) ≡ b → (b || is_among n ns) ≡ true → (is_among n ns ≡ true → now < f n) → now < f n
    by true is one rest = subst (λ k. now < f k) (sym (equal n m is)) ahead.0
    by false is one rest = rest one

pub association_young : (config : Config) (past : List Entry) (wants : List Want) (timeout : Option ℕ) (socket : ℕ) → MustWait config past wants timeout → is_among socket
    (associations_open config past) ≡ true → moment past < used_at socket past + idle_life
association_young config past wants timeout socket m among =
    ahead_at (moment past) (λ n. used_at n past + idle_life) (associations_open config past) socket (ahead_first (moment past) (association_lives config past)
    (question_lives config past) m.unused) among

pub question_young : (config : Config) (past : List Entry) (wants : List Want) (timeout : Option ℕ) (socket : ℕ) → MustWait config past wants timeout → is_among socket
    (questions_open config past) ≡ true → moment past < used_at socket past + question_life
question_young config past wants timeout socket m among =
    ahead_at (moment past) (λ n. used_at n past + question_life) (questions_open config past) socket (ahead_second (moment past) (association_lives config past)
    (question_lives config past) m.unused) among

-- ---- times

pub by_each : (due : Option ℕ) (ms : List ℕ) (m : ℕ) → IsBy due ms → Contains ms m → (at : ℕ) × (due ≡ Some at) × (at ≤ m)
by_each due [] m is (k, low, here) = absurd (omega (arith, low))
by_each None (n ∷ ms) m is has = absurd is
by_each (Some at) (n ∷ ms) m is (zero, low, here) = let first : n ≡ m = here in let bound = is.0 in (at, refl, omega (arith, bound, first))
by_each (Some at) (n ∷ ms) m is (suc k, low, here) = by_each (Some at) ms m is.1 (k, omega (arith, low), here)

pub from_one : (at : ℕ) (ms : List ℕ) → IsFrom (Some at) ms → (m : ℕ) × Contains ms m × (m ≤ at)
from_one at [] is = absurd is
from_one at (m ∷ ms) (inl low) = (m, (0, omega arith, refl), low)
from_one at (m ∷ ms) (inr rest) =
    let found = from_one at ms rest in
    (found.0, (suc found.1.0, (let low = found.1.1 in omega (arith, low)), found.1.2), found.2)

-- the moment at which a wait ends, taken apart
pub end_of : (now : ℕ) (timeout : Option ℕ) (at : ℕ) → wait_end now timeout ≡ Some at → (t : ℕ) × (timeout ≡ Some t) × (now + t ≡ at)
end_of now None at is = absurd cc
end_of now (Some t) at is = (t, refl, some_same (now + t) at is)

pub until_each : (config : Config) (past : List Entry) (wants : List Want) (timeout : Option ℕ) (m : ℕ) → MustWait config past wants timeout → Contains (deadlines config past) m
    → (t : ℕ) × (timeout ≡ Some t) × (moment past + t ≤ m)
until_each config past wants timeout m must has =
    let by = by_each (wait_end (moment past) timeout) (deadlines config past) m must.until has in
    let t = end_of (moment past) timeout by.0 by.1 in
    (t.0, t.1, (let same = t.2 in let low = by.2 in omega (arith, same, low)))

pub from_some : (config : Config) (past : List Entry) (wants : List Want) (timeout : Option ℕ) (t : ℕ) → MustWait config past wants timeout → timeout ≡ Some t
    → (m : ℕ) × Contains (alarms config past) m × (m ≤ moment past + t)
from_some config past wants timeout t must is = from_one (moment past + t) (alarms config past) (subst (λ o. IsFrom (wait_end (moment past) o) (alarms config past)) is must.from)

pub connects_in_time : (config : Config) (past : List Entry) (wants : List Want) (timeout : Option ℕ) (socket : ℕ) (f : Flow) → MustWait config past wants timeout
    → flow_of socket (book config past).flows ≡ Some f → is_connecting f.story ≡ true → moment past < opened_at f.story + 75000
connects_in_time config past wants timeout socket f must found connecting =
    (subst (λ (b : Bool). AreAhead (moment past) (moment_if b (opened_at f.story + 75000)
    ++ moment_if (is_deserted f.story && not (is_prompted f.story)) (max (patience_end f.story) (last_at f.story + 1)))) connecting (must.closed socket f found).connects).0

-- a moment that isn't passed
ahead_of : (now : ℕ) (first second : Bool) (m n : ℕ) → second ≡ true → AreAhead now (moment_if first m ++ moment_if second n) → now < n
ahead_of now true true m n is ahead = ahead.1.0
ahead_of now false true m n is ahead = ahead.0
ahead_of now first false m n is ahead = cc

pub deserted_in_time : (config : Config) (past : List Entry) (wants : List Want) (timeout : Option ℕ) (socket : ℕ) (f : Flow) → MustWait config past wants timeout
    → flow_of socket (book config past).flows ≡ Some f → is_deserted f.story ≡ true → is_prompted f.story ≡ false → last_at f.story < moment past → moment past < patience_end f.story
deserted_in_time config past wants timeout socket f must found deserted answered quiet =
    let low = ahead_of (moment past) (is_connecting f.story) (is_deserted f.story && not (is_prompted f.story)) (opened_at f.story + 75000) (max (patience_end f.story) (last_at f.story + 1))
    (and_both (is_deserted f.story) (not (is_prompted f.story)) deserted (ap not answered)) (must.closed socket f found).connects in
    omega (arith, low, quiet)

pub closed_when_done : (config : Config) (past : List Entry) (wants : List Want) (timeout : Option ℕ) (socket : ℕ) (f : Flow) → MustWait config past wants timeout → flow_of socket
    (book config past).flows ≡ Some f → Conforming (guest f.story) → is_done f.story ≡ true → is_closed f.story ≡ true
closed_when_done config past wants timeout socket f must found conforming done = (must.closed socket f found).closes conforming done

-- the moments of what goes again, but for questions about a closed window
but_for_windows : (now : ℕ) (story : Story) → AreAhead now (resend_deadline story)
    → AreAhead now (moment_if (is_under_way story && not (is_closed story)) (waits_since story + 60000) ++ moment_if (resolves_guest story && nat_lt 0 (times_asked story)) (asked_at story + 60000))
but_for_windows now story ahead = ahead_first now (moment_if (is_under_way story && not (is_closed story)) (waits_since story + 60000)
    ++ moment_if (resolves_guest story && nat_lt 0 (times_asked story)) (asked_at story + 60000)) _ ahead

pub called_nine_times : (config : Config) (past : List Entry) (wants : List Want) (timeout : Option ℕ) (socket : ℕ) (f : Flow) → MustWait config past wants timeout
    → flow_of socket (book config past).flows ≡ Some f → is_closed f.story ≡ false → oldest_unheard f.story ≤ 9
called_nine_times config past wants timeout socket f must found open_yet = by (is_closed f.story) open_yet (must.closed socket f found).calls
  where
    by : (b : Bool) → b ≡ false → (b || nat_le (oldest_unheard f.story) 9) ≡ true → oldest_unheard f.story ≤ 9
    by true open_yet is = absurd cc
    by false open_yet is = grind (arith, nat_tests)

pub asked_about_in_time : (config : Config) (past : List Entry) (wants : List Want) (timeout : Option ℕ) (socket : ℕ) (f : Flow) → MustWait config past wants timeout
    → is_blocked past ≡ false → flow_of socket (book config past).flows ≡ Some f → waits_for_window f.story ≡ true → moment past < newest_moment f.story + 60000
asked_about_in_time config past wants timeout socket f must free found waits =
    (subst (λ (b : Bool). AreAhead (moment past) (moment_if b (newest_moment f.story + 60000))) waits
    (ahead_second (moment past) (moment_if (is_under_way f.story && not (is_closed f.story)) (waits_since f.story + 60000)
    ++ moment_if (resolves_guest f.story && nat_lt 0 (times_asked f.story)) (asked_at f.story + 60000)) _
    (must.settled free socket f found).resends)).0

pub goes_again_in_time : (config : Config) (past : List Entry) (wants : List Want) (timeout : Option ℕ) (socket : ℕ) (f : Flow) → MustWait config past wants timeout →
    is_blocked past ≡ false → flow_of socket (book config past).flows ≡ Some f
    → (is_under_way f.story && not (is_closed f.story)) ≡ true → moment past < waits_since f.story + 60000
goes_again_in_time config past wants timeout socket f must free found under = first_ahead (moment past) (is_under_way f.story && not (is_closed f.story)) (waits_since f.story + 60000) _ under
    (but_for_windows (moment past) f.story (must.settled free socket f found).resends)
  where
    first_ahead : (now : ℕ) (b : Bool) (m : ℕ) (ms : List ℕ) → b ≡ true → AreAhead now (moment_if b m ++ ms) → now < m
    first_ahead now true m ms is ahead = ahead.0
    first_ahead now false m ms is ahead = absurd cc

pub asked_in_time : (config : Config) (past : List Entry) (wants : List Want) (timeout : Option ℕ) (socket : ℕ) (f : Flow) → MustWait config past wants timeout →
    is_blocked past ≡ false → flow_of socket (book config past).flows ≡ Some f
    → resolves_guest f.story ≡ true → (0 < times_asked f.story) × (moment past < asked_at f.story + 60000)
asked_in_time config past wants timeout socket f must free found resolves =
    let settled = must.settled free socket f found in
    let some = asked (is_accepted f.story) (syn_is_out f.story) (is_closed f.story) (guest_is_known (scene config past) f) (times_asked f.story) resolves settled.sends.syn in (
      some,
      second_ahead (moment past) (is_under_way f.story && not (is_closed f.story)) (waits_since f.story + 60000)
          (resolves_guest f.story && nat_lt 0 (times_asked f.story)) (asked_at f.story + 60000) (both (resolves_guest f.story) (times_asked f.story) resolves some) (but_for_windows (moment past) f.story settled.resends),
    )
  where
    some_n : (n : ℕ) → nat_lt 0 n ≡ true → 0 < n
    some_n n is = grind (arith, nat_tests)

    is_some_n : (n : ℕ) → 0 < n → nat_lt 0 n ≡ true
    is_some_n n is = grind (arith, nat_tests)

    both : (b : Bool) (n : ℕ) → b ≡ true → 0 < n → (b && nat_lt 0 n) ≡ true
    both b n is some = rw is (is_some_n n some)

    second : (a b : Bool) → (not a && b) ≡ true → b ≡ true
    second true b is = absurd cc
    second false b is = is

    asked : (a b d known : Bool) (n : ℕ) → (a && not b && not d) ≡ true → ((a && not d) ≡ true → (b || (not known && nat_lt 0 n)) ≡ true) → 0 < n
    asked true true d known n is out = absurd cc
    asked true false true known n is out = absurd cc
    asked true false false known n is out = some_n n (second known (nat_lt 0 n) (out refl))
    asked false b d known n is out = absurd cc

    second_ahead : (now : ℕ) (b : Bool) (m : ℕ) (c : Bool) (n : ℕ) → c ≡ true → AreAhead now (moment_if b m ++ moment_if c n) → now < n
    second_ahead now true m true n is ahead = ahead.1.0
    second_ahead now false m true n is ahead = ahead.0
    second_ahead now b m false n is ahead = absurd cc
