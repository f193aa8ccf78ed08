-- What the test passes is dutiful: sentence by sentence.
use Rattle.std.proofs.Common.{◌≡◌, ℕ, ◌≤◌, ◌==◌, ◌&&◌, ◌||◌, not, nat_le, Bool, true, false, List, [], ◌∷◌, Option, Some, None, ◌⊎◌, inl, inr, refl, sym, ap, subst, if◌then◌else◌, arith}
use Rattle.poll_list.specs.Listing.{reads, same_who, writes}
use Rattle.poll_list.specs.declared.Want.{Want}
use Rattle.poll_list.specs.declared.Who.{Who}
use Rattle.poll_list.specs.declared.Who.TheVariants.{Link, Listener, Tcp, Udp}
use Rattle.world_face.specs.Journal.{Entry, Call, call_of, CallWait, Wait}
use Rattle.world_face.specs.Frames.{is_blocked}
use Rattle.slirp_settings.specs.Addresses.{Config}
use Rattle.spec_trace.specs.Moments.{moment}
use Rattle.spec_trace.specs.Sockets.{is_among, open_sockets}
use Rattle.spec_flow.specs.CheckDuty.{all_ahead, may_wait}
use Rattle.spec_flow.specs.Dutiful.{AreAhead}
use Rattle.spec_flow.proofs.Answering.{nat_less}
use Rattle.spec_flow.proofs.Computing.{nat_within}
use Rattle.spec_flow.proofs.Duties.{may_wait_to_write_is}
use Rattle.spec_flow.proofs.Settled.{settled, waits}
use Rattle.spec_flow.proofs.Refuting.{some_same}
use Rattle.spec_flow.specs.Bounds.{IsBy, IsFrom}
use Rattle.spec_flows.specs.Book.{book, scene}
use Rattle.spec_flows.specs.Flows.{Flow, flow_of, guest_is_known, is_numbered}
use Rattle.spec_flows.specs.Laws.{flow_settings}
use Rattle.spec_run.proofs.Bools.{equal, first_of, second_of}
use Rattle.spec_duties.specs.Check.{is_some_time, all_flows, all_may, all_served, flows_are, implies, is_by, is_dutiful, is_from, is_must, is_settled_now, is_wanted, may_be_wanted, may_be_written}
use Rattle.spec_duties.specs.Check.{may_write_flow, must_wait, reported, sockets_are, waits_for}
use Rattle.spec_duties.specs.Duties.{Dutiful, Must as MustCome, MustWait, is_in_time_wait}
use Rattle.spec_duties.specs.Serving.{AllServed, is_left_to_read, is_left_to_write}
use Rattle.spec_duties.specs.Times.{alarms, deadlines, lives, wait_end}
use Rattle.spec_duties.specs.Waiting.{is_all_sent, MayBeWritten, MayWriteFlow, WaitsFor, are_in_order, is_read, is_written, reads_flow, writes_flow}

-- ---- tests

implied : (a b : Bool) → implies a b ≡ true → a ≡ true → b ≡ true
implied true b is one = is
implied false b is one = absurd cc

either : (a b : Bool) → (a || b) ≡ true → a ≡ false → b ≡ true
either true b is free = absurd cc
either false b is free = is

three : (a b c : Bool) → (a && b && c) ≡ true → (a ≡ true) × (b ≡ true) × (c ≡ true)
three true true c is = (refl, refl, is)
three true false c is = absurd cc
three false b c is = absurd cc

-- two truth values that each imply the other
alike : (a b : Bool) → (a ≡ true → b ≡ true) → (b ≡ true → a ≡ true) → a ≡ b
alike true b f g = sym (f refl)
alike false true f g = g refl
alike false false f g = refl

-- ---- whose a want is

pub same_is : (a b : Who) → same_who a b ≡ true → a ≡ b
same_is Link Link is = refl
same_is (Listener a) (Listener b) is = ap Listener (equal a b is)
same_is (Udp a) (Udp b) is = ap Udp (equal a b is)
same_is (Tcp a) (Tcp b) is = ap Tcp (equal a b is)
same_is Link (Listener b) is = absurd cc
same_is Link (Udp b) is = absurd cc
same_is Link (Tcp b) is = absurd cc
same_is (Listener a) Link is = absurd cc
same_is (Listener a) (Udp b) is = absurd cc
same_is (Listener a) (Tcp b) is = absurd cc
same_is (Udp a) Link is = absurd cc
same_is (Udp a) (Listener b) is = absurd cc
same_is (Udp a) (Tcp b) is = absurd cc
same_is (Tcp a) Link is = absurd cc
same_is (Tcp a) (Listener b) is = absurd cc
same_is (Tcp a) (Udp b) is = absurd cc

-- ---- flows

found_passes : (test : Flow → Bool) (number : ℕ) (flows : List Flow) (f : Flow) → all_flows test flows ≡ true → flow_of number flows ≡ Some f → test f ≡ true
found_passes test number [] f all found = absurd cc
found_passes test number (g ∷ flows) f all found = by (found_passes test number flows f (second_of (test g) (all_flows test flows) all)) (is_numbered number g) found
  where
    by : (flow_of number flows ≡ Some f → test f ≡ true) → (b : Bool) → (if b then Some g else flow_of number flows) ≡ Some f → test f ≡ true
    by rest true is = subst (λ o. elim o [ None ↦ test g | Some h ↦ test h ] ≡ true) is (first_of (test g) (all_flows test flows) all)
    by rest false is = rest is

found_number : (number : ℕ) (flows : List Flow) (f : Flow) → flow_of number flows ≡ Some f → f.number ≡ number
found_number number [] f found = absurd cc
found_number number (g ∷ flows) f found = by (found_number number flows f) (is_numbered number g) refl found
  where
    by : (flow_of number flows ≡ Some f → f.number ≡ number) → (b : Bool) → is_numbered number g ≡ b → (if b then Some g else flow_of number flows) ≡ Some f → f.number ≡ number
    by rest true test is = subst (λ o. elim o [ None ↦ g.number | Some h ↦ h.number ] ≡ number) is (equal g.number number test)
    by rest false test is = rest is

found_wanted : (config : Config) (past : List Entry) (wants : List Want) (number : ℕ) (flows : List Flow) (f : Flow) → flows_are config past wants flows ≡ true → flow_of number flows ≡ Some f
    → is_wanted config past wants (Tcp number) ≡ true
found_wanted config past wants number [] f all found = absurd cc
found_wanted config past wants number (g ∷ flows) f all found =
    by (found_wanted config past wants number flows f (second_of (is_wanted config past wants (Tcp g.number)) (flows_are config past wants flows) all)) (is_numbered number g) refl found
  where
    by : (flow_of number flows ≡ Some f → is_wanted config past wants (Tcp number) ≡ true) → (b : Bool) → is_numbered number g ≡ b → (if b then Some g else flow_of number flows) ≡ Some f
        → is_wanted config past wants (Tcp number) ≡ true
    by rest true test is = subst (λ n. is_wanted config past wants (Tcp n) ≡ true) (equal g.number number test) (first_of (is_wanted config past wants (Tcp g.number))
        (flows_are config past wants flows) all)
    by rest false test is = rest is

-- ---- what is waited for

module _ (config : Config) (past : List Entry) where
  may_read : (wants : List Want) (who : Who) → all_may config past wants ≡ true → reads who wants ≡ true → is_read config past who ≡ true
  may_read [] who all is = absurd cc
  may_read (want ∷ wants) who all is = by (may_read wants who (second_of (may_be_wanted config past want) (all_may config past wants) all)) (same_who who want.of) refl want.read refl is
    where
      by : (reads who wants ≡ true → is_read config past who ≡ true) → (s : Bool) → same_who who want.of ≡ s → (r : Bool) → want.read ≡ r → ((s && r) || reads who wants) ≡ true →
          is_read config past who ≡ true
      by rest true same_test true read_is one =
          let all_of = first_of (may_be_wanted config past want) (all_may config past wants) all in
          let part = first_of (implies want.read (is_read config past want.of)) (implies want.write (may_be_written config past want.of)) all_of in
          subst (λ w. is_read config past w ≡ true) (sym (same_is who want.of same_test)) (implied want.read (is_read config past want.of) part read_is)
      by rest true same_test false read_is one = rest one
      by rest false same_test r read_is one = rest one

  may_write : (wants : List Want) (who : Who) → all_may config past wants ≡ true → writes who wants ≡ true → may_be_written config past who ≡ true
  may_write [] who all is = absurd cc
  may_write (want ∷ wants) who all is = by (may_write wants who (second_of (may_be_wanted config past want) (all_may config past wants) all)) (same_who who want.of) refl want.write refl is
    where
      by : (writes who wants ≡ true → may_be_written config past who ≡ true) → (s : Bool) → same_who who want.of ≡ s → (r : Bool) → want.write ≡ r →
          ((s && r) || writes who wants) ≡ true → may_be_written config past who ≡ true
      by rest true same_test true write_is one =
          let all_of = first_of (may_be_wanted config past want) (all_may config past wants) all in
          let part = second_of (implies want.read (is_read config past want.of)) (implies want.write (may_be_written config past want.of)) all_of in
          subst (λ w. may_be_written config past w ≡ true) (sym (same_is who want.of same_test)) (implied want.write (may_be_written config past want.of) part write_is)
      by rest true same_test false write_is one = rest one
      by rest false same_test r write_is one = rest one

  may_be : (who : Who) → may_be_written config past who ≡ true → MayBeWritten config past who
  may_be Link is = is
  may_be (Listener socket) is = absurd cc
  may_be (Udp socket) is = absurd cc
  may_be (Tcp socket) is = by (flow_of socket (book config past).flows) is
    where
      by : (o : Option Flow) → may_write_flow o ≡ true → MayWriteFlow o
      by None one = absurd cc
      by (Some f) one = may_wait_to_write_is f.story one

  at_socket : (wants : List Want) (n : ℕ) (sockets : List ℕ) → sockets_are config past wants sockets ≡ true → is_among n sockets ≡ true
      → (is_wanted config past wants (Listener n) ≡ true) × (is_wanted config past wants (Udp n) ≡ true)
  at_socket wants n [] all among = absurd cc
  at_socket wants n (m ∷ sockets) all among = by parts (at_socket wants n sockets parts.2) (n == m) refl among
    where
      parts : (is_wanted config past wants (Listener m) ≡ true) × (is_wanted config past wants (Udp m) ≡ true) × (sockets_are config past wants sockets ≡ true)
      parts = three (is_wanted config past wants (Listener m)) (is_wanted config past wants (Udp m)) (sockets_are config past wants sockets) all

      by : (is_wanted config past wants (Listener m) ≡ true) × (is_wanted config past wants (Udp m) ≡ true) × (sockets_are config past wants sockets ≡ true)
          → (is_among n sockets ≡ true → (is_wanted config past wants (Listener n) ≡ true) × (is_wanted config past wants (Udp n) ≡ true))
          → (b : Bool) → (n == m) ≡ b → (b || is_among n sockets) ≡ true → (is_wanted config past wants (Listener n) ≡ true) × (is_wanted config past wants (Udp n) ≡ true)
      by p rest true test one = subst (λ k. (is_wanted config past wants (Listener k) ≡ true) × (is_wanted config past wants (Udp k) ≡ true)) (sym (equal n m test)) (p.0, p.1)
      by p rest false test one = rest one

  module _ (wants : List Want) (all : all_may config past wants ≡ true) (link : is_wanted config past wants Link ≡ true) (sockets : sockets_are config past wants (open_sockets past) ≡ true)
      (flows : flows_are config past wants (book config past).flows ≡ true) where
    -- what must be waited for is one of those that the test goes through
    must_be : (who : Who) → (is_read config past who || is_written config past who) ≡ true → is_wanted config past wants who ≡ true
    must_be Link is = link
    must_be (Listener n) is = (at_socket wants n (open_sockets past) sockets (open_listener (is_among n (open_sockets past)) _ _ is)).0
      where
        open_listener : (a b c : Bool) → ((a && b && c) || false) ≡ true → a ≡ true
        open_listener true b c one = refl
        open_listener false b c one = absurd cc
    must_be (Udp n) is = (at_socket wants n (open_sockets past) sockets (open_socket (is_among n (open_sockets past)) _ _ is)).1
      where
        open_socket : (a b c : Bool) → (((a && b) && c) || false) ≡ true → a ≡ true
        open_socket true b c one = refl
        open_socket false b c one = absurd cc
    must_be (Tcp n) is = by (flow_of n (book config past).flows) refl is
      where
        by : (o : Option Flow) → flow_of n (book config past).flows ≡ o → (reads_flow config o || writes_flow o) ≡ true → is_wanted config past wants (Tcp n) ≡ true
        by None found one = absurd cc
        by (Some f) found one = found_wanted config past wants n (book config past).flows f flows found

    or_one : (a b : Bool) → a ≡ true → (a || b) ≡ true
    or_one true b is = refl
    or_one false b is = absurd cc

    or_other : (a b : Bool) → b ≡ true → (a || b) ≡ true
    or_other true b is = refl
    or_other false b is = is

    read_when : (who : Who) → is_read config past who ≡ true → reads who wants ≡ true
    read_when who is =
        let all_of = must_be who (or_one (is_read config past who) (is_written config past who) is) in
        implied (is_read config past who) (reads who wants) (first_of (implies (is_read config past who) (reads who wants)) (implies (is_written config past who) (writes who wants)) all_of) is

    read_is : (who : Who) → reads who wants ≡ is_read config past who
    read_is who = alike (reads who wants) (is_read config past who) (may_read wants who all) (read_when who)

    write_is : (who : Who) → is_written config past who ≡ true → writes who wants ≡ true
    write_is who is =
        let all_of = must_be who (or_other (is_read config past who) (is_written config past who) is) in
        implied (is_written config past who) (writes who wants) (second_of (implies (is_read config past who) (reads who wants)) (implies (is_written config past who) (writes who wants)) all_of) is

  waits_for_is : (wants : List Want) → waits_for config past wants ≡ true → WaitsFor config past wants
  waits_for_is wants is =
      let p = three (all_may config past wants && is_wanted config past wants Link) (sockets_are config past wants (open_sockets past) && flows_are config past wants
      (book config past).flows) (are_in_order wants) is in
      let all = first_of (all_may config past wants) (is_wanted config past wants Link) p.0 in
      let link = second_of (all_may config past wants) (is_wanted config past wants Link) p.0 in
      let sockets = first_of (sockets_are config past wants (open_sockets past)) (flows_are config past wants (book config past).flows) p.1 in
      let flows = second_of (sockets_are config past wants (open_sockets past)) (flows_are config past wants (book config past).flows) p.1 in
      record {
        to_read = read_is wants all link sockets flows;
        to_write = write_is wants all link sockets flows;
        only_to_write = λ who one. may_be who (may_write wants who all one);
        order = p.2;
      }

  -- ---- reports

  -- what is left was reported
  read_reported : (who : Who) (before : List Entry) → is_left_to_read config before who ≡ true → reads who (reported before) ≡ true
  read_reported who [] is = absurd cc
  read_reported who (Wait wants timeout answer ready ∷ before) is = second_of (reads who wants) (reads who ready) (first_of (reads who wants && reads who ready) _ is)
  read_reported who (_ ∷ before) is = read_reported who before (first_of (is_left_to_read config before who) _ (first_of _ _ is))

  write_reported : (who : Who) (before : List Entry) → is_left_to_write config before who ≡ true → writes who (reported before) ≡ true
  write_reported who [] is = absurd cc
  write_reported who (Wait wants timeout answer ready ∷ before) is = second_of (writes who wants) (writes who ready) (first_of (writes who wants && writes who ready) _ is)
  write_reported who (_ ∷ before) is = write_reported who before (first_of (is_left_to_write config before who) _ (first_of _ _ is))

  -- and of what was reported the test asks
  none_of : (a b c : Bool) → (not a && not b && c) ≡ true → (a ≡ false) × (b ≡ false) × (c ≡ true)
  none_of true b c is = absurd cc
  none_of false true c is = absurd cc
  none_of false false c is = (refl, refl, is)

  read_asked : (items : List Want) (who : Who) → all_served config past items ≡ true → reads who items ≡ true → is_left_to_read config past who ≡ false
  read_asked [] who all is = absurd cc
  read_asked (item ∷ items) who all is = by (same_who who item.of) refl (read_asked items who parts.2) is
    where
      parts : (is_left_to_read config past item.of ≡ false) × (is_left_to_write config past item.of ≡ false) × (all_served config past items ≡ true)
      parts = none_of (is_left_to_read config past item.of) (is_left_to_write config past item.of) (all_served config past items) all

      by : (s : Bool) → same_who who item.of ≡ s → (reads who items ≡ true → is_left_to_read config past who ≡ false) → ((s && item.read) || reads who items) ≡ true →
          is_left_to_read config past who ≡ false
      by true test rest one = subst (λ w. is_left_to_read config past w ≡ false) (sym (same_is who item.of test)) parts.0
      by false test rest one = rest one

  write_asked : (items : List Want) (who : Who) → all_served config past items ≡ true → writes who items ≡ true → is_left_to_write config past who ≡ false
  write_asked [] who all is = absurd cc
  write_asked (item ∷ items) who all is = by (same_who who item.of) refl (write_asked items who parts.2) is
    where
      parts : (is_left_to_read config past item.of ≡ false) × (is_left_to_write config past item.of ≡ false) × (all_served config past items ≡ true)
      parts = none_of (is_left_to_read config past item.of) (is_left_to_write config past item.of) (all_served config past items) all

      by : (s : Bool) → same_who who item.of ≡ s → (writes who items ≡ true → is_left_to_write config past who ≡ false) → ((s && item.write) || writes who items) ≡ true →
          is_left_to_write config past who ≡ false
      by true test rest one = subst (λ w. is_left_to_write config past w ≡ false) (sym (same_is who item.of test)) parts.1
      by false test rest one = rest one

  unless : (b : Bool) → (b ≡ true → b ≡ false) → b ≡ false
  unless true f = f refl
  unless false f = refl

  served_all : all_served config past (reported past) ≡ true → AllServed config past
  served_all all who = record {
    reading = unless (is_left_to_read config past who) (λ is. read_asked (reported past) who all (read_reported who past is));
    writing = unless (is_left_to_write config past who) (λ is. write_asked (reported past) who all (write_reported who past is));
  }

  -- ---- times

  ahead_is : (now : ℕ) (ms : List ℕ) → all_ahead now ms ≡ true → AreAhead now ms
  ahead_is now [] is = tt
  ahead_is now (m ∷ ms) is = (nat_less now m (first_of _ (all_ahead now ms) is), ahead_is now ms (second_of _ (all_ahead now ms) is))

  by_is : (due : Option ℕ) (ms : List ℕ) → is_by due ms ≡ true → IsBy due ms
  by_is due [] is = tt
  by_is None (m ∷ ms) is = absurd cc
  by_is (Some at) (m ∷ ms) is = (nat_within at m (first_of (nat_le at m) (is_by (Some at) ms) is), by_is (Some at) ms (second_of (nat_le at m) (is_by (Some at) ms) is))

  from_is : (due : Option ℕ) (ms : List ℕ) → is_from due ms ≡ true → IsFrom due ms
  from_is None ms is = tt
  from_is (Some at) [] is = absurd cc
  from_is (Some at) (m ∷ ms) is = by (from_is (Some at) ms) (nat_le m at) refl is
    where
      by : (is_from (Some at) ms ≡ true → IsFrom (Some at) ms) → (b : Bool) → nat_le m at ≡ b → (b || is_from (Some at) ms) ≡ true → (m ≤ at) ⊎ IsFrom (Some at) ms
      by rest true test one = inl (nat_within m at test)
      by rest false test one = inr (rest one)

  -- ---- a wait

  some_time_is : (timeout : Option ℕ) → is_some_time timeout ≡ true → timeout ≡ Some 0 → ⊥
  some_time_is None is none = absurd cc
  some_time_is (Some t) is none = let same : t ≡ 0 = some_same t 0 none in let some = nat_less 0 t is in absurd (omega (arith, same, some))

  wait_is : (wants : List Want) (timeout : Option ℕ) → must_wait config past wants timeout ≡ true → MustWait config past wants timeout
  wait_is wants timeout is =
      let all = first_of ((waits_for config past wants && (is_blocked past || is_all_sent config past))
      && ((is_blocked past || all_flows (is_settled_now config past) (book config past).flows) && all_flows (λ f. may_wait f.story (moment past)) (book config past).flows && all_ahead
      (moment past) (lives config past))
      && ((is_by (wait_end (moment past) timeout) (deadlines config past) && is_from (wait_end (moment past) timeout) (alarms config past)) && all_served config past (reported past)))
      (is_some_time timeout) is in
      let some = second_of ((waits_for config past wants && (is_blocked past || is_all_sent config past))
      && ((is_blocked past || all_flows (is_settled_now config past) (book config past).flows) && all_flows (λ f. may_wait f.story (moment past)) (book config past).flows && all_ahead
      (moment past) (lives config past))
      && ((is_by (wait_end (moment past) timeout) (deadlines config past) && is_from (wait_end (moment past) timeout) (alarms config past)) && all_served config past (reported past)))
      (is_some_time timeout) is in
      let p = three (waits_for config past wants && (is_blocked past || is_all_sent config past))
      ((is_blocked past || all_flows (is_settled_now config past) (book config past).flows) && all_flows (λ f. may_wait f.story (moment past)) (book config past).flows && all_ahead
      (moment past) (lives config past))
      ((is_by (wait_end (moment past) timeout) (deadlines config past) && is_from (wait_end (moment past) timeout) (alarms config past)) && all_served config past (reported past)) all in
      let times = first_of (is_by (wait_end (moment past) timeout) (deadlines config past) && is_from (wait_end (moment past) timeout) (alarms config past))
      (all_served config past (reported past)) p.2 in
      let served = second_of (is_by (wait_end (moment past) timeout) (deadlines config past) && is_from (wait_end (moment past) timeout) (alarms config past))
      (all_served config past (reported past)) p.2 in
      let listed = first_of (waits_for config past wants) (is_blocked past || is_all_sent config past) p.0 in
      let out = second_of (waits_for config past wants) (is_blocked past || is_all_sent config past) p.0 in
      let r = three (is_blocked past || all_flows (is_settled_now config past) (book config past).flows) (all_flows (λ f. may_wait f.story (moment past)) (book config past).flows)
      (all_ahead (moment past) (lives config past)) p.1 in
      record {
        waits_for = waits_for_is wants listed;
        served = served_all served;
        out = either (is_blocked past) (is_all_sent config past) out;
        settled = λ free number f found.
            settled (flow_settings config) f.story (guest_is_known (scene config past) f) (is_in_time_wait config past f) (moment past)
            (found_passes (is_settled_now config past) number (book config past).flows f (either (is_blocked past) (all_flows (is_settled_now config past) (book config past).flows) r.0 free) found);
        unused = ahead_is (moment past) (lives config past) r.2;
        closed = λ number f found. waits f.story (moment past) (found_passes (λ g. may_wait g.story (moment past)) number (book config past).flows f r.1 found);
        some_time = some_time_is timeout some;
        until = by_is (wait_end (moment past) timeout) (deadlines config past) (first_of (is_by (wait_end (moment past) timeout) (deadlines config past))
            (is_from (wait_end (moment past) timeout) (alarms config past)) times);
        from = from_is (wait_end (moment past) timeout) (alarms config past) (second_of (is_by (wait_end (moment past) timeout) (deadlines config past))
            (is_from (wait_end (moment past) timeout) (alarms config past)) times);
      }

  pub must_come : (call : Call) → is_must config past call ≡ true → MustCome config past call
  must_come (CallWait wants timeout) is = wait_is wants timeout is
  must_come _ is = tt

-- ---- a trace

-- a trace that passes is dutiful
pub is_sound : (config : Config) (past : List Entry) → is_dutiful config past ≡ true → Dutiful config past
is_sound config [] is = tt
is_sound config (e ∷ past) is =
    let parts : (is_must config past (call_of e) ≡ true) × (is_dutiful config past ≡ true) = (
      first_of (is_must config past (call_of e)) (is_dutiful config past) is,
      second_of
          (is_must config past (call_of e)) (is_dutiful config past) is,
    ) in
    (must_come config past (call_of e) parts.0, is_sound config past parts.1)
