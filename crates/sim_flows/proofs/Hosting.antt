-- What a flow makes for one report of the host is lawful, and the trace has it as the flow's events.
use Rattle.std.proofs.Common.{◌≡◌, ℕ, ◌==◌, ◌&&◌, ◌||◌, not, Bool, true, false, List, [], ◌∷◌, ◌++◌, MatchOption, Option, None, if◌then◌else◌, ◌⊎◌, inl, inr, refl, sym, ◌∙◌, ap, subst, Some}
use Rattle.net_octets.specs.declared.Mac.{Mac}
use Rattle.poll_list.specs.Listing.{reads, same_who, writes}
use Rattle.poll_list.specs.declared.Want.{Want}
use Rattle.poll_list.specs.declared.Who.TheVariants.{Tcp}
use Rattle.world_face.specs.Journal.{Entry, Connected, TcpRead, TcpWrite, TcpEnd, Close}
use Rattle.world_face.specs.Frames.{is_blocked, tail}
use Rattle.world_face.specs.declared.Io.{Io}
use Rattle.world_face.specs.declared.Io.TheVariants.{Done, End, NotYet, Failed}
use Rattle.world_face.specs.declared.Joined.{Joined}
use Rattle.world_face.specs.declared.Joined.TheVariants.{Yes, NotYet as NotJoined, Failed as JoinFailed}
use Rattle.world_face.specs.declared.Made.{Made}
use Rattle.world_face.specs.declared.Made.TheVariants.{Done as MadeDone, Failed as MadeFailed}
use Rattle.slirp_settings.specs.Addresses.{Config}
use Rattle.spec_trace.specs.Moments.{moment}
use Rattle.spec_trace.specs.Sockets.{next_number}
use Rattle.spec_flow.specs.Event.{Event, Closes, At, Story}
use Rattle.spec_flow.specs.Close.{ended_first, follows_reset, host_failed, is_done, in_time_wait_since}
use Rattle.spec_flow.specs.Flow.{is_closed}
use Rattle.spec_flow.specs.Lawful.{Act, AskConnected, Write, EndHost, Read, HasOwnCause, MayHappen, Close as CloseAct, May as MayOfOne, act_of}
use Rattle.spec_flow.specs.Dutiful.{Must as MustOfOne, MustClose, MustHappen, read_size}
use Rattle.spec_flow.specs.Settings.{Settings}
use Rattle.spec_flows.specs.Book.{book, scene}
use Rattle.spec_flows.specs.Doings.{Calls, joined as joined_by, read_by, written_by, ended_by}
use Rattle.spec_flows.specs.Flows.{Flow, closing, came_on, comes_directly, comes_last, guest_is_known, shuts, with_event}
use Rattle.spec_flows.specs.Laws.{flow_settings}
use Rattle.spec_flows.specs.Said.{Differ}
use Rattle.spec_flows.specs.Taught.{taught}
use Rattle.sim_flows.specs.Only.{AreOf}
use Rattle.spec_run.specs.Agenda.{agenda, behind, ended as ended_on, is_to_read, is_to_write, was_written_for, written}
use Rattle.spec_run.specs.Answers.{identification, left}
use Rattle.spec_run.specs.Laws.{Lawful, has_just_written, is_closing}
use Rattle.spec_run.proofs.Bools.{and_both, first_of, or_second, same, second_of}
use Rattle.flow_splice.specs.Entries.{AreEvents, joined, was_ended, was_read, was_written}
use Rattle.flow_splice.specs.Splice.{Face}
use Rattle.flow_splice.specs.Hosts.{is_for_reading, is_for_writing, shuts as is_shut}
use Rattle.flow_splice.specs.Shapes.{IsHostWork, ends, gives, is_reading, is_writing}
use Rattle.spec_run.proofs.Deeds.{quest_none}
use Rattle.sim_flows.specs.Stands.{HasFlow, InWork, IsInOrder, IsLast, with_beats, with_time_wait}
use Rattle.sim_flows.proofs.Calling.{IsCall, after_call, after_close, may_end, may_give, may_look, may_part_then, may_shut, may_take, rests_closed, since_now}
use Rattle.sim_flows.proofs.Pumping.{differ_in, stays_shut}
use Rattle.flow_splice.proofs.Restless.{open_none}

-- ---- answers

-- the flow and the trace say of an answer the same
same_joined : (answer : Joined) → joined_by answer ≡ joined answer
same_joined Yes = refl
same_joined NotJoined = refl
same_joined JoinFailed = refl

same_read : (answer : Io) (octets : List ℕ) → read_by answer octets ≡ was_read answer octets
same_read (Done n) octets = refl
same_read End octets = refl
same_read NotYet octets = refl
same_read Failed octets = refl

same_written : (answer : Io) (octets : List ℕ) → written_by answer octets ≡ was_written octets answer
same_written (Done n) octets = refl
same_written End octets = refl
same_written NotYet octets = refl
same_written Failed octets = refl

same_ended : (answer : Made) → ended_by answer ≡ was_ended answer
same_ended MadeDone = refl
same_ended MadeFailed = refl

-- what was done, whatever the answer
look_act : (answer : Joined) → act_of (joined answer) ≡ Some AskConnected
look_act Yes = refl
look_act NotJoined = refl
look_act JoinFailed = refl

read_act : (answer : Io) (octets : List ℕ) → act_of (was_read answer octets) ≡ Some Read
read_act (Done n) octets = refl
read_act End octets = refl
read_act NotYet octets = refl
read_act Failed octets = refl

write_act : (answer : Io) (octets : List ℕ) → act_of (was_written octets answer) ≡ Some (Write octets)
write_act (Done n) octets = refl
write_act End octets = refl
write_act NotYet octets = refl
write_act Failed octets = refl

end_act : (answer : Made) → act_of (was_ended answer) ≡ Some EndHost
end_act MadeDone = refl
end_act MadeFailed = refl

-- what was done was allowed, and as it must be
module _ (s : Settings) (past : Story) (now : ℕ) (ev : Event) (act : Act) (is : act_of ev ≡ Some act) where
  may_of : MayHappen s past (At now ev) → MayOfOne s past now act
  may_of may = subst (λ (o : Option Act). MatchOption o (host_failed past ≡ false) (λ a. MayOfOne s past now a)) is may

  must_of : MustHappen s past (At now ev) → MustOfOne s past now act
  must_of must = subst (λ (o : Option Act). MatchOption o (MustClose past → ⊥) (λ a. MustOfOne s past now a)) is must

-- ---- one call more

module _ (config : Config) (face : Face) (f : Flow) (past : List Entry) (now : ℕ) (ended known : Bool) where
  -- The run stands at a lawful moment, in a turn, and has this flow.
  pub record Ready : Type 0 where
    pub lawful : Lawful config past
    pub work : InWork config past
    pub has : HasFlow config face f past
    pub at : moment past ≡ now
    pub knows : guest_is_known (scene config past) f ≡ known
    pub last : is_closed f.story ≡ false → comes_last (scene config past) f ≡ ended

  -- These calls on a flow's socket are lawful, and in the trace they are these events of the flow; nothing else has changed.
  pub record Called (made : List Entry) (beats : Story) : Type 0 where
    pub lawful : Lawful config (made ++ past)
    pub work : InWork config (made ++ past)
    pub has : HasFlow config face (with_beats f beats) (made ++ past)
    pub at : moment (made ++ past) ≡ now
    pub of : AreOf config face.number past made
    pub knows : guest_is_known (scene config (made ++ past)) (with_beats f beats) ≡ known
    pub last : is_closed (beats ++ f.story) ≡ false → comes_last (scene config (made ++ past)) (with_beats f beats) ≡ ended
    pub left : left config (made ++ past) ≡ left config past
    pub tail : tail (made ++ past) ≡ tail past
    pub blocked : is_blocked (made ++ past) ≡ is_blocked past
    pub counted : identification (made ++ past) ≡ identification past
    pub next : next_number (made ++ past) ≡ next_number past
    pub taught : taught config (made ++ past) ≡ taught config past
    -- a flow that was open is in TIME-WAIT where its story says so; one that wasn't goes on as it did
    pub time_waits : is_closed f.story ≡ false → (book config (made ++ past)).time_waits ≡ with_time_wait (in_time_wait_since (beats ++ f.story)) face.number (book config past).time_waits
    pub rests_on : is_closed f.story ≡ true → (book config (made ++ past)).time_waits ≡ (book config past).time_waits
    pub stays_in_time_wait : is_closed f.story ≡ true → in_time_wait_since (beats ++ f.story) ≡ in_time_wait_since f.story
    pub since : is_closed f.story ≡ false → (m : ℕ) → in_time_wait_since (beats ++ f.story) ≡ Some m → m ≡ now

  -- none is made yet
  pub none_made : Ready → Called [] []
  none_made ready = record {
    lawful = ready.lawful;
    work = ready.work;
    has = ready.has;
    at = ready.at;
    of = tt;
    knows = ready.knows;
    last = ready.last;
    left = refl;
    tail = refl;
    blocked = refl;
    counted = refl;
    next = refl;
    taught = refl;
    time_waits = λ was_open. sym (ap (λ o. with_time_wait o face.number (book config past).time_waits) (open_none f.story was_open));
    rests_on = λ shut. refl;
    stays_in_time_wait = λ shut. refl;
    since = λ was_open m is. absurd (none_since m (sym (open_none f.story was_open) ∙ is));
  }
    where
      none_since : (m : ℕ) → ◌≡◌ {A = Option ℕ} None (Some m) → ⊥
      none_since m is = cc

  module _ (made : List Entry) (rest : Story) (called : Called made rest) where
    abbrev before : List Entry
    before = made ++ past

    abbrev g : Flow
    g = with_beats f rest

    differ : Differ (book config before).flows
    differ = differ_in config before called.lawful

    here : (act : Act) → MayOfOne (flow_settings config) (rest ++ f.story) now act → MayOfOne (flow_settings config) g.story (moment before) act
    here act may = subst (λ m. MayOfOne (flow_settings config) (rest ++ f.story) m act) (sym called.at) may

    must_here : (act : Act) → MustOfOne (flow_settings config) (rest ++ f.story) now act → MustOfOne (flow_settings config) g.story (moment before) act
    must_here act must = subst (λ m. MustOfOne (flow_settings config) (rest ++ f.story) m act) (sym called.at) must

    -- whatever the answer, no socket is closed by it; it failed where the event says so
    look_call : (answer : Joined) → IsCall config face g before called.work called.has (joined answer)
    look_call Yes = record { failed = λ m story. refl; closed = λ m story. refl; time_waits = λ m story. refl }
    look_call NotJoined = record { failed = λ m story. refl; closed = λ m story. refl; time_waits = λ m story. refl }
    look_call JoinFailed = record { failed = λ m story. refl; closed = λ m story. refl; time_waits = λ m story. refl }

    read_call : (answer : Io) (octets : List ℕ) → IsCall config face g before called.work called.has (was_read answer octets)
    read_call (Done n) octets = record { failed = λ m story. refl; closed = λ m story. refl; time_waits = λ m story. refl }
    read_call End octets = record { failed = λ m story. refl; closed = λ m story. refl; time_waits = λ m story. refl }
    read_call NotYet octets = record { failed = λ m story. refl; closed = λ m story. refl; time_waits = λ m story. refl }
    read_call Failed octets = record { failed = λ m story. refl; closed = λ m story. refl; time_waits = λ m story. refl }

    write_call : (answer : Io) (octets : List ℕ) → IsCall config face g before called.work called.has (was_written octets answer)
    write_call (Done n) octets = record { failed = λ m story. refl; closed = λ m story. refl; time_waits = λ m story. refl }
    write_call End octets = record { failed = λ m story. refl; closed = λ m story. refl; time_waits = λ m story. refl }
    write_call NotYet octets = record { failed = λ m story. refl; closed = λ m story. refl; time_waits = λ m story. refl }
    write_call Failed octets = record { failed = λ m story. refl; closed = λ m story. refl; time_waits = λ m story. refl }

    end_call : (answer : Made) → IsCall config face g before called.work called.has (was_ended answer)
    end_call MadeDone = record { failed = λ m story. refl; closed = λ m story. refl; time_waits = λ m story. refl }
    end_call MadeFailed = record { failed = λ m story. refl; closed = λ m story. refl; time_waits = λ m story. refl }

    still_last : (ev : Event) → IsCall config face g before called.work called.has ev → is_closed (At now ev ∷ rest ++ f.story) ≡ false → comes_last (scene config before) g ≡ ended
    still_last ev call open_yet = called.last (sym (call.closed now (rest ++ f.story)) ∙ open_yet)

    -- it is asked whether it connected
    pub looked_it : (answer : Joined) → MayHappen (flow_settings config) (rest ++ f.story) (At now (joined answer)) → MustHappen (flow_settings config) (rest ++ f.story) (At now (joined answer))
        → writes (Tcp face.number) (agenda before) ≡ true → Called (Connected face.number answer ∷ made) (At now (joined answer) ∷ rest)
    looked_it answer may must reported = record {
      lawful = (
        may_look config face g before called.work called.has (here AskConnected (may_of (flow_settings config) (rest ++ f.story) now (joined answer) AskConnected (look_act answer) may))
            (must_here AskConnected (must_of (flow_settings config) (rest ++ f.story) now (joined answer) AskConnected (look_act answer) must)) reported,
        called.lawful,
      );
      work = record { working = called.work.working; errand = called.work.errand; services = quest_none config before called.work.services; open_yet = called.work.open_yet };
      has = subst (λ m. HasFlow config face (with_event m (joined answer) g) (Connected face.number answer ∷ before)) called.at
          (after_call config face g before called.work called.has (Connected face.number answer) (joined answer) (ap (Calls face.number) (same_joined answer)) (look_call answer) refl differ);
      at = called.at;
      of = (refl, called.of);
      knows = called.knows;
      last = still_last (joined answer) (look_call answer);
      left = called.left;
      tail = called.tail;
      blocked = called.blocked;
      counted = called.counted;
      next = called.next;
      taught = called.taught;
      time_waits = λ was_open. called.time_waits was_open ∙ ap (λ o. with_time_wait o face.number (book config past).time_waits) (sym ((look_call answer).time_waits now (rest ++ f.story)));
      rests_on = called.rests_on;
      stays_in_time_wait = λ shut. (look_call answer).time_waits now (rest ++ f.story) ∙ called.stays_in_time_wait shut;
      since = λ was_open m is. called.since was_open m (sym ((look_call answer).time_waits now (rest ++ f.story)) ∙ is);
    }

    -- octets are offered to it
    pub gave_it : (octets : List ℕ) (answer : Io) → MayHappen (flow_settings config) (rest ++ f.story) (At now (was_written octets answer)) → MustHappen (flow_settings config)
        (rest ++ f.story) (At now (was_written octets answer))
        → writes (Tcp face.number) (agenda before) ≡ true → Called (TcpWrite face.number octets answer ∷ made) (At now (was_written octets answer) ∷ rest)
    gave_it octets answer may must reported = record {
      lawful = (
        may_give config face g before called.work called.has octets (here (Write octets) (may_of (flow_settings config) (rest ++ f.story) now (was_written octets answer)
            (Write octets) (write_act answer octets) may))
            (must_here (Write octets) (must_of (flow_settings config) (rest ++ f.story) now (was_written octets answer) (Write octets) (write_act answer octets) must)) reported,
        called.lawful,
      );
      work = record { working = called.work.working; errand = called.work.errand; services = quest_none config before called.work.services; open_yet = called.work.open_yet };
      has = subst (λ m. HasFlow config face (with_event m (was_written octets answer) g) (TcpWrite face.number octets answer ∷ before)) called.at
          (after_call config face g before called.work called.has (TcpWrite face.number octets answer) (was_written octets answer)
          (ap (Calls face.number) (same_written answer octets)) (write_call answer octets) refl differ);
      at = called.at;
      of = (refl, called.of);
      knows = called.knows;
      last = still_last (was_written octets answer) (write_call answer octets);
      left = called.left;
      tail = called.tail;
      blocked = called.blocked;
      counted = called.counted;
      next = called.next;
      taught = called.taught;
      time_waits = λ was_open. called.time_waits was_open ∙ ap (λ o. with_time_wait o face.number (book config past).time_waits) (sym ((write_call answer octets).time_waits now (rest ++ f.story)));
      rests_on = called.rests_on;
      stays_in_time_wait = λ shut. (write_call answer octets).time_waits now (rest ++ f.story) ∙ called.stays_in_time_wait shut;
      since = λ was_open m is. called.since was_open m (sym ((write_call answer octets).time_waits now (rest ++ f.story)) ∙ is);
    }

    -- it is told the guest's end
    pub ended_it : (answer : Made) → MayHappen (flow_settings config) (rest ++ f.story) (At now (was_ended answer)) → MustHappen (flow_settings config) (rest ++ f.story) (At now (was_ended answer))
        → (writes (Tcp face.number) (agenda before) || has_just_written face.number before) ≡ true → Called (TcpEnd face.number answer ∷ made) (At now (was_ended answer) ∷ rest)
    ended_it answer may must reported = record {
      lawful = (
        may_end config face g before called.work called.has (here EndHost (may_of (flow_settings config) (rest ++ f.story) now (was_ended answer) EndHost (end_act answer) may))
            (must_here EndHost (must_of (flow_settings config) (rest ++ f.story) now (was_ended answer) EndHost (end_act answer) must)) reported,
        called.lawful,
      );
      work = record { working = called.work.working; errand = called.work.errand; services = quest_none config before called.work.services; open_yet = called.work.open_yet };
      has = subst (λ m. HasFlow config face (with_event m (was_ended answer) g) (TcpEnd face.number answer ∷ before)) called.at
          (after_call config face g before called.work called.has (TcpEnd face.number answer) (was_ended answer) (ap (Calls face.number) (same_ended answer)) (end_call answer) refl differ);
      at = called.at;
      of = (refl, called.of);
      knows = called.knows;
      last = still_last (was_ended answer) (end_call answer);
      left = called.left;
      tail = called.tail;
      blocked = called.blocked;
      counted = called.counted;
      next = called.next;
      taught = called.taught;
      time_waits = λ was_open. called.time_waits was_open ∙ ap (λ o. with_time_wait o face.number (book config past).time_waits) (sym ((end_call answer).time_waits now (rest ++ f.story)));
      rests_on = called.rests_on;
      stays_in_time_wait = λ shut. (end_call answer).time_waits now (rest ++ f.story) ∙ called.stays_in_time_wait shut;
      since = λ was_open m is. called.since was_open m (sym ((end_call answer).time_waits now (rest ++ f.story)) ∙ is);
    }

    -- it is read
    pub took_it : (asked : ℕ) (answer : Io) (octets : List ℕ) → asked ≡ read_size (flow_settings config) (rest ++ f.story) → MayHappen (flow_settings config) (rest ++ f.story)
        (At now (was_read answer octets))
        → MustHappen (flow_settings config) (rest ++ f.story) (At now (was_read answer octets)) → reads (Tcp face.number) (agenda before) ≡ true → Called
        (TcpRead face.number asked answer octets ∷ made) (At now (was_read answer octets) ∷ rest)
    took_it asked answer octets size may must reported = record {
      lawful = (
        may_take config face g before called.work called.has asked size (here Read (may_of (flow_settings config) (rest ++ f.story) now (was_read answer octets) Read (read_act answer octets) may))
            (must_here Read (must_of (flow_settings config) (rest ++ f.story) now (was_read answer octets) Read (read_act answer octets) must)) reported,
        called.lawful,
      );
      work = record { working = called.work.working; errand = called.work.errand; services = quest_none config before called.work.services; open_yet = called.work.open_yet };
      has = subst (λ m. HasFlow config face (with_event m (was_read answer octets) g) (TcpRead face.number asked answer octets ∷ before)) called.at
          (after_call config face g before called.work called.has (TcpRead face.number asked answer octets) (was_read answer octets)
          (ap (Calls face.number) (same_read answer octets)) (read_call answer octets) refl differ);
      at = called.at;
      of = (refl, called.of);
      knows = called.knows;
      last = still_last (was_read answer octets) (read_call answer octets);
      left = called.left;
      tail = called.tail;
      blocked = called.blocked;
      counted = called.counted;
      next = called.next;
      taught = called.taught;
      time_waits = λ was_open. called.time_waits was_open ∙ ap (λ o. with_time_wait o face.number (book config past).time_waits) (sym ((read_call answer octets).time_waits now (rest ++ f.story)));
      rests_on = called.rests_on;
      stays_in_time_wait = λ shut. (read_call answer octets).time_waits now (rest ++ f.story) ∙ called.stays_in_time_wait shut;
      since = λ was_open m is. called.since was_open m (sym ((read_call answer octets).time_waits now (rest ++ f.story)) ∙ is);
    }

    -- it is closed, directly after a segment of the flow or not
    module _ (directly : Bool) (came : comes_directly (book config before).came g ≡ directly) (cause : HasOwnCause directly false known now (rest ++ f.story))
        (may : MayOfOne (flow_settings config) (rest ++ f.story) now (CloseAct directly ended known)) where
      open_yet : is_closed (rest ++ f.story) ≡ false
      open_yet = may.calls_open_socket

      last_is : comes_last (scene config before) g ≡ ended
      last_is = called.last open_yet

      cause_here : HasOwnCause (comes_directly (book config before).came g) false (guest_is_known (scene config before) g) (moment before) g.story
      cause_here = subst (λ d. HasOwnCause d false (guest_is_known (scene config before) g) (moment before) g.story) (sym came)
          (subst (λ k. HasOwnCause directly false k (moment before) g.story) (sym called.knows)
          (subst (λ m. HasOwnCause directly false known m g.story) (sym called.at) cause))

      closing_is : closing (scene config before) (book config before).came g ≡ CloseAct directly ended known
      closing_is = λ i. CloseAct (came i) (last_is i) (called.knows i)

      may_here : MayOfOne (flow_settings config) g.story (moment before) (closing (scene config before) (book config before).came g)
      may_here = subst (MayOfOne (flow_settings config) g.story (moment before)) (sym closing_is) (here (CloseAct directly ended known) may)

      shuts_is : shuts (scene config before) (book config before).came g ≡ with_beats f (At now (Closes directly ended known) ∷ rest)
      shuts_is = λ i. with_event (called.at i) (Closes (came i) (last_is i) (called.knows i)) g

      pub shut_it : Called (Close face.number ∷ made) (At now (Closes directly ended known) ∷ rest)
      shut_it = record {
        lawful = (may_shut config face g before called.work called.has cause_here open_yet may_here, called.lawful);
        work = record {
          working = called.work.working;
          errand = called.work.errand;
          services = quest_none config before called.work.services;
          open_yet = ap (λ b. if not b then true else is_closing config before) (may_part_then config face g before called.work called.has cause_here open_yet) ∙ called.work.open_yet;
        };
        has = subst (λ h. HasFlow config face h (Close face.number ∷ before)) shuts_is (after_close config face g before called.work called.has differ);
        at = called.at;
        of = (refl, called.of);
        knows = called.knows;
        last = λ open_still. cc;
        left = called.left;
        tail = called.tail;
        blocked = called.blocked;
        counted = called.counted;
        next = called.next;
        taught = called.taught;
        time_waits = λ was_open.
            rests_closed config face g before called.work called.has differ now directly ended known called.at shuts_is
            ∙ ap (with_time_wait (in_time_wait_since (At now (Closes directly ended known) ∷ rest ++ f.story)) face.number)
            (called.time_waits was_open ∙ ap (λ o. with_time_wait o face.number (book config past).time_waits) (open_none (rest ++ f.story) open_yet));
        rests_on = λ shut. absurd (shut_before shut);
        stays_in_time_wait = λ shut. absurd (shut_before shut);
        since = λ was_open m is. since_now config face g before called.work called.has (is_done (rest ++ f.story) && not (follows_reset directly (rest ++ f.story)) && ended_first
            (rest ++ f.story)) now m is;
      }
        where
          shut_before : is_closed f.story ≡ true → ⊥
          shut_before shut = not_both (sym (stays_shut rest f.story shut) ∙ open_yet)
            where
              not_both : true ≡ false → ⊥
              not_both is = cc

-- ---- which calls they are

which_writes : (e : Entry) → is_for_writing e ≡ true
    → ((socket : ℕ) × (answer : Joined) × (e ≡ Connected socket answer)) ⊎ (((socket : ℕ) × (octets : List ℕ) × (answer : Io) × (e ≡ TcpWrite socket octets answer)) ⊎
    ((socket : ℕ) × (answer : Made) × (e ≡ TcpEnd socket answer)))
which_writes (Connected socket answer) is = inl (socket, answer, refl)
which_writes (TcpWrite socket octets answer) is = inr (inl (socket, octets, answer, refl))
which_writes (TcpEnd socket answer) is = inr (inr (socket, answer, refl))
which_writes _ is = absurd cc

which_gives : (e : Entry) → gives e ≡ true → (socket : ℕ) × (octets : List ℕ) × (answer : Io) × (e ≡ TcpWrite socket octets answer)
which_gives (TcpWrite socket octets answer) is = (socket, octets, answer, refl)
which_gives _ is = absurd cc

give_writes : (e : Entry) → gives e ≡ true → is_for_writing e ≡ true
give_writes e is = let w = which_gives e is in subst (λ x. is_for_writing x ≡ true) (sym w.3) refl

which_ends : (e : Entry) → ends e ≡ true → (socket : ℕ) × (answer : Made) × (e ≡ TcpEnd socket answer)
which_ends (TcpEnd socket answer) is = (socket, answer, refl)
which_ends _ is = absurd cc

which_takes : (e : Entry) → is_for_reading e ≡ true → (socket : ℕ) × (asked : ℕ) × (answer : Io) × (octets : List ℕ) × (e ≡ TcpRead socket asked answer octets)
which_takes (TcpRead socket asked answer octets) is = (socket, asked, answer, octets, refl)
which_takes _ is = absurd cc

which_shuts : (e : Entry) → is_shut e ≡ true → (socket : ℕ) × (e ≡ Close socket)
which_shuts (Close socket) is = (socket, refl)
which_shuts _ is = absurd cc

-- by none of them a segment came
module _ (config : Config) (past : List Entry) where
  quiet_write : (e : Entry) → is_for_writing e ≡ true → (book config (e ∷ past)).came ≡ None
  quiet_write e is = by_kind (which_writes e is)
    where
      by_kind : ((socket : ℕ) × (answer : Joined) × (e ≡ Connected socket answer)) ⊎ (((socket : ℕ) × (octets : List ℕ) × (answer : Io) × (e ≡ TcpWrite socket octets answer)) ⊎
          ((socket : ℕ) × (answer : Made) × (e ≡ TcpEnd socket answer)))
          → (book config (e ∷ past)).came ≡ None
      by_kind (inl w) = subst (λ x. (book config (x ∷ past)).came ≡ None) (sym w.2) refl
      by_kind (inr (inl w)) = subst (λ x. (book config (x ∷ past)).came ≡ None) (sym w.3) refl
      by_kind (inr (inr w)) = subst (λ x. (book config (x ∷ past)).came ≡ None) (sym w.2) refl

  quiet_end : (e : Entry) → ends e ≡ true → (book config (e ∷ past)).came ≡ None
  quiet_end e is = let w = which_ends e is in subst (λ x. (book config (x ∷ past)).came ≡ None) (sym w.2) refl

  quiet_read : (e : Entry) → is_for_reading e ≡ true → (book config (e ∷ past)).came ≡ None
  quiet_read e is = let w = which_takes e is in subst (λ x. (book config (x ∷ past)).came ≡ None) (sym w.4) refl

pub or_first : (a b : Bool) → a ≡ true → (a || b) ≡ true
or_first true b is = refl
or_first false b is = cc

-- one of two tests
either : (a b : Bool) → (a || b) ≡ true → (a ≡ true) ⊎ (b ≡ true)
either true b is = inl refl
either false b is = inr is

-- ---- the report

pub skipped : (item : Want) (items all : List Want) → IsLast (item ∷ items) all → IsLast items all
skipped item items all (before, is) = (before ++ (item ∷ []), is ∙ moved before)
  where
    moved : (xs : List Want) → xs ++ (item ∷ items) ≡ (xs ++ (item ∷ [])) ++ items
    moved [] = refl
    moved (x ∷ xs) = ap (λ l. x ∷ l) (moved xs)

module _ (n : ℕ) (read : Bool) (items : List Want) where
  -- what is left of it: for reading as it was reported, and for writing or no more
  abbrev pub item : Bool → Want
  item write = record { of = Tcp n; read = read; write = write }

  abbrev IsThere : List Want → Type 0
  IsThere all = (write : Bool) × IsLast (item write ∷ items) all

  writes_last : (before : List Want) → writes (Tcp n) (before ++ (item true ∷ items)) ≡ true
  writes_last [] = ap (λ b. (b && true) || writes (Tcp n) items) (same n)
  writes_last (x ∷ before) = or_second (same_who (Tcp n) x.of && x.write) (writes (Tcp n) (before ++ (item true ∷ items))) (writes_last before)

  writes_of : (all : List Want) → IsLast (item true ∷ items) all → writes (Tcp n) all ≡ true
  writes_of all (before, last) = ap (writes (Tcp n)) last ∙ writes_last before

  reads_last : (write : Bool) (before : List Want) → read ≡ true → reads (Tcp n) (before ++ (item write ∷ items)) ≡ true
  reads_last write [] is = ap (λ b. (b && read) || reads (Tcp n) items) (same n) ∙ ap (λ b. b || reads (Tcp n) items) is
  reads_last write (x ∷ before) is = or_second (same_who (Tcp n) x.of && x.read) (reads (Tcp n) (before ++ (item write ∷ items))) (reads_last write before is)

  reads_of : (all : List Want) → read ≡ true → IsThere all → reads (Tcp n) all ≡ true
  reads_of all is (write, (before, last)) = ap (reads (Tcp n)) last ∙ reads_last write before is

  -- a call for writing takes it for writing, or one of the same socket that stands before
  written_last : (before : List Want) → IsThere (written (Tcp n) (before ++ (item true ∷ items)))
  written_last [] = (false, ([], ap (λ b. if b && true then item false ∷ items else written (Tcp n) items) (same n)))
  written_last (x ∷ before) = by (is_to_write (Tcp n) x) (written_last before)
    where
      by : (b : Bool) → IsThere (written (Tcp n) (before ++ (item true ∷ items)))
          → IsThere (if b then record { of = x.of; read = x.read; write = false } ∷ (before ++ (item true ∷ items)) else written (Tcp n) (before ++ (item true ∷ items)))
      by true later = (true, (record { of = x.of; read = x.read; write = false } ∷ before, refl))
      by false later = later

  written_of : (all : List Want) → IsLast (item true ∷ items) all → IsThere (written (Tcp n) all)
  written_of all (before, last) = subst (λ l. IsThere (written (Tcp n) l)) (sym last) (written_last before)

  front_last : (before : List Want) → was_written_for n (written (Tcp n) (before ++ (item true ∷ items))) ≡ true
  front_last [] = ap (λ b. was_written_for n (if b && true then item false ∷ items else written (Tcp n) items)) (same n) ∙ ap (λ b. b && true) (same n)
  front_last (x ∷ before) = by (is_to_write (Tcp n) x) refl (front_last before)
    where
      by : (b : Bool) → is_to_write (Tcp n) x ≡ b → was_written_for n (written (Tcp n) (before ++ (item true ∷ items))) ≡ true
          → was_written_for n (if b then record { of = x.of; read = x.read; write = false } ∷ (before ++ (item true ∷ items)) else written (Tcp n) (before ++ (item true ∷ items))) ≡ true
      by true is later = and_both (same_who (Tcp n) x.of) true (first_of (same_who (Tcp n) x.of) x.write is) refl
      by false is later = later

  front_of : (all : List Want) → IsLast (item true ∷ items) all → was_written_for n (written (Tcp n) all) ≡ true
  front_of all (before, last) = ap (λ l. was_written_for n (written (Tcp n) l)) last ∙ front_last before

  -- so does an end, where it isn't behind octets
  ended_of : (all : List Want) → IsLast (item true ∷ items) all → IsThere (ended_on n all)
  ended_of all last = by (was_written_for n all)
    where
      by : (b : Bool) → IsThere (if b then all else written (Tcp n) all)
      by true = (true, last)
      by false = written_of all last

  ended_behind : (all : List Want) → was_written_for n all ≡ true → IsThere all → IsThere (ended_on n all)
  ended_behind all front there = subst (λ b. IsThere (if b then all else written (Tcp n) all)) (sym front) there

  -- a read takes it, or one of the same socket that stands before
  behind_last : (write : Bool) (before : List Want) → read ≡ true → IsLast items (behind (Tcp n) (before ++ (item write ∷ items)))
  behind_last write [] is = ([], ap (λ b. if b && read then items else behind (Tcp n) items) (same n) ∙ ap (λ b. if b then items else behind (Tcp n) items) is)
  behind_last write (x ∷ before) is = by (is_to_read (Tcp n) x) (behind_last write before is)
    where
      by : (b : Bool) → IsLast items (behind (Tcp n) (before ++ (item write ∷ items))) → IsLast items (if b then before ++ (item write ∷ items) else behind (Tcp n) (before ++ (item write ∷ items)))
      by true later = skipped (item write) items (before ++ (item write ∷ items)) (before, refl)
      by false later = later

  behind_of : (all : List Want) → read ≡ true → IsThere all → IsLast items (behind (Tcp n) all)
  behind_of all is (write, (before, last)) = subst (λ l. IsLast items (behind (Tcp n) l)) (sym last) (behind_last write before is)

  -- it is passed over
  pass_over : (all : List Want) → IsThere all → IsLast items all
  pass_over all (write, last) = skipped (item write) items all last

module _ (config : Config) (face : Face) (mac : Option Mac) (f : Flow) (past : List Entry) (ident now : ℕ) (ended known : Bool) (read write : Bool) (items : List Want) where
  abbrev CalledHere : List Entry → Story → Type 0
  CalledHere made beats = Called config face f past now ended known made beats

  -- the calls so far, and what is left of the reports
  pub record Facing (Left : List Want → Type 0) (made : List Entry) (beats : Story) : Type 0 where
    pub called : CalledHere made beats
    pub agenda : Left (agenda (made ++ past))

  -- These entries are lawful, and in the trace they are these events of the flow; the reports behind this one are left; nothing else has changed.
  abbrev pub Heard : List Entry → Story → Type 0
  Heard made beats = Facing (IsLast items) made beats

  -- this report is there, for writing too; is there; and is there, and octets were written for the one in front
  abbrev ForWriting : List Want → Type 0
  ForWriting all = IsLast (item face.number read items true ∷ items) all

  abbrev There : List Want → Type 0
  There all = IsThere face.number read items all

  abbrev ForEnding : List Want → Type 0
  ForEnding all = There all × (was_written_for face.number all ≡ true)

  -- ---- one call more

  abbrev Makes : List Entry → Story → Type 0
  Makes made beats = AreEvents (flow_settings config) face mac false ended known ident now f.story made beats

  abbrev IsWell : Story → Type 0
  IsWell beats = IsInOrder (flow_settings config) (beats ++ f.story)

  -- what a call more is to stand on
  abbrev Before : List Entry → (Story → Type 0) → Type 0
  Before made P = (rest : Story) → Makes made rest → IsWell rest → P rest

  weaker : (made : List Entry) (beats : Story) → Facing ForEnding made beats → Facing There made beats
  weaker made beats faces = record { called = faces.called; agenda = faces.agenda.0 }

  module _ (made : List Entry) (beats : Story) where
    look_next : (socket : ℕ) (answer : Joined) → Before made (Facing ForWriting made) → Makes (Connected socket answer ∷ made) beats → IsWell beats → Facing There
        (Connected socket answer ∷ made) beats
    look_next socket answer go_on (rest, are, (number, is_beats)) lawful =
        let now_lawful = subst IsWell is_beats lawful in
        let faces = go_on rest are (now_lawful.0.1, now_lawful.1.1) in
        subst (λ n. Facing There (Connected n answer ∷ made) beats) (sym number)
        (subst (Facing There (Connected face.number answer ∷ made)) (sym is_beats)
        (record {
          called = looked_it config face f past now ended known made rest faces.called answer now_lawful.0.0 now_lawful.1.0 (writes_of face.number read items (agenda (made ++ past)) faces.agenda);
          agenda = written_of face.number read items (agenda (made ++ past)) faces.agenda;
        }))

    give_next : (socket : ℕ) (octets : List ℕ) (answer : Io) → Before made (Facing ForWriting made) → Makes (TcpWrite socket octets answer ∷ made) beats → IsWell beats →
        Facing ForEnding (TcpWrite socket octets answer ∷ made) beats
    give_next socket octets answer go_on (rest, are, (number, is_beats)) lawful =
        let now_lawful = subst IsWell is_beats lawful in
        let faces = go_on rest are (now_lawful.0.1, now_lawful.1.1) in
        subst (λ n. Facing ForEnding (TcpWrite n octets answer ∷ made) beats) (sym number)
        (subst (Facing ForEnding (TcpWrite face.number octets answer ∷ made)) (sym is_beats)
        (record {
          called = gave_it config face f past now ended known made rest faces.called octets answer now_lawful.0.0 now_lawful.1.0
              (writes_of face.number read items (agenda (made ++ past)) faces.agenda);
          agenda = (written_of face.number read items (agenda (made ++ past)) faces.agenda, front_of face.number read items (agenda (made ++ past)) faces.agenda);
        }))

    end_next : (socket : ℕ) (answer : Made) → Before made (Facing ForWriting made) → Makes (TcpEnd socket answer ∷ made) beats → IsWell beats → Facing There (TcpEnd socket answer ∷ made) beats
    end_next socket answer go_on (rest, are, (number, is_beats)) lawful =
        let now_lawful = subst IsWell is_beats lawful in
        let faces = go_on rest are (now_lawful.0.1, now_lawful.1.1) in
        subst (λ n. Facing There (TcpEnd n answer ∷ made) beats) (sym number)
        (subst (Facing There (TcpEnd face.number answer ∷ made)) (sym is_beats)
        (record {
          called = ended_it config face f past now ended known made rest faces.called answer now_lawful.0.0 now_lawful.1.0
              (or_first (writes (Tcp face.number) (agenda (made ++ past))) (has_just_written face.number (made ++ past)) (writes_of face.number read items (agenda (made ++ past)) faces.agenda));
          agenda = ended_of face.number read items (agenda (made ++ past)) faces.agenda;
        }))

    -- an end directly behind octets
    end_behind : (socket : ℕ) (answer : Made) → has_just_written face.number (made ++ past) ≡ true → Before made (Facing ForEnding made) → Makes (TcpEnd socket answer ∷ made) beats → IsWell beats
        → Facing There (TcpEnd socket answer ∷ made) beats
    end_behind socket answer wrote go_on (rest, are, (number, is_beats)) lawful =
        let now_lawful = subst IsWell is_beats lawful in
        let faces = go_on rest are (now_lawful.0.1, now_lawful.1.1) in
        subst (λ n. Facing There (TcpEnd n answer ∷ made) beats) (sym number)
        (subst (Facing There (TcpEnd face.number answer ∷ made)) (sym is_beats)
        (record {
          called = ended_it config face f past now ended known made rest faces.called answer now_lawful.0.0 now_lawful.1.0
              (or_second (writes (Tcp face.number) (agenda (made ++ past))) (has_just_written face.number (made ++ past)) wrote);
          agenda = ended_behind face.number read items (agenda (made ++ past)) faces.agenda.1 faces.agenda.0;
        }))

    take_next : (socket asked : ℕ) (answer : Io) (octets : List ℕ) → read ≡ true → Before made (Facing There made) → Makes (TcpRead socket asked answer octets ∷ made) beats → IsWell beats
        → Facing (IsLast items) (TcpRead socket asked answer octets ∷ made) beats
    take_next socket asked answer octets reported go_on (rest, are, (number, size, is_beats)) lawful =
        let now_lawful = subst IsWell is_beats lawful in
        let faces = go_on rest are (now_lawful.0.1, now_lawful.1.1) in
        subst (λ n. Facing (IsLast items) (TcpRead n asked answer octets ∷ made) beats) (sym number)
        (subst (Facing (IsLast items) (TcpRead face.number asked answer octets ∷ made)) (sym is_beats)
        (record {
          called = took_it config face f past now ended known made rest faces.called asked answer octets size now_lawful.0.0 now_lawful.1.0
              (reads_of face.number read items (agenda (made ++ past)) reported faces.agenda);
          agenda = behind_of face.number read items (agenda (made ++ past)) reported faces.agenda;
        }))

    close_next : (Left : List Want → Type 0) (socket : ℕ) → (book config (made ++ past)).came ≡ None → Before made (Facing Left made) → Makes (Close socket ∷ made) beats →
        IsWell beats → Facing Left (Close socket ∷ made) beats
    close_next Left socket came go_on (rest, are, (number, is_beats, cause)) lawful =
        let now_lawful = subst IsWell is_beats lawful in
        let faces = go_on rest are (now_lawful.0.1, now_lawful.1.1) in
        subst (λ n. Facing Left (Close n ∷ made) beats) (sym number)
        (subst (Facing Left (Close face.number ∷ made)) (sym is_beats)
        (record {
          called = shut_it config face f past now ended known made rest faces.called false (ap (came_on f.tuple) came) cause now_lawful.0.0;
          agenda = faces.agenda;
        }))

    -- ---- the same by the shape

    writes_next : (e : Entry) → is_for_writing e ≡ true → Before made (Facing ForWriting made) → Makes (e ∷ made) beats → IsWell beats → Facing There (e ∷ made) beats
    writes_next e is go_on are lawful = by_kind (which_writes e is)
      where
        by_kind : ((socket : ℕ) × (answer : Joined) × (e ≡ Connected socket answer)) ⊎ (((socket : ℕ) × (octets : List ℕ) × (answer : Io) × (e ≡ TcpWrite socket octets answer)) ⊎
            ((socket : ℕ) × (answer : Made) × (e ≡ TcpEnd socket answer)))
            → Facing There (e ∷ made) beats
        by_kind (inl w) = subst (λ x. Makes (x ∷ made) beats → Facing There (x ∷ made) beats) (sym w.2) (λ a. look_next w.0 w.1 go_on a lawful) are
        by_kind (inr (inl w)) = subst (λ x. Makes (x ∷ made) beats → Facing There (x ∷ made) beats) (sym w.3) (λ a. weaker (TcpWrite w.0 w.1 w.2 ∷ made) beats
            (give_next w.0 w.1 w.2 go_on a lawful)) are
        by_kind (inr (inr w)) = subst (λ x. Makes (x ∷ made) beats → Facing There (x ∷ made) beats) (sym w.2) (λ a. end_next w.0 w.1 go_on a lawful) are

    gives_next : (e : Entry) → gives e ≡ true → Before made (Facing ForWriting made) → Makes (e ∷ made) beats → IsWell beats → Facing ForEnding (e ∷ made) beats
    gives_next e is go_on are lawful =
        let w = which_gives e is in
        subst (λ x. Makes (x ∷ made) beats → Facing ForEnding (x ∷ made) beats) (sym w.3) (λ a. give_next w.0 w.1 w.2 go_on a lawful) are

    ends_next : (e : Entry) → ends e ≡ true → has_just_written face.number (made ++ past) ≡ true → Before made (Facing ForEnding made) → Makes (e ∷ made) beats → IsWell beats →
        Facing There (e ∷ made) beats
    ends_next e is wrote go_on are lawful =
        let w = which_ends e is in
        subst (λ x. Makes (x ∷ made) beats → Facing There (x ∷ made) beats) (sym w.2) (λ a. end_behind w.0 w.1 wrote go_on a lawful) are

    takes_next : (e : Entry) → is_for_reading e ≡ true → read ≡ true → Before made (Facing There made) → Makes (e ∷ made) beats → IsWell beats → Facing (IsLast items) (e ∷ made) beats
    takes_next e is reported go_on are lawful =
        let k = which_takes e is in
        subst (λ x. Makes (x ∷ made) beats → Facing (IsLast items) (x ∷ made) beats) (sym k.4) (λ a. take_next k.0 k.1 k.2 k.3 reported go_on a lawful) are

    shuts_next : (Left : List Want → Type 0) (e : Entry) → is_shut e ≡ true → (book config (made ++ past)).came ≡ None → Before made (Facing Left made) → Makes (e ∷ made) beats →
        IsWell beats → Facing Left (e ∷ made) beats
    shuts_next Left e is came go_on are lawful =
        let w = which_shuts e is in
        subst (λ x. Makes (x ∷ made) beats → Facing Left (x ∷ made) beats) (sym w.1) (λ a. close_next Left w.0 came go_on a lawful) are

    -- the octets were written to this flow
    wrote_it : (e : Entry) → gives e ≡ true → Makes (e ∷ made) beats → has_just_written face.number (e ∷ made ++ past) ≡ true
    wrote_it e is are =
        let w = which_gives e is in
        subst (λ x. Makes (x ∷ made) beats → has_just_written face.number (x ∷ made ++ past) ≡ true) (sym w.3) (on_it w.0 w.1 w.2) are
      where
        on_it : (socket : ℕ) (octets : List ℕ) (answer : Io) → Makes (TcpWrite socket octets answer ∷ made) beats → (socket == face.number) ≡ true
        on_it socket octets answer (rest, are, (number, is_beats)) = ap (λ n. n == face.number) number ∙ same face.number

  -- ---- all of them

  -- what was answered was reported
  was_wanted : (b : Bool) (e : Entry) (l : List Entry) → (b ≡ false → (e ∷ l) ≡ []) → b ≡ true
  was_wanted true e l unless = refl
  was_wanted false e l unless = let never = unless refl in cc

  module _ (ready : Ready config face f past now ended known) (reported : IsLast (item face.number read items write ∷ items) (agenda past)) where
    none_yet : CalledHere [] []
    none_yet = none_made config face f past now ended known ready

    first_of_all : Before [] (Facing There [])
    first_of_all rest are lawful = subst (Facing There []) (sym are) (record { called = none_yet; agenda = (write, reported) })

    for_writing : write ≡ true → Before [] (Facing ForWriting [])
    for_writing is rest are lawful =
        subst (Facing ForWriting []) (sym are) (record { called = none_yet; agenda = subst (λ w. IsLast (item face.number read items w ∷ items) (agenda past)) is reported })

    -- one call for writing, two, and three
    module _ (wanted : write ≡ true) where
      one_for_writing : (a : Entry) → is_for_writing a ≡ true → Before (a ∷ []) (Facing There (a ∷ []))
      one_for_writing a is rest are lawful = writes_next [] rest a is (for_writing wanted) are lawful

      given : (a : Entry) → gives a ≡ true → Before (a ∷ []) (Facing ForEnding (a ∷ []))
      given a is rest are lawful = gives_next [] rest a is (for_writing wanted) are lawful

      given_and_ended : (b a : Entry) → ends b ≡ true → gives a ≡ true → Before (b ∷ a ∷ []) (Facing There (b ∷ a ∷ []))
      given_and_ended b a is_end is_give rest are lawful = ends_next (a ∷ []) rest b is_end (wrote_it [] are.0 a is_give are.1) (given a is_give) are lawful

      two_for_writing : (b a : Entry) → ((is_shut b && is_for_writing a) ≡ true) ⊎ ((ends b && gives a) ≡ true) → Before (b ∷ a ∷ []) (Facing There (b ∷ a ∷ []))
      two_for_writing b a (inl is) rest are lawful =
          let one = first_of (is_shut b) (is_for_writing a) is in
          let two = second_of (is_shut b) (is_for_writing a) is in
          shuts_next (a ∷ []) rest There b one (quiet_write config past a two) (one_for_writing a two) are lawful
      two_for_writing b a (inr is) rest are lawful = given_and_ended b a (first_of (ends b) (gives a) is) (second_of (ends b) (gives a) is) rest are lawful

      three_for_writing : (c b a : Entry) → (is_shut c && ends b && gives a) ≡ true → Before (c ∷ b ∷ a ∷ []) (Facing There (c ∷ b ∷ a ∷ []))
      three_for_writing c b a is rest are lawful =
          let front = first_of (is_shut c && ends b) (gives a) is in
          let one = first_of (is_shut c) (ends b) front in
          let two = second_of (is_shut c) (ends b) front in
          let three = second_of (is_shut c && ends b) (gives a) is in
          shuts_next (b ∷ a ∷ []) rest There c one (quiet_end config (a ∷ past) b two) (given_and_ended b a two three) are lawful

    written_for : (l : List Entry) → is_writing l ≡ true → (write ≡ false → l ≡ []) → Before l (Facing There l)
    written_for [] is unless = first_of_all
    written_for (a ∷ []) is unless = one_for_writing (was_wanted write a [] unless) a is
    written_for (b ∷ a ∷ []) is unless = two_for_writing (was_wanted write b (a ∷ []) unless) b a (either (is_shut b && is_for_writing a) (ends b && gives a) is)
    written_for (c ∷ b ∷ a ∷ []) is unless = three_for_writing (was_wanted write c (b ∷ a ∷ []) unless) c b a is
    written_for (d ∷ c ∷ b ∷ a ∷ l) is unless = absurd (not_both is)
      where
        not_both : false ≡ true → ⊥
        not_both is = cc

    read_for : (l made : List Entry) → is_reading l ≡ true → (read ≡ false → l ≡ []) → Before made (Facing There made) → Before (l ++ made) (λ beats. Heard (l ++ made) beats)
    read_for [] made is unless go_on rest are lawful =
        let faces = go_on rest are lawful in
        record { called = faces.called; agenda = pass_over face.number read items (agenda (made ++ past)) faces.agenda }
    read_for (a ∷ []) made is unless go_on rest are lawful = takes_next made rest a is (was_wanted read a [] unless) go_on are lawful
    read_for (b ∷ a ∷ []) made is unless go_on rest are lawful =
        let one = first_of (is_shut b) (is_for_reading a) is in
        let two = second_of (is_shut b) (is_for_reading a) is in
        shuts_next (a ∷ made) rest (IsLast items) b one (quiet_read config (made ++ past) a two)
        (λ r m well. takes_next made r a two (was_wanted read b (a ∷ []) unless) go_on m well) are lawful
    read_for (c ∷ b ∷ a ∷ l) made is unless go_on rest are lawful = absurd (not_both is)
      where
        not_both : false ≡ true → ⊥
        not_both is = cc

    -- what was made is lawful, where the flow's events were
    pub hears : (made : List Entry) (beats : Story) → IsHostWork read write made → Makes made beats → IsWell beats → Heard made beats
    hears made beats work are lawful =
        subst (λ l. Heard l beats) (sym work.is)
        (read_for work.reading work.writing work.reads work.unless_read (written_for work.writing work.writes work.unless_write) beats (subst (λ l. Makes l beats) work.is are) lawful)
