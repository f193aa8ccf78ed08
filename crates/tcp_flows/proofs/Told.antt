-- Once a flow was told what the host reported of its socket, nothing is left of that.
use Rattle.std.proofs.Common.{◌≡◌, ℕ, ◌==◌, ◌&&◌, ◌||◌, not, Bool, true, false, List, [], ◌∷◌, ◌++◌, slice_get, Option, Some, None, refl, sym, ap, ◌∙◌, subst}
use Rattle.poll_list.specs.declared.Who.TheVariants.{Tcp as OnTcp}
use Rattle.world_face.specs.Journal.{Call, Entry, Connected, TcpRead, TcpWrite, TcpEnd, Close}
use Rattle.slirp_settings.specs.Addresses.{Config}
use Rattle.spec_trace.specs.Moments.{waits}
use Rattle.spec_trace.specs.Sockets.{is_among, is_flow, kind_of, next_number, open_sockets}
use Rattle.spec_flow.specs.Close.{owes_reset}
use Rattle.spec_flow.specs.Dutiful.{must_wait_to_write, waits_to_read}
use Rattle.spec_flow.specs.Flow.{is_closed}
use Rattle.spec_flow.proofs.Refuting.{never_false}
use Rattle.spec_flows.specs.Book.{book}
use Rattle.spec_flows.specs.Doings.{doing}
use Rattle.spec_flows.specs.Flows.{Flow, flow_of}
use Rattle.spec_flows.specs.Laws.{flow_settings}
use Rattle.spec_run.specs.Laws.{Lawful}
use Rattle.spec_run.proofs.Bools.{among_without, first_of, same}
use Rattle.sim_flows.specs.FlowsHold.{FlowsState, time_waits_at}
use Rattle.sim_flows.specs.Only.{AreOf, IsOf}
use Rattle.sim_connection.specs.Holding.{is_at_connecting}
use Rattle.flow_splice.specs.Hosts.{ServesReport, is_for_writing, reads_or_shuts, serves_write, some_is}
use Rattle.flow_splice.specs.Splice.{Splice, is_open}
use Rattle.flow_splice.specs.Wants.{reads, writes}
use Rattle.flow_splice.proofs.Promises.{wants_are}
use Rattle.sim_flows.specs.Core.{CoreHolds, Following, number_of}
use Rattle.sim_flows.proofs.Sockets.{open_has_socket}
use Rattle.spec_duties.specs.Said.{some_writes}
use Rattle.spec_duties.specs.Serving.{is_left_to_read, is_left_to_write}
use Rattle.spec_duties.specs.Waiting.{is_read, is_written, reads_flow, writes_flow}
use Rattle.spec_duties.proofs.Going.{stays_below}
use Rattle.spec_duties.proofs.Serving.{read_since, reading_on, unread, unwritten, write_since, writing_on}
use Rattle.sim_flows.proofs.Placing.{placed}
use Rattle.flow_splice.proofs.Calls.{for_writing, some_for}
use Rattle.tcp_flows.specs.Reading.{NoneOpen}
use Rattle.tcp_flows.specs.Told.{IsTold}

-- ---- the calls of a socket

module _ (config : Config) (number : ℕ) where
  it_is : (socket : ℕ) → socket ≡ number → (number == socket) ≡ true
  it_is socket is = ap (λ s. number == s) is ∙ same number

  or_left : (a b : Bool) → a ≡ true → (a || b) ≡ true
  or_left true b is = refl
  or_left false b is = absurd cc

  any_served : (past made : List Entry) → AreOf config number past made → some_is is_for_writing made ≡ true → some_writes (OnTcp number) made ≡ true
  any_served past [] of is = absurd cc
  any_served past (Connected socket answer ∷ made) of is = or_left (number == socket) (some_writes (OnTcp number) made) (it_is socket of.0)
  any_served past (TcpWrite socket octets answer ∷ made) of is = or_left (number == socket) (some_writes (OnTcp number) made) (it_is socket of.0)
  any_served past (TcpEnd socket answer ∷ made) of is = or_left (number == socket) (some_writes (OnTcp number) made) (it_is socket of.0)
  any_served past (_ ∷ made) of is = any_served past made of.1 is

  write_served : (connects : Bool) (past made : List Entry) → AreOf config number past made → some_is (serves_write connects) made ≡ true → some_writes (OnTcp number) made ≡ true
  write_served connects past made of is = any_served past made of (some_for (serves_write connects) is_for_writing (λ e serves. for_writing connects e serves) made is)

  -- a socket that was closed isn't read any more
  no_more : (a : Bool) (n : ℕ) → (not (n == n) && a) ≡ false
  no_more a n = ap (λ b. not b && a) (same n)

  gone : (past : List Entry) → Lawful config (Close number ∷ past) → is_read config (Close number ∷ past) (OnTcp number) ≡ false
  gone past lawful = by (flow_of number (book config (Close number ∷ past)).flows) refl
    where
      shut : is_among number (open_sockets (Close number ∷ past)) ≡ false
      shut = among_without number number (open_sockets past) ∙ no_more (is_among number (open_sockets past)) number

      closed_unread : (a b c d : Bool) → b ≡ true → (a && not b && c && d) ≡ false
      closed_unread true true c d is = refl
      closed_unread false b c d is = refl
      closed_unread true false c d is = absurd cc

      by : (o : Option Flow) → flow_of number (book config (Close number ∷ past)).flows ≡ o → reads_flow config o ≡ false
      by None none = refl
      by (Some f) found = closed_unread _ (is_closed f.story) _ _ (closed (is_closed f.story) refl)
        where
          closed : (b : Bool) → is_closed f.story ≡ b → b ≡ true
          closed true is = refl
          closed false is =
              never_false (sym (first_of (is_among number (open_sockets (Close number ∷ past))) (is_flow (kind_of number (Close number ∷ past)))
              (open_has_socket config (Close number ∷ past) number f lawful found is)) ∙ shut)

  at_call : (e : Entry) (past : List Entry) → reads_or_shuts e ≡ true → IsOf number (book config past) (doing config past e) → Lawful config (e ∷ past) → waits
      (e ∷ past) ≡ waits past → is_left_to_read config (e ∷ past) (OnTcp number) ≡ false
  at_call (TcpRead socket asked answer octets) past is of lawful as_often = read_since config (TcpRead socket asked answer octets ∷ []) past (OnTcp number) as_often
      (or_left (number == socket) false (it_is socket of))
  at_call (Close socket) past is of lawful as_often =
      unread config (Close socket ∷ past) (OnTcp number)
      (subst (λ n. is_read config (Close n ∷ past) (OnTcp number) ≡ false) (sym of) (gone past (subst (λ n. Lawful config (Close n ∷ past)) of lawful)))
  at_call _ past is of lawful as_often = absurd cc

  read_or_shut : (past made : List Entry) → AreOf config number past made → Lawful config (made ++ past) → waits (made ++ past) ≡ waits past → some_is reads_or_shuts made ≡ true →
      is_left_to_read config (made ++ past) (OnTcp number) ≡ false
  read_or_shut past [] of lawful as_often is = absurd cc
  read_or_shut past (e ∷ made) of lawful as_often is = by (reads_or_shuts e) refl is (read_or_shut past made of.1 lawful.1 before)
    where
      before : waits (made ++ past) ≡ waits past
      before = stays_below e made past as_often

      by : (b : Bool) → reads_or_shuts e ≡ b → (b || some_is reads_or_shuts made) ≡ true → (some_is reads_or_shuts made ≡ true → is_left_to_read config (made ++ past) (OnTcp number) ≡ false)
          → is_left_to_read config (e ∷ made ++ past) (OnTcp number) ≡ false
      by true here one rest = at_call e (made ++ past) here of.0 lawful (as_often ∙ sym before)
      by false here one rest = reading_on config (e ∷ []) (made ++ past) (OnTcp number) (as_often ∙ sym before) (rest one)

-- ---- what is waited for of the parts

closed_unread : (a b c d : Bool) → b ≡ true → (a && not b && c && d) ≡ false
closed_unread true true c d is = refl
closed_unread false b c d is = refl
closed_unread true false c d is = absurd cc

closed_unwritten : (a b : Bool) → a ≡ true → (not a && b) ≡ false
closed_unwritten true b is = refl
closed_unwritten false b is = absurd cc

shut_neither : (a b : Bool) → a ≡ false → (a && b) ≡ false
shut_neither true b is = absurd cc
shut_neither false b is = refl

in_use : (a b : Bool) → a ≡ false → (not a || b) ≡ true
in_use true b is = absurd cc
in_use false b is = refl

module _ (config : Config) (now : ℕ) (aged : Bool) (task : Option Call) (state : FlowsState Splice) (past : List Entry) (holds : CoreHolds config now aged task state past)
    (sizes : (k : ℕ) (p : Splice) → slice_get state.slots k ≡ Some (Some p) → p.down.size ≡ p.up.size) where
  pub reads_as : (k : ℕ) (p : Splice) → slice_get state.slots k ≡ Some (Some p) → is_read config past (OnTcp (number_of p)) ≡ reads p
  reads_as k p at = let seat = holds.seats.seated k p at in ap (reads_flow config) seat.2 ∙ (wants_are (flow_settings config) p seat.0.story now (sizes k p at) seat.4).0

  pub writes_as : (k : ℕ) (p : Splice) → slice_get state.slots k ≡ Some (Some p) → is_written config past (OnTcp (number_of p)) ≡ true → writes p ≡ true
  writes_as k p at is = let seat = holds.seats.seated k p at in (wants_are (flow_settings config) p seat.0.story now (sizes k p at) seat.4).1 (sym (ap writes_flow seat.2) ∙ is)

  -- nothing where no open socket has the number
  module _ (n : ℕ) (none : NoneOpen n state.slots) where
    unopen : (k : ℕ) (p : Splice) → slice_get state.slots k ≡ Some (Some p) → number_of p ≡ n → is_open p ≡ false
    unopen k p here numbered = by (is_open p) refl
      where
        by : (b : Bool) → is_open p ≡ b → b ≡ false
        by true open_yet = absurd (none k p (record { here = here; open_yet = open_yet }) numbered)
        by false shut = refl

    pub none_read : is_read config past (OnTcp n) ≡ false
    none_read = by (flow_of n (book config past).flows) refl
      where
        by : (o : Option Flow) → flow_of n (book config past).flows ≡ o → reads_flow config o ≡ false
        by None none_found = refl
        by (Some f) found = at (is_closed f.story) refl
          where
            at : (b : Bool) → is_closed f.story ≡ b → waits_to_read (flow_settings config) f.story ≡ false
            at true closed = closed_unread _ (is_closed f.story) _ _ closed
            at false open_yet =
                let part = placed number_of (Following config now) state.table state.slots (next_number past) (book config past).flows
                (time_waits_at aged config past) holds.seats n f found (in_use (is_closed f.story) (owes_reset f.story) open_yet) in
                (wants_are (flow_settings config) part.part f.story now (sizes part.slot part.part part.here) part.follows).0 ∙ shut_neither (is_open part.part) _
                (unopen part.slot part.part part.here part.numbered)

    pub none_written : is_written config past (OnTcp n) ≡ false
    none_written = by (flow_of n (book config past).flows) refl
      where
        by : (o : Option Flow) → flow_of n (book config past).flows ≡ o → writes_flow o ≡ false
        by None none_found = refl
        by (Some f) found = at (is_closed f.story) refl
          where
            unless : (b : Bool) → (b ≡ true → b ≡ false) → b ≡ false
            unless true f_is = f_is refl
            unless false f_is = refl

            at : (b : Bool) → is_closed f.story ≡ b → must_wait_to_write f.story ≡ false
            at true closed = closed_unwritten (is_closed f.story) _ closed
            at false open_yet =
                let part = placed number_of (Following config now) state.table state.slots (next_number past) (book config past).flows
                (time_waits_at aged config past) holds.seats n f found (in_use (is_closed f.story) (owes_reset f.story) open_yet) in
                unless (must_wait_to_write f.story) (λ must. never_false (sym
                ((wants_are (flow_settings config) part.part f.story now (sizes part.slot part.part part.here) part.follows).1 must) ∙ shut_neither (is_open part.part) _
                (unopen part.slot part.part part.here part.numbered)))

    pub none_told : (read write : Bool) → IsTold config n read write past
    none_told read write = record { reading = λ is. unread config past (OnTcp n) none_read; writing = λ is. unwritten config past (OnTcp n) none_written }

  -- ---- the flow was told

  pub told_now : (k : ℕ) (p : Splice) (read write : Bool) (made : List Entry) → slice_get state.slots k ≡ Some (Some p) → ServesReport read write p made → AreOf config
      (number_of p) past made → Lawful config (made ++ past)
      → waits (made ++ past) ≡ waits past → IsTold config (number_of p) read write (made ++ past)
  told_now k p read write made at serves of lawful as_often = record { reading = λ is. by_read (reads p) refl is; writing = λ is. by_write (is_written config past (OnTcp (number_of p))) refl is }
    where
      by_read : (b : Bool) → reads p ≡ b → read ≡ true → is_left_to_read config (made ++ past) (OnTcp (number_of p)) ≡ false
      by_read true waited is = read_or_shut config (number_of p) past made of lawful as_often (serves.reading is waited)
      by_read false unwaited is = reading_on config made past (OnTcp (number_of p)) as_often (unread config past (OnTcp (number_of p)) (reads_as k p at ∙ unwaited))

      by_write : (b : Bool) → is_written config past (OnTcp (number_of p)) ≡ b → write ≡ true → is_left_to_write config (made ++ past) (OnTcp (number_of p)) ≡ false
      by_write true waited is = write_since config made past (OnTcp (number_of p)) as_often (write_served config (number_of p) (is_at_connecting p.conn.stage) past made of
          (serves.writing is (writes_as k p at waited)))
      by_write false unwaited is = writing_on config made past (OnTcp (number_of p)) as_often (unwritten config past (OnTcp (number_of p)) unwaited)
