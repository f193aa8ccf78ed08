-- What a pump of one flow makes is lawful, and the trace has it as the flow's events.
use Rattle.std.proofs.Common.{◌||◌, is_some, ◌≡◌, ℕ, ◌+◌, ◌%◌, ◌^◌, ◌<◌, ◌≤◌, ◌&&◌, not, nat_lt, Bool, true, false, List, [], ◌∷◌, ◌++◌, drop, length, Option, Some, None, if◌then◌else◌}
use Rattle.std.proofs.Common.{◌==◌, IsTrue, ◌⊎◌, inl, inr, refl, sym, ◌∙◌, ap, subst, arith}
use Rattle.std.specs.List.{list_any}
use Rattle.std.proofs.lemmas.Bool.Decides.{nat_tests}
use Rattle.std.proofs.lemmas.List.{drop_all}
use Rattle.net_octets.specs.declared.Mac.{Mac}
use Rattle.world_face.specs.Journal.{Entry, AreAllowed, Follows, LinkWrite, Close, MayWrite, CallLinkWrite}
use Rattle.world_face.specs.Frames.{LinkFailed, MayFrame, goes_out, is_blocked, opens, tail}
use Rattle.world_face.specs.declared.Io.{Io}
use Rattle.world_face.specs.declared.Io.TheVariants.{Done, End, NotYet, Failed}
use Rattle.slirp_settings.specs.Addresses.{Config, address}
use Rattle.arp_table.specs.Table.{mac_of as learnt_for}
use Rattle.spec_trace.specs.Guests.{known as known_guests}
use Rattle.spec_trace.specs.Happenings.{happens}
use Rattle.spec_trace.specs.Moments.{moment}
use Rattle.spec_trace.specs.Sockets.{next_number}
use Rattle.spec_trace.specs.Shape.{By, Over, phase, unless_over}
use Rattle.spec_flow.specs.Event.{Segment, Departs, Closes, At, Story}
use Rattle.spec_flow.specs.Close.{ended_first, follows_reset, host_failed, is_done, in_time_wait_since}
use Rattle.spec_flow.specs.Flow.{is_closed}
use Rattle.spec_flow.proofs.Grows.{closed_stays}
use Rattle.spec_flow.specs.Lawful.{HasOwnCause, Send, Close as CloseAct, May as MayOfOne}
use Rattle.spec_flow.specs.Dutiful.{Must as MustOfOne}
use Rattle.spec_flows.specs.Book.{book, scene, turned}
use Rattle.spec_flows.specs.Doings.{doing, doing_by, goes}
use Rattle.spec_flows.specs.Book.{time_wait as restful}
use Rattle.sim_flows.proofs.Only.{number_of_found}
use Rattle.spec_flows.specs.Flows.{Flow, TimeWait, is_among_time_waits, closing, came_on, comes_directly, comes_last, guest_is_known, shuts, with_event}
use Rattle.spec_flows.specs.Laws.{flow_settings}
use Rattle.spec_flows.specs.Said.{Differ}
use Rattle.spec_flows.specs.Segments.{OnTuple, asked_in, segment_came, segment_in}
use Rattle.spec_flows.specs.Taught.{is_pair, taught}
use Rattle.spec_flows.proofs.Keeping.{are_kept}
use Rattle.spec_flows.proofs.Newest.{is_newest}
use Rattle.sim_flows.specs.Only.{AreOf, IsOf}
use Rattle.flow_splice.proofs.Restless.{open_none}
use Rattle.spec_flows.specs.Segments.{asked_in}
use Rattle.spec_run.specs.Answers.{again_frames, is_first, serving, datagrams_in, datagrams_out, identification, left, taken, with_datagrams}
use Rattle.spec_run.specs.Laws.{Lawful, May, is_closing}
use Rattle.spec_run.specs.Sending.{ip_in, is_latest, is_written, speaks_yet}
use Rattle.spec_run.proofs.Bools.{first_of, second_of}
use Rattle.spec_run.proofs.KeepingFlows.{keeps_flows}
use Rattle.flow_splice.specs.Entries.{AreEvents, OffersSegment, datagrams, ident_after, went}
use Rattle.flow_splice.specs.Frames.{IsSized, segment_frame}
use Rattle.flow_splice.specs.Splice.{Face}
use Rattle.flow_splice.specs.Shapes.{are_sending, is_sending, is_write, wrote}
use Rattle.sim_flows.specs.Stands.{HasFlow, InWork, IsInOrder, with_beats, with_time_wait}
use Rattle.sim_flows.proofs.Calling.{after_close, may_part_then, may_shut, rests_closed, since_now}
use Rattle.sim_flows.proofs.ReadBack.{four_off, one_datagram, segment_back, written_back}
use Rattle.spec_run.proofs.Deeds.{quest_none, services_written}
use Rattle.sim_flows.proofs.Writing.{on_ends, CarriesOf, after_offer, may_write, of_offer, offered_flow}

pub differ_in : (config : Config) (past : List Entry) → Lawful config past → Differ (book config past).flows
differ_in config past lawful = (are_kept config past (keeps_flows config past lawful)).differ

-- nothing is taken away where nothing is left, and no packet of a file begins to go again, where the frame carries a segment
taken_none : (again : List (List ℕ)) (frame : List ℕ) (on : OnTuple) (o : Option (List ℕ)) → segment_in frame ≡ Some on → (o ≡ None) ⊎ (o ≡ Some frame) → taken o again [] ≡ []
taken_none again frame on None carried is = refl
taken_none again frame on (Some other) carried is = elim is [
  | inl none ↦ cc
  | inr some ↦ ap (λ (b : Bool). if b then drop 1 again else []) (ap (λ o. not (is_some o || is_some (asked_in other)) && is_first other again) (ap segment_in (same_frame some) ∙ carried))
]
  where
    same_frame : Some other ≡ Some frame → other ≡ frame
    same_frame is = cc

counts_one : (out count : ℕ) → out % 2 ^ 16 ≡ count % 2 ^ 16 → (1 + out) % 2 ^ 16 ≡ (count + 1) % 2 ^ 16
counts_one out count is = omega (arith, is)

all_was : (n size : ℕ) → nat_lt n size ≡ false → size ≤ n
all_was n size is = grind (arith, nat_tests, is)

some_was : (n : ℕ) → 0 < n → nat_lt 0 n ≡ true
some_was n some = grind (arith, nat_tests, some)

same_number : (n : ℕ) → (n == n) ≡ true
same_number n = grind (arith, nat_tests)

any_last : {X : Type 0} (test : X → Bool) (xs : List X) (x : X) → test x ≡ true → list_any test (xs ++ x ∷ []) ≡ true
any_last test [] x is = ap (λ b. b || false) is
any_last test (y ∷ xs) x is = or_true (test y) (list_any test (xs ++ x ∷ [])) (any_last test xs x is)
  where
    or_true : (a b : Bool) → b ≡ true → (a || b) ≡ true
    or_true true b is = refl
    or_true false b is = is

assoc : (a b c : ℕ) → a + b + c ≡ a + (b + c)
assoc a b c = omega arith

mac_same : (a b : Mac) → ◌≡◌ {A = Option Mac} (Some a) (Some b) → b ≡ a
mac_same a b is = cc

-- which entries a pump makes
which : (e : Entry) → is_sending e ≡ true → ((octets : List ℕ) × (answer : Io) × (e ≡ LinkWrite octets answer) × (wrote answer ≡ true)) ⊎ ((socket : ℕ) × (e ≡ Close socket))
which (LinkWrite octets answer) is = inl (octets, answer, refl, is)
which (Close socket) is = inr (socket, refl)
which _ is = absurd cc

-- no segment came by one of them
none_came : (config : Config) (e : Entry) (past : List Entry) → (happens config past e).came ≡ None → (o : Option OnTuple) → (book config (e ∷ past)).came ≡ o → o ≡ None
none_came config e past nothing None is = refl
none_came config e past nothing (Some on) is = let come = sym (ap segment_came nothing) ∙ is_newest on config e past is in absurd (not_both come)
  where
    not_both : None ≡ Some on → ⊥
    not_both is = cc

pub quiet_write : (config : Config) (octets : List ℕ) (answer : Io) (past : List Entry) → (book config (LinkWrite octets answer ∷ past)).came ≡ None
quiet_write config octets answer past = none_came config (LinkWrite octets answer) past refl (book config (LinkWrite octets answer ∷ past)).came refl

quiet_sending : (config : Config) (e : Entry) (past : List Entry) → is_sending e ≡ true → (book config (e ∷ past)).came ≡ None
quiet_sending config e past is = elim (which e is) [
  | inl w ↦ subst (λ x. (book config (x ∷ past)).came ≡ None) (sym w.2) (quiet_write config w.0 w.1 past)
  | inr c ↦ subst (λ x. (book config (x ∷ past)).came ≡ None) (sym c.1) refl
]

-- a write leaves those in TIME-WAIT as they are
rests_gone : (config : Config) (past : List Entry) (o : Option OnTuple) (asked : Option ℕ) → (turned config (scene config past) (goes o asked) (book config past)).time_waits ≡ (book config past).time_waits
rests_gone config past (Some on) asked = refl
rests_gone config past None (Some guest) = refl
rests_gone config past None None = refl

pub rests_written : (config : Config) (octets : List ℕ) (answer : Io) (past : List Entry) → (book config (LinkWrite octets answer ∷ past)).time_waits ≡ (book config past).time_waits
rests_written config octets answer past = by (goes_out (LinkWrite octets answer) past)
  where
    by : (o : Option (List ℕ)) → (turned config (scene config past) (doing_by None o (LinkWrite octets answer)) (book config past)).time_waits ≡ (book config past).time_waits
    by (Some frame) = rests_gone config past (segment_in frame) (asked_in frame)
    by None = refl

-- what was closed stays so
pub stays_shut : (beats past : Story) → is_closed past ≡ true → is_closed (beats ++ past) ≡ true
stays_shut [] past shut = shut
stays_shut (b ∷ beats) past shut = closed_stays b (beats ++ past) (stays_shut beats past shut)

module _ (config : Config) (face : Face) (to : Mac) (f : Flow) (past : List Entry) (ident now : ℕ) (ended known : Bool) where
  -- These entries are lawful, and in the trace they are these events of the flow; nothing else has changed.
  pub record Sent (made : List Entry) (beats : Story) : Type 0 where
    pub lawful : Lawful config (made ++ past)
    pub work : InWork config (made ++ past)
    pub has : HasFlow config face (with_beats f beats) (made ++ past)
    pub at : moment (made ++ past) ≡ now
    pub of : AreOf config face.number past made
    pub left : left config (made ++ past) ≡ []
    pub clear : is_blocked (made ++ past) ≡ false → tail (made ++ past) ≡ []
    pub counted : identification (made ++ past) ≡ ident_after ident beats
    pub learnt : list_any (is_pair (address face.guest) to.0) (taught config (made ++ past)) ≡ true
    pub latest : is_latest to.0 (learnt_for face.guest.addr (known_guests config (made ++ past))) ≡ true
    -- one that was closed and is in TIME-WAIT by its story is among those in TIME-WAIT
    pub rested : (since : ℕ) → is_closed f.story ≡ true → in_time_wait_since f.story ≡ Some since → is_among_time_waits (book config past).time_waits (Some f) ≡ true
    pub knows : guest_is_known (scene config (made ++ past)) (with_beats f beats) ≡ known
    pub last : is_closed (beats ++ f.story) ≡ false → comes_last (scene config (made ++ past)) (with_beats f beats) ≡ ended
    -- a flow that was open is in TIME-WAIT where its story says so; one that wasn't goes on as it did
    pub time_waits : is_closed f.story ≡ false → (book config (made ++ past)).time_waits ≡ with_time_wait (in_time_wait_since (beats ++ f.story)) face.number (book config past).time_waits
    pub rests_on : is_closed f.story ≡ true → (book config (made ++ past)).time_waits ≡ (book config past).time_waits
    pub stays_in_time_wait : is_closed f.story ≡ true → in_time_wait_since (beats ++ f.story) ≡ in_time_wait_since f.story
    pub since : is_closed f.story ≡ false → (m : ℕ) → in_time_wait_since (beats ++ f.story) ≡ Some m → m ≡ now
    pub next : next_number (made ++ past) ≡ next_number past
    pub well : host_failed (beats ++ f.story) ≡ false

  module _ (made : List Entry) (time_wait : Story) (sent : Sent made time_wait) where
    abbrev before : List Entry
    before = made ++ past

    differ : Differ (book config before).flows
    differ = differ_in config before sent.lawful

    -- ---- a segment is offered

    module _ (octets : List ℕ) (seg : Segment) (vhost : config.vhost ≡ face.vhost.0) (offers : OffersSegment (flow_settings config) face (Some to) (ident_after ident time_wait) now
        (time_wait ++ f.story) octets seg)
        (framed : MayFrame before (CallLinkWrite octets)) where
      abbrev frame : List ℕ
      frame = segment_frame face to (ident_after ident time_wait) seg

      same : offers.to ≡ to
      same = mac_same to offers.to offers.known

      sized : IsSized face to (ident_after ident time_wait) seg
      sized = subst (λ m. IsSized face m (ident_after ident time_wait) seg) same offers.sized

      none : tail before ≡ []
      none = sent.clear framed.1

      abbrev again : List (List ℕ)
      again = again_frames config (identification before) (serving config before)

      is : drop 4 octets ≡ frame
      is = ap (drop 4) offers.frame ∙ four_off (segment_frame face offers.to (ident_after ident time_wait) seg) ∙ ap (λ m. segment_frame face m (ident_after ident time_wait) seg) same

      -- where it was closed and sends no reset it is among those in TIME-WAIT
      time_wait_of : (o : Option ℕ) → in_time_wait_since (time_wait ++ f.story) ≡ o → IsTrue (is_some o) → (since : ℕ) × (in_time_wait_since (time_wait ++ f.story) ≡ Some since)
      time_wait_of (Some since) is some = (since, is)
      time_wait_of None is some = cc

      among : (shut : Bool) → is_closed f.story ≡ shut → (since : ℕ) → in_time_wait_since (time_wait ++ f.story) ≡ Some since → is_among_time_waits (book config before).time_waits (Some (with_beats f time_wait)) ≡ true
      among true shut since is = ap (λ (l : List TimeWait). is_among_time_waits l (Some f)) (sent.rests_on shut) ∙ sent.rested since shut (sym (sent.stays_in_time_wait shut) ∙ is)
      among false was_open since is =
          ap (λ (l : List TimeWait). is_among_time_waits l (Some f)) (sent.time_waits was_open ∙ ap (λ o. with_time_wait o face.number (book config past).time_waits) is)
          ∙ any_last (λ (r : TimeWait). r.number == f.number) (book config past).time_waits (restful face.number since)
          (ap (λ n. n == f.number) (sym (number_of_found face.number (book config before).flows (with_beats f time_wait) sent.has.found)) ∙ same_number f.number)

      speaks_by : (rst shut : Bool) → seg.rst ≡ rst → is_closed (time_wait ++ f.story) ≡ shut → speaks_yet seg (book config before).time_waits (with_beats f time_wait) ≡ true
      speaks_by true shut rst_is shut_is = ap (λ b. b || (not (is_closed (time_wait ++ f.story)) || is_among_time_waits (book config before).time_waits (Some (with_beats f time_wait)))) rst_is
      speaks_by false false rst_is shut_is = λ i. rst_is i || (not (shut_is i) || is_among_time_waits (book config before).time_waits (Some (with_beats f time_wait)))
      speaks_by false true rst_is shut_is =
          let says = (offers.may.sends_nothing_after_close shut_is).3 in
          let since = time_wait_of (in_time_wait_since (time_wait ++ f.story)) refl (subst (λ b. IsTrue (b || is_some (in_time_wait_since (time_wait ++ f.story)))) rst_is says) in
          (λ i. rst_is i || (not (shut_is i) || is_among_time_waits (book config before).time_waits (Some (with_beats f time_wait))))
          ∙ among (is_closed f.story) refl since.0 since.1

      carries : CarriesOf config face (with_beats f time_wait) to seg frame before
      carries = record {
        carried = segment_back face to (ident_after ident time_wait) seg sized;
        written = ap (λ n. is_written config n frame (on_ends face to seg) (ip_in frame)) sent.counted ∙ written_back face to (ident_after ident time_wait) seg config sized vhost;
        learnt = sent.learnt;
        latest = sent.latest;
        speaks = speaks_by seg.rst (is_closed (time_wait ++ f.story)) refl refl;
      }

      may : MayOfOne (flow_settings config) (with_beats f time_wait).story (moment before) (Send seg)
      may = subst (λ m. MayOfOne (flow_settings config) (time_wait ++ f.story) m (Send seg)) (sym sent.at) offers.may

      must : MustOfOne (flow_settings config) (with_beats f time_wait).story (moment before) (Send seg)
      must = subst (λ m. MustOfOne (flow_settings config) (time_wait ++ f.story) m (Send seg)) (sym sent.at) offers.must

      pub may_offer : May config before (CallLinkWrite octets)
      may_offer = may_write config face (with_beats f time_wait) before sent.has to seg frame octets differ none is carries may must sent.work sent.left framed

      pub has_after : (answer : Io) → HasFlow config face (offered_flow answer (moment before) seg (with_beats f time_wait)) (LinkWrite octets answer ∷ before)
      has_after answer = after_offer config face (with_beats f time_wait) before sent.has to seg frame octets differ none is carries may answer

      of_after : (answer : Io) → IsOf face.number (book config before) (doing config before (LinkWrite octets answer))
      of_after answer = of_offer config face (with_beats f time_wait) before sent.has to seg frame octets differ none is carries may answer

      ident_taken : (n : ℕ) → identification (LinkWrite octets (Done n) ∷ before) ≡ ident_after ident (At now (Departs seg) ∷ time_wait)
      ident_taken n =
          ap (λ t. with_datagrams (opens (LinkWrite octets (Done n)) t) (datagrams_out before) % 2 ^ 16) none
          ∙ ap (λ x. (datagrams_in x + datagrams_out before) % 2 ^ 16) is
          ∙ ap (λ k. (k + datagrams_out before) % 2 ^ 16) (one_datagram face to (ident_after ident time_wait) seg sized)
          ∙ counts_one (datagrams_out before) (ident + datagrams time_wait) sent.counted
          ∙ ap (λ k. k % 2 ^ 16) (assoc ident (datagrams time_wait) 1)

      ident_none : identification (LinkWrite octets NotYet ∷ before) ≡ ident_after ident time_wait
      ident_none = ap (λ t. with_datagrams (opens (LinkWrite octets NotYet) t) (datagrams_out before) % 2 ^ 16) none ∙ sent.counted

      taken_it : (n : ℕ) → Sent (LinkWrite octets (Done n) ∷ made) (At now (Departs seg) ∷ time_wait)
      taken_it n = record {
        lawful = (may_offer, sent.lawful);
        work = record { working = sent.work.working; errand = sent.work.errand; services = services_written config before octets (Done n) sent.work.services; open_yet = sent.work.open_yet };
        has = subst (λ m. HasFlow config face (with_event m (Departs seg) (with_beats f time_wait)) (LinkWrite octets (Done n) ∷ before)) sent.at (has_after (Done n));
        at = sent.at;
        of = (of_after (Done n), sent.of);
        left = ap (taken (goes_out (LinkWrite octets (Done n)) before) again) sent.left ∙ taken_none again frame (on_ends face to seg)
            (goes_out (LinkWrite octets (Done n)) before) carries.carried (inr (ap (λ t. opens (LinkWrite octets (Done n)) t) none ∙ ap Some is));
        clear = λ free. drop_all n octets (all_was n (length octets) free);
        counted = ident_taken n;
        learnt = sent.learnt;
        latest = sent.latest;
        rested = sent.rested;
        knows = sent.knows;
        last = sent.last;
        time_waits = λ was_open. rests_written config octets (Done n) before ∙ sent.time_waits was_open;
        rests_on = λ shut. rests_written config octets (Done n) before ∙ sent.rests_on shut;
        stays_in_time_wait = sent.stays_in_time_wait;
        since = sent.since;
        next = sent.next;
        well = refl;
      }

      blocked_it : Sent (LinkWrite octets NotYet ∷ made) time_wait
      blocked_it = record {
        lawful = (may_offer, sent.lawful);
        work = record { working = sent.work.working; errand = sent.work.errand; services = services_written config before octets NotYet sent.work.services; open_yet = sent.work.open_yet };
        has = has_after NotYet;
        at = sent.at;
        of = (of_after NotYet, sent.of);
        left = ap (taken (goes_out (LinkWrite octets NotYet) before) again) sent.left ∙ taken_none again frame (on_ends face to seg)
            (goes_out (LinkWrite octets NotYet) before) carries.carried (inl (ap (λ t. opens (LinkWrite octets NotYet) t) none));
        clear = λ free. none;
        counted = ident_none;
        learnt = sent.learnt;
        latest = sent.latest;
        rested = sent.rested;
        knows = sent.knows;
        last = sent.last;
        time_waits = λ was_open. rests_written config octets NotYet before ∙ sent.time_waits was_open;
        rests_on = λ shut. rests_written config octets NotYet before ∙ sent.rests_on shut;
        stays_in_time_wait = sent.stays_in_time_wait;
        since = sent.since;
        next = sent.next;
        well = sent.well;
      }

      pub offered_it : (answer : Io) (beats : Story) → wrote answer ≡ true → MayWrite (length octets) answer → beats ≡ went answer now (Departs seg) time_wait → Sent (LinkWrite octets answer ∷ made) beats
      offered_it (Done n) beats ok may is_beats =
          subst (Sent (LinkWrite octets (Done n) ∷ made)) (sym (is_beats ∙ ap (λ b. if b then At now (Departs seg) ∷ time_wait else time_wait) (some_was n may.0))) (taken_it n)
      offered_it End beats ok may is_beats = absurd may
      offered_it NotYet beats ok may is_beats = subst (Sent (LinkWrite octets NotYet ∷ made)) (sym is_beats) blocked_it
      offered_it Failed beats ok may is_beats = absurd cc

      -- the link failed with it: the run is over
      pub failed_it : (Lawful config (LinkWrite octets Failed ∷ before)) × (phase config (LinkWrite octets Failed ∷ before) ≡ Over (By LinkFailed)) × HasFlow config face
          (with_beats f time_wait) (LinkWrite octets Failed ∷ before)
      failed_it = ((may_offer, sent.lawful), ap (λ p. unless_over p LinkFailed) sent.work.working, has_after Failed)

    -- ---- the socket is closed

    module _ (came : (book config before).came ≡ None) (cause : HasOwnCause false false known now (time_wait ++ f.story)) (may : MayOfOne (flow_settings config) (time_wait ++ f.story) now
        (CloseAct false ended known)) where
      abbrev g : Flow
      g = with_beats f time_wait

      open_yet : is_closed (time_wait ++ f.story) ≡ false
      open_yet = may.calls_open_socket

      directly_is : comes_directly (book config before).came g ≡ false
      directly_is = ap (came_on f.tuple) came

      last_is : comes_last (scene config before) g ≡ ended
      last_is = sent.last open_yet

      cause_here : HasOwnCause (comes_directly (book config before).came g) false (guest_is_known (scene config before) g) (moment before) g.story
      cause_here = subst (λ d. HasOwnCause d false (guest_is_known (scene config before) g) (moment before) g.story) (sym directly_is)
          (subst (λ k. HasOwnCause false false k (moment before) g.story) (sym sent.knows)
          (subst (λ m. HasOwnCause false false known m g.story) (sym sent.at) cause))

      closing_is : closing (scene config before) (book config before).came g ≡ CloseAct false ended known
      closing_is = λ i. CloseAct (directly_is i) (last_is i) (sent.knows i)

      may_here : MayOfOne (flow_settings config) g.story (moment before) (closing (scene config before) (book config before).came g)
      may_here = subst (MayOfOne (flow_settings config) g.story (moment before)) (sym closing_is)
          (subst (λ m. MayOfOne (flow_settings config) g.story m (CloseAct false ended known)) (sym sent.at) may)

      shuts_is : shuts (scene config before) (book config before).came g ≡ with_beats f (At now (Closes false ended known) ∷ time_wait)
      shuts_is = λ i. with_event (sent.at i) (Closes (directly_is i) (last_is i) (sent.knows i)) g

      abbrev story_then : Story
      story_then = At now (Closes false ended known) ∷ time_wait ++ f.story

      closed_rests : is_closed f.story ≡ false → (book config (Close face.number ∷ before)).time_waits ≡ with_time_wait (in_time_wait_since story_then) face.number (book config past).time_waits
      closed_rests was_open =
          rests_closed config face g before sent.work sent.has differ now false ended known sent.at shuts_is
          ∙ ap (with_time_wait (in_time_wait_since story_then) face.number) (sent.time_waits was_open ∙ ap (λ o. with_time_wait o face.number (book config past).time_waits) (open_none (time_wait ++ f.story) open_yet))

      -- what was closed stays so
      shut_before : (made : List Entry) (time_wait : Story) → is_closed f.story ≡ true → is_closed (time_wait ++ f.story) ≡ false → ⊥
      shut_before made time_wait shut open_still = not_both (sym (stays_shut time_wait f.story shut) ∙ open_still)
        where
          not_both : true ≡ false → ⊥
          not_both is = cc

      pub closed_it : Sent (Close face.number ∷ made) (At now (Closes false ended known) ∷ time_wait)
      closed_it = record {
        lawful = (may_shut config face g before sent.work sent.has cause_here open_yet may_here, sent.lawful);
        work = record {
          working = sent.work.working;
          errand = sent.work.errand;
          services = quest_none config before sent.work.services;
          open_yet = ap (λ b. if not b then true else is_closing config before) (may_part_then config face g before sent.work sent.has cause_here open_yet) ∙ sent.work.open_yet;
        };
        has = subst (λ h. HasFlow config face h (Close face.number ∷ before)) shuts_is (after_close config face g before sent.work sent.has differ);
        at = sent.at;
        of = (refl, sent.of);
        left = sent.left;
        clear = sent.clear;
        counted = sent.counted;
        learnt = sent.learnt;
        latest = sent.latest;
        rested = sent.rested;
        knows = sent.knows;
        last = λ open_still. cc;
        time_waits = λ was_open. closed_rests was_open;
        rests_on = λ shut. absurd (shut_before made time_wait shut open_yet);
        stays_in_time_wait = λ shut. absurd (shut_before made time_wait shut open_yet);
        since = λ was_open m is_since. since_now config face g before sent.work sent.has (is_done (time_wait ++ f.story) && not (follows_reset false (time_wait ++ f.story)) && ended_first
            (time_wait ++ f.story)) now m is_since;
        next = sent.next;
        well = refl;
      }

  -- ---- all of them

  -- what was lawful before what was offered
  lawful_before : (octets : List ℕ) (answer : Io) (time_wait beats : Story) (seg : Segment) → MayWrite (length octets) answer → beats ≡ went answer now (Departs seg) time_wait → IsInOrder
      (flow_settings config) (beats ++ f.story)
      → IsInOrder (flow_settings config) (time_wait ++ f.story)
  lawful_before octets (Done n) time_wait beats seg may is lawful =
      let both = subst (λ b. IsInOrder (flow_settings config) (b ++ f.story)) (is ∙ ap (λ b. if b then At now (Departs seg) ∷ time_wait else time_wait) (some_was n may.0)) lawful in
      (both.0.1, both.1.1)
  lawful_before octets End time_wait beats seg may is lawful = absurd may
  lawful_before octets NotYet time_wait beats seg may is lawful = subst (λ b. IsInOrder (flow_settings config) (b ++ f.story)) is lawful
  lawful_before octets Failed time_wait beats seg may is lawful = subst (λ b. IsInOrder (flow_settings config) (b ++ f.story)) is lawful

  abbrev Made : List Entry → Story → Type 0
  Made made beats = AreEvents (flow_settings config) face (Some to) false ended known ident now f.story made beats

  abbrev Before : List Entry → Type 0
  Before made = (time_wait : Story) → Made made time_wait → IsInOrder (flow_settings config) (time_wait ++ f.story) → Sent made time_wait

  known_guest : {X : Type 0} → ◌≡◌ {A = Option Mac} (Some to) None → X
  known_guest is = absurd (not_both is)
    where
      not_both : ◌≡◌ {A = Option Mac} (Some to) None → ⊥
      not_both is = cc

  module _ (vhost : config.vhost ≡ face.vhost.0) where
    write_next : (octets : List ℕ) (answer : Io) (made : List Entry) (beats : Story) → Before made → wrote answer ≡ true → MayWrite (length octets) answer → Made (LinkWrite octets answer ∷ made) beats
        → IsInOrder (flow_settings config) (beats ++ f.story) → MayFrame (made ++ past) (CallLinkWrite octets) → Sent (LinkWrite octets answer ∷ made) beats
    write_next octets answer made beats go_on ok may (time_wait, are, inl (seg, offers, is)) lawful framed =
        offered_it made time_wait (go_on time_wait are (lawful_before octets answer time_wait beats seg may is lawful)) octets seg vhost offers framed answer beats ok may is
    write_next octets answer made beats go_on ok may (time_wait, are, inr (request, is)) lawful framed = known_guest request.unknown

    close_next : (socket : ℕ) (made : List Entry) (beats : Story) → Before made → (book config (made ++ past)).came ≡ None → Made (Close socket ∷ made) beats → IsInOrder
        (flow_settings config) (beats ++ f.story)
        → Sent (Close socket ∷ made) beats
    close_next socket made beats go_on came (time_wait, are, (number, is, cause)) lawful =
        let now_lawful = subst (λ b. IsInOrder (flow_settings config) (b ++ f.story)) is lawful in
        subst (λ n. Sent (Close n ∷ made) beats) (sym number)
        (subst (Sent (Close face.number ∷ made)) (sym is)
        (closed_it made time_wait (go_on time_wait are (now_lawful.0.1, now_lawful.1.1)) came cause now_lawful.0.0))

    -- the oldest of them is a write
    write_sends : (e : Entry) → is_write e ≡ true → is_sending e ≡ true
    write_sends (LinkWrite octets answer) is = is
    write_sends (Close socket) is = cc
    write_sends _ is = absurd cc

    head_sends : (e : Entry) (made : List Entry) → are_sending (e ∷ made) ≡ true → is_sending e ≡ true
    head_sends e [] is = write_sends e is
    head_sends e (d ∷ made) is = first_of (is_sending e) (are_sending (d ∷ made)) is

    tail_sends : (e : Entry) (made : List Entry) → are_sending (e ∷ made) ≡ true → are_sending made ≡ true
    tail_sends e [] is = refl
    tail_sends e (d ∷ made) is = second_of (is_sending e) (are_sending (d ∷ made)) is

    nothing_came : (socket : ℕ) (made : List Entry) → are_sending (Close socket ∷ made) ≡ true → (book config (made ++ past)).came ≡ None
    nothing_came socket [] is = absurd cc
    nothing_came socket (d ∷ made) is = quiet_sending config d (made ++ past) (head_sends d made is)

    one_next : (e : Entry) (made : List Entry) (beats : Story) → Before made → are_sending (e ∷ made) ≡ true → AreAllowed (e ∷ made) → Made (e ∷ made) beats → IsInOrder
        (flow_settings config) (beats ++ f.story)
        → Follows MayFrame (e ∷ made ++ past) → Sent (e ∷ made) beats
    one_next e made beats go_on sending allowed are lawful framed = elim (which e (head_sends e made sending)) [
      | inl w ↦
          subst (λ x. AreAllowed (x ∷ made) → Made (x ∷ made) beats → Follows MayFrame (x ∷ made ++ past) → Sent (x ∷ made) beats) (sym w.2)
          (λ a r fr. write_next w.0 w.1 made beats go_on w.3 a.0.0 r lawful fr.0) allowed are framed
      | inr c ↦
          subst (λ x. are_sending (x ∷ made) ≡ true → Made (x ∷ made) beats → Sent (x ∷ made) beats) (sym c.1)
          (λ s r. close_next c.0 made beats go_on (nothing_came c.0 made s) r lawful) sending are
    ]

    -- what was made is lawful, where the flow's events were
    pub sends : (made : List Entry) (beats : Story) → Sent [] [] → are_sending made ≡ true → AreAllowed made → Made made beats → IsInOrder (flow_settings config)
        (beats ++ f.story) → Follows MayFrame (made ++ past) → Sent made beats
    sends [] beats begins sending allowed are lawful framed = subst (Sent []) (sym are) begins
    sends (e ∷ made) beats begins sending allowed are lawful framed =
        one_next e made beats (λ time_wait r l. sends made time_wait begins (tail_sends e made sending) allowed.1 r l framed.1) sending allowed are lawful framed

    -- The link failed with the last write: the run is over, and lawful so far.
    pub record Broke (octets : List ℕ) (made : List Entry) (beats : Story) : Type 0 where
      pub lawful : Lawful config (LinkWrite octets Failed ∷ made ++ past)
      pub over : phase config (LinkWrite octets Failed ∷ made ++ past) ≡ Over (By LinkFailed)
      pub has : HasFlow config face (with_beats f beats) (LinkWrite octets Failed ∷ made ++ past)
      pub sent : Sent made beats

    pub breaks : (octets : List ℕ) (made : List Entry) (beats : Story) → Sent [] [] → are_sending made ≡ true → AreAllowed (LinkWrite octets Failed ∷ made) → Made
        (LinkWrite octets Failed ∷ made) beats
        → IsInOrder (flow_settings config) (beats ++ f.story) → Follows MayFrame (LinkWrite octets Failed ∷ made ++ past) → Broke octets made beats
    breaks octets made beats begins sending allowed (time_wait, are, inl (seg, offers, is)) lawful framed =
        let sent = sends made time_wait begins sending allowed.1 are (subst (λ b. IsInOrder (flow_settings config) (b ++ f.story)) is lawful) framed.1 in
        let failed = failed_it made time_wait sent octets seg vhost offers framed.0 in
        subst (Broke octets made) (sym is) (record { lawful = failed.0; over = failed.1; has = failed.2; sent = sent })
    breaks octets made beats begins sending allowed (time_wait, are, inr (request, is)) lawful framed = known_guest request.unknown
