-- The flows in use by rising number, one after another: that is what a list tells.
use Rattle.std.proofs.Common.{◌≡◌, ℕ, suc, zero, ◌+◌, ◌<◌, ◌≤◌, ◌==◌, ◌&&◌, nat_lt, Bool, true, false, cond, List, [], ◌∷◌, ◌++◌, filter, length, map, reverse, slice_get, take, Option, Some, None, refl, sym, ◌∙◌, ap, subst, arith, append-nil, append_assoc, decimal, ◌^◌}
use Rattle.std.proofs.lemmas.Bool.Decides.{nat_tests}
use Rattle.std.proofs.lemmas.Fmt.{length-decimal-le}
use Rattle.std.proofs.lemmas.List.{length-map, length-reverse, reverse-append}
use Rattle.net_octets.specs.declared.Endpoint.{Endpoint}
use Rattle.world_face.specs.Journal.{Entry, call_of, Accept, Connect}
use Rattle.world_face.specs.declared.Accepted.TheVariants.{From, NotYet as NoPeer, Failed as AcceptFailed}
use Rattle.world_face.specs.declared.Made.TheVariants.{Done, Failed}
use Rattle.slirp_settings.specs.Addresses.{Config}
use Rattle.flow_table.specs.declared.Slot.{Slot}
use Rattle.flow_table.specs.declared.Slot.TheVariants.{Free, InUse, InTimeWait}
use Rattle.spec_flows.specs.declared.Tuple.{Tuple}
use Rattle.spec_flow.specs.Close.{is_in_use}
use Rattle.spec_flow.specs.Event.{Accepts, Arrives}
use Rattle.spec_flow.specs.Flow.{first_number}
use Rattle.spec_trace.specs.Happenings.{Arrival, happens}
use Rattle.spec_trace.specs.Sockets.{next_number}
use Rattle.spec_flows.specs.Book.{book, doom, is_refused, joins_for, opens, port_of, scene, tuple_for, turned, visits_for}
use Rattle.spec_flows.specs.Doings.{Doing, Nothing, Comes, Goes, Resolves, Pauses, Joins, Visits, Calls, Shuts, by_call, comes, doing, doing_by, goes}
use Rattle.spec_flows.specs.Flows.{Book, Flow, Scene, flow_of, is_numbered, is_on, resolves_for, sends, shuts, tell, uses, with_event}
use Rattle.spec_flows.specs.Said.{Each}
use Rattle.spec_flows.specs.Segments.{OnTuple, asked_in, segment_came, segment_in}
use Rattle.spec_flows.proofs.Apart.{resolves_number, sends_number}
use Rattle.spec_flows.proofs.Keeping.{are_kept}
use Rattle.spec_flows.proofs.Lists.{each_found, each_map, each_told, fresh, found_number}
use Rattle.spec_run.specs.Laws.{Lawful, May}
use Rattle.spec_run.proofs.KeepingFlows.{keeps_flows}
use Rattle.spec_run.proofs.OpenSockets.{peer_next}
use Rattle.sim_flows.specs.Seats.{in_use_slots}
use Rattle.tcp_flows.specs.Reading.{IsAbove}
use Rattle.slirp_core.specs.Holds.{after}
use Rattle.slirp_core.specs.NextFlow.{IsNextFlow, IsNextInUse}
use Rattle.slirp_core.specs.State.{SlirpState}
use Rattle.stream_netdev.specs.State.{LinkState}
use Rattle.serve_loop.specs.Turns.{AttendsNow}
use Rattle.spec_control.specs.ControlServer.{flow_entry, flows_in_use}
use Rattle.spec_control.specs.Replies.{flow_lines, flow_text, forward_lines, forward_text, reply_line}
use Rattle.rules_forward.specs.Opened.{Opened}

-- ---- the flows of a trace stand by falling number

-- the socket of the flow that is opened, where one is
abbrev new_socket : Doing → Option ℕ
new_socket (Joins socket) = Some socket
new_socket (Visits listener socket peer) = Some socket
new_socket _ = None

abbrev pub Fall : List Flow → Type 0
Fall [] = Unit {0}
Fall (f ∷ flows) = Each (λ g. g.number < f.number) flows × Fall flows

module _ (change : Flow → Flow) (keeps : (f : Flow) → (change f).number ≡ f.number) where
  below_told : (n : ℕ) (test : Flow → Bool) (flows : List Flow) → Each (λ g. g.number < n) flows → Each (λ g. g.number < n) (tell test change flows)
  below_told n test flows below =
      each_told (λ g. g.number < n) (λ g. g.number < n) test change (λ f is. is) flows (λ f found is. subst (λ m. m < n) (sym (keeps f)) is) below

  fall_told : (test : Flow → Bool) (flows : List Flow) → Fall flows → Fall (tell test change flows)
  fall_told test [] fall = tt
  fall_told test (f ∷ flows) fall = by (test f) (fall_told test flows fall.1)
    where
      by : (b : Bool) → Fall (tell test change flows) → Fall (cond b (change f ∷ flows) (f ∷ tell test change flows))
      by true behind = (subst (λ n. Each (λ g. g.number < n) flows) (sym (keeps f)) fall.0, fall.1)
      by false behind = (below_told f.number test flows fall.0, behind)

  fall_map : (flows : List Flow) → Fall flows → Fall (map change flows)
  fall_map [] fall = tt
  fall_map (f ∷ flows) fall = (
    subst (λ n. Each (λ g. g.number < n) (map change flows)) (sym (keeps f))
        (each_map (λ g. g.number < f.number) (λ g. g.number < f.number) change (λ g is. subst (λ m. m < f.number) (sym (keeps g)) is) flows fall.0),
    fall_map flows fall.1,
  )

module _ (config : Config) (sc : Scene) (b : Book) (fall : Fall b.flows) where
  joined : (socket : ℕ) → Each (λ g. g.number < socket) b.flows → (o : Option OnTuple) → Fall (joins_for config sc.moment socket o b).flows
  joined socket below None = fall
  joined socket below (Some on) = (below, fall)

  visited : (socket : ℕ) (peer : Endpoint) → Each (λ g. g.number < socket) b.flows → (o : Option Endpoint) → Fall (visits_for config sc.moment socket peer o b).flows
  visited socket peer below None = fall
  visited socket peer below (Some guest) = by (is_refused config guest peer b)
    where
      by : (r : Bool) → Fall (cond r (doom socket b) (opens config sc.moment socket (tuple_for config guest peer) (Accepts (first_number sc.moment (length b.flows))) b)).flows
      by true = fall
      by false = (below, fall)

  fall_by : (h : Doing) → ((s : ℕ) → new_socket h ≡ Some s → Each (λ g. g.number < s) b.flows) → Fall (turned config sc h b).flows
  fall_by Nothing new = fall
  fall_by (Comes on) new = fall_told (with_event sc.moment (Arrives on.segment)) (λ f. refl) (is_on on.tuple) b.flows fall
  fall_by (Goes on) new = fall_told (sends sc.moment on.segment) (sends_number sc.moment on.segment) (is_on on.tuple) b.flows fall
  fall_by (Resolves guest) new = fall_map (resolves_for sc.moment guest) (resolves_number sc.moment guest) b.flows fall
  fall_by Pauses new = fall
  fall_by (Joins socket) new = joined socket (new socket refl) b.came
  fall_by (Visits listener socket peer) new = visited socket peer (new socket refl) (port_of config listener)
  fall_by (Calls socket event) new = fall_told (with_event sc.moment event) (λ f. refl) (is_numbered socket) b.flows fall
  fall_by (Shuts socket) new = fall_told (shuts sc b.came) (λ f. refl) (is_numbered socket) b.flows fall

-- one is opened by a call alone, and has the next number
by_call_alone : (came : Option Arrival) (went : Option (List ℕ)) (e : Entry) (s : ℕ) → new_socket (doing_by came went e) ≡ Some s → new_socket (by_call e) ≡ Some s
by_call_alone (Some arrival) went e s is = absurd (no_arrival (segment_came (Some arrival)) is)
  where
    no_arrival : (o : Option OnTuple) → new_socket (comes o) ≡ Some s → ⊥
    no_arrival None is = cc
    no_arrival (Some on) is = cc
by_call_alone None (Some frame) e s is = absurd (no_frame (segment_in frame) (asked_in frame) is)
  where
    no_frame : (o : Option OnTuple) (asked : Option ℕ) → new_socket (goes o asked) ≡ Some s → ⊥
    no_frame (Some on) asked is = cc
    no_frame None (Some guest) is = cc
    no_frame None None is = cc
by_call_alone None None e s is = is

opens_next : (config : Config) (e : Entry) (past : List Entry) (s : ℕ) → May config past (call_of e) → new_socket (by_call e) ≡ Some s → s ≡ next_number past
opens_next config (Connect socket to Done) past s may is = let same : socket ≡ s = cc in grind (arith, nat_tests, same, may.socket)
opens_next config (Connect socket to Failed) past s may is = cc
opens_next config (Accept from socket (From peer)) past s may is = let same : socket ≡ s = cc in let next = peer_next config past from socket (From peer) may in grind (arith, nat_tests, same, next)
opens_next config (Accept from socket NoPeer) past s may is = cc
opens_next config (Accept from socket AcceptFailed) past s may is = cc
opens_next config _ past s may is = cc

pub falls : (config : Config) (past : List Entry) → Lawful config past → Fall (book config past).flows
falls config [] lawful = tt
falls config (e ∷ past) lawful =
    fall_by config (scene config past) (book config past) (falls config past lawful.1) (doing config past e)
    (λ s is. subst (λ n. Each (λ g. g.number < n) (book config past).flows)
    (sym (opens_next config e past s lawful.0 (by_call_alone (happens config past e).came (happens config past e).went e s is))) (are_kept config past (keeps_flows config past lawful.1)).below)

-- ---- those above a number

abbrev beyond : Option ℕ → ℕ → Bool
beyond None n = true
beyond (Some last) n = nat_lt last n

abbrev is_told_next : Option ℕ → Flow → Bool
is_told_next last f = is_in_use f.story && beyond last f.number

abbrev told_after : Option ℕ → List Flow → List Flow
told_after last flows = filter (is_told_next last) flows

-- what is left to be listed
abbrev pub left_after : Option ℕ → List Flow → List (ℕ × Tuple)
left_after last flows = map flow_entry (reverse (told_after last flows))

is_beyond : (last : Option ℕ) (n : ℕ) → beyond last n ≡ true → IsAbove last n
is_beyond None n is = tt
is_beyond (Some last) n is = grind (arith, nat_tests, is)

beyond_is : (last : Option ℕ) (n : ℕ) → IsAbove last n → beyond last n ≡ true
beyond_is None n is = refl
beyond_is (Some last) n is = grind (arith, nat_tests, is)

beyond_more : (last : Option ℕ) (n m : ℕ) → IsAbove last n → n < m → beyond last m ≡ true
beyond_more None n m is more = refl
beyond_more (Some last) n m is more = grind (arith, nat_tests, is, more)

all_told : (flows : List Flow) → told_after None flows ≡ filter (λ f. is_in_use f.story) flows
all_told [] = refl
all_told (f ∷ flows) = by (is_in_use f.story) (all_told flows)
  where
    by : (b : Bool) → told_after None flows ≡ filter (λ f. is_in_use f.story) flows
        → cond (b && true) (f ∷ told_after None flows) (told_after None flows) ≡ cond b (f ∷ filter (λ f. is_in_use f.story) flows) (filter (λ f. is_in_use f.story) flows)
    by true behind = ap (λ l. f ∷ l) behind
    by false behind = behind

pub all_left : (flows : List Flow) → left_after None flows ≡ flows_in_use flows
all_left flows = ap (λ l. map flow_entry (reverse l)) (all_told flows)

-- behind the first of a falling list others have lesser numbers
other_number : (f : Flow) (flows : List Flow) → Each (λ g. g.number < f.number) flows → (m : ℕ) (g : Flow) → flow_of m flows ≡ Some g → (f.number == m) ≡ false
other_number f flows below m g is = by (f.number == m) refl
  where
    by : (b : Bool) → (f.number == m) ≡ b → b ≡ false
    by false same = refl
    by true same =
        let none : flow_of m flows ≡ None = fresh f.number flows below m (grind (arith, nat_tests, same)) in
        let never : ◌≡◌ {A = Option Flow} None (Some g) = sym none ∙ is in cc

uses_behind : (f : Flow) (flows : List Flow) → Each (λ g. g.number < f.number) flows → (m : ℕ) → uses (flow_of m flows) ≡ true → uses (flow_of m (f ∷ flows)) ≡ true
uses_behind f flows below m is = by (flow_of m flows) refl is
  where
    by : (o : Option Flow) → flow_of m flows ≡ o → uses o ≡ true → uses (flow_of m (f ∷ flows)) ≡ true
    by None here is = cc
    by (Some g) here is = ap (λ b. uses (cond b (Some f) (flow_of m flows))) (other_number f flows below m g here) ∙ ap uses here ∙ is

itself : (n : ℕ) → (n == n) ≡ true
itself n = grind (arith, nat_tests)

uses_first : (f : Flow) (flows : List Flow) → is_in_use f.story ≡ true → uses (flow_of f.number (f ∷ flows)) ≡ true
uses_first f flows is = ap (λ b. uses (cond b (Some f) (flow_of f.number flows))) (itself f.number) ∙ is

-- none is left
none_told : (last : Option ℕ) (flows : List Flow) → Fall flows → ((m : ℕ) → IsAbove last m → uses (flow_of m flows) ≡ true → ⊥) → told_after last flows ≡ []
none_told last [] fall none = refl
none_told last (f ∷ flows) fall none =
    by (is_in_use f.story) (beyond last f.number) refl refl (none_told last flows fall.1 (λ m above is. none m above (uses_behind f flows fall.0 m is)))
  where
    by : (a b : Bool) → is_in_use f.story ≡ a → beyond last f.number ≡ b → told_after last flows ≡ [] → cond (a && b) (f ∷ told_after last flows) (told_after last flows) ≡ []
    by true true in_use above behind = absurd (none f.number (is_beyond last f.number above) (uses_first f flows in_use))
    by true false in_use above behind = behind
    by false b in_use above behind = behind

pub none_left_after : (last : Option ℕ) (flows : List Flow) → Fall flows → IsNextFlow last None flows → left_after last flows ≡ []
none_left_after last flows fall none = ap (λ l. map flow_entry (reverse l)) (none_told last flows fall none)

-- none of those that are behind a flow is above it
none_above : (n : ℕ) (flows : List Flow) → Each (λ g. g.number < n) flows → told_after (Some n) flows ≡ []
none_above n [] below = refl
none_above n (f ∷ flows) below =
    ap (λ b. cond (is_in_use f.story && b) (f ∷ told_after (Some n) flows) (told_after (Some n) flows)) (under f.number below.0) ∙ by (is_in_use f.story) ∙ none_above n flows below.1
  where
    under : (m : ℕ) → m < n → nat_lt n m ≡ false
    under m less = grind (arith, nat_tests, less)

    by : (a : Bool) → cond (a && false) (f ∷ told_after (Some n) flows) (told_after (Some n) flows) ≡ told_after (Some n) flows
    by true = refl
    by false = refl

some_flow : (f g : Flow) → Some f ≡ Some g → f ≡ g
some_flow f g is = cc

-- the next one is the last of those that are left, and the others are above it
next_told : (last : Option ℕ) (n : ℕ) (ends : Tuple) (flows : List Flow) → Fall flows → (next : IsNextInUse last n ends flows) → told_after last flows ≡ told_after (Some n) flows ++ (next.flow ∷ [])
next_told last n ends [] fall next = absurd (let never = next.is in cc)
next_told last n ends (f ∷ flows) fall next =
    by (f.number == n) refl next.is
    (λ found. next_told last n ends flows fall.1 (record {
      flow = next.flow;
      is = found;
      in_use = next.in_use;
      between = next.between;
      above = next.above;
      least = λ m above used_now. next.least m above (uses_behind f flows fall.0 m used_now);
    }))
  where
    under_itself : nat_lt n n ≡ false
    under_itself = grind (arith, nat_tests)

    by : (b : Bool) → (f.number == n) ≡ b → cond b (Some f) (flow_of n flows) ≡ Some next.flow
        → (flow_of n flows ≡ Some next.flow → told_after last flows ≡ told_after (Some n) flows ++ (next.flow ∷ [])) → told_after last (f ∷ flows) ≡ told_after (Some n) (f ∷ flows) ++ (next.flow ∷ [])
    by true same is behind =
        let here : f.number ≡ n = grind (arith, nat_tests, same) in
        let flow : f ≡ next.flow = some_flow f next.flow is in
        let none = none_told last flows fall.1 (λ m above used_now. lesser m above used_now here) in
        ap (λ b. cond (b && beyond last f.number) (f ∷ told_after last flows) (told_after last flows)) (ap (λ (g : Flow). is_in_use g.story) flow ∙ next.in_use)
        ∙ ap (λ b. cond b (f ∷ told_after last flows) (told_after last flows)) (ap (beyond last) here ∙ beyond_is last n next.above)
        ∙ ap (λ l. f ∷ l) none ∙ ap (λ g. g ∷ []) flow
        ∙ ap (λ l. l ++ (next.flow ∷ [])) (sym (above_none here))
      where
        lesser : (m : ℕ) → IsAbove last m → uses (flow_of m flows) ≡ true → f.number ≡ n → ⊥
        lesser m above used_now here = by_flow (flow_of m flows) refl used_now
          where
            by_flow : (o : Option Flow) → flow_of m flows ≡ o → uses o ≡ true → ⊥
            by_flow None found used_now = cc
            by_flow (Some g) found used_now =
                let least : n ≤ m = next.least m above (uses_behind f flows fall.0 m (ap uses found ∙ used_now)) in
                let none : flow_of m flows ≡ None = fresh f.number flows fall.0 m (omega (arith, least, here)) in
                let never : ◌≡◌ {A = Option Flow} None (Some g) = sym none ∙ found in cc

        above_none : f.number ≡ n → told_after (Some n) (f ∷ flows) ≡ []
        above_none here =
            ap (λ m. cond (is_in_use f.story && nat_lt n m) (f ∷ told_after (Some n) flows) (told_after (Some n) flows)) here
            ∙ ap (λ b. cond (is_in_use f.story && b) (f ∷ told_after (Some n) flows) (told_after (Some n) flows)) under_itself ∙ dropped (is_in_use f.story)
            ∙ none_above n flows (subst (λ m. Each (λ g. g.number < m) flows) here fall.0)
          where
            dropped : (a : Bool) → cond (a && false) (f ∷ told_after (Some n) flows) (told_after (Some n) flows) ≡ told_after (Some n) flows
            dropped true = refl
            dropped false = refl
    by false other is behind =
        let less : n < f.number = subst (λ m. m < f.number) (found_number n flows next.flow is) (each_found (λ g. g.number < f.number) (is_numbered n) flows next.flow fall.0 is) in
        ap (λ b. cond (is_in_use f.story && b) (f ∷ told_after last flows) (told_after last flows)) (beyond_more last n f.number next.above less)
        ∙ head (is_in_use f.story) (behind is)
        ∙ ap (λ b. cond (is_in_use f.story && b) (f ∷ told_after (Some n) flows) (told_after (Some n) flows) ++ (next.flow ∷ [])) (sym (beyond_is (Some n) f.number less))
      where
        head : (a : Bool) → told_after last flows ≡ told_after (Some n) flows ++ (next.flow ∷ [])
            → cond (a && true) (f ∷ told_after last flows) (told_after last flows) ≡ cond (a && true) (f ∷ told_after (Some n) flows) (told_after (Some n) flows) ++ (next.flow ∷ [])
        head true same = ap (λ l. f ∷ l) same
        head false same = same

pub next_left_after : (last : Option ℕ) (n : ℕ) (ends : Tuple) (flows : List Flow) → Fall flows → IsNextFlow last (Some (n, ends)) flows → left_after last flows ≡ (n, ends) ∷ left_after (Some n) flows
next_left_after last n ends flows fall next =
    ap (λ l. map flow_entry (reverse l)) (next_told last n ends flows fall next)
    ∙ ap (map flow_entry) (reverse-append (told_after (Some n) flows) (next.flow ∷ []))
    ∙ ap (λ x. x ∷ left_after (Some n) flows) (ap (λ m. (m, next.flow.tuple)) (found_number n flows next.flow next.is) ∙ ap (λ t. (n, t)) next.between)

-- ---- there are no more than the settings allow

used_few : (slots : List Slot) → in_use_slots slots ≤ length slots
used_few [] = omega arith
used_few (Free ∷ slots) = omega (arith, used_few slots)
used_few (InUse t ∷ slots) = omega (arith, used_few slots)
used_few (InTimeWait t since ∷ slots) = omega (arith, used_few slots)

pub listed_few : {slirp : SlirpState} {link : LinkState} (settings : Config) (count : ℕ) (past : List Entry) → AttendsNow settings (after count) false slirp link past → slirp.config.flows ≤ 4096
    → length (flows_in_use (book settings past).flows) ≤ 4096
listed_few {slirp} {link} settings count past attended few =
    let holds = attended.0.flows.holds in
    let same_settings : slirp.config.flows ≡ settings.flows = ap (λ (k : Config). k.flows) attended.0.guests.settings in
    omega (
      arith,
      length-map (reverse (filter (λ f. is_in_use f.story) (book settings past).flows)) flow_entry,
      length-reverse (filter (λ f. is_in_use f.story) (book settings past).flows),
      holds.seats.counted,
      used_few slirp.flows.flows.table.slots,
      holds.slots,
      same_settings,
      few,
    )

-- ---- the lines of ports of the host

pub one_port_more : (k : ℕ) (list : List Opened) (o : Opened) → slice_get list k ≡ Some o → forward_lines (take (k + 1) list) ≡ forward_lines (take k list) ++ reply_line (forward_text o.0)
one_port_more k [] o is = cc
one_port_more zero (x ∷ list) o is = ap (λ (y : Opened). reply_line (forward_text y.0) ++ []) (the_same is) ∙ append-nil (reply_line (forward_text o.0))
  where
    the_same : Some x ≡ Some o → x ≡ o
    the_same same = cc
one_port_more (suc k) (x ∷ list) o is =
    ap (λ n. forward_lines (take n (x ∷ list))) (one_on k)
    ∙ ap (λ l. reply_line (forward_text x.0) ++ l) (one_port_more k list o is) ∙ sym (append_assoc (reply_line (forward_text x.0)) (forward_lines (take k list)) (reply_line (forward_text o.0)))
  where
    one_on : (k : ℕ) → suc k + 1 ≡ suc (k + 1)
    one_on k = omega arith

pub all_taken : {T : Type 0} (k : ℕ) (list : List T) → length list ≤ k → take k list ≡ list
all_taken zero [] few = refl
all_taken (suc k) [] few = refl
all_taken zero (x ∷ list) few = absurd (omega (arith, few))
all_taken (suc k) (x ∷ list) few = ap (λ l. x ∷ l) (all_taken k list (omega (arith, few)))

pub no_port_more : (k : ℕ) (list : List Opened) → slice_get list k ≡ None → take k list ≡ list
no_port_more zero [] none = refl
no_port_more (suc k) [] none = refl
no_port_more zero (x ∷ list) none = cc
no_port_more (suc k) (x ∷ list) none = ap (λ l. x ∷ l) (no_port_more k list none)

-- ---- one line more, and none

pub one_line_more : (last : Option ℕ) (n : ℕ) (ends : Tuple) (flows : List Flow) (so_far all bytes : List ℕ) → Fall flows → IsNextFlow last (Some (n, ends)) flows → bytes ≡ reply_line (flow_text (n, ends))
    → so_far ++ flow_lines (left_after last flows) ≡ all → (so_far ++ bytes) ++ flow_lines (left_after (Some n) flows) ≡ all
one_line_more last n ends flows so_far all bytes fall next is told =
    append_assoc so_far bytes (flow_lines (left_after (Some n) flows)) ∙ ap (λ b. so_far ++ (b ++ flow_lines (left_after (Some n) flows))) is
    ∙ ap (λ l. so_far ++ flow_lines l) (sym (next_left_after last n ends flows fall next)) ∙ told

pub one_fewer : (last : Option ℕ) (n k many : ℕ) (ends : Tuple) (flows : List Flow) → Fall flows → IsNextFlow last (Some (n, ends)) flows → k + length (left_after last flows) ≡ many
    → (k + 1) + length (left_after (Some n) flows) ≡ many
one_fewer last n k many ends flows fall next is = let same = ap length (next_left_after last n ends flows fall next) in omega (arith, is, same)

pub no_line_more : (left : List (ℕ × Tuple)) (so_far all : List ℕ) → left ≡ [] → so_far ++ flow_lines left ≡ all → so_far ≡ all
no_line_more left so_far all none told = sym (append-nil so_far) ∙ ap (λ l. so_far ++ flow_lines l) (sym none) ∙ told

pub none_of_none : {T : Type 0} (list : List T) → length list ≡ 0 → list ≡ []
none_of_none [] none = refl
none_of_none (x ∷ list) none = absurd (omega (arith, none))

-- a number under 10^17 has 17 digits at most
pub digits_few : (n : ℕ) → n < 10 ^ 17 → length (decimal n) ≤ 17
digits_few n few = length-decimal-le 17 n (omega arith) few (omega (arith, few))
