-- What the host took on a socket, and what was read on it, is the same by the trace as by the flow's story.
use Rattle.std.proofs.Common.{◌≡◌, ℕ, ◌==◌, ◌&&◌, Bool, true, false, cond, List, [], ◌∷◌, ◌++◌, drop, length, map, Option, Some, None, option_map, if◌then◌else◌, refl, sym, ◌∙◌, ap, arith}
use Rattle.std.proofs.lemmas.List.{append-nil}
use Rattle.net_octets.specs.declared.Endpoint.{Endpoint}
use Rattle.world_face.specs.Frames.{tail, opens}
use Rattle.world_face.specs.Journal.{Entry, call_of, Now, Wait, LinkOpen, LinkRead, LinkWrite, Connect, Connected, Listen, Accept, TcpRead, TcpWrite, TcpEnd, Close, UdpOpen, UdpSend}
use Rattle.world_face.specs.Journal.{UdpRecv, FileLen, FileRead}
use Rattle.world_face.specs.declared.Io.{Io}
use Rattle.world_face.specs.declared.Io.TheVariants.{Done, End, NotYet, Failed}
use Rattle.world_face.specs.declared.Made.{Made}
use Rattle.world_face.specs.declared.Made.TheVariants.{Done as MadeDone, Failed as MadeFailed}
use Rattle.world_face.specs.declared.Accepted.{Accepted}
use Rattle.world_face.specs.declared.Accepted.TheVariants.{From, NotYet as NotYetAccepted, Failed as AcceptFailed}
use Rattle.slirp_settings.specs.Addresses.{Config, address}
use Rattle.spec_flow.specs.Event.{Segment, Event, Connects, Accepts, Arrives, Departs, AsksAddress, Closes, At, Story}
use Rattle.spec_flow.specs.Flow.{first_number, guest, is_accepted}
use Rattle.spec_flow.specs.Lawful.{Act, AskConnected, Write, EndHost, Read}
use Rattle.spec_flow.specs.Settings.{Settings}
use Rattle.spec_trace.specs.Happenings.{Arrival, happens}
use Rattle.spec_trace.specs.Moments.{moment}
use Rattle.spec_trace.specs.Sockets.{next_number}
use Rattle.spec_flows.specs.Book.{port_of, tuple_for, is_refused, joins_for, visits_for, doom, opens as opens_flow, turned, scene, book, story_in}
use Rattle.spec_flows.specs.Doings.{Doing, Nothing, Comes, Goes, Resolves, Pauses, Joins, Visits, Calls, Shuts, comes, goes, resolves, by_call, doing_by, doing, joins, visits, joined, read_by}
use Rattle.spec_flows.specs.Doings.{written_by, ended_by}
use Rattle.spec_flows.specs.Flows.{Flow, Book, Scene, is_on, is_numbered, flow_of, tell, with_event, is_strange, sends, resolves_for, shuts, comes_directly, comes_last, guest_is_known}
use Rattle.spec_flows.specs.Laws.{flow_settings, MayAct, MayFlow, KeepsFlows}
use Rattle.spec_flows.specs.SegmentVerdicts.{connects_to}
use Rattle.spec_flows.specs.Said.{AreKept}
use Rattle.spec_flows.specs.Segments.{OnTuple, segment_came, segment_in, asked_in}
use Rattle.spec_flows.proofs.Apart.{sends_number, resolves_number, found_told, other_number, tell_apart, map_found}
use Rattle.spec_flows.proofs.Keeping.{are_kept, connects_next}
use Rattle.spec_flows.proofs.Lists.{fresh, numbers_same}

-- what of an entry is this socket's
abbrev pub by_doing : (Event → List ℕ) → ℕ → Doing → List ℕ
by_doing by c (Calls socket e) = if socket == c then by e else []
by_doing by c _ = []

-- a call is on the socket of a flow, and a new flow gets the next number
abbrev pub Fits : ℕ → List Flow → Doing → Type 0
Fits next flows (Calls socket e) = (f : Flow) × (flow_of socket flows ≡ Some f)
Fits next flows (Joins socket) = socket ≡ next
Fits next flows (Visits listener socket peer) = socket ≡ next
Fits next flows _ = Unit {0}

fits_call : (s : Settings) (now socket next : ℕ) (e : Event) (flows : List Flow) (act : Act) → MayAct s now (flow_of socket flows) act → Fits next flows (Calls socket e)
fits_call s now socket next e flows act may = by_found (flow_of socket flows) refl may
  where
    by_found : (o : Option Flow) → flow_of socket flows ≡ o → MayAct s now o act → (f : Flow) × (flow_of socket flows ≡ Some f)
    by_found None is may = absurd may
    by_found (Some f) is may = (f, is)

-- a stream of a flow, to which each event adds what it says
module _ (read : Story → List ℕ) (by : Event → List ℕ) (starts : read [] ≡ []) (more : (m : ℕ) (past : Story) (e : Event) → read (At m e ∷ past) ≡ read past ++ by e)
    (arrives_not : (seg : Segment) → by (Arrives seg) ≡ []) (departs_not : (seg : Segment) → by (Departs seg) ≡ []) (asks_not : by AsksAddress ≡ [])
    (closes_not : (directly ended known : Bool) → by (Closes directly ended known) ≡ []) (connects_not : (n : ℕ) (seg : Segment) → by (Connects n seg) ≡ [])
    (accepts_not : (n : ℕ) → by (Accepts n) ≡ []) (c : ℕ) where
  same : (m : ℕ) (past : Story) (e : Event) → by e ≡ [] → read (At m e ∷ past) ≡ read past
  same m past e none = more m past e ∙ ap (λ xs. read past ++ xs) none ∙ append-nil (read past)

  of : Option Flow → List ℕ
  of o = read (story_in o)

  told_same : (test : Flow → Bool) (change : Flow → Flow) → ((f : Flow) → (change f).number ≡ f.number) → ((f : Flow) → read (change f).story ≡ read f.story)
      → (flows : List Flow) → read (story_in (flow_of c (tell test change flows))) ≡ read (story_in (flow_of c flows))
  told_same test change keeps reads [] = refl
  told_same test change keeps reads (f ∷ flows) = by_test (test f) (told_same test change keeps reads flows)
    where
      by_number : (b : Bool) → read (story_in (cond b (Some (change f)) (flow_of c flows))) ≡ read (story_in (cond b (Some f) (flow_of c flows)))
      by_number true = reads f
      by_number false = refl

      behind : (b : Bool) → read (story_in (flow_of c (tell test change flows))) ≡ read (story_in (flow_of c flows))
          → read (story_in (cond b (Some f) (flow_of c (tell test change flows)))) ≡ read (story_in (cond b (Some f) (flow_of c flows)))
      behind true rest = refl
      behind false rest = rest

      by_test : (b : Bool) → read (story_in (flow_of c (tell test change flows))) ≡ read (story_in (flow_of c flows))
          → read (story_in (flow_of c (if b then change f ∷ flows else f ∷ tell test change flows))) ≡ read (story_in (flow_of c (f ∷ flows)))
      by_test true rest = ap (λ n. read (story_in (cond (n == c) (Some (change f)) (flow_of c flows)))) (keeps f) ∙ by_number (f.number == c)
      by_test false rest = behind (f.number == c) rest

  mapped_same : (change : Flow → Flow) → ((f : Flow) → (change f).number ≡ f.number) → ((f : Flow) → read (change f).story ≡ read f.story)
      → (flows : List Flow) → read (story_in (flow_of c (map change flows))) ≡ read (story_in (flow_of c flows))
  mapped_same change keeps reads flows = ap (λ o. read (story_in o)) (map_found c change keeps flows) ∙ by_found (flow_of c flows)
    where
      by_found : (o : Option Flow) → read (story_in (option_map change o)) ≡ read (story_in o)
      by_found None = refl
      by_found (Some f) = reads f

  sends_same : (now : ℕ) (seg : Segment) (f : Flow) → read (sends now seg f).story ≡ read f.story
  sends_same now seg f = by_test (is_strange seg f)
    where
      by_test : (b : Bool) → read (if b then f else with_event now (Departs seg) f).story ≡ read f.story
      by_test true = refl
      by_test false = same now f.story (Departs seg) (departs_not seg)

  resolves_same : (now guest : ℕ) (f : Flow) → read (resolves_for now guest f).story ≡ read f.story
  resolves_same now guest f = by_test (is_accepted f.story && (address f.tuple.guest == guest))
    where
      by_test : (b : Bool) → read (if b then with_event now AsksAddress f else f).story ≡ read f.story
      by_test true = same now f.story AsksAddress asks_not
      by_test false = refl

  module _ (config : Config) (sc : Scene) (next : ℕ) (b : Book) (none : flow_of next b.flows ≡ None) where
    begins : (e : Event) → by e ≡ [] → read (At sc.moment e ∷ []) ≡ []
    begins e not = same sc.moment [] e not ∙ starts

    opened : (f : Flow) → f.number ≡ next → read f.story ≡ [] → read (story_in (flow_of c (f ∷ b.flows))) ≡ read (story_in (flow_of c b.flows))
    opened f is empty = by_number (f.number == c) refl
      where
        by_number : (t : Bool) → (f.number == c) ≡ t → read (story_in (cond t (Some f) (flow_of c b.flows))) ≡ read (story_in (flow_of c b.flows))
        by_number true here =
            let at : flow_of c b.flows ≡ None = ap (λ n. flow_of n b.flows) (sym (numbers_same f.number c here) ∙ is) ∙ none in
            empty ∙ sym (ap (λ o. read (story_in o)) at ∙ starts)
        by_number false other = refl

    joined_same : (came : Option OnTuple) → read (story_in (flow_of c (joins_for config sc.moment next came b).flows)) ≡ read (story_in (flow_of c b.flows))
    joined_same None = refl
    joined_same (Some on) = opened (record { number = next; tuple = on.tuple; story = At sc.moment (Connects (first_number sc.moment (length b.flows)) on.segment) ∷ [] }) refl
        (begins (Connects (first_number sc.moment (length b.flows)) on.segment) (connects_not (first_number sc.moment (length b.flows)) on.segment))

    visited_same : (peer : Endpoint) (port : Option Endpoint) → read (story_in (flow_of c (visits_for config sc.moment next peer port b).flows)) ≡ read (story_in (flow_of c b.flows))
    visited_same peer None = refl
    visited_same peer (Some guest) = by_test (is_refused config guest peer b)
      where
        by_test : (t : Bool) → read (story_in (flow_of c (if t then doom next b
            else opens_flow config sc.moment next (tuple_for config guest peer) (Accepts (first_number sc.moment (length b.flows))) b).flows)) ≡ read (story_in (flow_of c b.flows))
        by_test true = refl
        by_test false = opened (record { number = next; tuple = tuple_for config guest peer; story = At sc.moment (Accepts (first_number sc.moment (length b.flows))) ∷ [] }) refl
            (begins (Accepts (first_number sc.moment (length b.flows))) (accepts_not (first_number sc.moment (length b.flows))))

    called : (socket : ℕ) (e : Event) (f : Flow) → flow_of socket b.flows ≡ Some f
        → read (story_in (flow_of c (tell (is_numbered socket) (with_event sc.moment e) b.flows))) ≡ read (story_in (flow_of c b.flows)) ++ (if socket == c then by e else [])
    called socket e f found = by_number (socket == c) refl
      where
        by_number : (t : Bool) → (socket == c) ≡ t
            → read (story_in (flow_of c (tell (is_numbered socket) (with_event sc.moment e) b.flows))) ≡ read (story_in (flow_of c b.flows)) ++ (if t then by e else [])
        by_number true here =
            let is : socket ≡ c = numbers_same socket c here in
            let at : flow_of c b.flows ≡ Some f = ap (λ n. flow_of n b.flows) (sym is) ∙ found in
            ap (λ n. read (story_in (flow_of c (tell (is_numbered n) (with_event sc.moment e) b.flows)))) is
            ∙ ap (λ o. read (story_in o)) (found_told c (with_event sc.moment e) (λ f. refl) b.flows)
            ∙ ap (λ o. read (story_in (option_map (with_event sc.moment e) o))) at
            ∙ more sc.moment f.story e
            ∙ sym (ap (λ o. read (story_in o) ++ by e) at)
        by_number false other =
            ap (λ o. read (story_in o)) (tell_apart c (is_numbered socket) (with_event sc.moment e) (λ f. refl) b.flows (other_number c socket other b.flows))
            ∙ sym (append-nil (read (story_in (flow_of c b.flows))))

    unchanged : (xs : List ℕ) → xs ≡ read (story_in (flow_of c b.flows)) → xs ≡ read (story_in (flow_of c b.flows)) ++ []
    unchanged xs is = is ∙ sym (append-nil (read (story_in (flow_of c b.flows))))

    turned_reads : (d : Doing) → Fits next b.flows d → read (story_in (flow_of c (turned config sc d b).flows)) ≡ read (story_in (flow_of c b.flows)) ++ by_doing by c d
    turned_reads Nothing fits = unchanged _ refl
    turned_reads (Comes on) fits = unchanged _ (told_same (is_on on.tuple) (with_event sc.moment (Arrives on.segment)) (λ f. refl) (λ f. same sc.moment f.story (Arrives on.segment)
        (arrives_not on.segment)) b.flows)
    turned_reads (Goes on) fits = unchanged _ (told_same (is_on on.tuple) (sends sc.moment on.segment) (sends_number sc.moment on.segment) (sends_same sc.moment on.segment) b.flows)
    turned_reads (Resolves guest) fits = unchanged _ (mapped_same (resolves_for sc.moment guest) (resolves_number sc.moment guest) (resolves_same sc.moment guest) b.flows)
    turned_reads Pauses fits = unchanged _ refl
    turned_reads (Joins socket) fits = unchanged _ (ap (λ n. read (story_in (flow_of c (joins_for config sc.moment n b.came b).flows))) fits ∙ joined_same b.came)
    turned_reads (Visits listener socket peer) fits = unchanged _ (ap (λ n. read (story_in (flow_of c (visits_for config sc.moment n peer (port_of config listener) b).flows))) fits
        ∙ visited_same peer (port_of config listener))
    turned_reads (Calls socket e) fits = called socket e fits.0 fits.1
    turned_reads (Shuts socket) fits = unchanged _ (told_same (is_numbered socket) (shuts sc b.came) (λ f. refl)
        (λ f. same sc.moment f.story (Closes (comes_directly b.came f) (comes_last sc f) (guest_is_known sc f)) (closes_not (comes_directly b.came f) (comes_last sc f) (guest_is_known sc f))) b.flows)

  -- ---- entries

  came_fits : (next : ℕ) (flows : List Flow) (o : Option OnTuple) → Fits next flows (comes o)
  came_fits next flows None = tt
  came_fits next flows (Some on) = tt

  resolves_fits : (next : ℕ) (flows : List Flow) (o : Option ℕ) → Fits next flows (resolves o)
  resolves_fits next flows None = tt
  resolves_fits next flows (Some guest) = tt

  goes_fits : (next : ℕ) (flows : List Flow) (o : Option OnTuple) (asked : Option ℕ) → Fits next flows (goes o asked)
  goes_fits next flows None asked = resolves_fits next flows asked
  goes_fits next flows (Some on) asked = tt

  read_fits : (next : ℕ) (flows : List Flow) (o : Option Arrival) (e : Entry) → Fits next flows (by_call e) → Fits next flows (doing_by o None e)
  read_fits next flows None e other = other
  read_fits next flows (Some arrival) e other = came_fits next flows (segment_came (Some arrival))

  write_fits : (next : ℕ) (flows : List Flow) (octets : List ℕ) (answer : Io) (rest : List ℕ) → Fits next flows (doing_by None (opens (LinkWrite octets answer) rest) (LinkWrite octets answer))
  write_fits next flows octets answer (x ∷ rest) = tt
  write_fits next flows octets (Done n) [] = goes_fits next flows (segment_in (drop 4 octets)) (asked_in (drop 4 octets))
  write_fits next flows octets End [] = tt
  write_fits next flows octets NotYet [] = tt
  write_fits next flows octets Failed [] = tt

  joins_fits : (next : ℕ) (flows : List Flow) (answer : Made) (socket : ℕ) → socket ≡ next → Fits next flows (joins answer socket)
  joins_fits next flows MadeDone socket is = is
  joins_fits next flows MadeFailed socket is = tt

  visits_fits : (next : ℕ) (flows : List Flow) (answer : Accepted) (listener socket : ℕ) → socket ≡ next → Fits next flows (visits answer listener socket)
  visits_fits next flows (From peer) listener socket is = is
  visits_fits next flows NotYetAccepted listener socket is = tt
  visits_fits next flows AcceptFailed listener socket is = tt

  fits : (config : Config) (past : List Entry) (e : Entry) → MayFlow config past (call_of e) → Fits (next_number past) (book config past).flows (doing config past e)
  fits config past (Now told) may = tt
  fits config past (Wait wants timeout answer ready) may = tt
  fits config past (LinkOpen at answer) may = tt
  fits config past (LinkRead asked answer octets) may = read_fits (next_number past) (book config past).flows (happens config past (LinkRead asked answer octets)).came
      (LinkRead asked answer octets) tt
  fits config past (LinkWrite octets answer) may = write_fits (next_number past) (book config past).flows octets answer (tail past)
  fits config past (Connect socket to answer) may =
      joins_fits (next_number past) (book config past).flows answer socket (connects_next (book config past).doomed (connects_to config (book config past)) (next_number past) socket to may.touches)
  fits config past (Connected socket answer) may = fits_call (flow_settings config) (moment past) socket (next_number past) (joined answer) (book config past).flows AskConnected may.touches
  fits config past (Listen socket at answer) may = tt
  fits config past (Accept listener socket answer) may = visits_fits (next_number past) (book config past).flows answer listener socket may.touches
  fits config past (TcpRead socket asked answer octets) may = fits_call (flow_settings config) (moment past) socket (next_number past) (read_by answer octets) (book config past).flows Read may.touches
  fits config past (TcpWrite socket octets answer) may = fits_call (flow_settings config) (moment past) socket (next_number past) (written_by answer octets)
      (book config past).flows (Write octets) may.touches
  fits config past (TcpEnd socket answer) may = fits_call (flow_settings config) (moment past) socket (next_number past) (ended_by answer) (book config past).flows EndHost may.touches
  fits config past (Close socket) may = tt
  fits config past (UdpOpen socket at answer) may = tt
  fits config past (UdpSend socket to octets answer) may = tt
  fits config past (UdpRecv socket asked answer octets) may = tt
  fits config past (FileLen name answer) may = tt
  fits config past (FileRead name place asked answer octets) may = tt

  -- the stream by the trace, to which each entry adds as much
  pub reads_on : (config : Config) (on : List Entry → List ℕ) → on [] ≡ []
      → ((past : List Entry) (e : Entry) → on (e ∷ past) ≡ on past ++ by_doing by c (doing config past e))
      → (past : List Entry) → KeepsFlows config past → read (story_in (flow_of c (book config past).flows)) ≡ on past
  reads_on config on begin adds [] keeps = starts ∙ sym begin
  reads_on config on begin adds (e ∷ past) keeps =
      let kept : AreKept config past = are_kept config past keeps.1 in
      turned_reads config (scene config past) (next_number past) (book config past) (fresh (next_number past) (book config past).flows kept.below (next_number past) (omega arith))
      (doing config past e) (fits config past e keeps.0)
      ∙ ap (λ xs. xs ++ by_doing by c (doing config past e)) (reads_on config on begin adds past keeps.1)
      ∙ sym (adds past e)
