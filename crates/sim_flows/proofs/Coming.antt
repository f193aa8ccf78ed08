-- A segment of a flow comes: it is the flow's event, and after it the flow is closed or nothing is called; and so at a tick.
use Rattle.std.proofs.Common.{◌≡◌, ℕ, ◌==◌, ◌&&◌, ◌||◌, not, Bool, true, false, cond, List, [], ◌∷◌, ◌++◌, Option, Some, None, option_map, if◌then◌else◌, ◌⊎◌, inl, inr, refl, sym, ◌∙◌, ap, subst}
use Rattle.net_octets.specs.declared.Mac.{Mac}
use Rattle.world_face.specs.Journal.{Entry, Close, CallConnect}
use Rattle.slirp_settings.specs.Addresses.{Config}
use Rattle.slirp_settings.specs.Classes.{same_endpoint}
use Rattle.spec_flows.specs.declared.Tuple.{Tuple}
use Rattle.spec_trace.specs.Happenings.{Arrival, happens}
use Rattle.spec_trace.specs.Moments.{moment}
use Rattle.spec_trace.specs.Sockets.{next_number}
use Rattle.spec_flow.specs.Event.{Event, Arrives, Closes, At, Story}
use Rattle.std.specs.List.{list_any}
use Rattle.spec_flow.specs.Close.{is_in_use, owes_reset}
use Rattle.spec_flow.specs.Lawful.{HasOwnCause}
use Rattle.spec_flows.specs.Book.{book, heard, scene, turned}
use Rattle.spec_flows.specs.Doings.{Comes, comes, doing, doing_by}
use Rattle.spec_flows.specs.Flows.{Flow, Book, came_on, comes_directly, flow_of, is_on, has_time_wait, is_used, owner, tell, uses, with_event}
use Rattle.spec_flows.specs.Laws.{flow_settings}
use Rattle.spec_flows.specs.SegmentVerdicts.{SegmentVerdict, OfFlow, asked_for, due_by, due_for_flows, giving_way, segment_verdict, needs_room, quietest}
use Rattle.spec_flows.specs.Said.{Differ}
use Rattle.spec_flows.specs.Segments.{OnTuple, same_tuple, segment_came}
use Rattle.spec_flows.specs.Touching.{has_number}
use Rattle.spec_flows.proofs.Apart.{own_arrival}
use Rattle.sim_flows.specs.Only.{IsOf, Only}
use Rattle.sim_flows.proofs.Only.{number_of_found, only_happens}
use Rattle.sim_flows.proofs.Seats.{owner_id}
use Rattle.spec_run.specs.Agenda.{agenda}
use Rattle.spec_run.specs.Laws.{joins}
use Rattle.spec_run.proofs.Bools.{and_both, or_second, same}
use Rattle.spec_run.proofs.Longest.{same_port}
use Rattle.flow_splice.specs.Splice.{Face}
use Rattle.flow_splice.specs.Entries.{AreEvents}
use Rattle.flow_splice.specs.Shapes.{is_at_most_a_close}
use Rattle.sim_flows.specs.Core.{ends_of}
use Rattle.sim_flows.specs.Stands.{HasFlow, IsInOrder}
use Rattle.sim_flows.proofs.Hosting.{Called, Ready, none_made, or_first, shut_it}
use Rattle.sim_flows.proofs.Writing.{ends_are, owner_is}

-- ---- a segment comes

-- a segment that came is what the entry is to flows
pub comes_by : (config : Config) (past : List Entry) (e : Entry) (on : OnTuple) → segment_came (happens config past e).came ≡ Some on → doing config past e ≡ Comes on
comes_by config past e on is = by (happens config past e).came is
  where
    by : (came : Option Arrival) → segment_came came ≡ Some on → doing_by came (happens config past e).went (happens config past e).call ≡ Comes on
    by None is = cc
    by (Some arrival) is = ap comes is

-- the owner of two ends has the event
owner_told : (now : ℕ) (ev : Event) (t : Tuple) (f : Flow) (flows : List Flow) → owner t flows ≡ Some f → owner t (tell (is_on t) (with_event now ev) flows) ≡ Some (with_event now ev f)
owner_told now ev t f [] is = cc
owner_told now ev t f (g ∷ flows) is = by (is_on t g) refl is (owner_told now ev t f flows)
  where
    by : (b : Bool) → is_on t g ≡ b → cond b (Some g) (owner t flows) ≡ Some f → (owner t flows ≡ Some f → owner t (tell (is_on t) (with_event now ev) flows) ≡ Some (with_event now ev f))
        → owner t (if b then with_event now ev g ∷ flows else g ∷ tell (is_on t) (with_event now ev) flows) ≡ Some (with_event now ev f)
    by true on is rest = ap (λ c. cond c (Some (with_event now ev g)) (owner t flows)) on ∙ ap (option_map (with_event now ev)) is
    by false off is rest = ap (λ c. cond c (Some g) (owner t (tell (is_on t) (with_event now ev) flows))) off ∙ rest is

same_ends : (t : Tuple) → same_tuple t t ≡ true
same_ends t = and_both (same_endpoint t.guest t.guest) (same_endpoint t.other t.other) (same_port t.guest) (same_port t.other)

-- no flow gives way to a segment that is its flow's
pub none_gives_way : (config : Config) (now : ℕ) (on : OnTuple) (b : Book) → segment_verdict config b on ≡ OfFlow → giving_way config now on b ≡ None
none_gives_way config now on b is =
    ap (λ l. if needs_room l && not (list_any (λ (f : Flow). owes_reset f.story) b.flows) then option_map (λ (f : Flow). f.number) (quietest now b.flows) else None) is

module _ (config : Config) (face : Face) (f : Flow) (past : List Entry) (e : Entry) (on : OnTuple) (has : HasFlow config face f past) (differ : Differ (book config past).flows)
    (is : doing config past e ≡ Comes on) (ends : on.tuple ≡ ends_of face) where
  -- the flow, with the segment
  abbrev pub after : Flow
  after = with_event (moment past) (Arrives on.segment) f

  abbrev then_book : Book
  then_book = turned config (scene config past) (Comes on) (book config past)

  new : book config (e ∷ past) ≡ then_book
  new = ap (λ d. turned config (scene config past) d (book config past)) is

  number : f.number ≡ face.number
  number = number_of_found face.number (book config past).flows f has.found

  owner_here : owner on.tuple (book config past).flows ≡ Some f
  owner_here = ap (λ t. owner t (book config past).flows) ends ∙ owner_is config face f past has differ

  of_segment : IsOf face.number (book config past) (Comes on)
  of_segment = ap (has_number face.number) owner_here ∙ ap (λ m. m == face.number) number ∙ same face.number

  -- it is of this flow
  pub of_arrival : IsOf face.number (book config past) (doing config past e)
  of_arrival = subst (IsOf face.number (book config past)) (sym is) of_segment

  only : Only face.number (book config past).flows (book config (e ∷ past)).flows
  only = only_happens config (scene config past) face.number (book config past) differ (doing config past e) of_arrival

  owner_then : owner on.tuple then_book.flows ≡ Some after
  owner_then = owner_told (moment past) (Arrives on.segment) on.tuple f (book config past).flows owner_here

  -- it came directly before
  pub came_directly : comes_directly (book config (e ∷ past)).came after ≡ true
  came_directly = ap (λ b. came_on f.tuple b.came) new ∙ ap (λ t. same_tuple t f.tuple) (ends ∙ sym (ends_are config face f past has)) ∙ same_ends f.tuple

  -- a segment of a flow that is in use or in TIME-WAIT is its flow's
  none_asked : (is_in_use f.story ≡ true) ⊎ (has_time_wait on.tuple (book config (e ∷ past)) ≡ true) → segment_verdict config then_book on ≡ OfFlow
  none_asked why = by (is_used on.tuple then_book.flows || has_time_wait on.tuple then_book) _ (either why)
    where
      by : (b : Bool) (other : SegmentVerdict) → b ≡ true → (if b then OfFlow else other) ≡ OfFlow
      by true other is = refl
      by false other is = cc

      either : (is_in_use f.story ≡ true) ⊎ (has_time_wait on.tuple (book config (e ∷ past)) ≡ true) → (is_used on.tuple then_book.flows || has_time_wait on.tuple then_book) ≡ true
      either (inl in_use) = or_first (is_used on.tuple then_book.flows) (has_time_wait on.tuple then_book) (ap uses owner_then ∙ in_use)
      either (inr time_waits) = or_second (is_used on.tuple then_book.flows) (has_time_wait on.tuple then_book) (ap (has_time_wait on.tuple) (sym new) ∙ time_waits)

  -- the trace has the flow with it
  pub after_arrival : joins (e ∷ past) face.number ≡ joins past face.number → (is_in_use f.story ≡ true) ⊎ (has_time_wait on.tuple (book config (e ∷ past)) ≡ true) → HasFlow config face after (e ∷ past)
  after_arrival same_socket why = record {
    found = ap (λ b. flow_of face.number b.flows) new
        ∙ subst (λ m. flow_of m then_book.flows ≡ Some after) number
        (own_arrival config (scene config past) (book config past) on f owner_here (subst (λ m. flow_of m (book config past).flows ≡ Some f) (sym number) has.found));
    guest = has.guest;
    other = has.other;
    owned = owner_id f.tuple (book config (e ∷ past)).flows (book config past).flows only.same ∙ has.owned;
    socket = λ open_yet. same_socket ∙ has.socket open_yet;
    due = ap (λ b. due_for_flows config b (next_number (e ∷ past))) new
        ∙ ap (λ o. due_by o (asked_for (segment_verdict config then_book on)) (next_number (e ∷ past))) (none_gives_way config (moment past) on (heard (moment past) on (book config past)) (none_asked why))
        ∙ ap (λ l. due_by None (asked_for l) (next_number (e ∷ past))) (none_asked why);
    others = λ m g other found. has.others m g other (sym (only.apart m other) ∙ found);
  }

-- ---- it is closed, or nothing is called

module _ (config : Config) (face : Face) (mac : Option Mac) (f : Flow) (past : List Entry) (ident now : ℕ) (directly ended known : Bool) where
  abbrev Makes : List Entry → Story → Type 0
  Makes made beats = AreEvents (flow_settings config) face mac directly ended known ident now f.story made beats

  module _ (ready : Ready config face f past now ended known) (came : comes_directly (book config past).came f ≡ directly) where
    -- after a segment of the flow, or at a tick
    pub closes_or_not : (made : List Entry) (beats : Story) → is_at_most_a_close made ≡ true → Makes made beats → IsInOrder (flow_settings config) (beats ++ f.story) →
        Called config face f past now ended known made beats
    closes_or_not [] beats is are lawful = subst (Called config face f past now ended known []) (sym are) (none_made config face f past now ended known ready)
    closes_or_not (Close socket ∷ []) beats is (rest, none, (number, is_beats, cause)) lawful =
        let now_none : beats ≡ At now (Closes directly ended known) ∷ [] = is_beats ∙ ap (λ r. At now (Closes directly ended known) ∷ r) none in
        let now_lawful = subst (λ b. IsInOrder (flow_settings config) (b ++ f.story)) now_none lawful in
        subst (λ n. Called config face f past now ended known (Close n ∷ []) beats) (sym number)
        (subst (Called config face f past now ended known (Close face.number ∷ [])) (sym now_none)
        (shut_it config face f past now ended known [] [] (none_made config face f past now ended known ready) directly came
        (subst (λ r. HasOwnCause directly false known now (r ++ f.story)) none cause) now_lawful.0.0))
    closes_or_not (_ ∷ made) beats is are lawful = absurd cc

  -- the reports are as they were
  pub same_reports : (made : List Entry) → is_at_most_a_close made ≡ true → agenda (made ++ past) ≡ agenda past
  same_reports [] is = refl
  same_reports (Close socket ∷ []) is = refl
  same_reports (_ ∷ made) is = absurd cc
