-- A segment of a flow is written on the link: that may be, and where the link takes something of it, it is the flow's event.
use Rattle.std.proofs.Common.{◌≡◌, ℕ, ◌==◌, ◌&&◌, ◌||◌, not, Bool, true, false, List, [], ◌∷◌, drop, MatchBool, Option, Some, None, option_map, if◌then◌else◌, IsTrue, refl, sym, ◌∙◌, ap, subst, arith}
use Rattle.std.specs.List.{list_any}
use Rattle.world_face.specs.Journal.{Entry, LinkWrite, CallLinkWrite}
use Rattle.world_face.specs.Frames.{MayFrame, begun_by, opens, tail}
use Rattle.world_face.specs.declared.Io.{Io}
use Rattle.world_face.specs.declared.Io.TheVariants.{Done, End, NotYet, Failed}
use Rattle.net_octets.specs.declared.Mac.{Mac}
use Rattle.slirp_settings.specs.Addresses.{Config, address}
use Rattle.arp_table.specs.Table.{mac_of as learnt_for}
use Rattle.spec_trace.specs.Guests.{known}
use Rattle.spec_trace.specs.Moments.{moment}
use Rattle.spec_trace.specs.Shape.{is_working}
use Rattle.spec_trace.specs.Sockets.{next_number}
use Rattle.spec_flow.specs.Event.{Segment, Departs}
use Rattle.spec_flow.specs.Close.{host_failed, is_owed_reset, owes_reset}
use Rattle.spec_flow.specs.Lawful.{Send, May as MayOfOne}
use Rattle.spec_flow.specs.Dutiful.{Must as MustOfOne}
use Rattle.spec_flows.specs.Book.{book, quiet, scene, turned}
use Rattle.spec_flows.specs.Doings.{Nothing, Goes, doing, doing_by, goes}
use Rattle.spec_flows.specs.Flows.{Flow, flow_of, is_on, is_strange, owner, sends, with_event}
use Rattle.spec_flows.specs.Laws.{MaySend, SendsOn, WritesBy, MustSend, flow_settings}
use Rattle.spec_flows.specs.SegmentVerdicts.{due_for_flows}
use Rattle.spec_flows.specs.Said.{Differ}
use Rattle.spec_flows.specs.Segments.{OnTuple, asked_in, segment_in}
use Rattle.spec_flows.specs.Taught.{is_pair, taught}
use Rattle.spec_flows.specs.Touching.{has_number}
use Rattle.spec_flows.proofs.Apart.{own_departure}
use Rattle.sim_flows.specs.Only.{IsOf}
use Rattle.sim_flows.proofs.Only.{found_by, number_of_found, only_happens}
use Rattle.sim_flows.proofs.Seats.{owner_id}
use Rattle.spec_run.specs.Answers.{identification, is_first, is_out, left}
use Rattle.spec_run.specs.Laws.{May, may_begin}
use Rattle.spec_run.specs.Sending.{ip_in, is_beside, is_explained, is_latest, is_own, is_well_sent, is_written, may_ask, sends_again, sends_segment, speaks_yet}
use Rattle.spec_run.proofs.Bools.{and_both}
use Rattle.spec_run.proofs.Deeds.{writes}
use Rattle.flow_splice.specs.Splice.{Face}
use Rattle.sim_flows.specs.Core.{ends_of}
use Rattle.sim_flows.specs.Stands.{HasFlow, InWork, close_if}
use Rattle.sim_flows.proofs.Calling.{due_is, none_must_close}

-- the two ends of a face
abbrev pub on_ends : Face → Mac → Segment → OnTuple
on_ends face to seg = record { mac = to.0; tuple = ends_of face; segment = seg }

-- A frame carries a segment between the two ends of a flow, which may still speak, to the hardware address that was learnt last for its guest, and is exactly that of the segment.
pub record CarriesOf (config : Config) (face : Face) (f : Flow) (to : Mac) (seg : Segment) (frame : List ℕ) (past : List Entry) : Type 0 where
  pub carried : segment_in frame ≡ Some (on_ends face to seg)
  pub written : is_written config (identification past) frame (on_ends face to seg) (ip_in frame) ≡ true
  pub learnt : list_any (is_pair (address face.guest) to.0) (taught config past) ≡ true
  pub latest : is_latest to.0 (learnt_for face.guest.addr (known config past)) ≡ true
  pub speaks : speaks_yet seg (book config past).time_waits f ≡ true

-- the flow after its segment was offered
abbrev pub offered_flow : Io → ℕ → Segment → Flow → Flow
offered_flow (Done n) now seg f = with_event now (Departs seg) f
offered_flow End now seg f = f
offered_flow NotYet now seg f = f
offered_flow Failed now seg f = f

same_number : (n : ℕ) → (n == n) ≡ true
same_number n = grind (arith)

some_is : {X : Type 0} (x y : X) → Some x ≡ Some y → x ≡ y
some_is x y is = cc

module _ (config : Config) (face : Face) (f : Flow) (past : List Entry) (has : HasFlow config face f past) where
  -- the flow was opened last on its two ends
  pub ends_are : f.tuple ≡ ends_of face
  ends_are = λ i. record { guest = has.guest i; other = has.other i }

  owned_by : (flows : List Flow) (o : Option Flow) → Differ flows → owner f.tuple flows ≡ o → flow_of face.number flows ≡ Some f → option_map (λ (g : Flow). g.number) o ≡ Some face.number → o ≡ Some f
  owned_by flows None differ is found owned = cc
  owned_by flows (Some g) differ is found owned =
      let number : g.number ≡ face.number = some_is g.number face.number owned in
      let same : flow_of face.number flows ≡ Some g = subst (λ n. flow_of n flows ≡ Some g) number (found_by (is_on f.tuple) flows g differ is) in
      ap Some (some_is g f (sym same ∙ found))

  pub owner_is : Differ (book config past).flows → owner (ends_of face) (book config past).flows ≡ Some f
  owner_is differ =
      ap (λ t. owner t (book config past).flows) (sym ends_are)
      ∙ owned_by (book config past).flows (owner f.tuple (book config past).flows) differ refl has.found has.owned

  -- a segment that the story allows answers no stray one
  not_strange : (seg : Segment) → MayOfOne (flow_settings config) f.story (moment past) (Send seg) → is_strange seg f ≡ false
  not_strange seg may = by seg.rst may.resets_where_owed
    where
      by : (b : Bool) → (IsTrue b → IsTrue (owes_reset f.story && is_owed_reset f.story seg)) → (b && not (owes_reset f.story && is_owed_reset f.story seg)) ≡ false
      by true owed = ap not (owed refl)
      by false owed = refl

  module _ (to : Mac) (seg : Segment) (frame octets : List ℕ) (differ : Differ (book config past).flows) (none : tail past ≡ []) (is : drop 4 octets ≡ frame)
      (carries : CarriesOf config face f to seg frame past) (may : MayOfOne (flow_settings config) f.story (moment past) (Send seg)) where
    sends_it : (o : Option OnTuple) → o ≡ Some (on_ends face to seg) → sends_segment config past frame o ≡ true
    sends_it o on =
        ap (sends_segment config past frame) on
        ∙ and_both (is_own seg (book config past).time_waits (owner (ends_of face) (book config past).flows)) (is_well_sent config past frame (on_ends face to seg))
        (ap (is_own seg (book config past).time_waits) (owner_is differ) ∙ and_both (not (is_strange seg f)) (speaks_yet seg (book config past).time_waits f) (ap not (not_strange seg may)) carries.speaks)
        (and_both (list_any (is_pair (address face.guest) to.0) (taught config past) && is_latest to.0 (learnt_for face.guest.addr (known config past)))
        (is_written config (identification past) frame (on_ends face to seg) (ip_in frame))
        (and_both (list_any (is_pair (address face.guest) to.0) (taught config past)) (is_latest to.0 (learnt_for face.guest.addr (known config past))) carries.learnt carries.latest) carries.written)

    or_true : (a b : Bool) → a ≡ true → (a || b) ≡ true
    or_true true b is = refl
    or_true false b is = cc

    beside : is_beside config past frame ≡ true
    beside = or_true (sends_segment config past frame (segment_in frame) || may_ask config past frame (asked_in frame)) (sends_again config past frame)
        (or_true (sends_segment config past frame (segment_in frame)) (may_ask config past frame (asked_in frame)) (sends_it (segment_in frame) carries.carried))

    explained : (l : List (List ℕ)) → l ≡ [] → (is_first frame l || (is_out l && is_beside config past frame)) ≡ true
    explained [] is = beside
    explained (x ∷ l) is = cc

    begins : left config past ≡ [] → may_begin config past (tail past) octets ≡ true
    begins nothing =
        ap (λ t. may_begin config past t octets) none
        ∙ ap (is_explained config past) is
        ∙ explained (left config past) nothing

    sent : (o : Option OnTuple) → o ≡ Some (on_ends face to seg) → SendsOn (MaySend (flow_settings config) (moment past)) (book config past).flows o
    sent o on =
        subst (SendsOn (MaySend (flow_settings config) (moment past)) (book config past).flows) (sym on)
        (subst (MaySend (flow_settings config) (moment past) seg) (sym (owner_is differ))
        (subst (λ b. MatchBool b (Unit {0}) (MayOfOne (flow_settings config) f.story (moment past) (Send seg))) (sym (not_strange seg may)) may))

    writes_it : WritesBy (MaySend (flow_settings config) (moment past)) (book config past).flows (tail past) octets
    writes_it =
        subst (λ t. WritesBy (MaySend (flow_settings config) (moment past)) (book config past).flows t octets) (sym none)
        (subst (λ x. SendsOn (MaySend (flow_settings config) (moment past)) (book config past).flows (segment_in x)) (sym is) (sent (segment_in frame) carries.carried))

    must_send : MustOfOne (flow_settings config) f.story (moment past) (Send seg) → (o : Option OnTuple) → o ≡ Some (on_ends face to seg) → SendsOn (MustSend (flow_settings config)
        (moment past)) (book config past).flows o
    must_send must o on =
        subst (SendsOn (MustSend (flow_settings config) (moment past)) (book config past).flows) (sym on)
        (subst (MustSend (flow_settings config) (moment past) seg) (sym (owner_is differ))
        (subst (λ b. MatchBool b (Unit {0}) (MustOfOne (flow_settings config) f.story (moment past) (Send seg))) (sym (not_strange seg may)) must))

    must_write : MustOfOne (flow_settings config) f.story (moment past) (Send seg) → WritesBy (MustSend (flow_settings config) (moment past)) (book config past).flows (tail past) octets
    must_write must =
        subst (λ t. WritesBy (MustSend (flow_settings config) (moment past)) (book config past).flows t octets) (sym none)
        (subst (λ x. SendsOn (MustSend (flow_settings config) (moment past)) (book config past).flows (segment_in x)) (sym is) (must_send must (segment_in frame) carries.carried))

    pub may_write : MustOfOne (flow_settings config) f.story (moment past) (Send seg) → InWork config past → left config past ≡ [] → MayFrame past (CallLinkWrite octets) →
        May config past (CallLinkWrite octets)
    may_write must work nothing framed =
        writes config past octets framed (due_is config past work ∙ has.due ∙ ap (λ b. close_if b face.number) may.closes_after_failure)
        (none_must_close config face f past work has must.closes_after_reset) (ap is_working work.working) (begins nothing) work.open_yet (writes_it, must_write must)

    -- ---- what the trace has of the flow then

    none_opens : (answer : Io) → doing config past (LinkWrite octets answer) ≡ doing_by None (begun_by answer octets) (LinkWrite octets answer)
    none_opens answer = ap (λ t. doing_by None (opens (LinkWrite octets answer) t) (LinkWrite octets answer)) none

    goes_by : (n : ℕ) → doing config past (LinkWrite octets (Done n)) ≡ Goes (on_ends face to seg)
    goes_by n = none_opens (Done n) ∙ ap (λ x. goes (segment_in x) (asked_in x)) is ∙ ap (λ o. goes o (asked_in frame)) carries.carried

    well : host_failed f.story ≡ false
    well = may.closes_after_failure

    went : sends (moment past) seg f ≡ with_event (moment past) (Departs seg) f
    went = ap (λ b. if b then f else with_event (moment past) (Departs seg) f) (not_strange seg may)

    after_going : (n : ℕ) → HasFlow config face (with_event (moment past) (Departs seg) f) (LinkWrite octets (Done n) ∷ past)
    after_going n =
        let new : book config (LinkWrite octets (Done n) ∷ past) ≡ turned config (scene config past) (Goes (on_ends face to seg)) (book config past) =
        ap (λ d. turned config (scene config past) d (book config past)) (goes_by n) in
        let number : f.number ≡ face.number = number_of_found face.number (book config past).flows f has.found in
        let of : IsOf face.number (book config past) (Goes (on_ends face to seg)) = ap (has_number face.number) (owner_is differ) ∙ ap (λ m. m == face.number) number ∙ same_number face.number in
        let only = only_happens config (scene config past) face.number (book config past) differ (doing config past (LinkWrite octets (Done n)))
        (subst (IsOf face.number (book config past)) (sym (goes_by n)) of) in
        record {
          found = ap (λ b. flow_of face.number b.flows) new
              ∙ subst (λ m. flow_of m (turned config (scene config past) (Goes (on_ends face to seg)) (book config past)).flows ≡ Some (sends (moment past) seg f)) number
              (own_departure config (scene config past) (book config past) (on_ends face to seg) f (owner_is differ) (subst (λ m. flow_of m (book config past).flows ≡ Some f) (sym number) has.found))
              ∙ ap Some went;
          guest = has.guest;
          other = has.other;
          owned = owner_id f.tuple (book config (LinkWrite octets (Done n) ∷ past)).flows (book config past).flows only.same ∙ has.owned;
          socket = has.socket;
          due = ap (λ b. due_for_flows config b (next_number past)) new;
          others = λ m g other found. has.others m g other (sym (only.apart m other) ∙ found);
        }

    -- nothing of it was taken
    after_none : (answer : Io) → begun_by answer octets ≡ None → HasFlow config face f (LinkWrite octets answer ∷ past)
    after_none answer nothing =
        let is_nothing : doing config past (LinkWrite octets answer) ≡ Nothing = none_opens answer ∙ ap (λ o. doing_by None o (LinkWrite octets answer)) nothing in
        let new : book config (LinkWrite octets answer ∷ past) ≡ quiet (book config past) = ap (λ d. turned config (scene config past) d (book config past)) is_nothing in
        record {
          found = ap (λ b. flow_of face.number b.flows) new ∙ has.found;
          guest = has.guest;
          other = has.other;
          owned = ap (λ b. option_map (λ (g : Flow). g.number) (owner f.tuple b.flows)) new ∙ has.owned;
          socket = has.socket;
          due = ap (λ b. due_for_flows config b (next_number past)) new ∙ ap (λ b. close_if b face.number) (sym well);
          others = λ m g other found. has.others m g other (sym (ap (λ b. flow_of m b.flows) new) ∙ found);
        }

    -- it is of this flow, or nothing to any
    pub of_offer : (answer : Io) → IsOf face.number (book config past) (doing config past (LinkWrite octets answer))
    of_offer (Done n) =
        let number : f.number ≡ face.number = number_of_found face.number (book config past).flows f has.found in
        subst (IsOf face.number (book config past)) (sym (goes_by n)) (ap (has_number face.number) (owner_is differ) ∙ ap (λ m. m == face.number) number ∙ same_number face.number)
    of_offer End = subst (IsOf face.number (book config past)) (sym (none_opens End)) tt
    of_offer NotYet = subst (IsOf face.number (book config past)) (sym (none_opens NotYet)) tt
    of_offer Failed = subst (IsOf face.number (book config past)) (sym (none_opens Failed)) tt

    pub after_offer : (answer : Io) → HasFlow config face (offered_flow answer (moment past) seg f) (LinkWrite octets answer ∷ past)
    after_offer (Done n) = after_going n
    after_offer End = after_none End refl
    after_offer NotYet = after_none NotYet refl
    after_offer Failed = after_none Failed refl
