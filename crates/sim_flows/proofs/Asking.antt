-- A flow that was accepted asks for its guest's hardware address: the request may go out, and the slots stand for the flows of the trace again.
use Rattle.std.proofs.Common.{◌≡◌, ℕ, ◌*◌, ◌^◌, ◌<◌, ◌==◌, ◌&&◌, ◌||◌, not, Bool, true, false, List, [], ◌∷◌, drop, filter, length, map, set, slice_get, Some, None, option_map}
use Rattle.std.proofs.Common.{if◌then◌else◌, inl, inr, refl, sym, ◌∙◌, ap, subst, arith}
use Rattle.std.proofs.lemmas.Bool.Decides.{nat_tests}
use Rattle.std.specs.List.{list_any}
use Rattle.std.specs.Prelude.{Contains}
use Rattle.net_octets.specs.declared.Mac.{Mac}
use Rattle.world_face.specs.Journal.{Entry, LinkWrite, CallLinkWrite}
use Rattle.world_face.specs.Frames.{MayFrame, goes_out, opens, tail}
use Rattle.world_face.specs.declared.Io.TheVariants.{Done}
use Rattle.slirp_settings.specs.Addresses.{Config, address}
use Rattle.spec_trace.specs.Moments.{moment}
use Rattle.spec_trace.specs.Shape.{is_working}
use Rattle.spec_trace.specs.Sockets.{is_among, next_number}
use Rattle.spec_flow.specs.Event.{AsksAddress, At}
use Rattle.spec_flow.specs.Close.{is_in_use}
use Rattle.spec_flow.specs.Flow.{is_accepted}
use Rattle.spec_flows.specs.Book.{book, scene, turned}
use Rattle.spec_flows.specs.Doings.{Doing, Resolves, doing, doing_by, goes, resolves}
use Rattle.spec_flows.specs.Flows.{Flow, flow_of, resolves_for, with_event}
use Rattle.spec_flows.specs.Laws.{MaySend, SendsOn, WritesBy, MustSend, flow_settings}
use Rattle.spec_flows.specs.Segments.{asked_in, segment_in}
use Rattle.spec_flows.specs.Taught.{taught}
use Rattle.spec_flows.proofs.Apart.{map_found, resolves_number}
use Rattle.sim_flows.specs.FlowsHold.{FlowsState, time_waits_at}
use Rattle.sim_flows.proofs.Seats.{differ, same_or_not, seats_one}
use Rattle.sim_flows.proofs.Tables.{get_set_other, get_set_same}
use Rattle.spec_run.specs.Answers.{is_out, left}
use Rattle.spec_run.specs.Answers.{is_first}
use Rattle.spec_run.specs.Laws.{May, may_begin}
use Rattle.spec_run.specs.Sending.{accepted_for, is_beside, is_explained, is_known, is_silent, may_ask, requests, sends_again, times}
use Rattle.spec_run.proofs.Bools.{and_both, or_second, same}
use Rattle.spec_run.proofs.Deeds.{FlowsAskNothing, writes}
use Rattle.flow_splice.specs.Frames.{request_frame}
use Rattle.flow_splice.specs.Splice.{Face, Splice}
use Rattle.flow_splice.proofs.Asked.{asked_follows}
use Rattle.sim_flows.specs.Asked.{accepted_numbers}
use Rattle.sim_flows.specs.Core.{CoreHolds, Following, mac_of, number_of}
use Rattle.sim_flows.specs.Stands.{InWork}
use Rattle.sim_flows.proofs.Calling.{due_is}
use Rattle.sim_flows.proofs.Options.{some_same}
use Rattle.sim_flows.proofs.ReadBack.{no_segment, request_back, request_written}
use Rattle.sim_flows.proofs.Sought.{holds_resolved}

-- ---- a flow among those that were accepted for its guest

or_first : (a b : Bool) → a ≡ true → (a || b) ≡ true
or_first true b is = refl
or_first false b is = absurd cc

no_both : {b : Bool} → b ≡ false → b ≡ true → ⊥
no_both {b} off on = cc

found_any : (p q : Flow → Bool) (n : ℕ) (flows : List Flow) (f : Flow) → flow_of n flows ≡ Some f → p f ≡ true → q f ≡ true → list_any q (filter p flows) ≡ true
found_any p q n [] f is passes holds = absurd cc
found_any p q n (g ∷ flows) f is passes holds = by (g.number == n) (p g) refl is (λ more. found_any p q n flows f more passes holds)
  where
    by : (b c : Bool) → p g ≡ c → (if b then Some g else flow_of n flows) ≡ Some f → (flow_of n flows ≡ Some f → list_any q (filter p flows) ≡ true) → list_any q
        (if c then g ∷ filter p flows else filter p flows) ≡ true
    by true true here is more = or_first (q g) (list_any q (filter p flows)) (ap q (some_same g f is) ∙ holds)
    by true false here is more = absurd (no_both here (ap p (some_same g f is) ∙ passes))
    by false true here is more = or_second (q g) (list_any q (filter p flows)) (more is)
    by false false here is more = more is

found_among : (p : Flow → Bool) (n : ℕ) (flows : List Flow) (f : Flow) → flow_of n flows ≡ Some f → p f ≡ true → is_among f.number (map (λ (h : Flow). h.number) (filter p flows)) ≡ true
found_among p n [] f is passes = absurd cc
found_among p n (g ∷ flows) f is passes = by (g.number == n) (p g) refl is (λ more. found_among p n flows f more passes)
  where
    by : (b c : Bool) → p g ≡ c → (if b then Some g else flow_of n flows) ≡ Some f → (flow_of n flows ≡ Some f → is_among f.number (map (λ (h : Flow). h.number) (filter p flows)) ≡ true)
        → is_among f.number (map (λ (h : Flow). h.number) (if c then g ∷ filter p flows else filter p flows)) ≡ true
    by true true here is more =
        or_first (f.number == g.number) (is_among f.number (map (λ (h : Flow). h.number) (filter p flows))) (ap (λ (h : Flow). f.number == h.number) (some_same g f is) ∙ same f.number)
    by true false here is more = absurd (no_both here (ap p (some_same g f is) ∙ passes))
    by false true here is more = or_second (f.number == g.number) (is_among f.number (map (λ (h : Flow). h.number) (filter p flows))) (more is)
    by false false here is more = more is

module _ (config : Config) (face : Face) (f : Flow) (past : List Entry) (n : ℕ) (octets : List ℕ) (work : InWork config past) (asks_nothing : FlowsAskNothing config past)
    (nothing : left config past ≡ []) (none : tail past ≡ []) (is : drop 4 octets ≡ request_frame face) (vhost : config.vhost ≡ face.vhost.0) (fits : face.guest.addr.0 < 2 ^ 32)
    (was : flow_of n (book config past).flows ≡ Some f) (mine : (is_accepted f.story && (address f.tuple.guest == face.guest.addr.0)) ≡ true) (silent : is_silent f ≡ true) where
  abbrev guest : ℕ
  guest = face.guest.addr.0

  abbrev frame : List ℕ
  frame = request_frame face

  pub among : is_among f.number (accepted_numbers guest (book config past).flows) ≡ true
  among = found_among (λ (h : Flow). is_accepted h.story && (address h.tuple.guest == guest)) n (book config past).flows f was mine

  module _ (unknown : is_known config guest past ≡ false) (few : times guest (requests config past) < 9 * length (accepted_for guest (book config past).flows))
      (framed : MayFrame past (CallLinkWrite octets)) where
    asks : may_ask config past frame (Some guest) ≡ true
    asks = and_both _ _
        (and_both _ _ (and_both _ _ (request_written face config vhost) (found_any (λ (h : Flow). is_accepted h.story && (address h.tuple.guest == guest)) is_silent n
        (book config past).flows f was mine silent))
        (ap not unknown))
        (grind (arith, nat_tests, few))

    beside : is_beside config past frame ≡ true
    beside = or_first (may_ask config past frame (asked_in frame)) (sends_again config past frame) (ap (may_ask config past frame) (request_back face fits) ∙ asks)

    explained : (l : List (List ℕ)) → l ≡ [] → (is_first frame l || (is_out l && is_beside config past frame)) ≡ true
    explained [] gone = beside
    explained (x ∷ l) gone = cc

    begins : may_begin config past (tail past) octets ≡ true
    begins = ap (λ t. may_begin config past t octets) none ∙ ap (is_explained config past) is ∙ explained (left config past) nothing

    writes_it : WritesBy (MaySend (flow_settings config) (moment past)) (book config past).flows (tail past) octets
    writes_it =
        subst (λ t. WritesBy (MaySend (flow_settings config) (moment past)) (book config past).flows t octets) (sym none)
        (subst (λ x. SendsOn (MaySend (flow_settings config) (moment past)) (book config past).flows (segment_in x)) (sym is)
        (subst (SendsOn (MaySend (flow_settings config) (moment past)) (book config past).flows) (sym (no_segment face)) tt))

    must_write : WritesBy (MustSend (flow_settings config) (moment past)) (book config past).flows (tail past) octets
    must_write =
        subst (λ t. WritesBy (MustSend (flow_settings config) (moment past)) (book config past).flows t octets) (sym none)
        (subst (λ x. SendsOn (MustSend (flow_settings config) (moment past)) (book config past).flows (segment_in x)) (sym is)
        (subst (SendsOn (MustSend (flow_settings config) (moment past)) (book config past).flows) (sym (no_segment face)) tt))

    pub may_request : May config past (CallLinkWrite octets)
    may_request = writes config past octets framed (due_is config past work ∙ asks_nothing.due) asks_nothing.stay (ap is_working work.working) begins work.open_yet (writes_it, must_write)

  -- what the trace has of it, where the link took something
  pub is_request : (count : ℕ) → doing config past (LinkWrite octets (Done count)) ≡ Resolves guest
  is_request count =
      ap (λ t. doing_by None (opens (LinkWrite octets (Done count)) t) (LinkWrite octets (Done count))) none
      ∙ ap (λ x. goes (segment_in x) (asked_in x)) is ∙ ap (λ o. goes o (asked_in frame)) (no_segment face) ∙ ap resolves (request_back face fits)

  pub goes_as_request : (count : ℕ) → goes_out (LinkWrite octets (Done count)) past ≡ Some frame
  goes_as_request count = ap (opens (LinkWrite octets (Done count))) none ∙ ap Some is

  -- ---- the slots

  module _ (aged : Bool) (state : FlowsState Splice) (holds : CoreHolds config (moment past) aged None state past) (k : ℕ) (p q : Splice)
      (at : slice_get state.slots k ≡ Some (Some p)) (numbered : number_of p ≡ n)
      (same_number : number_of q ≡ number_of p) (same_mac : q.mac ≡ p.mac) (used : is_in_use f.story ≡ true)
      (follows : Following config (moment past) q (At (moment past) AsksAddress ∷ f.story)) (count : ℕ) where
    abbrev later : List Entry
    later = LinkWrite octets (Done count) ∷ past

    abbrev now : ℕ
    now = moment past

    abbrev told : Flow
    told = with_event now AsksAddress f

    resolved : CoreHolds config now aged None state later
    resolved = holds_resolved number_of mac_of (Following config now) config aged None state past (LinkWrite octets (Done count)) guest holds
        (λ r story following. asked_follows (flow_settings config) r story now now (omega arith) following) (is_request count) refl refl

    told_is : flow_of (number_of p) (book config later).flows ≡ Some told
    told_is =
        ap (λ (d : Doing). flow_of (number_of p) (turned config (scene config past) d (book config past)).flows) (is_request count)
        ∙ map_found (number_of p) (resolves_for now guest) (resolves_number now guest) (book config past).flows
        ∙ ap (λ (m : ℕ). option_map (resolves_for now guest) (flow_of m (book config past).flows)) numbered
        ∙ ap (option_map (resolves_for now guest)) was ∙ ap (λ (b : Bool). Some (if b then told else f)) mine

    abbrev pub state_asked : FlowsState Splice
    state_asked = record { table = state.table; slots = set state.slots k (Some q); opened = state.opened }

    learnt_asked : (j : ℕ) (r : Splice) (g : Flow) (m : Mac) → slice_get (set state.slots k (Some q)) j ≡ Some (Some r) → flow_of (number_of r) (book config later).flows ≡ Some g → mac_of r ≡ Some m
        → Contains (taught config later) (g.tuple.guest.addr, m)
    learnt_asked j r g m here found is_mac = elim (same_or_not j k) [
      | inl at_k ↦
          let it : r ≡ q = some_same r q (get_set_same state.slots k (Some p) (Some q) (Some r) at (subst (λ i. slice_get (set state.slots k (Some q)) i ≡ Some (Some r)) at_k here)) in
          resolved.learnt k p g m at (ap (λ i. flow_of i (book config later).flows) (sym same_number ∙ ap number_of (sym it)) ∙ found) (sym same_mac ∙ ap mac_of (sym it) ∙ is_mac)
      | inr other ↦ resolved.learnt j r g m (sym (get_set_other state.slots k j (Some q) (differ j k other)) ∙ here) found is_mac
    ]

    pub core_asked : CoreHolds config now aged None state_asked later
    core_asked = record {
      seats = seats_one number_of (Following config now) state.table state.slots (next_number later) (book config later).flows (book config later).flows
          (time_waits_at aged config later) k p q told told at same_number told_is used told_is used follows
          (record { same = refl; apart = λ other not. refl; differ = λ is. is; used = refl }) resolved.seats;
      slots = resolved.slots;
      opened = resolved.opened;
      asked = resolved.asked;
      learnt = learnt_asked;
    }
