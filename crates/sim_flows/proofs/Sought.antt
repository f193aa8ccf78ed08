-- A guest's hardware address was asked for by a frame that is no flow's own: each flow that was accepted for the guest is told, and the slots stand for the flows as before.
use Rattle.std.proofs.Common.{◌≡◌, ℕ, ◌==◌, ◌&&◌, Bool, true, false, List, [], ◌∷◌, length, map, filter, slice_get, Option, Some, None, option_map, if◌then◌else◌, refl, sym, ◌∙◌, ap, subst}
use Rattle.std.specs.Prelude.{Contains}
use Rattle.std.proofs.lemmas.List.{length-map}
use Rattle.net_octets.specs.declared.Mac.{Mac}
use Rattle.world_face.specs.Journal.{Entry, Call}
use Rattle.slirp_settings.specs.Addresses.{Config, address}
use Rattle.spec_trace.specs.Moments.{moment}
use Rattle.spec_trace.specs.Sockets.{next_number}
use Rattle.spec_flow.specs.Event.{AsksAddress, At, Story}
use Rattle.spec_flow.specs.Flow.{is_accepted}
use Rattle.spec_flows.specs.declared.Tuple.{Tuple}
use Rattle.spec_flows.specs.Book.{book, is_young, scene, turned}
use Rattle.spec_flows.specs.Doings.{Doing, Resolves, doing}
use Rattle.spec_flows.specs.Flows.{Book, Flow, TimeWait, flow_of, resolves_for, with_event}
use Rattle.spec_flows.specs.SegmentVerdicts.{due_for_flows}
use Rattle.spec_flows.specs.Taught.{taught}
use Rattle.spec_flows.proofs.Apart.{map_found, resolves_number}
use Rattle.sim_flows.specs.FlowsHold.{FlowsHold, FlowsState, time_waits_at}
use Rattle.sim_flows.specs.Seats.{Seats}
use Rattle.sim_flows.proofs.Resolving.{seats_asked}
use Rattle.sim_flows.proofs.Holding.{taught_on}
use Rattle.sim_flows.proofs.Options.{none_some, some_same}

module _ {P : Type 0} (number : P → ℕ) (mac : P → Option Mac) (F : P → Story → Type 0) (config : Config) (aged : Bool) (task : Option Call) (state : FlowsState P)
    (past : List Entry) (e : Entry) (guest : ℕ) (holds : FlowsHold number mac F config aged task state past)
    (goes_on : (p : P) (story : Story) → F p story → F p (At (moment past) AsksAddress ∷ story)) (resolves : doing config past e ≡ Resolves guest) (at : moment (e ∷ past) ≡ moment past)
    (next : next_number (e ∷ past) ≡ next_number past) where
  abbrev now : ℕ
  now = moment past

  abbrev then_told : Book
  then_told = record { flows = map (resolves_for (moment past) guest) (book config past).flows; time_waits = (book config past).time_waits; came = None; doomed = None }

  book_is : book config (e ∷ past) ≡ then_told
  book_is = ap (λ (d : Doing). turned config (scene config past) d (book config past)) resolves

  flows_are : (book config (e ∷ past)).flows ≡ map (resolves_for now guest) (book config past).flows
  flows_are = ap (λ (b : Book). b.flows) book_is

  rests_are : (b : Bool) → time_waits_at b config (e ∷ past) ≡ time_waits_at b config past
  rests_are false = ap (λ (b : Book). b.time_waits) book_is
  rests_are true = ap (λ (b : Book). filter (is_young (moment (e ∷ past))) b.time_waits) book_is ∙ ap (λ (m : ℕ). filter (is_young m) (book config past).time_waits) at

  by_asking : (Q : Flow → Type 0) (f : Flow) → Q (with_event now AsksAddress f) → Q f → Q (resolves_for now guest f)
  by_asking Q f asked unasked = by_test (is_accepted f.story && (address f.tuple.guest == guest))
    where
      by_test : (b : Bool) → Q (if b then with_event now AsksAddress f else f)
      by_test true = asked
      by_test false = unasked

  seats_told : Seats number F state.table state.slots (next_number past) (map (resolves_for now guest) (book config past).flows) (time_waits_at aged config past)
  seats_told =
      seats_asked now guest number F state.table state.slots (next_number past) (book config past).flows (time_waits_at aged config past)
      goes_on holds.seats

  learnt_told : (k : ℕ) (p : P) (h : Flow) (m : Mac) → slice_get state.slots k ≡ Some (Some p) → flow_of (number p) (book config (e ∷ past)).flows ≡ Some h → mac p ≡ Some m →
      Contains (taught config (e ∷ past)) (h.tuple.guest.addr, m)
  learnt_told k p h m here found is_mac = by (flow_of (number p) (book config past).flows) refl
    where
      was : option_map (resolves_for now guest) (flow_of (number p) (book config past).flows) ≡ Some h
      was = sym (map_found (number p) (resolves_for now guest) (resolves_number now guest) (book config past).flows) ∙ sym (ap (flow_of (number p)) flows_are) ∙ found

      by : (o : Option Flow) → flow_of (number p) (book config past).flows ≡ o → Contains (taught config (e ∷ past)) (h.tuple.guest.addr, m)
      by None is = absurd (none_some (sym (ap (option_map (resolves_for now guest)) is) ∙ was))
      by (Some g) is =
          let told : resolves_for now guest g ≡ h = some_same (resolves_for now guest g) h (sym (ap (option_map (resolves_for now guest)) is) ∙ was) in
          let ends : (resolves_for now guest g).tuple ≡ g.tuple = by_asking (λ (f : Flow). f.tuple ≡ g.tuple) g refl refl in
          subst (λ (t : Tuple). Contains (taught config (e ∷ past)) (t.guest.addr, m)) (sym ends ∙ ap (λ (f : Flow). f.tuple) told)
          (taught_on config past (e ∷ []) (g.tuple.guest.addr, m) (holds.learnt k p g m here is is_mac))

  pub holds_resolved : FlowsHold number mac F config aged None state (e ∷ past)
  holds_resolved = record {
    seats = subst (λ (n : ℕ). Seats number F state.table state.slots n (book config (e ∷ past)).flows (time_waits_at aged config (e ∷ past))) (sym next)
        (subst (λ (l : List TimeWait). Seats number F state.table state.slots (next_number past) (book config (e ∷ past)).flows l) (sym (rests_are aged))
        (subst (λ (l : List Flow). Seats number F state.table state.slots (next_number past) l (time_waits_at aged config past)) (sym flows_are) seats_told));
    slots = holds.slots;
    opened = ap (λ (l : List Flow). length l) flows_are ∙ length-map (book config past).flows (resolves_for now guest) ∙ holds.opened;
    asked = ap (λ (b : Book). due_for_flows config b (next_number (e ∷ past))) book_is;
    learnt = learnt_told;
  }
