-- A call of one flow: the core's relation goes on.
use Rattle.std.proofs.Common.{◌≡◌, ℕ, suc, ◌==◌, true, false, List, [], ◌∷◌, ◌++◌, length, set, slice_get, Option, Some, None, option_map, inl, inr, refl, sym, ◌∙◌, ap, subst}
use Rattle.std.specs.Prelude.{Contains}
use Rattle.std.proofs.lemmas.List.Elements.{Contains-append_right}
use Rattle.net_octets.specs.declared.Ip4.{Ip4}
use Rattle.net_octets.specs.declared.Mac.{Mac}
use Rattle.world_face.specs.Journal.{Entry, Call}
use Rattle.slirp_settings.specs.Addresses.{Config}
use Rattle.spec_flows.specs.declared.Tuple.{Tuple}
use Rattle.spec_flow.specs.Event.{Story}
use Rattle.spec_flow.specs.Close.{is_in_use}
use Rattle.spec_flows.specs.SegmentVerdicts.{due_for_flows}
use Rattle.spec_flows.specs.Book.{book}
use Rattle.spec_flows.specs.Flows.{Flow, TimeWait, flow_of, is_among_time_waits}
use Rattle.spec_flows.specs.Taught.{taught, taught_by, taught_pair}
use Rattle.spec_trace.specs.Happenings.{Arrival, happens}
use Rattle.spec_trace.specs.Packets.{Pair}
use Rattle.spec_trace.specs.Sockets.{next_number}
use Rattle.sim_flows.specs.FlowsHold.{FlowsState, FlowsHold}
use Rattle.sim_flows.specs.Seats.{number_in, Seats}
use Rattle.sim_flows.specs.Only.{AreOf, StaysInUse, ids}
use Rattle.sim_flows.proofs.Only.{only_made, head_same}
use Rattle.sim_flows.proofs.InTimeWait.{stays_out}
use Rattle.sim_flows.proofs.Seats.{seats_one, found_id, same_or_not, differ}
use Rattle.sim_flows.proofs.Tables.{get_set_same, get_set_other}

-- what was taught stays so
taught_more : (pair : Ip4 × Mac) (pairs : List (Ip4 × Mac)) (o : Option Arrival) → Contains pairs pair → Contains (taught_by o pairs) pair
taught_more pair pairs None has = has
taught_more pair pairs (Some arrival) has = by_pair arrival.pair
  where
    by_pair : (o : Option Pair) → Contains (taught_pair o pairs) pair
    by_pair None = has
    by_pair (Some p) = Contains-append_right ((record { 0 = p.address }, record { 0 = p.mac }) ∷ []) pairs pair has

pub taught_on : (config : Config) (past made : List Entry) (pair : Ip4 × Mac) → Contains (taught config past) pair → Contains (taught config (made ++ past)) pair
taught_on config past [] pair has = has
taught_on config past (e ∷ made) pair has = taught_more pair (taught config (made ++ past)) (happens config (made ++ past) e).came (taught_on config past made pair has)

as_many : (a b : List Flow) → ids a ≡ ids b → length a ≡ length b
as_many [] [] same = refl
as_many [] (g ∷ b) same = absurd cc
as_many (f ∷ a) [] same = absurd cc
as_many (f ∷ a) (g ∷ b) same = ap suc (as_many a b (head_same f g a b same).2)

module _ {P : Type 0} (number : P → ℕ) (mac : P → Option Mac) (Follows : P → Story → Type 0) (config : Config) (state : FlowsState P) where
  -- The flow at k had the part p and has q; it is in use, and all that was made is of it.
  pub hold_one : (task new_task : Option Call) (past made : List Entry) (k : ℕ) (p q : P) (f g : Flow)
      → slice_get state.slots k ≡ Some (Some p) → number q ≡ number p
      → flow_of (number p) (book config past).flows ≡ Some f → is_in_use f.story ≡ true
      → AreOf config (number p) past made → StaysInUse config (number p) past made
      → ((h : Flow) → (h.number == number p) ≡ true → is_among_time_waits (book config past).time_waits (Some h) ≡ false)
      → flow_of (number p) (book config (made ++ past)).flows ≡ Some g → is_in_use g.story ≡ true → Follows q g.story
      → ((m : Mac) → mac q ≡ Some m → Contains (taught config (made ++ past)) (f.tuple.guest.addr, m))
      → next_number (made ++ past) ≡ next_number past
      → due_for_flows config (book config (made ++ past)) (next_number (made ++ past)) ≡ new_task
      → FlowsHold number mac Follows config false task state past
      → FlowsHold number mac Follows config false new_task (record { table = state.table; slots = set state.slots k (Some q); opened = state.opened }) (made ++ past)
  hold_one task new_task past made k p q f g at same was was_used are uses awake is is_used follows learnt numbers asks holds =
      let only = only_made config (number p) past made holds.seats.differ are in
      let time_waits = stays_out config (number p) past made are uses awake in
      record {
        seats = subst (λ n. Seats number Follows state.table (set state.slots k (Some q)) n (book config (made ++ past)).flows (book config (made ++ past)).time_waits) (sym numbers)
            (subst (λ (r : List TimeWait). Seats number Follows state.table (set state.slots k (Some q)) (next_number past) (book config (made ++ past)).flows r) (sym time_waits)
            (seats_one number Follows state.table state.slots (next_number past) (book config past).flows (book config (made ++ past)).flows
            (book config past).time_waits k p q f g at same was was_used is is_used follows only holds.seats));
        slots = holds.slots;
        opened = as_many (book config (made ++ past)).flows (book config past).flows only.same ∙ holds.opened;
        asked = asks;
        learnt = λ j r h m here found is_mac. elim (same_or_not j k) [
          | inl at_k ↦
              let one : r ≡ q = part_here k p q r at (subst (λ i. slice_get (set state.slots k (Some q)) i ≡ Some (Some r)) at_k here) in
              let this : flow_of (number p) (book config (made ++ past)).flows ≡ Some h = ap (λ n. flow_of n (book config (made ++ past)).flows) (sym same ∙ ap number (sym one)) ∙ found in
              let guest : f.tuple.guest.addr ≡ h.tuple.guest.addr = same_guests f h (sym (ap (option_map (λ (x : Flow). x.tuple)) this) ∙ found_id (number p)
              (book config (made ++ past)).flows (book config past).flows only.same ∙ ap (option_map (λ (x : Flow). x.tuple)) was) in
              subst (λ (a : Ip4). Contains (taught config (made ++ past)) (a, m)) guest (learnt m (ap mac (sym one) ∙ is_mac))
          | inr other ↦
              let was_here : slice_get state.slots j ≡ Some (Some r) = sym (get_set_other state.slots k j (Some q) (differ j k other)) ∙ here in
              let apart : (number r == number p) ≡ false = not_one j k (number r) (number p) other
              (λ one. holds.seats.numbers j k (number p) (ap (number_in number) was_here ∙ ap Some one) (ap (number_in number) at)) in
              taught_on config past made (h.tuple.guest.addr, m) (holds.learnt j r h m was_here (sym (only.apart (number r) apart) ∙ found) is_mac)
        ];
      }
    where
      part_here : (k : ℕ) (p q r : P) → slice_get state.slots k ≡ Some (Some p) → slice_get (set state.slots k (Some q)) k ≡ Some (Some r) → r ≡ q
      part_here k p q r at here = let one : Some r ≡ Some q = get_set_same state.slots k (Some p) (Some q) (Some r) at here in cc

      same_guests : (f h : Flow) → Some h.tuple ≡ Some f.tuple → f.tuple.guest.addr ≡ h.tuple.guest.addr
      same_guests f h is = let tuples : f.tuple ≡ h.tuple = cc in ap (λ (t : Tuple). t.guest.addr) tuples

      not_one : (j k m n : ℕ) → (j == k) ≡ false → (m ≡ n → j ≡ k) → (m == n) ≡ false
      not_one j k m n other one = elim (same_or_not m n) [ inl same ↦ absurd (differ j k other (one same)) | inr not ↦ not ]
