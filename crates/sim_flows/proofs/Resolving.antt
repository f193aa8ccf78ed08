-- A request for a guest's hardware address is told to each flow that was accepted for the guest.
use Rattle.std.proofs.Common.{◌≡◌, ℕ, suc, ◌==◌, ◌&&◌, Bool, true, false, cond, List, [], ◌∷◌, length, map, filter, Option, Some, None, option_map, if◌then◌else◌, refl, sym, ◌∙◌, ap}
use Rattle.slirp_settings.specs.Addresses.{address}
use Rattle.flow_table.specs.Slots.{Flows}
use Rattle.flow_table.specs.declared.Slot.{Slot}
use Rattle.flow_table.specs.declared.Slot.TheVariants.{Free, InUse, InTimeWait}
use Rattle.spec_flow.specs.Event.{AsksAddress, At, Story}
use Rattle.spec_flow.specs.Flow.{is_accepted}
use Rattle.spec_flow.specs.Close.{is_in_use}
use Rattle.spec_flows.specs.Flows.{Flow, TimeWait, flow_of, uses, used, with_event, resolves_for}
use Rattle.spec_flows.proofs.Apart.{resolves_number, map_found}
use Rattle.sim_flows.specs.Only.{ids}
use Rattle.sim_flows.specs.Seats.{IsSlotOf, Seats}
use Rattle.sim_flows.proofs.Only.{differ_same}
use Rattle.sim_flows.proofs.Seats.{found_id, owner_id}

module _ (now guest : ℕ) where
  -- it changes no tuple, and no use
  by_asking : (Q : Flow → Type 0) (f : Flow) → Q (with_event now AsksAddress f) → Q f → Q (resolves_for now guest f)
  by_asking Q f asked unasked = by_test (is_accepted f.story && (address f.tuple.guest == guest))
    where
      by_test : (b : Bool) → Q (if b then with_event now AsksAddress f else f)
      by_test true = asked
      by_test false = unasked

  asks_tuple : (f : Flow) → (resolves_for now guest f).tuple ≡ f.tuple
  asks_tuple f = by_asking (λ g. g.tuple ≡ f.tuple) f refl refl

  asks_use : (f : Flow) → is_in_use (resolves_for now guest f).story ≡ is_in_use f.story
  asks_use f = by_asking (λ g. is_in_use g.story ≡ is_in_use f.story) f refl refl

  asks_ids : (flows : List Flow) → ids (map (resolves_for now guest) flows) ≡ ids flows
  asks_ids [] = refl
  asks_ids (f ∷ flows) = λ i. (resolves_number now guest f i, asks_tuple f i) ∷ asks_ids flows i

  asks_used : (flows : List Flow) → used (map (resolves_for now guest) flows) ≡ used flows
  asks_used [] = refl
  asks_used (f ∷ flows) =
      ap (λ b. length (cond b (resolves_for now guest f ∷ filter (λ (g : Flow). is_in_use g.story) (map (resolves_for now guest) flows))
      (filter (λ (g : Flow). is_in_use g.story) (map (resolves_for now guest) flows)))) (asks_use f)
      ∙ by_test (is_in_use f.story) (asks_used flows)
    where
      by_test : (b : Bool) → used (map (resolves_for now guest) flows) ≡ used flows
          → length (cond b (resolves_for now guest f ∷ filter (λ (g : Flow). is_in_use g.story) (map (resolves_for now guest) flows))
          (filter (λ (g : Flow). is_in_use g.story) (map (resolves_for now guest) flows)))
          ≡ length (cond b (f ∷ filter (λ (g : Flow). is_in_use g.story) flows) (filter (λ (g : Flow). is_in_use g.story) flows))
      by_test true rest = ap suc rest
      by_test false rest = rest

  uses_asked : (o : Option Flow) → uses (option_map (resolves_for now guest) o) ≡ uses o
  uses_asked None = refl
  uses_asked (Some f) = asks_use f

  told : (time_waits : List TimeWait) (f : Flow) (s : Slot) → IsSlotOf time_waits f s → IsSlotOf time_waits (with_event now AsksAddress f) s
  told time_waits f Free is = is
  told time_waits f (InUse t) is = is
  told time_waits f (InTimeWait t since) is = is

  slot_asked : (time_waits : List TimeWait) (f : Flow) (s : Slot) → IsSlotOf time_waits f s → IsSlotOf time_waits (resolves_for now guest f) s
  slot_asked time_waits f s is = by_asking (λ g. IsSlotOf time_waits g s) f (told time_waits f s is) is

  -- where a part goes on to follow its flow when that is told, nothing else changes
  pub seats_asked : {P : Type 0} (number : P → ℕ) (Follows : P → Story → Type 0) (table : Flows) (parts : List (Option P)) (next : ℕ) (flows : List Flow) (time_waits : List TimeWait)
      → ((p : P) (s : Story) → Follows p s → Follows p (At now AsksAddress ∷ s))
      → Seats number Follows table parts next flows time_waits → Seats number Follows table parts next (map (resolves_for now guest) flows) time_waits
  seats_asked number Follows table parts next flows time_waits goes_on seats =
      let found : (n : ℕ) → flow_of n (map (resolves_for now guest) flows) ≡ option_map (resolves_for now guest) (flow_of n flows) = λ n. map_found n (resolves_for now guest) (resolves_number now guest) flows in
      record {
        seated = λ k p here.
            let seat = seats.seated k p here in
            let f = seat.0 in (
              resolves_for now guest f,
              seat.1,
              found (number p) ∙ ap (option_map (resolves_for now guest)) seat.2,
              resolves_number now guest f ∙ seat.3,
              by_asking (λ g. Follows p g.story) f (goes_on p f.story seat.4) seat.4,
              seat.5,
              slot_asked time_waits f seat.1 seat.6,
            );
        empty = seats.empty;
        numbers = seats.numbers;
        owned = λ k n t here is_on. owner_id t (map (resolves_for now guest) flows) flows (asks_ids flows) ∙ seats.owned k n t here
            (sym (found_id n (map (resolves_for now guest) flows) flows (asks_ids flows)) ∙ is_on);
        found = λ n in_use. seats.found n (sym (uses_asked (flow_of n flows)) ∙ (sym (ap uses (found n)) ∙ in_use));
        order = seats.order;
        counted = asks_used flows ∙ seats.counted;
        differ = differ_same (map (resolves_for now guest) flows) flows (asks_ids flows) seats.differ;
        fresh = λ n past. found n ∙ ap (option_map (resolves_for now guest)) (seats.fresh n past);
      }
