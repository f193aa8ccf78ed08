-- What isn't about the flow of any slot: the slots go on to stand for the flows of the trace.
use Rattle.std.proofs.Common.{◌≡◌, ℕ, ◌+◌, ◌≤◌, ◌==◌, Bool, true, false, List, [], ◌∷◌, length, slice_get, Option, Some, None, inl, inr, refl, sym, ◌∙◌, ap, subst, arith}
use Rattle.net_octets.specs.declared.Mac.{Mac}
use Rattle.world_face.specs.Journal.{Entry, Call, Wait}
use Rattle.world_face.specs.declared.Waited.{Waited}
use Rattle.poll_list.specs.declared.Want.{Want}
use Rattle.slirp_settings.specs.Addresses.{Config}
use Rattle.flow_table.specs.Slots.{Flows}
use Rattle.spec_trace.specs.Sockets.{next_number}
use Rattle.spec_flow.specs.Event.{Story}
use Rattle.spec_flows.specs.Book.{book, quiet, scene, turned}
use Rattle.spec_flows.specs.Doings.{Nothing, doing}
use Rattle.spec_flows.specs.Flows.{Book, Flow, TimeWait, flow_of, uses, used}
use Rattle.spec_flows.specs.SegmentVerdicts.{due_for_flows}
use Rattle.sim_flows.specs.FlowsHold.{FlowsHold, FlowsState, time_waits_at}
use Rattle.sim_flows.specs.Only.{Only, one_if}
use Rattle.sim_flows.specs.Seats.{Seats, number_at, number_in}
use Rattle.sim_flows.proofs.Holding.{taught_on}
use Rattle.sim_flows.proofs.Seats.{found_id, owner_id, same_or_not}

less_then : (a b c : ℕ) → a ≤ b → b ≤ c → a ≤ c
less_then a b c one two = omega (arith, one, two)

module _ {P : Type 0} (number : P → ℕ) (F G : P → Story → Type 0) (table : Flows) (parts : List (Option P)) where
  -- each part follows its story on, and numbers were drawn
  pub seats_on : (next later : ℕ) (flows : List Flow) (time_waits : List TimeWait) → next ≤ later → ((p : P) (story : Story) → F p story → G p story) →
      Seats number F table parts next flows time_waits → Seats number G table parts later flows time_waits
  seats_on next later flows time_waits on goes seats = record {
    seated = λ k p at. let seat = seats.seated k p at in (seat.0, seat.1, seat.2, seat.3, goes p seat.0.story seat.4, seat.5, seat.6);
    empty = seats.empty;
    numbers = seats.numbers;
    owned = seats.owned;
    found = seats.found;
    order = seats.order;
    counted = seats.counted;
    differ = seats.differ;
    fresh = λ n past. seats.fresh n (less_then next later n on past);
  }

used_alike : (new_used old_used : ℕ) (o n : Option Flow) → new_used + one_if (uses o) ≡ old_used + one_if (uses n) → uses n ≡ uses o → new_used ≡ old_used
used_alike new_used old_used o n is same =
    let before : new_used + one_if (uses o) ≡ old_used + one_if (uses o) = is ∙ ap (λ b. old_used + one_if b) same in
    omega (arith, before)

module _ {P : Type 0} (number : P → ℕ) (F : P → Story → Type 0) (table : Flows) (parts : List (Option P)) (next : ℕ) (old new : List Flow) (time_waits : List TimeWait) where
  -- One flow was told something that has no slot, and that is out of use as before.
  pub seats_apart : (n : ℕ) → ((k : ℕ) → number_at number parts k ≡ Some n → ⊥) → uses (flow_of n new) ≡ uses (flow_of n old) → Only n old new → (next ≤ n → flow_of n new ≡ None)
      → Seats number F table parts next old time_waits → Seats number F table parts next new time_waits
  seats_apart n nobody alike only gone seats =
      let others : (k : ℕ) (p : P) → slice_get parts k ≡ Some (Some p) → (number p == n) ≡ false = λ k p at. elim (same_or_not (number p) n) [
        | inl same ↦ absurd (nobody k (ap (number_in number) at ∙ ap Some same))
        | inr other ↦ other
      ] in
      record {
        seated = λ k p at. let seat = seats.seated k p at in (seat.0, seat.1, only.apart (number p) (others k p at) ∙ seat.2, seat.3, seat.4, seat.5, seat.6);
        empty = seats.empty;
        numbers = seats.numbers;
        owned = λ j m t here is_on. owner_id t new old only.same ∙ seats.owned j m t here (sym (found_id m new old only.same) ∙ is_on);
        found = λ m in_use. elim (same_or_not m n) [
          | inl here ↦ seats.found m (ap (λ i. uses (flow_of i old)) here ∙ sym alike ∙ ap (λ i. uses (flow_of i new)) (sym here) ∙ in_use)
          | inr other ↦ seats.found m (ap uses (sym (only.apart m other)) ∙ in_use)
        ];
        order = seats.order;
        counted = used_alike (used new) (used old) (flow_of n old) (flow_of n new) only.used alike ∙ seats.counted;
        differ = only.differ seats.differ;
        fresh = λ m past. elim (same_or_not m n) [
          | inl here ↦ ap (λ i. flow_of i new) here ∙ gone (subst (λ i. next ≤ i) here past)
          | inr other ↦ only.apart m other ∙ seats.fresh m past
        ];
      }

-- ---- what is nothing to flows

module _ {P : Type 0} (number : P → ℕ) (mac : P → Option Mac) (F G : P → Story → Type 0) (config : Config) (state : FlowsState P) (past : List Entry) where
  -- nothing happened to flows: time may have passed, and a number may have been drawn
  pub holds_quiet : (e : Entry) (aged : Bool) (task : Option Call) → doing config past e ≡ Nothing → next_number past ≤ next_number (e ∷ past)
      → time_waits_at aged config (e ∷ past) ≡ time_waits_at aged config past → ((p : P) (story : Story) → F p story → G p story)
      → FlowsHold number mac F config aged task state past → FlowsHold number mac G config aged None state (e ∷ past)
  holds_quiet e aged task is on same goes holds =
      let new : book config (e ∷ past) ≡ quiet (book config past) = ap (λ d. turned config (scene config past) d (book config past)) is in
      let flows_are : (book config (e ∷ past)).flows ≡ (book config past).flows = ap (λ (b : Book). b.flows) new in
      record {
        seats = subst (λ (r : List TimeWait). Seats number G state.table state.slots (next_number (e ∷ past)) (book config (e ∷ past)).flows r) (sym same)
            (subst (λ (l : List Flow). Seats number G state.table state.slots (next_number (e ∷ past)) l (time_waits_at aged config past)) (sym flows_are)
            (seats_on number F G state.table state.slots (next_number past) (next_number (e ∷ past)) (book config past).flows (time_waits_at aged config past) on goes holds.seats));
        slots = holds.slots;
        opened = ap (λ (l : List Flow). length l) flows_are ∙ holds.opened;
        asked = ap (λ b. due_for_flows config b (next_number (e ∷ past))) new;
        learnt = λ k p f m at found is_mac. taught_on config past (e ∷ []) (f.tuple.guest.addr, m) (holds.learnt k p f m at (ap (flow_of (number p)) (sym flows_are) ∙ found) is_mac);
      }

  -- a wait ends the TIME-WAITs that are over, which the core let go before
  pub holds_paused : (wants : List Want) (timeout : Option ℕ) (answer : Waited) (ready : List Want) (task : Option Call) → ((p : P) (story : Story) → F p story → G p story)
      → FlowsHold number mac F config true task state past → FlowsHold number mac G config false None state (Wait wants timeout answer ready ∷ past)
  holds_paused wants timeout answer ready task goes holds = record {
    seats = seats_on number F G state.table state.slots (next_number past) (next_number past) (book config past).flows (time_waits_at true config past) (omega arith) goes holds.seats;
    slots = holds.slots;
    opened = holds.opened;
    asked = refl;
    learnt = λ k p f m at found is_mac. taught_on config past (Wait wants timeout answer ready ∷ []) (f.tuple.guest.addr, m) (holds.learnt k p f m at found is_mac);
  }
