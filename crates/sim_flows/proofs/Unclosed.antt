-- Where what the core has of each flow follows a story after which the flow needn't be closed, no flow must be closed.
use Rattle.std.proofs.Common.{◌≡◌, ℕ, ◌||◌, not, Bool, true, false, List, slice_get, Option, Some, None, refl, sym, ◌∙◌, ap, subst}
use Rattle.net_octets.specs.declared.Mac.{Mac}
use Rattle.world_face.specs.Journal.{Entry, Call}
use Rattle.slirp_settings.specs.Addresses.{Config}
use Rattle.flow_table.specs.Slots.{Flows}
use Rattle.spec_flow.specs.Event.{Story}
use Rattle.spec_flow.specs.Close.{is_in_use, owes_reset}
use Rattle.spec_flow.specs.Dutiful.{MustClose}
use Rattle.spec_flow.specs.Flow.{is_closed}
use Rattle.spec_flows.specs.Book.{book}
use Rattle.spec_flows.specs.Flows.{Flow, TimeWait, flow_of, uses}
use Rattle.spec_flows.specs.Laws.{NoneMustClose}
use Rattle.spec_trace.specs.Sockets.{next_number}
use Rattle.sim_flows.specs.FlowsHold.{FlowsHold, FlowsState, time_waits_at}
use Rattle.sim_flows.specs.Seats.{Seats, number_in}

-- a flow that must be closed is in use
open_in_use : (story : Story) → is_closed story ≡ false → is_in_use story ≡ true
open_in_use story is = ap (λ b. not b || owes_reset story) is

module _ {P : Type 0} (number : P → ℕ) (Follows : P → Story → Type 0) (stay : (p : P) (story : Story) → Follows p story → MustClose story → ⊥) where
  module _ (table : Flows) (parts : List (Option P)) (next : ℕ) (flows : List Flow) (time_waits : List TimeWait) (seats : Seats number Follows table parts next flows time_waits) where
    -- each flow in use has a part, which follows its story
    none_of_seats : (n : ℕ) (f : Flow) → flow_of n flows ≡ Some f → MustClose f.story → ⊥
    none_of_seats n f found must =
        let seat = seats.found n (ap uses found ∙ open_in_use f.story must.2) in
        by_part seat.0 (slice_get parts seat.0) refl seat.1
      where
        numbered : (m : ℕ) → Some m ≡ Some n → m ≡ n
        numbered m is = cc

        same : (g : Flow) → Some g ≡ Some f → g ≡ f
        same g is = cc

        by_part : (k : ℕ) (o : Option (Option P)) → slice_get parts k ≡ o → number_in number (slice_get parts k) ≡ Some n → ⊥
        by_part k (Some (Some p)) here is =
            let it = seats.seated k p here in
            let number_is : number p ≡ n = numbered (number p) (sym (ap (number_in number) here) ∙ is) in
            stay p it.0.story it.4 (subst (λ (g : Flow). MustClose g.story) (sym (same it.0 (sym it.2 ∙ ap (λ m. flow_of m flows) number_is ∙ found))) must)
        by_part k (Some None) here is = cc (sym (ap (number_in number) here) ∙ is)
        by_part k None here is = cc (sym (ap (number_in number) here) ∙ is)

  pub none_must_close : (mac : P → Option Mac) (config : Config) (aged : Bool) (task : Option Call) (state : FlowsState P) (past : List Entry) →
      FlowsHold number mac Follows config aged task state past → NoneMustClose config past
  none_must_close mac config aged task state past holds =
      none_of_seats state.table state.slots (next_number past) (book config past).flows (time_waits_at aged config past) holds.seats
