-- A flow that asked for its guest's hardware address is told it: the slots stand for the flows as before.
use Rattle.std.proofs.Common.{◌≡◌, ℕ, Bool, true, List, set, slice_get, Option, Some, inl, inr, refl, sym, ◌∙◌, ap, subst}
use Rattle.std.specs.Prelude.{Contains}
use Rattle.net_octets.specs.declared.Mac.{Mac}
use Rattle.arp_table.specs.Table.{mac_of as learnt_for}
use Rattle.world_face.specs.Journal.{Entry, Call}
use Rattle.slirp_settings.specs.Addresses.{Config}
use Rattle.spec_trace.specs.Guests.{known}
use Rattle.spec_trace.specs.Sockets.{next_number}
use Rattle.spec_flow.specs.Close.{is_in_use}
use Rattle.spec_flows.specs.Book.{book}
use Rattle.spec_flows.specs.Flows.{Flow, flow_of}
use Rattle.spec_flows.specs.Laws.{flow_settings}
use Rattle.spec_flows.specs.Taught.{taught}
use Rattle.sim_flows.specs.FlowsHold.{FlowsState, time_waits_at}
use Rattle.sim_flows.proofs.Seats.{differ, same_or_not, seats_one}
use Rattle.sim_flows.proofs.Tables.{get_set_other, get_set_same}
use Rattle.flow_splice.specs.Sends.{learnt}
use Rattle.flow_splice.specs.Splice.{Splice}
use Rattle.flow_splice.proofs.Asking.{learn_follows}
use Rattle.sim_flows.specs.Core.{CoreHolds, Following, mac_of, number_of}
use Rattle.sim_flows.proofs.Known.{known_was_taught}
use Rattle.sim_flows.proofs.Options.{some_same}

module _ (config : Config) (now : ℕ) (aged : Bool) (task : Option Call) (state : FlowsState Splice) (past : List Entry) (holds : CoreHolds config now aged task state past)
    (k : ℕ) (p : Splice) (f : Flow) (m : Mac) (at : slice_get state.slots k ≡ Some (Some p)) (was : flow_of (number_of p) (book config past).flows ≡ Some f) (used : is_in_use f.story ≡ true)
    (is_known : learnt_for f.tuple.guest.addr (known config past) ≡ Some m) where
  abbrev pub told : Splice
  told = learnt p (Some m)

  abbrev pub state_told : FlowsState Splice
  state_told = record { table = state.table; slots = set state.slots k (Some told); opened = state.opened }

  follows : Following config now told f.story
  follows =
      let seat = holds.seats.seated k p at in
      learn_follows (flow_settings config) p (Some m) f.story now (subst (λ (x : Flow). Following config now p x.story) (some_same seat.0 f (sym seat.2 ∙ was)) seat.4)

  learnt_told : (j : ℕ) (r : Splice) (g : Flow) (n : Mac) → slice_get (set state.slots k (Some told)) j ≡ Some (Some r) → flow_of (number_of r) (book config past).flows ≡ Some g → mac_of r ≡ Some n
      → Contains (taught config past) (g.tuple.guest.addr, n)
  learnt_told j r g n here found is_mac = elim (same_or_not j k) [
    | inl at_k ↦
        let it : r ≡ told = some_same r told (get_set_same state.slots k (Some p) (Some told) (Some r) at (subst (λ i. slice_get (set state.slots k (Some told)) i ≡ Some (Some r)) at_k here)) in
        let flow : g ≡ f = some_same g f (sym found ∙ ap (λ (x : Splice). flow_of (number_of x) (book config past).flows) it ∙ was) in
        let mac : n ≡ m = some_same n m (sym is_mac ∙ ap mac_of it) in
        subst (λ (x : Flow). Contains (taught config past) (x.tuple.guest.addr, n)) (sym flow)
        (subst (λ (x : Mac). Contains (taught config past) (f.tuple.guest.addr, x)) (sym mac) (known_was_taught config past f.tuple.guest.addr m is_known))
    | inr other ↦ holds.learnt j r g n (sym (get_set_other state.slots k j (Some told) (differ j k other)) ∙ here) found is_mac
  ]

  pub core_told : CoreHolds config now aged task state_told past
  core_told = record {
    seats = seats_one number_of (Following config now) state.table state.slots (next_number past) (book config past).flows (book config past).flows
        (time_waits_at aged config past) k p told f f at refl was used was used follows
        (record { same = refl; apart = λ other not. refl; differ = λ is. is; used = refl }) holds.seats;
    slots = holds.slots;
    opened = holds.opened;
    asked = holds.asked;
    learnt = learnt_told;
  }
