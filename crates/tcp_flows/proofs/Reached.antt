-- The part of a slot, as a call on it finds it.
use Rattle.std.proofs.Common.{◌≡◌, ℕ, Bool, true, List, map, get_or, slice_get, Option, Some, ap, sym, ◌∙◌}
use Rattle.flow_table.specs.Slots.{Flows, HasTuple}
use Rattle.spec_flows.specs.declared.Tuple.{Tuple}
use Rattle.tcp_segment.specs.Tcp.{Tcp}
use Rattle.flow_splice.specs.Guests.{heard_in_time_wait, renews}
use Rattle.flow_splice.specs.Splice.{Splice, is_in_time_wait, is_open}
use Rattle.flow_splice.specs.declared.Place.{Place}
use Rattle.flow_splice.specs.declared.Place.TheVariants.{Empty, InTimeWait}
use Rattle.sim_flows.specs.Core.{ends_of}
use Rattle.tcp_flows.specs.Kept.{part_of, slot_of}
use Rattle.tcp_flows.specs.Rows.{Moves, table_at}
use Rattle.tcp_flows.proofs.Following.{has_tuple}
use Rattle.tcp_flows.proofs.Keeping.{again_moves, raw_here, raw_placed, read_here, time_wait_since, slot_raw}

-- the slot has the part of a flow, and this was read of it before the call
pub record IsReached (parts : List Splice) (k : ℕ) (p read : Splice) (place : Place) (open_before : Bool) : Type 0 where
  pub at : slice_get parts k ≡ Some p
  pub some : p.place ≡ Empty → ⊥
  pub is : read ≡ p
  pub place_is : place ≡ p.place
  pub open_is : open_before ≡ is_open p

-- it is so by the clauses of what reads
pub reached : (parts : List Splice) (k : ℕ) (seen : List (Option Splice)) (p read : Splice) (place : Place) (open_before : Bool) → map part_of parts ≡ seen
    → slice_get seen k ≡ Some (Some p) → read ≡ get_or parts k read → place ≡ read.place → open_before ≡ is_open read → IsReached parts k p read place open_before
reached parts k seen p read place open_before are here value place_is open_is =
    let at_seen = ap (λ (l : List (Option Splice)). slice_get l k) are ∙ here in
    let raw = raw_here parts k p at_seen in
    let is = read_here parts k p read raw value in
    record { at = raw; some = raw_placed parts k p at_seen; is = is; place_is = place_is ∙ ap (λ (x : Splice). x.place) is; open_is = open_is ∙ ap is_open is }

-- so it had a place
pub had_place : (parts : List Splice) (k : ℕ) (p read : Splice) (place : Place) (open_before : Bool) → IsReached parts k p read place open_before → place ≡ Empty → ⊥
had_place parts k p read place open_before r empty = r.some (sym r.place_is ∙ empty)

-- a flow that was in TIME-WAIT heard a segment
pub record Rested (again : Bool) (tcp : Tcp) (now : ℕ) (p q : Splice) : Type 0 where
  pub since : ℕ
  pub time_waits : p.place ≡ InTimeWait since
  pub heard : q ≡ heard_in_time_wait p since tcp now
  pub moves : Moves again p q

module _ (again : Bool) (tcp : Tcp) (now : ℕ) (parts : List Splice) (k : ℕ) (p read q : Splice) (place : Place) (open_before : Bool)
    (r : IsReached parts k p read place open_before) (asked : again ≡ renews tcp) where
  pub rested : is_in_time_wait p.place ≡ true → ((since : ℕ) → read.place ≡ InTimeWait since → q ≡ heard_in_time_wait read since tcp now) → Rested again tcp now p q
  rested at_rest hears =
      let rest = time_wait_since p at_rest in
      let heard = hears rest.0 (ap (λ (x : Splice). x.place) r.is ∙ rest.1) ∙ ap (λ (x : Splice). heard_in_time_wait x rest.0 tcp now) r.is in
      record { since = rest.0; time_waits = rest.1; heard = heard; moves = again_moves p q rest.0 now tcp again asked rest.1 heard }

  -- and its slot is as it stands then
  pub rested_table : Moves again p q → (table then : Flows) → table.slots ≡ map slot_of parts
      → ((t : Tuple) → HasTuple table.slots k t → then ≡ table_at again place q.place k t table) → then ≡ table_at (renews tcp) p.place q.place k (ends_of p.face) table
  rested_table moves table then are follows =
      let has = has_tuple again table k p q moves r.some (slot_raw table parts are k p r.at) in
      follows (ends_of p.face) has ∙ (λ i. table_at (asked i) (r.place_is i) q.place k (ends_of p.face) table)
