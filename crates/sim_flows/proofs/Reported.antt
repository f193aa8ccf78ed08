-- A flow was told what the host reported, or the time: what it made is lawful, and the core's slots stand for the flows of the trace again.
use Rattle.std.proofs.Common.{◌≡◌, ℕ, Bool, true, false, List, ◌∷◌, ◌++◌, slice_get, Option, Some, None, refl, ◌∙◌, ap}
use Rattle.std.specs.Prelude.{Contains}
use Rattle.net_octets.specs.declared.Mac.{Mac}
use Rattle.poll_list.specs.declared.Want.{Want}
use Rattle.world_face.specs.Journal.{Entry}
use Rattle.slirp_settings.specs.Addresses.{Config}
use Rattle.spec_trace.specs.Moments.{moment}
use Rattle.spec_flows.specs.declared.Tuple.{Tuple}
use Rattle.spec_flow.specs.Event.{Story}
use Rattle.spec_flows.specs.Book.{book, scene}
use Rattle.spec_flows.specs.Flows.{Flow, comes_directly, comes_last, flow_of, guest_is_known}
use Rattle.spec_flows.specs.Laws.{flow_settings}
use Rattle.spec_flows.specs.Taught.{taught}
use Rattle.sim_flows.specs.FlowsHold.{FlowsState}
use Rattle.sim_flows.specs.Seats.{Once}
use Rattle.sim_flows.proofs.Holding.{taught_on}
use Rattle.spec_run.specs.Agenda.{agenda}
use Rattle.spec_run.specs.Laws.{Lawful}
use Rattle.flow_splice.specs.Splice.{Splice}
use Rattle.flow_splice.specs.Entries.{AreEvents}
use Rattle.flow_splice.specs.Shapes.{IsHostWork, is_at_most_a_close}
use Rattle.flow_splice.proofs.Promises.{lawful_is}
use Rattle.sim_flows.specs.Core.{CoreHolds, Following, ends_of, number_of}
use Rattle.sim_flows.specs.Stands.{HasFlow, InWork, IsLast, close_if, slot_at}
use Rattle.sim_flows.proofs.Coming.{closes_or_not}
use Rattle.sim_flows.proofs.Heard.{follows_well}
use Rattle.sim_flows.proofs.Hosting.{Called as CalledThen, Heard, Ready, hears, item}
use Rattle.sim_flows.proofs.Pumped.{Called, core_called, core_has, state_at}

module _ (config : Config) (state : FlowsState Splice) (past : List Entry) (now : ℕ) (aged : Bool) (holds : CoreHolds config now aged None state past)
    (moment_is : moment past ≡ now) (lawful : Lawful config past) (work : InWork config past)
    (k : ℕ) (p q : Splice) (t : Tuple) (f : Flow) (at : slice_get state.slots k ≡ Some (Some p)) (slot : slice_get state.table.slots k ≡ Some (slot_at p.place t)) (same : q.face ≡ p.face)
    (was : flow_of (number_of p) (book config past).flows ≡ Some f) (ends : f.tuple ≡ ends_of p.face) (once : Once state.table.time_wait_order)
    (learnt : (m : Mac) → q.mac ≡ Some m → Contains (taught config past) (f.tuple.guest.addr, m))
    (mac : Option Mac) (ident : ℕ) (made : List Entry) (beats : Story) (follows : Following config now q (beats ++ f.story)) where
  abbrev pub ended : Bool
  ended = comes_last (scene config past) f

  abbrev pub known : Bool
  known = guest_is_known (scene config past) f

  has : HasFlow config p.face f past
  has = core_has config state past now aged holds lawful k p f at was ends

  ready : Ready config p.face f past now ended known
  ready = record { lawful = lawful; work = work; has = has; at = moment_is; knows = refl; last = λ open_yet. refl }

  learnt_still : (m : Mac) → q.mac ≡ Some m → Contains (taught config (made ++ past)) (f.tuple.guest.addr, m)
  learnt_still m is = taught_on config past made (f.tuple.guest.addr, m) (learnt m is)

  well : {x : Bool} → x ≡ false → (n : ℕ) → close_if x n ≡ None
  well is n = ap (λ b. close_if b n) is

  -- ---- what the host reported of its socket

  module _ (read write : Bool) (items : List Want) (reported : IsLast (item p.face.number read items write ∷ items) (agenda past)) (shape : IsHostWork read write made)
      (are : AreEvents (flow_settings config) p.face mac false ended known ident now f.story made beats) where
    -- the reports behind it are left
    pub told : Heard config p.face mac f past ident now ended known read write items made beats
    told = hears config p.face mac f past ident now ended known read write items ready reported made beats shape are (lawful_is (flow_settings config) q (beats ++ f.story) now follows)

    reported_called : Called config p.face f past now made beats
    reported_called = record {
      lawful = told.called.lawful;
      found = told.called.has.found;
      of = told.called.of;
      at = told.called.at;
      asks = told.called.has.due ∙ well (follows_well config now q (beats ++ f.story) follows) (number_of p);
      next = told.called.next;
      time_waits = told.called.time_waits;
      rests_on = told.called.rests_on;
      stays_in_time_wait = told.called.stays_in_time_wait;
      since = told.called.since;
    }

    -- the core's relation holds after a report
    pub core_reported : CoreHolds config now aged None (state_at state k t p q) (made ++ past)
    core_reported = core_called config state past now aged None holds moment_is lawful k p q t f at slot same was once made beats reported_called follows learnt_still

  -- ---- the time

  module _ (few : is_at_most_a_close made ≡ true) (directly : Bool) (came : comes_directly (book config past).came f ≡ directly)
      (are : AreEvents (flow_settings config) p.face mac directly ended known ident now f.story made beats) where
    pub ticked : CalledThen config p.face f past now ended known made beats
    ticked = closes_or_not config p.face mac f past ident now directly ended known ready came made beats few are (lawful_is (flow_settings config) q (beats ++ f.story) now follows)

    ticked_called : Called config p.face f past now made beats
    ticked_called = record {
      lawful = ticked.lawful;
      found = ticked.has.found;
      of = ticked.of;
      at = ticked.at;
      asks = ticked.has.due ∙ well (follows_well config now q (beats ++ f.story) follows) (number_of p);
      next = ticked.next;
      time_waits = ticked.time_waits;
      rests_on = ticked.rests_on;
      stays_in_time_wait = ticked.stays_in_time_wait;
      since = ticked.since;
    }

    -- the core's relation holds after a tick
    pub core_ticked : CoreHolds config now aged None (state_at state k t p q) (made ++ past)
    core_ticked = core_called config state past now aged None holds moment_is lawful k p q t f at slot same was once made beats ticked_called follows learnt_still
