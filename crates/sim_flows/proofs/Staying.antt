-- Where the core's relation holds, no flow is one that the next call must close; nor is one after a close where none was before.
use Rattle.std.proofs.Common.{◌≡◌, ℕ, Bool, true, false, List, ◌∷◌, Option, Some, None, sym, ◌∙◌}
use Rattle.world_face.specs.Journal.{Entry, Call, Close}
use Rattle.slirp_settings.specs.Addresses.{Config}
use Rattle.spec_flow.specs.Settings.{Settings}
use Rattle.spec_flow.specs.Event.{Story}
use Rattle.spec_flow.specs.Dutiful.{MustClose}
use Rattle.spec_flow.specs.Flow.{is_closed}
use Rattle.spec_flows.specs.Book.{book, scene}
use Rattle.spec_flows.specs.Flows.{is_numbered, shuts}
use Rattle.spec_flows.specs.Laws.{NoneMustClose, flow_settings}
use Rattle.spec_flows.specs.Said.{Differ}
use Rattle.spec_flows.proofs.Lists.{each_by_number, each_found, each_told}
use Rattle.sim_flows.specs.FlowsHold.{FlowsState}
use Rattle.sim_flows.proofs.Unclosed.{none_must_close}
use Rattle.flow_splice.specs.Follows.{Follows, FollowsAt}
use Rattle.flow_splice.specs.Splice.{Splice}
use Rattle.flow_splice.specs.declared.Place.{Place}
use Rattle.flow_splice.specs.declared.Place.TheVariants.{Empty, InUse, InTimeWait}
use Rattle.sim_flows.specs.Core.{CoreHolds, Following, mac_of, number_of}
use Rattle.sim_flows.proofs.Options.{true_false}

-- what is closed needn't be
pub closed_stays : (story : Story) → is_closed story ≡ true → MustClose story → ⊥
closed_stays story shut must = true_false (sym shut ∙ must.2)

-- nor need a flow of the core
follows_stays : (s : Settings) (p : Splice) (story : Story) (now : ℕ) → Follows s p story now → MustClose story → ⊥
follows_stays s p story now h = by p.place p.shut h
  where
    by : (x : Place) (b : Bool) → FollowsAt x b s p story now → MustClose story → ⊥
    by Empty b q = closed_stays story q.over.closed
    by InUse true q = closed_stays story q.over.closed
    by InUse false q = q.holds.goes.free
    by (InTimeWait since) b q = closed_stays story q.time_waits.over.closed

pub core_stays : (config : Config) (now : ℕ) (aged : Bool) (task : Option Call) (state : FlowsState Splice) (past : List Entry) → CoreHolds config now aged task state past → NoneMustClose config past
core_stays config now aged task state past holds =
    none_must_close number_of (Following config now) (λ p story follows. follows_stays (flow_settings config) p story now follows) mac_of config aged task state past holds

-- a close leaves the others as they are
pub stays_closed : (config : Config) (past : List Entry) (n : ℕ) → Differ (book config past).flows → NoneMustClose config past → NoneMustClose config (Close n ∷ past)
stays_closed config past n differ stay m f found must =
    each_found (λ g. MustClose g.story → ⊥) (is_numbered m) (book config (Close n ∷ past)).flows f
    (each_told (λ g. MustClose g.story → ⊥) (λ g. MustClose g.story → ⊥) (is_numbered n) (shuts (scene config past) (book config past).came) (λ g free. free) (book config past).flows
    (λ g is free closes. none_some closes.1) (each_by_number (λ g. MustClose g.story → ⊥) (book config past).flows differ stay)) found must
  where
    none_some : {X : Type 0} {x : X} → None ≡ Some x → ⊥
    none_some is = cc
