-- Which flows were accepted, and how often their guests were asked for, against what is kept of each flow.
use Rattle.std.specs.Prelude.{◌≡◌, ℕ, ◌+◌, ◌≤◌, ◌==◌, ◌&&◌, ◌||◌, Bool, false, List, [], ◌∷◌, map, slice_get, Option, Some}
use Rattle.world_face.specs.Journal.{Entry}
use Rattle.slirp_settings.specs.Addresses.{Config}
use Rattle.spec_flow.specs.Flow.{is_accepted}
use Rattle.spec_flows.specs.Book.{book}
use Rattle.spec_flows.specs.Flows.{Flow}
use Rattle.spec_run.specs.Sending.{accepted_for, requests, times}
use Rattle.flow_splice.specs.Splice.{Splice}
use Rattle.sim_flows.specs.Core.{number_of}

abbrev pub sum_of : (ℕ → ℕ) → List ℕ → ℕ
sum_of asks [] = 0
sum_of asks (n ∷ ns) = asks n + sum_of asks ns

-- the numbers of the flows that were accepted for a guest
abbrev pub accepted_numbers : ℕ → List Flow → List ℕ
accepted_numbers guest flows = map (λ (f : Flow). f.number) (accepted_for guest flows)

-- a flow with this number was accepted
abbrev pub was_accepted : ℕ → List Flow → Bool
was_accepted n [] = false
was_accepted n (f ∷ flows) = (is_accepted f.story && (f.number == n)) || was_accepted n flows

-- Each part tells whether its flow was accepted. Each flow that was asked so often, nine times at most, and no part less often than it counts; and no guest was asked for more often
-- than its flows did in all.
pub record AreAsked (config : Config) (parts : List (Option Splice)) (past : List Entry) : Type 0 where
  pub asks : ℕ → ℕ
  pub few : (n : ℕ) → asks n ≤ 9
  pub began : (k : ℕ) (p : Splice) → slice_get parts k ≡ Some (Some p) → p.accepted ≡ was_accepted (number_of p) (book config past).flows
  pub own : (k : ℕ) (p : Splice) → slice_get parts k ≡ Some (Some p) → asks (number_of p) ≤ p.asked
  pub counted : (guest : ℕ) → times guest (requests config past) ≤ sum_of asks (accepted_numbers guest (book config past).flows)
