-- The numbers of flows, and what the settings say of flows.
use Rattle.std.specs.Prelude.{◌≡◌, ℕ, ◌+◌, ◌<◌, ◌≤◌, List, [], ◌∷◌, length, replicate, slice_get, Option, Some, None, if◌then◌else◌}
use Rattle.slirp_settings.specs.Addresses.{Config}
use Rattle.flow_table.specs.Slots.{all_free}
use Rattle.flow_splice.specs.Splice.{Splice, is_open}
use Rattle.sim_flows.specs.Core.{number_of}
use Rattle.tcp_flows.specs.Kept.{Kept}

-- each flow's number is under that of the next socket; no more were opened than numbers were drawn; and there are at most 4,096
pub record AreDrawn (next : ℕ) (kept : Kept) : Type 0 where
  pub below : (k : ℕ) (p : Splice) → slice_get kept.flows.slots k ≡ Some (Some p) → number_of p < next
  pub opened : kept.flows.opened ≤ next
  pub few : length kept.flows.slots ≤ 4096

-- how many flows have an open socket
abbrev pub count_open : Option Splice → ℕ → ℕ
count_open None n = n
count_open (Some p) n = if is_open p then n + 1 else n

abbrev pub open_flows : List (Option Splice) → ℕ
open_flows [] = 0
open_flows (o ∷ parts) = count_open o (open_flows parts)

-- room for as many flows as the settings say, of which none was opened
abbrev pub flows_for : Config → Kept
flows_for config = record {
  flows = record { table = all_free config.flows; slots = replicate config.flows None; opened = 0 };
  owing = replicate config.flows None;
  served = replicate config.flows 0;
  ring = config.ring;
  mtu = config.mtu;
  mru = config.mru;
  congestion = config.congestion;
  vhost = config.vhost;
  turn = 0;
}
