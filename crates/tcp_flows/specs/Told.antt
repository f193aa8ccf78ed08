-- A flow is told once a turn what the host reported of its socket.
use Rattle.std.specs.Prelude.{◌≡◌, ◌⊎◌, ℕ, true, false, Bool, List, slice_get, Some}
use Rattle.poll_list.specs.declared.Who.TheVariants.{Tcp as OnTcp}
use Rattle.world_face.specs.Journal.{Entry}
use Rattle.slirp_settings.specs.Addresses.{Config}
use Rattle.flow_splice.specs.Splice.{Splice}
use Rattle.spec_duties.specs.Serving.{is_left_to_read, is_left_to_write}
use Rattle.sim_flows.specs.Core.{number_of}
use Rattle.tcp_flows.specs.Kept.{Kept}
use Rattle.tcp_flows.specs.Reading.{IsOpenAt}

-- the flow with this open socket was told in this turn
pub record WasTold (number : ℕ) (kept : Kept) : Type 0 where
  pub slot : ℕ
  pub part : Splice
  pub at : IsOpenAt kept.flows.slots slot part
  pub number_is : number_of part ≡ number
  pub mark : slice_get kept.served slot ≡ Some kept.turn

-- nothing is left of a report on this socket, in the directions that it had
pub record IsTold (config : Config) (number : ℕ) (read write : Bool) (past : List Entry) : Type 0 where
  pub reading : read ≡ true → is_left_to_read config past (OnTcp number) ≡ false
  pub writing : write ≡ true → is_left_to_write config past (OnTcp number) ≡ false

-- the flow was told before, or nothing is left now
abbrev pub ServesOnce : Config → (number : ℕ) → (read write : Bool) → Kept → List Entry → Type 0
ServesOnce config number read write old past = WasTold number old ⊎ IsTold config number read write past
