-- What the datagram that came last still asks for, by the trace of calls.
use Rattle.std.specs.Prelude.{ℕ, nat_le, Bool, List, length, Option, Some, None, if◌then◌else◌}
use Rattle.std.specs.Option.{option_or}
use Rattle.world_face.specs.Journal.{Entry}
use Rattle.slirp_settings.specs.Addresses.{Config}
use Rattle.rules_udp.specs.Associations.{most_associations}
use Rattle.spec_run.specs.Datagrams.{Errand, Step, NeedsNothing, NeedsRoom, NeedsSocket, NeedsSending, asks_a_name}
use Rattle.spec_run.specs.Errands.{errand_left}
use Rattle.spec_run.specs.Names.{questions, step_to_names}
use Rattle.spec_run.specs.Ports.{associations_open, forward_for, longest_unused, socket_for}

-- It is sent on the first port of the host that is given to its port; where none is, on the socket that was opened for it. Where there is none a socket is
-- opened; and before, where as many are open as may be, the longest unused of them is closed.
abbrev pub yields : Option ℕ → Errand → Step
yields None errand = NeedsSocket errand
yields (Some oldest) errand = NeedsRoom oldest errand

abbrev pub is_full : Config → List Entry → Bool
is_full config past = nat_le most_associations (length (associations_open config past))

abbrev pub step_on : Config → Option ℕ → List Entry → Errand → Step
step_on config None past errand = if is_full config past then yields (longest_unused config past) errand else NeedsSocket errand
step_on config (Some socket) past errand = NeedsSending socket errand

-- a question to the name server has a socket of its own
abbrev pub step_of : Config → List Entry → Option Errand → Step
step_of config past None = NeedsNothing
step_of config past (Some errand) =
    if asks_a_name config errand then step_to_names (questions config past) errand
    else step_on config (option_or (forward_for config errand.datagram.from past) (socket_for config errand.datagram.from past)) past errand

abbrev pub step : Config → List Entry → Step
step config past = step_of config past (errand_left config past)
