-- The wants of a wait, beside those of flows.
use Rattle.std.specs.Prelude.{ℕ, ◌||◌, Bool, true, false, List, [], ◌∷◌, map, if◌then◌else◌}
use Rattle.poll_list.specs.declared.Want.{Want}
use Rattle.poll_list.specs.declared.Who.TheVariants.{Link, Listener, Udp}

-- the link is wanted for reading where nothing is left to be sent, and for writing where it is blocked
abbrev pub link_want : Bool → Bool → List Want
link_want read write = if read || write then record { of = Link; read = read; write = write } ∷ [] else []

-- then the ports of the host to which peers connect, where there is room for the flow of one more
abbrev pub listener_want : ℕ → Want
listener_want number = record { of = Listener number; read = true; write = false }

-- and then the open sockets of datagrams for reading, where nothing is left to be sent
abbrev pub udp_want : ℕ → Want
udp_want number = record { of = Udp number; read = true; write = false }

abbrev pub socket_wants : Bool → List ℕ → List Want
socket_wants read numbers = if read then map udp_want numbers else []
