-- What the control learns of what was reported.
use Rattle.std.specs.Prelude.{◌&&◌, Bool, true, false, List}
use Rattle.std.specs.List.{list_any}
use Rattle.poll_list.specs.declared.Want.{Want}
use Rattle.poll_list.specs.declared.Who.{Who}
use Rattle.poll_list.specs.declared.Who.TheVariants.{Listener, Tcp}

abbrev pub is_listener : Who → Bool
is_listener (Listener socket) = true
is_listener _ = false

abbrev pub is_connection : Who → Bool
is_connection (Tcp socket) = true
is_connection _ = false

-- a listener for reading: a peer waits; a connection for reading: octets of lines came; and for writing: there is room for octets of a reply
abbrev pub tells_peer : List Want → Bool
tells_peer items = list_any (λ item. is_listener item.of && item.read) items

abbrev pub tells_lines : List Want → Bool
tells_lines items = list_any (λ item. is_connection item.of && item.read) items

abbrev pub tells_room : List Want → Bool
tells_room items = list_any (λ item. is_connection item.of && item.write) items
