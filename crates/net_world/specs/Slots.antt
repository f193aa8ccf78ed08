-- What a socket is.
use Rattle.std.specs.Prelude.{Bool, true, false, Option, None}
use Rattle.net_world.specs.declared.slot.Socket.{Socket}
use Rattle.net_world.specs.declared.slot.Socket.TheVariants.{Listener, Stream, Datagrams}

-- what is known of a connection's stream; nothing of other sockets
abbrev pub of_stream : {S A : Type 0} → (S → Option A) → Socket S → Option A
of_stream known (Listener listener) = None
of_stream known (Stream stream) = known stream
of_stream known (Datagrams socket) = None

abbrev pub is_connection : {S : Type 0} → Socket S → Bool
is_connection (Listener listener) = false
is_connection (Stream stream) = true
is_connection (Datagrams socket) = false

abbrev pub are_datagrams : {S : Type 0} → Socket S → Bool
are_datagrams (Listener listener) = false
are_datagrams (Stream stream) = false
are_datagrams (Datagrams socket) = true
