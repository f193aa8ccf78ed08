-- What a listener gives by one call, and what it is known to be ready for then.
use Rattle.std.specs.Prelude.{◌≡◌, Bool, true, false, Option, None, Some, Ok, Err}
use Rattle.std.specs.declared.io.ErrorKind.{ErrorKind}
use Rattle.std.specs.declared.io.ErrorKind.TheVariants.{WouldBlock, ConnectionAborted}
use Rattle.host_io.specs.Streams.{Answer}
use Rattle.net_world.specs.declared.slot.Came.{Came}
use Rattle.net_world.specs.declared.slot.Came.TheVariants.{From, NotYet, Failed}
use Rattle.host_io.specs.declared.stream_calls.Ready.{Ready}
use Rattle.mio.specs.declared.net.stream.TcpStream.{TcpStream}
use Rattle.net_octets.specs.declared.Endpoint.{Endpoint}

-- a connection that came, by its peer's endpoint, if that has one
abbrev pub came_of : TcpStream → Option Endpoint → Came
came_of stream (Some peer) = From stream peer
came_of stream None = Failed

-- Of a call that failed so: it would have waited; the connection was given up before it was taken; or the system had no descriptor for it, and it stays there.
abbrev pub none_by : ErrorKind → Came
none_by WouldBlock = NotYet
none_by ConnectionAborted = NotYet
none_by kind = Failed

abbrev pub ready_by : ErrorKind → Ready → Ready
ready_by WouldBlock ready = record ready { read = false }
ready_by ConnectionAborted ready = ready
ready_by kind ready = record ready { read = false }

abbrev pub starved_by : ErrorKind → Bool → Bool
starved_by WouldBlock starved = starved
starved_by ConnectionAborted starved = starved
starved_by kind starved = true

-- A connection that came isn't told as not yet.
abbrev pub IsCameBy : Came → Answer → Type 0
IsCameBy came (Ok count) = came ≡ NotYet → ⊥
IsCameBy came (Err kind) = came ≡ none_by kind

abbrev pub after_accept : Answer → Ready → Ready
after_accept (Ok count) ready = ready
after_accept (Err kind) ready = ready_by kind ready

abbrev pub starves_by : Answer → Bool → Bool
starves_by (Ok count) starved = starved
starves_by (Err kind) starved = starved_by kind starved
