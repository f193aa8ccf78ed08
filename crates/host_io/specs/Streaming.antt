-- What a call on a connection of the host tells, and what it is known to be ready for then.
use Rattle.std.specs.Prelude.{ℕ, Bool, true, false, ◌||◌, ◌==◌, cond, Ok, Err}
use Rattle.std.specs.declared.io.ErrorKind.{ErrorKind}
use Rattle.std.specs.declared.io.ErrorKind.TheVariants.{WouldBlock}
use Rattle.mio.specs.declared.event.event.Event.{Event}
use Rattle.mio.specs.Event.{is_readable, is_writable, is_error, is_read_closed, is_write_closed, is_priority}
use Rattle.host_io.specs.Streams.{Answer}
use Rattle.host_io.specs.declared.stream_calls.Ready.{Ready}
use Rattle.world_face.specs.declared.Io.{Io}
use Rattle.world_face.specs.declared.Io.TheVariants.{Done, End, NotYet, Failed}

-- the call would have waited
abbrev pub would_wait : ErrorKind → Bool
would_wait WouldBlock = true
would_wait kind = false

-- what a read tells, and a write, by what the stream answered
abbrev pub read_tells : Answer → Io
read_tells (Ok count) = cond (count == 0) End (Done count)
read_tells (Err kind) = cond (would_wait kind) NotYet Failed

abbrev pub write_tells : Answer → Io
write_tells (Ok count) = cond (count == 0) Failed (Done count)
write_tells (Err kind) = cond (would_wait kind) NotYet Failed

-- A read that would have waited finds it not ready, and so does one that brought less than it asked for, unless it is read until none come.
abbrev pub after_read : ℕ → Answer → Ready → Ready
after_read asked (Ok count) ready = cond (count == 0) ready (record ready { read = ready.until_none || count == asked })
after_read asked (Err kind) ready = cond (would_wait kind) (record ready { read = false; until_none = false }) ready

-- So does a write that would have waited, or of which less was taken than it offered.
abbrev pub after_write : ℕ → Answer → Ready → Ready
after_write offered (Ok count) ready = cond (count == 0) ready (record ready { write = count == offered })
after_write offered (Err kind) ready = cond (would_wait kind) (record ready { write = false }) ready

-- an event sets what it says, and takes nothing away
abbrev pub ends_or_urges : Event → Bool
ends_or_urges event = is_error event || is_read_closed event || is_priority event

abbrev pub after_event : Event → Ready → Ready
after_event event ready = record {
  read = ready.read || ready.until_none || ends_or_urges event || is_readable event;
  write = ready.write || is_error event || is_writable event || is_write_closed event;
  until_none = ready.until_none || ends_or_urges event;
}
