-- What a wait may tell of the link, and what its calls answer.
use Rattle.std.specs.Prelude.{◌≡◌, ◌<◌, ◌/◌, ℕ, Bool, true, false, ◌&&◌, ◌||◌, not, length, ◌==◌, nat_le, cond, min, Ok, Err}
use Rattle.std.specs.declared.io.ErrorKind.{ErrorKind}
use Rattle.std.specs.declared.io.ErrorKind.TheVariants.{WouldBlock, ConnectionReset, BrokenPipe}
use Rattle.mio.specs.declared.event.event.Event.{Event}
use Rattle.mio.specs.Event.{is_readable, is_writable, is_error, is_read_closed, is_write_closed}
use Rattle.guest_link.specs.Paces.{Paced}
use Rattle.arrayvec.specs.ArrayString.{ArrayString as Text}
use Rattle.host_io.specs.Buffered.{Buffered}
use Rattle.host_io.specs.Streams.{Answer}
use Rattle.guest_link.specs.Places.{listens, has_guest}
use Rattle.world_face.specs.Limits.{most_to_link}
use Rattle.guest_link.specs.declared.place.Place.{Place}
use Rattle.guest_link.specs.declared.link.Outlet.{Outlet}
use Rattle.guest_link.specs.declared.link.Outlet.TheVariants.{Open, Gone, Broken}
use Rattle.guest_link.specs.declared.link.Fault.{Fault}
use Rattle.guest_link.specs.declared.link.Fault.TheVariants.{WouldWait, PeerGone, Other}
use Rattle.world_face.specs.declared.Io.{Io}
use Rattle.world_face.specs.declared.Io.TheVariants.{Done, End, NotYet, Failed}

-- What contracts see of the link: where it stands, and where the file of its listener; what was read ahead, and what was gathered; whether more may have come,
-- the system may take octets, no more will come, the system is to tell when it takes octets again; what becomes of what is written, and whether short frames wait.
pub record Linked (S : Type 0) : Type 0 where
  pub place : Place S
  pub path : Text
  pub inbox : Buffered
  pub outbox : Buffered
  pub readable : Bool
  pub takes : Bool
  pub ended : Bool
  pub watched : Bool
  pub outlet : Outlet
  pub pace : Paced

-- what is written goes out
abbrev pub is_open : Outlet → Bool
is_open Open = true
is_open Gone = false
is_open Broken = false

-- for reading: more may have come, or octets were read ahead
abbrev pub is_told_readable : {S : Type 0} → Linked S → Bool
is_told_readable link = link.readable || not (length link.inbox.octets == 0)

-- for writing: the link doesn't listen, and what is written finds room for the longest frame while no short one waits, or doesn't go out
abbrev pub is_told_writable : {S : Type 0} → Linked S → Bool
is_told_writable link =
    not (listens link.place) && (not (is_open link.outlet) || (nat_le most_to_link link.outbox.room && not link.pace.holds))

-- how many sockets may be read: as many as what waits to go out has room for, with 18,432 octets each; no bound where what is written doesn't go out
abbrev pub bears : {S : Type 0} → Linked S → ℕ
bears link = cond (is_open link.outlet) (link.outbox.room / 18432) 18446744073709551615

-- What a read that brought nothing answers: once the peer is gone the end.
abbrev pub read_answer : Outlet → Fault → Io
read_answer Open WouldWait = NotYet
read_answer Gone WouldWait = End
read_answer Broken WouldWait = NotYet
read_answer outlet PeerGone = End
read_answer outlet Other = Failed

-- why a call that failed so moved nothing
abbrev pub fault_by : ErrorKind → Fault
fault_by WouldBlock = WouldWait
fault_by ConnectionReset = PeerGone
fault_by BrokenPipe = PeerGone
fault_by kind = Other

-- What a read that found nothing ahead has, by what the stream answered: no octets are the end.
abbrev pub ahead_by : Outlet → Answer → Io
ahead_by outlet (Ok count) = cond (count == 0) End (Done count)
ahead_by outlet (Err kind) = read_answer outlet (fault_by kind)

-- as many as were asked for are handed out
abbrev pub at_most_asked : ℕ → Io → Io
at_most_asked asked (Done count) = Done (min asked count)
at_most_asked asked End = End
at_most_asked asked NotYet = NotYet
at_most_asked asked Failed = Failed

abbrev pub read_by : Outlet → ℕ → Answer → Io
read_by outlet asked answer = at_most_asked asked (ahead_by outlet answer)

-- the end was found, and stays
abbrev pub at_end : {S : Type 0} → Linked S → Linked S
at_end link = record link { ended = true; readable = true }

-- What a read that brought nothing makes of the link, by its answer.
abbrev pub after_read : {S : Type 0} → Io → Linked S → Linked S
after_read (Done count) link = link
after_read End link = at_end link
after_read NotYet link = record link { readable = false }
after_read Failed link = link

-- What a write that took nothing makes of it. Of a peer that is gone a read is to find the end.
abbrev pub after_write : {S : Type 0} → Fault → Linked S → Linked S
after_write WouldWait link = link
after_write PeerGone link = record link { outlet = Gone; readable = true }
after_write Other link = record link { outlet = Broken }

-- What becomes of what is written, by what the stream answered.
abbrev pub outlet_after : Outlet → Fault → Outlet
outlet_after outlet WouldWait = outlet
outlet_after outlet PeerGone = Gone
outlet_after outlet Other = Broken

abbrev pub outlet_by : Outlet → Answer → Outlet
outlet_by outlet (Ok count) = cond (count == 0) Broken outlet
outlet_by outlet (Err kind) = outlet_after outlet (fault_by kind)

-- how many octets a call moved
abbrev pub moved : Answer → ℕ
moved (Ok count) = count
moved (Err kind) = 0

-- an event sets what it says, and takes nothing away
abbrev pub after_event : {S : Type 0} → Event → Linked S → Linked S
after_event event link = record link {
  ended = link.ended || is_error event || is_read_closed event;
  readable = link.readable || link.ended || is_error event || is_read_closed event || is_readable event;
  takes = link.takes || is_error event || is_writable event || is_write_closed event;
}

-- A call would have waited, or brought less than there was room for.
abbrev pub MayRest : ℕ → Answer → Type 0
MayRest room (Ok count) = count < room
MayRest room (Err kind) = fault_by kind ≡ WouldWait

-- Where the guest takes no octets some wait, and while they are to go out the system is to tell when it takes more.
abbrev pub IsWaitWatched : {S : Type 0} → Linked S → Type 0
IsWaitWatched link = has_guest link.place ≡ true → link.takes ≡ false
    → (0 < length link.outbox.octets) × (is_open link.outlet ≡ true → link.watched ≡ true)
