-- What an entry of the trace is to the flows of TCP.
use Rattle.std.specs.Prelude.{ℕ, List, Option, Some, None}
use Rattle.world_face.specs.Journal.{Entry, Wait, Connect, Connected, Accept, TcpRead, TcpWrite, TcpEnd, Close}
use Rattle.world_face.specs.declared.Io.{Io}
use Rattle.world_face.specs.declared.Io.TheVariants.{Done, End, NotYet, Failed}
use Rattle.world_face.specs.declared.Made.{Made}
use Rattle.world_face.specs.declared.Made.TheVariants.{Done as MadeDone, Failed as MadeFailed}
use Rattle.world_face.specs.declared.Joined.{Joined}
use Rattle.world_face.specs.declared.Joined.TheVariants.{Yes, NotYet as NotYetJoined, Failed as JoinFailed}
use Rattle.world_face.specs.declared.Accepted.{Accepted}
use Rattle.world_face.specs.declared.Accepted.TheVariants.{From}
use Rattle.net_octets.specs.declared.Endpoint.{Endpoint}
use Rattle.slirp_settings.specs.Addresses.{Config}
use Rattle.spec_flow.specs.Event.{Event, Connected as HostConnected, ConnectsYet, ConnectFails, Writes, WriteFails, Reads, ReadsEnd, ReadFails, EndsHost, EndFails}
use Rattle.spec_trace.specs.Happenings.{Arrival, happens}
use Rattle.spec_flows.specs.Segments.{OnTuple, segment_came, segment_in, asked_in}

-- what an entry of the trace is to flows
pub data Doing : Type 0 where
  -- nothing to a flow
  Nothing : Doing
  -- a segment came; one went out; a guest's hardware address was asked for
  Comes : OnTuple → Doing
  Goes : OnTuple → Doing
  Resolves : (guest : ℕ) → Doing
  -- the run waited
  Pauses : Doing
  -- a socket connects for the guest whose segment came last; a peer came to the socket of a port
  Joins : (socket : ℕ) → Doing
  Visits : (listener socket : ℕ) (peer : Endpoint) → Doing
  -- a call on a flow's socket, with its answer
  Calls : (socket : ℕ) → Event → Doing
  -- a socket was closed
  Shuts : (socket : ℕ) → Doing

abbrev pub joins : Made → ℕ → Doing
joins MadeDone socket = Joins socket
joins MadeFailed socket = Nothing

abbrev pub visits : Accepted → ℕ → ℕ → Doing
visits (From peer) listener socket = Visits listener socket peer
visits _ listener socket = Nothing

-- the answers of calls on a flow's socket
abbrev pub joined : Joined → Event
joined Yes = HostConnected
joined NotYetJoined = ConnectsYet
joined JoinFailed = ConnectFails

abbrev pub read_by : Io → List ℕ → Event
read_by (Done n) octets = Reads octets
read_by End octets = ReadsEnd
read_by NotYet octets = Reads octets
read_by Failed octets = ReadFails

abbrev pub written_by : Io → List ℕ → Event
written_by (Done n) octets = Writes octets n
written_by Failed octets = WriteFails octets
written_by _ octets = Writes octets 0

abbrev pub ended_by : Made → Event
ended_by MadeDone = EndsHost
ended_by MadeFailed = EndFails

abbrev pub by_call : Entry → Doing
by_call (Wait wants timeout answer ready) = Pauses
by_call (Connect socket to answer) = joins answer socket
by_call (Connected socket answer) = Calls socket (joined answer)
by_call (Accept listener socket answer) = visits answer listener socket
by_call (TcpRead socket asked answer octets) = Calls socket (read_by answer octets)
by_call (TcpWrite socket octets answer) = Calls socket (written_by answer octets)
by_call (TcpEnd socket answer) = Calls socket (ended_by answer)
by_call (Close socket) = Shuts socket
by_call _ = Nothing

abbrev pub comes : Option OnTuple → Doing
comes None = Nothing
comes (Some on) = Comes on

abbrev pub resolves : Option ℕ → Doing
resolves None = Nothing
resolves (Some guest) = Resolves guest

abbrev pub goes : Option OnTuple → Option ℕ → Doing
goes None asked = resolves asked
goes (Some on) asked = Goes on

-- by the frame that came, the frame that went out, or the call
abbrev pub doing_by : Option Arrival → Option (List ℕ) → Entry → Doing
doing_by (Some arrival) went e = comes (segment_came (Some arrival))
doing_by None (Some frame) e = goes (segment_in frame) (asked_in frame)
doing_by None None e = by_call e

abbrev pub doing : Config → List Entry → Entry → Doing
doing config past e = doing_by (happens config past e).came (happens config past e).went e
