-- The entries that a flow makes, and the events of its story that they are.
use Rattle.std.specs.Prelude.{◌≡◌, ℕ, ◌+◌, ◌%◌, ◌^◌, List, [], ◌∷◌, ◌++◌, Bool, true, false, Option, None, Some, nat_lt, if◌then◌else◌, ◌⊎◌}
use Rattle.net_octets.specs.declared.Mac.{Mac}
use Rattle.world_face.specs.Frames.{encoding}
use Rattle.world_face.specs.Journal.{Entry, LinkWrite, Connected, TcpRead, TcpWrite, TcpEnd, Close, count_of}
use Rattle.world_face.specs.declared.Io.{Io}
use Rattle.world_face.specs.declared.Io.TheVariants.{Done, End, NotYet, Failed}
use Rattle.world_face.specs.declared.Joined.{Joined}
use Rattle.world_face.specs.declared.Joined.TheVariants.{Yes, NotYet as NotJoined, Failed as JoinFailed}
use Rattle.world_face.specs.declared.Made.{Made}
use Rattle.world_face.specs.declared.Made.TheVariants.{Done as MadeDone, Failed as MadeFailed}
use Rattle.spec_flow.specs.Settings.{Settings}
use Rattle.spec_flow.specs.Event.{Segment, Event, Departs, Connected as HostConnected, ConnectsYet, ConnectFails, Writes, WriteFails, Reads, ReadsEnd, ReadFails, EndsHost, EndFails}
use Rattle.spec_flow.specs.Event.{AsksAddress, Closes, At, Story}
use Rattle.spec_flow.specs.Flow.{is_accepted, is_closed, syn_is_out}
use Rattle.spec_flow.specs.Lawful.{HasOwnCause, May, Send}
use Rattle.spec_flow.specs.Dutiful.{Must, read_size}
use Rattle.flow_splice.specs.Frames.{IsSized, request_frame, segment_frame}
use Rattle.flow_splice.specs.Splice.{Face}

-- ---- what an answer is

abbrev pub joined : Joined → Event
joined Yes = HostConnected
joined NotJoined = ConnectsYet
joined JoinFailed = ConnectFails

abbrev pub was_read : Io → List ℕ → Event
was_read (Done n) octets = Reads octets
was_read End octets = ReadsEnd
was_read NotYet octets = Reads octets
was_read Failed octets = ReadFails

abbrev pub was_written : List ℕ → Io → Event
was_written octets (Done n) = Writes octets n
was_written octets End = Writes octets 0
was_written octets NotYet = Writes octets 0
was_written octets Failed = WriteFails octets

abbrev pub was_ended : Made → Event
was_ended MadeDone = EndsHost
was_ended MadeFailed = EndFails

-- what the link took something of went out
abbrev pub went : Io → ℕ → Event → Story → Story
went answer now event beats = if nat_lt 0 (count_of answer) then At now event ∷ beats else beats

-- how many datagrams went out
abbrev pub datagrams : Story → ℕ
datagrams [] = 0
datagrams (At m (Departs seg) ∷ beats) = datagrams beats + 1
datagrams (_ ∷ beats) = datagrams beats

-- the identification after so many datagrams
abbrev pub ident_after : ℕ → Story → ℕ
ident_after ident beats = (ident + datagrams beats) % 2 ^ 16

-- ---- what is offered to the link, after such a story

-- a segment, which may be sent, and as it must be, with fields of their sizes
pub record OffersSegment (s : Settings) (face : Face) (mac : Option Mac) (ident now : ℕ) (past : Story) (octets : List ℕ) (seg : Segment) : Type 0 where
  pub to : Mac
  pub known : mac ≡ Some to
  pub frame : octets ≡ encoding (segment_frame face to ident seg)
  pub may : May s past now (Send seg)
  pub must : Must s past now (Send seg)
  pub sized : IsSized face to ident seg

-- a request for the hardware address of a guest that is called and isn't known
pub record OffersRequest (face : Face) (mac : Option Mac) (past : Story) (octets : List ℕ) : Type 0 where
  pub unknown : mac ≡ None
  pub frame : octets ≡ encoding (request_frame face)
  pub accepted : is_accepted past ≡ true
  pub unsent : syn_is_out past ≡ false
  pub open_yet : is_closed past ≡ false

-- ---- entries and events

-- The entry makes of the events so far these, in a flow with this face and hardware address, after a story. `directly`: a close comes directly
-- after a segment of the flow arrived; `ended`: the run is over, and of the open sockets this is the first; `known`: the guest's hardware address is.
-- A close has a cause of its own, whether the run is over or not.
abbrev pub Adds : Settings → Face → Option Mac → (directly ended known : Bool) → (ident now : ℕ) → Story → Entry → (rest beats : Story) → Type 0
Adds s face mac directly ended known ident now past (LinkWrite octets answer) rest beats =
    ((seg : Segment) × OffersSegment s face mac (ident_after ident rest) now (rest ++ past) octets seg × (beats ≡ went answer now (Departs seg) rest))
    ⊎ (OffersRequest face mac (rest ++ past) octets × (beats ≡ went answer now AsksAddress rest))
Adds s face mac directly ended known ident now past (Connected socket answer) rest beats = (socket ≡ face.number) × (beats ≡ At now (joined answer) ∷ rest)
Adds s face mac directly ended known ident now past (TcpRead socket asked answer octets) rest beats =
    (socket ≡ face.number) × (asked ≡ read_size s (rest ++ past)) × (beats ≡ At now (was_read answer octets) ∷ rest)
Adds s face mac directly ended known ident now past (TcpWrite socket octets answer) rest beats = (socket ≡ face.number) × (beats ≡ At now (was_written octets answer) ∷ rest)
Adds s face mac directly ended known ident now past (TcpEnd socket answer) rest beats = (socket ≡ face.number) × (beats ≡ At now (was_ended answer) ∷ rest)
Adds s face mac directly ended known ident now past (Close socket) rest beats =
    (socket ≡ face.number) × (beats ≡ At now (Closes directly ended known) ∷ rest) × HasOwnCause directly false known now (rest ++ past)
Adds s face mac directly ended known ident now past _ rest beats = ⊥

-- The entries that were made are these events of the flow, both newest first: each entry is one, but a write of which the link took nothing.
abbrev pub AreEvents : Settings → Face → Option Mac → (directly ended known : Bool) → (ident now : ℕ) → Story → List Entry → Story → Type 0
AreEvents s face mac directly ended known ident now past [] beats = beats ≡ []
AreEvents s face mac directly ended known ident now past (e ∷ made) beats =
    (rest : Story) × AreEvents s face mac directly ended known ident now past made rest × Adds s face mac directly ended known ident now past e rest beats
