-- Where a run with a control stands, by the whole trace of its calls.
use Rattle.std.specs.Prelude.{◌≡◌, ◌≢◌, ℕ, ◌+◌, ◌*◌, ◌<◌, ◌≤◌, ◌&&◌, if◌then◌else◌, true, false, List, [], ◌++◌, length, Option, Some, None}
use Rattle.poll_list.specs.declared.Want.{Want}
use Rattle.world_face.specs.Journal.{Entry, Follows}
use Rattle.slirp_settings.specs.Addresses.{Config, forward_on}
use Rattle.slirp_settings.specs.Ranges.{same_proto}
use Rattle.slirp_settings.specs.Classes.{same_endpoint}
use Rattle.slirp_settings.specs.declared.Forward.{Forward}
use Rattle.slirp_settings.specs.declared.Proto.TheVariants.{Tcp}
use Rattle.net_octets.specs.declared.Endpoint.{Endpoint}
use Rattle.net_octets.specs.declared.Ip4.{Ip4}
use Rattle.rules_forward.specs.Adding.{fault_of}
use Rattle.rules_forward.specs.Opened.{Opened}
use Rattle.rules_forward.specs.declared.FwdFault.{FwdFault}
use Rattle.rules_forward.specs.declared.FwdFault.TheVariants.{Taken}
use Rattle.spec_trace.specs.Shape.{phase}
use Rattle.spec_trace.specs.Sockets.{is_among, next_number, open_sockets}
use Rattle.spec_run.specs.Laws.{Finished, Lawful}
use Rattle.spec_duties.specs.Duties.{Dutiful}
use Rattle.stream_netdev.specs.Keeps.{ReadsOn}
use Rattle.stream_netdev.specs.State.{LinkState, under_way}
use Rattle.slirp_core.specs.Holds.{after, as_given}
use Rattle.slirp_core.specs.State.{SlirpState}
use Rattle.serve_loop.specs.Ends.{end_of}
use Rattle.serve_loop.specs.Served.{ServiceState}
use Rattle.serve_loop.specs.Turns.{AttendsNow, IsCalm}
use Rattle.serve_loop.specs.declared.service.End.{End}
use Rattle.serve_loop.specs.declared.service.Turn.{Turn}
use Rattle.serve_loop.specs.declared.service.Turn.TheVariants.{Again, Ended}
use Rattle.rules_control.specs.Apart.{without_control}
use Rattle.rules_control.specs.Talk.{Talk, has_line, is_out, listener}
use Rattle.rules_control.specs.declared.Command.{Command}
use Rattle.rules_control.specs.declared.Command.TheVariants.{Add}
use Rattle.spec_control.specs.ControlServer.{ControlServer, Nothing, Reads, answers, by_control, control_server, serves, with_changes}
use Rattle.spec_control.specs.Laws.{IsReading, MayControl, reported}

-- the settings with what was added, and taken back
abbrev pub with_lists : Config → (added : List (ℕ × Forward)) → (removed : List ℕ) → Config
with_lists config added removed = record config { added = added; removed = removed }

-- Settings that have all of that, and perhaps more.
pub record HasAll (config : Config) (added : List (ℕ × Forward)) (removed : List ℕ) (settings : Config) : Type 0 where
  pub given : config ≡ as_given settings
  pub forwards : (socket : ℕ) (f : Forward) → forward_on (with_lists config added removed) socket ≡ Some f → forward_on settings socket ≡ Some f
  pub closed : (socket : ℕ) → is_among socket removed ≡ true → is_among socket settings.removed ≡ true

-- What the control server has come to is what the connection and the network have, whatever is added later; no number that is still to be drawn is an added one's, and what was taken back is closed.
pub record Agrees (config : Config) (d : ControlServer) (count : ℕ) (session : Talk) (slirp : SlirpState) (link : LinkState) (seen : List Entry) : Type 0 where
  pub calm : d.awaited ≡ Nothing
  pub talk : d.talk ≡ session
  pub forwards : d.forwards ≡ slirp.forwards
  pub network : (settings : Config) → HasAll config d.added d.removed settings → AttendsNow settings (after count) false slirp link seen
  pub later : (n : ℕ) → slirp.number ≤ n → forward_on (with_lists config d.added d.removed) n ≡ None
  pub gone : (n : ℕ) → is_among n d.removed ≡ true → (n < next_number seen) × (is_among n (open_sockets seen) ≡ false)

-- Between calls, where this is left of what was reported to the control.
pub record Stands (items : List Want) (session : Talk) (slirp : SlirpState) (link : LinkState) (read : Reads) (config : Config) (count : ℕ) (past : List Entry) : Type 0 where
  pub control : Follows (MayControl read config) past
  pub reported : reported past ≡ items
  pub agrees : Agrees config (control_server read config past) count session slirp link (without_control past)

-- Before the first line is answered, where it is whole.
pub record Owes (session : Talk) (slirp : SlirpState) (link : LinkState) (read : Reads) (config : Config) (count : ℕ) (past : List Entry) : Type 0 where
  pub control : Follows (MayControl read config) past
  pub reported : reported past ≡ []
  pub before : ControlServer
  pub is : control_server read config past ≡ serves read (with_changes config before) (without_control past) before
  pub agrees : Agrees config before count session slirp link (without_control past)

-- Before a command is followed that a line asked for; no reply is left.
pub record Asks (command : Command) (session : Talk) (slirp : SlirpState) (link : LinkState) (read : Reads) (config : Config) (count : ℕ) (past : List Entry) : Type 0 where
  pub control : Follows (MayControl read config) past
  pub reported : reported past ≡ []
  pub before : ControlServer
  pub is : control_server read config past ≡ answers (with_changes config before) (without_control past) command before
  pub agrees : Agrees config before count session slirp link (without_control past)

-- Where only the control's own sockets are to be closed.
pub record Closes (end : End) (session : Talk) (read : Reads) (config : Config) (past : List Entry) : Type 0 where
  pub control : Follows (MayControl read config) past
  pub calm : (control_server read config past).awaited ≡ Nothing
  pub talk : (control_server read config past).talk ≡ session
  pub lawful : Lawful (by_control read config past) (without_control past)
  pub dutiful : Dutiful (by_control read config past) (without_control past)
  pub finished : Finished (by_control read config past) (without_control past)
  pub ends : end ≡ end_of config (phase config (without_control past))

-- After a turn: it stands so after one wait more, where it goes on; or only the control's own sockets are to be closed.
abbrev pub AfterTurnBy : Config → Turn → Talk → ServiceState → Talk → ServiceState → (made : List Entry) → Type 0
AfterTurnBy config Again talk old talk_new new made =
    (read : Reads) (count : ℕ) → IsReading config read → count < config.turns → (past : List Entry) → Stands [] talk old.slirp old.link read config count past
    → Stands [] talk_new new.slirp new.link read config (count + 1) (made ++ past)
AfterTurnBy config (Ended end) talk old talk_new new made =
    (read : Reads) (count : ℕ) → IsReading config read → count < config.turns → (past : List Entry) → Stands [] talk old.slirp old.link read config count past
    → Closes end talk_new read config (made ++ past)

-- From one to the other, by these calls, after so many waits, one at least.
abbrev pub Leads : Config → (Before After : Reads → Config → ℕ → List Entry → Type 0) → (made : List Entry) → Type 0
Leads config Before After made = (read : Reads) (count : ℕ) → IsReading config read → 0 < count → (past : List Entry) → Before read config count past → After read config count (made ++ past)

-- The connection: its listener is open, a line has 128 octets at most, and its number is one of the control's.
pub record IsHeld (talk : Talk) : Type 0 where
  pub listens : talk.listening ≡ true
  pub few : length talk.kept ≤ 129
  pub short : has_line talk.kept ≡ false → length talk.kept ≤ 128
  pub alone : talk.peer ≡ None → has_line talk.kept ≡ false
  pub above : (n : ℕ) → talk.peer ≡ Some n → listener < n

-- Between two turns a whole line was answered where no reply is left.
pub record IsReady (talk : Talk) : Type 0 where
  pub held : IsHeld talk
  pub answered : is_out talk ≡ true → has_line talk.kept ≡ false

-- Something was said, and nothing else changed.
pub record Says (old new : Talk) : Type 0 where
  pub listening : new.listening ≡ old.listening
  pub peer : new.peer ≡ old.peer
  pub had : new.had ≡ old.had
  pub kept : new.kept ≡ old.kept
  pub some : is_out new ≡ false

-- The settings have this place for the control, lend this address first, and have at most 4,096 flows; nothing was added to them.
pub record IsSet (config : Config) (at : Endpoint) (guest : Ip4) : Type 0 where
  pub given : config ≡ as_given config
  pub control : config.control ≡ Some at
  pub leased : guest.0 ≡ config.dhcp_start
  pub few : config.flows ≤ 4096

-- What of a network stays as it is between two turns: all but its ports of the host, and the next number, which is one more at most.
pub record KeepsOn (old new : ServiceState) : Type 0 where
  pub slirp : new.slirp ≡ record old.slirp { number = new.slirp.number; forwards = new.slirp.forwards }
  pub link : new.link ≡ old.link
  pub number : new.slirp.number ≤ old.slirp.number + 1

-- What a turn needs: the link can be read, no flow owes a frame, and there are numbers for sockets.
pub record IsFit (service : ServiceState) (count : ℕ) : Type 0 where
  pub on : ReadsOn (under_way service.link)
  pub calm : IsCalm service.slirp service.link
  pub number : service.slirp.number ≤ count * 5156 + 32
  pub turns : service.slirp.flows.turn ≤ count

-- ---- what ports of the host are given and taken back for

-- why one isn't given, but for the host
abbrev pub cause_against : Config → (at : Endpoint) → Forward → List Opened → Option FwdFault
cause_against config at f forwards = if same_proto f.proto Tcp && same_endpoint f.host at then Some Taken else fault_of config f forwards

-- The network attends as before after these calls, by all settings that allow them.
abbrev pub AttendsOn : (Config → Type 0) → (old new : ServiceState) → (made : List Entry) → Type 0
AttendsOn Allow old new made =
    (settings : Config) (count : ℕ) → 0 < count → Allow settings → (past : List Entry) → AttendsNow settings (after count) false old.slirp old.link past
    → AttendsNow settings (after count) false new.slirp new.link (made ++ past)

-- Neither port of an add is 0.
abbrev pub HasPorts : Command → Type 0
HasPorts (Add forward) = (forward.host.port ≢ 0) × (forward.guest.port ≢ 0)
HasPorts _ = Unit {0}
