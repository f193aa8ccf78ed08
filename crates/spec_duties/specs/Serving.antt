-- Which reports of the last wait are still to be served: each direction that was wanted and reported, until a call serves it, or it isn't waited for any more.
use Rattle.std.specs.Prelude.{◌≡◌, ℕ, ◌==◌, ◌&&◌, not, Bool, false, List, [], ◌∷◌, ◌++◌}
use Rattle.poll_list.specs.Listing.{reads, writes}
use Rattle.poll_list.specs.declared.Who.{Who}
use Rattle.poll_list.specs.declared.Who.TheVariants.{Link, Listener, Tcp, Udp}
use Rattle.world_face.specs.Journal.{Entry, Wait, LinkRead, Connected, Accept, TcpRead, TcpWrite, TcpEnd, UdpRecv}
use Rattle.world_face.specs.Frames.{partial}
use Rattle.slirp_settings.specs.Addresses.{Config}
use Rattle.spec_run.specs.Agenda.{reads_on}
use Rattle.spec_duties.specs.Waiting.{is_read, is_written}

-- A report for reading is served where a frame was read to its end or nothing came of it, a peer was asked for, octets, or a datagram.
abbrev pub serves_reading : Who → Entry → (so_far : List ℕ) → Bool
serves_reading Link (LinkRead asked answer octets) so_far = not (reads_on answer (so_far ++ octets))
serves_reading (Listener n) (Accept listener socket answer) so_far = n == listener
serves_reading (Tcp n) (TcpRead socket asked answer octets) so_far = n == socket
serves_reading (Udp n) (UdpRecv socket asked answer octets) so_far = n == socket
serves_reading _ _ so_far = false

-- One for writing is served where a host was asked whether it has connected, got octets, or was told the end.
abbrev pub serves_writing : Who → Entry → Bool
serves_writing (Tcp n) (Connected socket answer) = n == socket
serves_writing (Tcp n) (TcpWrite socket octets answer) = n == socket
serves_writing (Tcp n) (TcpEnd socket answer) = n == socket
serves_writing _ _ = false

abbrev pub read_after : Who → Entry → (so_far : List ℕ) → Bool → Bool
read_after who (Wait wants timeout answer ready) so_far left = reads who wants && reads who ready
read_after who e so_far left = left && not (serves_reading who e so_far)

abbrev pub write_after : Who → Entry → Bool → Bool
write_after who (Wait wants timeout answer ready) left = writes who wants && writes who ready
write_after who e left = left && not (serves_writing who e)

-- the last wait wanted and reported this, no call has served it, and it was waited for at each moment since
abbrev pub is_left_to_read : Config → List Entry → Who → Bool
is_left_to_read config [] who = false
is_left_to_read config (e ∷ past) who = read_after who e (partial past) (is_left_to_read config past who) && is_read config (e ∷ past) who

-- the same of a report for writing
abbrev pub is_left_to_write : Config → List Entry → Who → Bool
is_left_to_write config [] who = false
is_left_to_write config (e ∷ past) who = write_after who e (is_left_to_write config past who) && is_written config (e ∷ past) who

-- nothing is left of its report
pub record IsServed (config : Config) (past : List Entry) (who : Who) : Type 0 where
  pub reading : is_left_to_read config past who ≡ false
  pub writing : is_left_to_write config past who ≡ false

-- each report of the last wait is served
abbrev pub AllServed : Config → List Entry → Type 0
AllServed config past = (who : Who) → IsServed config past who
