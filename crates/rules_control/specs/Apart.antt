-- A trace without the control's entries: what the network sees of it. The laws of the network speak of that.
use Rattle.std.specs.Prelude.{ℕ, ◌&&◌, not, nat_le, nat_lt, Bool, false, List, [], ◌∷◌, length, filter, if◌then◌else◌}
use Rattle.std.specs.List.{filter_map, list_any}
use Rattle.poll_list.specs.Listing.{reads, writes}
use Rattle.poll_list.specs.Picks.{part_in}
use Rattle.poll_list.specs.declared.Want.{Want}
use Rattle.poll_list.specs.declared.Who.{Who}
use Rattle.poll_list.specs.declared.Who.TheVariants.{Link, Listener, Tcp, Udp}
use Rattle.world_face.specs.Limits.{most_wants}
use Rattle.world_face.specs.Journal.{Entry, Wait, Connect, Connected, Listen, Accept, TcpRead, TcpWrite, TcpEnd, Close, UdpOpen, UdpSend, UdpRecv}
use Rattle.rules_control.specs.Talk.{listener}

-- the numbers of the control's sockets
abbrev pub is_controls : ℕ → Bool
is_controls socket = nat_le listener socket

abbrev pub is_of_control : Who → Bool
is_of_control Link = false
is_of_control (Listener socket) = is_controls socket
is_of_control (Tcp socket) = is_controls socket
is_of_control (Udp socket) = is_controls socket

-- items of the network, and of the control
abbrev pub others : List Want → List Want
others items = filter (λ item. not (is_of_control item.of)) items

abbrev pub controls : List Want → List Want
controls items = filter (λ item. is_of_control item.of) items

-- The control's item can be put among these wants: there is room for one more, and none of these is the control's. So where no socket stands twice among them none does with the item,
-- either.
abbrev pub takes_item : List Want → Bool
takes_item wants = nat_lt (length wants) most_wants && not (list_any (λ want. is_of_control want.of) wants)

-- what was reported of some wants: the part of each in the directions in which it was reported, where there is one
abbrev pub reported_of : (wants ready : List Want) → List Want
reported_of wants ready = filter_map (λ want. part_in (reads want.of ready) (writes want.of ready) want) wants

-- the socket on which a call is
abbrev pub is_on_control : Entry → Bool
is_on_control (Connect socket to answer) = is_controls socket
is_on_control (Connected socket answer) = is_controls socket
is_on_control (Listen socket at answer) = is_controls socket
is_on_control (Accept from socket answer) = is_controls from
is_on_control (TcpRead socket asked answer octets) = is_controls socket
is_on_control (TcpWrite socket octets answer) = is_controls socket
is_on_control (TcpEnd socket answer) = is_controls socket
is_on_control (Close socket) = is_controls socket
is_on_control (UdpOpen socket at answer) = is_controls socket
is_on_control (UdpSend socket to octets answer) = is_controls socket
is_on_control (UdpRecv socket asked answer octets) = is_controls socket
is_on_control _ = false

-- a wait is seen without the control's items
abbrev pub seen : Entry → Entry
seen (Wait wants timeout answer ready) = Wait (others wants) timeout answer (others ready)
seen e = e

-- what the network sees of a trace: all but the calls on the control's sockets, and each wait without their items
abbrev pub without_control : List Entry → List Entry
without_control [] = []
without_control (e ∷ past) = if is_on_control e then without_control past else seen e ∷ without_control past
