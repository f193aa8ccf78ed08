-- Datagrams on the sockets of associations: the calls on the World, the newest first, the list after them, and the reply.
use Rattle.std.specs.Prelude.{◌≡◌, ℕ, ◌+◌, ◌≤◌, ◌<◌, Bool, List, [], ◌∷◌, ◌++◌, length, Option, Some, None}
use Rattle.net_octets.specs.declared.Endpoint.{Endpoint}
use Rattle.net_octets.specs.declared.Mac.{Mac}
use Rattle.slirp_settings.specs.Addresses.{endpoint}
use Rattle.rules_udp.specs.declared.Reply.{Reply}
use Rattle.rules_udp.specs.declared.Reply.TheVariants.{Nothing, Datagram, Unreachable}
use Rattle.world_face.specs.Journal.{Entry, UdpOpen, UdpSend, UdpRecv, filled_got}
use Rattle.world_face.specs.declared.Made.TheVariants.{Done as MadeDone, Failed as MadeFailed}
use Rattle.world_face.specs.declared.Sent.{Sent}
use Rattle.world_face.specs.declared.Sent.TheVariants.{Done, NotYet, Failed}
use Rattle.world_face.specs.declared.Got.{Got}
use Rattle.world_face.specs.declared.Got.TheVariants.{From, NotYet as GotNotYet, Failed as GotFailed}
use Rattle.idle_sockets.specs.Closing.{calls_for_room as calls_for_room_of, with_room as with_room_of, ClosesAll, ClosesLeast as ClosesLeastOf}
use Rattle.rules_udp.specs.Associations.{most_associations, numbered, socket_of, moved_last, sent_from, heard_at, is_over}
use Rattle.rules_udp.specs.declared.Association.{Association}

-- a datagram of a guest: its endpoint, the hardware address from which it came, where it goes, and its payload
pub record Outbound : Type 0 where
  pub from : Endpoint
  pub mac : Mac
  pub to : Endpoint
  pub body : List ℕ

-- the association of the socket that was opened for it
abbrev pub opened : Outbound → ℕ → ℕ → Association
opened d number now = record { number = number; guest = d.from; mac = d.mac; used = now }

-- the code of an unreachable: the network can't be reached (RFC 792)
abbrev pub no_network : ℕ
no_network = 0

-- which a guest is told where the World refuses
abbrev pub told : Sent → Reply
told Done = Nothing
told NotYet = Nothing
told Failed = Unreachable no_network

-- a datagram was sent on a socket
abbrev pub SendsOn : ℕ → Outbound → Reply → List Entry → Type 0
SendsOn socket d reply made = (answer : Sent) × (made ≡ UdpSend socket d.to d.body answer ∷ []) × (reply ≡ told answer)

-- where as many are open as may be, the longest unused one is closed
abbrev pub calls_for_room : List Association → List Entry
calls_for_room list = calls_for_room_of (λ (a : Association). a.number) list

abbrev pub with_room : List Association → List Association
with_room list = with_room_of (λ (a : Association). a.number) list

-- a socket is opened at port 0 of this address for a datagram, which is sent on it; or none can be opened
pub data OpensFor (bind : ℕ) (d : Outbound) (now number : ℕ) (old new : List Association) (reply : Reply) (made : List Entry) : Type 0 where
  Opens : (answer : Sent) → made ≡ UdpSend number d.to d.body answer ∷ UdpOpen number (endpoint bind 0) MadeDone ∷ []
      → new ≡ moved_last (sent_from d.mac now) number (old ++ (opened d number now ∷ [])) → reply ≡ told answer → OpensFor bind d now number old new reply made
  OpensNone : made ≡ UdpOpen number (endpoint bind 0) MadeFailed ∷ [] → new ≡ old → reply ≡ Unreachable no_network → OpensFor bind d now number old new reply made

-- a datagram is sent on the socket of its forward, or on that of its port, or on one that is opened for it at this address
pub data Relays (bind : ℕ) (forward : Option ℕ) (d : Outbound) (now number next : ℕ) (old new : List Association) (reply : Reply) (made : List Entry) : Type 0 where
  ByForward : (socket : ℕ) → forward ≡ Some socket → SendsOn socket d reply made → new ≡ old → next ≡ number → Relays bind forward d now number next old new reply made
  BySocket : (socket : ℕ) → forward ≡ None → socket_of d.from old ≡ Some socket → SendsOn socket d reply made
      → new ≡ moved_last (sent_from d.mac now) socket old → next ≡ number → Relays bind forward d now number next old new reply made
  ByNewSocket : (calls : List Entry) → forward ≡ None → socket_of d.from old ≡ None → length (with_room old) < most_associations → OpensFor bind d now number (with_room old) new reply calls
      → made ≡ calls ++ calls_for_room old → next ≡ number + 1 → Relays bind forward d now number next old new reply made

-- what a guest gets of what a socket received
abbrev pub passed : Got → Endpoint → Option Mac → Reply
passed (From peer count) guest mac = Datagram count peer guest mac
passed GotNotYet guest mac = Nothing
passed GotFailed guest mac = Nothing

-- a datagram was asked for on a socket, with so much room, at whose front its octets lie
abbrev pub Receives : ℕ → Endpoint → Option Mac → ℕ → List ℕ → Reply → List Entry → Type 0
Receives socket guest mac room into reply made = (answer : Got) × (made ≡ UdpRecv socket room answer (filled_got answer into) ∷ []) × (reply ≡ passed answer guest mac)

-- the list after a reply: an association is used where a datagram came
abbrev pub with_reply : Reply → ℕ → ℕ → List Association → List Association
with_reply Nothing now socket list = list
with_reply (Datagram count from to mac) now socket list = moved_last (heard_at now) socket list
with_reply (Unreachable code) now socket list = list

-- a datagram is asked for on the socket of a forward, or of an association; on no other
pub data Hears (forward : Option Endpoint) (now socket room : ℕ) (into : List ℕ) (old new : List Association) (reply : Reply) (made : List Entry) : Type 0 where
  OnForward : (guest : Endpoint) → forward ≡ Some guest → Receives socket guest None room into reply made → new ≡ old → Hears forward now socket room into old new reply made
  OnAssociation : (a : Association) → forward ≡ None → numbered socket old ≡ Some a → Receives socket a.guest (Some a.mac) room into reply made
      → new ≡ with_reply reply now socket old → Hears forward now socket room into old new reply made
  OnNone : forward ≡ None → numbered socket old ≡ None → made ≡ [] → new ≡ old → reply ≡ Nothing → Hears forward now socket room into old new reply made

-- the octets of a datagram lie at the front of the room that was given
abbrev pub FitsRoom : Reply → ℕ → Type 0
FitsRoom Nothing room = Unit {0}
FitsRoom (Datagram count from to mac) room = count ≤ room
FitsRoom (Unreachable code) room = Unit {0}

-- of those that pass a test the one with the least number is closed, or there is none
abbrev pub ClosesLeast : (Association → Bool) → Bool → List Association → List Association → List Entry → Type 0
ClosesLeast test result old new made = ClosesLeastOf (λ (a : Association). a.number) test result old new made

-- one after the other, of those whose idle life is over the one with the least number is closed
abbrev pub Ticks : ℕ → List Association → List Association → List Entry → Type 0
Ticks now old new made = ClosesAll (λ (a : Association). a.number) (is_over now) old new made
