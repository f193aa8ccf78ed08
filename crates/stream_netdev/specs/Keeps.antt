-- What a link keeps of the calls made on the World.
use Rattle.std.specs.Prelude.{◌≡◌, ℕ, ◌+◌, ◌<◌, ◌≤◌, List, [], ◌∷◌, ◌++◌, length, Option, Some, None, Bool, true, false}
use Rattle.world_face.specs.Journal.{Entry, Follows, LinkRead, LinkWrite}
use Rattle.world_face.specs.declared.Io.{Io}
use Rattle.world_face.specs.declared.Io.TheVariants.{End as IoEnd, NotYet as IoNotYet, Failed as IoFailed}
use Rattle.world_face.specs.Limits.{most_from_link}
use Rattle.world_face.specs.Frames.{Ending, LinkEnded, LinkCut, LongFrame, LinkFailed, missing, encoded_length, partial, is_whole, is_too_long, tail, is_blocked, arrived, MayFrame}
use Rattle.stream_netdev.specs.Frames.{ended, IsDone, Reads}
use Rattle.stream_netdev.specs.State.{LinkState, under_way, frame_of}
use Rattle.stream_netdev.specs.declared.Look.{Look}
use Rattle.stream_netdev.specs.declared.Look.TheVariants.{More, Whole, TooLong as LookTooLong}
use Rattle.stream_netdev.specs.declared.Arrived.{Arrived}
use Rattle.stream_netdev.specs.declared.Arrived.TheVariants.{Frame, NotYet, End, Cut, TooLong, Failed}
use Rattle.stream_netdev.specs.declared.Offered.{Offered}
use Rattle.stream_netdev.specs.declared.Offered.TheVariants.{Taken, Blocked, Failed as OfferFailed}
use Rattle.stream_netdev.specs.Offers.{offered}

-- something is missing, and it fits the room for the greatest frame
pub record ReadsOn (octets : List ℕ) : Type 0 where
  pub some : 0 < missing octets
  pub fits : length octets + missing octets ≤ 4 + most_from_link

-- framing so far is lawful, and the link has what it left
pub record Keeps (link : LinkState) (past : List Entry) : Type 0 where
  pub framed : Follows MayFrame past
  pub partly : partial past ≡ under_way link
  pub rest : tail past ≡ link.tail
  pub blocked : is_blocked past ≡ link.blocked

-- the frame that an answer hands over, and the ending that it tells
abbrev pub hands : Arrived → LinkState → Option (List ℕ)
hands Frame link = Some (frame_of link)
hands NotYet link = None
hands End link = None
hands (Cut n) link = None
hands (TooLong n) link = None
hands Failed link = None

abbrev pub ending_of : Arrived → Option Ending
ending_of Frame = None
ending_of NotYet = None
ending_of End = Some LinkEnded
ending_of (Cut n) = Some (LinkCut n)
ending_of (TooLong n) = Some (LongFrame n)
ending_of Failed = Some LinkFailed

-- an end of the link after these octets of a length or frame
abbrev pub ended_after : List ℕ → Arrived
ended_after [] = End
ended_after (x ∷ octets) = Cut (length (x ∷ octets))

-- the World's last answer in one call, by what the call answers
abbrev pub Tells : Arrived → Io → Type 0
Tells Frame answer = IsDone answer
Tells NotYet answer = answer ≡ IoNotYet
Tells End answer = answer ≡ IoEnd
Tells (Cut n) answer = answer ≡ IoEnd
Tells (TooLong n) answer = IsDone answer
Tells Failed answer = answer ≡ IoFailed

-- the newest of these entries is a read with such an answer
abbrev pub EndsBy : Arrived → List Entry → Type 0
EndsBy arrived [] = ⊥
EndsBy arrived (LinkRead asked answer octets ∷ made) = Tells arrived answer
EndsBy arrived (_ ∷ made) = ⊥

-- what the reads of one call were
pub record ReadsFrame (answer : Arrived) (link : LinkState) (made past : List Entry) : Type 0 where
  pub reads : Reads made past
  pub frame : arrived (made ++ past) ≡ hands answer link
  pub last : ended (made ++ past) ≡ ending_of answer

-- what the octets so far come to
abbrev pub Looks : Look → List ℕ → Type 0
Looks More octets = ReadsOn octets × (is_too_long octets ≡ false)
Looks Whole octets = (is_whole octets ≡ true) × (is_too_long octets ≡ false)
Looks (LookTooLong n) octets = (is_whole octets ≡ false) × (is_too_long octets ≡ true) × (n ≡ encoded_length octets)

-- the link can go on
abbrev pub GoesOn : Arrived → LinkState → Type 0
GoesOn Frame link = ReadsOn (under_way link)
GoesOn NotYet link = ReadsOn (under_way link)
GoesOn End link = ReadsOn (under_way link)
GoesOn (Cut n) link = ReadsOn (under_way link)
GoesOn (TooLong n) link = Unit {0}
GoesOn Failed link = ReadsOn (under_way link)

-- one write of these octets
abbrev pub Writes : Offered → List ℕ → List Entry → Type 0
Writes result octets made = (answer : Io) × (made ≡ LinkWrite octets answer ∷ []) × (result ≡ offered answer)

-- where the link isn't blocked, all was taken
abbrev pub Settles : Offered → LinkState → Type 0
Settles Taken link = link.blocked ≡ false → link.tail ≡ []
Settles Blocked link = link.blocked ≡ true
Settles OfferFailed link = Unit {0}
