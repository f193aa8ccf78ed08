-- The sockets of a World: which slot a number finds, and which of them are listed as ready for reading.
use Rattle.std.specs.Prelude.{◌≡◌, ◌⊎◌, ℕ, ◌+◌, ◌<◌, Bool, true, false, cond, zero, suc, ◌||◌, List, [], ◌∷◌, length, Option, Some, None, Ok, slice_index_or}
use Rattle.std.specs.List.{Contains}
use Rattle.std.specs.Io.KnownBytes.{Appends, Consumes, IsAtEnd, Keeps}
use Rattle.std.specs.Ordering.{nat_cmp, then_cmp, on}
use Rattle.std.specs.declared.cmp.Ordering.{Ordering}
use Rattle.std.specs.declared.cmp.Ordering.TheVariants.{Less}
use Rattle.poll_list.specs.declared.Who.{Who}
use Rattle.poll_list.specs.declared.Who.TheVariants.{Link, Listener, Udp, Tcp}
use Rattle.net_world.specs.declared.slot.Slot.{Slot}
use Rattle.net_world.specs.declared.sockets.Place.{Place}
use Rattle.net_world.specs.declared.ready_list.Listed.{Listed}
use Rattle.net_world.specs.declared.sockets.Known.{Known}
use Rattle.poll_list.specs.declared.Want.{Want}
use Rattle.world_face.specs.declared.Io.{Io}
use Rattle.world_face.specs.declared.Io.TheVariants.{NotYet}
use Rattle.world_face.specs.declared.Got.{Got}
use Rattle.world_face.specs.declared.Accepted.{Accepted}
use Rattle.world_face.specs.declared.Accepted.TheVariants.{From, NotYet as NoneToAccept, Failed as AcceptFailed}
use Rattle.world_face.specs.declared.Joined.{Joined}
use Rattle.world_face.specs.declared.Joined.TheVariants.{NotYet as NotJoined}
use Rattle.host_io.specs.declared.stream_calls.Ready.{Ready}
use Rattle.world_face.specs.declared.Got.TheVariants.{NotYet as NoneCame}
use Rattle.host_io.specs.Streams.{Answer, Calls}
use Rattle.net_world.specs.Slots.{of_stream}
use Rattle.host_io.specs.Streaming.{read_tells, write_tells, after_read, after_write}

-- where something stands in the order of wants: its kind, then its number
abbrev pub rank_of : Who → ℕ × ℕ
rank_of Link = (0, 0)
rank_of (Listener number) = (1, number)
rank_of (Udp number) = (2, number)
rank_of (Tcp number) = (3, number)

-- the number of a socket, of whatever kind
abbrev pub number_of : Who → ℕ
number_of of = (rank_of of).1

abbrev pub by_rank : ℕ × ℕ → ℕ × ℕ → Ordering
by_rank = then_cmp (on (λ r. r.0) nat_cmp) (on (λ r. r.1) nat_cmp)

-- each key is below those behind it
abbrev pub AreAbove : {K X : Type 0} → (K → K → Ordering) → (X → K) → K → List X → Type 0
AreAbove cmp key low [] = Unit {0}
AreAbove cmp key low (x ∷ xs) = (cmp low (key x) ≡ Less) × AreAbove cmp key low xs

abbrev pub Rise : {K X : Type 0} → (K → K → Ordering) → (X → K) → List X → Type 0
Rise cmp key [] = Unit {0}
Rise cmp key (x ∷ xs) = AreAbove cmp key (key x) xs × Rise cmp key xs

-- the sockets that are listed stand in the order of wants, each once, and the places of numbers by rising number
abbrev pub InOrder : List Listed → Type 0
InOrder readable = Rise by_rank (λ l. rank_of l.of) readable

abbrev pub ByNumber : List Place → Type 0
ByNumber places = Rise nat_cmp (λ p. p.number) places

abbrev pub listed_at : Who → ℕ → Listed
listed_at of key = record { of = of; key = key }

abbrev pub place_at : ℕ → ℕ → Place
place_at number key = record { number = number; key = key }

-- the slot at a key
abbrev pub slot_at : {S : Type 0} → List (Option (Slot S)) → ℕ → Option (Slot S)
slot_at slots key = slice_index_or slots key None

abbrev pub reads : {S : Type 0} → Option (Slot S) → Bool
reads None = false
reads (Some slot) = slot.ready.read

-- the slot is of this
abbrev pub IsOf : {S : Type 0} → Who → Option (Slot S) → Type 0
IsOf {S} of slot = (known : Slot S) → slot ≡ Some known → known.of ≡ of

abbrev pub one : Bool → ℕ
one true = 1
one false = 0

-- how many of the first keys pass a test
abbrev pub count_below : (ℕ → Bool) → ℕ → ℕ
count_below test zero = 0
count_below test (suc n) = one (test n) + count_below test n

-- The list has each socket that may be read, and no other.
pub record AreListed {S : Type 0} (slots : List (Option (Slot S))) (keys : ℕ) (readable : List Listed) : Type 0 where
  pub rise : InOrder readable
  pub marked : (key : ℕ) (slot : Slot S) → slot_at slots key ≡ Some slot → slot.ready.read ≡ true → Contains readable (listed_at slot.of key)
  pub stand : (listed : Listed) → Contains readable listed → (slot : Slot S) × (slot_at slots listed.key ≡ Some slot) × (slot.of ≡ listed.of) × (slot.ready.read ≡ true)
  pub below : (key : ℕ) (slot : Slot S) → slot_at slots key ≡ Some slot → key < keys
  pub counted : length readable ≡ count_below (λ key. reads (slot_at slots key)) keys

-- The places tell the key of each socket by its number, and no other.
pub record ArePlaced {S : Type 0} (slots : List (Option (Slot S))) (places : List Place) : Type 0 where
  pub rise : ByNumber places
  pub placed : (key : ℕ) (slot : Slot S) → slot_at slots key ≡ Some slot → Contains places (place_at (rank_of slot.of).1 key)
  pub stand : (place : Place) → Contains places place → (slot : Slot S) × (slot_at slots place.key ≡ Some slot) × ((rank_of slot.of).1 ≡ place.number)

-- It is known where a listener waits for a descriptor.
abbrev pub IsKnownStarved : {S : Type 0} → List (Option (Slot S)) → Bool → Type 0
IsKnownStarved {S} slots starved = (key : ℕ) (slot : Slot S) → slot_at slots key ≡ Some slot → slot.starved ≡ true → starved ≡ true

-- A socket was put into the list or taken out of it, or stays as it was: before it was there or not, and is there now or not.
pub record Lists (old new : List Listed) (listed : Listed) (was is : Bool) : Type 0 where
  pub rise : InOrder new
  pub has : is ≡ true → Contains new listed
  pub keeps : (other : Listed) → Contains old other → (other ≡ listed) ⊎ Contains new other
  pub only : (other : Listed) → Contains new other → (Contains old other × (other.of ≡ listed.of → ⊥)) ⊎ ((other ≡ listed) × (is ≡ true))
  pub count : length new + one was ≡ length old + one is

-- what contracts see of the sockets: the slot at each key, the keys of the numbers, those that are listed, whether a listener waits for a descriptor, and what
-- was told last
pub record Table (S : Type 0) : Type 0 where
  pub slots : List (Option (Slot S))
  pub places : List Place
  pub readable : List Listed
  pub starved : Bool
  pub last : Who

-- the key of the socket with this number, where one has it
abbrev pub Finds : {S : Type 0} → List (Option (Slot S)) → ℕ → Option ℕ → Type 0
Finds {S} slots number None = (key : ℕ) (slot : Slot S) → slot_at slots key ≡ Some slot → number_of slot.of ≡ number → ⊥
Finds {S} slots number (Some key) = (slot : Slot S) × (slot_at slots key ≡ Some slot) × (number_of slot.of ≡ number)
    × ((other : ℕ) (its : Slot S) → slot_at slots other ≡ Some its → number_of its.of ≡ number → other ≡ key)

-- Every slot but this stays.
abbrev pub OthersStay : {S : Type 0} → List (Option (Slot S)) → List (Option (Slot S)) → ℕ → Type 0
OthersStay old new key = (other : ℕ) → (other ≡ key → ⊥) → slot_at new other ≡ slot_at old other

-- One slot became this; nothing else changes, but which are listed.
pub record Becomes {S : Type 0} (old new : Table S) (key : ℕ) (slot : Option (Slot S)) : Type 0 where
  pub here : slot_at new.slots key ≡ slot
  pub others : OthersStay old.slots new.slots key
  pub places : new.places ≡ old.places
  pub starved : new.starved ≡ old.starved
  pub last : new.last ≡ old.last

-- ready for nothing
abbrev pub ready_for_none : Ready
ready_for_none = record { read = false; write = false; until_none = false }

-- in which directions a socket is ready
abbrev pub known_of : {S : Type 0} → Slot S → Known
known_of slot = record { read = slot.ready.read; write = slot.ready.write }

abbrev pub nothing_known : Known
nothing_known = record { read = false; write = false }

-- what of a list was told last for reading, but for the link, or what was before
abbrev pub told_or : Who → Bool → Who → Who
told_or last read Link = last
told_or last read of = cond read of last

abbrev pub last_read : Who → List Want → Who
last_read last [] = last
last_read last (want ∷ wants) = last_read (told_or last want.read want.of) wants

-- a listener that waited for a descriptor is ready again
abbrev pub fed : {S : Type 0} → Slot S → Slot S
fed slot = record slot { ready = record slot.ready { read = slot.ready.read || slot.starved }; starved = false }

-- A read of a connection: what is told as read is what the stream gave, and one call says what is told, the end where it gives none and only there, and what the
-- socket is ready for.
pub record IsRead {S : Type 0} (remaining contents : S → Option (List ℕ)) (answers : S → Option (List Answer)) (old new : Slot S) (asked : ℕ) (result : Io) (handed : List ℕ) : Type 0 where
  pub came : Consumes (of_stream remaining old.socket) (of_stream remaining new.socket) handed
  pub written : Keeps (of_stream contents old.socket) (of_stream contents new.socket)
  pub tells : Calls (of_stream answers old.socket) (of_stream answers new.socket) (λ answer. (result ≡ read_tells answer) × (answer ≡ Ok 0 → IsAtEnd (of_stream remaining new.socket))
      × (new.ready ≡ after_read asked answer old.ready))
  pub rests : result ≡ NotYet → new.ready.read ≡ false
  -- Where octets came or nothing did, what is known for writing stays.
  pub stays : new.ready.write ≡ old.ready.write
  pub of : new.of ≡ old.of
  pub starved : new.starved ≡ old.starved

-- A write to one: what is told as taken is what the stream took.
pub record IsWritten {S : Type 0} (remaining contents : S → Option (List ℕ)) (answers : S → Option (List Answer)) (old new : Slot S) (offered : ℕ) (result : Io) (taken : List ℕ) : Type 0 where
  pub went : Appends (of_stream contents old.socket) (of_stream contents new.socket) taken
  pub unread : Keeps (of_stream remaining old.socket) (of_stream remaining new.socket)
  pub tells : Calls (of_stream answers old.socket) (of_stream answers new.socket) (λ answer. (result ≡ write_tells answer) × (new.ready ≡ after_write offered answer old.ready))
  pub rests : result ≡ NotYet → new.ready.write ≡ false
  pub stays : new.ready.read ≡ old.ready.read
  pub of : new.of ≡ old.of
  pub starved : new.starved ≡ old.starved

-- Of a datagram that came, or of none.
pub record IsReceived {S : Type 0} (old new : Slot S) (result : Got) : Type 0 where
  pub rests : result ≡ NoneCame → new.ready.read ≡ false
  pub kept : new.ready.read ≡ false → old.ready.read ≡ true → result ≡ NoneCame
  pub socket : new.socket ≡ old.socket
  pub stays : new.ready.write ≡ old.ready.write
  pub of : new.of ≡ old.of
  pub starved : new.starved ≡ old.starved

-- The table took what a listener had, or kept it: it may not be ready for a while.
pub record IsTaken {S : Type 0} (old new : Table S) (key : ℕ) (was is : Slot S) : Type 0 where
  pub here : slot_at new.slots key ≡ Some is
  pub others : OthersStay old.slots new.slots key
  pub places : new.places ≡ old.places
  pub last : new.last ≡ old.last
  pub starved : new.starved ≡ (old.starved || is.starved)
  pub of : is.of ≡ was.of
  pub socket : is.socket ≡ was.socket
  pub stays : is.ready.write ≡ was.ready.write

-- It was asked whether a connection stands.
pub record IsAsked {S : Type 0} (old new : Slot S) (result : Joined) : Type 0 where
  pub rests : result ≡ NotJoined → new.ready.write ≡ false
  pub kept : new.ready.write ≡ false → old.ready.write ≡ true → result ≡ NotJoined
  pub stays : new.ready.read ≡ old.ready.read
  pub socket : new.socket ≡ old.socket
  pub of : new.of ≡ old.of
  pub starved : new.starved ≡ old.starved

-- A socket stands under a number that none had, and is ready for nothing yet.
pub record Opens {S : Type 0} (old new : Table S) (of : Who) : Type 0 where
  pub key : ℕ
  pub slot : Slot S
  pub free : Finds old.slots (number_of of) None
  pub vacant : slot_at old.slots key ≡ None
  pub here : slot_at new.slots key ≡ Some slot
  pub is_of : slot.of ≡ of
  pub ready : slot.ready ≡ ready_for_none
  pub others : OthersStay old.slots new.slots key
  pub readable : new.readable ≡ old.readable
  pub last : new.last ≡ old.last

-- A connection that came stands under its number; where none did nothing changes.
abbrev pub Joins : {S : Type 0} → Accepted → (old new : Table S) → ℕ → Type 0
Joins (From peer) old new number = Opens old new (Tcp number)
Joins NoneToAccept old new number = new ≡ old
Joins AcceptFailed old new number = new ≡ old

abbrev pub fed_at : {S : Type 0} → Option (Slot S) → Option (Slot S)
fed_at None = None
fed_at (Some slot) = Some (fed slot)
