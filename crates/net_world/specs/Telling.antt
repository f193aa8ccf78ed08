-- Which of the wants are told as ready.
use Rattle.std.specs.Prelude.{◌≡◌, ◌⊎◌, ℕ, ◌+◌, Bool, true, ◌&&◌, not, List, [], ◌∷◌, Option, Some, ◌<◌, length, drop, slice_index_or}
use Rattle.std.specs.List.{Contains}
use Rattle.poll_list.specs.declared.Want.{Want}
use Rattle.poll_list.specs.declared.Who.{Who}
use Rattle.poll_list.specs.declared.Who.TheVariants.{Link}
use Rattle.guest_link.specs.Linking.{Linked, is_told_readable, is_told_writable}
use Rattle.poll_list.specs.Listing.{same_who}
use Rattle.net_world.specs.declared.slot.Slot.{Slot}
use Rattle.net_world.specs.declared.sockets.Known.{Known}
use Rattle.net_world.specs.declared.ready_list.Listed.{Listed}
use Rattle.net_world.specs.Tables.{rank_of, by_rank, Rise, slot_at, known_of, nothing_known, one}

-- The socket of this is one of those, and this holds of it.
abbrev pub IsSocket : {S : Type 0} → List (Option (Slot S)) → Who → (Slot S → Type 0) → Type 0
IsSocket {S} slots of Holds = (key : ℕ) × (slot : Slot S) × (slot_at slots key ≡ Some slot) × (slot.of ≡ of) × Holds slot

-- it is ready for reading, or for writing
abbrev pub IsReadable : {S : Type 0} → List (Option (Slot S)) → Who → Type 0
IsReadable slots of = IsSocket slots of (λ slot. slot.ready.read ≡ true)

abbrev pub IsWritable : {S : Type 0} → List (Option (Slot S)) → Who → Type 0
IsWritable slots of = IsSocket slots of (λ slot. slot.ready.write ≡ true)

-- what is known of the socket of this, or nothing where there is none
abbrev pub IsKnown : {S : Type 0} → List (Option (Slot S)) → Who → Known → Type 0
IsKnown slots of known = (known ≡ nothing_known) ⊎ IsSocket slots of (λ slot. known ≡ known_of slot)

-- It is told for reading, or for writing.
abbrev pub TellsRead : List Want → Who → Type 0
TellsRead told of = (part : Want) × Contains told part × (part.of ≡ of) × (part.read ≡ true)

abbrev pub TellsWrite : List Want → Who → Type 0
TellsWrite told of = (part : Want) × Contains told part × (part.of ≡ of) × (part.write ≡ true)

-- it is wanted for reading
abbrev pub WantsRead : List Want → Who → Type 0
WantsRead wants of = (want : Want) × Contains wants want × (want.of ≡ of) × (want.read ≡ true)

-- a socket that is ready for reading is told
abbrev pub TellsOneRead : {S : Type 0} → List (Option (Slot S)) → List Want → Type 0
TellsOneRead slots told = (of : Who) × IsReadable slots of × TellsRead told of

-- An end of those that are listed: all of them, or from one on that is wanted for reading.
abbrev pub IsEndWanted : List Want → (listed end : List Listed) → Type 0
IsEndWanted wants listed end = (passed : ℕ) × (end ≡ drop passed listed)
    × ((passed ≡ 0) ⊎ ((0 < length end) × ((other : Listed) → WantsRead wants (slice_index_or end 0 other).of)))

-- What is told is ready: the link, by what is known of it, or a socket.
abbrev pub IsReady : {S : Type 0} → Known → List (Option (Slot S)) → Want → Type 0
IsReady link slots part = ((part.of ≡ Link) × (part.read ≡ true → link.read ≡ true) × (part.write ≡ true → link.write ≡ true))
    ⊎ ((part.read ≡ true → IsReadable slots part.of) × (part.write ≡ true → IsWritable slots part.of))

abbrev pub AreReady : {S : Type 0} → Known → List (Option (Slot S)) → List Want → Type 0
AreReady link slots told = (part : Want) → Contains told part → IsReady link slots part

-- The link alone is told, in the directions that are known of it, or nothing.
abbrev pub IsLinkAtMost : Known → List Want → Type 0
IsLinkAtMost known told = (told ≡ []) ⊎ ((part : Want) × (told ≡ part ∷ []) × (part.of ≡ Link) × (part.read ≡ true → known.read ≡ true) × (part.write ≡ true → known.write ≡ true))

-- the link is ready for reading, and for writing or not
abbrev pub link_told : Bool → Known
link_told write = record { read = true; write = write }

-- how many are told for reading, but for the link
abbrev pub read_sockets : List Want → ℕ
read_sockets [] = 0
read_sockets (part ∷ parts) = one (part.read && not (same_who Link part.of)) + read_sockets parts

-- the wants stand in their order: the link, listeners, sockets for datagrams, connections, each by rising number
abbrev pub AreInOrder : List Want → Type 0
AreInOrder wants = Rise by_rank (λ want. rank_of want.of) wants

-- in which directions the link is told
abbrev pub link_known : {S : Type 0} → Linked S → Known
link_known link = record { read = is_told_readable link; write = is_told_writable link }
