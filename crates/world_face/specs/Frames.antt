-- Frames on the link: four octets of length, the most significant first, and so many octets.
use Rattle.std.specs.Prelude.{◌≡◌, ℕ, ◌+◌, ◌-◌, ◌==◌, ◌≤◌, nat_lt, Bool, false, List, [], ◌∷◌, ◌++◌, length, take, drop, Option, Some, None, if◌then◌else◌}
use Rattle.std.specs.Int.{w32, from_be_bytes, to_be_bytes}
use Rattle.world_face.specs.Limits.{most_from_link, most_to_link}
use Rattle.world_face.specs.Journal.{Entry, Call, Wait, LinkRead, LinkWrite, CallLinkRead, CallLinkWrite, count_of}
use Rattle.poll_list.specs.Listing.{writes}
use Rattle.world_face.specs.declared.Io.{Io}
use Rattle.world_face.specs.declared.Io.TheVariants.{Done, End, NotYet, Failed}
use Rattle.world_face.specs.declared.Waited.{Waited}
use Rattle.world_face.specs.declared.Waited.TheVariants.{Ready, Stop, Failed as WaitFails}
use Rattle.poll_list.specs.declared.Who.TheVariants.{Link}

-- the length that the first four octets encode
unfoldable pub encoded_length : List ℕ → ℕ
encoded_length octets = from_be_bytes w32 (take 4 octets)

-- how many octets are missing of the length, or of the frame with its length
unfoldable pub missing : List ℕ → ℕ
missing octets = if nat_lt (length octets) 4 then 4 - length octets else 4 + encoded_length octets - length octets

-- the length is there, and no frame may be so long
unfoldable pub is_too_long : List ℕ → Bool
is_too_long octets = if nat_lt (length octets) 4 then false else nat_lt most_from_link (encoded_length octets)

-- a length and its frame are whole
abbrev pub is_whole : List ℕ → Bool
is_whole octets = missing octets == 0

-- a frame after its length
unfoldable pub encoding : List ℕ → List ℕ
encoding frame = to_be_bytes w32 (length frame) ++ frame

-- the octets read of the length or frame that isn't whole
abbrev pub partial_after : Entry → List ℕ → List ℕ
partial_after (LinkRead asked answer octets) so_far = if is_whole (so_far ++ octets) then [] else so_far ++ octets
partial_after _ so_far = so_far

-- those read so far
abbrev pub partial : List Entry → List ℕ
partial [] = []
partial (e ∷ past) = partial_after e (partial past)

-- the frame that is whole by an entry
abbrev pub completes : Entry → List ℕ → Option (List ℕ)
completes (LinkRead asked answer octets) so_far = if is_whole (so_far ++ octets) then Some (drop 4 (so_far ++ octets)) else None
completes _ so_far = None

-- the frame that arrives by an entry after this past: the read that makes it whole
abbrev pub arrives : Entry → List Entry → Option (List ℕ)
arrives e past = completes e (partial past)

-- and by the newest entry
abbrev pub arrived : List Entry → Option (List ℕ)
arrived [] = None
arrived (e ∷ past) = arrives e past

-- Why a run ends: the link ended between two frames, or inside a length or frame of which so many octets had come;
-- a length is too great; a call on the link failed; a wait was told to stop, or failed.
pub data Ending : Type 0 where
  LinkEnded : Ending
  LinkCut : (octets : ℕ) → Ending
  LongFrame : (length : ℕ) → Ending
  LinkFailed : Ending
  Stopped : Ending
  WaitFailed : Ending

-- the ending by a read, with the octets of a length or frame so far
abbrev pub read_ending : Io → List ℕ → Option Ending
read_ending (Done n) octets = if is_too_long octets then Some (LongFrame (encoded_length octets)) else None
read_ending End [] = Some LinkEnded
read_ending End (x ∷ octets) = Some (LinkCut (length (x ∷ octets)))
read_ending NotYet octets = None
read_ending Failed octets = Some LinkFailed

abbrev pub write_ending : Io → Option Ending
write_ending Failed = Some LinkFailed
write_ending _ = None

abbrev pub wait_ending : Waited → Option Ending
wait_ending Ready = None
wait_ending Stop = Some Stopped
wait_ending WaitFails = Some WaitFailed

-- an entry by which the link, or a wait, ends a run
abbrev pub ending : Entry → List ℕ → Option Ending
ending (Wait wants timeout answer ready) so_far = wait_ending answer
ending (LinkRead asked answer octets) so_far = read_ending answer (so_far ++ octets)
ending (LinkWrite octets answer) so_far = write_ending answer
ending _ so_far = None

-- what is left of the frame that went out last
abbrev pub rest_after : Io → List ℕ → List ℕ → List ℕ
rest_after (Done n) octets rest = drop n octets
rest_after _ octets rest = rest

abbrev pub tail_after : Entry → List ℕ → List ℕ
tail_after (LinkWrite octets answer) rest = rest_after answer octets rest
tail_after _ rest = rest

-- what is left of the frame that went out last, which the next write offers exactly
abbrev pub tail : List Entry → List ℕ
tail [] = []
tail (e ∷ past) = tail_after e (tail past)

-- the last write took less than it was offered, and no wait since has reported the link ready for writing
abbrev pub blocked_after : Entry → Bool → Bool
blocked_after (Wait wants timeout answer ready) blocked = if writes Link ready then false else blocked
blocked_after (LinkWrite octets answer) blocked = nat_lt (count_of answer) (length octets)
blocked_after _ blocked = blocked

abbrev pub is_blocked : List Entry → Bool
is_blocked [] = false
is_blocked (e ∷ past) = blocked_after e (is_blocked past)

-- the frame that goes out: by a write that takes something where nothing is left of the frame before
abbrev pub begun_by : Io → List ℕ → Option (List ℕ)
begun_by (Done n) octets = Some (drop 4 octets)
begun_by _ octets = None

abbrev pub opens : Entry → List ℕ → Option (List ℕ)
opens (LinkWrite octets answer) [] = begun_by answer octets
opens _ _ = None

abbrev pub goes_out : Entry → List Entry → Option (List ℕ)
goes_out e past = opens e (tail past)

-- what may be offered where this is left of the frame before
abbrev pub MayOffer : List ℕ → List ℕ → Type 0
MayOffer [] octets = (octets ≡ encoding (drop 4 octets)) × (length octets ≤ most_to_link)
MayOffer (x ∷ rest) octets = octets ≡ x ∷ rest

-- A read asks for what is missing. A write offers a frame after its length, or what is left of one, where the link isn't blocked.
abbrev pub MayFrame : List Entry → Call → Type 0
MayFrame past (CallLinkRead asked) = asked ≡ missing (partial past)
MayFrame past (CallLinkWrite octets) = MayOffer (tail past) octets × (is_blocked past ≡ false)
MayFrame past _ = Unit {0}
