-- The calls on the outer World by which a file is read.
use Rattle.std.specs.Prelude.{◌≡◌, ℕ, ◌-◌, ◌<◌, ◌≤◌, min, List, [], ◌∷◌, ◌++◌, length, take, nat_lt, ◌==◌, ◌||◌, not, Bool, true, false, Option, None, Some, IsSomeAnd}
use Rattle.world_face.specs.Journal.{Entry, Follows, FileLen, FileRead, Call, CallFileLen, CallFileRead}
use Rattle.world_face.specs.declared.Io.{Io}
use Rattle.world_face.specs.declared.Io.TheVariants.{Done}
use Rattle.world_face.specs.declared.FileSize.{FileSize}
use Rattle.world_face.specs.declared.FileSize.TheVariants.{Length, Missing, Failed}

-- the length that was answered
abbrev pub length_of : FileSize → Option ℕ
length_of (Length n) = Some n
length_of Missing = None
length_of Failed = None

abbrev pub file_length : List Entry → Option ℕ
file_length [] = None
file_length (FileLen name answer ∷ past) = length_of answer
file_length (_ ∷ past) = file_length past

-- the octets that were read, in the order of the reads
abbrev pub octets_read : List Entry → List ℕ
octets_read [] = []
octets_read (FileRead name place asked answer octets ∷ past) = octets_read past ++ octets
octets_read (_ ∷ past) = octets_read past

-- First the length is asked. Then each read is at the place where the one before ended, and asks for the smaller of what is left and 16,384 octets. No other call comes.
abbrev pub MayFetch : List ℕ → List Entry → Call → Type 0
MayFetch name past (CallFileLen asked) = (asked ≡ name) × (past ≡ [])
MayFetch name past (CallFileRead asked place count) = (asked ≡ name) × (place ≡ length (octets_read past))
    × IsSomeAnd (file_length past) (λ whole. (place < whole) × (whole ≤ 67108864) × (count ≡ min (whole - place) 16384))
MayFetch name past _ = ⊥

-- as many octets were read as the length said
abbrev pub IsWhole : List Entry → Type 0
IsWhole past = file_length past ≡ Some (length (octets_read past))

-- the file isn't there, is longer than 64 MiB, ended before its length, or a call on it failed
abbrev pub is_unmeasured : FileSize → Bool
is_unmeasured (Length n) = nat_lt 67108864 n
is_unmeasured Missing = true
is_unmeasured Failed = true

abbrev pub is_unread : Io → Bool
is_unread (Done n) = false
is_unread _ = true

abbrev pub is_unreadable : List Entry → Bool
is_unreadable (FileLen name answer ∷ past) = is_unmeasured answer
is_unreadable (FileRead name place asked answer octets ∷ past) = is_unread answer
is_unreadable _ = false

abbrev pub IsUnreadable : List Entry → Type 0
IsUnreadable past = is_unreadable past ≡ true

-- the octets up to a place were read, and no call on the file failed
abbrev pub Fetched : (name : List ℕ) (whole have : ℕ) (octets : List ℕ) → List Entry → Type 0
Fetched name whole have octets past = Follows (MayFetch name) past × (file_length past ≡ Some whole) × (octets_read past ≡ take have octets)
    × (is_unreadable past ≡ false)

-- FILE was read to its end: not where the words have no reading, their settings aren't sound, FILE can't be read, and where there was no memory
abbrev pub is_read : ℕ → Bool
is_read status = not ((status == 1) || (status == 2) || (status == 3) || (status == 13))
