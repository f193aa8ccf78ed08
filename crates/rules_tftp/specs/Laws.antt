-- The words of the laws.
use Rattle.std.specs.Prelude.{◌≡◌, ◌≢◌, ℕ, ◌+◌, ◌-◌, ◌*◌, ◌%◌, ◌^◌, ◌≤◌, ◌⊎◌, true, false, List, [], ◌∷◌, ◌++◌, length, find, codes, Option, Some}
use Rattle.net_octets.specs.declared.Endpoint.{Endpoint}
use Rattle.world_face.specs.Journal.{Entry, FileRead}
use Rattle.world_face.specs.declared.Io.{Io}
use Rattle.world_face.specs.declared.Io.TheVariants.{Done, End, NotYet, Failed}
use Rattle.rules_tftp.specs.Packets.{Asks, Acknowledges, block_octets, file_in, is_name, packet_in}
use Rattle.rules_tftp.specs.Transfers.{Said, Transfer, goes_again, is_for, octets_of, place_of, refuses, sent_again}

-- a part of a name that leads neither back to its folder nor above it
abbrev pub IsBelow : List ℕ → Type 0
IsBelow part = (part ≢ []) × (part ≢ codes ".") × (part ≢ codes "..")

-- a file of the folder, by a name that is taken
pub record IsInFolder (folder : Option (List ℕ)) (file : List ℕ) : Type 0 where
  pub at : List ℕ
  pub name : List ℕ
  pub folder_is : folder ≡ Some at
  pub taken : is_name name ≡ true
  pub file_is : file ≡ file_in at name

-- ---- blocks

-- the packet acknowledged the block that went out last to this port, and this is the next block of that file
pub record IsNext (old : List Transfer) (guest : Endpoint) (octets : List ℕ) (t : Transfer) : Type 0 where
  pub before : Transfer
  pub found : find (is_for guest) old ≡ Some before
  pub acknowledged : packet_in octets ≡ Acknowledges (before.block % 2 ^ 16)
  pub more : before.is_last ≡ false
  pub file_is : t.file ≡ before.file
  pub block_is : t.block ≡ before.block + 1

-- the packet asked for a file, of which the options or the first block go out
pub record IsBegun (octets : List ℕ) (t : Transfer) : Type 0 where
  pub texts : List ℕ
  pub asked : packet_in octets ≡ Asks texts
  pub block_is : t.block ≤ 1

-- the octets that calls brought
abbrev pub octets_done : Io → List ℕ → List ℕ
octets_done (Done n) octets = octets
octets_done End octets = []
octets_done NotYet octets = []
octets_done Failed octets = []

abbrev pub octets_read : List Entry → List ℕ
octets_read [] = []
octets_read (FileRead name place asked answer octets ∷ made) = octets_read made ++ octets_done answer octets
octets_read (_ ∷ made) = octets_read made

-- each call read the file of a block, from the place of the first octet of the block that wasn't there, as many as were missing
abbrev pub AreReadsOf : Transfer → List Entry → Type 0
AreReadsOf t [] = Unit {0}
AreReadsOf t (FileRead name place asked answer octets ∷ made) =
    (name ≡ t.file) × (place ≡ place_of t + length (octets_read made)) × (asked ≡ octets_of t - length (octets_read made)) × AreReadsOf t made
AreReadsOf t (_ ∷ made) = ⊥

-- a block that was told has the octets that were read; else its file couldn't be read
pub record IsRead (t : Transfer) (made : List Entry) (told : Option Said) : Type 0 where
  pub reads : AreReadsOf t made
  pub told_is : (told ≡ Some (record { mac = t.mac; guest = t.guest; octets = block_octets (t.block % 2 ^ 16) (octets_read made) })) ⊎ (told ≡ (refuses 0 t.mac t.guest []).told)

-- ---- what goes again

-- a packet went again at these moments, the latest first
abbrev pub after_again : Transfer → List ℕ → Transfer
after_again t [] = t
after_again t (now ∷ moments) = sent_again now (after_again t moments)

abbrev pub WentAgain : Transfer → List ℕ → Type 0
WentAgain t [] = Unit {0}
WentAgain t (now ∷ moments) = (goes_again now (after_again t moments) ≡ true) × WentAgain t moments

-- the k-th time no earlier than k timeouts after it was made
abbrev pub AreApartBy : ℕ → ℕ → List ℕ → Type 0
AreApartBy timeout made [] = Unit {0}
AreApartBy timeout made (now ∷ moments) = (made + (length moments + 1) * timeout ≤ now) × AreApartBy timeout made moments
