-- How networks and the place of the link are written on a command line, and what is held of a text.
use Rattle.std.specs.Prelude.{◌≡◌, ℕ, ◌^◌, ◌<◌, ◌≤◌, nat_le, List, [], ◌∷◌, ◌++◌, length, codes, decimal, if◌then◌else◌}
use Rattle.world_face.specs.Journal.{IsEndpoint, Place, AtPath, AtEndpoint}
use Rattle.address_text.specs.Texts.{address_text, place_text}
use Rattle.slirp_settings.specs.Ranges.{mask_of}
use Rattle.slirp_settings.specs.declared.Denial.{Denial}

-- an address, a slash, and how many ones its mask has (RFC 4632, 3.1)
abbrev pub IsNetwork : (text : List ℕ) (network mask : ℕ) → Type 0
IsNetwork text network mask =
    (ones : ℕ) × (text ≡ address_text network ++ codes "/" ++ decimal ones) × (network < 2 ^ 32) × (ones ≤ 32) × (mask ≡ mask_of ones)

-- a network that is denied: an address, a slash, and how many bits its prefix has
abbrev pub IsDenial : (text : List ℕ) (denial : Denial) → Type 0
IsDenial text denial =
    (text ≡ address_text denial.0.net.0 ++ codes "/" ++ decimal denial.0.length) × (denial.0.net.0 < 2 ^ 32) × (denial.0.length ≤ 32)

-- each text is one, in their order
abbrev pub AreDenials : (texts : List (List ℕ)) (denials : List Denial) → Type 0
AreDenials [] [] = Unit {0}
AreDenials [] (denial ∷ denials) = ⊥
AreDenials (text ∷ texts) [] = ⊥
AreDenials (text ∷ texts) (denial ∷ denials) = IsDenial text denial × AreDenials texts denials

-- a path has 1 to 107 octets, as many as the system's name of a socket holds
abbrev pub IsLinkPlace : Place → Type 0
IsLinkPlace (AtPath path) = (0 < length path) × (length path ≤ 107)
IsLinkPlace (AtEndpoint at) = IsEndpoint at

abbrev pub IsLink : (text : List ℕ) (at : Place) → Type 0
IsLink text at = (text ≡ place_text at) × IsLinkPlace at

-- the name of a file has 1 to 1,280 octets
abbrev pub IsFile : (word : List ℕ) → Type 0
IsFile word = (0 < length word) × (length word ≤ 1280)

-- a text as the settings hold it. One of more octets than there is room for isn't held: in its place stands an octet that no text has, for which its field is refused
abbrev pub held : (room : ℕ) → List ℕ → List ℕ
held room text = if nat_le (length text) room then text else 0 ∷ []

-- a text of the settings has 127 octets at most; ours
abbrev pub held_text : List ℕ → List ℕ
held_text text = held 127 text

-- and the name of a folder 1,024
abbrev pub held_folder : List ℕ → List ℕ
held_folder text = held 1024 text
