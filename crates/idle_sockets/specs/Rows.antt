-- How the sockets are kept: rows by rising number, their numbers in the order of use, and what each is found by.
use Rattle.std.specs.Prelude.{◌≡◌, ℕ, ◌+◌, ◌<◌, ◌≤◌, ◌*◌, List, [], ◌∷◌, map, if◌then◌else◌}
use Rattle.net_octets.specs.declared.Endpoint.{Endpoint}
use Rattle.idle_sockets.specs.Numbers.{Rise, times}
use Rattle.idle_sockets.specs.Sockets.{is_numbered, numbers}
use Rattle.idle_sockets.specs.declared.IdleSocket.{IdleSocket}

-- the row with a number; where there is none, one of no guest
abbrev pub row : ℕ → List IdleSocket → IdleSocket
row n [] = record { number = n; guest = record { addr = record { 0 = 0 }; port = 0 }; ident = 0; mac = record { 0 = [] }; used = 0 }
row n (s ∷ rows) = if is_numbered n s then s else row n rows

-- the rows in the order in which their numbers stand
abbrev pub in_order : List IdleSocket → List ℕ → List IdleSocket
in_order rows order = map (λ n. row n rows) order

-- none was used before this moment
abbrev pub AreSince : ℕ → List IdleSocket → Type 0
AreSince since [] = Unit {0}
AreSince since (s ∷ rows) = (since ≤ s.used) × AreSince since rows

-- the rows have these numbers, which rise, and each stands once in the order of use
pub record AreRows (rows : List IdleSocket) (rising order : List ℕ) (since : ℕ) : Type 0 where
  pub numbers_are : rising ≡ numbers rows
  pub rise : Rise rising
  pub same : (n : ℕ) → times n order ≡ times n rising
  pub since_then : AreSince since rows

-- a port and an identifier as one number, and those of the sockets with these numbers
abbrev pub key : Endpoint → ℕ → ℕ
key guest ident = (guest.addr.0 * 65536 + guest.port) * 65536 + ident

abbrev pub key_of : IdleSocket → ℕ
key_of s = key s.guest s.ident

abbrev pub keys_of : List IdleSocket → List ℕ → List ℕ
keys_of rows owners = map (λ n. key_of (row n rows)) owners

-- so no two ports and identifiers are the same number
abbrev pub IsSmall : IdleSocket → Type 0
IsSmall s = (s.guest.port < 65536) × (s.ident < 65536)

abbrev pub AreSmall : List IdleSocket → Type 0
AreSmall [] = Unit {0}
AreSmall (s ∷ rows) = IsSmall s × AreSmall rows

-- the keys rise, and beside each stands the number of its socket
pub record AreKeys (rows : List IdleSocket) (keys owners : List ℕ) : Type 0 where
  pub keys_are : keys ≡ keys_of rows owners
  pub rise : Rise keys
  pub same : (n : ℕ) → times n owners ≡ times n (numbers rows)
  pub small : AreSmall rows
