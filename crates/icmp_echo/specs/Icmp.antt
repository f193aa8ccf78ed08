-- Messages of ICMP (RFC 792): an echo, what can't be reached, and all others.
use Rattle.std.specs.Prelude.{◌≡◌, ℕ, ◌^◌, ◌<◌, ◌≤◌, ◌==◌, ◌&&◌, ◌||◌, not, true, nat_le, nat_lt, Bool, List, ◌∷◌, ◌++◌, length, drop, Option, Some, None, if◌then◌else◌}
use Rattle.net_octets.specs.Octets.{one_at, two_at, two, four, word_sum, checksum, sum_ok}
use Rattle.net_octets.specs.declared.Fault.{Fault}
use Rattle.net_octets.specs.declared.FaultKind.TheVariants.{Short, BadSum}
use Rattle.icmp_echo.specs.declared.IcmpView.{IcmpView}
use Rattle.icmp_echo.specs.declared.Parts.{Parts}
use Rattle.icmp_echo.specs.declared.IcmpView.TheVariants.{Echo, Unreachable, Other}

-- a request or a reply with its two numbers and its payload; a reason, and what it quotes of a datagram; a kind and a code
pub data Icmp : Type 0 where
  echo : (is_reply : Bool) (ident number : ℕ) (body : List ℕ) → Icmp
  unreachable : (code : ℕ) (quoted : List ℕ) → Icmp
  other : (kind code : ℕ) → Icmp

-- a reply is of kind 0, a request of kind 8 (RFC 792, Echo or Echo Reply Message)
abbrev pub echo_kind : Bool → ℕ
echo_kind is_reply = if is_reply then 0 else 8

abbrev pub is_echo : (kind code : ℕ) → Bool
is_echo kind code = ((kind == 0) || (kind == 8)) && (code == 0)

-- of no kind and code of an echo, and not of kind 3 (RFC 792, Destination Unreachable Message)
abbrev pub is_other : (kind code : ℕ) → Bool
is_other kind code = not (kind == 3) && not (is_echo kind code)

abbrev pub echo_with : (sum : ℕ) (is_reply : Bool) (ident number : ℕ) → List ℕ → List ℕ
echo_with sum is_reply ident number body = echo_kind is_reply ∷ 0 ∷ two sum ++ two ident ++ two number ++ body

abbrev pub unreachable_with : (sum code : ℕ) → List ℕ → List ℕ
unreachable_with sum code quoted = 3 ∷ code ∷ two sum ++ four 0 ++ quoted

abbrev pub other_with : (sum kind code : ℕ) → List ℕ
other_with sum kind code = kind ∷ code ∷ two sum ++ four 0

-- what is written, with this sum
abbrev pub icmp_with : ℕ → Icmp → List ℕ
icmp_with sum (echo is_reply ident number body) = echo_with sum is_reply ident number body
icmp_with sum (unreachable code quoted) = unreachable_with sum code quoted
icmp_with sum (other kind code) = other_with sum kind code

-- what is written, with the sum that holds
abbrev pub echo_octets : Bool → (ident number : ℕ) → List ℕ → List ℕ
echo_octets is_reply ident number body = echo_with (checksum (word_sum (echo_with 0 is_reply ident number body))) is_reply ident number body

abbrev pub unreachable_octets : ℕ → List ℕ → List ℕ
unreachable_octets code quoted = unreachable_with (checksum (word_sum (unreachable_with 0 code quoted))) code quoted

abbrev pub icmp_octets : Icmp → List ℕ
icmp_octets icmp = icmp_with (checksum (word_sum (icmp_with 0 icmp))) icmp

-- the grammar: a sum that holds, and by the kind the fields in their order; an unreachable has four octets that say nothing
pub record IsEcho (octets : List ℕ) (is_reply : Bool) (ident number : ℕ) (body : List ℕ) : Type 0 where
  pub ident_fits : ident < 2 ^ 16
  pub number_fits : number < 2 ^ 16
  pub sum : ℕ
  pub sum_fits : sum < 2 ^ 16
  pub is : octets ≡ echo_with sum is_reply ident number body
  pub holds : sum_ok (word_sum octets) ≡ true

pub record IsUnreachable (octets : List ℕ) (code : ℕ) (quoted : List ℕ) : Type 0 where
  pub sum : ℕ
  pub sum_fits : sum < 2 ^ 16
  pub unused : List ℕ
  pub unused_size : length unused ≡ 4
  pub is : octets ≡ 3 ∷ code ∷ two sum ++ unused ++ quoted
  pub holds : sum_ok (word_sum octets) ≡ true

pub record IsOther (octets : List ℕ) (kind code : ℕ) : Type 0 where
  pub kind_is : is_other kind code ≡ true
  pub sum : ℕ
  pub sum_fits : sum < 2 ^ 16
  pub rest : List ℕ
  pub rest_size : 4 ≤ length rest
  pub is : octets ≡ kind ∷ code ∷ two sum ++ rest
  pub holds : sum_ok (word_sum octets) ≡ true

abbrev pub IsIcmp : List ℕ → Icmp → Type 0
IsIcmp octets (echo is_reply ident number body) = IsEcho octets is_reply ident number body
IsIcmp octets (unreachable code quoted) = IsUnreachable octets code quoted
IsIcmp octets (other kind code) = IsOther octets kind code

-- what octets of at least 8, whose sum holds, say
abbrev pub icmp_at : List ℕ → Icmp
icmp_at octets =
    if one_at octets 0 == 3 then unreachable (one_at octets 1) (drop 8 octets)
    else (if is_echo (one_at octets 0) (one_at octets 1) then echo (one_at octets 0 == 0) (two_at octets 4) (two_at octets 6) (drop 8 octets)
    else other (one_at octets 0) (one_at octets 1))

-- the fields that octets encode
abbrev pub read_icmp : List ℕ → Option Icmp
read_icmp octets = if nat_le 8 (length octets) && sum_ok (word_sum octets) then Some (icmp_at octets) else None

-- the first fault of octets that encode none
abbrev pub icmp_fault : List ℕ → Option Fault
icmp_fault octets =
    if nat_lt (length octets) 8 then Some (record { kind = Short; at = length octets })
    else (if not (sum_ok (word_sum octets)) then Some (record { kind = BadSum; at = 2 })
    else None)

-- the fields as the grammar names them
abbrev pub icmp_of : IcmpView → Icmp
icmp_of (Echo is_reply ident number body) = echo is_reply ident number body.now
icmp_of (Unreachable code quoted) = unreachable code quoted.now
icmp_of (Other kind code) = other kind code

-- what can be written: another message isn't of the kind and code of an echo or an unreachable
abbrev pub CanWrite : Icmp → Type 0
CanWrite (echo is_reply ident number body) = Unit {0}
CanWrite (unreachable code quoted) = Unit {0}
CanWrite (other kind code) = is_other kind code ≡ true

-- the two numbers of an echo have two octets
abbrev pub Fits : Icmp → Type 0
Fits (echo is_reply ident number body) = (ident < 2 ^ 16) × (number < 2 ^ 16)
Fits (unreachable code quoted) = Unit {0}
Fits (other kind code) = Unit {0}

-- octets as we write them: the sum that a checksum gives, and zeros where nothing is said
abbrev pub IsPlain : (octets : List ℕ) (icmp : Icmp) → IsIcmp octets icmp → Type 0
IsPlain octets (echo is_reply ident number body) g = g.sum ≡ checksum (word_sum (echo_with 0 is_reply ident number body))
IsPlain octets (unreachable code quoted) g = (g.sum ≡ checksum (word_sum (unreachable_with 0 code quoted))) × (g.unused ≡ four 0)
IsPlain octets (other kind code) g = (g.sum ≡ checksum (word_sum (other_with 0 kind code))) × (g.rest ≡ four 0)

-- the eight octets before what a message carries
abbrev pub head_with : ℕ → Parts → List ℕ
head_with sum p = p.kind ∷ p.code ∷ two sum ++ two p.first ++ two p.second
