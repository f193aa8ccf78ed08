-- How numbers, addresses, endpoints and the place of the link are written, on a command line and in a trace of calls.
use Rattle.std.specs.Prelude.{◌≡◌, ℕ, ◌/◌, ◌%◌, ◌^◌, ◌==◌, ◌<◌, not, Bool, List, ◌++◌, codes, decimal, Option}
use Rattle.std.specs.Option.{SomeIff}
use Rattle.std.specs.Str.Parse.{IsNumeral, digits_value, without_leading_plus}
use Rattle.net_octets.specs.declared.Endpoint.{Endpoint}
use Rattle.world_face.specs.Journal.{IsEndpoint, Place, AtPath, AtEndpoint}

-- a number of so many bits, in decimal digits with no needless zero in front
abbrev pub IsNumber : (bits : ℕ) (text : List ℕ) (n : ℕ) → Type 0
IsNumber bits text n = (text ≡ decimal n) × (n < 2 ^ bits)

-- four numbers up to 255, the most significant first, joined by dots (RFC 1123, 2.1)
unfoldable pub address_text : ℕ → List ℕ
address_text a =
    decimal (a / 2 ^ 24) ++ codes "." ++ decimal (a / 2 ^ 16 % 2 ^ 8) ++ codes "." ++ decimal (a / 2 ^ 8 % 2 ^ 8) ++ codes "." ++ decimal (a % 2 ^ 8)

abbrev pub IsAddress : (text : List ℕ) (a : ℕ) → Type 0
IsAddress text a = (text ≡ address_text a) × (a < 2 ^ 32)

-- an address, a colon and a port
unfoldable pub endpoint_text : Endpoint → List ℕ
endpoint_text e = address_text e.addr.0 ++ codes ":" ++ decimal e.port

abbrev pub IsEndpointText : (text : List ℕ) (at : Endpoint) → Type 0
IsEndpointText text at = (text ≡ endpoint_text at) × IsEndpoint at

-- a path of the host, or an endpoint
abbrev pub place_text : Place → List ℕ
place_text (AtPath path) = codes "unix:" ++ path
place_text (AtEndpoint at) = codes "tcp:" ++ endpoint_text at

-- any octet but this one
abbrev pub is_other : ℕ → ℕ → Bool
is_other octet c = not (c == octet)

-- decimal digits of a number of 64 bits, where a plus may stand first
abbrev pub IsReadAs : List ℕ → Option ℕ → Type 0
IsReadAs text read = SomeIff read (IsNumeral 10 (without_leading_plus text) × (digits_value 10 (without_leading_plus text) < 2 ^ 64)) (digits_value 10 (without_leading_plus text))
